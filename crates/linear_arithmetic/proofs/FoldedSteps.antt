-- The fold over the literals. What a literal does to the sum does not hang on the numbers that were inferred before
-- (`later`). So the fold goes on from each place that it reached: `fold_end` tells where it ends, from which both
-- `fold_literals` and the numbers that were inferred follow, and `some-goes` takes it along what `fold_some` did.
--     later, process_later, trace-given       one literal
--     some_first, some-inferred, some-again       the literal at k, as `fold_literals` comes to it
--     fold_end, end_by, end_later, fold-ended       where the fold ends
--     Goes, some-goes       the literals that `fold_some` did
use mathlib.Core.Path.{◌≡◌, refl, sym, ap, ◌∙◌}
use mathlib.Core.List.{List, [], ◌∷◌, ◌++◌, append_assoc}
use Rattle.std.specs.Prelude.{Option, Some, None}
use Prim.Native.Nat.{ℕ, zero, suc, ◌+◌, ◌≤◌, ◌<◌}
use native.Mathlib.Omega.{arith}
use lib.ListN.{length, drop}
use lib.Seq.{drop-nil}
use Rattle.numbers.specs.Rational.{Rational}
use Rattle.terms.specs.Term.{Term}
use Rattle.rules.specs.Refusal.{Result, ◌>>=◌}
use Rattle.rules.specs.declared.refusal.Refusal.{Refusal}
use Rattle.std.specs.Prelude.{Ok, Err}
use Rattle.rules.specs.Limits.{Limits}
use Rattle.index_map.specs.IndexMap.{add}
use Rattle.linear_comb.specs.LinearComb.{LinearComb, mul}
use Rattle.index_map.specs.Memory.Entries.{terms, CoefficientIs}
use Rattle.process_disequality.specs.ProcessDisequality.{Progress, progress, inferred, argument_of, strengthened}
use Rattle.process_disequality.specs.ProcessDisequality.{scalar, process_disequality}
use Rattle.linear_arithmetic.specs.LinearArithmetic.{fold_literals}
use Rattle.disequality.specs.Disequality.{disequality_of}
use Rattle.rules.specs.Shapes.{Clause}
use Rattle.linear_arithmetic.specs.Memory.LinearSteps.{fold_some, at}
use Rattle.rules.proofs.Results.{next, ends, bind-same, bind_assoc}
use Rattle.rules.proofs.Yields.{Yields, gives, at_ok, and_then, past}

-- ---- along `>>=`

-- what is done behind each step is done behind both
bind-apart :
    {A B C : Type 0} (x : Result A) (f : A → Result C) (g : A → Result B) (h : B → Result C) →
    ((a : A) → f a ≡ (g a >>= h)) → (x >>= f) ≡ ((x >>= g) >>= h)
bind-apart x f g h e = bind-same x e ∙ sym (bind_assoc x g h)

bind_changed :
    {A B C : Type 0} {y : Result A} (x : Result A) (k : A → A) → y ≡ (x >>= λ a. Ok (k a)) →
    (f : A → Result C) (g : A → Result B) (h : B → Result C) → ((a : A) → f (k a) ≡ (g a >>= h)) →
    (y >>= f) ≡ ((x >>= g) >>= h)
unfolding ◌>>=◌
bind_changed x k y-is f g h e =
    ap (λ z. z >>= f) y-is ∙ bind_assoc x (λ a. Ok (k a)) f ∙ bind-apart x (λ a. f (k a)) g h e

pub by_outcome :
    {A P : Type 0} (x : Result A) → ((a : A) → x ≡ Ok a → P) → ((c : Refusal) → x ≡ Err c → P) → P
by_outcome (Ok a) f g = f a refl
by_outcome (Err c) f g = g c refl

-- ---- one literal

-- with t inferred before
abbrev pub later : List Rational → Progress → Progress
later t p = progress p.operator p.acc (t ++ p.trace) p.visits

module _ (l : Limits) (t : List Rational) (p : Progress) where
  abbrev behind : Rational × List Rational → Rational × List Rational
  behind x = (x.0, t ++ x.1)

  abbrev added : List Rational → Rational → Result (Rational × List Rational)
  added u a = Ok (a, u ++ a ∷ [])

  argument-later :
      (s : LinearComb) (arg : Option Rational) →
      argument_of l (later t p) s arg ≡ (argument_of l p s arg >>= λ x. Ok (behind x))
  unfolding argument_of ◌>>=◌
  argument-later s (Some a) = refl
  argument-later s None = go (inferred l p.acc.entries s.entries)
    where
      go : (x : Result Rational) → (x >>= added (t ++ p.trace)) ≡ ((x >>= added p.trace) >>= λ y. Ok (behind y))
      go (Ok a) = ap (λ u. Ok (a, u)) (append_assoc t p.trace (a ∷ []))
      go (Err r) = refl

  pub process_later :
      (phi : Term) (arg : Option Rational) →
      process_disequality l (later t p) phi arg ≡ (process_disequality l p phi arg >>= λ q. Ok (later t q))
  unfolding process_disequality
  process_later phi arg =
      bind-apart (disequality_of l phi p.visits) _ _ _ λ d.
      bind_changed (argument_of l p d.sum arg) behind (argument-later d.sum arg) _ _ _ λ x.
      bind-apart (strengthened l d.operator d.sum x.0) _ _ _ λ y.
      bind-apart (mul l y.1 (scalar y.0 x.0)) _ _ _ λ z.
      bind-apart (add terms l p.acc z) _ _ _ λ acc. sym (next _ refl)

-- what is inferred stands at the end
pub record OneMore (t u : List Rational) : Type 0 where
  pub number : Rational
  pub is : u ≡ t ++ number ∷ []

-- t before the literal, and u behind it
abbrev Adds : Option Rational → List Rational → List Rational → Type 0
Adds (Some a) t u = u ≡ t
Adds None t u = OneMore t u

module _ (l : Limits) (p : Progress) where
  argued :
      (s : LinearComb) (arg : Option Rational) → Yields (λ x. Adds arg p.trace x.1) (argument_of l p s arg)
  unfolding argument_of
  argued s (Some a) = gives refl
  argued s None = past _ λ a. gives record { number = a; is = refl }

  module _ (phi : Term) where
    traced : (arg : Option Rational) → Yields (λ r. Adds arg p.trace r.trace) (process_disequality l p phi arg)
    unfolding process_disequality
    traced arg = past _ λ d. and_then (argued d.sum arg) λ x adds. past _ λ y. past _ λ z. past _ λ acc. gives adds

    pub trace-given : (a : Rational) (r : Progress) → process_disequality l p phi (Some a) ≡ Ok r → r.trace ≡ p.trace
    trace-given a r h = at_ok (traced (Some a)) h

-- ---- the literal at k, with the argument that stands there: given, or to be inferred

at_some : (qs : List Rational) (k : ℕ) (q : Rational) → at qs k ≡ Some q → drop k qs ≡ q ∷ drop (suc k) qs
at_some [] k q h = cc
at_some (a ∷ qs) zero q h = let e : a ≡ q = cc in rw e
at_some (a ∷ qs) (suc k) q h = at_some qs k q h

at_none : (qs : List Rational) (k : ℕ) → at qs k ≡ None → drop k qs ≡ []
at_none [] k h = drop-nil k
at_none (a ∷ qs) zero h = cc
at_none (a ∷ qs) (suc k) h = at_none qs k h

-- nothing was inferred before
module _ (l : Limits) (p : Progress) (new : p.trace ≡ []) (phi : Term) (ts : Clause) (qs : List Rational) (k : ℕ) where
  abbrev further : Option Rational → Progress → Result (Progress × ℕ)
  further (Some a) q = fold_some l ts (drop (suc k) qs) q (suc k)
  further None q = Ok (q, suc k)

  pub some_first :
      (arg : Option Rational) → CoefficientIs arg (at qs k) →
      fold_some l (phi ∷ ts) (drop k qs) p k ≡ (process_disequality l p phi arg >>= further arg)
  unfolding fold_some
  some_first (Some a) is = ap (λ z. fold_some l (phi ∷ ts) z p k) (at_some qs k a is.0)
  some_first None is = ap (λ z. fold_some l (phi ∷ ts) z p k) (at_none qs k is)

  -- a number was inferred
  pub some-inferred :
      (arg : Option Rational) → CoefficientIs arg (at qs k) → (r : Progress) →
      process_disequality l p phi arg ≡ Ok r → (x : Rational) → r.trace ≡ x ∷ [] →
      fold_some l (phi ∷ ts) (drop k qs) p k ≡ Ok (r, suc k)
  some-inferred (Some a) is r h x one = let same : r.trace ≡ p.trace = trace-given l p phi a r h in cc
  some-inferred None is r h x one = some_first None is ∙ next _ h

  -- none was
  pub some-again :
      (arg : Option Rational) → CoefficientIs arg (at qs k) → (r : Progress) →
      process_disequality l p phi arg ≡ Ok r → r.trace ≡ [] →
      fold_some l (phi ∷ ts) (drop k qs) p k ≡ fold_some l ts (drop (suc k) qs) r (suc k)
  some-again (Some a) is r h nothing = some_first (Some a) is ∙ next _ h
  some-again None is r h nothing =
      let more = at_ok (traced l p phi None) h in
      let one : [] ≡ more.number ∷ [] = sym nothing ∙ more.is ∙ ap (λ z. z ++ more.number ∷ []) new in
      cc

-- ---- where the fold ends

-- the last progress that it reached, and the refusal that stopped it there
unfoldable pub fold_end : Limits → Clause → List Rational → Progress → Progress × Option Refusal
fold_end l [] args p = (p, None)
fold_end l (phi ∷ clause) args p = elim (process_disequality l p phi (at args 0)) [
  | Ok q ↦ fold_end l clause (drop 1 args) q
  | Err c ↦ (p, Some c)
]

abbrev pub result_of : Progress × Option Refusal → Result Progress
result_of e = elim e.1 [ Some c ↦ Err c | None ↦ Ok e.0 ]

abbrev pub end_later : List Rational → Progress × Option Refusal → Progress × Option Refusal
end_later t e = (later t e.0, e.1)

module _ (l : Limits) where
  -- by what the first literal does
  abbrev end_by : Clause → List Rational → Progress → Result Progress → Progress × Option Refusal
  end_by clause args p z = elim z [ Ok q ↦ fold_end l clause (drop 1 args) q | Err c ↦ (p, Some c) ]

  pub end_by_lem :
      (phi : Term) (clause : Clause) (args : List Rational) (p : Progress) {z : Result Progress} →
      process_disequality l p phi (at args 0) ≡ z → fold_end l (phi ∷ clause) args p ≡ end_by clause args p z
  unfolding fold_end
  end_by_lem phi clause args p e = ap (end_by clause args p) e

  pub end_later_lem :
      (t : List Rational) (clause : Clause) (args : List Rational) (p : Progress) →
      fold_end l clause args (later t p) ≡ end_later t (fold_end l clause args p)
  unfolding fold_end
  end_later_lem t [] args p = refl
  end_later_lem t (phi ∷ clause) args p =
      by_outcome (process_disequality l p phi (at args 0))
      (λ q e.
      end_by_lem phi clause args (later t p) (process_later l t p phi (at args 0) ∙ next _ e)
      ∙ end_later_lem t clause (drop 1 args) q
      ∙ ap (end_later t) (sym (end_by_lem phi clause args p e)))
      (λ c e.
      end_by_lem phi clause args (later t p) (process_later l t p phi (at args 0) ∙ ends _ e)
      ∙ ap (end_later t) (sym (end_by_lem phi clause args p e)))

  fold_first :
      (phi : Term) (clause : Clause) (args : List Rational) (p : Progress) →
      fold_literals l (phi ∷ clause) args p ≡
      (process_disequality l p phi (at args 0) >>= fold_literals l clause (drop 1 args))
  unfolding fold_literals
  fold_first phi clause [] p = refl
  fold_first phi clause (a ∷ args) p = refl

  pub fold-ended :
      (clause : Clause) (args : List Rational) (p : Progress) →
      fold_literals l clause args p ≡ result_of (fold_end l clause args p)
  unfolding fold_literals fold_end
  fold-ended [] args p = refl
  fold-ended (phi ∷ clause) args p =
      fold_first phi clause args p
      ∙ by_outcome (process_disequality l p phi (at args 0))
      (λ q e. next _ e ∙ fold-ended clause (drop 1 args) q ∙ ap result_of (sym (end_by_lem phi clause args p e)))
      (λ c e. ends _ e ∙ ap result_of (sym (end_by_lem phi clause args p e)))

  -- ---- the literals that `fold_some` did: m with j before

  pub record GoesOn
      (clause : Clause) (args : List Rational) (p : Progress) (j : ℕ) (r : Progress) (m : ℕ) : Type 0 where
    pub steps : ℕ
    pub counted : m ≡ steps + j
    pub inside : steps ≤ length clause
    -- what was inferred is not what it was before, so at least one literal is done
    pub some : (p.trace ≡ r.trace → ⊥) → 0 < steps
    pub on : fold_end l clause args p ≡ fold_end l (drop steps clause) (drop steps args) r

  -- it is refused, and nothing was inferred
  pub record Stops (clause : Clause) (args : List Rational) (p : Progress) (c : Refusal) : Type 0 where
    pub last : Progress
    pub same : last.trace ≡ p.trace
    pub is : fold_end l clause args p ≡ (last, Some c)

  abbrev pub Goes : Clause → List Rational → Progress → ℕ → Result (Progress × ℕ) → Type 0
  Goes clause args p j (Ok x) = GoesOn clause args p j x.0 x.1
  Goes clause args p j (Err c) = Stops clause args p c

  goes_first :
      (phi : Term) (clause : Clause) (a : Rational) (args : List Rational) (p : Progress) (j : ℕ) (q : Progress) →
      process_disequality l p phi (Some a) ≡ Ok q → (d : Result (Progress × ℕ)) →
      Goes clause args q (suc j) d → Goes (phi ∷ clause) (a ∷ args) p j d
  goes_first phi clause a args p j q e (Ok x) g =
      record {
        steps = suc g.steps;
        counted = omega (arith, g.counted);
        inside = omega (arith, g.inside);
        some = λ other. omega arith;
        on = end_by_lem phi clause (a ∷ args) p e ∙ g.on;
      }
  goes_first phi clause a args p j q e (Err c) g =
      record {
        last = g.last;
        same = g.same ∙ trace-given l p phi a q e;
        is = end_by_lem phi clause (a ∷ args) p e ∙ g.is;
      }

  pub some-goes :
      (clause : Clause) (args : List Rational) (p : Progress) (j : ℕ) →
      Goes clause args p j (fold_some l clause args p j)
  unfolding fold_some
  some-goes [] args p j =
      record { steps = 0; counted = omega arith; inside = omega arith; some = λ other. absurd (other refl); on = refl }
  some-goes (phi ∷ clause) [] p j =
      by_outcome (process_disequality l p phi None)
      (λ q e.
      rw (next _ e)
      record {
        steps = 1;
        counted = omega arith;
        inside = omega arith;
        some = λ other. omega arith;
        on = end_by_lem phi clause [] p e;
      })
      (λ c e. rw (ends _ e) record { last = p; same = refl; is = end_by_lem phi clause [] p e })
  some-goes (phi ∷ clause) (a ∷ args) p j =
      by_outcome (process_disequality l p phi (Some a))
      (λ q e.
      rw (next _ e)
      (goes_first phi clause a args p j q e (fold_some l clause args q (suc j)) (some-goes clause args q (suc j))))
      (λ c e. rw (ends _ e) record { last = p; same = refl; is = end_by_lem phi clause (a ∷ args) p e })
