-- `la_generic_partial` by where its fold ends, and `la_generic` by that.
--     partial_end, end_of, is_contradiction, last_line       where the fold ends, and the rule's last line
--     partial_of, Judged, partial_ended, partial_by, unread, part-unread       the rule's answer
--     Ended, ended-trace       the numbers that the fold inferred, where it ends
--     generic_unequal, generic_equal       `la_generic`
use Rattle.std.specs.Prelude.{Err}
use Rattle.index_map.specs.Memory.Answers.{Has}
use mathlib.Core.Path.{◌≡◌, refl, sym, ap, subst, ◌∙◌}
use mathlib.Core.Bool.{Bool, true, false, ◌&&◌, not, cond}
use mathlib.Core.List.{List, [], ◌∷◌}
use Rattle.std.specs.Prelude.{Option, Some, None}
use Prim.Native.Nat.{ℕ, suc, ◌/◌}
use native.Mathlib.Omega.{arith}
use borrow.Author.Tests.{eq-eqb, ne_eqb}
use lib.Dec.{eqb}
use lib.ListN.{length}
use Rattle.numbers.specs.Rational.{Rational}
use Rattle.numbers.specs.Bytes.{Bytes}
use Rattle.terms.specs.Operator.{Equals}
use Rattle.terms.specs.Term.{Term}
use Rattle.rules.specs.Refusal.{Result, ◌>>=◌, assert}
use Rattle.rules.specs.declared.refusal.Refusal.{Refusal}
use Rattle.std.specs.Prelude.{Ok}
use Rattle.rules.specs.declared.refusal.Refusal.TheVariants.{WrongNumberOfArgs, DisequalityIsNotContradiction}
use Rattle.rules.specs.Limits.{Limits, limited}
use Rattle.index_map.specs.IndexMap.{Map, is_empty, new}
use Rattle.process_disequality.specs.ProcessDisequality.{Progress, progress}
use Rattle.linear_arithmetic.specs.LinearArithmetic.{read_args, is_true_at_zero, la_generic_partial, la_generic}
use Rattle.rules.specs.Shapes.{Clause}
use Rattle.rules.specs.Memory.Parts.{terms_in}
use Rattle.process_disequality.specs.Memory.ProcessSteps.{progress_with}
use Rattle.linear_arithmetic.specs.Memory.LinearSteps.{visits_of, are_numbers, contradicts}
use Rattle.process_disequality.specs.declared.process_disequality.Progress as by_value
use Rattle.rules.proofs.Yields.{Yields, gives, refuses, and_then, past}
use Rattle.rules.proofs.Results.{next, ends, stops, bind-same, bind_assoc}
use Rattle.rules.proofs.RunParts.{length-terms_in}
use Rattle.linear_arithmetic.proofs.FoldedSteps.{later, fold_end, result_of, fold-ended}
use Rattle.linear_arithmetic.proofs.FoldedAreas.{Given, limits_of, clause_of}

-- ---- the rule by where its fold ends

-- all arguments are read before the first literal
abbrev pub partial_end : Limits → Clause → List Term → ℕ → Result (Progress × Option Refusal)
partial_end l clause args n = read_args l args >>= λ qs. Ok (fold_end l clause qs (progress Equals new [] n))

-- the last line
abbrev pub is_contradiction : Progress → Result Progress
is_contradiction p =
    assert (is_empty p.acc.entries && not (is_true_at_zero p.operator p.acc.constant))
    DisequalityIsNotContradiction
    >>= λ u. Ok p

pub partial_ended :
    (l : Limits) (clause : Clause) (args : List Term) (n : ℕ) →
    la_generic_partial l clause args n ≡ (partial_end l clause args n >>= λ e. result_of e >>= is_contradiction)
unfolding la_generic_partial ◌>>=◌
partial_ended l clause args n =
    bind-same (read_args l args)
    (λ qs. ap (λ z. z >>= is_contradiction) (fold-ended l clause qs (progress Equals new [] n)))
    ∙ sym (bind_assoc (read_args l args) _ _)

empty-map : (m : Map Term) → is_empty m ≡ eqb (length m) 0
empty-map [] = sym (eq-eqb 0 0 refl)
empty-map (e ∷ m) = sym (ne_eqb (suc (length m)) 0 (λ h. omega arith))

pub last_line :
    (q : by_value.Progress) (m : Map Term) (t : List Rational) → Has q.acc m →
    contradicts q ≡ visits_of (is_contradiction (later t (progress_with q m [])))
unfolding assert ◌>>=◌
last_line q m t has =
    rw (empty-map m, ← has.size) (go (eqb q.acc.len 0 && not (is_true_at_zero q.operator q.acc.constant)))
  where
    go :
        (s : Bool) →
        cond s (Ok q.visits) (Err DisequalityIsNotContradiction) ≡
        visits_of (assert s DisequalityIsNotContradiction >>= λ u. Ok (later t (progress_with q m [])))
    go true = refl
    go false = refl

-- where the whole fold ends
abbrev pub end_of : Given → ℕ → Result (Progress × Option Refusal)
end_of g v = partial_end (limits_of g) (clause_of g) (terms_in g.book g.args) v

abbrev pub partial_of : Given → ℕ → Result Progress
partial_of g v = la_generic_partial (limits_of g) (clause_of g) (terms_in g.book g.args) v

-- what is promised of the answer r, with the bytes w
abbrev pub Judged : Given → ℕ → Bytes → Result ℕ → Type 0
Judged g v w r = (r ≡ visits_of (partial_of g v)) × (w ≡ g.work)

-- the numbers that the whole fold infers are t
pub record Ended (g : Given) (v : ℕ) (t : List Rational) : Type 0 where
  pub last : Progress
  pub stop : Option Refusal
  pub is : end_of g v ≡ Ok (last, stop)
  pub trace : last.trace ≡ t

pub partial_by :
    (g : Given) (v : ℕ) {e : Progress × Option Refusal} → end_of g v ≡ Ok e →
    partial_of g v ≡ (result_of e >>= is_contradiction)
partial_by g v is = partial_ended _ _ _ v ∙ next _ is

-- and so are those of an answer
pub ended-trace : {g : Given} {v : ℕ} {t : List Rational} → Ended g v t → Yields (λ s. s.trace ≡ t) (partial_of g v)
ended-trace {g} {v} {t} e =
    subst (Yields (λ s. s.trace ≡ t)) (sym (partial_by g v e.is))
    (and_then (reached e.stop) λ p same. past _ λ u. gives same)
  where
    reached : (stop : Option Refusal) → Yields (λ p. p.trace ≡ t) (result_of (e.last, stop))
    reached (Some c) = refuses
    reached None = gives e.trace

-- an argument is no number
pub unread :
    {A : Type 0} (x : Result A) {r : Refusal} → ◌≡◌ {A = Result (Unit {0})} (Err r) (x >>= λ a. Ok tt) → x ≡ Err r
unfolding ◌>>=◌
unread (Ok a) e = cc
unread (Err c) {r} e = let same : r ≡ c = cc in rw same

pub part-unread :
    (g : Given) (v : ℕ) {r : Refusal} → ((n : ℕ) → Err r ≡ are_numbers n g.book g.args) → Judged g v g.work (Err r)
part-unread g v r-is =
    (stops _ (sym (partial_ended _ _ _ v ∙ ends _ (ends _ (unread _ (r-is g.limit))))), refl)

-- ---- `la_generic`: as many arguments as literals

module _ (b literals args : Bytes) (v l : ℕ) where
  pub generic_unequal :
      (length args / 4 ≡ length literals / 4 → ⊥) →
      Err WrongNumberOfArgs ≡ visits_of (la_generic (limited l) (terms_in b literals) (terms_in b args) v)
  unfolding la_generic assert ◌>>=◌
  generic_unequal h = rw (length-terms_in b args, length-terms_in b literals, ne_eqb _ _ h, la_generic)

  pub generic_equal :
      length args / 4 ≡ length literals / 4 →
      la_generic_partial (limited l) (terms_in b literals) (terms_in b args) v ≡
      la_generic (limited l) (terms_in b literals) (terms_in b args) v
  unfolding la_generic assert ◌>>=◌
  generic_equal h = rw (length-terms_in b args, length-terms_in b literals, eq-eqb _ _ h, la_generic)
