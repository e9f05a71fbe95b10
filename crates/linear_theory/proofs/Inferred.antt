-- A step that infers arguments says what it says with these arguments given, the trace aside. So a bounded_farkas step,
-- elaborated, is a la_generic step that is accepted with the same sum and the same visits, and infers nothing.
--     literal-again       one literal
--     fold-again       the fold over the literals
--     la_generic-again       the step, with the inferred numbers appended as real constants
use mathlib.Core.Path.{◌≡◌, refl, sym, subst}
use mathlib.Core.Bool.{◌&&◌, not}
use Rattle.std.specs.Prelude.{Option, Some, None}
use mathlib.Core.List.{List, [], ◌∷◌, ◌++◌, append_assoc, append-nil}
use Prim.Native.Nat.{ℕ, ◌≤◌}
use native.Mathlib.Omega.{arith}
use lib.ListN.{length, length-append}
use borrow.Author.Tests.{eq-eqb}
use Rattle.numbers.specs.Rational.{Rational}
use Rattle.terms.specs.Term.{Term, unary, binary}
use Rattle.terms.specs.Term.Term.{rational}
use Rattle.terms.specs.Operator.{Equals}
use Rattle.terms.specs.Readers.{as_fraction, as_unsigned_fraction, as_signed_number, as_number, quotient_of}
use Rattle.rules.specs.Refusal.{◌>>=◌, assert, or_else}
use Rattle.rules.specs.declared.refusal.Refusal.TheVariants.{DisequalityIsNotContradiction}
use Rattle.std.specs.Prelude.{Ok}
use Rattle.rules.specs.Limits.{Limits, fraction_of, fraction_err}
use Rattle.index_map.specs.IndexMap.{add, new, is_empty}
use Rattle.linear_comb.specs.LinearComb.{LinearComb, mul}
use Rattle.index_map.specs.Memory.Entries.{terms}
use Rattle.process_disequality.specs.ProcessDisequality.{Progress, progress, inferred, argument_of, strengthened, scalar}
use Rattle.process_disequality.specs.ProcessDisequality.{process_disequality}
use Rattle.linear_arithmetic.specs.LinearArithmetic.{fold_literals, is_true_at_zero, read_args, la_generic_partial, la_generic}
use Rattle.disequality.specs.Disequality.{disequality_of}
use Rattle.rules.specs.Shapes.{Clause}
use Rattle.rules.proofs.Yields.{Yields, and_then, known, past, weaker}
use Rattle.rules.proofs.Yields.Yields.{gives}

-- with another trace
abbrev pub retraced : List Rational → Progress → Progress
retraced t p = progress p.operator p.acc t p.visits

-- what a literal's argument and trace are: those given, or one more number in the trace
abbrev pub Supplied : Progress → Option Rational → Rational → List Rational → Type 0
Supplied p (Some b) a t = (a ≡ b) × (t ≡ p.trace)
Supplied p None a t = t ≡ p.trace ++ a ∷ []

-- real constants of these numbers, whatever their record numbers
pub data Reals : List Term → List Rational → Type 0 where
  end : Reals [] []
  also :
      {q : Rational} {ts : List Term} {qs : List Rational} → (i : ℕ) → Reals ts qs →
      Reals (rational i q ∷ ts) (q ∷ qs)

module _ (l : Limits) where
  -- the same literal with its argument given
  pub record Again (p : Progress) (phi : Term) (arg : Option Rational) (q : Progress) : Type 0 where
    pub argument : Rational
    pub supplied : Supplied p arg argument q.trace
    pub again :
        (t : List Rational) → process_disequality l (retraced t p) phi (Some argument) ≡ Ok (retraced t q)

  argument-supplied :
      (p : Progress) (s : LinearComb) (arg : Option Rational) →
      Yields (λ x. Supplied p arg x.0 x.1) (argument_of l p s arg)
  unfolding argument_of
  argument-supplied p s (Some a) = gives (refl, refl)
  argument-supplied p s None = past (inferred l p.acc.entries s.entries) λ a. gives refl

  pub literal-again :
      (p : Progress) (phi : Term) (arg : Option Rational) → Yields (Again p phi arg) (process_disequality l p phi arg)
  unfolding process_disequality argument_of ◌>>=◌
  literal-again p phi arg =
      known (disequality_of l phi p.visits) λ d e1.
      and_then (argument-supplied p d.sum arg) λ (a, trace) h.
      known (strengthened l d.operator d.sum a) λ (o, s) e2.
      known (mul l s (scalar o a)) λ scaled e3.
      known (add terms l p.acc scaled) λ acc e4.
      gives record { argument = a; supplied = h; again = λ t. rw (e1, e2, e3, e4) }

  -- ---- the fold

  -- the same literals with all arguments given: the numbers that were inferred stand behind the others
  pub record FoldAgain (c : Clause) (args : List Rational) (p q : Progress) : Type 0 where
    pub numbers : List Rational
    pub supplied : q.trace ≡ p.trace ++ numbers
    pub complete : length (args ++ numbers) ≡ length c
    pub again : (t : List Rational) → fold_literals l c (args ++ numbers) (retraced t p) ≡ Ok (retraced t q)

  -- behind a literal whose argument is inferred, and behind one whose argument is given
  after-inferred :
      (phi : Term) (c : Clause) (p q r : Progress) → Again p phi None q → FoldAgain c [] q r →
      FoldAgain (phi ∷ c) [] p r
  unfolding fold_literals ◌>>=◌
  after-inferred phi c p q r x y =
      record {
        numbers = x.argument ∷ y.numbers;
        supplied = rw (y.supplied, x.supplied) (append_assoc p.trace (x.argument ∷ []) y.numbers);
        complete = rw y.complete;
        again = λ t. rw (x.again t) (y.again t);
      }

  after-given :
      (phi : Term) (c : Clause) (a : Rational) (args : List Rational) (p q r : Progress) → Again p phi (Some a) q →
      FoldAgain c args q r → FoldAgain (phi ∷ c) (a ∷ args) p r
  unfolding fold_literals ◌>>=◌
  after-given phi c a args p q r x y =
      let e : x.argument ≡ a = x.supplied.0 in
      let f : q.trace ≡ p.trace = x.supplied.1 in
      let g : (t : List Rational) → process_disequality l (retraced t p) phi (Some a) ≡ Ok (retraced t q) =
      subst (λ b. (t : List Rational) → process_disequality l (retraced t p) phi (Some b) ≡ Ok (retraced t q)) e x.again in
      record {
        numbers = y.numbers;
        supplied = rw (y.supplied, f);
        complete = rw y.complete;
        again = λ t. rw (g t) (y.again t);
      }

  pub fold-again :
      (c : Clause) (args : List Rational) (p : Progress) → length args ≤ length c →
      Yields (FoldAgain c args p) (fold_literals l c args p)
  unfolding fold_literals ◌>>=◌
  fold-again [] [] p h =
      gives {a = p} record { numbers = []; supplied = sym (append-nil p.trace); complete = refl; again = λ t. refl }
  fold-again (phi ∷ c) [] p h =
      and_then (literal-again p phi None) λ q x. weaker (λ r y. after-inferred phi c p q r x y) (fold-again c [] q (omega arith))
  fold-again (phi ∷ c) (a ∷ args) p h =
      and_then (literal-again p phi (Some a)) λ q x.
      weaker (λ r y. after-given phi c a args p q r x y) (fold-again c args q (omega (arith, h)))
  fold-again [] (a ∷ args) p h = elim h [ ]

  -- ---- the step

  reads-real : (i : ℕ) (q : Rational) → fraction_err l (rational i q) ≡ Ok q
  unfolding fraction_err fraction_of as_fraction as_unsigned_fraction as_signed_number as_number quotient_of unary binary ◌>>=◌ or_else
  reads-real i q = refl

  reads-reals : {ts : List Term} {qs : List Rational} → Reals ts qs → read_args l ts ≡ Ok qs
  unfolding read_args ◌>>=◌
  reads-reals end = refl
  reads-reals (also {q} i h) = rw (reads-real i q, reads-reals h)

  reals-length : {ts : List Term} {qs : List Rational} → Reals ts qs → length ts ≡ length qs
  reals-length end = refl
  reals-length (also i h) = rw (reals-length h)

  -- the arguments given, with real constants behind them
  abbrev ReadAgain : List Term → List Rational → Type 0
  ReadAgain args qs =
      (length qs ≡ length args)
      × ((ts : List Term) (rs : List Rational) → Reals ts rs → read_args l (args ++ ts) ≡ Ok (qs ++ rs))

  read_args-again : (args : List Term) → Yields (ReadAgain args) (read_args l args)
  unfolding read_args ◌>>=◌
  read_args-again [] = gives (refl, λ ts rs h. reads-reals h)
  read_args-again (a ∷ args) =
      known (fraction_err l a) λ q e.
      and_then (read_args-again args) λ qs h.
      gives (rw h.0, λ ts rs g. rw (e, h.1 ts rs g))

  pub la_generic-again :
      (c : Clause) (args : List Term) (n : ℕ) → length args ≤ length c →
      Yields (λ p. (ts : List Term) → Reals ts p.trace → la_generic l c (args ++ ts) n ≡ Ok (retraced [] p))
      (la_generic_partial l c args n)
  unfolding la_generic_partial la_generic ◌>>=◌ assert
  la_generic-again c args n h =
      and_then (read_args-again args) λ qs r.
      and_then (fold-again c qs (progress Equals new [] n) (omega (arith, h, r.0))) λ p f.
      known (assert (is_empty p.acc.entries && not (is_true_at_zero p.operator p.acc.constant)) DisequalityIsNotContradiction) λ u e.
      gives λ ts g. (
      let a : read_args l (args ++ ts) ≡ Ok (qs ++ f.numbers) =
      subst (λ x. read_args l (args ++ ts) ≡ Ok (qs ++ x)) f.supplied (r.1 ts p.trace g) in
      let b : length (args ++ ts) ≡ length c =
      rw (length-append args ts, reals-length g, f.supplied, sym r.0, sym (length-append qs f.numbers)) f.complete in
      rw (eq-eqb (length (args ++ ts)) (length c) b, a, f.again [], e)
      )
