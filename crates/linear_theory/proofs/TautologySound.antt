-- la_tautology: a step that is accepted is one of the rule's with Carcara's departures (`tautology-form`), and the
-- literal of one with whichever departures is true in every model (`tautology-valid`). Of one literal, what
-- `negate_disequality` makes of it has no atoms left and is false; of two, proofs/BoundsForms has the five forms.
use mathlib.Core.Path.{◌≡◌, refl, ◌∙◌, ap, subst}
use mathlib.Core.Bool.{Bool, true, false, not, ◌&&◌, ◌||◌}
use mathlib.Core.List.{[], ◌∷◌}
use mathlib.Core.Logic.{⊎_elim}
use Prim.Native.Nat.{ℕ}
use lib.Dec.{eqb}
use Rattle.numbers.specs.Rational.{Rational, is_zero, is_positive}
use Rattle.terms.specs.Operator.{Or, GreaterThan}
use Rattle.terms.specs.Term.{Term, binary}
use Rattle.numbers.specs.Choice.{when◌then◌else◌}
use Rattle.terms.specs.Smtlib.{is_true}
use Rattle.numbers.proofs.Truths.{both, true_or_false}
use Rattle.book.proofs.WellFormed.{WellFormed}
use Rattle.book.proofs.BookTerms.{Closed}
use Rattle.rules.specs.Refusal.{◌>>=◌}
use Rattle.std.specs.Prelude.{Ok}
use Rattle.rules.specs.Limits.{Limits}
use Rattle.index_map.specs.IndexMap.{is_empty}
use Rattle.linear_arithmetic.specs.LinearArithmetic.{is_true_at_zero, is_tautology, la_tautology}
use Rattle.disequality.specs.Disequality.{Disequality, disequality_of}
use Rattle.rules.specs.Shapes.{only_literal}
use Rattle.alethe.specs.AletheTerms.{Departures, carcara, Cancels}
use Rattle.alethe.specs.Alethe.{Clause, Valid, Relation, Constraint, contradicts, LaTautology}
use Rattle.alethe.specs.Alethe.Relation.{eq}
use Rattle.alethe.specs.Alethe.LaTautology.{comparison, bounds}
use Rattle.rules.proofs.Yields.{gives, at_ok, and_then, known}
use Rattle.rules_theory.proofs.Shapes.{asserted, one_literal, binary-found, arguments-formed}
use Rattle.alethe.proofs.Literals.{says, or_value, valid-literal}
use Rattle.linear_theory.proofs.NormalForms.{Normal, normal-cancels}
use Rattle.linear_theory.proofs.Disequalities.{Agrees, Upward, is_equals, is_greater, is_greater_eq, relation_of}
use Rattle.linear_theory.proofs.Disequalities.{operator_of, disequality-states, states-agree, states-kept}
use Rattle.linear_theory.proofs.Disequalities.{states-false}
use Rattle.linear_theory.proofs.MapEntries.{no_entries}
use Rattle.linear_theory.proofs.AtZero.{refuted_at_zero}
use Rattle.linear_theory.proofs.ConstraintSums.{contradicts_is}
use Rattle.linear_theory.proofs.BoundsForms.{by_found, case_form, form-says}

-- ---- a disequality with no atoms

-- 0 stands in no relation to a positive number
positive-refutes : (r : Relation) (c : Rational) → is_positive c ≡ true → is_true_at_zero (operator_of r) c ≡ false
unfolding is_true_at_zero when◌then◌else◌
positive-refutes r c e = rw e

of_first : (p : Bool) → (p || false) ≡ true → p ≡ true
of_first true e = refl
of_first false e = e

-- the Rust's test on the constant
abbrev pub refutes : ℕ → Rational → Bool
refutes o c = is_positive c || (eqb o GreaterThan && is_zero c)

refutes-contradicts : {o : ℕ} → Upward o → (c : Rational) → refutes o c ≡ true → contradicts (relation_of o) c ≡ true
unfolding contradicts
refutes-contradicts is_equals c e = contradicts_is eq c ∙ ap not (positive-refutes eq c (of_first (is_positive c) e))
refutes-contradicts is_greater_eq c e = of_first (is_positive c) e
refutes-contradicts is_greater c e = e

module _ {P : Term → Type 0} (closed : Closed P) where
  module _ (d : Disequality) (k : Constraint) (a : Agrees P d k) (e : is_tautology d ≡ true) where
    tautology-cancels : Cancels k.terms
    tautology-cancels =
        normal-cancels closed k.terms a.entries
        (subst (Normal P k.terms) (no_entries d.sum.entries (both (is_empty d.sum.entries) _ e).0)
        a.normal)

    tautology-contradicts : contradicts k.relation k.bound ≡ true
    tautology-contradicts =
        rw (← a.relation, ← a.bound)
        (refutes-contradicts a.upward d.sum.constant (both (is_empty d.sum.entries) _ e).1)

-- ---- what an accepted step is

pub tautology-literal :
    (l : Limits) (c : Clause) (n m : ℕ) → la_tautology l c n ≡ Ok m → (phi : Term) × (c ≡ phi ∷ [])
unfolding la_tautology
tautology-literal l c n m = one_literal c _

module _ {P : Term → Type 0} (closed : Closed P) where
  pub tautology-form : (l : Limits) (phi : Term) → P phi → (n m : ℕ) → la_tautology l (phi ∷ []) n ≡ Ok m →
      LaTautology carcara phi
  unfolding la_tautology only_literal ◌>>=◌
  tautology-form l phi p n m =
      at_ok {P = λ m. LaTautology carcara phi}
      (by_found (binary Or phi)
      (λ q e.
      let h = binary-found closed Or phi p q e in
      and_then (case_form closed q.0 q.1 h.inside.0 h.inside.1.0) λ u f.
      gives (bounds q.0 q.1 h.shape f))
      (known (disequality_of l phi n) λ d answer.
      and_then (asserted {P = λ u. is_tautology d ≡ true} (is_tautology d) _ (λ e. e)) λ u e.
      let (k, states) = at_ok (disequality-states closed phi p l n) answer in
      let a = states-agree closed phi p carcara k states l n d answer in
      gives (comparison k states (tautology-cancels closed d k a e) (tautology-contradicts closed d k a e))))

  -- ---- why it is true

  pub tautology-valid : (by : Departures) {phi : Term} → P phi → LaTautology by phi → Valid (phi ∷ [])
  unfolding WellFormed
  tautology-valid by {phi} p (comparison k states cancels false-at) =
      let (entries, lowest) = states-kept closed phi p by k states in
      valid-literal phi λ ρ.
      ⊎_elim (λ e. e)
      (λ e.
      absurd
      (refuted_at_zero closed k.terms entries cancels k.relation k.bound lowest false-at ρ
      (states-false closed phi p by k states ρ e)))
      (true_or_false (says ρ phi))
  tautology-valid by {phi} p (bounds phi1 phi2 h f) =
      let ws = arguments-formed h (closed.formed phi p) in
      valid-literal phi λ ρ.
      ap is_true (or_value ρ h) ∙ form-says ws.0 ws.1.0 f ρ
