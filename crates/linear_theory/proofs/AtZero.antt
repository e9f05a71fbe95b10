-- A sum whose coefficients cancel has the value 0 (`cancelled_value`), so that it stands in no relation to a bound that
-- contradicts (`refuted_at_zero`).
use mathlib.Core.Path.{◌≡◌, sym, ◌∙◌, ap}
use mathlib.Core.Bool.{true, not}
use lib.IntN.{pos}
use Rattle.numbers.specs.Rational.{Rational, Lowest}
use Rattle.terms.specs.Term.{Term}
use Rattle.terms.specs.Smtlib.{Assignment, value}
use Rattle.numbers.proofs.Truths.{never}
use Rattle.numbers.proofs.Quotient.{ι}
use Rattle.terms.proofs.Sums.{meant}
use Rattle.book.proofs.BookTerms.{Closed}
use Rattle.alethe.specs.AletheTerms.{Entries, Cancels}
use Rattle.alethe.specs.Alethe.{Relation, contradicts}
use Rattle.rules.proofs.Valuations.{numberℚ}
use Rattle.rules_theory.proofs.IndexMaps.{total}
use Rattle.linear_theory.proofs.LinearWalk.{atoms}
use Rattle.alethe.proofs.Signs.{◌less◌}
use Rattle.linear_theory.proofs.Says.{Says, says-as, stands_at_zero}
use Rattle.linear_theory.proofs.Weights.{weigh, EntriesFor}
use Rattle.linear_theory.proofs.NormalForms.{normal_exists, normal-empty, normal-value}
use Rattle.linear_theory.proofs.Disequalities.{operator_of}
use Rattle.linear_theory.proofs.ConstraintSums.{contradicts_is}

module _ {P : Term → Type 0} (closed : Closed P) (es : Entries) (of : EntriesFor P es) (cancels : Cancels es) where
  pub cancelled_value : (ρ : Assignment) → weigh (λ t. meant (value ρ t)) es ≡ ι (pos 0)
  unfolding total
  cancelled_value ρ =
      let m = normal_exists closed es of in
      sym (normal-value closed es of m.0 m.1 ρ)
      ∙ ap (total (atoms closed ρ)) (normal-empty closed es of m.0 m.1 cancels)

  pub refuted_at_zero : (r : Relation) (d : Rational) → Lowest d → contradicts r d ≡ true → (ρ : Assignment) →
      Says (operator_of r) (weigh (λ t. meant (value ρ t)) es less numberℚ d) → ⊥
  refuted_at_zero r d ld e ρ h =
      let stands = stands_at_zero d ld (says-as (ap (λ x. x less numberℚ d) (cancelled_value ρ)) h) in
      never (ap not (sym stands) ∙ sym (contradicts_is r d) ∙ e)
