-- The tests of specs/PremiseTests are demand 3's premises: a step passes all three exactly where the premises hold of
-- it (`tested-premises`, `premises-tested`), so the table in specs/MarkedPremises speaks of the premises themselves.
use Rattle.runs.specs.declared.rule.Rule.TheVariants.{BoundedFarkas, LaGeneric}
use mathlib.Core.Path.{◌≡◌, refl, sym, ap}
use mathlib.Core.Bool.{Bool, true, false, ◌||◌, not}
use mathlib.Core.List.{List}
use borrow.Author.Tests.{leb-true, le-leb}
use lib.Dec.{T}
use lib.ListN.{length}
use Rattle.numbers.specs.Rational.{Rational}
use Rattle.numbers.proofs.Truths.{T_true, true-T}
use Rattle.runs.specs.Rule.{is_rule}
use Rattle.runs.specs.Run.{Step}
use Rattle.runs.proofs.Rules.{same-rule}
use Rattle.elaborate.specs.Statements.{Premises}
use Rattle.elaborate.specs.PremiseTests.{premises_met}

-- ---- an implication as a test

implied : (s t : Bool) → (not s || t) ≡ true → T s → T t
implied true t e h = true-T e
implied false t e h = absurd h

implies : (s t : Bool) → (T s → T t) → (not s || t) ≡ true
implies true t f = T_true t (f tt)
implies false t f = refl

module _ (s : Step) (inferred : List Rational) where
  -- all three tests pass
  pub record Met : Type 0 where
    pub even : (premises_met s inferred).0 ≡ true
    pub whole : (premises_met s inferred).1 ≡ true
    pub no_surplus : (premises_met s inferred).2 ≡ true

  pub tested-premises : Met → Premises s inferred
  unfolding premises_met
  tested-premises h =
      record {
        meaning =
            record {
              even_divs = true-T h.even;
              whole = implied (is_rule LaGeneric s.rule || is_rule BoundedFarkas s.rule) _ h.whole;
            };
        no_surplus = λ six.
            leb-true (length s.args) (length s.clause)
            (T_true _
            (implied (is_rule BoundedFarkas s.rule) _ h.no_surplus (true-T (ap (is_rule BoundedFarkas) six))));
      }

  pub premises-tested : Premises s inferred → Met
  unfolding premises_met
  premises-tested h =
      record {
        even = T_true _ h.meaning.even_divs;
        whole = implies (is_rule LaGeneric s.rule || is_rule BoundedFarkas s.rule) _ h.meaning.whole;
        no_surplus =
            implies (is_rule BoundedFarkas s.rule) _ λ six.
            true-T (le-leb (length s.args) (length s.clause)
            (h.no_surplus (sym (same-rule BoundedFarkas s.rule (T_true _ six)))));
      }
