-- The differences by which Carcara refuses what the words accept hold of their smallest inputs: K8, a quotient as a
-- bound, K9. The nearest steps that are accepted have none: (not (= 0 5)) is no `NegativeEquality`,
-- (or (not (<= x 1)) (<= x 2)) has no `QuotientBound`.
use mathlib.Core.Path.{◌≡◌, refl, sym, ◌∙◌, ap}
use mathlib.Core.List.{[], ◌∷◌}
use native.Mathlib.Omega.{arith}
use lib.IntN.{pos}
use Rattle.numbers.specs.Rational as Rational
use Rattle.numbers.specs.Rational.{Rational, is_positive}
use Rattle.terms.specs.Operator.{Equals, LessEq}
use Rattle.terms.specs.Term.{Term, unary}
use Rattle.terms.specs.Readers.{as_signed_number, as_number}
use Rattle.numbers.proofs.Truths.{never}
use Rattle.terms.proofs.Readings.{not-number}
use Rattle.alethe.specs.AletheTerms.{Departures, words, is, equals, IsNot2, Constant, Signed, Unsigned, Written}
use Rattle.alethe.specs.AletheTerms.{IsDivision}
use Rattle.alethe.specs.Alethe.{Constraint, Numbers, LaTautology}
use Rattle.alethe.specs.Alethe.BoundsForm.{below}
use Rattle.alethe.specs.AletheDifferences.{NegativeEquality, BoundIn, QuotientBound, VanishingMonomial}
use Rattle.alethe.specs.AletheExamples as Step
use Rattle.alethe.specs.AletheExamples.{x, v, one, alethe}
use Rattle.rules_theory.proofs.WrittenNumbers.{signed-read}
use Rattle.alethe_examples.proofs.ExampleLaws.{is_itself, constant-written, constant-only, states, states-only}
use Rattle.alethe_examples.proofs.ExampleLaws.{all_zero_in, cancels_by}
use Rattle.alethe_examples.proofs.StepInversions.{no_negation}
use Rattle.alethe_examples.proofs.DepartureInversions.{two-itself, not-two-itself}
use Rattle.alethe_examples.proofs.AletheExamples.{a_constant}
use Rattle.alethe_examples.proofs.PolynomialExamples.{vanishing-accepted}

-- ---- K8: an equality of numbers

five_is_not-zero-negative : NegativeEquality words Step.five_is_not_zero
unfolding alethe all_zero_in
five_is_not-zero-negative =
    record {
      negated = _;
      states = states words 54 53 (Numbers.numbers refl refl) equals (a_constant 12 (pos 5)) (a_constant 8 (pos 0));
      equality = refl;
      cancels = cancels_by [] refl;
      negative = refl;
    }

zero_is_not-five-not-negative : (by : Departures) → NegativeEquality by Step.zero_is_not_five → ⊥
unfolding alethe
zero_is_not-five-not-negative by h =
    let e = states-only (constant-only 8 (pos 0)) (constant-only 12 (pos 5)) by 97 96 Equals _ h.states in
    never (sym h.negative ∙ ap (λ (k : Constraint). is_positive k.bound) e)

-- ---- a quotient as a bound

not-below-half : IsNot2 LessEq x Step.one_half Step.above_half
not-below-half = record { body = _; relation = is 100; negation = is 101 }

half-bound-accepted : LaTautology words Step.half_bound
unfolding alethe
half-bound-accepted =
    LaTautology.bounds _ _ (is 102)
    (below x Step.one_half one _ _ not-below-half (is 42)
    (Written.plain
    (Unsigned.quotient IsDivision.slash (is 99) (Signed.plain (Constant.whole 9 (pos 1)))
    (Signed.plain (Constant.whole 10 (pos 2))) refl))
    (constant-written 9 (pos 1)) tt)

quotient_unsigned : (q : Rational) → Signed Step.one_half q → ⊥
unfolding as_signed_number as_number unary
quotient_unsigned q s = not-number (signed-read s)

half-bound-differs : QuotientBound Step.half_bound
half-bound-differs =
    record {
      phi1 = Step.above_half;
      phi2 = Step.below_one;
      bound = Step.one_half;
      disjunction = is 102;
      inside = BoundIn.not_below x not-below-half;
      unsigned = quotient_unsigned;
    }

signed-bounds :
    {d phi psi : Term} → BoundIn d phi psi → phi ≡ Step.opposite 43 Step.below_one → psi ≡ Step.below_two →
    ((q : Rational) → Signed d q → ⊥) → ⊥
signed-bounds (BoundIn.below s h) e f n =
    let g = (two-itself (rw f at h)).2 in n (Rational.whole (pos 2)) (rw g (Signed.plain (Constant.whole 10 (pos 2))))
signed-bounds (BoundIn.above s h) e f n = omega (arith, (two-itself (rw f at h)).0)
signed-bounds (BoundIn.not_below s h) e f n =
    let g = (not-two-itself (rw e at h)).2 in
    n (Rational.whole (pos 1)) (rw g (Signed.plain (Constant.whole 9 (pos 1))))
signed-bounds (BoundIn.not_above s h) e f n = omega (arith, (not-two-itself (rw e at h)).0)
signed-bounds (BoundIn.not_above_second s h) e f n = no_negation (omega arith) (rw f at h)

bounds-are_no_quotients : QuotientBound Step.bounds → ⊥
bounds-are_no_quotients h =
    let e = (is_itself h.disjunction).1 in signed-bounds h.inside (cc) (cc) h.unsigned

-- ---- K9: a coefficient that vanishes

vanishing-vanishes : VanishingMonomial words Step.vanishing
unfolding alethe vanishing-accepted
vanishing-vanishes =
    record {
      simplified = vanishing-accepted;
      width = 8;
      vectors = refl;
      monomial = v ∷ [];
      some = refl;
      vanishes = refl;
    }
