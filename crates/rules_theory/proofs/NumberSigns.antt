-- Signs of written numbers, as values.
use mathlib.Core.Path.{◌≡◌, sym, ◌∙◌, ap, ap₂}
use mathlib.Core.Bool.{true}
use Prim.Native.Nat.{suc}
use lib.IntN.{ℤ, pos, ◌*ℤ◌, zero-*ℤ}
use lib.Signed.{le_z}
use Rattle.numbers.specs.Pair.{whole_p, eq_z, less_eq_p}
use Rattle.numbers.specs.Rational as Rational
use Rattle.numbers.specs.Rational.{Rational, Lowest, is_zero}
use Rattle.numbers.proofs.Integers.{*ℤ_idr}
use Rattle.numbers.proofs.Order.{at_positive}
use Rattle.numbers.proofs.Rationals.{is_zero-value, is_positive-value, eq_z-refl}
use Rattle.numbers.proofs.Quotient.{ι, mk-whole, ≈_of_mk-eq}
use Rattle.rules.proofs.Valuations.{numberℚ}
use Rattle.alethe.proofs.Signs.{is_nonneg, is_positive, nonneg_is, positive_is}

-- ---- the signs of numbers

pub nonneg-number : (a : Rational) → Lowest a → is_nonneg (numberℚ a) ≡ le_z (pos 0) a.num
unfolding Rational.value
nonneg-number a la =
    nonneg_is (Rational.value a)
    ∙ at_positive (λ d. less_eq_p (whole_p (pos 0)) (Rational.over_p a.num d) ≡ le_z (pos 0) a.num)
    (λ k. ap₂ le_z (zero-*ℤ (pos (suc k))) (*ℤ_idr a.num)) a.den la.positive

pub positive-number : (a : Rational) → Lowest a → is_positive (numberℚ a) ≡ Rational.is_positive a
positive-number a la = positive_is (Rational.value a) ∙ sym (is_positive-value a la)

pub zero_of_number : (a : Rational) → Lowest a → numberℚ a ≡ ι (pos 0) → is_zero a ≡ true
zero_of_number a la e =
    let v = Rational.value a in
    is_zero-value a la
    ∙ ap (λ (z : ℤ). eq_z z (pos 0 *ℤ pos v.den))
    (≈_of_mk-eq v (whole_p (pos 0)) (e ∙ sym (mk-whole (pos 0))))
    ∙ eq_z-refl (pos 0 *ℤ pos v.den)
