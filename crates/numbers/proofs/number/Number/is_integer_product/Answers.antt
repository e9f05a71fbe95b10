-- The product's denominator in lowest terms is 1 where the product of the denominators divides that of the numerators.
use mathlib.Core.Path.{◌≡◌, sym, ◌∙◌, ap, ap₂, subst}
use Prim.Native.Nat.{ℕ, suc, ◌%◌, ◌<◌}
use native.Mathlib.Nat.{zero-lt-suc, mod-eq-zero_of_dvd, dvd_of_mod-eq-zero}
use lib.Dec.{eqb}
use lib.IntN.{ℤ, pos, nat_abs}
use lib.Signed.{◌<ℤ◌}
use Rattle.numbers.specs.Rational.{mul_q, lowest, is_integer}
use Rattle.numbers.proofs.Divisors.{dvd_of_over-gcd_one, over-gcd_one_of_dvd}
use Rattle.numbers.proofs.Order.{mul-pos, at_positive, nat_abs-positive}
use Rattle.numbers.proofs.Machine.{exact, back, eqb_iff}
use Rattle.numbers.proofs.Ranges.{nums, dens, positive-dens}
use Rattle.numbers.proofs.number.Number.is_integer_product.Goals as goal

lowest_is_integer : (n d : ℤ) → pos 0 <ℤ d → eqb (nat_abs n % nat_abs d) 0 ≡ is_integer (lowest n d)
unfolding is_integer lowest
lowest_is_integer n =
    at_positive (λ d. eqb (nat_abs n % nat_abs d) 0 ≡ is_integer (lowest n d))
    (λ k. let p = zero-lt-suc k in
    eqb_iff (λ h. over-gcd_one_of_dvd (nat_abs n) (suc k) p (dvd_of_mod-eq-zero (suc k) h))
    (λ h. mod-eq-zero_of_dvd (suc k) (dvd_of_over-gcd_one (nat_abs n) (suc k) p h)))

pub nonzero_rem-result : goal.nonzero_rem-result
nonzero_rem-result c =
    let h = c.requires in
    subst (λ (k : ℕ). 0 < k) (sym c.magnitude-2.ensures)
    (nat_abs-positive (positive-dens h))

pub returns : goal.returns
unfolding mul_q
returns c =
    let h = c.requires in
    ap₂ (λ (x y : ℕ). eqb (x % y) 0) (c.magnitude.ensures ∙ ap nat_abs (back (nums h) tt))
    (c.magnitude-2.ensures ∙ ap nat_abs (back (dens h) tt))
    ∙ lowest_is_integer (exact (nums h)) (exact (dens h)) (mul-pos h.0.positive h.1.positive)
