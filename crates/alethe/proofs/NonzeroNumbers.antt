-- A product of two numbers that are not 0 is not 0, and neither is the negation of one. The numbers need not
-- be in lowest terms: `lowest` divides the numerator by a divisor of it, which leaves no 0.
use mathlib.Core.Path.{◌≡◌, refl, subst}
use mathlib.Core.Bool.{false}
use Prim.Native.Nat.{ℕ, zero, suc, ◌<◌, ◌/◌, ◌∣◌}
use native.Mathlib.Nat.{zero-lt-suc, mul-pos, pos_of_dvd_of_pos, dvd-mul_right, div-mul_cancel}
use native.Mathlib.Omega.{arith}
use borrow.Author.Tests.{ne_eqb}
use lib.Dec.{T}
use lib.IntN.{ℤ, pos, negsuc, neg_ℤ, nat_abs, ◌*ℤ◌}
use lib.Signed.{quot_z}
use Rattle.numbers.specs.Pair.{eq_z}
use Rattle.numbers.specs.Rational.{Rational, gcd, lowest, mul_q, neg_q, is_zero}
use Rattle.numbers.proofs.Integers.{nat_abs_negℤ, nat_abs_*ℤ}
use Rattle.numbers.proofs.Divisors.{gcd_dvd_left}
use Rattle.numbers.proofs.LowestTerms.{nat_abs-quot_z}

nonzero : (z : ℤ) → eq_z z (pos 0) ≡ false → 0 < nat_abs z
nonzero (pos zero) e = absurd (subst T e tt)
nonzero (pos (suc n)) e = zero-lt-suc n
nonzero (negsuc n) e = zero-lt-suc n

nonzero-test : (z : ℤ) → 0 < nat_abs z → eq_z z (pos 0) ≡ false
nonzero-test (pos n) h = ne_eqb n 0 (omega arith)
nonzero-test (negsuc n) h = refl

pub neg_q-nonzero : (a : Rational) → is_zero a ≡ false → is_zero (neg_q a) ≡ false
unfolding is_zero neg_q
neg_q-nonzero a h = nonzero-test (neg_ℤ a.num) (rw nat_abs_negℤ (nonzero a.num h))

-- an exact quotient
over-divisor : (n g : ℕ) → g ∣ n → 0 < n → 0 < n / g
over-divisor n g d h =
    pos_of_dvd_of_pos (subst (λ (k : ℕ). n / g ∣ k) (div-mul_cancel g d) (dvd-mul_right (n / g) g)) h

pub mul_q-nonzero : (a b : Rational) → is_zero a ≡ false → is_zero b ≡ false → is_zero (mul_q a b) ≡ false
unfolding is_zero mul_q lowest
mul_q-nonzero a b h k =
    let n = a.num *ℤ b.num in
    let p : 0 < nat_abs n = rw nat_abs_*ℤ (mul-pos (nonzero a.num h) (nonzero b.num k)) in
    let d = nat_abs (a.den *ℤ b.den) in
    let g = gcd (nat_abs n) d in
    nonzero-test (quot_z n (pos g)) (rw nat_abs-quot_z (over-divisor (nat_abs n) g (gcd_dvd_left (nat_abs n) d) p))
