-- The parts of the quotient are products of two parts, below 2 ^ 62. Where the divisor is negative so is the second,
-- and both are negated, as `upright` does.
use mathlib.Core.Path.{◌≡◌, refl, sym, ◌∙◌, ap₂, subst}
use mathlib.Core.Bool.{false}
use Prim.Native.Nat.{ℕ, zero, suc, ◌<◌}
use native.Mathlib.Nat.{mul-pos, zero-lt-suc}
use borrow.Author.Tests.{eqb-false}
use lib.IntN.{ℤ, pos, negsuc, nat_abs, neg_ℤ}
use lib.Signed.{◌<ℤ◌}
use Rattle.numbers.specs.Pair.{eq_z}
use Rattle.numbers.specs.Rational.{Rational, Proper, Divisor, lowest, upright, div_q, is_zero}
use Rattle.numbers.proofs.Integers.{nat_abs_*ℤ}
use Rattle.numbers.proofs.Machine.{Code, ◌⊠◌, exact, back, back-negated, at_negative, at_natural}
use Rattle.numbers.proofs.Order.{pos-positive, nat_abs-positive}
use Rattle.numbers.proofs.Ranges.{num, den, gives_same}
use Rattle.numbers.proofs.number.Number.div.Goals as goal

-- ---- the second part is not 0, so it is positive once its sign is
size_of_nonzero : (z : ℤ) → eq_z z (pos 0) ≡ false → 0 < nat_abs z
size_of_nonzero (pos zero) e = absurd (eqb-false 0 0 e refl)
size_of_nonzero (pos (suc k)) e = zero-lt-suc k
size_of_nonzero (negsuc k) e = zero-lt-suc k

module _ {a b : Rational} (h : Proper a × Divisor b) where
  abbrev n : Code
  n = num h.0 ⊠ den h.1.proper

  abbrev d : Code
  d = den h.0 ⊠ num h.1.proper

  size_of_d : 0 < nat_abs (exact d)
  unfolding is_zero
  size_of_d =
      subst (λ (k : ℕ). 0 < k) (sym (nat_abs_*ℤ a.den b.num))
      (mul-pos (nat_abs-positive h.0.positive) (size_of_nonzero b.num h.1.nonzero))

pub reduced-requires-else-d-lt0 : goal.reduced-requires-else-d-lt0
reduced-requires-else-d-lt0 c =
    let m = d c.requires in
    subst (λ (z : ℤ). pos 0 <ℤ z) (sym (back m tt))
    (at_natural (λ z. 0 < nat_abs z → pos 0 <ℤ z) (λ k. pos-positive) (back m tt) c.if-d-lt0.false (size_of_d c.requires))

-- ---- the answer
pub returns-then-d-lt0 : goal.returns-then-d-lt0
unfolding div_q
returns-then-d-lt0 c =
    let h = c.requires in
    let N = exact (n h) in
    gives_same
    (ap₂ lowest (back-negated (n h) tt) (back-negated (d h) tt)
    ∙ at_negative (λ z. lowest (neg_ℤ N) (neg_ℤ z) ≡ upright N z) (λ k. refl) (back (d h) tt) c.if-d-lt0.true)
    c.reduced.ensures

pub returns-else-d-lt0 : goal.returns-else-d-lt0
unfolding div_q
returns-else-d-lt0 c =
    let h = c.requires in
    let N = exact (n h) in
    gives_same
    (ap₂ lowest (back (n h) tt) (back (d h) tt)
    ∙ at_natural (λ z. lowest N z ≡ upright N z) (λ k. refl) (back (d h) tt) c.if-d-lt0.false)
    c.reduced-else-d-lt0.ensures
