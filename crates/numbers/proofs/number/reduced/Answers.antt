-- Over 1 the number is whole, and in lowest terms. Else the greatest common divisor is positive and at most d, so it fits, and so do both quotients by it: they are `lowest`.
use mathlib.Core.Path.{◌≡◌, sym, ◌∙◌, ap, ap₂, subst}
use Prim.Native.Nat.{ℕ, zero, suc, ◌/◌, ◌≤◌, ◌<◌}
use native.Mathlib.Nat.{div-le_self, le_of_dvd, lt_of_le_of_lt, zero-lt-suc}
use native.Mathlib.Omega.{arith}
use lib.IntN.{ℤ, pos, negsuc, nat_abs, neg_ℤ}
use lib.Signed.{mag, quot_z, ◌<ℤ◌}
use mir.Syntax.{w64}
use mir.Val.{SFits, to_z}
use mir.Facts.{to_z-of_z, to_z_pos}
use Rattle.numbers.specs.Rational.{gcd, lowest, divided_by, frac, checked}
use Rattle.numbers.proofs.Divisors.{gcd-pos, gcd_dvd_right}
use Rattle.numbers.proofs.Machine.{R, read_as}
use Rattle.numbers.proofs.Order.{at_positive}
use Rattle.numbers.proofs.Ranges.{gives}
use Rattle.numbers.proofs.LowestTerms.{lowest-pos, lowest-whole}
use Rattle.numbers.proofs.number.reduced.Goals as goal

-- ---- a quotient by a positive number
mag_negℤ_le : (r : ℕ) {a : ℕ} → r ≤ suc a → mag (neg_ℤ (pos r)) ≤ a
mag_negℤ_le zero h = omega arith
mag_negℤ_le (suc r) h = omega arith

mag_quot_z_le : (z : ℤ) (g : ℕ) → mag (quot_z z (pos g)) ≤ mag z
mag_quot_z_le (pos a) g = div-le_self a g
mag_quot_z_le (negsuc a) g = mag_negℤ_le (suc a / g) (div-le_self (suc a) g)

module _ (z : ℤ) (f : SFits w64 z) (g : ℕ) (h : SFits w64 (pos g)) where
  quotient_is : quot_z (R z) (to_z w64 g) ≡ quot_z z (pos g)
  quotient_is = ap₂ quot_z (to_z-of_z f) (to_z_pos w64 h.sfits)

  exact-fits : SFits w64 (quot_z z (pos g))
  exact-fits = record { sfits = lt_of_le_of_lt (mag_quot_z_le z g) f.sfits }

  quotient_fits : SFits w64 (quot_z (R z) (to_z w64 g))
  quotient_fits = subst (SFits w64) (sym quotient_is) exact-fits

  quotient-back : R (quot_z (R z) (to_z w64 g)) ≡ quot_z z (pos g)
  quotient-back = read_as quotient_is exact-fits

-- ---- the divisor is positive and fits
abbrev PositiveFits : ℕ → Type 0
PositiveFits g = (0 < g) × SFits w64 (pos g)

gcd_positive_fits : (n d : ℤ) → pos 0 <ℤ d → SFits w64 d → PositiveFits (gcd (nat_abs n) (nat_abs d))
gcd_positive_fits n =
    at_positive (λ d. SFits w64 d → PositiveFits (gcd (nat_abs n) (nat_abs d)))
    (λ k f.
    let p = zero-lt-suc k in
    let le = le_of_dvd p (gcd_dvd_right (nat_abs n) (suc k)) in
    (gcd-pos (nat_abs n) (suc k) p, record { sfits = lt_of_le_of_lt le f.sfits }))

divisor : (c : goal.After-gcd-g) → c.gcd-g.result ≡ gcd (nat_abs c.args.n) (nat_abs c.args.d)
divisor c =
    c.gcd-g.ensures
    ∙ ap₂ gcd (c.magnitude.ensures ∙ ap nat_abs (to_z-of_z c.ranges.n))
    (c.magnitude-2.ensures ∙ ap nat_abs (to_z-of_z c.ranges.d))

positive_fits : (c : goal.After-gcd-g) → PositiveFits c.gcd-g.result
positive_fits c =
    let s = c in
    subst PositiveFits (sym (divisor c)) (gcd_positive_fits s.args.n s.args.d s.requires s.ranges.d)

-- ---- the function
pub nonzero_div-n : goal.nonzero_div-n
nonzero_div-n c =
    let h = positive_fits c in
    (h.0, quotient_fits c.args.n c.ranges.n c.gcd-g.result h.1)

pub nonzero_div-d : goal.nonzero_div-d
nonzero_div-d c =
    let h = positive_fits c in
    (h.0, quotient_fits c.args.d c.ranges.d c.gcd-g.result h.1)

pub returns-then-d-eq1 : goal.returns-then-d-eq1
returns-then-d-eq1 c =
    let s = c in
    let one : s.args.d ≡ pos 1 = sym (to_z-of_z s.ranges.d) ∙ ap (to_z w64) c.if-d-eq1.true in
    gives (lowest s.args.n s.args.d) (lowest-pos s.args.n s.args.d s.requires)
    (c.in_range.ensures
    ∙ ap₂ (λ (x y : ℤ). checked (frac x y)) (to_z-of_z s.ranges.n) (to_z-of_z s.ranges.d ∙ one)
    ∙ ap checked (sym (lowest-whole s.args.n) ∙ ap (lowest s.args.n) (sym one)))

pub returns : goal.returns
unfolding lowest
returns c =
    let s = c in
    let n = s.args.n in
    let d = s.args.d in
    let g = c.gcd-g.result in
    let h = (positive_fits c.before).1 in
    gives (lowest n d) (lowest-pos n d s.requires)
    (c.in_range-2.ensures
    ∙ ap₂ (λ (x y : ℤ). checked (frac x y)) (quotient-back n s.ranges.n g h) (quotient-back d s.ranges.d g h)
    ∙ ap (λ (k : ℕ). checked (divided_by k n d)) (divisor c.before))

pub overflow_cast-g : goal.overflow_cast-g
overflow_cast-g c = (positive_fits c).1
