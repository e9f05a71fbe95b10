-- A whole number stays as it is. Over a positive denominator the library's division rounds down, as `floor_z` does.
use mathlib.Core.Path.{◌≡◌, refl, sym, ◌∙◌, ap, ap₂}
use native.Mathlib.Nat.{div-one}
use lib.IntN.{ℤ, pos, negsuc, nat_abs}
use lib.Signed.{◌<ℤ◌}
use mir.Syntax.{w64}
use mir.Val.{to_z}
use Rattle.std.specs.Int.{int_div_euclid}
use Rattle.numbers.specs.Rational.{floor_q, floor_z, frac, whole}
use Rattle.numbers.proofs.Machine.{returned, back}
use Rattle.numbers.proofs.Order.{at_positive}
use Rattle.numbers.proofs.Ranges.{num, den, makes, proper-floor}
use Rattle.numbers.proofs.number.Number.floor.Goals as goal

floor_over_one : (z : ℤ) → z ≡ floor_z z 1
floor_over_one (pos n) = ap pos (sym (div-one n))
floor_over_one (negsuc n) = ap negsuc (sym (div-one n))

pub returns-then-self-eq1 : goal.returns-then-self-eq1
unfolding floor_q
returns-then-self-eq1 c =
    let q = c.args.self in
    let p = c.requires in
    let one = sym (back (den p) tt) ∙ ap (to_z w64) c.if-self-eq1.true in
    makes
    (ap₂ frac (floor_over_one q.num ∙ ap (λ (d : ℤ). floor_z q.num (nat_abs d)) (sym one)) one)
    (proper-floor p)

floor_of_quotient : (z d : ℤ) → pos 0 <ℤ d → int_div_euclid z d ≡ floor_z z (nat_abs d)
floor_of_quotient (pos n) d = at_positive (λ d. int_div_euclid (pos n) d ≡ floor_z (pos n) (nat_abs d)) (λ k. refl) d
floor_of_quotient (negsuc n) d = at_positive (λ d. int_div_euclid (negsuc n) d ≡ floor_z (negsuc n) (nat_abs d)) (λ k. refl) d

pub returns : goal.returns
unfolding floor_q
returns c =
    let q = c.args.self in
    let p = c.requires in
    makes
    (c.whole.ensures
    ∙ ap whole
    (returned c.div_euclid.type_inv ∙ c.div_euclid.ensures
    ∙ ap₂ int_div_euclid (back (num p) tt) (back (den p) tt)
    ∙ floor_of_quotient q.num q.den p.positive))
    (proper-floor p)
