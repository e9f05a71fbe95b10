-- The numerator is above -2 ^ 31, so its size fits.
use mathlib.Core.Path.{◌∙◌, ap, ap₂}
use lib.IntN.{ℤ, pos, nat_abs}
use Rattle.numbers.specs.Rational.{abs_q, frac}
use Rattle.numbers.proofs.Machine.{returned, back}
use Rattle.numbers.proofs.Ranges.{num, den, makes, proper_abs}
use Rattle.numbers.proofs.number.Number.abs.Goals as goal

pub returns : goal.returns
unfolding abs_q
returns c =
    let p = c.requires in
    let size = returned c.abs.type_inv ∙ c.abs.ensures.value ∙ ap (λ (z : ℤ). pos (nat_abs z)) (back (num p) tt) in
    makes (ap₂ frac size (back (den p) tt)) (proper_abs p)
