-- The numerator is below 2 ^ 31, so its negation fits.
use mathlib.Core.Path.{ap₂}
use Rattle.numbers.specs.Rational.{neg_q, frac}
use Rattle.numbers.proofs.Machine.{back, back-negated}
use Rattle.numbers.proofs.Ranges.{num, den, makes, proper-neg}
use Rattle.numbers.proofs.number.Number.neg.Goals as goal

pub returns : goal.returns
unfolding neg_q
returns c =
    let p = c.requires in
    makes (ap₂ frac (back-negated (num p) tt) (back (den p) tt)) (proper-neg p)
