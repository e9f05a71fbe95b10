-- A product of two parts is below 2 ^ 62, so the machine has the exact products, and `reduced` answers for them.
use mathlib.Core.Path.{ap₂}
use Rattle.numbers.specs.Rational.{lowest, mul_q}
use Rattle.numbers.proofs.Machine.{back}
use Rattle.numbers.proofs.Ranges.{nums, dens, positive-dens, gives_same}
use Rattle.numbers.proofs.number.Number.mul.Goals as goal

pub returns : goal.returns
unfolding mul_q
returns c =
    let h = c.requires in
    gives_same (ap₂ lowest (back (nums h) tt) (back (dens h) tt)) c.reduced.ensures

pub reduced-requires : goal.reduced-requires
reduced-requires c = positive-dens c.requires
