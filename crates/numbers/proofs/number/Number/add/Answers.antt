-- A product of two parts is below 2 ^ 62 and a sum of two such below 2 ^ 63, so the machine has the exact numbers, and
-- `reduced` answers for them.
use mathlib.Core.Path.{ap₂}
use Rattle.numbers.specs.Rational.{lowest, add_q}
use Rattle.numbers.proofs.Machine.{◌⊞◌, fits, back}
use Rattle.numbers.proofs.Ranges.{left_cross, right_cross, dens, positive-dens, gives_same}
use Rattle.numbers.proofs.number.Number.add.Goals as goal

pub returns : goal.returns
unfolding add_q
returns c =
    let h = c.requires in
    gives_same (ap₂ lowest (back (left_cross h ⊞ right_cross h) tt) (back (dens h) tt)) c.reduced.ensures

pub reduced-requires : goal.reduced-requires
reduced-requires c = positive-dens c.requires

pub overflow_add-self : goal.overflow_add-self
overflow_add-self c = fits (left_cross c.requires ⊞ right_cross c.requires) tt

pub overflow_mul-self-2 : goal.overflow_mul-self-2
overflow_mul-self-2 c = fits (dens c.requires) tt
