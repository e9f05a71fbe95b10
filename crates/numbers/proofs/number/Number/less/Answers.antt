-- The two cross products are below 2 ^ 62, so the machine compares the exact numbers.
use lib.Signed.{lt_z}
use Rattle.numbers.specs.Rational.{less_q}
use Rattle.numbers.proofs.Ranges.{compared}
use Rattle.numbers.proofs.number.Number.less.Goals as goal

pub returns : goal.returns
unfolding less_q
returns c = compared c.requires lt_z
