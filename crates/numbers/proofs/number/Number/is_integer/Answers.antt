-- A number has the bits of 1 where it is 1.
use lib.IntN.{pos}
use mir.Facts.{sfits_lit}
use borrow.Author.Rules.{rules}
use Rattle.numbers.specs.Rational.{is_integer}
use Rattle.numbers.proofs.Machine.{eqb-of_z}
use Rattle.numbers.proofs.number.Number.is_integer.Goals as goal

pub returns : goal.returns
unfolding is_integer
returns c = eqb-of_z c.args.self.den (pos 1) (search rules) (sfits_lit tt)
