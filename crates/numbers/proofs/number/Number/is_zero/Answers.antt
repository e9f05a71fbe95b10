-- A number has the bits of 0 where it is 0.
use lib.IntN.{pos}
use mir.Facts.{sfits_lit}
use borrow.Author.Rules.{rules}
use Rattle.numbers.specs.Rational.{is_zero}
use Rattle.numbers.proofs.Machine.{eqb-of_z}
use Rattle.numbers.proofs.number.Number.is_zero.Goals as goal

pub returns : goal.returns
unfolding is_zero
returns c = eqb-of_z c.args.self.num (pos 0) (search rules) (sfits_lit tt)
