-- The machine reads the numerator back as it is.
use borrow.Author.Rules.{rules}
use Rattle.numbers.specs.Rational.{is_positive}
use Rattle.numbers.proofs.number.Number.is_positive.Goals as goal

pub returns : goal.returns
unfolding is_positive
returns c = search rules
