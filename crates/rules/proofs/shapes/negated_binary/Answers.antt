-- The relation stands below the negation.
use mathlib.Core.Path.{sym}
use Rattle.rules.specs.Shapes.{negated_binary}
use Rattle.rules.proofs.shapes.negated_binary.Goals as goal

pub returns-in_err-remove_negation : goal.returns-in_err-remove_negation
unfolding negated_binary
returns-in_err-remove_negation c =
    rw (c.from_residual.ensures, negated_binary, sym c.in_err-remove_negation.ensures.is)

pub returns : goal.returns
unfolding negated_binary
returns c = rw (negated_binary, sym c.in_ok-remove_negation.ensures.is) c.binary.ensures.is
