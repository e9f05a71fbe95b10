-- Each return is a case of the definition's two tests.
use Rattle.std.proofs.Common.{rules}
use Rattle.numbers.specs.Choice.{when◌then◌else◌}
use Rattle.linear_arithmetic.specs.LinearArithmetic.{is_true_at_zero}
use Rattle.linear_arithmetic.proofs.linear_arithmetic.is_true_at_zero.Goals as goal

pub returns-then-is_positive : goal.returns-then-is_positive
unfolding is_true_at_zero when◌then◌else◌
returns-then-is_positive c = search rules

pub returns-then-is_zero : goal.returns-then-is_zero
unfolding is_true_at_zero when◌then◌else◌
returns-then-is_zero c = search rules

pub returns : goal.returns
unfolding is_true_at_zero when◌then◌else◌
returns c = search rules
