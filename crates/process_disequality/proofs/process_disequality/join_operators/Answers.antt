-- The tests are the definition's.
use Rattle.std.proofs.Common.{arith}
use Rattle.std.proofs.lemmas.Bool.Decides.{nat_tests}
use Rattle.numbers.specs.Choice.{when◌then◌else◌}
use Rattle.process_disequality.proofs.process_disequality.join_operators.Goals as goal

pub returns-then-o-eq-GREATER_THAN : goal.returns-then-o-eq-GREATER_THAN
unfolding when◌then◌else◌
returns-then-o-eq-GREATER_THAN c = grind (arith, nat_tests)

pub returns-then-p-eq-GREATER_EQ : goal.returns-then-p-eq-GREATER_EQ
unfolding when◌then◌else◌
returns-then-p-eq-GREATER_EQ c = grind (arith, nat_tests)

pub returns-else-p-eq-GREATER_EQ : goal.returns-else-p-eq-GREATER_EQ
unfolding when◌then◌else◌
returns-else-p-eq-GREATER_EQ c = grind (arith, nat_tests)
