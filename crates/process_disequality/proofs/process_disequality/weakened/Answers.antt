-- The test is the definition's.
use Rattle.std.proofs.Common.{arith}
use Rattle.std.proofs.lemmas.Bool.Decides.{nat_tests}
use Rattle.numbers.specs.Choice.{when◌then◌else◌}
use Rattle.process_disequality.proofs.process_disequality.weakened.Goals as goal

pub returns-then-is_zero : goal.returns-then-is_zero
unfolding when◌then◌else◌
returns-then-is_zero c = grind (arith, nat_tests)

pub returns-else-o-eq-GREATER_THAN : goal.returns-else-o-eq-GREATER_THAN
unfolding when◌then◌else◌
returns-else-o-eq-GREATER_THAN c = grind (arith, nat_tests)
