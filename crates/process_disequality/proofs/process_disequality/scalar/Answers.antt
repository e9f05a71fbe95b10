-- The operator is = or it is not, in the code as in the definition.
use Rattle.std.proofs.Common.{arith}
use Rattle.std.proofs.lemmas.Bool.Decides.{nat_tests}
use Rattle.numbers.specs.Choice.{when◌then◌else◌}
use Rattle.process_disequality.proofs.process_disequality.scalar.Goals as goal

pub returns-in-4 : goal.returns-in-4
unfolding when◌then◌else◌
returns-in-4 c = grind (arith, nat_tests)

pub returns-in_default : goal.returns-in_default
unfolding when◌then◌else◌
returns-in_default c = grind (arith, nat_tests)
