-- The tests are those of the first record, one after the other.
use Rattle.std.proofs.Common.{arith}
use Rattle.std.proofs.lemmas.Bool.Decides.{nat_tests}
use Rattle.runs.specs.Memory.StepParts.{head_in}
use Rattle.runs.proofs.StepRules.{head-tests}
use Rattle.runs.proofs.run.head_ok.Goals as goal

pub returns-then-is_some : goal.returns-then-is_some
unfolding head_in
returns-then-is_some c =
    head-tests (head_in c.args.step.now) (grind (arith, nat_tests))

pub returns-else-is_some : goal.returns-else-is_some
unfolding head_in
returns-else-is_some c =
    head-tests (head_in c.args.step.now) (grind (arith, nat_tests))
