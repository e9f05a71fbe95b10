-- Of an assume the records are counted.
use Rattle.std.proofs.Common.{arith}
use Rattle.std.proofs.lemmas.Bool.Decides.{nat_tests}
use Rattle.runs.proofs.StepReading.{shape_is}
use Rattle.runs.proofs.run.shape_ok.Goals as goal

pub returns-then-ne : goal.returns-then-ne
returns-then-ne c = shape_is _ _ _ _ c.ne.ensures (rw c.if-ne.true)

pub returns-then-clause-eq1 : goal.returns-then-clause-eq1
returns-then-clause-eq1 c = shape_is _ _ _ _ c.ne.ensures (grind (arith, nat_tests))

pub returns-else-clause-eq1 : goal.returns-else-clause-eq1
returns-else-clause-eq1 c = shape_is _ _ _ _ c.ne.ensures (grind (arith, nat_tests))
