-- The tests are those of `read_step`, in three groups.
use Rattle.std.proofs.Common.{arith}
use Rattle.runs.proofs.StepReading.{shape-in, step-tests}
use Rattle.runs.proofs.run.step_ok.Goals as goal

pub returns-then-parts_ok : goal.returns-then-parts_ok
returns-then-parts_ok c =
    let shape = shape-in _ c.rule_in.ensures c.premises.ensures c.clause.ensures c.args-then-parts_ok.ensures
    c.shape_ok.ensures in
    step-tests _ _ _ (grind (arith, shape))

pub returns-else-parts_ok : goal.returns-else-parts_ok
returns-else-parts_ok c = step-tests _ _ _ (grind arith)
