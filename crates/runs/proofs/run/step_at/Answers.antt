use Rattle.runs.proofs.StepAreas.{args_end, reached-begin, reached-again, reached-end}
use Rattle.runs.proofs.run.step_at.Goals as goal

pub loop-init : goal.loop-init
loop-init c = reached-begin _ _

pub slice_bounds-step-count : goal.slice_bounds-step-count
slice_bounds-step-count c = args_end _ c.parts.ensures

pub slice_bounds-step-start : goal.slice_bounds-step-start
slice_bounds-step-start c = args_end _ c.parts.ensures

pub loop-preserved : goal.loop-preserved
loop-preserved c = reached-again _ _ _ _ c.loop.invariant c.loop-test.true c.parts.ensures

pub returns : goal.returns
returns c = reached-end _ _ _ _ c.loop.invariant c.loop-test.false
