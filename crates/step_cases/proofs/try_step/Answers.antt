-- The work area is ready for a step after the book was read.
use Rattle.runs.proofs.Prepared.{prepared}
use Rattle.step_cases.proofs.try_step.Goals as goal

pub is_same-same-requires : goal.is_same-same-requires
is_same-same-requires g c = prepared _ _ _ _ c.prepare.ensures c.in-Ok.is
