-- The invariant is `Reached` of StepAreas: the step begins there.
use Rattle.runs.proofs.StepAreas.{Reached}
use Rattle.runs.proofs.run.step_at.Given as goal

abbrev pub invariant-loop : goal.invariant-loop
invariant-loop l = Reached l.run l.k l.step l.counter
