-- The loop's invariant is `Solving` of FormSteps, over the equations that the iterator has left.
use mathlib.Core.Path.{◌≡◌}
use Rattle.rules.proofs.FormSteps.{Solving}
use Rattle.rules.proofs.shapes.matches.Given as goal

abbrev pub invariant-loop-e : goal.invariant-loop-e
invariant-loop-e l =
    (l.e-iterator.size ≡ 6) × Solving l.book l.initial.names l.form l.names l.n l.e-iterator.rest.now
