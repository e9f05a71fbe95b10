-- The loop goes from step to step. The measure is how many bytes are left.
use lib.ListN.{length}
use Rattle.runs.proofs.StepReading.{ReadSoFar}
use Rattle.runs.proofs.run.read_run.Given as goal

abbrev pub invariant-loop-left : goal.invariant-loop-left
invariant-loop-left l = ReadSoFar l.book l.run l.left l.n

abbrev pub decreases-loop-left : goal.decreases-loop-left
decreases-loop-left l = length l.left
