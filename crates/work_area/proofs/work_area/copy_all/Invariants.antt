-- The loop's invariant is `Inserting` of InsertLoops with no entries at the start: what is left to insert makes the
-- whole, and its keys are absent.
use Rattle.work_area.proofs.InsertLoops.{Inserting}
use Rattle.work_area.proofs.work_area.copy_all.Given as goal

abbrev pub invariant-loop-k : goal.invariant-loop-k
invariant-loop-k l = Inserting l.initial.work l.to 0 l.from l.m l.turned l.work l.len l.k
