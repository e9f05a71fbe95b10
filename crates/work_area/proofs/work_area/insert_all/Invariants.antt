-- Where there are no entries at the start, `copy_all` makes the whole. The loop's invariant is `Inserting` of
-- InsertLoops: what is left to insert makes the whole.
use Rattle.work_area.proofs.InsertLoops.{Inserting}
use Rattle.work_area.proofs.work_area.insert_all.Given as goal

abbrev pub invariant-loop-k : goal.invariant-loop-k
invariant-loop-k l = Inserting l.initial.work l.to l.n l.from l.m l.turned l.work l.len l.k
