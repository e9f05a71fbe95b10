-- The invariant is `Going` of ElaborateLoops: the state is on the way from the first to the end, and what it accepted
-- is written. The measure is how many turns there are to the end.
use Rattle.marking.proofs.CheckLoops.{turns_in}
use Rattle.elaborate.proofs.ElaborateLoops.{Going}
use Rattle.elaborate.proofs.elaborate.elaborate_steps.Given as goal

abbrev pub invariant-loop-e : goal.invariant-loop-e
invariant-loop-e l =
    Going
    (record {
      book = l.book;
      run = l.run;
      limit = l.limit;
      work = l.initial.work;
      out_run = l.initial.outrun;
      out_tail = l.initial.outtail;
    })
    l.work l.outrun l.outtail l.e

abbrev pub decreases-loop-e : goal.decreases-loop-e
decreases-loop-e l = turns_in l.book l.run l.e.state
