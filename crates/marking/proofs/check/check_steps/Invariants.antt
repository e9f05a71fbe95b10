-- The invariant is `OnTheWay` of CheckLoops: the state is on the way from the first to the end; and the work area is as
-- it was. The measure is how many turns there are to the end.
use mathlib.Core.Path.{◌≡◌}
use Rattle.marking.proofs.CheckLoops.{OnTheWay, turns_in}
use Rattle.marking.proofs.check.check_steps.Given as goal

abbrev pub invariant-loop-s : goal.invariant-loop-s
invariant-loop-s l = record {
  way : OnTheWay l.book l.run l.limit l.s;
  same : l.work ≡ l.fn.work;
}

abbrev pub decreases-loop-s : goal.decreases-loop-s
decreases-loop-s l = turns_in l.book l.run l.s
