-- There are no more steps than records that are passed, and the last step began at one of them; with the records that
-- are left, they are at most all of them.
use Rattle.std.proofs.Common.{◌+◌, ◌/◌, ◌≤◌, length}
use Rattle.std.specs.Iterator.Adapters.{enumerate_count}
use Rattle.listing.specs.Faults.{steps_of, Before}
use Rattle.listing.proofs.faults.check_run.Given as goal

abbrev pub invariant-loop-i : goal.invariant-loop-i
invariant-loop-i l =
    (goal.iterator-loop-i).can_next l.i-iterator ×
    (goal.iterator-loop-i).is_finite l.i-iterator ×
    (steps_of l.step ≤ enumerate_count l.i-iterator) ×
    Before l.step (enumerate_count l.i-iterator) ×
    (enumerate_count l.i-iterator + (goal.iterator-loop-i).remaining l.i-iterator ≤ length l.run / 4)
