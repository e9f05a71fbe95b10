-- There are no more steps than records that are passed: with the records that are left, at most all of them.
use Rattle.std.proofs.Common.{◌+◌, ◌≤◌}
use Rattle.listing.proofs.steps.print_steps.Given as goal

abbrev pub invariant-loop-r : goal.invariant-loop-r
invariant-loop-r g l =
    (goal.iterator-loop-r g).can_next l.r-iterator ×
    (goal.iterator-loop-r g).is_finite l.r-iterator ×
    (l.n + (goal.iterator-loop-r g).remaining l.r-iterator ≤
    (goal.iterator-loop-r g).remaining l.initial.r-iterator)
