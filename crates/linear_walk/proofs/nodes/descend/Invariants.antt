-- The loop's invariant is `Reaches` of Places: the walk of the first record is the walk of the record that is reached,
-- whatever the sum is.
use Rattle.linear_walk.proofs.Places.{Reaches}
use Rattle.linear_walk.proofs.nodes.descend.Given as goal

abbrev pub invariant-loop-made : goal.invariant-loop-made
invariant-loop-made l = Reaches l.book l.limit l.id l.initial.c l.visits l.x l.c l.made
