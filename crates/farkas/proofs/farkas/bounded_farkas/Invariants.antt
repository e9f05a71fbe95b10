-- The invariant is `TracedSoFar` of TracedFold: that of `la_generic_partial`, and what was inferred so far is written.
-- The measure is how many literals are left; it falls, since a fold that infers a number has done at least one.
use Prim.Native.Nat.{◌-◌, ◌/◌}
use lib.ListN.{length}
use Rattle.farkas.proofs.TracedFold.{TracedSoFar}
use Rattle.farkas.proofs.farkas.bounded_farkas.Given as goal

abbrev pub invariant-loop-q : goal.invariant-loop-q
invariant-loop-q l =
    TracedSoFar
    (record { book = l.book; literals = l.literals; args = l.args; limit = l.counter.limit; work = l.initial.work })
    l.counter.visits l.initial.outrun l.initial.outtail l.initial.written l.work l.p l.done l.outrun l.outtail l.written

abbrev pub decreases-loop-q : goal.decreases-loop-q
decreases-loop-q l = length l.literals / 4 - l.done
