-- The invariant is `PartSoFar` of PartialFold, whatever was inferred: the whole fold ends where the fold from the
-- literals that are done ends.
-- The measure is how many literals are left; it falls, since a fold that infers a number has done at least one.
use mathlib.Core.List.{List}
use Prim.Native.Nat.{◌-◌, ◌/◌}
use lib.ListN.{length}
use Rattle.numbers.specs.Rational.{Rational}
use Rattle.linear_arithmetic.proofs.PartialFold.{PartSoFar}
use Rattle.linear_arithmetic.proofs.linear_arithmetic.la_generic_partial.Given as goal

abbrev pub invariant-loop-q : goal.invariant-loop-q
invariant-loop-q l =
    (t : List Rational)
    × PartSoFar
    (record { book = l.book; literals = l.literals; args = l.args; limit = l.counter.limit; work = l.initial.work })
    l.counter.visits t l.work l.p l.done

abbrev pub decreases-loop-q : goal.decreases-loop-q
decreases-loop-q l = length l.literals / 4 - l.done
