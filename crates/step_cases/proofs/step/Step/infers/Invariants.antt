-- The invariant is that of `la_generic_partial` (linear_arithmetic's PartialFold), with some trace. The measure is how
-- many literals are left; it falls, since a fold that infers a number has done at least one.
use Rattle.std.proofs.Common.{List, ◌-◌, ◌/◌, length}
use Rattle.numbers.specs.Rational.{Rational}
use Rattle.linear_arithmetic.proofs.PartialFold.{PartSoFar}
use Rattle.step_cases.proofs.step.Step.infers.Given as goal

abbrev pub invariant-loop-folded : goal.invariant-loop-folded
invariant-loop-folded l =
    (t : List Rational)
    × PartSoFar
    (record { book = l.book; literals = l.literals; args = l.args; limit = 1000000; work = l.initial.work })
    0 t l.work l.p l.done

abbrev pub decreases-loop-folded : goal.decreases-loop-folded
decreases-loop-folded l = length l.literals / 4 - l.done
