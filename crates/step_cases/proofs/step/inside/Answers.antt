-- The walk of `Layouts` goes on at each number that is below the records, and fails at one that is not.
use Rattle.std.proofs.Common.{rules, arith}
use borrow.Author.Tests.{lt-ltb, le-ltb}
use Rattle.terms.proofs.Layouts.{walk_on, walk_fails, all_below_all}
use Rattle.rules.specs.Memory.Parts.{numbers_in}
use Rattle.rules.proofs.RunParts.{length-numbers_in}
use Rattle.step_cases.proofs.step.inside.Goals as goal

pub loop-k-init : goal.loop-k-init
loop-k-init c =
    record { long = length-numbers_in _; inside = search rules; left = all_below_all _ (numbers_in c.args.part.now) }

pub returns-then-n-number_in : goal.returns-then-n-number_in
returns-then-n-number_in c =
    walk_fails c.loop-k.invariant _ 0 c.loop-k-test.true c.number_in.ensures
    (le-ltb _ _ (omega (arith, c.if-n-number_in.true, c.count-n.ensures)))

pub loop-k-preserved : goal.loop-k-preserved
loop-k-preserved c =
    walk_on c.loop-k.invariant _ 0 c.loop-k-test.true c.number_in.ensures
    (lt-ltb _ _ (omega (arith, c.if-n-number_in.false, c.count-n.ensures)))
