use native.Mathlib.Omega.{arith}
use Rattle.rules.proofs.Results.{handed_on}
use Rattle.rules.proofs.RunParts.{length-numbers_in}
use Rattle.linear_arithmetic.proofs.FoldedAreas.{so_far-begin, so_far-end, phi-below}
use Rattle.linear_arithmetic.proofs.FoldedAreas.{step-refused, step-inferred, step-again}
use Rattle.linear_arithmetic.proofs.linear_arithmetic.fold_literals.Goals as goal

pub loop-k-init : goal.loop-k-init
loop-k-init c = so_far-begin _ _ c.requires.folding.0 c.requires.folding.1 c.requires.all_numbers

pub number_in-phi-requires : goal.number_in-phi-requires
number_in-phi-requires c = omega (arith, length-numbers_in c.args.literals.now)

pub process_disequality-requires : goal.process_disequality-requires
process_disequality-requires c =
    let far = c.loop-k.invariant in (
      far.folding,
      (phi-below far c.loop-k-test.true c.number_in-phi.ensures, c.argument_at-arg.ensures.coefficient_proper),
    )

pub returns-in_err-next : goal.returns-in_err-next
returns-in_err-next c =
    rw (handed_on c.from_residual.ensures.1)
    (step-refused c.loop-k.invariant c.loop-k-test.true c.number_in-phi.ensures _
    c.argument_at-arg.ensures.by_index c.in_err-next.ensures)

pub returns-in-Some : goal.returns-in-Some
returns-in-Some c =
    step-inferred c.loop-k.invariant c.loop-k-test.true c.number_in-phi.ensures _
    c.argument_at-arg.ensures.by_index (rw c.in-Some.is at c.in_ok-next.ensures)

pub loop-k-preserved : goal.loop-k-preserved
loop-k-preserved c =
    step-again c.loop-k.invariant c.loop-k-test.true c.number_in-phi.ensures _
    c.argument_at-arg.ensures.by_index (rw c.in_default.is at c.in_ok-next.ensures)

pub returns : goal.returns
returns c = so_far-end c.loop-k.invariant c.loop-k-test.false
