-- The loop goes by the lemmas of ArgWalks; where an argument has arguments of its own, the call has left the bytes and
-- the notes as they were, and the walk of that operation is the walk of the argument.
use Rattle.std.proofs.Common.{arith}
use Rattle.rules.proofs.Results.{handed_on}
use Rattle.linear_walk.proofs.WalkSteps.{args-lower, operation_pre, at_operation, operation-args}
use Rattle.linear_walk.proofs.ArgWalks.{walking_same, walking_more, walking_refused, walking_done, argument-below}
use Rattle.linear_walk.proofs.ArgWalks.{argument_pre}
use Rattle.linear_walk.proofs.linear_walk.+add_args_add_operation.Goals as goal
use Rattle.linear_walk.proofs.linear_walk.+add_args_add_operation.Goals.{add_args-in-Done}
use Rattle.linear_walk.proofs.linear_walk.+add_args_add_operation.Goals.{add_args-in-Deeper+in_ok-done-in-Deeper}

pub add_args-add_flat-requires : goal.add_args-add_flat-requires
add_args-add_flat-requires t c = argument_pre c.requires c.loop-k.invariant c.loop-k-test.true c.argument-x.ensures

pub add_args-returns-in_err-walked : goal.add_args-returns-in_err-walked
add_args-returns-in_err-walked t c =
    rw (handed_on c.from_residual.ensures.1)
    (walking_refused c.requires c.loop-k.invariant c.loop-k-test.true c.argument-x.ensures c.in_err-walked.ensures)

pub add_args-add_operation-requires : goal.add_args-add_operation-requires
add_args-add_operation-requires t c =
    let deeper = rw c.in-Deeper.is at c.in_ok-walked.ensures in
    let next = c.loop-k-test.true in
    let x = c.argument-x.ensures in
    let inv = walking_same c.requires c.loop-k.invariant deeper.0 in
    let below = argument-below c.requires c.loop-k.invariant next x in
    let asks = argument_pre c.requires inv next x in
    (omega (arith, c.decreases, below, args-lower asks deeper.1), operation_pre asks deeper.1)

pub add_args-returns-in_err-done-in-Deeper : goal.add_args-returns-in_err-done-in-Deeper
add_args-returns-in_err-done-in-Deeper t c =
    let deeper = rw c.in-Deeper.is at c.in_ok-walked.ensures in
    let next = c.loop-k-test.true in
    let x = c.argument-x.ensures in
    let inv = walking_same c.requires c.loop-k.invariant deeper.0 in
    let asks = argument_pre c.requires inv next x in
    rw (handed_on c.from_residual-in_err-done-in-Deeper.ensures.1)
    (walking_refused c.requires inv next x (at_operation asks deeper.1 c.in_err-done-in-Deeper.ensures))

pub add_args-loop-k-preserved : goal.add_args-loop-k-preserved
add_args-loop-k-preserved t c =
    let next = c.loop-k-test.true in
    let x = c.argument-x.ensures in
    elim c.match-branch-2.branch [
      | add_args-in-Done w ↦
          let walked = rw w.in-Done.is at c.in_ok-walked.ensures in
          rw (w.entries-is, w.noted-is, w.done-is)
          (walking_more c.requires c.loop-k.invariant next x walked c.add_flat.auto.entries)
      | add_args-in-Deeper+in_ok-done-in-Deeper w ↦
          let deeper = rw w.in-Deeper.is at c.in_ok-walked.ensures in
          let inv = walking_same c.requires c.loop-k.invariant deeper.0 in
          let asks = argument_pre c.requires inv next x in
          let walked = at_operation asks deeper.1 w.in_ok-done-in-Deeper.ensures in
          rw (w.entries-is, w.noted-is, w.done-is)
          (walking_more c.requires inv next x walked w.add_operation.auto.entries)
    ]

pub add_args-returns : goal.add_args-returns
add_args-returns t c = walking_done c.requires c.loop-k.invariant c.loop-k-test.false

pub add_operation-add_args-requires : goal.add_operation-add_args-requires
add_operation-add_args-requires t c =
    (omega (arith, c.decreases), operation-args c.requires _ c.args-part.ensures.terms)
