-- The walk of a record's arguments and the walk of an operation among them, which call each other. What falls is the
-- record's number: each argument is an earlier record, and a term leads to none that is later. The arguments of
-- record i count as 2 i, the operation that it is as 2 i + 1. The loop's invariant is `Walking` of ArgWalks.
use Rattle.std.proofs.Common.{◌+◌, ◌*◌}
use Rattle.linear_walk.proofs.ArgWalks.{Walking}
use Rattle.linear_walk.proofs.linear_walk.+add_args_add_operation.Given as goal

abbrev pub decreases-add_args : goal.decreases-add_args
decreases-add_args l = 2 * l.id

abbrev pub decreases-add_operation : goal.decreases-add_operation
decreases-add_operation l = 2 * l.id + 1

abbrev pub invariant-add_args-loop-k : goal.invariant-add_args-loop-k
invariant-add_args-loop-k l =
    Walking l.book l.fn.entries l.part l.id l.limit l.fn.first l.others l.fn.w
    l.entries l.done l.coeff l.noted l.k
