-- The loop's invariant is `MultiplyingLeft` of ProductTasks: what is left of the left makes the whole.
use Rattle.polynomial.proofs.ProductTasks.{MultiplyingLeft}
use Rattle.polynomial.proofs.polynomial.mul_left.Given as goal

abbrev pub invariant-loop-k : goal.invariant-loop-k
invariant-loop-k l = MultiplyingLeft l.initial.stack l.p l.n l.constant l.stack l.len l.k
