-- The loop's invariant is `Multiplying` of ProductTasks: what is left of the right makes the whole.
use Rattle.polynomial.proofs.ProductTasks.{Multiplying}
use Rattle.polynomial.proofs.polynomial.mul_each.Given as goal

abbrev pub invariant-loop-k : goal.invariant-loop-k
invariant-loop-k l = Multiplying l.initial.stack l.x l.c l.n l.m l.stack l.len l.k
