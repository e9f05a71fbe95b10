-- The loop's invariant is `Scaling` of ProductTasks: what is left of area j makes the whole.
use Rattle.polynomial.proofs.ProductTasks.{Scaling}
use Rattle.polynomial.proofs.polynomial.insert_scaled.Given as goal

abbrev pub invariant-loop-k : goal.invariant-loop-k
invariant-loop-k l = Scaling l.initial.stack l.j l.n l.q l.t l.m l.stack l.len l.k
