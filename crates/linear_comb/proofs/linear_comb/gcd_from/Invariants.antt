-- The loop's invariant is `Dividing` of CoefficientDivisors: what is left to do from the divisor so far is what the
-- definition does from the start.
use Rattle.linear_comb.proofs.CoefficientDivisors.{Dividing}
use Rattle.linear_comb.proofs.linear_comb.gcd_from.Given as goal

abbrev pub invariant-loop-k : goal.invariant-loop-k
invariant-loop-k l = Dividing l.entries l.n l.start l.result l.k
