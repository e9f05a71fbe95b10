-- The loop's invariant is `Reducing` of Moduli.
use Rattle.poly_simp.proofs.Moduli.{Reducing}
use Rattle.poly_simp.proofs.poly_simp.modulo_all.Given as goal

abbrev pub invariant-loop-k : goal.invariant-loop-k
invariant-loop-k l = Reducing l.initial.entries l.n l.m l.entries l.k
