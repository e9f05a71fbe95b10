-- The loop's invariant is `Joining` of PlacedAtoms.
use Rattle.polynomial.proofs.PlacedAtoms.{Joining}
use Rattle.polynomial.proofs.monomials.join.Given as goal

abbrev pub invariant-loop-k : goal.invariant-loop-k
invariant-loop-k l = Joining l.initial.key l.other l.key l.k
