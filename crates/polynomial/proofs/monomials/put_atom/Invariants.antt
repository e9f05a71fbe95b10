-- The loop's invariant is `Shifted` of PlacedAtoms.
use Rattle.polynomial.proofs.PlacedAtoms.{Shifted}
use Rattle.polynomial.proofs.monomials.put_atom.Given as goal

abbrev pub invariant-loop-k : goal.invariant-loop-k
invariant-loop-k l = Shifted l.initial.key l.at l.key l.k
