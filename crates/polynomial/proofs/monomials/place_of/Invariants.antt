-- The loop's invariant is `Searched` of AtomPlaces.
use Rattle.polynomial.proofs.AtomPlaces.{Searched}
use Rattle.polynomial.proofs.monomials.place_of.Given as goal

abbrev pub invariant-loop-k : goal.invariant-loop-k
invariant-loop-k l = Searched l.key l.n l.atom l.k
