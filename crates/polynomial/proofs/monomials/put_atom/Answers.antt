use Rattle.polynomial.proofs.AtomPlaces.{key-count}
use Rattle.polynomial.proofs.PlacedAtoms.{shifted_none, shifted-more, shifted-done}
use Rattle.polynomial.proofs.monomials.put_atom.Goals as goal

pub loop-k-init : goal.loop-k-init
loop-k-init c = shifted_none c.place_of-at.ensures.upper_bound

pub loop-k-preserved : goal.loop-k-preserved
loop-k-preserved c =
    shifted-more c.loop-k.invariant c.loop-k.auto.k c.loop-k-test.true c.read_u16-moved.ensures c.write_u16.ensures

pub returns-clause-key : goal.returns-clause-key
returns-clause-key c b m t h room a number =
    shifted-done c.loop-k.invariant c.loop-k.auto.k c.loop-k-test.false c.write_u16-2.ensures b m t h room a number
    (c.place_of-at.ensures.value b m h (key-count h))
