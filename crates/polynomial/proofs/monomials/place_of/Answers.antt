use Rattle.polynomial.proofs.AtomPlaces.{search_end, search_found, search_more}
use Rattle.polynomial.proofs.monomials.place_of.Goals as goal

pub loop-k-preserved : goal.loop-k-preserved
loop-k-preserved c =
    search_more _ _ _ c.loop-k.invariant c.loop-k-test.true c.read_u16.ensures c.if-atom-read_u16.false

pub returns-then-atom-read_u16-clause-value : goal.returns-then-atom-read_u16-clause-value
returns-then-atom-read_u16-clause-value c =
    search_found _ _ _ c.loop-k.invariant c.loop-k-test.true c.read_u16.ensures c.if-atom-read_u16.true

pub returns-clause-value : goal.returns-clause-value
returns-clause-value c = search_end _ _ _ c.loop-k.invariant c.loop-k.auto.k-end c.loop-k-test.false
