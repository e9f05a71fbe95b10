-- The fraction below a minus is negated; without a minus it is the term's own.
use Rattle.terms.specs.Readers.{ranged, as_unsigned_fraction, as_fraction}
use Rattle.terms.proofs.Findings.{signed-inside, signed-itself}
use Rattle.terms.proofs.term.as_operation.Goals as goal

pub returns-in-Some : goal.returns-in-Some
unfolding as_fraction
returns-in-Some c =
    signed-inside (as_unsigned_fraction ranged) c.unary.ensures c.in-Some.is c.as_unsigned_fraction.ensures
    c.negated.ensures

pub returns-in-None : goal.returns-in-None
unfolding as_fraction
returns-in-None c =
    signed-itself (as_unsigned_fraction ranged) c.unary.ensures c.in-None.is
    c.as_unsigned_fraction-in-None.ensures
