-- The number below a minus is negated; without a minus it is the term's own.
use Rattle.terms.specs.Readers.{as_number, as_signed_number}
use Rattle.terms.proofs.Findings.{signed-inside, signed-itself}
use Rattle.terms.proofs.term.as_signed_number.Goals as goal

pub returns-in-Some : goal.returns-in-Some
unfolding as_signed_number
returns-in-Some c =
    signed-inside as_number c.unary.ensures c.in-Some.is c.as_number.ensures
    c.negated.ensures

pub returns-in-None : goal.returns-in-None
unfolding as_signed_number
returns-in-None c =
    signed-itself as_number c.unary.ensures c.in-None.is
    c.as_number-in-None.ensures
