-- Where there is no quotient of integers, one of reals is asked for.
use Rattle.terms.proofs.Children.{whole-quotient, real-quotient}
use Rattle.terms.proofs.term.quotient_of.Goals as goal

pub returns-in_default : goal.returns-in_default
returns-in_default c = whole-quotient c.binary.ensures c.in_default.not-None

pub returns-in-None : goal.returns-in-None
returns-in-None c =
    real-quotient c.binary.ensures c.in-None.is c.binary-in-None.ensures
