-- It is `unary` at the operator `not`.
use Rattle.terms.specs.Readers.{remove_negation}
use Rattle.terms.proofs.term.remove_negation.Goals as goal

pub returns : goal.returns
unfolding remove_negation
returns c = c.unary.ensures
