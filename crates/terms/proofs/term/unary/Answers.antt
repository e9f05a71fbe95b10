-- The part that `operands` finds holds the argument; where it finds none the term is no such operation.
use Rattle.terms.proofs.Children.{child-found, child_none}
use Rattle.terms.proofs.term.unary.Goals as goal

pub returns-in_err-args : goal.returns-in_err-args
returns-in_err-args c = rw c.from_residual.ensures (child_none _ _ _ c.in_err-args.ensures)

pub returns : goal.returns
returns c = child-found _ _ _ c.in_ok-args.ensures c.argument.ensures
