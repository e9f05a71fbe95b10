-- As `unary`, for two arguments.
use Rattle.terms.proofs.Children.{children-found, children_none}
use Rattle.terms.proofs.term.binary.Goals as goal

pub returns-in_err-args : goal.returns-in_err-args
returns-in_err-args c = rw c.from_residual.ensures (children_none _ _ _ c.in_err-args.ensures)

pub returns : goal.returns
returns c = children-found _ _ _ c.in_ok-args.ensures c.argument.ensures c.argument-2.ensures
