-- An operation has its operator.
use mathlib.Core.Path.{sym, ap}
use Rattle.std.specs.Prelude.{ℕ, Ok}
use Rattle.terms.specs.Readers.{as_op}
use Rattle.terms.specs.Book.{tree}
use Rattle.rules.specs.Limits.{op_err}
use Rattle.rules.proofs.ExpectedTerms.{operator_law}
use Rattle.rules.proofs.readers.as_op_err.Goals as goal

pub returns-then-is_operation : goal.returns-then-is_operation
unfolding op_err
returns-then-is_operation c =
    rw (operator_law (as_op (tree c.args.book.now c.args.id)), sym c.is_operation.ensures, c.if-is_operation.true)
    (ap (λ (o : ℕ). Ok o) c.operator.ensures)

pub returns : goal.returns
unfolding op_err
returns c =
    rw (operator_law (as_op (tree c.args.book.now c.args.id)), sym c.is_operation.ensures, c.if-is_operation.false)
