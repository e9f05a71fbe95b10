-- The node by what the term is read as: a number, a bit-vector, whose value fits, or neither.
use Rattle.polynomial_walk.proofs.NodeAnswers.{bits_fit, bits-whole, bits-proper, leaf-number, leaf-outside}
use Rattle.polynomial_walk.proofs.NodeAnswers.{leaf-vector, leaf-atom}
use Rattle.polynomial_walk.proofs.polynomial_walk.leaf.Goals as goal

pub overflow_cast-v : goal.overflow_cast-v
overflow_cast-v c = bits_fit _ _ c.in-Some.ensures.is

pub constant-requires-in-Some : goal.constant-requires-in-Some
constant-requires-in-Some c = (bits-proper _ _ c.in-Some.ensures.is c.whole.ensures, c.requires)

pub returns-in-Ok : goal.returns-in-Ok
returns-in-Ok c = leaf-number _ _ c.in-Ok.ensures c.constant.ensures

pub returns-in-Err-OutOfRange : goal.returns-in-Err-OutOfRange
returns-in-Err-OutOfRange c =
    leaf-outside _ _ (rw c.in-Err-OutOfRange.field-0-is at c.in-Err-OutOfRange.ensures)

pub returns-in-Some : goal.returns-in-Some
returns-in-Some c =
    leaf-vector _ _ (rw c.in-Err-NotNumber.field-0-is at c.in-Err-NotNumber.ensures) c.in-Some.ensures.is
    (bits-whole _ _ c.in-Some.ensures.is c.whole.ensures) c.constant-in-Some.ensures

pub returns-in-None : goal.returns-in-None
returns-in-None c =
    leaf-atom _ _ (rw c.in-Err-NotNumber.field-0-is at c.in-Err-NotNumber.ensures) c.in-None.ensures.is
