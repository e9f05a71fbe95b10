-- The node by the number of arguments, by what the divisor is read as, and by whether the coefficient over it stays in
-- range.
use Rattle.std.proofs.Common.{sym, rules}
use mathlib.Core.Path.{◌∙◌}
use Rattle.rules.proofs.Results.{handed_on}
use Rattle.polynomial_walk.proofs.NodeAnswers.{few-sides, divisor-outside, no_divisor, zero-divisor}
use Rattle.polynomial_walk.proofs.NodeAnswers.{quotient-outside, quotient-found}
use Rattle.polynomial_walk.proofs.polynomial_walk.quotient.Goals as goal

pub returns-then-sides-lt2 : goal.returns-then-sides-lt2
returns-then-sides-lt2 c = few-sides _ _ _ _ c.args-sides.ensures.terms (search rules) c.leaf.ensures

pub returns-then-is_zero : goal.returns-then-is_zero
returns-then-is_zero c =
    zero-divisor _ _ _ _ c.args-sides.ensures.terms (search rules) c.argument.ensures c.in-Ok.ensures
    (sym c.is_zero.ensures ∙ c.if-is_zero.true) c.leaf-then-is_zero.ensures

pub returns-in_err-c-in-Ok : goal.returns-in_err-c-in-Ok
returns-in_err-c-in-Ok c =
    rw (handed_on c.from_residual.ensures.1)
    (quotient-outside _ _ _ _ c.args-sides.ensures.terms (search rules) c.argument.ensures c.in-Ok.ensures
    (sym c.is_zero.ensures ∙ c.if-is_zero.false) c.div.ensures c.in_err-c-in-Ok.ensures.value)

pub returns-in-Err-OutOfRange : goal.returns-in-Err-OutOfRange
returns-in-Err-OutOfRange c =
    divisor-outside _ _ _ _ c.args-sides.ensures.terms (search rules) c.argument.ensures
    (rw c.in-Err-OutOfRange.field-0-is at c.in-Err-OutOfRange.ensures)

pub returns-in-Err-NotNumber : goal.returns-in-Err-NotNumber
returns-in-Err-NotNumber c =
    no_divisor _ _ _ _ c.args-sides.ensures.terms (search rules) c.argument.ensures
    (rw c.in-Err-NotNumber.field-0-is at c.in-Err-NotNumber.ensures) c.leaf-in-Err-NotNumber.ensures

pub returns-in_ok-c-in-Ok : goal.returns-in_ok-c-in-Ok
returns-in_ok-c-in-Ok c =
    quotient-found _ _ _ _ c.args-sides.ensures.terms (search rules) c.argument.ensures c.in-Ok.ensures
    (sym c.is_zero.ensures ∙ c.if-is_zero.false) c.div.ensures c.argument-in-Ok.ensures c.in_ok-c-in-Ok.ensures.ok_part
