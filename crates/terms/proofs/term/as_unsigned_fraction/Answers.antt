-- The answer by how far the reading comes: there is no quotient, the divisor is no number or 0, the dividend
-- is no number, or the quotient is out of range or not.
use mathlib.Core.Path.{sym, ◌∙◌}
use Rattle.terms.proofs.Findings.{fraction-itself, over-reading, over-number}
use Rattle.terms.proofs.Findings.{no_divisor, zero-divisor, no_dividend, quotient-read}
use Rattle.terms.proofs.term.as_unsigned_fraction.Goals as goal

pub returns-in_default : goal.returns-in_default
returns-in_default c =
    fraction-itself c.quotient_of.ensures c.in_default.is
    c.as_number.ensures

pub returns-in_default-as_signed_number : goal.returns-in_default-as_signed_number
returns-in_default-as_signed_number c =
    no_divisor (over-reading c.quotient_of.ensures c.in-Some.is c.as_signed_number.ensures)
    c.in_default-as_signed_number.not-Ok

pub returns-then-is_zero : goal.returns-then-is_zero
returns-then-is_zero c =
    zero-divisor (over-reading c.quotient_of.ensures c.in-Some.is c.as_signed_number.ensures) c.in-Ok.is
    (sym c.is_zero.ensures ∙ c.if-is_zero.true)

pub returns-in_default-as_signed_number-2 : goal.returns-in_default-as_signed_number-2
returns-in_default-as_signed_number-2 c =
    let divisor = over-reading c.quotient_of.ensures c.in-Some.is c.as_signed_number.ensures in
    let dividend = over-number divisor c.in-Ok.is (sym c.is_zero.ensures ∙ c.if-is_zero.false) c.as_signed_number-2.ensures in
    no_dividend dividend c.in_default-as_signed_number-2.not-Ok

pub returns : goal.returns
returns c =
    let divisor = over-reading c.quotient_of.ensures c.in-Some.is c.as_signed_number.ensures in
    let dividend = over-number divisor c.in-Ok.is (sym c.is_zero.ensures ∙ c.if-is_zero.false) c.as_signed_number-2.ensures in
    quotient-read dividend c.in-Ok-as_signed_number.is c.div.ensures c.ok_or.ensures.value
