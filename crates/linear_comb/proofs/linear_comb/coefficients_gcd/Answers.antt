-- Where the constant is whole the loop goes on from it, otherwise the result is 1.
use mathlib.Core.Path.{sym, ◌∙◌}
use Rattle.linear_comb.proofs.CoefficientDivisors.{constant-integer, constant-fraction}
use Rattle.linear_comb.proofs.linear_comb.coefficients_gcd.Goals as goal

pub returns-clause-value : goal.returns-clause-value
returns-clause-value c =
    let from = c.gcd_from.ensures in
    constant-integer _ c.requires.1 (sym c.is_integer.ensures ∙ c.if-not-is_integer.false) from.proper from.value

pub returns-then-not-is_integer-clause-value : goal.returns-then-not-is_integer-clause-value
returns-then-not-is_integer-clause-value c b kept =
    constant-fraction _ _ (sym c.is_integer.ensures ∙ c.if-not-is_integer.true) b
