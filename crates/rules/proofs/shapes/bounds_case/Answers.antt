-- The terms are compared first.
use mathlib.Core.Path.{◌∙◌}
use Rattle.rules.specs.Shapes.{bounds_case}
use Rattle.rules.proofs.Results.{handed_on, stops, goes_on}
use Rattle.rules.proofs.shapes.bounds_case.Goals as goal

pub returns-in_err-assert_eq : goal.returns-in_err-assert_eq
unfolding bounds_case
returns-in_err-assert_eq g c b p h = handed_on c.from_residual.ensures.1 ∙ stops _ (c.in_err-assert_eq.ensures b)

pub returns : goal.returns
unfolding bounds_case
returns g c b p h = goes_on _ (c.in_ok-assert_eq.ensures b) (h _ c.test.ensures)
