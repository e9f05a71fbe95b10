-- The value is odd where it leaves 1.
use native.Mathlib.Omega.{arith}
use mathlib.Core.Path.{◌∙◌}
use Rattle.std.proofs.lemmas.Grind.{common_steps}
use Rattle.rules.specs.Refusal.{◌>>=◌, assert}
use Rattle.rules.proofs.Results.{handed_on, stops}
use Rattle.polynomial_rel.proofs.polynomial_rel.assert_odd.Goals as goal

pub returns-in_err-c : goal.returns-in_err-c
returns-in_err-c c = handed_on c.from_residual.ensures.1 ∙ stops _ c.in_err-c.ensures

pub returns-then-c-eq1 : goal.returns-then-c-eq1
unfolding assert ◌>>=◌
returns-then-c-eq1 c = grind (arith, common_steps)

pub returns-else-c-eq1 : goal.returns-else-c-eq1
unfolding assert ◌>>=◌
returns-else-c-eq1 c = grind (arith, common_steps)
