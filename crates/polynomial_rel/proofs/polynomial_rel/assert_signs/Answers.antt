-- The relation is looked at first.
use native.Mathlib.Omega.{arith}
use Rattle.std.proofs.lemmas.Grind.{common_steps}
use Rattle.rules.specs.Refusal.{assert}
use Rattle.polynomial_rel.proofs.polynomial_rel.assert_signs.Goals as goal

pub returns-then-same : goal.returns-then-same
unfolding assert
returns-then-same c = grind (arith, common_steps)

pub returns-else-same : goal.returns-else-same
unfolding assert
returns-else-same c = grind (arith, common_steps)
