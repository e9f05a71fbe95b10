-- Both numbers are read, and then compared.
use native.Mathlib.Omega.{arith}
use Rattle.std.proofs.lemmas.Grind.{common_steps}
use Rattle.rules.specs.Refusal.{assert, ◌>>=◌}
use Rattle.linear_shapes.specs.LinearShapes.{assert_less_than}
use Rattle.linear_shapes.proofs.linear_shapes.assert_less_than.Goals as goal

pub returns-in_err-p : goal.returns-in_err-p
unfolding assert_less_than ◌>>=◌
returns-in_err-p c = grind (arith, common_steps)

pub returns-in_err-q : goal.returns-in_err-q
unfolding assert_less_than ◌>>=◌
returns-in_err-q c = grind (arith, common_steps)

pub returns-then-less : goal.returns-then-less
unfolding assert_less_than assert ◌>>=◌
returns-then-less c = grind (arith, common_steps)

pub returns-else-less : goal.returns-else-less
unfolding assert_less_than assert ◌>>=◌
returns-else-less c = grind (arith, common_steps)
