-- Both numbers are read, and then compared.
use native.Mathlib.Omega.{arith}
use Rattle.std.proofs.lemmas.Grind.{common_steps}
use Rattle.rules.specs.Refusal.{assert, ◌>>=◌}
use Rattle.linear_shapes.specs.LinearShapes.{assert_less_eq}
use Rattle.linear_shapes.proofs.linear_shapes.assert_less_eq.Goals as goal

pub returns-in_err-p : goal.returns-in_err-p
unfolding assert_less_eq ◌>>=◌
returns-in_err-p c = grind (arith, common_steps)

pub returns-in_err-q : goal.returns-in_err-q
unfolding assert_less_eq ◌>>=◌
returns-in_err-q c = grind (arith, common_steps)

pub returns-then-less_eq : goal.returns-then-less_eq
unfolding assert_less_eq assert ◌>>=◌
returns-then-less_eq c = grind (arith, common_steps)

pub returns-else-less_eq : goal.returns-else-less_eq
unfolding assert_less_eq assert ◌>>=◌
returns-else-less_eq c = grind (arith, common_steps)
