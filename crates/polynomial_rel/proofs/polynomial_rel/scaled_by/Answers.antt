-- The products are found first, and then the differences in them.
use native.Mathlib.Omega.{arith}
use Rattle.std.proofs.lemmas.Grind.{common_steps}
use Rattle.rules.specs.Refusal.{◌>>=◌, or_else}
use Rattle.polynomial_rel.specs.PolySimpRel.{scaled}
use Rattle.polynomial_rel.proofs.polynomial_rel.scaled_by.Goals as goal

pub returns-in_err-c1 : goal.returns-in_err-c1
unfolding scaled or_else ◌>>=◌
returns-in_err-c1 c = grind (arith, common_steps)

pub returns-in_err-x1 : goal.returns-in_err-x1
unfolding scaled or_else ◌>>=◌
returns-in_err-x1 c = grind (arith, common_steps)

pub returns : goal.returns
unfolding scaled or_else ◌>>=◌
returns c = grind (arith, common_steps)
