-- Below `to_real` for numbers, or the term itself.
use native.Mathlib.Omega.{arith}
use Rattle.std.proofs.lemmas.Grind.{common_steps}
use Rattle.numbers.specs.Choice.{when◌then◌else◌}
use Rattle.polynomial_rel.specs.PolySimpRel.{difference}
use Rattle.polynomial_rel.proofs.polynomial_rel.difference.Goals as goal

pub returns-then-d-ne-SUB : goal.returns-then-d-ne-SUB
unfolding difference when◌then◌else◌
returns-then-d-ne-SUB c = grind (arith, common_steps)

pub returns-in-Some : goal.returns-in-Some
unfolding difference when◌then◌else◌
returns-in-Some c = grind (arith, common_steps)

pub returns-in-None : goal.returns-in-None
unfolding difference when◌then◌else◌
returns-in-None c = grind (arith, common_steps)
