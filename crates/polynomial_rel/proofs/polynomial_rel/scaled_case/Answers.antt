-- The form over bit-vectors is tried first.
use native.Mathlib.Omega.{arith}
use Rattle.std.proofs.lemmas.Grind.{common_steps}
use Rattle.rules.specs.Refusal.{◌>>=◌}
use Rattle.polynomial_rel.specs.Memory.PolynomialRel.{scaled_case}
use Rattle.polynomial_rel.proofs.polynomial_rel.scaled_case.Goals as goal

pub returns-in-Some : goal.returns-in-Some
unfolding scaled_case
returns-in-Some c = grind (arith, common_steps)

pub returns-in_err-p : goal.returns-in_err-p
unfolding scaled_case ◌>>=◌
returns-in_err-p c = grind (arith, common_steps)

pub returns : goal.returns
unfolding scaled_case ◌>>=◌
returns c = grind (arith, common_steps)
