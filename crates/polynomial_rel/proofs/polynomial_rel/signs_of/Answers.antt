-- The first coefficient is read before the second.
use native.Mathlib.Omega.{arith}
use Rattle.std.proofs.lemmas.Grind.{common_steps}
use Rattle.rules.specs.Refusal.{◌>>=◌}
use Rattle.polynomial_rel.specs.Memory.PolynomialRel.{signs_of}
use Rattle.polynomial_rel.proofs.polynomial_rel.signs_of.Goals as goal

pub returns-in_err-p : goal.returns-in_err-p
unfolding signs_of ◌>>=◌
returns-in_err-p c = grind (arith, common_steps)

pub returns-in_err-q : goal.returns-in_err-q
unfolding signs_of ◌>>=◌
returns-in_err-q c = grind (arith, common_steps)

pub returns : goal.returns
unfolding signs_of ◌>>=◌
returns c = grind (arith, common_steps)
