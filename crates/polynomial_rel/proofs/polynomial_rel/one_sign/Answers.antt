-- Both numbers are tested, and then their signs compared.
use native.Mathlib.Omega.{arith}
use Rattle.std.proofs.lemmas.Grind.{common_steps}
use Rattle.rules.specs.Refusal.{assert, ◌>>=◌}
use Rattle.polynomial_rel.specs.Memory.PolynomialRel.{one_sign}
use Rattle.polynomial_rel.proofs.polynomial_rel.one_sign.Goals.{then-is_zero-via-then-is_zero}
use Rattle.polynomial_rel.proofs.polynomial_rel.one_sign.Goals.{then-is_zero-via-else-is_zero+then-is_zero-2}
use Rattle.polynomial_rel.proofs.polynomial_rel.one_sign.Goals as goal

pub returns-then-is_zero : goal.returns-then-is_zero
unfolding one_sign assert ◌>>=◌
returns-then-is_zero c = grind (arith, common_steps)

pub returns : goal.returns
unfolding one_sign assert ◌>>=◌
returns c = grind (arith, common_steps)
