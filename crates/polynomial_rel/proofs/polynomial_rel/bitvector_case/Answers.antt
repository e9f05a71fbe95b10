-- The coefficients are tested first, and then the sides compared.
use native.Mathlib.Omega.{arith}
use Rattle.std.proofs.lemmas.Grind.{common_steps}
use Rattle.rules.specs.Refusal.{◌>>=◌, or_else}
use Rattle.polynomial_rel.specs.PolySimpRel.{bitvector_case}
use Rattle.polynomial_rel.proofs.polynomial_rel.bitvector_case.Goals as goal

pub returns-in_err-assert_odd : goal.returns-in_err-assert_odd
unfolding bitvector_case ◌>>=◌
returns-in_err-assert_odd c = grind (arith, common_steps)

pub returns-in_err-assert_odd-2 : goal.returns-in_err-assert_odd-2
unfolding bitvector_case ◌>>=◌
returns-in_err-assert_odd-2 c = grind (arith, common_steps)

pub returns-in_err-l1 : goal.returns-in_err-l1
unfolding bitvector_case or_else ◌>>=◌
returns-in_err-l1 c = grind (arith, common_steps)

pub returns : goal.returns
unfolding bitvector_case or_else ◌>>=◌
returns c = grind (arith, common_steps)
