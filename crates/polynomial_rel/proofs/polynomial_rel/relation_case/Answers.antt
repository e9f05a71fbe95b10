-- The equation is opened, and then both sides looked at.
use native.Mathlib.Omega.{arith}
use mathlib.Core.Path.{refl}
use Rattle.std.proofs.lemmas.Grind.{common_steps}
use Rattle.rules.specs.Refusal.{◌>>=◌, or_else}
use Rattle.terms.specs.Readers.{found_two}
use Rattle.rules.proofs.Results.{goes_on, some-found}
use Rattle.polynomial_rel.specs.Memory.PolynomialRel.{relation_case}
use Rattle.polynomial_rel.proofs.ScaledSides.{operation_law}
use Rattle.polynomial_rel.proofs.polynomial_rel.relation_case.Goals as goal

pub returns-in_err-left : goal.returns-in_err-left
unfolding relation_case or_else ◌>>=◌
returns-in_err-left c = grind (arith, common_steps)

pub returns-in_err-o : goal.returns-in_err-o
unfolding relation_case or_else ◌>>=◌
returns-in_err-o c = grind (arith, common_steps)

pub returns-in_err-as_op_err : goal.returns-in_err-as_op_err
unfolding relation_case or_else ◌>>=◌
returns-in_err-as_op_err c = grind (arith, common_steps)

pub sides_case-requires : goal.sides_case-requires
sides_case-requires c = (operation_law _ c.in_ok-o.ensures).1

pub returns : goal.returns
unfolding relation_case or_else
returns c =
    goes_on _ (some-found (found_two _) _ _ c.binary.ensures.is refl c.in_ok-left.ensures.value)
    (goes_on _ (operation_law _ c.in_ok-o.ensures).0
    (goes_on _ (operation_law _ c.in_ok-as_op_err.ensures).0 c.sides_case.ensures))
