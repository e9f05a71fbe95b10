-- The number of premises, the two clauses, and then what the functions on terms answer.
use native.Mathlib.Omega.{arith}
use mathlib.Core.Path.{refl, sym, ◌∙◌}
use borrow.Author.Rules.{rules}
use Rattle.std.proofs.lemmas.Grind.{common_steps}
use Rattle.std.specs.Prelude.{Some}
use Rattle.terms.specs.Readers.{found}
use Rattle.rules.specs.Refusal.{◌>>=◌, or_else}
use Rattle.rules.proofs.Results.{handed_on, none-refused, stops, goes_on}
use Rattle.rules.proofs.ShapeSteps.{literal_is}
use Rattle.polynomial_rel.specs.PolySimpRel.{poly_simp_rel}
use Rattle.polynomial_rel.proofs.ScaledRelations.{premise_law, one_premise}
use Rattle.polynomial_rel.proofs.polynomial_rel.poly_simp_rel.Goals as goal

pub returns-then-premises-ne1 : goal.returns-then-premises-ne1
unfolding poly_simp_rel ◌>>=◌
returns-then-premises-ne1 c = grind (arith, common_steps)

pub returns-in_err-phi : goal.returns-in_err-phi
returns-in_err-phi c l ps are =
    handed_on c.from_residual.ensures.1
    ∙ stops _ (stops _ (none-refused (found _) _ _ refl refl c.in_err-phi.ensures.value ∙ c.only_literal.ensures _)
    ∙ one_premise _ _ _ _ (search rules) are)

pub returns-in_err-t : goal.returns-in_err-t
returns-in_err-t c l ps are =
    handed_on c.from_residual-in_err-t.ensures.1
    ∙ stops _ (goes_on _ (sym (literal_is _ _ c.only_literal.ensures c.in_ok-phi.ensures.ok_part))
    (stops _ (none-refused (found _) _ _ refl refl c.in_err-t.ensures.value
    ∙ premise_law _ _ (c.only_literal-2.ensures _)))
    ∙ one_premise _ _ _ _ (search rules) are)

pub returns-in_err-scaled_case : goal.returns-in_err-scaled_case
unfolding or_else
returns-in_err-scaled_case c l ps are =
    handed_on c.from_residual-in_err-scaled_case.ensures.1
    ∙ stops _ (goes_on _ (sym (literal_is _ _ c.only_literal.ensures c.in_ok-phi.ensures.ok_part))
    (goes_on _ (premise_law _ (Some _) (sym (literal_is _ _ c.only_literal-2.ensures c.in_ok-t.ensures.ok_part)))
    (c.in_err-scaled_case.ensures l))
    ∙ one_premise _ _ _ _ (search rules) are)

pub returns : goal.returns
unfolding or_else
returns c l ps are =
    goes_on _ (goes_on _ (sym (literal_is _ _ c.only_literal.ensures c.in_ok-phi.ensures.ok_part))
    (goes_on _ (premise_law _ (Some _) (sym (literal_is _ _ c.only_literal-2.ensures c.in_ok-t.ensures.ok_part)))
    (c.in_ok-scaled_case.ensures l))
    ∙ one_premise _ _ _ _ (search rules) are) refl
