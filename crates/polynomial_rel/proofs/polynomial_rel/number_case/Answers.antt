-- The signs are found first.
use mathlib.Core.Path.{◌∙◌}
use Rattle.rules.proofs.Results.{handed_on, stops, goes_on}
use Rattle.polynomial_rel.proofs.ScaledRelations.{numbers_in_turn}
use Rattle.polynomial_rel.proofs.polynomial_rel.number_case.Goals as goal

pub returns-in_err-same : goal.returns-in_err-same
returns-in_err-same c l =
    handed_on c.from_residual.ensures.1 ∙ stops _ (c.in_err-same.ensures l) ∙ numbers_in_turn _ _ _

pub returns : goal.returns
returns c l = goes_on _ (c.in_ok-same.ensures l) c.relation_case.ensures ∙ numbers_in_turn _ _ _
