-- The rule `poly_simp_rel`, with the step that the first premise names.
use Rattle.steps.proofs.CheckedSteps.{judged-relation}
use Rattle.steps.proofs.check_step.check_poly_simp_rel.Goals as goal

pub returns : goal.returns
returns c =
    judged-relation c.requires.stands_in.0 c.requires.step_value c.premises-named.ensures
    c.read_u16.ensures c.step_at-premise.ensures c.clause.ensures
    c.clause-2.ensures _ c.poly_simp_rel.ensures
