-- The step by its rule: the arms of the match are those of the definition.
use mathlib.Core.Path.{refl, sym}
use Rattle.steps.proofs.CheckedSteps.{judged}
use Rattle.runs.specs.Memory.StepParts.{step_in}
use Rattle.runs.proofs.Standing.{stands-literals}
use Rattle.steps.proofs.check_step.check_step.Goals as goal

-- ---- what the rules ask

pub la_tautology-requires : goal.la_tautology-requires
la_tautology-requires c =
    let given = c.requires.ready in
    (given.0, (stands-literals given.1 c.clause-literals.ensures).0)

pub la_generic-requires : goal.la_generic-requires
la_generic-requires c =
    let given = c.requires.ready in
    (given.0, stands-literals given.1 c.clause-literals.ensures)

pub bounded_farkas-requires : goal.bounded_farkas-requires
bounded_farkas-requires c =
    let given = c.requires.ready in
    (given.0, stands-literals given.1 c.clause-literals.ensures)

pub poly_simp-requires : goal.poly_simp-requires
poly_simp-requires c =
    let given = c.requires.ready in
    (given.0, (stands-literals given.1 c.clause-literals.ensures).0)

pub check_poly_simp_rel-requires-clause-step_value : goal.check_poly_simp_rel-requires-clause-step_value
unfolding step_in
check_poly_simp_rel-requires-clause-step_value c = sym c.in-PolySimpRel.ensures

-- ---- the verdicts

pub returns-in-Assume-clause-value : goal.returns-in-Assume-clause-value
returns-in-Assume-clause-value c =
    judged _ _ _ _ _ _ c.in-Assume.ensures c.clause-literals.ensures refl refl

pub returns-in-LaRwEq-clause-value : goal.returns-in-LaRwEq-clause-value
returns-in-LaRwEq-clause-value c =
    judged _ _ _ _ _ _ c.in-LaRwEq.ensures c.clause-literals.ensures refl c.la_rw_eq.ensures

pub returns-in-LaDisequality-clause-value : goal.returns-in-LaDisequality-clause-value
returns-in-LaDisequality-clause-value c =
    judged _ _ _ _ _ _ c.in-LaDisequality.ensures c.clause-literals.ensures refl c.la_disequality.ensures

pub returns-in-LaTotality-clause-value : goal.returns-in-LaTotality-clause-value
returns-in-LaTotality-clause-value c =
    judged _ _ _ _ _ _ c.in-LaTotality.ensures c.clause-literals.ensures refl c.la_totality.ensures

pub returns-in-LaTautology-clause-value : goal.returns-in-LaTautology-clause-value
returns-in-LaTautology-clause-value c =
    judged _ _ _ _ _ _ c.in-LaTautology.ensures c.clause-literals.ensures refl c.la_tautology.ensures.value

pub returns-in-LaGeneric-clause-value : goal.returns-in-LaGeneric-clause-value
returns-in-LaGeneric-clause-value c =
    judged _ _ _ _ _ _ c.in-LaGeneric.ensures c.clause-literals.ensures c.args-in-LaGeneric.ensures
    c.la_generic.ensures.value

pub returns-in-BoundedFarkas-clause-value : goal.returns-in-BoundedFarkas-clause-value
returns-in-BoundedFarkas-clause-value c =
    judged _ _ _ _ _ _ c.in-BoundedFarkas.ensures c.clause-literals.ensures c.args-in-BoundedFarkas.ensures
    c.bounded_farkas.ensures.value

pub returns-in-PolySimp-clause-value : goal.returns-in-PolySimp-clause-value
returns-in-PolySimp-clause-value c =
    judged _ _ _ _ _ _ c.in-PolySimp.ensures c.clause-literals.ensures refl c.poly_simp.ensures.value
