-- The laws are those of ElaboratedStep, for rule 6 and for the others.
use Rattle.runs.proofs.Standing.{stands_record, stands-literals}
use Rattle.rules.proofs.Results.{handed_on}
use Rattle.farkas.proofs.ElaboratedStep.{is_farkas, six_stepped, other_refused, other_stepped}
use Rattle.farkas.proofs.farkas.elaborate_step.Goals as goal

pub add_step-longer-requires : goal.add_step-longer-requires
add_step-longer-requires c = (stands_record c.requires.ready.1, c.requires.p_value)

pub bounded_farkas-requires : goal.bounded_farkas-requires
bounded_farkas-requires c = (c.requires.ready.0, stands-literals c.requires.ready.1 c.clause.ensures)

pub returns-then-eq-clause-stepped_left : goal.returns-then-eq-clause-stepped_left
returns-then-eq-clause-stepped_left c =
    six_stepped _ _ _ _ _ (c.add_step-longer.ensures _ _ _ c.requires.ready.1)
    (is_farkas _ c.rule_in.ensures c.if-eq.ensures) c.clause.ensures c.args-then-eq.ensures
    c.bounded_farkas.ensures.stepped_left

pub returns-in_err-check_step-clause-stepped_left : goal.returns-in_err-check_step-clause-stepped_left
returns-in_err-check_step-clause-stepped_left c =
    rw (handed_on c.from_residual.ensures.1)
    (other_refused _ _ _ _ _ (c.add_step-longer.ensures _ _ _ c.requires.ready.1)
    (is_farkas _ c.rule_in.ensures c.if-eq.ensures) c.in_err-check_step.ensures.value)

pub returns-clause-stepped_left : goal.returns-clause-stepped_left
returns-clause-stepped_left c =
    other_stepped _ _ _ _ _ (c.add_step-longer.ensures _ _ _ c.requires.ready.1)
    (is_farkas _ c.rule_in.ensures c.if-eq.ensures) c.in_ok-check_step.ensures.value
