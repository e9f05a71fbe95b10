-- The literal's disequality is in area 1; it is cleared before the answer, which is a case of the definition's test.
use Rattle.rules.proofs.Results.{handed_on}
use Rattle.linear_arithmetic.proofs.Emptied.{ready-between}
use Rattle.linear_arithmetic.proofs.Tautologies.{tautology-refused, tautology_clear, tautology-holds, tautology_fails}
use Rattle.linear_arithmetic.proofs.linear_arithmetic.tautology.Goals as goal

pub disequality_of-requires : goal.disequality_of-requires
disequality_of-requires c = (ready-between c.requires.0, c.requires.1)

pub returns-in_err-d : goal.returns-in_err-d
returns-in_err-d c =
    let left = tautology-refused _ _ _ c.requires.0 c.in_err-d.ensures in
    record { value = rw (handed_on c.from_residual.ensures.1) left.0; work_unchanged = left.1 }

pub clear_in-requires : goal.clear_in-requires
clear_in-requires c = tautology_clear _ _ _ c.requires.0 c.in_ok-d.ensures

pub returns-then-is_tautology : goal.returns-then-is_tautology
returns-then-is_tautology c =
    let left =
    tautology-holds _ _ _ c.requires.0 c.in_ok-d.ensures c.is_tautology.ensures c.clear_in.ensures
    c.if-is_tautology.true
    in
    record { value = left.0; work_unchanged = left.1 }

pub returns-else-is_tautology : goal.returns-else-is_tautology
returns-else-is_tautology c =
    let left =
    tautology_fails _ _ _ c.requires.0 c.in_ok-d.ensures c.is_tautology.ensures c.clear_in.ensures
    c.if-is_tautology.false
    in
    record { value = left.0; work_unchanged = left.1 }
