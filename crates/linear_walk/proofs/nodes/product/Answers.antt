-- The node by what both factors are read as.
use mathlib.Core.Path.{refl}
use Rattle.rules.proofs.Results.{handed_on}
use Rattle.linear_walk.proofs.NodeAnswers.{first_refused, second_refused, both_read}
use Rattle.linear_walk.proofs.nodes.product.Goals as goal

pub returns-in_err-first : goal.returns-in_err-first
returns-in_err-first c =
    rw (handed_on c.from_residual.ensures.1) (first_refused _ _ _ _ c.as_fraction.ensures c.in_err-first.ensures)

pub returns-in_err-second : goal.returns-in_err-second
returns-in_err-second c =
    rw (handed_on c.from_residual-in_err-second.ensures.1)
    (second_refused _ _ _ _ c.as_fraction.ensures c.in_ok-first.ensures c.as_fraction-2.ensures c.in_err-second.ensures)

pub returns-in-Some-default : goal.returns-in-Some-default
returns-in-Some-default c =
    both_read _ _ _ _ c.as_fraction.ensures c.in_ok-first.ensures c.as_fraction-2.ensures c.in_ok-second.ensures
    (rw c.in-Some-default.is-0 c.factor.ensures)

pub returns-in-None-Some : goal.returns-in-None-Some
returns-in-None-Some c =
    both_read _ _ _ _ c.as_fraction.ensures c.in_ok-first.ensures c.as_fraction-2.ensures c.in_ok-second.ensures
    (rw (c.in-None-Some.is-0, c.in-None-Some.is-1) c.factor-in-None-Some.ensures)

pub returns-in-None-None : goal.returns-in-None-None
returns-in-None-None c =
    both_read _ _ _ _ c.as_fraction.ensures c.in_ok-first.ensures c.as_fraction-2.ensures c.in_ok-second.ensures
    (rw (c.in-None-None.is-0, c.in-None-None.is-1) (record { is = refl; proper = tt }))
