-- `negate_disequality` fills the area of the left side and then that of the right; where the right side is refused, the
-- first is emptied again.
use mathlib.Core.Path.{◌∙◌}
use native.Mathlib.Omega.{arith}
use Rattle.rules.proofs.Results.{handed_on}
use Rattle.index_map.proofs.StoredEntries.{kept_small}
use Rattle.linear_comb.proofs.Areas.{empty-held}
use Rattle.linear_comb.proofs.AreaSteps.{kept-sum}
use Rattle.disequality.proofs.SidesAreas.{in_both, between-both, right-empty, no_relation, left-refused}
use Rattle.disequality.proofs.SidesAreas.{right-refused, both-sides}
use Rattle.disequality.proofs.disequality.negate_disequality.Goals as goal

pub returns-in_err-operator : goal.returns-in_err-operator
returns-in_err-operator c =
    rw (handed_on c.from_residual.ensures.1) (no_relation c.requires.0 _ _ _ c.in_err-operator.ensures)

pub from_term-requires : goal.from_term-requires
from_term-requires c =
    let between = c.requires.0 in
    ((between-both between).first, (between.laid, (c.in_ok-operator.ensures.1.0, empty-held between.left)))

pub returns-in_err-left : goal.returns-in_err-left
returns-in_err-left c =
    rw (handed_on c.from_residual-in_err-left.ensures.1)
    (left-refused c.requires.0 _ _ _ c.in_ok-operator.ensures c.from_term.ensures.only_area c.in_err-left.ensures.walks)

pub right_side-requires : goal.right_side-requires
right_side-requires c =
    let between = c.requires.0 in
    let m = c.from_term in (
      (in_both (m.auto.work ∙ between.size)).second,
      (between.laid, (c.in_ok-operator.ensures.1.1, right-empty between m.ensures.only_area)),
    )

pub clear_in-requires : goal.clear_in-requires
clear_in-requires c =
    let left = c.in_ok-left.ensures.walks in
    let few = kept_small (kept-sum left.held left.is.1).kept in
    let size = c.requires.0.size in
    ((in_both (c.right_side.auto.work ∙ c.from_term.auto.work ∙ size)).first, omega arith)

pub returns-in-Ok : goal.returns-in-Ok
returns-in-Ok c =
    both-sides c.requires.0 _ _ _ c.in_ok-operator.ensures c.from_term.ensures.only_area c.in_ok-left.ensures.walks
    c.right_side.ensures.only_area c.in-Ok.ensures.walks

pub returns-in-Err : goal.returns-in-Err
returns-in-Err c =
    right-refused c.requires.0 _ _ _ c.in_ok-operator.ensures c.from_term.ensures.only_area c.in_ok-left.ensures.walks
    c.right_side.ensures.only_area c.in-Err.ensures.walks c.clear_in.ensures
