-- The sum of the constants is in range and takes the constant's place, or it is not and the area is emptied.
use Rattle.index_map.proofs.WalkedConstants.{plus-walk}
use Rattle.linear_walk.proofs.WalkSteps.{kept-has, keeps, clears}
use Rattle.linear_walk.proofs.linear_walk.add_constant.Goals as goal

pub returns-then-is_err : goal.returns-then-is_err
returns-then-is_err c b kept l =
    let sum = c.plus-longer.ensures in
    clears kept c.clear.ensures (plus-walk _ (kept-has kept) _ sum.value sum.proper c.if-is_err.ensures.value l)

pub returns-else-is_err : goal.returns-else-is_err
returns-else-is_err c b kept l =
    let sum = c.plus-longer.ensures in
    keeps kept (plus-walk _ (kept-has kept) _ sum.value sum.proper c.if-is_err.ensures.value l)
