-- The sum of the constants is in range and takes the constant's place, or it is not and the area is emptied.
use Rattle.std.proofs.Common.{[], ◌∷◌, arith}
use Rattle.index_map.proofs.WalkedConstants.{plus-walk}
use Rattle.polynomial_walk.proofs.additions.add_constant.Goals as goal

pub returns-then-is_err : goal.returns-then-is_err
returns-then-is_err c b m stack has l =
    let sum = c.plus-longer.ensures in
    record {
      map = [];
      held = c.clear_at.ensures b (m ∷ []) stack (omega arith) has.size;
      is = plus-walk _ has _ sum.value sum.proper c.if-is_err.ensures.value l;
    }

pub returns-else-is_err : goal.returns-else-is_err
returns-else-is_err c b m stack has l =
    let sum = c.plus-longer.ensures in
    record { map = m; held = stack; is = plus-walk _ has _ sum.value sum.proper c.if-is_err.ensures.value l }
