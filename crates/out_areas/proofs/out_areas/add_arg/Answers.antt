use Rattle.out_areas.proofs.AddedPieces.{arg-full, arg-written, arg_unwritten}
use Rattle.out_areas.proofs.out_areas.add_arg.Goals as goal

pub returns-then-out : goal.returns-then-out
returns-then-out c b t = arg-full b _ t _ _ c.if-out.true

pub returns : goal.returns
returns c b t =
    arg-written b _ t _ _ c.if-out.false
    c.goes_in.ensures c.if-not-goes_in.false
    (rw c.to_le_bytes.ensures at c.paste.ensures)

pub returns-then-not-goes_in : goal.returns-then-not-goes_in
returns-then-not-goes_in c b t = arg_unwritten b _ t _ _ c.if-out.false c.goes_in.ensures c.if-not-goes_in.true
