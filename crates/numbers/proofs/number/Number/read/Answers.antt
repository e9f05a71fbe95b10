-- The two numbers in the bytes are a numerator and a denominator, and `in_range` says whether they make a number. There are
-- three ways to the 0 at the end: no room, no denominator, or a part that is out of range.
use borrow.Author.Rules.{rules}
use Rattle.numbers.proofs.LittleEndian.{roomy}
use Rattle.numbers.proofs.StoredNumbers.{number-found, zero_out_of_range, zero-without-denominator}
use Rattle.numbers.proofs.StoredNumbers.{zero-without-room}
use Rattle.numbers.proofs.number.Number.read.Goals as goal
use Rattle.numbers.proofs.number.Number.read.Goals.{then-room+then-d-ge1+in_default, then-room+else-d-ge1, else-room}

pub returns-in-Some : goal.returns-in-Some
returns-in-Some c =
    let parts = c in
    number-found _ _ _ _ _ _ _ parts.read_u32.ensures parts.signed-n.ensures parts.read_u32-d.ensures
    (search rules) (search rules) parts.from.ensures parts.in_range.ensures _ (search rules) c.in-Some.is

pub returns : goal.returns
returns c =
    elim c.if-room.branch [
      | then-room+then-d-ge1+in_default w ↦ zero_out_of_range _ _ _ _ _ _ _ w.read_u32.ensures w.signed-n.ensures w.read_u32-d.ensures (search rules) (search rules) w.from.ensures w.in_range.ensures _ c.whole.ensures w.in_default.is
      | then-room+else-d-ge1 w ↦ zero-without-denominator _ _ _ _ c.whole.ensures w.read_u32-d.ensures w.if-d-ge1.false
      | else-room w ↦ zero-without-room _ _ _ c.whole.ensures (search roomy)
    ]
