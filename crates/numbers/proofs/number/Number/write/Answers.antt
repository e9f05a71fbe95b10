-- Where there is room each part is written in two's complement, as in the definition; elsewhere nothing is written.
use mathlib.Core.Path.{sym}
use borrow.Author.Rules.{rules}
use Rattle.numbers.proofs.LittleEndian.{roomy}
use Rattle.numbers.proofs.StoredNumbers.{put_number-outside, number-written}
use Rattle.numbers.proofs.number.Number.write.Goals as goal

pub returns-then-room : goal.returns-then-room
returns-then-room c =
    let full = c in
    let half = full in
    number-written _ _ _ _ _ _ _ full.write_u32-then-room.ensures full.complement-then-room.ensures half.write_u32.ensures half.complement.ensures
    (search rules) (search rules) (search roomy)

pub returns-else-room : goal.returns-else-room
returns-else-room c = sym (put_number-outside _ _ _ (search roomy))
