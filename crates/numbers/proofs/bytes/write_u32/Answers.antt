-- Where there is room the number's bytes are pasted, which is the definition; elsewhere nothing is written.
use mathlib.Core.Path.{sym, ◌∙◌}
use Rattle.numbers.proofs.LittleEndian.{roomy, put-outside}
use Rattle.numbers.proofs.ByteArrays.{put_of_array}
use Rattle.numbers.proofs.bytes.write_u32.Goals as goal

pub returns-then-room : goal.returns-then-room
returns-then-room c = c.paste.ensures ∙ put_of_array 4 _ _ _ (search roomy) (c.to_le_bytes.ensures)

pub returns-else-room : goal.returns-else-room
returns-else-room c = sym (put-outside _ _ _ _ (search roomy))
