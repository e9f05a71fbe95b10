use mathlib.Core.Path.{◌∙◌}
use Rattle.numbers.proofs.ByteArrays.{le_of_array}
use Rattle.numbers.proofs.bytes.read_u16.Goals as goal

pub returns : goal.returns
returns c = c.into.ensures ∙ le_of_array 1 _ _ _ c.bytes_at.result c.bytes_at.ensures c.map_or.ensures
