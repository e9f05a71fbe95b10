use Rattle.numbers.proofs.ByteArrays.{le_of_array}
use Rattle.numbers.proofs.bytes.read_u64.Goals as goal

pub returns : goal.returns
returns c = le_of_array 7 _ _ _ c.bytes_at.result c.bytes_at.ensures c.map_or.ensures
