-- The two writes are those of the definition.
use Rattle.index_map.specs.Memory.StoredMaps.{put_entry}
use Rattle.index_map.proofs.index_map.put_entry.Goals as goal

pub returns : goal.returns
unfolding put_entry
returns c = cc
