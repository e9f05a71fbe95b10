-- The two writes are those of the definition, with what is read of the last entry before.
use Rattle.index_map.specs.Memory.StoredMaps.{swapped}
use Rattle.index_map.proofs.stored_map.StoredMap.swap_remove.Goals as goal

pub returns : goal.returns
unfolding swapped
returns g c = cc
