-- `sub` is `add` with the sign of the second combination turned.
use Rattle.index_map.specs.IndexMap.{sub}
use Rattle.work_area.proofs.work_area.sub.Goals as goal

pub returns : goal.returns
unfolding sub
returns c = c.add_signed.ensures
