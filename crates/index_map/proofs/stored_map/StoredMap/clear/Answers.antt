use borrow.Author.Rules.{rules}
use Rattle.index_map.proofs.EntryBytes.{cleared_none, cleared_more, cleared_all}
use Rattle.index_map.proofs.stored_map.StoredMap.clear.Goals as goal

pub loop-k-preserved : goal.loop-k-preserved
loop-k-preserved g c =
    cleared_more _ c.loop-k.invariant c.loop-k-test.true (search rules) c.blank_entry.ensures

pub loop-k-init : goal.loop-k-init
loop-k-init g c = cleared_none

pub returns : goal.returns
returns g c = cleared_all c.loop-k.invariant c.loop-k-test.false
