-- The loop's invariant is `Cleared` of EntryBytes.
use Rattle.index_map.proofs.EntryBytes.{Cleared}
use Rattle.index_map.proofs.stored_map.StoredMap.clear.Given as goal

abbrev pub invariant-loop-k : goal.invariant-loop-k
invariant-loop-k g l = Cleared g.Self.StoredMap.encoding l.initial.entries l.n l.entries l.k
