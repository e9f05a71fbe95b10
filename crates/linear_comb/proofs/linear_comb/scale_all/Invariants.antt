-- The loop's invariant is `Loop` of EntryLoops with `Scales`: the entries before k are multiplied, and the definition's
-- result is theirs with what it yields of the others behind.
use Rattle.index_map.specs.Memory.Entries.{entries_of}
use Rattle.linear_comb.proofs.EntryLoops.{Loop}
use Rattle.linear_comb.proofs.CombinationLoops.{Scales}
use Rattle.linear_comb.proofs.linear_comb.scale_all.Given as goal

abbrev pub invariant-loop-k : goal.invariant-loop-k
invariant-loop-k l = Loop (λ b. Scales l.q (entries_of b l.initial.entries l.n)) l.initial.entries l.n l.entries l.k
