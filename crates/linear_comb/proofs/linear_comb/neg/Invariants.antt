-- The loop's invariant is `Loop` of EntryLoops with `Negates`: the entries before k have their signs turned, those from
-- k on are as they were.
use Rattle.index_map.specs.Memory.Entries.{entries_of}
use Rattle.linear_comb.proofs.EntryLoops.{Loop}
use Rattle.linear_comb.proofs.CombinationLoops.{Negates}
use Rattle.linear_comb.proofs.linear_comb.neg.Given as goal

abbrev pub invariant-loop-k : goal.invariant-loop-k
invariant-loop-k l =
    Loop (λ b. Negates (entries_of b l.initial.entries l.k-end)) l.initial.entries l.k-end l.entries l.k
