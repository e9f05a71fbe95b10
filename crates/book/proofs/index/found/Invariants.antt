-- The loop's invariant is `Searching` of RecordChains: each equal record is still ahead on the chain. The measure is the
-- number at hand, which falls along a chain.
use Rattle.book.proofs.RecordChains.{Searching}
use Rattle.book.proofs.index.found.Given as goal

abbrev pub invariant-loop-k : goal.invariant-loop-k
invariant-loop-k l = Searching l.id l.book l.work l.r l.k

abbrev pub decreases-loop-k : goal.decreases-loop-k
decreases-loop-k l = l.k
