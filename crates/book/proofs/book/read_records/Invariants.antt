-- The loop's invariant is `Indexing` of IndexedReading: the sorts of the records before i are written, and the index
-- holds these records.
use Rattle.book.proofs.IndexedReading.{Indexing}
use Rattle.book.proofs.book.read_records.Given as goal

abbrev pub invariant-loop-i : goal.invariant-loop-i
invariant-loop-i l = Indexing l.book l.initial.work l.n l.work l.i
