-- The loop's invariant (`Passed` of SortCodes): each flag is the conjunction of its test over the arguments passed so far.
use Rattle.book.proofs.SortCodes.{sorts_of, Passed}
use Rattle.book.proofs.sort.common.Given as goal

abbrev pub invariant-loop-k : goal.invariant-loop-k
invariant-loop-k l = Passed (sorts_of l.id l.sorts l.args) l.first l.same l.numeric l.int l.k
