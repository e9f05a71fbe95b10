-- The loop walks over the numbers in the bytes, of which there are half as many as bytes.
use lib.Dec.{ltb}
use Rattle.terms.specs.Book.{all_below, numbers}
use Rattle.terms.proofs.Layouts.{Walk}
use Rattle.book.proofs.layout.all_below.Given as goal

abbrev pub invariant-loop-k : goal.invariant-loop-k
invariant-loop-k l = Walk (λ a. ltb a l.id) (numbers l.args) l.k-end l.k (all_below l.id (numbers l.args))
