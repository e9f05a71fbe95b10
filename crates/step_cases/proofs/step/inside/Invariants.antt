-- The loop walks over the numbers in the part, one in each four bytes.
use lib.Dec.{ltb}
use Rattle.terms.specs.Book.{all_below, count}
use Rattle.terms.proofs.Layouts.{Walk}
use Rattle.rules.specs.Memory.Parts.{numbers_in}
use Rattle.step_cases.proofs.step.inside.Given as goal

abbrev pub invariant-loop-k : goal.invariant-loop-k
invariant-loop-k l =
    let terms = count l.book in
    let numbers = numbers_in l.part in
    Walk (λ a. ltb a terms) numbers l.k-end l.k (all_below terms numbers)
