-- The tests are those of `parts_ok`, one after the other.
use Rattle.std.proofs.Common.{rules, tests, arith, ltb, ℕ}
use Rattle.terms.specs.Book.{count}
use Rattle.runs.specs.Memory.StepParts.{parts_ok}
use Rattle.runs.proofs.RowRecords.{is_literal}
use Rattle.runs.proofs.StepReading.{right_in}
use Rattle.runs.proofs.run.parts_ok.Goals as goal
use Rattle.runs.proofs.run.parts_ok.Goals.{then-all_right, else-all_right}

pub returns-then-all_right-2 : goal.returns-then-all_right-2
unfolding parts_ok
returns-then-all_right-2 c =
    let ps = c.all_right.ensures (λ k. ltb k c.args.n) (λ k r h. search (rules, tests)) in
    let inside = λ (k : ℕ). ltb k (count c.args.book.now) in
    let as' = c.all_right-then-all_right-2.ensures inside (λ k r h. search (rules, tests)) in
    elim c.if-all_right.branch [
      | then-all_right w ↦
          let cs = w.all_right-then-all_right.ensures (is_literal c.args.book.now) (λ k r h. search (rules, tests)) in
          grind (arith, right_in)
      | else-all_right w ↦ grind (arith, right_in)
    ]

pub returns-else-all_right-2 : goal.returns-else-all_right-2
unfolding parts_ok
returns-else-all_right-2 c =
    let ps = c.all_right.ensures (λ k. ltb k c.args.n) (λ k r h. search (rules, tests)) in
    elim c.if-all_right.branch [
      | then-all_right w ↦
          let cs = w.all_right-then-all_right.ensures (is_literal c.args.book.now) (λ k r h. search (rules, tests)) in
          grind (arith, right_in)
      | else-all_right w ↦ grind (arith, right_in)
    ]
