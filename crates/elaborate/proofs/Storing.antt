-- What accepted steps infer: numbers that can be stored as constants (`steps-stored`), and `assume` nothing
-- (`assumes_infer_nothing`). No premise is needed.
use Rattle.runs.specs.declared.rule.Rule.TheVariants.{Assume}
use mathlib.Core.Path.{◌≡◌}
use mathlib.Core.List.{[]}
use Prim.Native.Nat.{ℕ}
use Rattle.numbers.specs.Bytes.{Bytes}
use Rattle.rules.specs.Limits.{limited}
use Rattle.rules.proofs.Yields.{at_ok, by_answer}
use Rattle.runs.specs.Run.{Every}
use Rattle.steps.specs.CheckStep.{check_step}
use Rattle.marking.proofs.Turns.{accepted-each}
use Rattle.elaborate.proofs.EachRule.{laws}
use Rattle.out_areas.proofs.Everywhere.{every-weaker}
use Rattle.farkas.proofs.NothingInferred.{infers-nothing}
use Rattle.out_areas.proofs.RealRecord.{Storable}
use Rattle.elaborate.proofs.Unrefused.{Ran, mark_steps, steps-marked, ran_of_book, known_in}

module _ {book run : Bytes} (limit : ℕ) (x : Ran book run) where
  pub steps-stored : Every (λ y. Every Storable y.1) (mark_steps (limited limit) x.steps).steps
  unfolding check_step
  steps-stored =
      accepted-each (limited limit) x.steps (λ s. Every Storable) (steps-marked (limited limit) x.steps)
      (every-weaker
      (λ s h n. (laws s.rule _ s.clause s.args).infers.stored (known_in x s h) limit n) x.steps
      (ran_of_book x))

  pub assumes_infer_nothing : Every (λ y. y.0.rule ≡ Assume → y.1 ≡ []) (mark_steps (limited limit) x.steps).steps
  assumes_infer_nothing =
      accepted-each (limited limit) x.steps (λ s qs. s.rule ≡ Assume → qs ≡ [])
      (steps-marked (limited limit) x.steps)
      (every-weaker
      (λ s h n. by_answer _ λ a e f. at_ok (infers-nothing (limited limit) x.steps s n (rw f)) e) x.steps
      (ran_of_book x))
