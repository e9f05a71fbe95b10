-- Every accepted step meets its rule as the Alethe specification words it, or by a departure that has a name
-- (`meets-alethe`), since its rule's laws say so of it. With the limits theorem and the converse it is demand 2
-- (`demand2`).
use mathlib.Core.List.{List}
use Prim.Native.Nat.{ℕ}
use Rattle.numbers.specs.Rational.{Rational}
use Rattle.numbers.specs.Bytes.{Bytes}
use Rattle.rules.specs.Limits.{limited}
use Rattle.alethe.specs.Alethe.{carcara}
use Rattle.runs.specs.Run.{Step, Every, steps_of, end}
use Rattle.steps.specs.CheckStep.{check_step}
use Rattle.marking.specs.Check.{mark}
use Rattle.marking.proofs.Turns.{accepted-each}
use Rattle.elaborate.specs.Demands.{Meets, MeetsAlethe, Demand2}
use Rattle.elaborate.proofs.EachRule.{laws}
use Rattle.out_areas.proofs.Everywhere.{every-weaker}
use Rattle.elaborate.proofs.Limits.{the_rusts_answers, the_rusts_marking}
use Rattle.elaborate.proofs.Unrefused.{Ran, Reads, mark_steps, steps-marked, reads, mark_is, listed, ran_of_book}
use Rattle.elaborate.proofs.Unrefused.{known_in}
use Rattle.elaborate.proofs.Unrefused.Reads.{not-read, is_read}
use Rattle.elaborate.proofs.Words.{words-accepted}

module _ (book run : Bytes) (limit : ℕ) where
  abbrev Met : List Step → List (Step × List Rational) → Type 0
  Met ss = Every (λ x. Meets carcara ss x.0 x.1)

  steps_meet : (x : Ran book run) → Met x.steps (mark_steps (limited limit) x.steps).steps
  unfolding check_step
  steps_meet x =
      accepted-each (limited limit) x.steps (Meets carcara x.steps) (steps-marked (limited limit) x.steps)
      (every-weaker
      (λ s h n. (laws s.rule _ s.clause s.args).meets (known_in x s h) _ n) x.steps (ran_of_book x))

  run-meets : Reads book run → Met (steps_of book run) (mark (limited limit) book run).steps
  run-meets (not-read r e) = rw (e (limited limit)) end
  run-meets (is_read x) = rw (listed x, mark_is x (limited limit)) (steps_meet x)

pub meets-alethe : MeetsAlethe
meets-alethe book run limit = run-meets book run limit (reads book run)

-- ---- demand 2

pub demand2 : Demand2
demand2 =
    record { the_rust = the_rusts_answers; marking = the_rusts_marking; alethe = meets-alethe; words = words-accepted }
