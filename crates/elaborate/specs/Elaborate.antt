-- The elaboration of a run: the accepted steps, each elaborated. And what the entry points answer.
use Rattle.runs.specs.declared.verdict.Verdict.{Verdict}
use Rattle.runs.specs.declared.verdict.Verdict.TheVariants.{Lent}
use Rattle.runs.specs.declared.verdict.LentRefusal.TheVariants.{NoRoom, WorkAreaOrLimit}
use Rattle.std.specs.Prelude.{true, false, ◌&&◌, List, [], ◌∷◌, ◌++◌, ℕ, ◌%◌, eqb, leb, length, take}
use Rattle.numbers.specs.Rational.{Rational}
use Rattle.numbers.specs.Bytes.{Bytes}
use Rattle.terms.specs.Format.{run_record_bytes}
use Rattle.rules.specs.Limits.{Limits, limited}
use Rattle.runs.specs.Run.{Step}
use Rattle.marking.specs.Check.{Marking, mark, lent_ok}
use Rattle.out_areas.specs.Farkas.{Written, written, add_reals, step_bytes, tail_bytes, fits}

unfoldable pub add_steps : Bytes → Written → List (Step × List Rational) → Written
add_steps book w [] = w
add_steps book w (s ∷ ss) = add_steps book (add_reals book (written (w.run ++ step_bytes s.0) w.tail) s.1) ss

-- ---- the answer

pub record Answer : Type 0 where
  pub verdict : Verdict
  pub steps : ℕ
  pub visits : ℕ
  -- what is written to the out areas
  pub run : Bytes
  pub tail : Bytes

abbrev pub answer : Verdict → ℕ → ℕ → Bytes → Bytes → Answer
answer v s n r t = record { verdict = v; steps = s; visits = n; run = r; tail = t }

-- 8 is tested after the marking and replaces its verdict
unfoldable pub elaborated : Bytes → ℕ → ℕ → Marking → Answer
elaborated book out_run out_tail m =
    let w : Written = add_steps book (written [] []) m.steps in
    elim (fits book out_run out_tail w) [
      | true ↦ answer m.verdict (length m.steps) m.visits w.run (tail_bytes w.tail)
      | false ↦ answer (Lent NoRoom) (length m.steps) m.visits [] []
    ]

unfoldable pub elaborate_under : Limits → Bytes → Bytes → ℕ → ℕ → Answer
elaborate_under l book run out_run out_tail = elaborated book out_run out_tail (mark l book run)

-- the lengths of the work area and of the two out areas
unfoldable pub elaborate : Bytes → Bytes → ℕ → ℕ → ℕ → ℕ → Answer
elaborate book run limit work out_run out_tail = elim (lent_ok work limit) [
  | true ↦ elaborate_under (limited limit) book run out_run out_tail
  | false ↦ answer (Lent WorkAreaOrLimit) 0 0 [] []
]

-- ---- the written part of the out run, as an entry point shows it

unfoldable pub written_part : Bytes → ℕ → Bytes
written_part out bytes = elim (leb bytes (length out) && eqb (bytes % run_record_bytes) 0) [
  | true ↦ take bytes out
  | false ↦ []
]
