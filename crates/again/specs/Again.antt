-- Demand 3 on running code: a run is elaborated, its elaboration is marked again over book and tail, and the two
-- answers are compared. What the function `elaborate_and_mark` answers, and what it leaves.
use Rattle.runs.specs.declared.verdict.Verdict.TheVariants.{AllAccepted}
use Rattle.std.specs.Prelude.{◌≡◌, Bool, true, false, ◌&&◌, not, [], ◌++◌, ℕ, ◌+◌, eqb, leb, length}
use Rattle.numbers.specs.Bytes.{Bytes}
use Rattle.numbers.specs.Bytes.{same_bytes}
use Rattle.elaborate.specs.Elaborate.{Answer, elaborate, written_part}
use Rattle.marking.specs.Answers.{area, zeros}
use Rattle.elaborate.specs.LentMemory.{Memory, answer_to, memory_after}
use Rattle.runs.specs.Verdict.{verdict_number, is_lent}

-- what is lent beside the memory of `elaborate`: room for book and tail, and the out areas of the second marking
pub record Second : Type 0 where
  pub joined : Bytes
  pub out_run : Bytes
  pub out_tail : Bytes

abbrev pub second : Bytes → Bytes → Bytes → Second
second j r t = record { joined = j; out_run = r; out_tail = t }

-- book and tail, where n bytes are room for them
unfoldable pub joined_book : ℕ → Bytes → Bytes → Bytes
joined_book n book tail = elim (leb (length book + length tail) n) [ true ↦ book ++ tail | false ↦ [] ]

abbrev pub elaborated_book : Memory → ℕ → Second → Bytes
elaborated_book m limit s = joined_book (length s.joined) m.book (answer_to m limit).tail

-- the second answer: 'the written part of that out run, byte for byte, over the elaborated run's book, under the same
-- limit'
unfoldable pub answer_again : Memory → ℕ → Second → Answer
answer_again m limit s =
    elaborate (elaborated_book m limit s)
    (written_part (memory_after m limit).out_run (length (answer_to m limit).run))
    limit (length m.work) (length s.out_run) (length s.out_tail)

-- c accepts whole what a wrote: 'verdict 0, exactly the accepted steps and visits of the first marking', 'and its own
-- elaboration is the same run with an empty tail'
unfoldable pub agree : Answer → Answer → Bool
agree a c =
    not (is_lent a.verdict)
    && (eqb (verdict_number c.verdict) (verdict_number AllAccepted)
    && (eqb c.steps a.steps
    && (eqb c.visits a.visits
    && (eqb (length c.tail) 0
    && same_bytes c.run a.run))))

unfoldable pub agrees_again : Memory → ℕ → Second → Bool
agrees_again m limit s =
    leb (length m.book + length (answer_to m limit).tail) (length s.joined)
    && agree (answer_to m limit) (answer_again m limit s)

-- the memory of the second marking afterwards
abbrev pub second_after : Memory → ℕ → Second → Second
second_after m limit s =
    second (area (length s.joined) (elaborated_book m limit s))
    (area (length s.out_run) (answer_again m limit s).run)
    (area (length s.out_tail) (answer_again m limit s).tail)

-- what the second marking answers and leaves
pub record MarkedAgain (m : Memory) (limit : ℕ) (s : Second) (r : Bool) (work : Bytes) (s' : Second) : Type 0 where
  pub answered : r ≡ agrees_again m limit s
  pub cleared : work ≡ zeros m.work
  pub left : s' ≡ second_after m limit s
