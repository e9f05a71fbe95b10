-- The memory that a caller lends, and what `elaborate` answers and leaves.
use Rattle.std.specs.Prelude.{ℕ, length}
use Rattle.numbers.specs.Bytes.{Bytes}
use Rattle.elaborate.specs.Elaborate.{Answer, elaborate}
use Rattle.marking.specs.Answers.{area, zeros}
use Rattle.elaborate.specs.declared.elaborate.Elaborated.{Elaborated}

-- what a caller lends
pub record Memory : Type 0 where
  pub book : Bytes
  pub run : Bytes
  pub work : Bytes
  pub out_run : Bytes
  pub out_tail : Bytes

abbrev pub answer_to : Memory → ℕ → Answer
answer_to m limit = elaborate m.book m.run limit (length m.work) (length m.out_run) (length m.out_tail)

-- the answer by value: of what is written, how many bytes it has
abbrev pub elaborated_of : Answer → Elaborated
elaborated_of a =
    record {
      verdict = a.verdict;
      steps = a.steps;
      visits = a.visits;
      run = length a.run;
      tail = length a.tail;
    }

-- what `elaborate` leaves: the code's contract says that this is the memory afterwards
abbrev pub memory_after : Memory → ℕ → Memory
memory_after m limit =
    record {
      book = m.book;
      run = m.run;
      work = zeros m.work;
      out_run = area (length m.out_run) (answer_to m limit).run;
      out_tail = area (length m.out_tail) (answer_to m limit).tail;
    }

-- the memory that a caller lends
abbrev pub lent : Bytes → Bytes → Bytes → Bytes → Bytes → Memory
lent book run work out_run out_tail =
    record { book = book; run = run; work = work; out_run = out_run; out_tail = out_tail }
