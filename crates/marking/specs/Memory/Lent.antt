-- A marking under way by value, and what comes before its first step, in terms of `Check`.
use Rattle.runs.specs.declared.verdict.LentRefusal.{LentRefusal}
use Rattle.runs.specs.declared.verdict.LentRefusal.TheVariants.{OfBook, WorkAreaOrLimit}
use Rattle.std.specs.Prelude.{◌≡◌, true, false, List, ℕ, ◌-◌, ◌≤◌, length}
use Rattle.numbers.specs.Bytes.{Bytes}
use Rattle.terms.specs.Book.{read_book, records_read, put_sorts}
use Rattle.std.specs.Prelude.{Result, Ok, Err}
use Rattle.rules.specs.Memory.Parts.{Ready}
use Rattle.rules.specs.Limits.{limited}
use Rattle.runs.specs.Run.{Step, read_run, steps_of}
use Rattle.marking.specs.Check.{State, turn, lent_ok}
use Rattle.marking.specs.Answers.{zeros}
use Rattle.runs.specs.Memory.StepParts.{step_from, passed}
use Rattle.marking.specs.declared.check.State as by_value

-- ---- a marking under way

-- the byte at which step k of a run begins
abbrev pub place_of : Bytes → ℕ → ℕ
place_of run k = length run - length (step_from k run)

abbrev pub state_of : Bytes → ℕ → State → by_value.State
state_of run limit s =
    record {
      at = place_of run (length s.steps);
      steps = length s.steps;
      counter = record { visits = s.counter.visits; limit = limit };
      verdict = s.verdict;
    }

-- what every state has that is reached from the first
pub record Reached (run : List Step) (limit : ℕ) (s : State) : Type 0 where
  pub limits : s.counter.limits ≡ limited limit
  pub place : length s.steps ≤ length run

-- s is such a state, by value
pub record Underway (book run : Bytes) (s : by_value.State) : Type 0 where
  pub state : State
  pub reached : Reached (steps_of book run) s.counter.limit state
  pub is : s ≡ state_of run s.counter.limit state

-- one turn, from a state by value to the next
abbrev pub Turns : Bytes → Bytes → by_value.State → by_value.State → Type 0
Turns book run s r =
    (σ : State) → Reached (steps_of book run) s.counter.limit σ → s ≡ state_of run s.counter.limit σ →
    r ≡ state_of run s.counter.limit (turn (steps_of book run) σ)

-- ---- before the first step

-- refusals 1 to 7, or the steps of the run
unfoldable pub opening : Bytes → Bytes → ℕ → ℕ → Result (List Step) LentRefusal
opening book run limit work = elim (lent_ok work limit) [
  | true ↦ elim (read_book book) [ Ok n ↦ read_run book run | Err e ↦ Err (OfBook e.refusal) ]
  | false ↦ Err WorkAreaOrLimit
]

-- the work area then: as it was, where it or the limit is refused; else the sorts of the records that were read, and
-- zeros
unfoldable pub open_work : Bytes → ℕ → Bytes → Bytes
open_work book limit work = elim (lent_ok (length work) limit) [
  | true ↦ put_sorts (records_read (read_book book)) book (zeros work)
  | false ↦ work
]

-- what `open` answers, and what it leaves: every byte of the work area, which is ready for the first step where
-- nothing is refused
pub record Opens (book run : Bytes) (limit : ℕ) (work work' : Bytes) (r : Result (Unit {0}) LentRefusal) : Type 0 where
  pub answered : r ≡ passed (opening book run limit (length work))
  pub left : work' ≡ open_work book limit work
  pub ready : r ≡ Ok tt → Ready book work'
