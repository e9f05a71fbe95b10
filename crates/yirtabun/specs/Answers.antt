-- The answers of the exported functions: numbers of four bytes each, in a slice that the caller lends. And what each
-- function promises; a name with a prime is what lies in a lent slice when the function returns.
use Rattle.std.specs.Prelude.{◌≡◌, List, [], ◌∷◌, ◌++◌, ℕ, length, take}
use Rattle.numbers.specs.Bytes.{Bytes, bytes_of}
use Rattle.runs.specs.Verdict.{verdict_number}
use Rattle.marking.specs.Check.{Marking, check}
use Rattle.elaborate.specs.Elaborate.{Answer, written_part}
use Rattle.marking.specs.Answers.{area, zeros}
use Rattle.elaborate.specs.LentMemory.{Memory, answer_to}
use Rattle.elaborate.specs.LentMemory.{elaborated_of}
use Rattle.elaborate.specs.ElaborateEntry.{ElaborateDone}

unfoldable pub number_bytes : List ℕ → Bytes
number_bytes [] = []
number_bytes (n ∷ ns) = bytes_of 4 n ++ number_bytes ns

-- in a slice of n bytes: as much as it takes, and zeros behind
unfoldable pub shown : ℕ → Bytes → Bytes
shown n b = take n (area n b)

-- verdict, accepted steps, visits
abbrev pub marked_numbers : Marking → List ℕ
marked_numbers m = verdict_number m.verdict ∷ length m.steps ∷ m.visits ∷ []

-- and the bytes written to each out area
abbrev pub elaborated_numbers : Answer → List ℕ
elaborated_numbers a = verdict_number a.verdict ∷ a.steps ∷ a.visits ∷ length a.run ∷ length a.tail ∷ []

-- ---- what the exported functions promise

pub record CheckShown
    (book run : Bytes) (limit : ℕ) (work answer book' run' work' answer' : Bytes) (r : ℕ) : Type 0 where
  pub verdict : r ≡ verdict_number (check book run limit (length work)).verdict
  pub numbers : answer' ≡ shown (length answer) (number_bytes (marked_numbers (check book run limit (length work))))
  -- 'book and run unchanged'
  pub same_book : book' ≡ book
  pub same_run : run' ≡ run
  -- 'work area all zero'
  pub cleared : work' ≡ zeros work

-- m is lent, m' what lies there afterwards
pub record ElaborateShown
    (m : Memory) (limit : ℕ) (answer : Bytes) (m' : Memory) (answer' : Bytes) (r : ℕ) : Type 0 where
  pub verdict : r ≡ verdict_number (answer_to m limit).verdict
  pub numbers : answer' ≡ shown (length answer) (number_bytes (elaborated_numbers (answer_to m limit)))
  -- the promise of `elaborate`: every lent byte, demand 1's known state, and demand 3
  pub done : ElaborateDone m limit m' (elaborated_of (answer_to m limit))

pub record WrittenShown (out_run : Bytes) (bytes : ℕ) (out_run' : Bytes) (r : ℕ) : Type 0 where
  pub count : r ≡ length (written_part out_run bytes)
  pub same : out_run' ≡ out_run
