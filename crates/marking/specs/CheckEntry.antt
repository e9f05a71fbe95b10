-- What the entry point `check` promises: what is answered, and every byte that was lent, equated with definitions. A
-- name with a prime is what lies in a lent area when the function returns.
use Rattle.std.specs.Prelude.{◌≡◌, ℕ, length}
use Rattle.numbers.specs.Bytes.{Bytes}
use Rattle.marking.specs.Check.{check}
use Rattle.marking.specs.Answers.{zeros, marked_of}
use Rattle.marking.specs.declared.check.Marked.{Marked}

pub record CheckDone (book run : Bytes) (limit : ℕ) (work book' run' work' : Bytes) (r : Marked) : Type 0 where
  -- verdict, accepted steps and visits
  pub answered : r ≡ marked_of (check book run limit (length work))
  -- 'book and run unchanged'
  pub same_book : book' ≡ book
  pub same_run : run' ≡ run
  -- 'work area all zero'
  pub cleared : work' ≡ zeros work
