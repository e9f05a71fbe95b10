-- What the entry point `elaborate_and_mark` promises.
use Rattle.std.specs.Prelude.{◌≡◌, true, not, ℕ, ◌+◌, ◌≤◌, T, length}
use Rattle.rules.specs.Limits.{limited}
use Rattle.runs.specs.Verdict.{is_lent}
use Rattle.marking.specs.Check.{mark}
use Rattle.elaborate.specs.LentMemory.{Memory, answer_to}
use Rattle.elaborate.specs.ElaborateEntry.{ElaborateDone}
use Rattle.elaborate.specs.Statements.{NoSurplus}
use Rattle.runs.specs.Run.{Every}
use Rattle.again.specs.Again.{Second, agrees_again, second_after}
use Rattle.again.specs.declared.again.Twice.{Twice}

-- where demand 3's second marking is due: 'refusals 1 to 8 don't arise', and no bounded_farkas step has more
-- arguments than literals
pub record SecondMarkingApplies (m : Memory) (limit : ℕ) : Type 0 where
  pub free : T (not (is_lent (answer_to m limit).verdict))
  pub no_surplus : Every (λ x. NoSurplus x.0) (mark (limited limit) m.book m.run).steps

-- m and s are lent, m' and s' what lies there afterwards
pub record AgainDone (m : Memory) (limit : ℕ) (s : Second) (m' : Memory) (s' : Second) (r : Twice) : Type 0 where
  -- the first answer, and the bytes of the first marking's memory, are those of `elaborate`
  pub first : ElaborateDone m limit m' r.first
  -- whether the second marking agrees
  pub again : r.again ≡ agrees_again m limit s
  -- every byte that is lent beside
  pub left : s' ≡ second_after m limit s
  -- where it is due it does, if `joined` has room for book and written tail and the second out areas are as large as
  -- the first
  pub agrees :
      SecondMarkingApplies m limit → length m.book + r.first.tail ≤ length s.joined →
      length s.out_run ≡ length m.out_run → length s.out_tail ≡ length m.out_tail → r.again ≡ true
