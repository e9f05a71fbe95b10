-- The verdict of a run. Refusals of what is lent (1 to 8) stand apart from a rule's refusals of one step (10 to 42),
-- so that no rule gives 1 to 8; statements name the class, not the numbers.
use Rattle.std.specs.Prelude.{Bool, true, false, ◌||◌, not, ℕ}
use Rattle.terms.specs.Book.{book_number}
use Rattle.rules.specs.Refusal.{number, is_limit}
use Rattle.runs.specs.declared.verdict.LentRefusal.{LentRefusal}
use Rattle.runs.specs.declared.verdict.LentRefusal.TheVariants.{WorkAreaOrLimit, OfBook, RunSize, RunRecord, NoRoom}
use Rattle.runs.specs.declared.verdict.Verdict.{Verdict}
use Rattle.runs.specs.declared.verdict.Verdict.TheVariants.{AllAccepted, Lent, Stopped}

-- ---- document 01's numbers

abbrev pub lent_number : LentRefusal → ℕ
lent_number WorkAreaOrLimit = 1
lent_number (OfBook c) = book_number c
lent_number RunSize = 6
lent_number RunRecord = 7
lent_number NoRoom = 8

abbrev pub verdict_number : Verdict → ℕ
verdict_number AllAccepted = 0
verdict_number (Lent r) = lent_number r
verdict_number (Stopped r) = number r

-- ---- classes

-- refusals 1 to 8
abbrev pub is_lent : Verdict → Bool
is_lent AllAccepted = false
is_lent (Lent r) = true
is_lent (Stopped r) = false

-- refusals 20 to 42
abbrev pub is_of_rule : Verdict → Bool
is_of_rule AllAccepted = false
is_of_rule (Lent r) = false
is_of_rule (Stopped r) = not (is_limit r)

-- refusals 10 to 12
abbrev pub is_of_limit : Verdict → Bool
is_of_limit AllAccepted = false
is_of_limit (Lent r) = false
is_of_limit (Stopped r) = is_limit r

-- refusals 1 to 12
abbrev pub is_lent_or_limit : Verdict → Bool
is_lent_or_limit v = is_lent v || is_of_limit v
