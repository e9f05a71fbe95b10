-- The classes of verdicts are document 01's ranges of numbers: refusals of what is lent are 1 to 8 (`lent-numbers`),
-- these and the limits 1 to 12 (`lent_or_limit-numbers`), a rule's other refusals 20 to 42 (`rule-numbers`).
use Rattle.runs.specs.declared.verdict.Verdict.{Verdict}
use Rattle.runs.specs.declared.verdict.Verdict.TheVariants.{Stopped, Lent, AllAccepted}
use Rattle.runs.specs.declared.verdict.LentRefusal.TheVariants.{NoRoom, RunRecord, RunSize, OfBook, WorkAreaOrLimit}
use mathlib.Core.Path.{◌≡◌, refl, ap}
use mathlib.Core.Bool.{Bool, ◌&&◌}
use Prim.Native.Nat.{ℕ}
use lib.Dec.{leb}
use Rattle.terms.specs.Book.{book_number}
use Rattle.terms.specs.declared.reading.BookRefusal.{BookRefusal}
use Rattle.terms.specs.declared.reading.BookRefusal.TheVariants.{BookSize}
use Rattle.rules.specs.Refusal.{number}
use Rattle.rules.specs.declared.refusal.Refusal.{Refusal}
use Rattle.rules.specs.declared.refusal.Refusal.TheVariants.{VisitLimit}
use Rattle.runs.specs.Verdict.{verdict_number, is_lent, is_of_rule, is_lent_or_limit}

-- of what is lent; of a rule; of what is lent or by a limit
abbrev classes : Verdict → Bool × Bool × Bool
classes v = (is_lent v, is_of_rule v, is_lent_or_limit v)

abbrev pub between : ℕ → ℕ → ℕ → Bool
between m n k = leb m k && leb k n

abbrev ranges : ℕ → Bool × Bool × Bool
ranges n = (between 1 8 n, between 20 42 n, between 1 12 n)

book-classes : (c : BookRefusal) → classes (Lent (OfBook c)) ≡ ranges (book_number c)
book-classes BookSize = refl
book-classes c = refl

rule-classes : (r : Refusal) → classes (Stopped r) ≡ ranges (number r)
rule-classes VisitLimit = refl
rule-classes r = refl

class-numbers : (v : Verdict) → classes v ≡ ranges (verdict_number v)
class-numbers AllAccepted = refl
class-numbers (Lent WorkAreaOrLimit) = refl
class-numbers (Lent (OfBook c)) = book-classes c
class-numbers (Lent RunSize) = refl
class-numbers (Lent RunRecord) = refl
class-numbers (Lent NoRoom) = refl
class-numbers (Stopped r) = rule-classes r

module _ (v : Verdict) where
  pub lent-numbers : is_lent v ≡ between 1 8 (verdict_number v)
  lent-numbers = ap (λ x. x.0) (class-numbers v)

  pub rule-numbers : is_of_rule v ≡ between 20 42 (verdict_number v)
  rule-numbers = ap (λ x. x.1) (class-numbers v)

  pub lent_or_limit-numbers : is_lent_or_limit v ≡ between 1 12 (verdict_number v)
  lent_or_limit-numbers = ap (λ x. x.2) (class-numbers v)
