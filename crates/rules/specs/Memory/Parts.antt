-- A step's literals and arguments as parts of the lent run, and what a rule answers.
use Rattle.std.specs.Prelude.{◌≡◌, true, List, [], ◌∷◌, ℕ, ◌+◌, ◌*◌, ◌-◌, ◌<◌, pos, length, drop}
use Rattle.std.specs.Prelude.{replicate}
use Rattle.numbers.specs.Bytes.{Bytes}
use Rattle.terms.specs.Term.{Term, Terms}
use Rattle.terms.specs.Book.{count, tree, all_below, record_of, layout_ok, SortsBelow}
use Rattle.rules.specs.Refusal.{Result, ◌>>=◌}
use Rattle.std.specs.Prelude.{Ok}
use Rattle.numbers.specs.Rational.{Rational, frac, Proper}
use Rattle.terms.specs.Format.{work_bytes, step_at}

-- ---- a part of a run: 4-byte records, of which a rule reads the 16-bit numbers

unfoldable pub numbers_in : Bytes → List ℕ
numbers_in [] = []
numbers_in (m ∷ []) = []
numbers_in (m ∷ c ∷ []) = []
numbers_in (m ∷ c ∷ x ∷ []) = []
numbers_in (m ∷ c ∷ x ∷ y ∷ r) = (x + 256 * y) ∷ numbers_in r

unfoldable pub named : Bytes → List ℕ → List Term
named b [] = []
named b (i ∷ l) = tree b i ∷ named b l

-- the terms that a part names
abbrev pub terms_in : Bytes → Bytes → List Term
terms_in b part = named b (numbers_in part)

-- each record of a part names a record of the book
abbrev pub Inside : Bytes → Bytes → Type 0
Inside b part = all_below (count b) (numbers_in part) ≡ true

-- ---- answers

-- a rule that makes no visit, and one that makes some: the visits made so far
abbrev pub after : ℕ → Result (Unit {0}) → Result ℕ
after n r = r >>= λ u. Ok n

-- zeros where a number stood
abbrev pub blank : Rational
blank = frac (pos 0) (pos 0)

-- the definition's number, in range, or its refusal
pub record Expects (r d : Result Rational) : Type 0 where
  pub is : r ≡ d
  pub proper : (q : Rational) → r ≡ Ok q → Proper q

-- the operator of an operation, without its arguments
abbrev pub operator_alone : Result (ℕ × Terms) → Result ℕ
operator_alone d = d >>= λ o. Ok o.0

-- ---- what a step finds and leaves

-- the records of the book are laid out as terms
abbrev pub Laid : Bytes → Type 0
Laid b = (j : ℕ) → j < count b → layout_ok j (record_of b j) ≡ true

-- a sort for each record of a book that was read; after the sorts zeros
pub record Ready (b w : Bytes) : Type 0 where
  pub sorts : SortsBelow (count b) b w
  pub size : length w ≡ work_bytes
  pub zeros : drop step_at w ≡ replicate (work_bytes - step_at) 0
