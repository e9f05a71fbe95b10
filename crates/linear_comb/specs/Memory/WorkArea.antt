-- Combinations in lent bytes. Of the work area's 65,536 bytes the first 2,048 hold a sort for each record; then come
-- three areas of 20,480 bytes, one for each of the combinations that are alive at once: the accumulated one, and a
-- literal's two sides. An area has 2,048 places of 10 bytes for entries, in the order of the map, and what is not used
-- is 0. How many entries there are, and the constant, are carried by value.
use Rattle.std.specs.Prelude.{◌≡◌, ◌≢◌, Bool, true, false, ◌++◌, ℕ, ◌+◌, ◌*◌, ◌≤◌, ◌<◌, length, take, drop}
use Rattle.numbers.specs.Rational.{Rational, Proper, neg_q}
use Rattle.numbers.specs.Bytes.{Bytes}
use Rattle.terms.specs.Term.{Term}
use Rattle.terms.specs.Format.{max_records, work_bytes, step_at}
use Rattle.rules.specs.Refusal.{Result}
use Rattle.index_map.specs.IndexMap.{Map, combination, neg_all, neg}
use Rattle.linear_comb.specs.LinearComb.{LinearComb}
use Rattle.index_map.specs.declared.combination.Combination as by_value
use Rattle.index_map.specs.Memory.Answers.{CombinedIs}
use Rattle.index_map.specs.Memory.Entries.{slots, most_entries, entries_of, Held, Kept, NewEntry}

-- ---- sizes and offsets

-- an area
abbrev pub sum_bytes : ℕ
sum_bytes = 20480

-- the areas of the accumulated combination and of a literal's two sides
abbrev pub accumulated : ℕ
accumulated = 0

abbrev pub left_side : ℕ
left_side = 1

abbrev pub right_side : ℕ
right_side = 2

-- ---- a combination by value, with the bytes of its area

abbrev pub Sum : Type 0
Sum = by_value.Combination

abbrev pub comb_of : Bytes → Bytes → Sum → LinearComb
comb_of b w s = combination (entries_of b w s.len) s.constant

pub record KeptSum (b w : Bytes) (s : Sum) : Type 0 where
  pub kept : Kept b w s.len
  pub proper : Proper s.constant

abbrev pub negated : Sum → Sum
negated s = record { len = s.len; constant = neg_q s.constant }

-- ---- promises about the bytes w that are left in an area

pub record Combines (b w : Bytes) (r : Result Sum) (d : Result LinearComb) : Type 0 where
  pub map : Map Term
  pub held : Held b w map
  pub is : CombinedIs r map d

-- ---- the three areas in the work area

abbrev pub area_start : ℕ → ℕ
area_start j = step_at + sum_bytes * j

-- the bytes of area j
unfoldable pub area_of : ℕ → Bytes → Bytes
area_of j w = take sum_bytes (drop (area_start j) w)

-- w with other bytes in area j
unfoldable pub with_area : ℕ → Bytes → Bytes → Bytes
with_area j x w = take (area_start j) w ++ (x ++ drop sum_bytes (drop (area_start j) w))

-- nothing but area j changes
abbrev pub OnlyArea : ℕ → Bytes → Bytes → Type 0
OnlyArea j w w' = w' ≡ with_area j (area_of j w') w

-- an area of a work area of the right length
pub record Area (j : ℕ) (w : Bytes) : Type 0 where
  pub size : length w ≡ work_bytes
  pub among : j < 3

-- two different areas
pub record Apart (i j : ℕ) (w : Bytes) : Type 0 where
  pub first : Area i w
  pub second : Area j w
  pub apart : i ≢ j

abbrev pub signed_all : Bool → Map Term → Map Term
signed_all true m = neg_all m
signed_all false m = m

abbrev pub signed_q : Bool → Rational → Rational
signed_q true q = neg_q q
signed_q false q = q

-- with the sign turned, or as it is
abbrev pub signed_comb : Bool → LinearComb → LinearComb
signed_comb true s = neg s
signed_comb false s = s

-- ---- what the functions on sums and their areas ask

-- a sum by value, in range
abbrev pub SumFits : Sum → Type 0
SumFits s = (s.len ≤ most_entries) × Proper s.constant

-- and a number that it is multiplied by
abbrev pub SumScales : Sum → Rational → Type 0
SumScales s q = (s.len ≤ most_entries) × (Proper s.constant × Proper q)

-- and an atom that is entered with its coefficient
abbrev pub SumEnters : Sum → ℕ → Rational → Type 0
SumEnters s x q = (NewEntry s.len x q × (x < max_records)) × Proper s.constant

-- an area, and how many of its places
abbrev pub AreaCount : ℕ → ℕ → Bytes → Type 0
AreaCount j n w = Area j w × (n ≤ most_entries)

-- the sum in an area, and a number that it is multiplied by
abbrev pub AreaSum : ℕ → Sum → Rational → Bytes → Type 0
AreaSum j s q w = Area j w × SumScales s q

-- the sums in two areas
abbrev pub TwoSums : ℕ → Sum → ℕ → Sum → Bytes → Type 0
TwoSums i s j t w =
    Apart i j w × (((s.len ≤ slots) × (t.len ≤ slots)) × (Proper s.constant × Proper t.constant))
