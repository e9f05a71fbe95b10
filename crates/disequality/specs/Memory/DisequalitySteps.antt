-- A literal with the work area lent: what each function of `disequality` answers and leaves, in terms of the
-- definitions.
use Rattle.index_map.specs.Memory.Answers.{comb_with}
use Rattle.index_map.specs.Memory.Answers.{Has}
use Rattle.std.specs.Prelude.{◌≡◌, [], ℕ, ◌<◌, pos, length}
use Rattle.std.specs.Prelude.{Option, Some, None}
use Rattle.numbers.specs.Rational.{Rational, whole, neg_q}
use Rattle.numbers.specs.Bytes.{Bytes}
use Rattle.terms.specs.Term.{Term, Terms}
use Rattle.terms.specs.Book.{count, tree, SortsBelow}
use Rattle.terms.specs.Readers.{arguments_of}
use Rattle.terms.specs.Format.{work_bytes}
use Rattle.rules.specs.Refusal.{Result, or_else, ◌>>=◌}
use Rattle.std.specs.Prelude.{Ok, Err}
use Rattle.rules.specs.declared.refusal.Refusal.TheVariants.{InvalidDisequalityOp}
use Rattle.rules.specs.Limits.{Limits, times}
use Rattle.index_map.specs.IndexMap.{Map, combination, sub, new, Walked, walked, add_constant}
use Rattle.linear_comb.specs.LinearComb.{LinearComb}
use Rattle.index_map.specs.Memory.Entries.{terms, slots, stored, Held}
use Rattle.disequality.specs.Disequality.{inner, two_sides, Disequality, disequality, turned}
use Rattle.linear_comb.specs.Memory.WorkArea.{left_side, right_side, Sum}
use Rattle.linear_comb.specs.Memory.WorkArea.{area_of, with_area, OnlyArea}
use Rattle.rules.specs.Memory.Parts.{Laid}
use Rattle.disequality.specs.declared.disequality.Sides.{Sides}
use Rattle.disequality.specs.declared.disequality.Disequality as by_value

-- the relation that a literal's negation is, and its two sides
unfoldable pub relation_of : Term → Result (ℕ × Term × Term)
relation_of phi = do
  (o, args) ← or_else (inner phi) InvalidDisequalityOp
  (a, b) ← two_sides args
  Ok (o, a, b)

-- an operator, and the record whose arguments it stands between
abbrev pub InnerIs : Bytes → Option (ℕ × ℕ) → Option (ℕ × Terms) → Type 0
InnerIs b (Some (o, x)) d = (d ≡ Some (o, arguments_of (tree b x))) × (x < count b)
InnerIs b None d = d ≡ None

abbrev pub RelationIs : Bytes → Result (ℕ × ℕ × ℕ) → Result (ℕ × Term × Term) → Type 0
RelationIs b (Ok (o, x, y)) d = (d ≡ Ok (o, tree b x, tree b y)) × ((x < count b) × (y < count b))
RelationIs b (Err r) d = d ≡ Err r

-- the walk of a side that is the number q, after its visit
unfoldable pub constant_side : Limits → Rational → ℕ → Result (Walked Term)
constant_side l q n = do
  c ← times l q (whole (pos 1))
  add_constant l c (walked new n)

-- two areas hold the two sides
abbrev pub SidesAre : Result Sides → Map Term → Map Term → Result (ℕ × LinearComb × LinearComb × ℕ) → Type 0
SidesAre (Ok s) m n d =
    (d ≡ Ok (s.operator, comb_with s.left m, comb_with s.right n, s.visits)) × (Has s.left m × Has s.right n)
SidesAre (Err r) m n d = (d ≡ Err r) × ((m ≡ []) × (n ≡ []))

-- in the areas of both sides
pub record SidesLeft (b w w' : Bytes) (r : Result Sides) (d : Result (ℕ × LinearComb × LinearComb × ℕ)) : Type 0 where
  pub left : Map Term
  pub right : Map Term
  pub held-left : Held b (area_of left_side w') left
  pub held-right : Held b (area_of right_side w') right
  pub only : w' ≡ with_area right_side (area_of right_side w') (with_area left_side (area_of left_side w') w)
  pub is : SidesAre r left right d

abbrev pub LiteralIs : Result by_value.Disequality → Map Term → Result Disequality → Type 0
LiteralIs (Ok q) m d = (d ≡ Ok (disequality q.operator (comb_with q.sum m) q.visits)) × Has q.sum m
LiteralIs (Err r) m d = (d ≡ Err r) × (m ≡ [])

-- in the area of the left side
pub record LiteralLeft (b w w' : Bytes) (r : Result by_value.Disequality) (d : Result Disequality) : Type 0 where
  pub map : Map Term
  pub held : Held b (area_of left_side w') map
  pub only : OnlyArea left_side w w'
  pub is : LiteralIs r map d

-- in the area of the left side, with that of the right side emptied
pub record SubtractedLeft (b w w' : Bytes) (r : Result by_value.Disequality) (d : Result Disequality) : Type 0 where
  pub map : Map Term
  pub held : Held b (area_of left_side w') map
  pub only : w' ≡ with_area right_side (stored slots []) (with_area left_side (area_of left_side w') w)
  pub is : LiteralIs r map d

-- the difference of two sides with its constant on the right, turned to >, >= or =
unfoldable pub subtracted : Limits → ℕ → LinearComb → LinearComb → ℕ → Result Disequality
subtracted l o s t n = do
  d ← sub terms l s t
  Ok (turned o (combination d.entries (neg_q d.constant)) n)

-- strengthening changes the operator and the constant; the entries m stay
abbrev pub StrengthenedIs : Map Term → Result (ℕ × Sum) → Result (ℕ × LinearComb) → Type 0
StrengthenedIs m (Ok (o, s)) d = (d ≡ Ok (o, comb_with s m)) × Has s m
StrengthenedIs m (Err r) d = d ≡ Err r

-- the areas of a literal's two sides are empty
pub record Between (b w : Bytes) : Type 0 where
  pub laid : Laid b
  pub sorts : SortsBelow (count b) b w
  pub size : length w ≡ work_bytes
  pub left : area_of left_side w ≡ stored slots []
  pub right : area_of right_side w ≡ stored slots []
