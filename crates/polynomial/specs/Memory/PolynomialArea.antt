-- Polynomials in lent bytes. An area of 1,600 bytes has 64 places of 25 bytes: a monomial in 17 bytes, which are how
-- many atoms it has and their record numbers, and its coefficient in eight. What is not used is 0. The number of
-- entries and the constant are carried by value. The polynomials of nested products lie one above the other: a stack of
-- areas, and then zeros.
use Rattle.std.specs.Prelude.{◌≡◌, true, false, List, [], ◌∷◌, ◌++◌, ℕ, suc, ◌+◌, ◌*◌, ◌-◌, ◌≤◌, ◌<◌, ltb, length}
use Rattle.std.specs.Prelude.{set, take, drop, replicate}
use Rattle.numbers.specs.Rational.{Rational, Proper, neg_q}
use Rattle.numbers.specs.Bytes.{Bytes, bytes_of, same_bytes}
use Rattle.terms.specs.Term.{Term, record_number}
use Rattle.terms.specs.Book.{count, tree}
use Rattle.terms.specs.Readers.{within}
use Rattle.rules.specs.Refusal.{Result, ◌>>=◌, assert}
use Rattle.rules.specs.declared.refusal.Refusal.TheVariants.{PolynomialSize}
use Rattle.rules.specs.Limits.{Limits, times}
use Rattle.index_map.specs.Memory.StoredMaps as maps
use Rattle.index_map.specs.Memory.StoredMaps.{Encoding, All}
use Rattle.index_map.specs.IndexMap.{Map, combination, insert, add_constant, Walked, walked}
use Rattle.polynomial.specs.Polynomial.{Monomial, Polynomial, monomials, joined, mul_each, insert_scaled}
use Rattle.rules.specs.Memory.Parts.{blank}
use Rattle.index_map.specs.declared.combination.Combination as by_value
use Rattle.index_map.specs.declared.combination.Walked as walked_by_value
use Rattle.index_map.specs.Memory.Answers.{AtMost, InsertedIs, CombinedIs, WalkIs}

-- ---- the bytes of a monomial, of an entry, of an area

-- places for entries in an area
abbrev pub places : ℕ
places = 64

abbrev pub max_atoms : ℕ
max_atoms = 8

-- the bytes of a monomial, of a place, of an area
abbrev pub key_size : ℕ
key_size = 17

abbrev pub place_size : ℕ
place_size = 25

abbrev pub area_size : ℕ
area_size = 1600

unfoldable pub atom_bytes : Monomial → Bytes
atom_bytes [] = []
atom_bytes (t ∷ m) = bytes_of 2 (record_number t) ++ atom_bytes m

-- how many atoms, and room for eight record numbers
unfoldable pub monomial_bytes : Monomial → Bytes
monomial_bytes m = length m ∷ (atom_bytes m ++ replicate (2 * (max_atoms - length m)) 0)

-- w with other bytes at i
unfoldable pub pasted : Bytes → ℕ → Bytes → Bytes
pasted w i x = take i w ++ (x ++ drop (i + length x) w)

-- a monomial in 17 bytes, which are copied and compared as they are
abbrev pub polynomials : Encoding Monomial Bytes
polynomials =
    record {
      code = monomial_bytes;
      same = same_bytes;
      width = key_size;
      bytes = λ key. key;
      read = λ w i. take key_size (drop i w);
      write = λ key w i. pasted w i key;
      blank_key = replicate key_size 0;
    }

abbrev pub stored : ℕ → Map Monomial → Bytes
stored = maps.stored polynomials

-- ---- reading and writing at a place

-- the bytes of the monomial of entry k
unfoldable pub key_at : Bytes → ℕ → Bytes
key_at w k = take key_size (drop (place_size * k) w)

abbrev pub keys_of : Bytes → ℕ → List Bytes
keys_of = maps.keys_of polynomials

abbrev pub place : List Bytes → Bytes → ℕ
place = maps.place polynomials

abbrev pub put_entry : Bytes → ℕ → Bytes → Rational → Bytes
put_entry = maps.put_entry polynomials

abbrev pub blank_key : Bytes
blank_key = polynomials.blank_key

abbrev pub blanked : ℕ → Bytes → Bytes
blanked = maps.blanked polynomials

abbrev pub swapped : ℕ → ℕ → Bytes → Bytes
swapped = maps.swapped polynomials

-- the place of the first atom above a number, where `place` puts an atom
unfoldable pub first_above : Monomial → ℕ → ℕ
first_above [] i = 0
first_above (a ∷ m) i = elim (ltb i (record_number a)) [ true ↦ 0 | false ↦ suc (first_above m i) ]

-- ---- what an area holds: its atoms are terms of the book, its coefficients are in range, and document 01's sizes are
-- kept

pub record Atom (b : Bytes) (t : Term) : Type 0 where
  pub term : t ≡ tree b (record_number t)
  pub inside : record_number t < count b

unfoldable pub Atoms : Bytes → Monomial → Type 0
Atoms b [] = Unit {0}
Atoms b (t ∷ m) = Atom b t × Atoms b m

-- bytes that are a monomial's
pub record Key (b key : Bytes) (m : Monomial) : Type 0 where
  pub bytes : key ≡ monomial_bytes m
  pub atoms : Atoms b m
  pub few : length m ≤ max_atoms

pub record Entry (b : Bytes) (e : Monomial × Rational) : Type 0 where
  pub atoms : Atoms b e.0
  pub few : length e.0 ≤ max_atoms
  pub proper : Proper e.1

pub record Good (b : Bytes) (m : Map Monomial) : Type 0 where
  pub entries : All (Entry b) m
  pub few : length m ≤ places

-- the bytes w of an area are those of m
abbrev pub Held : Bytes → Bytes → Map Monomial → Type 0
Held = maps.Held polynomials places Good

-- ---- a stack: areas one above the other, then zeros up to n bytes

unfoldable pub stack_bytes : List (Map Monomial) → ℕ → Bytes
stack_bytes [] n = replicate n 0
stack_bytes (m ∷ ms) n = stored places m ++ stack_bytes ms (n - area_size)

unfoldable pub AllGood : Bytes → List (Map Monomial) → Type 0
AllGood b [] = Unit {0}
AllGood b (m ∷ ms) = Good b m × AllGood b ms

-- there are so many areas, j among them
abbrev pub StackHas : ℕ → Bytes → Type 0
StackHas j w = area_size * j + area_size ≤ length w

-- the bytes of area j
unfoldable pub part_at : ℕ → Bytes → Bytes
part_at j w = take area_size (drop (area_size * j) w)

pub record Stacked (b w : Bytes) (ms : List (Map Monomial)) : Type 0 where
  pub bytes : w ≡ stack_bytes ms (length w)
  pub good : AllGood b ms

-- a polynomial by value
abbrev pub Poly : Type 0
Poly = by_value.Combination

-- ---- promises

-- an area
abbrev pub Inserts : Bytes → Bytes → Result ℕ → Result (Map Monomial) → Type 0
Inserts = maps.Inserts polynomials places Good

-- a stack in which area j is made anew
pub record InsertsAt
    (b w : Bytes) (ms : List (Map Monomial)) (j : ℕ) (r : Result ℕ) (d : Result (Map Monomial)) : Type 0 where
  pub map : Map Monomial
  pub held : Stacked b w (set ms j map)
  pub is : InsertedIs r map d

-- a stack of one polynomial
pub record Combines (b w : Bytes) (r : Result Poly) (d : Result Polynomial) : Type 0 where
  pub map : Map Monomial
  pub held : Stacked b w (map ∷ [])
  pub is : CombinedIs r map d

pub record Walks (b w : Bytes) (r : Result walked_by_value.Walked) (d : Result (Walked Monomial)) : Type 0 where
  pub map : Map Monomial
  pub held : Stacked b w (map ∷ [])
  pub is : WalkIs r map d

-- no more entries than places
abbrev pub Few : Result ℕ → Type 0
Few = AtMost places

-- ---- single entries of the loops of `mul`

abbrev pub no_entry : Monomial × Rational
no_entry = ([], blank)

unfoldable pub enter_product : Limits → Monomial → Rational → Monomial × Rational → Map Monomial → Result (Map Monomial)
enter_product l x c e m = do
  _ ← assert (within l.atoms (length x + length e.0)) PolynomialSize
  v ← times l c e.1
  insert monomials l m (joined x e.0) v

unfoldable pub mul_entry : Limits → Monomial × Rational → Polynomial → Map Monomial → Result (Map Monomial)
mul_entry l e q m = do
  m1 ← mul_each l e.0 e.1 q.entries m
  c ← times l e.1 q.constant
  insert monomials l m1 e.0 c

unfoldable pub enter_scaled : Limits → Monomial × Rational → Rational → Map Monomial → Result (Map Monomial)
enter_scaled l e k m = do
  c ← times l e.1 k
  insert monomials l m e.0 c

-- the arm of `add_term` for a product p, once that is made
unfoldable pub add_scaled : Limits → Rational → Polynomial → Walked Monomial → Result (Walked Monomial)
add_scaled l coeff p w = do
  m ← insert_scaled l p.entries coeff w.sum.entries
  c ← times l coeff p.constant
  add_constant l c (walked (combination m w.sum.constant) w.visits)

-- an entry with the sign turned
unfoldable pub enter_turned : Limits → Monomial × Rational → Map Monomial → Result (Map Monomial)
enter_turned l e m = insert monomials l m e.0 (neg_q e.1)

-- ---- what the functions on an area of monomials ask

-- an area, a key, and a place
abbrev pub MonomialPlace : ℕ → Bytes → Bytes → Type 0
MonomialPlace k entries key = (length entries ≡ area_size) × ((length key ≡ key_size) × (k < places))

-- an area, and how many of its places
abbrev pub MonomialCount : ℕ → Bytes → Type 0
MonomialCount n entries = (length entries ≡ area_size) × (n ≤ places)

-- an entry that comes to n others
abbrev pub NewMonomial : ℕ → Bytes → Rational → Bytes → Type 0
NewMonomial n key q entries = (length entries ≡ area_size) × ((n ≤ places) × ((length key ≡ key_size) × Proper q))

-- in area j of several: how many of its places; an entry that comes to n others
abbrev pub AtCount : ℕ → ℕ → Bytes → Type 0
AtCount j n w = StackHas j w × (n ≤ places)

abbrev pub AtNew : ℕ → ℕ → Bytes → Rational → Bytes → Type 0
AtNew j n key q w = StackHas j w × ((n ≤ places) × ((length key ≡ key_size) × Proper q))

-- n entries in area j, and m in area t that come to them times q
abbrev pub AtScaled : ℕ → ℕ → ℕ → ℕ → Rational → Bytes → Type 0
AtScaled j n t m q w = (StackHas j w × StackHas t w) × (Proper q × ((n ≤ places) × (m ≤ places)))

-- two polynomials by value, whose entries lie in areas 0 and 1
abbrev pub AtProduct : Poly → Poly → Bytes → Type 0
AtProduct p q w =
    StackHas 2 w × (((p.len ≤ places) × (q.len ≤ places)) × (Proper p.constant × Proper q.constant))
