-- Sums in lent bytes: an area has 2,048 places of 10 bytes, a record number in two and a number in eight, in the order
-- of the map; what is not used is 0.
use Rattle.std.specs.Prelude.{◌≡◌, Bool, true, ◌&&◌, not, List, [], ◌∷◌, ℕ, zero, suc, ◌+◌, ◌≤◌, ◌<◌, eqb, length}
use Rattle.std.specs.Prelude.{drop, Option, Some, None}
use Rattle.numbers.specs.Rational.{Rational, Proper}
use Rattle.numbers.specs.Bytes.{Bytes, le, put, bytes_of, number_at}
use Rattle.terms.specs.Term.{Term, record_number, same}
use Rattle.terms.specs.Book.{count, tree}
use Rattle.rules.specs.Refusal.{Result}
use Rattle.index_map.specs.IndexMap.{Map, Keys}
use Rattle.index_map.specs.Memory.Answers.{AtMost}
use Rattle.index_map.specs.Memory.StoredMaps as maps
use Rattle.index_map.specs.Memory.StoredMaps.{Encoding}
use Rattle.terms.specs.Readers.{unbounded}

-- places for entries in an area
abbrev pub slots : ℕ
slots = 2048

-- as many entries as two areas have: no function on a sum is lent more
abbrev pub most_entries : ℕ
most_entries = 4096

-- what two bytes can say: a record number is below it
abbrev pub key_codes : ℕ
key_codes = 65536

-- a term is a record number in two bytes
abbrev pub sums : Encoding Term ℕ
sums =
    record {
      code = record_number;
      same = eqb;
      width = 2;
      bytes = bytes_of 2;
      read = le 2;
      write = put 2;
      blank_key = 0;
    }

abbrev pub stored : ℕ → Map Term → Bytes
stored = maps.stored sums

-- the record numbers of the first n entries
abbrev pub keys_of : Bytes → ℕ → List ℕ
keys_of = maps.keys_of sums

-- the first n entries, as a map of a book's terms
unfoldable pub entries_of : Bytes → Bytes → ℕ → Map Term
entries_of b w zero = []
entries_of b w (suc n) = (tree b (le 2 w 0), number_at w 2) ∷ entries_of b (drop 10 w) n

abbrev pub place : List ℕ → ℕ → ℕ
place = maps.place sums

abbrev pub put_entry : Bytes → ℕ → ℕ → Rational → Bytes
put_entry = maps.put_entry sums

abbrev pub blanked : ℕ → Bytes → Bytes
blanked = maps.blanked sums

abbrev pub swapped : ℕ → ℕ → Bytes → Bytes
swapped = maps.swapped sums

unfoldable pub absent : ℕ → Map Term → Bool
absent i [] = true
absent i (e ∷ m) = not (eqb (record_number e.0) i) && absent i m

-- an entry in front of others
pub record Entry (b : Bytes) (e : Term × Rational) (m : Map Term) : Type 0 where
  pub term : e.0 ≡ tree b (record_number e.0)
  pub inside : record_number e.0 < count b
  pub proper : Proper e.1
  pub once : absent (record_number e.0) m ≡ true

unfoldable pub Good : Bytes → Map Term → Type 0
Good b [] = Unit {0}
Good b (e ∷ m) = Entry b e m × Good b m

-- the bytes w of an area are those of m
abbrev pub Held : Bytes → Bytes → Map Term → Type 0
Held = maps.Held sums slots Good

-- they are those of a map of n entries
pub record Kept (b w : Bytes) (n : ℕ) : Type 0 where
  pub map : Map Term
  pub held : Held b w map
  pub size : n ≡ length map

-- the number that is found, in range
abbrev pub CoefficientIs : Option Rational → Option Rational → Type 0
CoefficientIs (Some q) d = (d ≡ Some q) × Proper q
CoefficientIs None d = d ≡ None

abbrev pub Inserts : Bytes → Bytes → Result ℕ → Result (Map Term) → Type 0
Inserts = maps.Inserts sums slots Good

-- an insertion makes one entry more at most
abbrev pub Grown : ℕ → Result ℕ → Type 0
Grown n = AtMost (n + 1)

-- terms are equal where their record numbers are; a combination has any number of entries
abbrev pub terms : Keys Term
terms = record { same = same; most = λ l. unbounded }

-- ---- what the functions on an area of entries ask

-- a place, and a key that goes into two bytes
abbrev pub EntryPlace : ℕ → ℕ → Type 0
EntryPlace k key = (k ≤ most_entries) × (key < key_codes)

-- an entry that comes to n others
abbrev pub NewEntry : ℕ → ℕ → Rational → Type 0
NewEntry n key q = (n ≤ most_entries) × ((key < key_codes) × Proper q)
