-- Records that are noted: a bit for each of 2,048, 64 to a word.
use Rattle.std.specs.Prelude.{◌≡◌, Bool, true, List, [], ◌∷◌, ℕ, ◌/◌, ◌%◌, ◌^◌, eqb, length, get_or, set}
use Rattle.std.specs.Int.Bits.{bit_or}
use Rattle.numbers.specs.Choice.{when◌then◌else◌}
use Rattle.terms.specs.Term.{Term, record_number}
use Rattle.index_map.specs.IndexMap.{Map}

abbrev pub note_words : ℕ
note_words = 32

abbrev pub word_bits : ℕ
word_bits = 64

unfoldable pub is_noted : List ℕ → ℕ → Bool
is_noted ns x = eqb (get_or ns (x / word_bits) 0 / 2 ^ (x % word_bits) % 2) 1

unfoldable pub with_note : List ℕ → ℕ → List ℕ
with_note ns x = set ns (x / word_bits) (bit_or (get_or ns (x / word_bits) 0) (2 ^ (x % word_bits)))

-- one that is noted is left as it is
unfoldable pub noting : List ℕ → ℕ → List ℕ
noting ns x = when is_noted ns x then ns else with_note ns x

-- all keys of a map are noted
unfoldable pub KeysNoted : List ℕ → Map Term → Type 0
KeysNoted ns [] = Unit {0}
KeysNoted ns (e ∷ m) = (is_noted ns (record_number e.0) ≡ true) × KeysNoted ns m

-- notes in which every atom of a sum is noted
pub record Noted (ns : List ℕ) (m : Map Term) : Type 0 where
  pub size : length ns ≡ note_words
  pub keys : KeysNoted ns m
