-- Maps in lent bytes, whatever their keys: an area has places of one size, each for the bytes of a key and a number in
-- eight, in the order of the map; what is not used is 0. Sums (Entries) and polynomials (PolynomialArea, in the crate
-- polynomial) are stored so, each with an encoding of its keys.
use Rattle.std.specs.Prelude.{◌≡◌, Bool, true, false, List, [], ◌∷◌, ◌++◌, ℕ, zero, suc, ◌+◌, ◌*◌, ◌-◌, drop}
use Rattle.std.specs.Prelude.{replicate, Some, None, Ok, Err}
use Rattle.numbers.specs.Rational.{Rational, Proper, Checked, add_q, is_zero, checked}
use Rattle.numbers.specs.Bytes.{Bytes, bytes_of, complement, number_at, put_number}
use Rattle.index_map.specs.IndexMap.{Map}
use Rattle.index_map.specs.Memory.Answers.{InsertedIs}
use Rattle.rules.specs.Memory.Parts.{blank}
use Rattle.rules.specs.Refusal.{Result}
use Rattle.rules.specs.declared.refusal.Refusal.TheVariants.{NumberRange}

-- Keys of type K, each with a code of type C in `width` bytes: a term has its record number, a monomial 17 bytes.
pub record Encoding (K C : Type 0) : Type 0 where
  pub code : K → C
  pub same : C → C → Bool
  pub width : ℕ
  pub bytes : C → Bytes
  -- at a place in other bytes
  pub read : Bytes → ℕ → C
  pub write : C → Bytes → ℕ → Bytes
  -- zeros where a key stood
  pub blank_key : C

module _ {K C : Type 0} (enc : Encoding K C) where
  -- bytes of an entry
  abbrev pub size : ℕ
  size = enc.width + 8

  unfoldable pub entry_bytes : K × Rational → Bytes
  entry_bytes e =
      enc.bytes (enc.code e.0)
      ++ (bytes_of 4 (complement 4 e.1.num) ++ bytes_of 4 (complement 4 e.1.den))

  -- n places: the entries of a map, then zeros
  unfoldable pub stored : ℕ → Map K → Bytes
  stored n [] = replicate (size * n) 0
  stored zero (e ∷ m) = []
  stored (suc n) (e ∷ m) = entry_bytes e ++ stored n m

  -- ---- reading and writing at a place

  -- the keys of the first n entries
  unfoldable pub keys_of : Bytes → ℕ → List C
  keys_of w zero = []
  keys_of w (suc n) = enc.read w 0 ∷ keys_of (drop size w) n

  -- the place of the first key that is c; the length where there is none
  unfoldable pub place : List C → C → ℕ
  place [] c = 0
  place (k ∷ ks) c = elim (enc.same k c) [ true ↦ 0 | false ↦ suc (place ks c) ]

  -- w with another entry k
  unfoldable pub put_entry : Bytes → ℕ → C → Rational → Bytes
  put_entry w k key q = put_number q (enc.write key w (size * k)) (size * k + enc.width)

  -- w with zeros for the first n entries
  unfoldable pub blanked : ℕ → Bytes → Bytes
  blanked zero w = w
  blanked (suc k) w = put_entry (blanked k w) k enc.blank_key blank

  -- w with the last of n entries in the place of entry k
  unfoldable pub swapped : ℕ → ℕ → Bytes → Bytes
  swapped n k w =
      put_entry (put_entry w k (enc.read w (size * (n - 1))) (number_at w (size * (n - 1) + enc.width)))
      (n - 1) enc.blank_key blank

  -- the number of entry k and another
  abbrev pub sum_at : Bytes → ℕ → Rational → Checked
  sum_at w k q = checked (add_q (number_at w (size * k + enc.width)) q)

  -- w with q added to entry k of n, whose key is c: out of range, 0, or another number; how many entries there are then
  pub data Added (w : Bytes) (n k : ℕ) (c : C) (q : Rational) : Result ℕ → Bytes → Type 0 where
    out : sum_at w k q ≡ None → Added w n k c q (Err NumberRange) (blanked n w)
    gone : (s : Rational) → sum_at w k q ≡ Some s → is_zero s ≡ true → Added w n k c q (Ok (n - 1)) (swapped n k w)
    put :
        (s : Rational) → sum_at w k q ≡ Some s → is_zero s ≡ false → Proper s →
        Added w n k c q (Ok n) (put_entry w k c s)

  -- the bytes w of n places are those of m, a map that is good for the book b
  pub record Held (n : ℕ) (Good : Bytes → Map K → Type 0) (b w : Bytes) (m : Map K) : Type 0 where
    pub bytes : w ≡ stored n m
    pub good : Good b m

  -- the bytes w are those of the definition's answer d, and r is the code's
  pub record Inserts (n : ℕ) (Good : Bytes → Map K → Type 0) (b w : Bytes) (r : Result ℕ) (d : Result (Map K)) :
      Type 0 where
    pub map : Map K
    pub held : Held n Good b w map
    pub is : InsertedIs r map d

-- each entry is good
pub data All {K : Type 0} (Good : K × Rational → Type 0) : Map K → Type 0 where
  none : All Good []
  more : {e : K × Rational} {m : Map K} → Good e → All Good m → All Good (e ∷ m)
