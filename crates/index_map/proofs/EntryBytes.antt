-- The bytes of an entry behind any front of bytes, for any encoding of keys: a write puts them there and leaves the
-- rest (`entry_at`), and a read finds them (`key-found`, `value_found`). Zeros for entries are written by the loop of
-- `clear` (`Cleared`).
use mathlib.Core.Path.{◌≡◌, refl, sym, ap, ap₂, ◌∙◌}
use mathlib.Core.Bool.{true}
use mathlib.Core.List.{[], ◌∷◌, ◌++◌, append_assoc}
use Prim.Native.Nat.{ℕ, zero, suc, ◌+◌, ◌*◌, ◌≤◌, ◌<◌}
use native.Mathlib.Nat.{mul-zero}
use native.Mathlib.Numerals.{add-one}
use native.Mathlib.Omega.{arith}
use lib.ListN.{length, take, drop, replicate, length-append, length-drop, length-replicate, take-append-drop}
use lib.Seq.{length-take-le}
use Rattle.numbers.specs.Rational.{Rational, Proper}
use Rattle.numbers.specs.Bytes.{Bytes, bytes_of, complement, number_at, put_number}
use Rattle.index_map.specs.Memory.StoredMaps.{Encoding, size, put_entry, blanked}
use Rattle.rules.specs.Memory.Parts.{blank}
use Rattle.index_map.proofs.Zeros.{zeros-join, zeros-behind}
use Rattle.index_map.proofs.NumberBytes.{parts, length-parts, number_at_lem, number-back}

-- What the laws ask of an encoding, where a key's code is one of those that are encoded.
pub record Coded {K C : Type 0} (enc : Encoding K C) (Code : C → Type 0) : Type 0 where
  pub long : {c : C} → Code c → length (enc.bytes c) ≡ enc.width
  pub writes :
      {c : C} → Code c → (f x r : Bytes) → length x ≡ enc.width →
      enc.write c (f ++ (x ++ r)) (length f) ≡ f ++ (enc.bytes c ++ r)
  pub reads : {c : C} → Code c → (f r : Bytes) → enc.read (f ++ (enc.bytes c ++ r)) (length f) ≡ c
  pub equal : {c d : C} → enc.same c d ≡ true → c ≡ d
  pub blank : Code enc.blank_key
  pub zeros : enc.bytes enc.blank_key ≡ replicate enc.width 0

abbrev pub cell : {K C : Type 0} → Encoding K C → C → Rational → Bytes
cell enc c q = enc.bytes c ++ parts q

module _ {K C : Type 0} {enc : Encoding K C} {Code : C → Type 0} (coded : Coded enc Code) where
  -- ---- one entry

  pub length-cell : {c : C} → Code c → (q : Rational) → length (cell enc c q) ≡ size enc
  length-cell {c} h q = length-append (enc.bytes c) (parts q) ∙ ap₂ ◌+◌ (coded.long h) (length-parts q)

  module _ {c : C} (h : Code c) (f : Bytes) (k : ℕ) (place : length f ≡ size enc * k) (q : Rational) (r : Bytes) where
    value-place : length (f ++ enc.bytes c) ≡ size enc * k + enc.width
    value-place = length-append f (enc.bytes c) ∙ ap₂ ◌+◌ place (coded.long h)

    in_two : f ++ (cell enc c q ++ r) ≡ (f ++ enc.bytes c) ++ (parts q ++ r)
    in_two =
        ap (λ (l : Bytes). f ++ l) (append_assoc (enc.bytes c) (parts q) r)
        ∙ sym (append_assoc f (enc.bytes c) (parts q ++ r))

    pub entry_at : (x : Bytes) → length x ≡ size enc → put_entry enc (f ++ (x ++ r)) k c q ≡ f ++ (cell enc c q ++ r)
    unfolding put_entry
    entry_at x long =
        let low : length (take enc.width x) ≡ enc.width = length-take-le enc.width x (omega arith) in
        let high : length (drop enc.width x) ≡ 8 = rw (length-drop, long) (omega arith) in
        let rest : Bytes = drop enc.width x ++ r in
        let both : f ++ (x ++ r) ≡ f ++ (take enc.width x ++ rest) =
        ap (λ (l : Bytes). f ++ l)
        (ap (λ (l : Bytes). l ++ r) (sym (take-append-drop enc.width x)) ∙ append_assoc (take enc.width x) _ r) in
        let first : enc.write c (f ++ (x ++ r)) (size enc * k) ≡ (f ++ enc.bytes c) ++ rest =
        ap (enc.write c (f ++ (x ++ r))) (sym place)
        ∙ ap (λ (l : Bytes). enc.write c l (length f)) both
        ∙ coded.writes h f (take enc.width x) rest low
        ∙ sym (append_assoc f (enc.bytes c) rest) in
        ap (λ (l : Bytes). put_number q l (size enc * k + enc.width)) first
        ∙ ap (put_number q ((f ++ enc.bytes c) ++ rest)) (sym value-place)
        ∙ number_at_lem q (f ++ enc.bytes c) (drop enc.width x) r high
        ∙ sym in_two

    pub key-found : enc.read (f ++ (cell enc c q ++ r)) (size enc * k) ≡ c
    key-found =
        ap (enc.read (f ++ (cell enc c q ++ r))) (sym place)
        ∙ ap (λ (l : Bytes). enc.read (f ++ l) (length f)) (append_assoc (enc.bytes c) (parts q) r)
        ∙ coded.reads h f (parts q ++ r)

    pub value_found : Proper q → number_at (f ++ (cell enc c q ++ r)) (size enc * k + enc.width) ≡ q
    value_found proper =
        ap (λ (l : Bytes). number_at l (size enc * k + enc.width)) in_two
        ∙ ap (number_at ((f ++ enc.bytes c) ++ (parts q ++ r))) (sym value-place)
        ∙ number-back q (f ++ enc.bytes c) r proper

  -- ---- zeros

  blank-cell : cell enc enc.blank_key blank ≡ replicate (size enc) 0
  unfolding bytes_of complement
  blank-cell = ap (λ (l : Bytes). l ++ parts blank) coded.zeros ∙ zeros-join enc.width 8 (size enc) refl

  -- the zeros of one place more
  pub one_more : (n : ℕ) → cell enc enc.blank_key blank ++ replicate (size enc * n) 0 ≡ replicate (size enc * suc n) 0
  one_more n =
      ap (λ (l : Bytes). l ++ replicate (size enc * n) 0) blank-cell
      ∙ zeros-join (size enc) (size enc * n) (size enc * suc n) (omega arith)

  pub blanked-front :
      (k : ℕ) (x r : Bytes) → length x ≡ size enc * k → blanked enc k (x ++ r) ≡ replicate (size enc * k) 0 ++ r
  unfolding blanked
  blanked-front zero [] r h = rw (mul-zero (size enc))
  blanked-front zero (a ∷ x) r h = absurd (omega arith)
  blanked-front (suc k) x r h =
      let front : length (take (size enc * k) x) ≡ size enc * k = length-take-le (size enc * k) x (omega arith) in
      let last : length (drop (size enc * k) x) ≡ size enc = rw (length-drop, h) (omega arith) in
      let rest : Bytes = drop (size enc * k) x ++ r in
      let split : x ++ r ≡ take (size enc * k) x ++ rest =
      ap (λ (l : Bytes). l ++ r) (sym (take-append-drop (size enc * k) x))
      ∙ append_assoc (take (size enc * k) x) (drop (size enc * k) x) r in
      ap (λ (l : Bytes). put_entry enc (blanked enc k l) k enc.blank_key blank) split
      ∙ ap (λ (l : Bytes). put_entry enc l k enc.blank_key blank) (blanked-front k (take (size enc * k) x) rest front)
      ∙ entry_at coded.blank (replicate (size enc * k) 0) k (length-replicate (size enc * k) 0) blank r
      (drop (size enc * k) x) last
      ∙ zeros-behind (size enc * k) (size enc) (size enc * suc k) (omega arith) _ r blank-cell

-- ---- the function `clear`: w' is w with zeros for k entries

pub record Cleared {K C : Type 0} (enc : Encoding K C) (w : Bytes) (n : ℕ) (w' : Bytes) (k : ℕ) : Type 0 where
  pub most : k ≤ n
  pub is : w' ≡ blanked enc k w
  pub size : length w' ≡ length w

module _ {K C : Type 0} {enc : Encoding K C} {w : Bytes} {n : ℕ} where
  pub cleared_none : Cleared enc w n w 0
  unfolding blanked
  cleared_none = record { most = omega arith; is = refl; size = refl }

  pub cleared_more :
      {w' : Bytes} {k : ℕ} (v : Bytes) → Cleared enc w n w' k → k < n → length v ≡ length w' →
      v ≡ put_entry enc w' k enc.blank_key blank → Cleared enc w n v (k + 1)
  unfolding blanked
  cleared_more {k} v c h kept e =
      record {
        most = omega arith;
        is = rw (add-one k) (e ∙ ap (λ (l : Bytes). put_entry enc l k enc.blank_key blank) c.is);
        size = kept ∙ c.size;
      }

  pub cleared_all : {w' : Bytes} {k : ℕ} → Cleared enc w n w' k → n ≤ k → w' ≡ blanked enc n w
  cleared_all {k} c h = let all : k ≡ n = omega (arith, c.most) in c.is ∙ ap (λ (i : ℕ). blanked enc i w) all
