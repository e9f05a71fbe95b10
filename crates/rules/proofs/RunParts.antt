-- A part of a run: the numbers in its 4-byte records, by place and from a place on, and the terms and arguments that
-- they name. The laws go by induction along the part or the numbers in it.
--     length-numbers_in, number_at_lem, numbers_in-drop       the numbers in a part
--     drop_to_end       what a slice to the end takes
--     length-terms_in, named-drop, named_cons, named_past, terms_in-drop       the terms that they name
--     below_at, inside-drop       each names a record of the book
use mathlib.Core.Path.{◌≡◌, refl, ap, ◌∙◌}
use mathlib.Core.Bool.{true}
use mathlib.Core.List.{List, [], ◌∷◌}
use Prim.Native.Nat.{ℕ, zero, suc, ◌+◌, ◌*◌, ◌-◌, ◌/◌, ◌≤◌, ◌<◌}
use native.Mathlib.Omega.{arith}
use borrow.Author.Tests.{ltb-true}
use lib.Dec.{ltb}
use lib.ListN.{length, get_or, take, drop, length-drop, drop_of_length-le}
use lib.Seq.{take_all, drop-nil}
use Rattle.numbers.specs.Bytes.{Bytes, le}
use Rattle.terms.specs.Book.{count, tree, all_below}
use Rattle.numbers.proofs.Truths.{both}
use Rattle.numbers.proofs.LittleEndian.{le_cons, le_of_two}
use Rattle.rules.specs.Memory.Parts.{numbers_in, named, terms_in, Inside}

-- ---- the numbers in a part

pub length-numbers_in : (p : Bytes) → length (numbers_in p) ≡ length p / 4
unfolding numbers_in
length-numbers_in [] = refl
length-numbers_in (m ∷ []) = refl
length-numbers_in (m ∷ c ∷ []) = refl
length-numbers_in (m ∷ c ∷ x ∷ []) = refl
length-numbers_in (m ∷ c ∷ x ∷ y ∷ p) = omega (arith, length-numbers_in p)

pub number_at_lem : (p : Bytes) (k d : ℕ) → k < length p / 4 → get_or (numbers_in p) k d ≡ le 2 p (4 * k + 2)
unfolding numbers_in
number_at_lem [] k d h = absurd (omega arith)
number_at_lem (m ∷ []) k d h = absurd (omega arith)
number_at_lem (m ∷ c ∷ []) k d h = absurd (omega arith)
number_at_lem (m ∷ c ∷ x ∷ []) k d h = absurd (omega arith)
number_at_lem (m ∷ c ∷ x ∷ y ∷ p) zero d h = le_of_two (m ∷ c ∷ x ∷ y ∷ p) 2 x y (omega arith) refl refl
number_at_lem (m ∷ c ∷ x ∷ y ∷ p) (suc k) d h =
    let place : 4 * suc k + 2 ≡ suc (suc (suc (suc (4 * k + 2)))) = omega arith in
    rw (place, le_cons, le_cons, le_cons, le_cons) (number_at_lem p k d (omega arith))

-- ---- after k records

pub drop_to_end : (p : Bytes) (n : ℕ) → take (length p - n) (drop n p) ≡ drop n p
drop_to_end p n = take_all (length p - n) (drop n p) (omega (arith, length-drop n p))

pub numbers_in-drop : (p : Bytes) (k : ℕ) → numbers_in (drop (4 * k) p) ≡ drop k (numbers_in p)
unfolding numbers_in
numbers_in-drop p zero = refl
numbers_in-drop [] (suc k) = rw drop-nil
numbers_in-drop (m ∷ []) (suc k) = ap numbers_in (drop_of_length-le (m ∷ []) {i = 4 * suc k} (omega arith))
numbers_in-drop (m ∷ c ∷ []) (suc k) = ap numbers_in (drop_of_length-le (m ∷ c ∷ []) {i = 4 * suc k} (omega arith))
numbers_in-drop (m ∷ c ∷ x ∷ []) (suc k) =
    ap numbers_in (drop_of_length-le (m ∷ c ∷ x ∷ []) {i = 4 * suc k} (omega arith))
numbers_in-drop (m ∷ c ∷ x ∷ y ∷ p) (suc k) =
    let place : 4 * suc k ≡ suc (suc (suc (suc (4 * k)))) = omega arith in
    rw place (numbers_in-drop p k)

-- ---- the terms that they name

module _ (b : Bytes) where
  pub length-named : (l : List ℕ) → length (named b l) ≡ length l
  unfolding named
  length-named [] = refl
  length-named (i ∷ l) = ap suc (length-named l)

  pub length-terms_in : (p : Bytes) → length (terms_in b p) ≡ length p / 4
  length-terms_in p = length-named (numbers_in p) ∙ length-numbers_in p

  pub named-drop : (l : List ℕ) (k : ℕ) → named b (drop k l) ≡ drop k (named b l)
  unfolding named
  named-drop l zero = refl
  named-drop [] (suc k) = refl
  named-drop (i ∷ l) (suc k) = named-drop l k

  -- the term at k and those behind it
  pub named_cons :
      (l : List ℕ) (k : ℕ) → k < length l → drop k (named b l) ≡ tree b (get_or l k 0) ∷ drop (suc k) (named b l)
  unfolding named
  named_cons [] k h = absurd (omega arith)
  named_cons (i ∷ l) zero h = refl
  named_cons (i ∷ l) (suc k) h = named_cons l k (omega arith)

  pub named_past : (l : List ℕ) (k : ℕ) → length l ≤ k → drop k (named b l) ≡ []
  named_past l k h = drop_of_length-le (named b l) {i = k} (rw (length-named l) h)

  pub terms_in-drop : (p : Bytes) (k : ℕ) → terms_in b (drop (4 * k) p) ≡ drop k (terms_in b p)
  terms_in-drop p k = ap (named b) (numbers_in-drop p k) ∙ named-drop (numbers_in p) k

-- ---- each names a record of the book

module _ (n : ℕ) where
  pub below_at : (l : List ℕ) (k d : ℕ) → all_below n l ≡ true → k < length l → get_or l k d < n
  unfolding all_below
  below_at [] k d h inside = absurd (omega arith)
  below_at (i ∷ l) zero d h inside = ltb-true i n (both (ltb i n) (all_below n l) h).0
  below_at (i ∷ l) (suc k) d h inside = below_at l k d (both (ltb i n) (all_below n l) h).1 (omega arith)

  below-drop : (l : List ℕ) (k : ℕ) → all_below n l ≡ true → all_below n (drop k l) ≡ true
  unfolding all_below
  below-drop l zero h = h
  below-drop [] (suc k) h = refl
  below-drop (i ∷ l) (suc k) h = below-drop l k (both (ltb i n) (all_below n l) h).1

pub inside-drop : (b p : Bytes) (k : ℕ) → Inside b p → Inside b (drop (4 * k) p)
inside-drop b p k h = ap (all_below (count b)) (numbers_in-drop p k) ∙ below-drop (count b) (numbers_in p) k h
