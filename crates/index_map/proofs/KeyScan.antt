-- The search for a key among the entries of a sum: eight at a time, as long as none of eight has it, then one by one.
--     keys_front, less_keys, more_keys       the keys of some entries, by those in front
--     all_pieces, less_pieces, more_pieces, skipped_eights       `skipped`: eights of which none has the key
--     Found, found_from       `find`: the first entry from there on that has it
use mathlib.Core.Path.{◌≡◌, refl, sym, ap, ◌∙◌}
use mathlib.Core.Bool.{Bool, true, false, not, ◌&&◌, cond}
use mathlib.Core.List.{List, [], ◌∷◌, ◌++◌, append-nil}
use Prim.Native.Nat.{ℕ, zero, suc, ◌+◌, ◌*◌, ◌-◌, ◌/◌, ◌≤◌, ◌<◌}
use native.Mathlib.Nat.{zero-add, suc-add, add-zero}
use native.Mathlib.Omega.{arith}
use borrow.Author.Tests.{eq-eqb, ne_eqb}
use lib.Dec.{eqb}
use lib.ListN.{length, get_or, take, drop, length-append, length-drop, take-append-drop}
use lib.Seq.{length-take-le, drop-drop, take_at, drop_at}
use Rattle.std.proofs.Common.{Option, Some, None, inl, inr}
use Rattle.std.specs.Option.{MatchOption}
use Rattle.std.specs.List.{list_all, prefix_len, position_or_len}
use Rattle.std.proofs.lemmas.Bool.{cases_lt}
use Rattle.std.proofs.lemmas.List.{drop-append-le}
use Rattle.std.proofs.lemmas.List.Recursion.{is_position_or_len}
use Rattle.std.proofs.lemmas.List.Sums.{position_or_len_is, fails_before_first}
use Rattle.numbers.specs.Bytes.{Bytes, le}
use Rattle.numbers.proofs.LittleEndian.{le_of_two}
use Rattle.numbers.proofs.Truths.{never}
use Rattle.index_map.specs.Memory.StoredMaps as maps
use Rattle.index_map.specs.Memory.Entries.{keys_of, place}
use Rattle.index_map.proofs.NumberedKeys.{key-drop}

-- ---- the keys of some entries

first_key : (x l : Bytes) → 2 ≤ length x → le 2 (x ++ l) 0 ≡ le 2 x 0
first_key [] l h = absurd (omega arith)
first_key (a ∷ []) l h = absurd (omega arith)
first_key (a ∷ b ∷ x) l h =
    sym (le_of_two (a ∷ b ∷ (x ++ l)) 0 a b (omega arith) refl refl)
    ∙ le_of_two (a ∷ b ∷ x) 0 a b (omega arith) refl refl

length-keys_of : (w : Bytes) (n : ℕ) → length (keys_of w n) ≡ n
unfolding maps.keys_of
length-keys_of w zero = refl
length-keys_of w (suc n) = ap suc (length-keys_of (drop 10 w) n)

keys_front : (m n : ℕ) (x l : Bytes) → length x ≡ 10 * m → keys_of (x ++ l) (m + n) ≡ keys_of x m ++ keys_of l n
unfolding maps.keys_of
keys_front zero n [] l h = rw zero-add
keys_front zero n (a ∷ x) l h = absurd (omega arith)
keys_front (suc m) n x l h =
    rw (suc-add m n, first_key x l (omega arith), drop-append-le 10 x l (omega arith))
    (ap (λ ks. le 2 x 0 ∷ ks) (keys_front m n (drop 10 x) l (omega (arith, length-drop 10 x))))

-- of whole entries
abbrev pub all_keys : Bytes → List ℕ
all_keys w = keys_of w (length w / 10)

pub less_keys : (l : Bytes) → length l < 10 → all_keys l ≡ []
unfolding maps.keys_of
less_keys l h = let none : length l / 10 ≡ 0 = omega arith in rw none

pub more_keys : (x l : Bytes) → length x ≡ 10 → all_keys (x ++ l) ≡ le 2 x 0 ∷ all_keys l
unfolding maps.keys_of
more_keys x l h =
    let one : length (x ++ l) / 10 ≡ 1 + length l / 10 = omega (arith, length-append x l) in
    ap (keys_of (x ++ l)) one ∙ keys_front 1 (length l / 10) x l h

-- ---- eights of entries

pieces : ℕ → Bytes → List Bytes
pieces zero w = []
pieces (suc k) w = take 80 w ∷ pieces k (drop 80 w)

pub all_pieces : Bytes → List Bytes
all_pieces w = pieces (length w / 80) w

pub less_pieces : (l : Bytes) → length l < 80 → all_pieces l ≡ []
unfolding all_pieces pieces
less_pieces l h = let none : length l / 80 ≡ 0 = omega arith in rw none

pub more_pieces : (x l : Bytes) → length x ≡ 80 → all_pieces (x ++ l) ≡ x ∷ all_pieces l
unfolding all_pieces pieces
more_pieces x l h =
    let one : length (x ++ l) / 80 ≡ suc (length l / 80) = omega (arith, length-append x l) in
    rw (one, take_at x l 80 h, drop_at x l 80 h)

module _ (key : ℕ) where
  -- another key, and entries that all have others
  abbrev pub other : ℕ → Bool
  other k = not (eqb k key)

  abbrev pub lacking : Bytes → Bool
  lacking x = list_all other (all_keys x)

  place_is : (ks : List ℕ) → place ks key ≡ position_or_len (λ k. eqb k key) ks
  unfolding maps.place
  place_is =
      is_position_or_len (λ ks. place ks key) (λ k. eqb k key) refl (λ k ks. here (eqb k key) (place ks key))
    where
      here : (t : Bool) (n : ℕ) → elim t [ true ↦ 0 | false ↦ suc n ] ≡ cond t 0 (1 + n)
      here true n = refl
      here false n = omega arith

  all_others :
      (xs ys : List ℕ) → list_all other xs ≡ true → prefix_len other (xs ++ ys) ≡ length xs + prefix_len other ys
  all_others [] ys h = omega arith
  all_others (x ∷ xs) ys h = go (other x) (all_others xs ys) h
    where
      go :
          (t : Bool) →
          (list_all other xs ≡ true → prefix_len other (xs ++ ys) ≡ length xs + prefix_len other ys) →
          (t && list_all other xs) ≡ true →
          cond t (1 + prefix_len other (xs ++ ys)) 0 ≡ suc (length xs) + prefix_len other ys
      go true rest h = omega (arith, rest h)
      go false rest h = never h

  eights :
      (k n : ℕ) (w : Bytes) → 8 * k ≤ n → 10 * n ≤ length w →
      8 * prefix_len lacking (pieces k w) ≤ prefix_len other (keys_of w n)
  unfolding pieces
  eights zero n w few room = omega arith
  eights (suc k) n w few room =
      go (lacking (take 80 w)) refl
      (eights k (n - 8) (drop 80 w) (omega arith) (omega (arith, length-drop 80 w)))
    where
      go :
          (t : Bool) → lacking (take 80 w) ≡ t →
          8 * prefix_len lacking (pieces k (drop 80 w)) ≤ prefix_len other (keys_of (drop 80 w) (n - 8)) →
          8 * cond t (1 + prefix_len lacking (pieces k (drop 80 w))) 0 ≤ prefix_len other (keys_of w n)
      go false e rest = omega arith
      go true e rest =
          let long : length (take 80 w) ≡ 80 = length-take-le 80 w (omega arith) in
          let size : length (take 80 w) / 10 ≡ 8 = omega (arith, long) in
          let count : 8 + (n - 8) ≡ n = omega arith in
          let keys : keys_of w n ≡ keys_of (take 80 w) 8 ++ keys_of (drop 80 w) (n - 8) =
          rw (count, take-append-drop) at (keys_front 8 (n - 8) (take 80 w) (drop 80 w) long) in
          let past = all_others (keys_of (take 80 w) 8) (keys_of (drop 80 w) (n - 8)) (rw size at e) in
          rw keys (omega (arith, past, rest, length-keys_of (take 80 w) 8))

  -- u has the n entries of w, and r of its eights lack the key
  pub skipped_eights :
      (w : Bytes) (n : ℕ) {u : Bytes} {r : ℕ} → u ≡ take (10 * n) w → 10 * n ≤ length w →
      r ≡ prefix_len lacking (all_pieces u) → 8 * r ≤ place (keys_of w n) key
  unfolding all_pieces maps.keys_of
  skipped_eights w n {u} {r} u-is room r-is =
      let long : length u ≡ 10 * n = ap length u-is ∙ length-take-le (10 * n) w room in
      let keys : keys_of w n ≡ keys_of u n =
      rw (append-nil, add-zero, take-append-drop, ← u-is)
      at (keys_front n 0 (take (10 * n) w) (drop (10 * n) w) (length-take-le (10 * n) w room)) in
      let most = eights (length u / 80) n u (omega (arith, long)) (omega (arith, long)) in
      rw (place_is, keys, r-is) most

  -- ---- the first entry that has the key

  module _ (w : Bytes) (n : ℕ) where
    key_is : (w : Bytes) (n i : ℕ) → i < n → get_or (keys_of w n) i 0 ≡ le 2 w (10 * i)
    unfolding maps.keys_of
    key_is w zero i h = absurd (omega arith)
    key_is w (suc n) zero h = refl
    key_is w (suc n) (suc i) h =
        let place : 10 + 10 * i ≡ 10 * suc i = omega arith in
        key_is (drop 10 w) n i (omega arith)
        ∙ sym (key-drop (drop 10 w) (10 * i))
        ∙ ap (λ v. le 2 v 0) (drop-drop (10 * i) 10 w ∙ ap (λ k. drop k w) place)
        ∙ key-drop w (10 * suc i)

    -- the answer of a search from entry k on
    abbrev pub Found : ℕ → Option ℕ → Type 0
    Found k r =
        MatchOption r ((i : ℕ) → k ≤ i → i < n → le 2 w (10 * i) ≡ key → ⊥)
        (λ i. (k ≤ i) × (i < n) × (le 2 w (10 * i) ≡ key) × ((j : ℕ) → k ≤ j → j < i → le 2 w (10 * j) ≡ key → ⊥))

    module _ {k : ℕ} (start : k ≤ place (keys_of w n) key) where
      at_first :
          (i : ℕ) → i ≤ n → ((j : ℕ) → k ≤ j → j < i → le 2 w (10 * j) ≡ key → ⊥) →
          (i < n → le 2 w (10 * i) ≡ key) → i ≡ place (keys_of w n) key
      at_first i inside before here =
          sym (place_is (keys_of w n)
          ∙ position_or_len_is (λ k. eqb k key) (keys_of w n) i 0 (omega (arith, length-keys_of w n)) past
          (λ h. rw (key_is w n i (omega (arith, h, length-keys_of w n)))
          (eq-eqb _ _ (here (omega (arith, h, length-keys_of w n))))))
        where
          past : (j : ℕ) → j < i → eqb (get_or (keys_of w n) j 0) key ≡ false
          past j h =
              elim (cases_lt j k) [
                | inl low ↦
                    fails_before_first (λ k. eqb k key) (keys_of w n) j 0 (omega (arith, low, place_is (keys_of w n)))
                | inr high ↦ rw (key_is w n j (omega arith)) (ne_eqb _ _ (before j high h))
              ]

      pub found_from :
          (r : Option ℕ) → Found k r →
          MatchOption r (n ≡ place (keys_of w n) key) (λ i. (i < n) × (i ≡ place (keys_of w n) key))
      found_from None none = at_first n (omega arith) none (λ h. absurd (omega arith))
      found_from (Some i) f = (f.1, at_first i (omega arith) f.3 (λ h. f.2))
