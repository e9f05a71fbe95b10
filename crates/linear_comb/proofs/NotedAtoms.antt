-- Records that are noted, and maps of terms whose keys all are: a record that is not noted is no key, and an insertion
-- of a term that is noted leaves them so.
--     one_bit       a bit of 64 that is made by a shift
--     note_here, note_keeps, noted_keeps       a note is there, with all that were there before
--     noting-known, noting-other, noting-here, noting-keeps       the same where one that is noted is left as it is
--     noted_absent       a record that is not noted is no key
--     constant_noted, entry_noted       the sums that a number or a term is added to
use mathlib.Core.Path.{◌≡◌, refl, ap, ◌∙◌}
use mathlib.Core.Logic.{◌≢◌}
use mathlib.Core.Bool.{Bool, true, false}
use mathlib.Core.List.{List, [], ◌∷◌, ◌++◌}
use Prim.Native.Nat.{ℕ, suc, ◌*◌, ◌/◌, ◌%◌, ◌^◌, ◌<◌, max, suc-le-suc}
use native.Mathlib.Nat.{le_of_suc-le-suc, le-max_left, le-max_right, max-le, mod-lt, mod-eq_of_lt, div_self}
use native.Mathlib.Omega.{arith}
use borrow.Author.Tests.{eqb-true, eqb-false, eq-eqb, ne_eqb}
use lib.Arith.{digits_mod}
use lib.Bits.{bit_or, or_shr, or_step}
use lib.Dec.{eqb, lit<}
use lib.ListN.{length, length-set, get_or}
use lib.Pow.{pow_pos, pow-lt}
use lib.Seq.{get_or-set_same, get_or-set_other}
use Rattle.numbers.specs.Rational.{Rational, is_zero}
use Rattle.numbers.specs.Bytes.{Bytes}
use Rattle.numbers.specs.Choice.{when◌then◌else◌}
use Rattle.terms.specs.Term.{Term, record_number, same}
use Rattle.terms.specs.Book.{tree}
use Rattle.terms.specs.Format.{max_records}
use Rattle.terms.specs.Readers.{unbounded, within}
use Rattle.numbers.proofs.Truths.{if_either}
use Rattle.terms.proofs.NumberedNodes.{record_number-tree}
use Rattle.rules.specs.Refusal.{assert}
use Rattle.rules.specs.declared.refusal.Refusal.TheVariants.{PolynomialSize}
use Rattle.rules.specs.Limits.{Limits, plus}
use Rattle.index_map.specs.IndexMap.{Map, Walked, swap_remove, enter, insert, add_entry, add_constant}
use Rattle.index_map.specs.Memory.Entries.{terms, absent}
use Rattle.linear_comb.specs.Memory.Notes.{word_bits, note_words, is_noted, with_note, noting, KeysNoted, Noted}
use Rattle.rules.proofs.Yields.{Yields, and_then, past, by_test}
use Rattle.rules.proofs.Yields.Yields.{gives}
use Rattle.index_map.proofs.MapEnds.{Ends, nothing, last, ends, swap_remove-last}
use Rattle.index_map.proofs.MapKeys.{key_of}

-- ---- bit k of an or is the greater of both bits

module _ (a b k : ℕ) where
  abbrev greater : ℕ
  greater = max (a / 2 ^ k % 2) (b / 2 ^ k % 2)

  greater_digit : greater < 2
  greater_digit =
      suc-le-suc
      (max-le (le_of_suc-le-suc (mod-lt (a / 2 ^ k) (lit< tt))) (le_of_suc-le-suc (mod-lt (b / 2 ^ k) (lit< tt))))

  or_bit : bit_or a b / 2 ^ k % 2 ≡ greater
  or_bit = ap (λ x. x % 2) (or_shr a b k ∙ or_step (a / 2 ^ k) (b / 2 ^ k)) ∙ digits_mod _ greater_digit

  or_left : a / 2 ^ k % 2 ≡ 1 → bit_or a b / 2 ^ k % 2 ≡ 1
  or_left h = or_bit ∙ omega (arith, h, greater_digit, le-max_left (a / 2 ^ k % 2) (b / 2 ^ k % 2))

  or_right : b / 2 ^ k % 2 ≡ 1 → bit_or a b / 2 ^ k % 2 ≡ 1
  or_right h = or_bit ∙ omega (arith, h, greater_digit, le-max_right (a / 2 ^ k % 2) (b / 2 ^ k % 2))

-- the bit fits into 64
pub one_bit : (k : ℕ) → k < 64 → 1 * 2 ^ k % 18446744073709551616 ≡ 2 ^ k
one_bit k h =
    let fits : 1 * 2 ^ k < 18446744073709551616 = omega (arith, pow-lt {j = 64} h) in
    mod-eq_of_lt fits ∙ omega arith

own-bit : (k : ℕ) → 2 ^ k / 2 ^ k % 2 ≡ 1
own-bit k = rw (div_self (pow_pos k))

-- ---- a note

-- the bit of record y
abbrev bit_at : List ℕ → ℕ → ℕ
bit_at ns y = get_or ns (y / word_bits) 0 / 2 ^ (y % word_bits) % 2

module _ (ns : List ℕ) (long : length ns ≡ note_words) (x : ℕ) (small : x < max_records) where
  note_long : length (with_note ns x) ≡ note_words
  unfolding with_note
  note_long = length-set ns (x / word_bits) _ ∙ long

  note_word : get_or (with_note ns x) (x / word_bits) 0 ≡ bit_or (get_or ns (x / word_bits) 0) (2 ^ (x % word_bits))
  unfolding with_note
  note_word = get_or-set_same ns (x / word_bits) _ 0 (omega (arith, long, small))

  pub note_here : is_noted (with_note ns x) x ≡ true
  unfolding is_noted
  note_here =
      eq-eqb (bit_at (with_note ns x) x) 1
      (rw note_word
      (or_right (get_or ns (x / word_bits) 0) (2 ^ (x % word_bits)) (x % word_bits) (own-bit (x % word_bits))))

  -- in the same number, and in another
  keeps_same : (y : ℕ) → y / word_bits ≡ x / word_bits → is_noted ns y ≡ true → is_noted (with_note ns x) y ≡ true
  unfolding is_noted
  keeps_same y e h =
      let was : get_or ns (x / word_bits) 0 / 2 ^ (y % word_bits) % 2 ≡ 1 = rw e at (eqb-true (bit_at ns y) 1 h) in
      eq-eqb (bit_at (with_note ns x) y) 1
      (rw (e, note_word) (or_left (get_or ns (x / word_bits) 0) (2 ^ (x % word_bits)) (y % word_bits) was))

  keeps-other : (y : ℕ) → y / word_bits ≢ x / word_bits → is_noted ns y ≡ true → is_noted (with_note ns x) y ≡ true
  unfolding is_noted with_note
  keeps-other y apart h = rw (get_or-set_other ns (x / word_bits) (y / word_bits) _ 0 apart) h

  pub note_keeps : (y : ℕ) → is_noted ns y ≡ true → is_noted (with_note ns x) y ≡ true
  note_keeps y h = go (eqb (y / word_bits) (x / word_bits)) refl
    where
      go : (t : Bool) → eqb (y / word_bits) (x / word_bits) ≡ t → is_noted (with_note ns x) y ≡ true
      go true e = keeps_same y (eqb-true (y / word_bits) (x / word_bits) e) h
      go false e = keeps-other y (eqb-false (y / word_bits) (x / word_bits) e) h

  keys_keep : (m : Map Term) → KeysNoted ns m → KeysNoted (with_note ns x) m
  unfolding KeysNoted
  keys_keep [] noted = tt
  keys_keep (e ∷ m) noted = (note_keeps (key_of e) noted.0, keys_keep m noted.1)

  pub noted_keeps : (m : Map Term) → Noted ns m → Noted (with_note ns x) m
  noted_keeps m noted = record { size = note_long; keys = keys_keep m noted.keys }

-- ---- a record is noted where it is not

module _ (ns : List ℕ) (x : ℕ) where
  pub noting-known : is_noted ns x ≡ true → noting ns x ≡ ns
  unfolding noting when◌then◌else◌
  noting-known known = rw (noting, known)

  pub noting-other : is_noted ns x ≡ false → noting ns x ≡ with_note ns x
  unfolding noting when◌then◌else◌
  noting-other other = rw (noting, other)

module _ (ns : List ℕ) (long : length ns ≡ note_words) (x : ℕ) (small : x < max_records) where
  pub noting-here : is_noted (noting ns x) x ≡ true
  unfolding noting
  noting-here =
      if_either (λ r. is_noted r x ≡ true) (is_noted ns x) (λ known. known) (λ new. note_here ns long x small)

  pub noting-keeps : (m : Map Term) → Noted ns m → Noted (noting ns x) m
  unfolding noting
  noting-keeps m noted =
      if_either (λ r. Noted r m) (is_noted ns x) (λ known. noted)
      (λ new. noted_keeps ns long x small m noted)

-- ---- keys that are noted

module _ (ns : List ℕ) where
  other_key : (x y : ℕ) → is_noted ns x ≡ false → is_noted ns y ≡ true → y ≢ x
  other_key x y new noted e =
      let was : is_noted ns x ≡ true = rw e at noted in
      let z : ◌≡◌ {A = ℕ} 0 1 = cc in
      absurd (omega arith)

  pub noted_absent : (x : ℕ) → is_noted ns x ≡ false → (m : Map Term) → KeysNoted ns m → absent x m ≡ true
  unfolding KeysNoted absent
  noted_absent x new [] noted = refl
  noted_absent x new (e ∷ m) noted =
      rw (ne_eqb (key_of e) x (other_key x (key_of e) new noted.0), noted_absent x new m noted.1)

  noted_last : (s : Map Term) (g : Term × Rational) → KeysNoted ns (s ++ g ∷ []) → KeysNoted ns (g ∷ s)
  unfolding KeysNoted
  noted_last [] g noted = noted
  noted_last (e ∷ s) g noted = let rest = noted_last s g noted.1 in (rest.0, (noted.0, rest.1))

  noted_ends : {m : Map Term} → Ends m → KeysNoted ns m → KeysNoted ns (swap_remove m)
  unfolding swap_remove
  noted_ends nothing noted = noted
  noted_ends (last s g) noted = rw (swap_remove-last s g) (noted_last s g noted)

  module _ (l : Limits) (t : Term) (value : Rational) (key : is_noted ns (record_number t) ≡ true) where
    enter_noted : (n : ℕ) (m : Map Term) → KeysNoted ns m → Yields (KeysNoted ns) (enter terms l n m t value)
    unfolding enter KeysNoted
    enter_noted n [] noted = past (assert (within unbounded (suc n)) PolynomialSize) λ u. gives (key, noted)
    enter_noted n (e ∷ m) noted =
        by_test (same e.0 t) _ _
        (λ s. past (plus l e.1 value) λ q.
        gives (if_either (KeysNoted ns) (is_zero q) (λ z. noted_ends (ends m) noted.1) (λ z. noted)))
        (λ s. and_then (enter_noted (suc n) m noted.1) λ r g. gives (noted.0, g))

    insert_noted : (m : Map Term) → KeysNoted ns m → Yields (KeysNoted ns) (insert terms l m t value)
    unfolding insert
    insert_noted m noted = by_test (is_zero value) _ _ (λ z. gives noted) (λ z. enter_noted 0 m noted)

  -- ---- a sum whose atoms are noted

  abbrev pub NotedSum : Walked Term → Type 0
  NotedSum w = KeysNoted ns w.sum.entries

  module _ (l : Limits) (w : Walked Term) (noted : NotedSum w) where
    pub constant_noted : (q : Rational) → Yields NotedSum (add_constant l q w)
    unfolding add_constant
    constant_noted q = past (plus l w.sum.constant q) λ c. gives noted

    pub entry_noted :
        (b : Bytes) (x : ℕ) (value : Rational) → is_noted ns x ≡ true →
        Yields NotedSum (add_entry terms l (tree b x) value w)
    unfolding add_entry
    entry_noted b x value key =
        and_then
        (insert_noted l (tree b x) value (rw (record_number-tree b x) key) w.sum.entries noted)
        λ m g. gives g
