-- The entries of a map in an area's bytes, for any encoding of keys: what is read at a place, and what a write leaves.
use mathlib.Core.Path.{◌≡◌, refl, sym, ap, ap₂, ◌∙◌}
use mathlib.Core.List.{List, [], ◌∷◌, ◌++◌}
use Prim.Native.Nat.{ℕ, zero, suc, ◌+◌, ◌*◌, ◌≤◌, ◌<◌}
use native.Mathlib.Nat.{mul-zero}
use native.Mathlib.Omega.{arith}
use lib.ListN.{length, length-append}
use lib.Seq.{drop_at}
use Rattle.numbers.specs.Rational.{Rational, Proper}
use Rattle.numbers.specs.Bytes.{Bytes, number_at}
use Rattle.index_map.specs.IndexMap.{Map, swap_remove}
use Rattle.index_map.specs.Memory.StoredMaps.{Encoding, size, entry_bytes, stored, keys_of, put_entry, blanked, swapped}
use Rattle.index_map.specs.Memory.StoredMaps.{Held}
use Rattle.index_map.specs.Memory.StoredMaps.{All, none, more}
use Rattle.index_map.proofs.EntryBytes.{Coded, cell, key-found, value_found}
use Rattle.index_map.proofs.KeySearch.{codes}
use Rattle.index_map.proofs.MapEnds.{Ends, nothing, last, ends, swap_remove-last, all_cut}
use Rattle.index_map.proofs.StoredBytes as bytes
use Rattle.index_map.proofs.StoredBytes.{Fit, Holds, entry-cell, length-entry, length-stored, write-over, write-end}
use Rattle.index_map.proofs.StoredBytes.{swapped-bytes, blank_all}

-- Good maps have entries that their bytes tell, and room in n places; they stay good with another value, without an
-- entry, and with the last entry in front of others.
pub record Goods {K C : Type 0} (enc : Encoding K C) (Code : C → Type 0) (n : ℕ)
    (Good : Bytes → Map K → Type 0) (b : Bytes) : Type 0 where
  pub fits : (m : Map K) → Good b m → All (Fit enc Code) m
  pub room : (m : Map K) → Good b m → length m ≤ n
  pub empty : Good b []
  pub value :
      (p : Map K) (e : K × Rational) (s : Map K) → Good b (p ++ e ∷ s) → (q : Rational) → Proper q →
      Good b (p ++ (e.0, q) ∷ s)
  pub without : (p : Map K) (e : K × Rational) (s : Map K) → Good b (p ++ e ∷ s) → Good b (p ++ s)
  pub moved : (p s : Map K) (g : K × Rational) → Good b (p ++ (s ++ g ∷ [])) → Good b (p ++ g ∷ s)

module _ {K C : Type 0} {enc : Encoding K C} {Code : C → Type 0} (coded : Coded enc Code) where
  -- ---- the first entry, and all keys

  pub first_key :
      {e : K × Rational} → Fit enc Code e → (r : Bytes) → enc.read (entry_bytes enc e ++ r) 0 ≡ enc.code e.0
  first_key {e} h r =
      ap (λ (l : Bytes). enc.read (l ++ r) 0) (entry-cell enc e)
      ∙ ap (enc.read (cell enc (enc.code e.0) e.1 ++ r)) (sym (mul-zero (size enc)))
      ∙ key-found coded h.code [] 0 (sym (mul-zero (size enc))) e.1 r

  pub first_value :
      {e : K × Rational} → Fit enc Code e → (r : Bytes) → number_at (entry_bytes enc e ++ r) enc.width ≡ e.1
  first_value {e} h r =
      let spot : size enc * 0 + enc.width ≡ enc.width = omega arith in
      ap (λ (l : Bytes). number_at (l ++ r) enc.width) (entry-cell enc e)
      ∙ ap (number_at (cell enc (enc.code e.0) e.1 ++ r)) (sym spot)
      ∙ value_found coded h.code [] 0 (sym (mul-zero (size enc))) e.1 r h.proper

  stored-keys :
      (n : ℕ) {m : Map K} → All (Fit enc Code) m → length m ≤ n → keys_of enc (stored enc n m) (length m) ≡ codes enc m
  unfolding stored keys_of codes
  stored-keys n none room = refl
  stored-keys zero (more h r) room = absurd (omega arith)
  stored-keys (suc n) (more {e} {m} h r) room =
      ap₂ (λ (k : C) (l : List C). k ∷ l)
      (first_key h (stored enc n m))
      (ap (λ (l : Bytes). keys_of enc l (length m))
      (drop_at (entry_bytes enc e) (stored enc n m) (size enc) (length-entry coded h))
      ∙ stored-keys n r (omega arith))

  module _ {n : ℕ} {Good : Bytes → Map K → Type 0} {b : Bytes} (goods : Goods enc Code n Good b) where
    pub held-length : {w : Bytes} {m : Map K} → Held enc n Good b w m → length w ≡ size enc * n
    held-length {m} h = ap length h.bytes ∙ length-stored coded n (goods.fits m h.good)

    pub held-keys : {w : Bytes} {m : Map K} → Held enc n Good b w m → keys_of enc w (length m) ≡ codes enc m
    held-keys {w} {m} h =
        ap (λ (l : Bytes). keys_of enc l (length m)) h.bytes
        ∙ stored-keys n (goods.fits m h.good) (goods.room m h.good)

    placed : {w : Bytes} {m : Map K} → Held enc n Good b w m → Holds enc Code n w m
    placed {m} h =
        record { bytes = h.bytes; fits = goods.fits m h.good; room = goods.room m h.good }

    -- ---- at the place behind p

    module _ {w : Bytes} (p : Map K) (e : K × Rational) (s : Map K) (h : Held enc n Good b w (p ++ e ∷ s)) where
      pub read-key : enc.read w (size enc * length p) ≡ enc.code e.0
      read-key = bytes.read-key coded p e s (placed h)

      pub read-value : number_at w (size enc * length p + enc.width) ≡ e.1
      read-value = bytes.read-value coded p e s (placed h)

      pub write-value :
          (q : Rational) → Proper q →
          Held enc n Good b (put_entry enc w (length p) (enc.code e.0) q) (p ++ (e.0, q) ∷ s)
      write-value q proper =
          let code = (all_cut p e s (placed h).fits).1.0.code in
          record {
            bytes = (write-over coded p e s (placed h) {f = (e.0, q)} (record { code = code; proper = proper })).bytes;
            good = goods.value p e s h.good q proper;
          }

      -- the last entry in the place of e
      pub remove_entry : Held enc n Good b (swapped enc (length (p ++ e ∷ s)) (length p) w) (p ++ swap_remove s)
      unfolding swap_remove
      remove_entry = record { bytes = swapped-bytes coded p e (ends s) (placed h); good = removed (ends s) h.good }
        where
          removed : {s : Map K} → Ends s → Good b (p ++ e ∷ s) → Good b (p ++ swap_remove s)
          removed nothing good = goods.without p e [] good
          removed (last s g) good =
              rw (swap_remove-last s g) (goods.moved p s g (goods.without p e (s ++ g ∷ []) good))

    -- ---- a new entry, and none left

    pub write_new :
        {w : Bytes} (m : Map K) → Held enc n Good b w m → (e : K × Rational) → Good b (m ++ e ∷ []) →
        Held enc n Good b (put_entry enc w (length m) (enc.code e.0) e.1) (m ++ e ∷ [])
    write_new m h e good =
        let new = all_cut m e [] (goods.fits (m ++ e ∷ []) good) in
        let room : length m < n = omega (arith, length-append m (e ∷ []), goods.room (m ++ e ∷ []) good) in
        record {
          bytes =
              ap (λ (l : Bytes). put_entry enc l (length m) (enc.code e.0) e.1) h.bytes
              ∙ write-end coded m new.0 room new.1.0;
          good = good;
        }

    pub clear_all : {w : Bytes} (m : Map K) → Held enc n Good b w m → Held enc n Good b (blanked enc (length m) w) []
    clear_all m h =
        record {
          bytes =
              ap (blanked enc (length m)) h.bytes
              ∙ blank_all coded m (goods.fits m h.good) n (goods.room m h.good);
          good = goods.empty;
        }
