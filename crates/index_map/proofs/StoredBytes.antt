-- The bytes of a stored map, cut at a place: those of the entries before it, and those from it on (`split`). So a read
-- at a place is a read of that entry, and a write one of it (`write-over`, `write-end`, `swapped-bytes`, `blank_all`).
use mathlib.Core.Path.{◌≡◌, refl, sym, ap, ◌∙◌, subst}
use mathlib.Core.List.{[], ◌∷◌, ◌++◌, append_assoc, append-nil}
use Prim.Native.Nat.{ℕ, zero, suc, ◌+◌, ◌*◌, ◌-◌, ◌≤◌, ◌<◌}
use native.Mathlib.Nat.{suc-add, zero-add, mul-zero}
use native.Mathlib.Omega.{arith}
use lib.ListN.{length, replicate, length-append, length-replicate}
use Rattle.numbers.specs.Rational.{Rational, Proper}
use Rattle.numbers.specs.Bytes.{Bytes, number_at}
use Rattle.index_map.specs.IndexMap.{Map, swap_remove}
use Rattle.index_map.specs.Memory.StoredMaps.{Encoding, size, entry_bytes, stored, put_entry, blanked, swapped, All}
use Rattle.index_map.specs.Memory.StoredMaps.{none}
use Rattle.index_map.specs.Memory.StoredMaps.{more}
use Rattle.rules.specs.Memory.Parts.{blank}
use Rattle.index_map.proofs.Zeros.{zeros-join}
use Rattle.index_map.proofs.EntryBytes.{Coded, cell, length-cell, entry_at, key-found, value_found, one_more}
use Rattle.index_map.proofs.EntryBytes.{blanked-front}
use Rattle.index_map.proofs.MapEnds.{length-middle, Ends, nothing, last, swap_remove-last, all_join, all_cut}

-- an entry that its bytes tell
pub record Fit {K C : Type 0} (enc : Encoding K C) (Code : C → Type 0) (e : K × Rational) : Type 0 where
  pub code : Code (enc.code e.0)
  pub proper : Proper e.1

-- the bytes w of n places are those of m
pub record Holds {K C : Type 0} (enc : Encoding K C) (Code : C → Type 0) (n : ℕ) (w : Bytes) (m : Map K) : Type 0 where
  pub bytes : w ≡ stored enc n m
  pub fits : All (Fit enc Code) m
  pub room : length m ≤ n

-- ---- the bytes of entries that fill their places

module _ {K C : Type 0} (enc : Encoding K C) where
  packed : Map K → Bytes
  packed [] = []
  packed (e ∷ m) = entry_bytes enc e ++ packed m

  pub entry-cell : (e : K × Rational) → entry_bytes enc e ≡ cell enc (enc.code e.0) e.1
  unfolding entry_bytes
  entry-cell e = refl

  split : (n : ℕ) (p s : Map K) → stored enc (length p + n) (p ++ s) ≡ packed p ++ stored enc n s
  unfolding stored packed
  split n [] s = rw zero-add
  split n (e ∷ p) s =
      rw suc-add
      (ap (λ (l : Bytes). entry_bytes enc e ++ l) (split n p s)
      ∙ sym (append_assoc (entry_bytes enc e) (packed p) (stored enc n s)))

-- the places behind p and one entry
abbrev left : {K : Type 0} → ℕ → Map K → ℕ
left n p = n - suc (length p)

module _ {K C : Type 0} {enc : Encoding K C} {Code : C → Type 0} (coded : Coded enc Code) where
  abbrev key_of : K × Rational → C
  key_of e = enc.code e.0

  -- w with f for entry k
  abbrev put_in : Bytes → ℕ → K × Rational → Bytes
  put_in w k f = put_entry enc w k (enc.code f.0) f.1

  pub length-entry : {e : K × Rational} → Fit enc Code e → length (entry_bytes enc e) ≡ size enc
  length-entry {e} h = ap length (entry-cell enc e) ∙ length-cell coded h.code e.1

  length-packed : {m : Map K} → All (Fit enc Code) m → length (packed enc m) ≡ size enc * length m
  unfolding packed
  length-packed none = sym (mul-zero (size enc))
  length-packed (more {e} {m} h r) =
      omega (arith, length-append (entry_bytes enc e) (packed enc m), length-entry h, length-packed r)

  pub length-stored : (n : ℕ) {m : Map K} → All (Fit enc Code) m → length (stored enc n m) ≡ size enc * n
  unfolding stored
  length-stored n none = length-replicate (size enc * n) 0
  length-stored zero (more h r) = sym (mul-zero (size enc))
  length-stored (suc n) (more {e} {m} h r) =
      omega (arith, length-append (entry_bytes enc e) (stored enc n m), length-entry h, length-stored n r)

  put-behind :
      {p : Map K} → All (Fit enc Code) p → {c old : C} → Code c → Code old → (q x : Rational) (r : Bytes) →
      put_entry enc (packed enc p ++ (cell enc old x ++ r)) (length p) c q ≡ packed enc p ++ (cell enc c q ++ r)
  put-behind {p} fits {old = old} h h' q x r =
      entry_at coded h (packed enc p) (length p) (length-packed fits) q r (cell enc old x) (length-cell coded h' x)

  module _ (n : ℕ) (p : Map K) (room : length p < n) where
    from_place : (s : Map K) → stored enc n (p ++ s) ≡ packed enc p ++ stored enc (suc (left n p)) s
    from_place s =
        let size : n ≡ length p + suc (left n p) = omega arith in
        ap (λ (i : ℕ). stored enc i (p ++ s)) size ∙ split enc (suc (left n p)) p s

    -- an entry behind p
    behind :
        (e : K × Rational) (s : Map K) →
        stored enc n (p ++ e ∷ s) ≡ packed enc p ++ (cell enc (key_of e) e.1 ++ stored enc (left n p) s)
    unfolding stored
    behind e s =
        from_place (e ∷ s) ∙ ap (λ (l : Bytes). packed enc p ++ (l ++ stored enc (left n p) s)) (entry-cell enc e)

    -- no entry behind p
    behind_all : stored enc n p ≡ packed enc p ++ (cell enc enc.blank_key blank ++ stored enc (left n p) [])
    unfolding stored
    behind_all =
        ap (stored enc n) (sym (append-nil p))
        ∙ from_place []
        ∙ ap (λ (l : Bytes). packed enc p ++ l) (sym (one_more coded (left n p)))

  -- ---- n places that hold m

  module _ {n : ℕ} {w : Bytes} (p : Map K) (e : K × Rational) (s : Map K) (h : Holds enc Code n w (p ++ e ∷ s)) where
    cut : All (Fit enc Code) p × (Fit enc Code e × All (Fit enc Code) s)
    cut = all_cut p e s h.fits

    below : length p < n
    below = omega (arith, length-append p (e ∷ s), h.room)

    at_place : w ≡ packed enc p ++ (cell enc (key_of e) e.1 ++ stored enc (left n p) s)
    at_place = h.bytes ∙ behind n p below e s

    pub read-key : enc.read w (size enc * length p) ≡ key_of e
    read-key =
        ap (λ (l : Bytes). enc.read l (size enc * length p)) at_place
        ∙ key-found coded cut.1.0.code (packed enc p) (length p) (length-packed cut.0) e.1 _

    pub read-value : number_at w (size enc * length p + enc.width) ≡ e.1
    read-value =
        ap (λ (l : Bytes). number_at l (size enc * length p + enc.width)) at_place
        ∙ value_found coded cut.1.0.code (packed enc p) (length p) (length-packed cut.0) e.1 _
        cut.1.0.proper

    pub write-over : {f : K × Rational} → Fit enc Code f → Holds enc Code n (put_in w (length p) f) (p ++ f ∷ s)
    write-over {f} new =
        record {
          bytes =
              ap (λ (l : Bytes). put_in l (length p) f) at_place
              ∙ put-behind cut.0 new.code cut.1.0.code f.1 e.1 (stored enc (left n p) s)
              ∙ sym (behind n p below f s);
          fits = all_join p cut.0 (more new cut.1.1);
          room = omega (arith, length-middle e p s, length-middle f p s, h.room);
        }

  pub write-end :
      {n : ℕ} (p : Map K) → All (Fit enc Code) p → length p < n → {f : K × Rational} → Fit enc Code f →
      put_in (stored enc n p) (length p) f ≡ stored enc n (p ++ f ∷ [])
  write-end {n} p fits room {f} new =
      ap (λ (l : Bytes). put_in l (length p) f) (behind_all n p room)
      ∙ put-behind fits new.code coded.blank f.1 blank (stored enc (left n p) [])
      ∙ sym (behind n p room f [])

  blank-end :
      {n : ℕ} {w : Bytes} (p : Map K) (e : K × Rational) → Holds enc Code n w (p ++ e ∷ []) →
      put_entry enc w (length p) enc.blank_key blank ≡ stored enc n p
  blank-end {n} {w} p e h =
      let old = cut p e [] h in
      ap (λ (l : Bytes). put_entry enc l (length p) enc.blank_key blank) (at_place p e [] h)
      ∙ put-behind old.0 coded.blank old.1.0.code blank e.1 (stored enc (left n p) [])
      ∙ sym (behind_all n p (below p e [] h))

  -- ---- the last entry in the place of another

  -- what is read at the last place is the last entry g
  swapped-last :
      {n : ℕ} {w : Bytes} (p : Map K) (g : K × Rational) → Holds enc Code n w (p ++ g ∷ []) → (k : ℕ) →
      swapped enc (length (p ++ g ∷ [])) k w ≡ put_entry enc (put_in w k g) (length p) enc.blank_key blank
  unfolding swapped
  swapped-last {w} p g h k =
      let size : length (p ++ g ∷ []) - 1 ≡ length p = omega (arith, length-append p (g ∷ [])) in
      rw (size, read-key p g [] h, read-value p g [] h)

  pub swapped-bytes :
      {n : ℕ} {w : Bytes} (p : Map K) (e : K × Rational) {s : Map K} → Ends s → Holds enc Code n w (p ++ e ∷ s) →
      swapped enc (length (p ++ e ∷ s)) (length p) w ≡ stored enc n (p ++ swap_remove s)
  unfolding swap_remove
  swapped-bytes {n} p e nothing h =
      swapped-last p e h (length p)
      ∙ blank-end p e (write-over p e [] h (cut p e [] h).1.0)
      ∙ ap (stored enc n) (sym (append-nil p))
  swapped-bytes {n} {w} p e (last s g) h =
      let same : p ++ e ∷ (s ++ g ∷ []) ≡ (p ++ e ∷ s) ++ g ∷ [] = sym (append_assoc p (e ∷ s) (g ∷ [])) in
      let h' : Holds enc Code n w ((p ++ e ∷ s) ++ g ∷ []) = subst (Holds enc Code n w) same h in
      let over : Holds enc Code n (put_in w (length p) g) ((p ++ g ∷ s) ++ g ∷ []) =
      subst (Holds enc Code n (put_in w (length p) g)) (sym (append_assoc p (g ∷ s) (g ∷ [])))
      (write-over p e (s ++ g ∷ []) h (cut (p ++ e ∷ s) g [] h').1.0) in
      ap (λ (m : Map K). swapped enc (length m) (length p) w) same
      ∙ swapped-last (p ++ e ∷ s) g h' (length p)
      ∙ ap (λ (i : ℕ). put_entry enc (put_in w (length p) g) i enc.blank_key blank)
      (length-middle e p s ∙ sym (length-middle g p s))
      ∙ blank-end (p ++ g ∷ s) g over
      ∙ ap (λ (m : Map K). stored enc n (p ++ m)) (sym (swap_remove-last s g))

  -- ---- zeros for all entries

  module _ (m : Map K) (fits : All (Fit enc Code) m) where
    blank-places : (k : ℕ) → blanked enc (length m) (stored enc (length m + k) m) ≡ stored enc (length m + k) []
    unfolding stored
    blank-places k =
        ap (blanked enc (length m)) (ap (stored enc (length m + k)) (sym (append-nil m)) ∙ split enc k m [])
        ∙ blanked-front coded (length m) (packed enc m) (replicate (size enc * k) 0) (length-packed fits)
        ∙ zeros-join (size enc * length m) (size enc * k) (size enc * (length m + k)) (omega arith)

    pub blank_all : (n : ℕ) → length m ≤ n → blanked enc (length m) (stored enc n m) ≡ stored enc n []
    blank_all n room =
        let size : length m + (n - length m) ≡ n = omega arith in
        subst (λ (i : ℕ). blanked enc (length m) (stored enc i m) ≡ stored enc i []) size (blank-places (n - length m))
