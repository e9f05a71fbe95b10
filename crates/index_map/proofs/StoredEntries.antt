-- The entries of a sum in an area's bytes, by the laws of HeldEntries. A map of different terms of the book has room in
-- an area (`good-room`).
use mathlib.Core.Path.{◌≡◌, refl, sym, ap, ap₂, ◌∙◌, subst}
use mathlib.Core.List.{[], ◌∷◌, ◌++◌, append_assoc, append-nil}
use Prim.Native.Nat.{ℕ, zero, suc, ◌+◌, ◌*◌, ◌≤◌, ◌<◌}
use native.Mathlib.Omega.{arith}
use lib.ListN.{length, drop}
use lib.Seq.{drop_at}
use Rattle.numbers.specs.Rational.{Rational, Proper}
use Rattle.numbers.specs.Bytes.{Bytes, le, number_at}
use Rattle.terms.specs.Term.{Term, record_number}
use Rattle.terms.specs.Book.{count, tree}
use Rattle.terms.proofs.NumberedNodes.{record_number-tree}
use Rattle.index_map.specs.IndexMap.{Map}
use Rattle.index_map.specs.Memory.StoredMaps as maps
use Rattle.index_map.specs.Memory.StoredMaps.{entry_bytes, All, none, more}
use Rattle.index_map.specs.Memory.Entries.{slots, sums, stored, entries_of, put_entry, blanked, Entry, Good, Held, Kept}
use Rattle.index_map.proofs.HeldEntries as held
use Rattle.index_map.proofs.HeldEntries.{Goods}
use Rattle.index_map.proofs.KeyedMaps.{Lacks}
pub use Rattle.index_map.proofs.MapKeys.{good_length}
use Rattle.index_map.proofs.MapKeys.{numbered, lacks-absent, put_in, taken_out, new-value}
use Rattle.index_map.proofs.NumberedKeys.{Small, numbers}
use Rattle.index_map.proofs.StoredBytes.{Fit, length-entry}

-- ---- good maps

-- no more entries than records: there is room for them
good-room : (b : Bytes) (m : Map Term) → Good b m → length m ≤ slots
good-room b m g = omega (arith, good_length b m g)

entry-fit : {b : Bytes} {e : Term × Rational} {m : Map Term} → Entry b e m → Fit sums Small e
entry-fit h = record { code = omega (arith, h.inside); proper = h.proper }

good-fits : (b : Bytes) (m : Map Term) → Good b m → All (Fit sums Small) m
unfolding Good
good-fits b [] g = none
good-fits b (e ∷ m) g = more (entry-fit g.0) (good-fits b m g.1)

good-moved : (b : Bytes) (p s : Map Term) (g : Term × Rational) → Good b (p ++ (s ++ g ∷ [])) → Good b (p ++ g ∷ s)
good-moved b p s g good =
    let rest = taken_out g [] (p ++ s) (subst (Good b) (sym (append_assoc p s (g ∷ []))) good) in
    put_in g s p (rw (append-nil (p ++ s)) at rest.0) (rw (append-nil (p ++ s)) at rest.1)

pub goods : (b : Bytes) → Goods sums Small slots Good b
unfolding Good
goods b =
    record {
      fits = good-fits b;
      room = good-room b;
      empty = tt;
      value = new-value b;
      without = λ p e s g. (taken_out e s p g).1;
      moved = good-moved b;
    }

-- a new entry
pub good_new :
    (b : Bytes) (m : Map Term) → Good b m → (i : ℕ) → i < count b → Lacks (numbered (record_number (tree b i))) m →
    (q : Rational) → Proper q → Good b (m ++ (tree b i, q) ∷ [])
good_new b m good i inside lacks q proper =
    let key : record_number (tree b i) ≡ i = record_number-tree b i in
    put_in (tree b i, q) [] m
    (rw (append-nil m) (record {
      term = ap (tree b) (sym key);
      inside = rw key inside;
      proper = proper;
      once = lacks-absent (record_number (tree b i)) lacks;
    }))
    (rw (append-nil m) good)

-- ---- all entries

stored-entries :
    (b : Bytes) (n : ℕ) (m : Map Term) → Good b m → length m ≤ n → entries_of b (stored n m) (length m) ≡ m
unfolding Good maps.stored entries_of
stored-entries b n [] g room = refl
stored-entries b zero (e ∷ m) g room = absurd (omega arith)
stored-entries b (suc n) (e ∷ m) g room =
    let fit = entry-fit g.0 in
    let first : Bytes = entry_bytes sums e in
    let rest : entries_of b (drop 10 (first ++ stored n m)) (length m) ≡ m =
    ap (λ (l : Bytes). entries_of b l (length m)) (drop_at first (stored n m) 10 (length-entry numbers fit))
    ∙ stored-entries b n m g.1 (omega arith) in
    ap₂ (λ (f : Term × Rational) (l : Map Term). f ∷ l)
    (ap₂ (λ (t : Term) (q : Rational). (t, q))
    (ap (tree b) (held.first_key numbers fit (stored n m)) ∙ sym g.0.term)
    (held.first_value numbers fit (stored n m)))
    rest

pub held-length : {b w : Bytes} {m : Map Term} → Held b w m → length w ≡ 20480
held-length {b} h = held.held-length numbers (goods b) h

pub held-entries : {b w : Bytes} {m : Map Term} → Held b w m → entries_of b w (length m) ≡ m
held-entries {b} {w} {m} h =
    ap (λ (l : Bytes). entries_of b l (length m)) h.bytes
    ∙ stored-entries b slots m h.good (good-room b m h.good)

pub kept-entries : {b w : Bytes} {n : ℕ} (k : Kept b w n) → entries_of b w n ≡ k.map
kept-entries {b} {w} k = ap (entries_of b w) k.size ∙ held-entries k.held

pub kept_small : {b w : Bytes} {n : ℕ} → Kept b w n → n ≤ 2048
kept_small {b} k = omega (arith, k.size, good-room b k.map k.held.good)

-- ---- at the place behind p

module _ {b w : Bytes} (p : Map Term) (e : Term × Rational) (s : Map Term) (h : Held b w (p ++ e ∷ s)) where
  pub read-key : le 2 w (10 * length p) ≡ record_number e.0
  read-key = held.read-key numbers (goods b) p e s h

  pub read-value : number_at w (10 * length p + 2) ≡ e.1
  read-value = held.read-value numbers (goods b) p e s h

  pub write-value :
      (q : Rational) → Proper q → Held b (put_entry w (length p) (record_number e.0) q) (p ++ (e.0, q) ∷ s)
  write-value = held.write-value numbers (goods b) p e s h

pub clear_all : {b w : Bytes} (m : Map Term) → Held b w m → Held b (blanked (length m) w) []
clear_all {b} m h = held.clear_all numbers (goods b) m h
