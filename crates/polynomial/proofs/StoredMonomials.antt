-- The 17 bytes of a monomial as an encoding of keys, and the monomials of a polynomial in an area's bytes, by the laws
-- of HeldEntries.
use mathlib.Core.Path.{◌≡◌, refl, sym, ap, ap₂, ◌∙◌}
use mathlib.Core.List.{[], ◌∷◌, ◌++◌, append_assoc}
use Prim.Native.Nat.{◌+◌, ◌*◌, ◌<◌}
use native.Mathlib.Omega.{arith}
use lib.ListN.{length, take, drop, length-append}
use lib.Seq.{take_at, drop_at, drop-drop}
use Rattle.numbers.specs.Rational.{Rational, Proper}
use Rattle.numbers.specs.Bytes.{Bytes, number_at, same_bytes}
use Rattle.numbers.proofs.SameBytes.{same_bytes-true}
use Rattle.index_map.specs.IndexMap.{Map}
use Rattle.index_map.specs.Memory.StoredMaps.{All, none, more}
use Rattle.index_map.proofs.EntryBytes.{Coded}
use Rattle.index_map.proofs.HeldEntries as held
use Rattle.index_map.proofs.HeldEntries.{Goods}
use Rattle.index_map.proofs.MapEnds.{length-middle, all_join, all_cut, all_map}
use Rattle.index_map.proofs.StoredBytes.{Fit, length-stored}
use Rattle.polynomial.specs.Polynomial.{Monomial, same_monomial}
use Rattle.polynomial.specs.Memory.PolynomialArea.{places, monomial_bytes, pasted, polynomials, stored, key_at}
use Rattle.polynomial.specs.Memory.PolynomialArea.{put_entry, blanked, Key, Entry, Good, Held}
use Rattle.polynomial.proofs.MonomialBytes.{length-monomial, same_bytes_lem}

-- ---- the encoding

abbrev pub Long : Bytes → Type 0
Long key = length key ≡ 17

pasted_at :
    (key : Bytes) → Long key → (f x r : Bytes) → length x ≡ 17 → pasted (f ++ (x ++ r)) (length f) key ≡ f ++ (key ++ r)
unfolding pasted
pasted_at key size f x r long =
    let rest : drop (length f + length key) (f ++ (x ++ r)) ≡ r =
    sym (drop-drop (length key) (length f) (f ++ (x ++ r)))
    ∙ ap (drop (length key)) (drop_at f (x ++ r) (length f) refl)
    ∙ drop_at x r (length key) (long ∙ sym size) in
    rw (take_at f (x ++ r) (length f) refl, rest)

pub bytes-copied : Coded polynomials Long
bytes-copied =
    record {
      long = λ {c} size. size;
      writes = λ {c} size f x r long. pasted_at c size f x r long;
      reads = λ {c} size f r. ap (take 17) (drop_at f (c ++ r) (length f) refl) ∙ take_at c r 17 size;
      equal = λ {c} {d} e. same_bytes-true c d e;
      blank = refl;
      zeros = refl;
    }

-- monomials are equal where their bytes are
pub same_key :
    {b key other : Bytes} {m n : Monomial} → Key b key m → Key b other n → same_bytes key other ≡ same_monomial m n
same_key {b} {m} {n} k o = ap₂ same_bytes k.bytes o.bytes ∙ same_bytes_lem b m n k.atoms o.atoms

-- the key of an entry
pub entry_key : {b : Bytes} {e : Monomial × Rational} → Entry b e → Key b (monomial_bytes e.0) e.0
entry_key h = record { bytes = refl; atoms = h.atoms; few = h.few }

-- ---- good maps

entry-fit : {b : Bytes} (e : Monomial × Rational) → Entry b e → Fit polynomials Long e
entry-fit e h = record { code = length-monomial e.0 h.few; proper = h.proper }

module _ {b : Bytes} (p : Map Monomial) (e : Monomial × Rational) (s : Map Monomial) where
  -- another entry in the place of e
  good_with : Good b (p ++ e ∷ s) → (f : Monomial × Rational) → Entry b f → Good b (p ++ f ∷ s)
  good_with good f new =
      let cut = all_cut p e s good.entries in
      record {
        entries = all_join p cut.0 (more new cut.1.1);
        few = omega (arith, length-middle e p s, length-middle f p s, good.few);
      }

  pub held-entry : {w : Bytes} → Held b w (p ++ e ∷ s) → Entry b e
  held-entry h = (all_cut p e s h.good.entries).1.0

  good-value : Good b (p ++ e ∷ s) → (q : Rational) → Proper q → Good b (p ++ (e.0, q) ∷ s)
  good-value good q proper =
      let old = (all_cut p e s good.entries).1.0 in
      good_with good (e.0, q) (record { atoms = old.atoms; few = old.few; proper = proper })

  good-without : Good b (p ++ e ∷ s) → Good b (p ++ s)
  good-without good =
      let cut = all_cut p e s good.entries in
      record {
        entries = all_join p cut.0 cut.1.1;
        few = omega (arith, length-middle e p s, good.few);
      }

good-moved :
    {b : Bytes} (p s : Map Monomial) (g : Monomial × Rational) → Good b (p ++ (s ++ g ∷ [])) → Good b (p ++ g ∷ s)
good-moved {b} p s g good =
    let same : p ++ (s ++ g ∷ []) ≡ (p ++ s) ++ g ∷ [] = sym (append_assoc p s (g ∷ [])) in
    let cut = all_cut (p ++ s) g [] (rw same at good.entries) in
    record {
      entries = all_into cut.1.0 p cut.0;
      few = omega (arith, length-middle g p s, ap length same, length-append (p ++ s) (g ∷ []), good.few);
    }
  where
    all_into : Entry b g → (p : Map Monomial) → All (Entry b) (p ++ s) → All (Entry b) (p ++ g ∷ s)
    all_into h [] a = more h a
    all_into h (e ∷ p) (more first a) = more first (all_into h p a)

pub good_new :
    {b : Bytes} (m : Map Monomial) → Good b m → length m < places → {key : Bytes} (x : Monomial) → Key b key x →
    (q : Rational) → Proper q → Good b (m ++ (x, q) ∷ [])
good_new m good room x key q proper =
    let new : Monomial × Rational = (x, q) in
    record {
      entries =
          all_join m good.entries (more (record { atoms = key.atoms; few = key.few; proper = proper }) none);
      few = omega (arith, length-append m (new ∷ []));
    }

pub goods : (b : Bytes) → Goods polynomials Long places Good b
goods b =
    record {
      fits = λ m good. all_map entry-fit good.entries;
      room = λ m good. good.few;
      empty = record { entries = none; few = omega arith };
      value = good-value;
      without = good-without;
      moved = good-moved;
    }

-- ---- an area

pub stored-length : (b : Bytes) (m : Map Monomial) → Good b m → length (stored places m) ≡ 1600
stored-length b m good = length-stored bytes-copied places ((goods b).fits m good)

pub held-length : {b w : Bytes} {m : Map Monomial} → Held b w m → length w ≡ 1600
held-length {b} h = held.held-length bytes-copied (goods b) h

module _ {b w : Bytes} (p : Map Monomial) (e : Monomial × Rational) (s : Map Monomial) (h : Held b w (p ++ e ∷ s)) where
  pub read-key : Key b (key_at w (length p)) e.0
  unfolding key_at
  read-key =
      let old = held-entry p e s h in
      record { bytes = held.read-key bytes-copied (goods b) p e s h; atoms = old.atoms; few = old.few }

  pub read-value : number_at w (25 * length p + 17) ≡ e.1
  read-value = held.read-value bytes-copied (goods b) p e s h

  pub write-value :
      (q : Rational) → Proper q → Held b (put_entry w (length p) (monomial_bytes e.0) q) (p ++ (e.0, q) ∷ s)
  write-value = held.write-value bytes-copied (goods b) p e s h

pub clear_all : {b w : Bytes} (m : Map Monomial) → Held b w m → Held b (blanked (length m) w) []
clear_all {b} m h = held.clear_all bytes-copied (goods b) m h
