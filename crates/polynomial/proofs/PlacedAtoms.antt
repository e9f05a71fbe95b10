-- Atoms that are put into a monomial in its 17 bytes.
--     Shifted       the invariant of the loop of `put_atom`: the atoms from k on stand one place further up, and there
--                   is a gap at k
--     Joining       that of `join`: the atoms before k are placed
use mathlib.Core.Path.{◌≡◌, refl, sym, ap, ◌∙◌, subst}
use mathlib.Core.Bool.{Bool, true, false}
use mathlib.Core.List.{[], ◌∷◌, ◌++◌, append_assoc, append-nil}
use Prim.Native.Nat.{ℕ, ◌+◌, ◌*◌, ◌-◌, ◌≤◌, ◌<◌}
use native.Mathlib.Omega.{arith}
use borrow.Author.Tests.{lt-ltb, le-ltb, ltb-true, ltb-false}
use lib.Dec.{ltb}
use lib.ListN.{length, get_or, set, take, drop, replicate, length-append, take-append-drop}
use lib.Seq.{append_snoc, length-take-le}
use Rattle.numbers.specs.Bytes.{Bytes, le, put, bytes_of}
use Rattle.terms.specs.Term.{Term, record_number}
use Rattle.numbers.proofs.LittleEndian.{length-put}
use Rattle.polynomial.specs.Polynomial.{Monomial, place, joined}
use Rattle.polynomial.specs.Memory.PolynomialArea.{atom_bytes, monomial_bytes, first_above, Atom, Atoms, Key}
use Rattle.index_map.proofs.Zeros.{zeros-join}
use Rattle.index_map.proofs.NumberBytes.{length-bytes_of}
use Rattle.polynomial.proofs.AtomPlaces.{small, atom_of, atoms_with, front, read_at, write_at, front-more, key-parts}
use Rattle.polynomial.proofs.AtomPlaces.{Turn, at, past, last, above-here, above-past, key-count}

-- ---- an atom more

module _ (t a : Term) (m : Monomial) where
  place_here : record_number t < record_number a → place t (a ∷ m) ≡ t ∷ a ∷ m
  unfolding place
  place_here h = rw (lt-ltb (record_number t) (record_number a) h, place)

  place-past : record_number a ≤ record_number t → place t (a ∷ m) ≡ a ∷ place t m
  unfolding place
  place-past h = rw (le-ltb (record_number t) (record_number a) h, place)

-- `first_above` is where `place` puts an atom
placed : (t : Term) (f s : Monomial) → length f ≡ first_above (f ++ s) (record_number t) → place t (f ++ s) ≡ f ++ t ∷ s
unfolding place
placed t [] [] h = refl
placed t [] (a ∷ s) h = go (ltb (record_number t) (record_number a)) refl
  where
    go : (y : Bool) → ltb (record_number t) (record_number a) ≡ y → place t (a ∷ s) ≡ t ∷ a ∷ s
    go true e = place_here t a s (ltb-true _ _ e)
    go false e = absurd (omega (arith, above-past a s (record_number t) (ltb-false _ _ e)))
placed t (a ∷ f) s h =
    go (ltb (record_number t) (record_number a)) refl (λ short. placed t f s short)
  where
    go :
        (y : Bool) → ltb (record_number t) (record_number a) ≡ y →
        (length f ≡ first_above (f ++ s) (record_number t) → place t (f ++ s) ≡ f ++ t ∷ s) →
        place t (a ∷ (f ++ s)) ≡ a ∷ (f ++ t ∷ s)
    go true e rest = absurd (omega (arith, above-here a (f ++ s) (record_number t) (ltb-true _ _ e)))
    go false e rest =
        let under : record_number a ≤ record_number t = ltb-false _ _ e in
        place-past t a (f ++ s) under
        ∙ ap (λ (l : Monomial). a ∷ l) (rest (omega (arith, above-past a (f ++ s) (record_number t) under)))

-- zeros behind n atoms and one more
abbrev zeros : ℕ → Bytes
zeros n = replicate (2 * (7 - n)) 0

-- the bytes of n atoms: those of f, a gap, and those of s
pub record Gap (w : Bytes) (n : ℕ) (f s : Monomial) : Type 0 where
  pub gap : Bytes
  pub two : length gap ≡ 2
  pub bytes : w ≡ front n f ++ (gap ++ (atom_bytes s ++ zeros n))

pub record Shifted (w₀ : Bytes) (at : ℕ) (w : Bytes) (k : ℕ) : Type 0 where
  pub above : at ≤ k
  pub size : length w ≡ length w₀
  pub parts :
      (b : Bytes) (m : Monomial) → Key b w₀ m → length m < 8 → (f s : Monomial) → m ≡ f ++ s → length f ≡ k →
      Gap w (length m) f s

-- a gap behind all atoms
gap-end : {b w : Bytes} {m : Monomial} → Key b w m → length m < 8 → Gap w (length m) m []
unfolding monomial_bytes atom_bytes
gap-end {m} h room =
    let cut : replicate (2 * (8 - length m)) 0 ≡ replicate 2 0 ++ zeros (length m) =
    sym (zeros-join 2 (2 * (7 - length m)) (2 * (8 - length m)) (omega arith)) in
    record { gap = replicate 2 0; two = refl; bytes = h.bytes ∙ ap (λ (l : Bytes). front (length m) m ++ l) cut }

-- an atom goes up, and the gap down
gap_down :
    {b w : Bytes} {n : ℕ} (f : Monomial) {t : Term} {s : Monomial} → Atom b t → Gap w n (f ++ t ∷ []) s →
    (k x : ℕ) → length f ≡ k → x ≡ le 2 w (2 * k + 1) → Gap (put 2 x w (2 * k + 3)) n f (t ∷ s)
unfolding atom_bytes
gap_down {b} {w} {n} f {t} {s} a g k x here is =
    let y : Bytes = bytes_of 2 (record_number t) in
    let r : Bytes = atom_bytes s ++ zeros n in
    let spot : 2 * k + 3 ≡ 2 * (k + 1) + 1 = omega arith in
    let long : length (f ++ t ∷ []) ≡ k + 1 = simp length-append (omega arith) in
    let read : le 2 w (2 * k + 1) ≡ record_number t =
    ap (λ (l : Bytes). le 2 l (2 * k + 1)) (g.bytes ∙ front-more n f t (g.gap ++ r))
    ∙ read_at n f here (record_number t) (g.gap ++ r) (small a) in
    record {
      gap = y;
      two = length-bytes_of 2 (record_number t);
      bytes =
          rw spot
          (ap (λ (i : ℕ). put 2 i w (2 * (k + 1) + 1)) (is ∙ read)
          ∙ ap (λ (l : Bytes). put 2 (record_number t) l (2 * (k + 1) + 1)) g.bytes
          ∙ write_at n (f ++ t ∷ []) long (record_number t) g.gap r g.two
          ∙ front-more n f t (y ++ r)
          ∙ ap (λ (l : Bytes). front n f ++ (y ++ l)) (sym (append_assoc y (atom_bytes s) (zeros n))));
    }

-- the gap is filled
gap_fill :
    {w : Bytes} {n : ℕ} (f : Monomial) {s : Monomial} → Gap w n f s → (t : Term) (k : ℕ) → length f ≡ k →
    length (f ++ s) ≡ n → set (put 2 (record_number t) w (2 * k + 1)) 0 (n + 1) ≡ monomial_bytes (f ++ t ∷ s)
unfolding monomial_bytes atom_bytes
gap_fill {w} {n} f {s} g t k here size =
    let y : Bytes = bytes_of 2 (record_number t) in
    let long : length (f ++ t ∷ s) ≡ n + 1 = simp length-append (omega (arith, simp length-append at size)) in
    let none : 2 * (8 - (n + 1)) ≡ 2 * (7 - n) = omega arith in
    ap (λ (l : Bytes). set l 0 (n + 1))
    (ap (λ (l : Bytes). put 2 (record_number t) l (2 * k + 1)) g.bytes
    ∙ write_at n f here (record_number t) g.gap (atom_bytes s ++ zeros n) g.two)
    ∙ ap (λ (l : Bytes). front (n + 1) f ++ l) (sym (append_assoc y (atom_bytes s) (zeros n)))
    ∙ sym (key-parts f (t ∷ s) (n + 1) (zeros n))
    ∙ rw (long, none)

filled :
    {b w₀ w : Bytes} {m : Monomial} {t : Term} {k : ℕ} (f s : Monomial) → f ++ s ≡ m → Key b w₀ m → length m < 8 →
    Atom b t → Gap w (length m) f s → length f ≡ k → k ≡ first_above m (record_number t) →
    Key b (set (put 2 (record_number t) w (2 * k + 1)) 0 (length m + 1)) (place t m)
filled {b} {m} {t} {k} f s whole h room a g here spot =
    let first : length f ≡ first_above (f ++ s) (record_number t) =
    here ∙ spot ∙ ap (λ (l : Monomial). first_above l (record_number t)) (sym whole) in
    let there : place t m ≡ f ++ t ∷ s = ap (place t) (sym whole) ∙ placed t f s first in
    let atoms : Atoms b (f ++ s) = rw whole h.atoms in
    rw there
    (record {
      bytes = gap_fill f g t k here (ap length whole);
      atoms = atoms_with b f s a atoms;
      few = simp length-append (omega (arith, simp length-append at (ap length whole)));
    })

module _ {w₀ : Bytes} {at : ℕ} where
  pub shifted_none : at ≤ get_or w₀ 0 0 → Shifted w₀ at w₀ (get_or w₀ 0 0)
  shifted_none most =
      record {
        above = most;
        size = refl;
        parts = λ b m h room f s whole here. all b m h room f s whole (here ∙ key-count h);
      }
    where
      all :
          (b : Bytes) (m : Monomial) → Key b w₀ m → length m < 8 → (f s : Monomial) → m ≡ f ++ s →
          length f ≡ length m → Gap w₀ (length m) f s
      all b m h room f [] whole here =
          let same : m ≡ f = whole ∙ append-nil f in
          subst (λ (l : Monomial). Gap w₀ (length m) l []) same (gap-end h room)
      all b m h room f (t ∷ s) whole here = absurd (omega (arith, ap length whole, length-append f (t ∷ s)))

  -- the atom is put at the gap
  pub shifted-done :
      {w w' : Bytes} {k x : ℕ} → Shifted w₀ at w k → k ≤ get_or w₀ 0 0 → k ≤ at → w' ≡ put 2 x w (2 * at + 1) →
      (b : Bytes) (m : Monomial) (t : Term) → Key b w₀ m → length m < 8 → Atom b t → x ≡ record_number t →
      at ≡ first_above m x → Key b (set w' 0 (get_or w₀ 0 0 + 1)) (place t m)
  shifted-done {w} {w'} {k} {x} s most low wrote b m t h room a number spot =
      let here : length (take at m) ≡ at = length-take-le at m (omega (arith, s.above, key-count h)) in
      let g : Gap w (length m) (take at m) (drop at m) =
      s.parts b m h room (take at m) (drop at m) (sym (take-append-drop at m)) (omega (arith, s.above)) in
      let same : set w' 0 (get_or w₀ 0 0 + 1) ≡ set (put 2 (record_number t) w (2 * at + 1)) 0 (length m + 1) =
      cc (key-count h) in
      rw same
      (filled (take at m) (drop at m) (take-append-drop at m) h room a g here (spot ∙ ap (first_above m) number))

pub shifted-more :
    {w₀ : Bytes} {at : ℕ} {w w' : Bytes} {k x : ℕ} → Shifted w₀ at w k → k ≤ get_or w₀ 0 0 → at < k →
    x ≡ le 2 w (2 * (k - 1) + 1) → w' ≡ put 2 x w (2 * (k - 1) + 3) → Shifted w₀ at w' (k - 1)
shifted-more {w₀} {at} {w} {w'} {k} {x} s most over is wrote =
    record {
      above = omega arith;
      size = ap length wrote ∙ length-put 2 x w (2 * (k - 1) + 3) ∙ s.size;
      parts = λ b m h room f r whole here. down b m h room f r whole here;
    }
  where
    down :
        (b : Bytes) (m : Monomial) → Key b w₀ m → length m < 8 → (f r : Monomial) → m ≡ f ++ r → length f ≡ k - 1 →
        Gap w' (length m) f r
    down b m h room f [] whole here = absurd (omega (arith, key-count h, ap length (whole ∙ append-nil f)))
    down b m h room f (t ∷ r) whole here =
        let atoms : Atoms b (f ++ t ∷ r) = rw whole at h.atoms in
        let g : Gap w (length m) (f ++ t ∷ []) r =
        s.parts b m h room (f ++ t ∷ []) r (whole ∙ sym (append_snoc f t r)) (simp length-append (omega arith)) in
        rw wrote (gap_down f (atom_of b f t r atoms) g (k - 1) x here is)

-- ---- the atoms of another monomial

-- the atoms r are left to be placed
pub record Joins (b w : Bytes) (j : Monomial) (r : Monomial) : Type 0 where
  pub so_far : Monomial
  pub key : Key b w so_far
  pub is : j ≡ joined so_far r

pub record Joining (w₀ other w : Bytes) (k : ℕ) : Type 0 where
  pub size : length w ≡ length w₀
  pub count : get_or w 0 0 ≡ get_or w₀ 0 0 + k
  pub turn :
      (b : Bytes) (m l : Monomial) → Key b w₀ m → Key b other l → Turn (Joins b w (joined m l)) l k

module _ {w₀ other : Bytes} where
  pub join-end :
      {w : Bytes} {k : ℕ} → Joining w₀ other w k → get_or other 0 0 ≤ k → (b : Bytes) (m l : Monomial) → Key b w₀ m →
      Key b other l → Key b w (joined m l)
  unfolding joined
  join-end j above b m l h o =
      let end = last (j.turn b m l h o) (omega (arith, key-count o)) in
      rw end.is end.key

  pub join_more :
      {w w' : Bytes} {k x : ℕ} → Joining w₀ other w k → k < get_or other 0 0 → get_or w₀ 0 0 + get_or other 0 0 ≤ 8 →
      x ≡ le 2 other (2 * k + 1) → length w' ≡ length w → get_or w' 0 0 ≡ get_or w 0 0 + 1 →
      ((b : Bytes) (m : Monomial) (t : Term) → Key b w m → length m < 8 → Atom b t → x ≡ record_number t →
      Key b w' (place t m)) →
      Joining w₀ other w' (k + 1)
  unfolding joined
  join_more j below room read size count put =
      record {
        size = size ∙ j.size;
        count = omega (arith, j.count);
        turn = λ b m l h o.
            let x = at o (j.turn b m l h o) (omega (arith, key-count o)) read in
            let old = x.stands in
            let short : length old.so_far < 8 = omega (arith, key-count old.key, j.count) in
            past x
            (record {
              so_far = place x.term old.so_far;
              key = put b old.so_far x.term old.key short x.atom x.number;
              is = old.is;
            });
      }
