-- The atoms of a monomial in its 17 bytes. Atom k is read at 2 k + 1 (`at`); a loop over the atoms goes from `Turn` to
-- `Turn`.
--     Searched       the invariant of the loop of `place_of`: no atom before k is above the number
use mathlib.Core.Path.{◌≡◌, refl, sym, ap, ◌∙◌}
use mathlib.Core.List.{[], ◌∷◌, ◌++◌, append_assoc, append-nil}
use Prim.Native.Nat.{ℕ, suc, ◌+◌, ◌*◌, ◌-◌, ◌≤◌, ◌<◌}
use native.Mathlib.Omega.{arith}
use borrow.Author.Tests.{lt-ltb, le-ltb}
use lib.ListN.{length, get_or, replicate, length-append}
use lib.Seq.{append_snoc}
use Rattle.numbers.specs.Bytes.{Bytes, le, put, bytes_of}
use Rattle.terms.specs.Term.{Term, record_number}
use Rattle.polynomial.specs.Polynomial.{Monomial}
use Rattle.polynomial.specs.Memory.PolynomialArea.{atom_bytes, monomial_bytes, first_above, Atom, Atoms, Key}
use Rattle.polynomial.proofs.MonomialBytes.{length-atoms}
use Rattle.index_map.proofs.NumberBytes.{put_at, le_at}

-- ---- atoms in bytes

pub small : {b : Bytes} {t : Term} → Atom b t → record_number t < 65536
small a = omega (arith, a.inside)

atoms_append : (m n : Monomial) → atom_bytes (m ++ n) ≡ atom_bytes m ++ atom_bytes n
unfolding atom_bytes
atoms_append [] n = refl
atoms_append (t ∷ m) n =
    let x : Bytes = bytes_of 2 (record_number t) in
    ap (λ (l : Bytes). x ++ l) (atoms_append m n) ∙ sym (append_assoc x (atom_bytes m) (atom_bytes n))

-- the atom behind others is an atom of the book
pub atom_of : (b : Bytes) (f : Monomial) (t : Term) (s : Monomial) → Atoms b (f ++ t ∷ s) → Atom b t
unfolding Atoms
atom_of b [] t s a = a.0
atom_of b (u ∷ f) t s a = atom_of b f t s a.1

-- an atom more
pub atoms_with :
    (b : Bytes) (f : Monomial) {t : Term} (s : Monomial) → Atom b t → Atoms b (f ++ s) → Atoms b (f ++ t ∷ s)
unfolding Atoms
atoms_with b [] s a h = (a, h)
atoms_with b (u ∷ f) s a h = (h.0, atoms_with b f s a h.1)

-- a monomial's bytes up to the atom behind f
abbrev pub front : ℕ → Monomial → Bytes
front n f = n ∷ atom_bytes f

length_front : (n : ℕ) (f : Monomial) {k : ℕ} → length f ≡ k → length (front n f) ≡ 2 * k + 1
length_front n f h = omega (arith, length-atoms f)

pub read_at :
    (n : ℕ) (f : Monomial) {k : ℕ} → length f ≡ k → (v : ℕ) (r : Bytes) → v < 65536 →
    le 2 (front n f ++ (bytes_of 2 v ++ r)) (2 * k + 1) ≡ v
read_at n f here v r h =
    ap (le 2 (front n f ++ (bytes_of 2 v ++ r))) (sym (length_front n f here)) ∙ le_at 2 v (front n f) r h

pub write_at :
    (n : ℕ) (f : Monomial) {k : ℕ} → length f ≡ k → (v : ℕ) (x r : Bytes) → length x ≡ 2 →
    put 2 v (front n f ++ (x ++ r)) (2 * k + 1) ≡ front n f ++ (bytes_of 2 v ++ r)
write_at n f here v x r h =
    ap (put 2 v (front n f ++ (x ++ r))) (sym (length_front n f here)) ∙ put_at 2 v (front n f) x r h

-- a front, and an atom more
pub front-more :
    (n : ℕ) (f : Monomial) (t : Term) (r : Bytes) →
    front n (f ++ t ∷ []) ++ r ≡ front n f ++ (bytes_of 2 (record_number t) ++ r)
unfolding atom_bytes
front-more n f t r =
    ap (λ (l : Bytes). n ∷ (l ++ r)) (atoms_append f (t ∷ []))
    ∙ simp (append_assoc, append-nil)

pub key-parts :
    (f s : Monomial) (n : ℕ) (r : Bytes) → n ∷ (atom_bytes (f ++ s) ++ r) ≡ front n f ++ (atom_bytes s ++ r)
key-parts f s n r = ap (λ (l : Bytes). n ∷ (l ++ r)) (atoms_append f s) ∙ simp append_assoc

key-atom :
    {b key : Bytes} (f : Monomial) {k : ℕ} → length f ≡ k → (t : Term) (s : Monomial) → Key b key (f ++ t ∷ s) →
    le 2 key (2 * k + 1) ≡ record_number t
unfolding monomial_bytes atom_bytes
key-atom {b} f {k} here t s h =
    let n : ℕ = length (f ++ t ∷ s) in
    let zeros : Bytes = replicate (2 * (8 - n)) 0 in
    let x : Bytes = bytes_of 2 (record_number t) in
    ap (λ (l : Bytes). le 2 l (2 * k + 1))
    (h.bytes ∙ key-parts f (t ∷ s) n zeros ∙ ap (λ (l : Bytes). front n f ++ l) (append_assoc x (atom_bytes s) zeros))
    ∙ read_at n f here (record_number t) (atom_bytes s ++ zeros) (small (atom_of b f t s h.atoms))

pub key-count : {b key : Bytes} {m : Monomial} → Key b key m → get_or key 0 0 ≡ length m
unfolding monomial_bytes
key-count h = ap (λ (l : Bytes). get_or l 0 0) h.bytes

-- ---- loops over the atoms

pub record Turn (P : Monomial → Type 0) (m : Monomial) (k : ℕ) : Type 0 where
  pub done : Monomial
  pub rest : Monomial
  pub whole : m ≡ done ++ rest
  pub here : length done ≡ k
  pub stands : P rest

-- x is the record number of atom k
pub record Next (P : Monomial → Type 0) (b : Bytes) (m : Monomial) (k x : ℕ) : Type 0 where
  pub done : Monomial
  pub term : Term
  pub rest : Monomial
  pub whole : m ≡ done ++ term ∷ rest
  pub here : length done ≡ k
  pub atom : Atom b term
  pub number : x ≡ record_number term
  pub stands : P (term ∷ rest)

pub first : {P : Monomial → Type 0} {m : Monomial} → P m → Turn P m 0
first {m} p = record { done = []; rest = m; whole = refl; here = refl; stands = p }

module _ {P : Monomial → Type 0} {m : Monomial} {k : ℕ} where
  pub at :
      {b key : Bytes} {x : ℕ} → Key b key m → Turn P m k → k < length m → x ≡ le 2 key (2 * k + 1) → Next P b m k x
  at {b} {key} {x} h t below is = go t.rest t.whole t.stands
    where
      go : (r : Monomial) → m ≡ t.done ++ r → P r → Next P b m k x
      go [] whole p = absurd (omega (arith, t.here, ap length (whole ∙ append-nil t.done)))
      go (a ∷ r) whole p =
          let h' : Key b key (t.done ++ a ∷ r) = rw whole at h in
          record {
            done = t.done;
            term = a;
            rest = r;
            whole = whole;
            here = t.here;
            atom = atom_of b t.done a r h'.atoms;
            number = is ∙ key-atom t.done t.here a r h';
            stands = p;
          }

  pub past : {Q : Monomial → Type 0} {b : Bytes} {x : ℕ} (n : Next P b m k x) → Q n.rest → Turn Q m (k + 1)
  past n q =
      record {
        done = n.done ++ n.term ∷ [];
        rest = n.rest;
        whole = n.whole ∙ sym (append_snoc n.done n.term n.rest);
        here = simp length-append (omega (arith, n.here));
        stands = q;
      }

  pub last : Turn P m k → length m ≤ k → P []
  last t above = go t.rest t.whole t.stands
    where
      go : (r : Monomial) → m ≡ t.done ++ r → P r → P []
      go [] whole p = p
      go (a ∷ r) whole p = absurd (omega (arith, t.here, ap length whole, length-append t.done (a ∷ r)))

-- ---- the place of an atom

module _ (a : Term) (m : Monomial) (i : ℕ) where
  pub above-here : i < record_number a → first_above (a ∷ m) i ≡ 0
  unfolding first_above
  above-here h = rw (lt-ltb i (record_number a) h, first_above)

  pub above-past : record_number a ≤ i → first_above (a ∷ m) i ≡ suc (first_above m i)
  unfolding first_above
  above-past h = rw (le-ltb i (record_number a) h, first_above)

abbrev Before : Monomial → ℕ → ℕ → Monomial → Type 0
Before m i k r = first_above m i ≡ k + first_above r i

pub record Searched (key : Bytes) (n i k : ℕ) : Type 0 where
  pub turn : (b : Bytes) (m : Monomial) → Key b key m → n ≡ length m → Turn (Before m i k) m k

module _ (key : Bytes) (n i : ℕ) where
  pub search_end :
      {k : ℕ} → Searched key n i k → k ≤ n → n ≤ k →
      (b : Bytes) (m : Monomial) → Key b key m → n ≡ length m → n ≡ first_above m i
  unfolding first_above
  search_end s most above b m h size = omega (arith, last (s.turn b m h size) (omega arith))

  module _ {k x : ℕ} (s : Searched key n i k) (below : k < n) (is : x ≡ le 2 key (2 * k + 1)) where
    pub search_found : i < x → (b : Bytes) (m : Monomial) → Key b key m → n ≡ length m → k ≡ first_above m i
    search_found over b m h size =
        let t = at h (s.turn b m h size) (omega arith) is in
        omega (arith, t.stands, t.number, above-here t.term t.rest i (omega (arith, t.number)))

    pub search_more : x ≤ i → Searched key n i (k + 1)
    search_more under =
        record {
          turn = λ b m h size.
              let t = at h (s.turn b m h size) (omega arith) is in
              past t (omega (arith, t.stands, above-past t.term t.rest i (omega (arith, t.number))));
        }
