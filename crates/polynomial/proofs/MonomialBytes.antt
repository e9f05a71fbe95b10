-- The 17 bytes of a monomial. Monomials are equal where their bytes are (`same_bytes_lem`).
use mathlib.Core.Path.{◌≡◌, refl, sym, ap, ap₂, ◌∙◌}
use mathlib.Core.Bool.{Bool, true, false, ◌&&◌, and-false}
use mathlib.Core.List.{[], ◌∷◌, ◌++◌, append_assoc}
use Prim.Native.Nat.{ℕ, suc, ◌*◌, ◌-◌, ◌/◌, ◌%◌, ◌≤◌, ◌<◌}
use native.Mathlib.Omega.{arith}
use borrow.Author.Tests.{eqb-true, eqb-false, eq-eqb}
use lib.Dec.{eqb}
use lib.ListN.{length, get_or, replicate, length-append, length-replicate}
use Rattle.numbers.specs.Bytes.{Bytes, bytes_of, same_bytes}
use Rattle.terms.specs.Term.{record_number, same}
use Rattle.numbers.proofs.SameBytes.{same_bytes-refl, same_bytes-false}
use Rattle.polynomial.specs.Polynomial.{Monomial, same_monomial}
use Rattle.polynomial.specs.Memory.PolynomialArea.{atom_bytes, monomial_bytes, Atoms}
use Rattle.index_map.proofs.NumberBytes.{length-bytes_of}

-- ---- the bytes of a monomial

pub length-atoms : (m : Monomial) → length (atom_bytes m) ≡ 2 * length m
unfolding atom_bytes
length-atoms [] = refl
length-atoms (t ∷ m) =
    let two = length-bytes_of 2 (record_number t) in
    omega (arith, length-append (bytes_of 2 (record_number t)) (atom_bytes m), two, length-atoms m)

pub length-monomial : (m : Monomial) → length m ≤ 8 → length (monomial_bytes m) ≡ 17
unfolding monomial_bytes
length-monomial m few =
    let rest : Bytes = replicate (2 * (8 - length m)) 0 in
    let zeros = length-replicate {A = ℕ} (2 * (8 - length m)) 0 in
    omega (arith, length-append (atom_bytes m) rest, length-atoms m, zeros)

same_head : (x : ℕ) (r s : Bytes) → same_bytes (x ∷ r) (x ∷ s) ≡ same_bytes r s
unfolding same_bytes
same_head x r s = rw (eq-eqb x x refl, same_bytes)

-- two bytes are the same where the record numbers are
same-two :
    (i j : ℕ) (r s : Bytes) → i < 65536 → j < 65536 →
    same_bytes (bytes_of 2 i ++ r) (bytes_of 2 j ++ s) ≡ (eqb i j && same_bytes r s)
unfolding bytes_of
same-two i j r s low high = go (eqb i j) refl
  where
    go :
        (t : Bool) → eqb i j ≡ t → same_bytes (bytes_of 2 i ++ r) (bytes_of 2 j ++ s) ≡ (t && same_bytes r s)
    go true e =
        ap (λ (k : ℕ). same_bytes (bytes_of 2 k ++ r) (bytes_of 2 j ++ s)) (eqb-true i j e)
        ∙ same_head (j % 256) ((j / 256 % 256) ∷ r) ((j / 256 % 256) ∷ s)
        ∙ same_head (j / 256 % 256) r s
    go false e =
        same_bytes-false (bytes_of 2 i ++ r) (bytes_of 2 j ++ s)
        (λ h.
        let one : i % 256 ≡ j % 256 = ap (λ (l : Bytes). get_or l 0 0) h in
        let two : i / 256 % 256 ≡ j / 256 % 256 = ap (λ (l : Bytes). get_or l 1 0) h in
        eqb-false i j e (omega arith))

other_length : (m n : Monomial) → (length m ≡ length n → ⊥) → same_monomial m n ≡ false
unfolding same_monomial
other_length [] [] other = absurd (other refl)
other_length [] (u ∷ n) other = refl
other_length (t ∷ m) [] other = refl
other_length (t ∷ m) (u ∷ n) other =
    ap (λ (x : Bool). same t u && x) (other_length m n (λ h. other (ap suc h))) ∙ and-false (same t u)

module _ (b : Bytes) where
  same-atoms :
      (m n : Monomial) (r : Bytes) → Atoms b m → Atoms b n → length m ≡ length n →
      same_bytes (atom_bytes m ++ r) (atom_bytes n ++ r) ≡ same_monomial m n
  unfolding Atoms atom_bytes same_monomial
  same-atoms [] [] r a c e = same_bytes-refl r
  same-atoms [] (u ∷ n) r a c e = absurd (omega arith)
  same-atoms (t ∷ m) [] r a c e = absurd (omega arith)
  same-atoms (t ∷ m) (u ∷ n) r a c e =
      let i = record_number t in
      let j = record_number u in
      ap₂ same_bytes (append_assoc (bytes_of 2 i) (atom_bytes m) r) (append_assoc (bytes_of 2 j) (atom_bytes n) r)
      ∙ same-two i j (atom_bytes m ++ r) (atom_bytes n ++ r)
      (omega (arith, a.0.inside)) (omega (arith, c.0.inside))
      ∙ ap (λ (x : Bool). eqb i j && x) (same-atoms m n r a.1 c.1 (omega arith))

  pub same_bytes_lem :
      (m n : Monomial) → Atoms b m → Atoms b n →
      same_bytes (monomial_bytes m) (monomial_bytes n) ≡ same_monomial m n
  unfolding monomial_bytes same_bytes
  same_bytes_lem m n a c = go (eqb (length m) (length n)) refl
    where
      rest : ℕ → Bytes
      rest k = replicate (2 * (8 - k)) 0

      go :
          (t : Bool) → eqb (length m) (length n) ≡ t →
          same_bytes (monomial_bytes m) (monomial_bytes n) ≡ same_monomial m n
      go true e =
          let size : length m ≡ length n = eqb-true (length m) (length n) e in
          ap (λ (k : ℕ). same_bytes (k ∷ (atom_bytes m ++ rest k)) (monomial_bytes n)) size
          ∙ same_head (length n) (atom_bytes m ++ rest (length n)) (atom_bytes n ++ rest (length n))
          ∙ same-atoms m n (rest (length n)) a c size
      go false e = rw (e, same_bytes) (sym (other_length m n (eqb-false (length m) (length n) e)))
