-- The monomials of the Rust's polynomials are sorted and not empty, and their atoms are leaves (`Proper`): a leaf
-- alone is such, and so are two that are joined. Of such monomials those with the same atoms are the same
-- (`proper-apart`).
use mathlib.Core.Path.{◌≡◌, refl, sym, ◌∙◌, ap, fun_ext}
use mathlib.Core.Bool.{Bool, true, false}
use mathlib.Core.List.{[], ◌∷◌}
use Prim.Native.Nat.{ℕ, suc, ◌+◌, ◌≤◌, ◌<◌}
use native.Mathlib.Omega.{arith}
use lib.Dec.{ltb}
use lib.ListN.{length}
use borrow.Author.Tests.{ltb-true, ltb-false, eq-eqb}
use Rattle.terms.specs.Term.{Term, same, record_number}
use Rattle.numbers.proofs.Truths.{never}
use Rattle.polynomial.specs.Polynomial.{Monomial, same_monomial, place, joined}
use Rattle.alethe.specs.AletheTerms.{same_atoms}
use Rattle.polynomial_theory.proofs.MonomialLaws.{AllKnown, place-known}
use Rattle.polynomial_theory.proofs.LeafTerms.{Leaf}
use Rattle.alethe.proofs.Exponents.{unit, exponents, unit-same, unit-absent, first_counted, exponents-eq}

abbrev pub AtLeast : ℕ → Monomial → Type 0
AtLeast i [] = Unit {0}
AtLeast i (a ∷ m) = (i ≤ record_number a) × AtLeast i m

abbrev pub Sorted : Monomial → Type 0
Sorted [] = Unit {0}
Sorted (a ∷ m) = AtLeast (record_number a) m × Sorted m

pub record Proper (m : Monomial) : Type 0 where
  pub sorted : Sorted m
  pub some : 1 ≤ length m
  pub atoms : AllKnown Leaf m

pub atom-proper : (t : Term) → Leaf t → Proper (t ∷ [])
atom-proper t h = record { sorted = (tt, tt); some = omega arith; atoms = (h, tt) }

-- ---- joined monomials

at_least-less : (i j : ℕ) → i ≤ j → (m : Monomial) → AtLeast j m → AtLeast i m
at_least-less i j l [] h = tt
at_least-less i j l (a ∷ m) h = let k = h.0 in (omega arith, at_least-less i j l m h.1)

place-at_least : (i : ℕ) (t : Term) → i ≤ record_number t → (m : Monomial) → AtLeast i m → AtLeast i (place t m)
unfolding place
place-at_least i t l [] h = (l, tt)
place-at_least i t l (a ∷ m) h = go (ltb (record_number t) (record_number a)) (place-at_least i t l m h.1)
  where
    go : (b : Bool) → AtLeast i (place t m) → AtLeast i (elim b [ true ↦ t ∷ a ∷ m | false ↦ a ∷ place t m ])
    go true k = (l, h)
    go false k = (h.0, k)

place-sorted : (t : Term) (m : Monomial) → Sorted m → Sorted (place t m)
unfolding place
place-sorted t [] h = (tt, tt)
place-sorted t (a ∷ m) h = go (ltb (record_number t) (record_number a)) refl (place-sorted t m h.1)
  where
    go : (b : Bool) → ltb (record_number t) (record_number a) ≡ b → Sorted (place t m) →
        Sorted (elim b [ true ↦ t ∷ a ∷ m | false ↦ a ∷ place t m ])
    go true e k =
        let l = ltb-true (record_number t) (record_number a) e in
        ((omega arith, at_least-less (record_number t) (record_number a) (omega arith) m h.0), h)
    go false e k =
        (place-at_least (record_number a) t (ltb-false (record_number t) (record_number a) e) m h.0, k)

place-some : (t : Term) (m : Monomial) → 1 ≤ length (place t m)
unfolding place
place-some t [] = omega arith
place-some t (a ∷ m) = go (ltb (record_number t) (record_number a))
  where
    go : (b : Bool) → 1 ≤ length {A = Term} (elim b [ true ↦ t ∷ a ∷ m | false ↦ a ∷ place t m ])
    go true = omega arith
    go false = omega arith

pub joined-proper : (m n : Monomial) → Proper m → AllKnown Leaf n → Proper (joined m n)
unfolding joined
joined-proper m [] h k = h
joined-proper m (a ∷ n) h k =
    joined-proper (place a m) n
    (record {
      sorted = place-sorted a m h.sorted;
      some = place-some a m;
      atoms = place-known Leaf a m k.0 h.atoms;
    })
    k.1

-- ---- the same atoms

-- an atom below all others does not stand there
below-absent : (i j : ℕ) → j < i → (m : Monomial) → AtLeast i m → exponents m (suc j) ≡ 0
unfolding exponents
below-absent i j l [] h = refl
below-absent i j l (a ∷ m) h =
    let k = h.0 in
    let e = unit-absent a j (λ q. omega arith) in
    let r = below-absent i j l m h.1 in
    omega arith

first_least : (a b : Term) (m n : Monomial) → Sorted (b ∷ n) → exponents (a ∷ m) ≡ exponents (b ∷ n) →
    record_number b ≤ record_number a
first_least a b m n h e = go (ltb (record_number a) (record_number b)) refl
  where
    go : (t : Bool) → ltb (record_number a) (record_number b) ≡ t → record_number b ≤ record_number a
    go true l =
        let less = ltb-true (record_number a) (record_number b) l in
        let none = below-absent (record_number b) (record_number a) less (b ∷ n) (omega arith, h.0) in
        let one = first_counted a m in
        let same_count : exponents (a ∷ m) (suc (record_number a)) ≡ exponents (b ∷ n) (suc (record_number a)) =
        ap (λ (f : ℕ → ℕ). f (suc (record_number a))) e in
        absurd (omega arith)
    go false l = ltb-false (record_number a) (record_number b) l

sorted-same : (m n : Monomial) → Sorted m → Sorted n → exponents m ≡ exponents n → same_monomial m n ≡ true
unfolding same_monomial exponents unit
sorted-same [] [] h k e = refl
sorted-same [] (b ∷ n) h k e =
    let c : 0 ≡ 1 + exponents n 0 = ap (λ (f : ℕ → ℕ). f 0) e in absurd (omega arith)
sorted-same (a ∷ m) [] h k e =
    let c : 1 + exponents m 0 ≡ 0 = ap (λ (f : ℕ → ℕ). f 0) e in absurd (omega arith)
sorted-same (a ∷ m) (b ∷ n) h k e =
    let p = first_least a b m n k e in
    let q = first_least b a n m h (sym e) in
    let s : same a b ≡ true = eq-eqb (record_number a) (record_number b) (omega arith) in
    rw s
    (sorted-same m n h.1 k.1
    (fun_ext λ j.
    let u = unit-same a b s j in
    let c : unit a j + exponents m j ≡ unit b j + exponents n j = ap (λ (f : ℕ → ℕ). f j) e in
    omega arith))

-- monomials that differ have other atoms
pub proper-apart : (m n : Monomial) → Proper m → Proper n → same_monomial m n ≡ false → same_atoms m n ≡ false
proper-apart m n h k e = go (same_atoms m n) refl
  where
    go : (b : Bool) → same_atoms m n ≡ b → b ≡ false
    go true s = never (sym e ∙ sorted-same m n h.sorted k.sorted (exponents-eq m n s))
    go false s = refl

-- the empty product has other atoms
pub proper-some : (m : Monomial) → Proper m → same_atoms [] m ≡ false
unfolding same_atoms
proper-some [] h = absurd (let k = h.some in omega arith)
proper-some (a ∷ m) h = refl
