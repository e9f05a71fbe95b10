-- A product's atoms as exponents: at 0 how many atoms there are, at 1 + i how often the one of record number i
-- stands there. Products have the same atoms exactly where their exponents agree (`exponents-eq`, `same-atoms`), so
-- `same_atoms` is an equivalence; and a test on exponents tells the products with the atoms of a given one
-- (`has-atoms`).
use mathlib.Core.Path.{◌≡◌, refl, sym, ◌∙◌, ap, ap₂, fun_ext}
use mathlib.Core.Bool.{Bool, true, false, ◌&&◌, ◌||◌}
use mathlib.Core.List.{List, [], ◌∷◌, ◌++◌}
use Prim.Native.Nat.{ℕ, zero, suc, ◌+◌, ◌-◌, ◌≤◌}
use native.Mathlib.Omega.{arith}
use lib.Dec.{eqb, leb}
use borrow.Author.Tests.{eqb-true, eqb-false, eq-eqb, ne_eqb, le-leb, lt-leb}
use Rattle.terms.specs.Term.{Term, record_number, same}
use Rattle.numbers.proofs.Truths.{both, never, same_test}
use Rattle.alethe.specs.AletheTerms.{without, occurs, same_atoms}

-- of one atom
unfoldable pub unit : Term → ℕ → ℕ
unit t zero = 1
unit t (suc i) = elim (eqb (record_number t) i) [ true ↦ 1 | false ↦ 0 ]

unfoldable pub exponents : List Term → ℕ → ℕ
exponents [] j = 0
exponents (t ∷ ts) j = unit t j + exponents ts j

pub exponents_append : (ts us : List Term) (j : ℕ) → exponents (ts ++ us) j ≡ exponents ts j + exponents us j
unfolding exponents
exponents_append [] us j = omega arith
exponents_append (t ∷ ts) us j = let h = exponents_append ts us j in omega arith

-- ---- one atom more or less

pub unit-same : (t u : Term) → same t u ≡ true → (j : ℕ) → unit t j ≡ unit u j
unfolding unit
unit-same t u e zero = refl
unit-same t u e (suc i) =
    ap (λ (n : ℕ). elim (eqb n i) as (λ b. ℕ) [ true ↦ 1 | false ↦ 0 ]) (eqb-true (record_number t) (record_number u) e)

unit_self : (t u : Term) → same t u ≡ true → unit u (suc (record_number t)) ≡ 1
unfolding unit
unit_self t u e =
    rw (eq-eqb (record_number u) (record_number t) (sym (eqb-true (record_number t) (record_number u) e)), unit)

pub unit-absent : (u : Term) (i : ℕ) → (record_number u ≡ i → ⊥) → unit u (suc i) ≡ 0
unfolding unit
unit-absent u i n = rw (ne_eqb (record_number u) i n, unit)

pub occurs-counted : (t : Term) (us : List Term) → occurs t us ≡ true → 1 ≤ exponents us (suc (record_number t))
unfolding occurs exponents
occurs-counted t [] e = never e
occurs-counted t (u ∷ us) e = go (same t u) refl (occurs-counted t us) e
  where
    go : (b : Bool) → same t u ≡ b → (occurs t us ≡ true → 1 ≤ exponents us (suc (record_number t))) →
        (b || occurs t us) ≡ true →
        1 ≤ unit u (suc (record_number t)) + exponents us (suc (record_number t))
    go true s k e = let h = unit_self t u s in omega arith
    go false s k e = let h = k e in omega arith

pub first_counted : (t : Term) (us : List Term) → 1 ≤ exponents (t ∷ us) (suc (record_number t))
unfolding occurs
first_counted t us = occurs-counted t (t ∷ us) (rw (eq-eqb (record_number t) (record_number t) refl))

absent-counted : (t : Term) (us : List Term) → occurs t us ≡ false → exponents us (suc (record_number t)) ≡ 0
unfolding occurs exponents
absent-counted t [] e = refl
absent-counted t (u ∷ us) e = go (same t u) refl (absent-counted t us) e
  where
    go : (b : Bool) → same t u ≡ b → (occurs t us ≡ false → exponents us (suc (record_number t)) ≡ 0) →
        (b || occurs t us) ≡ false →
        unit u (suc (record_number t)) + exponents us (suc (record_number t)) ≡ 0
    go true s k e = never (sym e)
    go false s k e =
        let h = unit-absent u (record_number t) (λ q. eqb-false (record_number t) (record_number u) s (sym q)) in
        let z = k e in
        omega arith

pub without-counted : (t : Term) (us : List Term) → occurs t us ≡ true → (j : ℕ) →
    exponents us j ≡ unit t j + exponents (without t us) j
unfolding occurs exponents without
without-counted t [] e j = never e
without-counted t (u ∷ us) e j = go (same t u) refl (λ h. without-counted t us h j) e
  where
    go : (b : Bool) → same t u ≡ b → (occurs t us ≡ true → exponents us j ≡ unit t j + exponents (without t us) j) →
        (b || occurs t us) ≡ true →
        unit u j + exponents us j ≡ unit t j + exponents (elim b [ true ↦ us | false ↦ u ∷ without t us ]) j
    go true s k e = let h = unit-same t u s j in omega arith
    go false s k e = let h = k e in omega arith

-- ---- the same atoms

pub exponents-eq : (ts us : List Term) → same_atoms ts us ≡ true → exponents ts ≡ exponents us
unfolding same_atoms exponents
exponents-eq [] [] e = refl
exponents-eq [] (u ∷ us) e = never e
exponents-eq (t ∷ ts) us e =
    let h = both (occurs t us) (same_atoms ts (without t us)) e in
    fun_ext λ j.
    ap (λ (f : ℕ → ℕ). unit t j + f j) (exponents-eq ts (without t us) h.1) ∙ sym (without-counted t us h.0 j)

-- whether a product with these exponents has the atoms ts
unfoldable pub has_atoms : List Term → (ℕ → ℕ) → Bool
has_atoms [] e = eqb (e 0) 0
has_atoms (t ∷ ts) e = leb 1 (e (suc (record_number t))) && has_atoms ts (λ j. e j - unit t j)

pub has-atoms : (ts us : List Term) → has_atoms ts (exponents us) ≡ same_atoms ts us
unfolding has_atoms same_atoms exponents unit
has-atoms [] [] = refl
has-atoms [] (u ∷ us) = ne_eqb (1 + exponents us 0) 0 (λ h. omega arith)
has-atoms (t ∷ ts) us = go (occurs t us) refl (has-atoms ts (without t us))
  where
    go : (b : Bool) → occurs t us ≡ b → has_atoms ts (exponents (without t us)) ≡ same_atoms ts (without t us) →
        (leb 1 (exponents us (suc (record_number t))) && has_atoms ts (λ j. exponents us j - unit t j))
        ≡ (b && same_atoms ts (without t us))
    go true e k =
        ap₂ ◌&&◌ (le-leb 1 (exponents us (suc (record_number t))) (occurs-counted t us e))
        (ap (has_atoms ts) (fun_ext λ j. let h = without-counted t us e j in omega arith) ∙ k)
    go false e k =
        ap (λ (b : Bool). b && has_atoms ts (λ j. exponents us j - unit t j))
        (lt-leb 1 (exponents us (suc (record_number t))) (let h = absent-counted t us e in omega arith))

pub same_atoms-refl : (ts : List Term) → same_atoms ts ts ≡ true
unfolding same_atoms occurs without
same_atoms-refl [] = refl
same_atoms-refl (t ∷ ts) = rw (eq-eqb (record_number t) (record_number t) refl, without) (same_atoms-refl ts)

pub same-atoms : (ts us : List Term) → exponents ts ≡ exponents us → same_atoms ts us ≡ true
same-atoms ts us e = sym (has-atoms ts us) ∙ ap (has_atoms ts) (sym e) ∙ has-atoms ts ts ∙ same_atoms-refl ts

pub same_atoms-sym : (ts us : List Term) → same_atoms ts us ≡ same_atoms us ts
same_atoms-sym ts us =
    same_test (same_atoms ts us) (same_atoms us ts) (λ e. same-atoms us ts (sym (exponents-eq ts us e)))
    (λ e. same-atoms ts us (sym (exponents-eq us ts e)))

-- the products with the atoms of ts are those with the atoms of us
pub same_atoms_like : (ts us vs : List Term) → same_atoms ts us ≡ true → same_atoms vs ts ≡ same_atoms vs us
same_atoms_like ts us vs e =
    same_test (same_atoms vs ts) (same_atoms vs us)
    (λ h. same-atoms vs us (exponents-eq vs ts h ∙ exponents-eq ts us e))
    (λ h. same-atoms vs ts (exponents-eq vs us h ∙ sym (exponents-eq ts us e)))
