-- Products with other atoms each (`Apart`), as those of a neat polynomial are (`products-apart`): the coefficient
-- of one of them is the number before it (`first_coefficient`), and what changes each number changes each
-- coefficient (`each-coefficient`). So `reduced` does (`reduced-coefficient`).
use mathlib.Core.Path.{◌≡◌, refl, sym, ◌∙◌, ap}
use mathlib.Core.Bool.{Bool, true, false}
use mathlib.Core.List.{List, [], ◌∷◌}
use Prim.Native.Nat.{ℕ, ◌^◌}
use native.Mathlib.Nat.{zero-mod}
use lib.IntN.{pos}
use Rattle.numbers.specs.Rational.{Rational, Lowest, whole, add_q, modulo}
use Rattle.terms.specs.Term.{Sort, Term}
use Rattle.terms.specs.Term.Sort.{bool, int, real, bits}
use Rattle.numbers.proofs.LowestTerms.{whole_is_lowest}
use Rattle.numbers.proofs.Quotient.{ℚring}
use Rattle.index_map.specs.IndexMap.{Map}
use Rattle.polynomial.specs.Polynomial.{Monomial, Polynomial}
use Rattle.poly_simp.specs.PolySimp.{modulo_all, reduced}
use Rattle.alethe.specs.AletheTerms.{Products, nought, same_atoms, coefficient_in}
use Rattle.rules.proofs.Valuations.{numberℚ, rationals, number_unique}
use Rattle.rules_theory.proofs.IndexMaps.{EntriesOf, CombinationOf}
use Rattle.polynomial_theory.proofs.MonomialLaws.{AllKnown}
use Rattle.alethe.proofs.Exponents.{same_atoms-refl, same_atoms-sym, same_atoms_like}
use Rattle.polynomial_theory.proofs.Expansions.{ProductsOf}
use Rattle.polynomial_theory.proofs.Coefficients.{counted}
use Rattle.polynomial_theory.proofs.SortedMonomials.{proper-some}
use Rattle.polynomial_theory.proofs.NeatMaps.{Fresh, Neat, Keyed}

-- ---- products that differ

abbrev pub Other : List Term → Products → Type 0
Other ts [] = Unit {0}
Other ts (e ∷ m) = (same_atoms ts e.1 ≡ false) × Other ts m

pub data Apart : Products → Type 0 where
  none : Apart []
  apart : {e : Rational × List Term} {m : Products} → Other e.1 m → Apart m → Apart (e ∷ m)

-- products with other atoms have no part in a coefficient
pub other_none : (k ts : List Term) (m : Products) → Other k m → same_atoms k ts ≡ true → coefficient_in ts m ≡ nought
unfolding coefficient_in
other_none k ts [] h s = refl
other_none k ts (e ∷ m) h s =
    ap (counted e (coefficient_in ts m)) (sym (same_atoms_like k ts e.1 s) ∙ same_atoms-sym e.1 k ∙ h.0)
    ∙ other_none k ts m h.1 s

add-nought : (q : Rational) → Lowest q → add_q q nought ≡ q
add-nought q l =
    number_unique (add_q q nought) q (rationals.good-add q nought l (whole_is_lowest (pos 0))) l
    (rationals.number-add q nought l (whole_is_lowest (pos 0))
    ∙ ap (ℚring.add (numberℚ q)) (rationals.number-whole (pos 0)) ∙ ℚring.add-zero (numberℚ q))

pub first_coefficient : (e : Rational × List Term) (m : Products) → Lowest e.0 → Other e.1 m →
    coefficient_in e.1 (e ∷ m) ≡ e.0
unfolding coefficient_in
first_coefficient e m l h =
    ap (counted e (coefficient_in e.1 m)) (same_atoms-refl e.1)
    ∙ ap (add_q e.0) (other_none e.1 e.1 m h (same_atoms-refl e.1)) ∙ add-nought e.0 l

pub later-coefficient : (ts : List Term) (e : Rational × List Term) (m : Products) → same_atoms e.1 ts ≡ false →
    coefficient_in ts (e ∷ m) ≡ coefficient_in ts m
unfolding coefficient_in
later-coefficient ts e m s = ap (counted e (coefficient_in ts m)) s

-- ---- each number changed

unfoldable pub each : (Rational → Rational) → Products → Products
each f [] = []
each f (e ∷ m) = (f e.0, e.1) ∷ each f m

each-other : (f : Rational → Rational) (k : List Term) (m : Products) → Other k m → Other k (each f m)
unfolding each
each-other f k [] h = tt
each-other f k (e ∷ m) h = (h.0, each-other f k m h.1)

module _ (P : Term → Type 0) (f : Rational → Rational) (zero : f nought ≡ nought)
    (lowest : (q : Rational) → Lowest q → Lowest (f q)) where
  pub each-coefficient : (ts : List Term) {m : Products} → Apart m → ProductsOf P Lowest m →
      coefficient_in ts (each f m) ≡ f (coefficient_in ts m)
  unfolding each coefficient_in
  each-coefficient ts none g = sym zero
  each-coefficient ts (apart {e} {m} o h) (ge, g) = go (same_atoms e.1 ts) refl (each-coefficient ts h g)
    where
      go : (b : Bool) → same_atoms e.1 ts ≡ b → coefficient_in ts (each f m) ≡ f (coefficient_in ts m) →
          counted (f e.0, e.1) (coefficient_in ts (each f m)) b ≡ f (counted e (coefficient_in ts m) b)
      go true s k =
          ap (add_q (f e.0)) (other_none e.1 ts (each f m) (each-other f e.1 m o) s)
          ∙ add-nought (f e.0) (lowest e.0 ge.good)
          ∙ ap f (sym (ap (add_q e.0) (other_none e.1 ts m o s) ∙ add-nought e.0 ge.good))
      go false s k = k

-- ---- the products of a polynomial

unfoldable pub entries_of : Map Monomial → Products
entries_of [] = []
entries_of (e ∷ m) = (e.1, e.0) ∷ entries_of m

abbrev pub products_of : Polynomial → Products
products_of p = (p.constant, []) ∷ entries_of p.entries

pub entries-good : (P : Term → Type 0) (Q : Rational → Type 0) (m : Map Monomial) → EntriesOf (AllKnown P) Q m →
    ProductsOf P Q (entries_of m)
unfolding entries_of
entries-good P Q [] g = tt
entries-good P Q (e ∷ m) (ge, g) = (ge, entries-good P Q m g)

pub entries-other : (k : Monomial) (m : Map Monomial) → Fresh k m → Other k (entries_of m)
unfolding entries_of
entries-other k [] h = tt
entries-other k (e ∷ m) h = (h.0, entries-other k m h.1)

pub keyed_other : (m : Map Monomial) → Keyed m → Other [] (entries_of m)
unfolding entries_of
keyed_other [] h = tt
keyed_other (e ∷ m) h = (proper-some e.0 h.0, keyed_other m h.1)

entries-apart : {Q : Rational → Type 0} {m : Map Monomial} → Neat Q m → Apart (entries_of m)
unfolding entries_of
entries-apart Neat.empty = none
entries-apart (Neat.entry {e} {m} p q f h) = apart (entries-other e.0 m f) (entries-apart h)

pub products-apart : {Q : Rational → Type 0} (p : Polynomial) → Neat Q p.entries → Keyed p.entries →
    Apart (products_of p)
products-apart p h k = apart (keyed_other p.entries k) (entries-apart h)

-- ---- modulo

unfoldable pub reduce : Sort → Rational → Rational
reduce bool q = q
reduce int q = q
reduce real q = q
reduce (bits w) q = whole (pos (modulo q.num (2 ^ w)))

entries-reduced : (w : ℕ) (m : Map Monomial) → entries_of (modulo_all (2 ^ w) m) ≡ each (reduce (bits w)) (entries_of m)
unfolding entries_of modulo_all each reduce
entries-reduced w [] = refl
entries-reduced w (e ∷ m) = ap (◌∷◌ (whole (pos (modulo e.1.num (2 ^ w))), e.0)) (entries-reduced w m)

pub reduced-coefficient : (P : Term → Type 0) (a : Sort) (p : Polynomial) → Apart (products_of p) →
    ProductsOf P Lowest (products_of p) →
    (ts : List Term) → coefficient_in ts (products_of (reduced a p)) ≡ reduce a (coefficient_in ts (products_of p))
unfolding reduced reduce each
reduced-coefficient P bool p h g ts = refl
reduced-coefficient P int p h g ts = refl
reduced-coefficient P real p h g ts = refl
reduced-coefficient P (bits w) p h g ts =
    ap (λ (m : Products). coefficient_in ts ((whole (pos (modulo p.constant.num (2 ^ w))), []) ∷ m))
    (entries-reduced w p.entries)
    ∙ each-coefficient P (reduce (bits w)) (ap (λ (n : ℕ). whole (pos n)) (zero-mod (2 ^ w)))
    (λ q l. whole_is_lowest _) ts h g

modulo-good : (P : Term → Type 0) (n : ℕ) (m : Map Monomial) → EntriesOf (AllKnown P) Lowest m →
    EntriesOf (AllKnown P) Lowest (modulo_all n m)
unfolding modulo_all
modulo-good P n [] g = tt
modulo-good P n (e ∷ m) (ge, g) = (record { known = ge.known; good = whole_is_lowest _ }, modulo-good P n m g)

pub reduced-good : (P : Term → Type 0) (a : Sort) (p : Polynomial) → CombinationOf (AllKnown P) Lowest p →
    CombinationOf (AllKnown P) Lowest (reduced a p)
unfolding reduced
reduced-good P bool p g = g
reduced-good P int p g = g
reduced-good P real p g = g
reduced-good P (bits w) p g =
    record { entries = modulo-good P (2 ^ w) p.entries g.entries; constant = whole_is_lowest _ }

modulo_keyed : (n : ℕ) (m : Map Monomial) → Keyed m → Keyed (modulo_all n m)
unfolding modulo_all
modulo_keyed n [] h = tt
modulo_keyed n (e ∷ m) h = (h.0, modulo_keyed n m h.1)

pub reduced_keyed : (a : Sort) (p : Polynomial) → Keyed p.entries → Keyed (reduced a p).entries
unfolding reduced
reduced_keyed bool p h = h
reduced_keyed int p h = h
reduced_keyed real p h = h
reduced_keyed (bits w) p h = modulo_keyed (2 ^ w) p.entries h
