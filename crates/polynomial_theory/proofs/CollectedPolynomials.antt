-- The polynomial that the Rust makes of a term has the coefficients of the term's products (`from_term-collects`):
-- read in the ring of polynomials, the term's value is what its products amount to, and it is the worth of the
-- Rust's polynomial, whose keys are products of leaves.
use mathlib.Core.Path.{◌≡◌, refl, sym, ◌∙◌, ap₂}
use mathlib.Core.List.{List, [], ◌∷◌}
use Prim.Native.Nat.{ℕ}
use Rattle.numbers.specs.Rational.{Rational, Lowest}
use Rattle.terms.specs.Term.{Term}
use Rattle.terms.specs.Readers.{unbounded, as_fraction}
use Rattle.numbers.proofs.Ring.{◌⊕◌, ◌⊗◌, 𝟙, ◌≐◌, ◌·◌, ◌from◌, derive}
use Rattle.book.proofs.Fractions.{as_fraction-value}
use Rattle.book.proofs.BookTerms.{Closed}
use Rattle.rules.specs.Limits.{Limits}
use Rattle.index_map.specs.IndexMap.{Map}
use Rattle.polynomial.specs.Polynomial.{Monomial, Polynomial, monomials}
use Rattle.polynomial_walk.specs.PolynomialTerms.{from_term}
use Rattle.alethe.specs.AletheTerms.{Products, Expands, coefficient_in}
use Rattle.rules_theory.proofs.IndexMaps.{Values, total, worth, CombinationOf, Amounts}
use Rattle.polynomial_theory.proofs.MonomialLaws.{AllKnown, monomial}
use Rattle.rules_theory.proofs.WrittenNumbers.{some_assignment}
use Rattle.polynomial_theory.proofs.TermReadings.{TermReading}
use Rattle.polynomial_theory.proofs.PolynomialWalk.{term_values, from_term-amounts}
use Rattle.polynomial_theory.proofs.ProductRing.{product_ring, constants, constant_division}
use Rattle.polynomial_theory.proofs.LeafTerms.{Leaf, indivisible_leaf}
use Rattle.polynomial_theory.proofs.Reckonings.{reckon, reckoning, reckon-leaf}
use Rattle.polynomial_theory.proofs.Expansions.{ProductsOf, amount, Comes, expands_comes}
use Rattle.polynomial_theory.proofs.Coefficients.{variable, coefficients-equal}
use Rattle.polynomial_theory.proofs.NeatMaps.{Unless, weaken, also, Keyed, neat_keyed}
use Rattle.polynomial_theory.proofs.NeatPolynomials.{Full, from_term-full}
use Rattle.polynomial_theory.proofs.CollectedProducts.{entries_of, products_of, entries-good}
use Rattle.std.specs.Prelude.{Ok}
open product_ring use {carrier, add as ◌+◌, mul as ◌*◌, ι}

infixl 6 ◌+◌
infixl 7 ◌*◌
module _ {P : Term → Type 0} (closed : Closed P) where
  pub read-lowest : (t : Term) → P t → (q : Rational) → as_fraction unbounded t ≡ Ok q → Lowest q
  read-lowest t p q e = (as_fraction-value t (closed.formed t p) q e some_assignment).1

  -- terms as polynomials
  abbrev pub polynomial_reading : TermReading constants
  polynomial_reading = reckoning constants variable constant_division closed read-lowest

  abbrev pub polynomial_values : Values monomials
  polynomial_values = term_values polynomial_reading

  abbrev S : Values monomials
  S = polynomial_values

  -- ---- the worth of a polynomial is what its products amount to

  leaf-monomial : (k : Monomial) → AllKnown Leaf k →
      monomial product_ring (reckon constants variable) k ≡ monomial product_ring variable k
  unfolding monomial
  leaf-monomial [] h = refl
  leaf-monomial (a ∷ k) h = ap₂ ◌*◌ (reckon-leaf constants variable h.0) (leaf-monomial k h.1)

  total-amount : (m : Map Monomial) → Keyed m → total S m ≡ amount constants variable (entries_of m)
  unfolding total amount entries_of
  total-amount [] h = refl
  total-amount (e ∷ m) h =
      ap₂ (λ (x y : carrier). constants.number e.1 * x + y)
      (leaf-monomial e.0 h.0.atoms) (total-amount m h.1)

  pub worth-amount : (p : Polynomial) → Keyed p.entries → worth S p ≡ amount constants variable (products_of p)
  unfolding amount monomial
  worth-amount p h =
      derive product_ring
      (total S p.entries ∷ constants.number p.constant ∷ amount constants variable (entries_of p.entries) ∷ [])
      (λ t c a. t ⊕ c ≐ c ⊗ 𝟙 ⊕ a from 𝟙 · t ≐ a) tt (total-amount p.entries h)

  pub products-good : (p : Polynomial) → CombinationOf (AllKnown P) Lowest p → ProductsOf P Lowest (products_of p)
  products-good p g = (record { known = tt; good = g.constant }, entries-good P Lowest p.entries g.entries)

  -- ---- a term's polynomial

  pub expansion-comes : {t : Term} {m : Products} → Expands t m → P t →
      Comes constants P variable m (reckon constants variable t)
  expansion-comes =
      expands_comes polynomial_reading closed.formed variable
      (λ t p h. reckon-leaf constants variable (indivisible_leaf t (closed.formed t p) h))

  pub record Collects (m : Products) (p : Polynomial) : Type 0 where
    pub good : CombinationOf (AllKnown P) Lowest p
    pub full : Full p.entries
    pub coefficients : (ts : List Term) → coefficient_in ts m ≡ coefficient_in ts (products_of p)

  collects : {t : Term} {m : Products} → Expands t m → P t → (p : Polynomial) → Full p.entries →
      Amounts S p (reckon constants variable t) → Collects m p
  collects {m = m} h pt p f a =
      let c = expansion-comes h pt in
      record {
        good = a.good;
        full = f;
        coefficients =
            coefficients-equal P m (products_of p) c.good (products-good p a.good)
            (c.is ∙ sym a.is ∙ worth-amount p (neat_keyed f));
      }

  pub from_term-collects : (l : Limits) {t : Term} {m : Products} → Expands t m → P t → (n : ℕ) →
      Unless l (λ w. Collects m w.sum) (from_term l t n)
  from_term-collects l {t} h p n =
      weaken (λ w k. collects h p w.sum k.0 k.1)
      (also (from_term-full l t n) (from_term-amounts polynomial_reading l t p n))
