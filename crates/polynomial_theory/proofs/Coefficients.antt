-- The coefficients of a list of products, and the polynomial that it is: what it amounts to over variables
-- (`amount-polynomial`). Lists that are one polynomial have equal coefficients (`coefficients-equal`).
use mathlib.Core.Path.{◌≡◌, refl, sym, ◌∙◌, ap, ap₂, fun_ext}
use mathlib.Core.Bool.{Bool, true, false}
use mathlib.Core.List.{List, [], ◌∷◌}
use mathlib.Core.Quot.{sound}
use native.Mathlib.Omega.{arith}
use lib.IntN.{pos}
use Rattle.numbers.specs.Rational.{Rational, Lowest, add_q}
use Rattle.terms.specs.Term.{Term}
use Rattle.numbers.proofs.Ring.{Ring, ◌⊕◌, ◌⊗◌, neg, 𝟘, 𝟙, ◌≐◌, ◌·◌, ◌and◌, ◌from◌, solve, derive}
use Rattle.numbers.proofs.Quotient.{ℚ, ℚring}
use Rattle.numbers.proofs.QuotientRings.{addᶜ, mulᶜ, ιᶜ}
use Rattle.alethe.specs.AletheTerms.{Products, same_atoms, coefficient_in}
use Rattle.rules.proofs.Valuations.{Valuation, numberℚ, rationals, number_unique}
use Rattle.alethe.proofs.Exponents.{exponents, has-atoms, same_atoms-sym}
use Rattle.polynomial_theory.proofs.ProductRing.{Exponents, Multiples, none, tally, single, products, shifted}
use Rattle.polynomial_theory.proofs.ProductRing.{up_to, product_ring, polynomial, tally-eq, alone, constants}
use Rattle.polynomial_theory.proofs.MonomialLaws.{monomial}
use Rattle.polynomial_theory.proofs.Expansions.{ProductsOf, amount}
open ℚring use {add as ◌+◌, mul as ◌*◌, ι}

infixl 6 ◌+◌
infixl 7 ◌*◌
-- 1 or 0
abbrev bit : Bool → ℚ
bit b = elim b as (λ z. ℚ) [ true ↦ ι (pos 1) | false ↦ ι (pos 0) ]

-- a coefficient c with one product more, if that has its atoms
abbrev pub counted : Rational × List Term → Rational → Bool → Rational
counted e c b = elim b as (λ z. Rational) [ true ↦ add_q e.0 c | false ↦ c ]

-- ---- goodness

module _ {R : Ring} (N : Valuation R) (P : Term → Type 0) where
  pub coefficient-good : (ts : List Term) (m : Products) → ProductsOf P N.Good m → N.Good (coefficient_in ts m)
  unfolding coefficient_in
  coefficient-good ts [] g = N.good-whole (pos 0)
  coefficient-good ts (e ∷ m) (ge, g) = go (same_atoms e.1 ts) (coefficient-good ts m g)
    where
      go : (b : Bool) → N.Good (coefficient_in ts m) →
          N.Good (counted e (coefficient_in ts m) b)
      go true h = N.good-add e.0 (coefficient_in ts m) ge.good h
      go false h = h

-- ---- the polynomial of a list

abbrev pub variable : Term → product_ring.carrier
variable t = polynomial (single (ι (pos 1)) (exponents (t ∷ [])))

unfoldable pub multiples_of : Products → Multiples
multiples_of [] = []
multiples_of (e ∷ m) = (numberℚ e.0, exponents e.1) ∷ multiples_of m

monomial-polynomial : (ts : List Term) →
    monomial product_ring variable ts ≡ polynomial (single (ι (pos 1)) (exponents ts))
unfolding monomial exponents up_to mulᶜ ιᶜ products shifted
monomial-polynomial [] = refl
monomial-polynomial (t ∷ ts) =
    ap (product_ring.mul (variable t)) (monomial-polynomial ts)
    ∙ ap₂ (λ (q : ℚ) (k : Exponents). polynomial (single q k)) (solve ℚring [] (𝟙 ⊗ 𝟙 ≐ 𝟙) tt)
    (fun_ext λ j. omega arith)

pub amount-polynomial : (m : Products) → amount constants variable m ≡ polynomial (multiples_of m)
unfolding amount multiples_of up_to addᶜ mulᶜ ιᶜ products shifted tally
amount-polynomial [] = sound λ f. solve ℚring (f none ∷ []) (λ x. 𝟘 ⊗ x ⊕ 𝟘 ≐ 𝟘) tt
amount-polynomial (e ∷ m) =
    ap₂ (λ (x y : product_ring.carrier). product_ring.add (product_ring.mul (constants.number e.0) x) y)
    (monomial-polynomial e.1) (amount-polynomial m)
    ∙ ap₂ (λ (q : ℚ) (k : Exponents). polynomial ((q, k) ∷ multiples_of m)) (ℚring.mul-one (numberℚ e.0))
    (fun_ext λ j. omega arith)

module _ (P : Term → Type 0) where
  coefficient-tally : (ts : List Term) (m : Products) → ProductsOf P Lowest m →
      tally (alone ts) (multiples_of m) ≡ numberℚ (coefficient_in ts m)
  unfolding tally multiples_of coefficient_in
  coefficient-tally ts [] g = sym (rationals.number-whole (pos 0))
  coefficient-tally ts (e ∷ m) (ge, g) =
      ap (λ (b : Bool). numberℚ e.0 * bit b + tally (alone ts) (multiples_of m))
      (has-atoms ts e.1 ∙ same_atoms-sym ts e.1)
      ∙ go (same_atoms e.1 ts) (coefficient-tally ts m g)
    where
      go : (b : Bool) → tally (alone ts) (multiples_of m) ≡ numberℚ (coefficient_in ts m) →
          numberℚ e.0 * bit b + tally (alone ts) (multiples_of m)
          ≡ numberℚ (counted e (coefficient_in ts m) b)
      go true h =
          derive ℚring
          (numberℚ e.0 ∷ tally (alone ts) (multiples_of m) ∷ numberℚ (coefficient_in ts m)
          ∷ numberℚ (add_q e.0 (coefficient_in ts m)) ∷ [])
          (λ e t c s. e ⊗ 𝟙 ⊕ t ≐ s from 𝟙 · t ≐ c and neg 𝟙 · s ≐ e ⊕ c) tt h
          (rationals.number-add e.0 (coefficient_in ts m) ge.good (coefficient-good rationals P ts m g))
      go false h =
          derive ℚring (numberℚ e.0 ∷ tally (alone ts) (multiples_of m) ∷ numberℚ (coefficient_in ts m) ∷ [])
          (λ e t c. e ⊗ 𝟘 ⊕ t ≐ c from 𝟙 · t ≐ c) tt h

  -- one polynomial has one coefficient
  pub coefficients-equal : (m n : Products) → ProductsOf P Lowest m → ProductsOf P Lowest n →
      amount constants variable m ≡ amount constants variable n → (ts : List Term) →
      coefficient_in ts m ≡ coefficient_in ts n
  coefficients-equal m n gm gn e ts =
      number_unique (coefficient_in ts m) (coefficient_in ts n) (coefficient-good rationals P ts m gm)
      (coefficient-good rationals P ts n gn)
      (sym (coefficient-tally ts m gm)
      ∙ tally-eq (sym (amount-polynomial m) ∙ e ∙ amount-polynomial n) (alone ts)
      ∙ coefficient-tally ts n gn)
