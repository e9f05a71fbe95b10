-- What terms mean is a linear reading, under every assignment (`valued`): an atom stands for its value. There is an
-- assignment, for what holds under every one (`some_assignment`).
use mathlib.Core.Path.{◌≡◌, refl, sym, ◌∙◌, ap}
use mathlib.Core.Bool.{false}
use mathlib.Core.List.{[], ◌∷◌}
use Prim.Native.Nat.{ℕ}
use native.Mathlib.Omega.{arith}
use lib.Dec.{eqb}
use lib.IntN.{pos}
use Rattle.numbers.specs.Rational as Rational
use Rattle.terms.specs.Operator.{Add, Sub, Mult}
use Rattle.terms.specs.Term.{Term, Terms}
use Rattle.numbers.specs.Choice.{when◌then◌else◌}
use Rattle.terms.specs.Term.Term.{op}
use Rattle.terms.specs.Term.Terms.{nil, ◌▹◌}
use Rattle.terms.specs.Smtlib.{Assignment, as_pair, value, values, meaning}
use Rattle.numbers.proofs.Ring.{◌⊗◌, 𝟙, ◌≐◌, solve}
use Rattle.numbers.proofs.Quotient.{ℚ, ℚring, mk-eq, mk-whole}
use Rattle.terms.proofs.Sums.{meant, sum_of, product_of, mk-sum, mk-opposite, mk-difference, mk-product}
use Rattle.book.proofs.Fractions.{fraction_means}
use Rattle.book.proofs.BookTerms.{Closed}
use Rattle.index_map.specs.Memory.Entries.{terms}
use Rattle.rules.specs.Shapes.{size}
use Rattle.rules_theory.proofs.IndexMaps.{Values}
use Rattle.rules_theory.proofs.WrittenNumbers.{written_read}
use Rattle.linear_theory.proofs.LinearReadings.{sum_at, difference_at, LinearReading, leaves}
open ℚring use {add as ◌+◌, mul as ◌*◌, neg as -◌}

infixl 6 ◌+◌
infixl 7 ◌*◌
infix 8 -◌
module _ (ρ : Assignment) where
  -- the number that a term means
  abbrev pub meant_at : Term → ℚ
  meant_at t = meant (value ρ t)

  sums-meant : (ts : Terms) → sum_of (values ρ ts) ≡ sum_at meant_at ts
  unfolding value sum_of sum_at
  sums-meant nil = refl
  sums-meant (t ▹ ts) = ap (◌+◌ (meant_at t)) (sums-meant ts)

  module _ (i : ℕ) where
    pub add-meant : (ts : Terms) → meant_at (op i Add ts) ≡ sum_at meant_at ts
    unfolding value meaning when◌then◌else◌
    add-meant ts = mk-sum (values ρ ts) ∙ sums-meant ts

    pub negation-meant : (ts : Terms) → size ts ≡ 1 → meant_at (op i Sub ts) ≡ - sum_at meant_at ts
    unfolding value meaning when◌then◌else◌
    negation-meant nil e = absurd (omega arith)
    negation-meant (t ▹ nil) e = mk-opposite (value ρ t) ∙ ap -◌ (sums-meant (t ▹ nil))
    negation-meant (t ▹ u ▹ ts) e = absurd (omega arith)

    pub difference-meant : (ts : Terms) → eqb (size ts) 1 ≡ false → meant_at (op i Sub ts) ≡ difference_at meant_at ts
    unfolding value meaning when◌then◌else◌
    difference-meant nil e = mk-whole (pos 0)
    difference-meant (t ▹ nil) e = cc
    difference-meant (t ▹ u ▹ ts) e =
        mk-difference (value ρ t) (value ρ u) (values ρ ts) ∙ ap (λ (x : ℚ). meant_at t + - x) (sums-meant (u ▹ ts))

    pub product-meant : (a b : Term) → meant_at (op i Mult (a ▹ b ▹ nil)) ≡ meant_at a * meant_at b
    unfolding value meaning when◌then◌else◌ product_of
    product-meant a b =
        mk-product (value ρ a) (value ρ b ∷ [])
        ∙ solve ℚring (meant_at a ∷ meant_at b ∷ []) (λ a b. a ⊗ (b ⊗ 𝟙) ≐ a ⊗ b) tt

module _ {P : Term → Type 0} (closed : Closed P) (ρ : Assignment) where
  abbrev pub valued : LinearReading P
  valued =
      record {
        at = meant_at ρ;
        leaf = λ t. meant (value ρ t);
        respects = λ a b p q e. ap (λ (t : Term). meant (value ρ t)) (closed.known a b p q e);
        atom = λ t p a. refl;
        number = λ t p q w.
            let m = fraction_means t (closed.formed t p) q (written_read w) in
            sym (mk-eq (as_pair (value ρ t)) (Rational.value q) (m.meant ρ));
        sum = add-meant ρ;
        negation = negation-meant ρ;
        difference = difference-meant ρ;
        product = λ i a b q w. product-meant ρ i a b;
      }

  -- an atom stands for its value
  abbrev pub atoms : Values terms
  atoms = leaves valued
