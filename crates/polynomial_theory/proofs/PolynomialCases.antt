-- What holds in each case of the polynomial walk holds of the choice: by a bit-vector constant, and by the arm
-- of a term. Q says what is known of the case.
use mathlib.Core.Path.{◌≡◌, refl}
use Prim.Native.Nat.{ℕ}
use Rattle.polynomial_walk.specs.PolynomialTerms.{Arm}
use Rattle.polynomial_walk.specs.PolynomialTerms.Arm.{sum, negation, difference, product, quotient, leaf}
use Rattle.std.specs.Prelude.{Option, Some, None}

module _ {X : Type 0} (R : X → Type 0) where
  pub by_vector :
      (b : Option (ℕ × ℕ)) {f : ℕ → ℕ → X} {y : X} → ((v n : ℕ) → b ≡ Some (v, n) → R (f v n)) →
      R y → R (elim b as (λ x. X) [ Some (v, n) ↦ f v n | None ↦ y ])
  by_vector (Some (v, n)) g h = g v n refl
  by_vector None g h = h

  pub by_arm :
      (Q : Arm → Type 0) (a : Arm) → Q a → {u v w x y z : X} → (Q sum → R u) →
      (Q negation → R v) → (Q difference → R w) → (Q product → R x) →
      (Q quotient → R y) → (Q leaf → R z) →
      R (elim a as (λ x. X) [ sum ↦ u | negation ↦ v | difference ↦ w | product ↦ x | quotient ↦ y | leaf ↦ z ])
  by_arm Q sum q f g h i j k = f q
  by_arm Q negation q f g h i j k = g q
  by_arm Q difference q f g h i j k = h q
  by_arm Q product q f g h i j k = i q
  by_arm Q quotient q f g h i j k = j q
  by_arm Q leaf q f g h i j k = k q
