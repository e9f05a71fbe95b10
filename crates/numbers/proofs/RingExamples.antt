-- Calls of the solver, of the kinds that proofs about fractions and linear sums need: a fraction a / b is added, multiplied and compared by
-- cross products. No module imports this file. It shows how a call is written, and it keeps calls of that size fast.
use mathlib.Core.Path.{◌≡◌, refl}
use mathlib.Core.Bool.{false}
use mathlib.Core.List.{[], ◌∷◌}
use lib.IntN.{ℤ, pos, negsuc, neg_ℤ, ◌+ℤ◌, ◌-ℤ◌, ◌*ℤ◌}
use Rattle.numbers.proofs.Polynomials.{is_identity, is_combination}
use Rattle.numbers.proofs.Ring.{Ring, at_vars, solve}
use Rattle.numbers.proofs.Integers.{E, lit, ◌⊕◌, ◌⊖◌, ◌⊗◌, neg, 𝟘, 𝟙, ◌≐◌, ◌·◌, ◌and◌, ◌from◌, solveℤ, deriveℤ}

-- With a literal.
square_succ : (a : ℤ) → (a +ℤ pos 1) *ℤ (a +ℤ pos 1) ≡ a *ℤ a +ℤ pos 2 *ℤ a +ℤ pos 1
square_succ a = solveℤ (a ∷ []) (λ a. (a ⊕ 𝟙) ⊗ (a ⊕ 𝟙) ≐ a ⊗ a ⊕ lit (pos 2) ⊗ a ⊕ 𝟙) tt

-- With a negation and a negative literal.
neg-sub : (a b c : ℤ) → neg_ℤ (a -ℤ b) *ℤ (negsuc 2 *ℤ c) ≡ pos 3 *ℤ c *ℤ a -ℤ c *ℤ (b *ℤ pos 3)
neg-sub a b c = solveℤ (a ∷ b ∷ c ∷ []) (λ a b c. neg (a ⊖ b) ⊗ (lit (negsuc 2) ⊗ c) ≐ lit (pos 3) ⊗ c ⊗ a ⊖ c ⊗ (b ⊗ lit (pos 3))) tt

difference_of_squares : (a b : ℤ) → (a +ℤ b) *ℤ (a -ℤ b) ≡ a *ℤ a -ℤ b *ℤ b
difference_of_squares a b = solveℤ (a ∷ b ∷ []) (λ a b. (a ⊕ b) ⊗ (a ⊖ b) ≐ a ⊗ a ⊖ b ⊗ b) tt

-- a / b + c / d + e / f is the same, grouped to the left and to the right.
fraction-add_assoc :
    (a b c d e f : ℤ) →
    ((a *ℤ d +ℤ c *ℤ b) *ℤ f +ℤ e *ℤ (b *ℤ d)) *ℤ (b *ℤ (d *ℤ f)) ≡ (a *ℤ (d *ℤ f) +ℤ (c *ℤ f +ℤ e *ℤ d) *ℤ b) *ℤ (b *ℤ d *ℤ f)
fraction-add_assoc a b c d e f =
    solveℤ (a ∷ b ∷ c ∷ d ∷ e ∷ f ∷ [])
    (λ a b c d e f. ((a ⊗ d ⊕ c ⊗ b) ⊗ f ⊕ e ⊗ (b ⊗ d)) ⊗ (b ⊗ (d ⊗ f)) ≐ (a ⊗ (d ⊗ f) ⊕ (c ⊗ f ⊕ e ⊗ d) ⊗ b) ⊗ (b ⊗ d ⊗ f)) tt

-- a / b times c / d + e / f is the sum of the two products.
fraction-mul-add :
    (a b c d e f : ℤ) →
    a *ℤ (c *ℤ f +ℤ e *ℤ d) *ℤ (b *ℤ d *ℤ (b *ℤ f)) ≡ (a *ℤ c *ℤ (b *ℤ f) +ℤ a *ℤ e *ℤ (b *ℤ d)) *ℤ (b *ℤ (d *ℤ f))
fraction-mul-add a b c d e f =
    solveℤ (a ∷ b ∷ c ∷ d ∷ e ∷ f ∷ [])
    (λ a b c d e f. a ⊗ (c ⊗ f ⊕ e ⊗ d) ⊗ (b ⊗ d ⊗ (b ⊗ f)) ≐ (a ⊗ c ⊗ (b ⊗ f) ⊕ a ⊗ e ⊗ (b ⊗ d)) ⊗ (b ⊗ (d ⊗ f))) tt

-- k times a linear sum and m times another one are a linear sum.
linear_combination :
    (k m a b c d x y : ℤ) →
    k *ℤ (a *ℤ x +ℤ b *ℤ y) +ℤ m *ℤ (c *ℤ x -ℤ d *ℤ y) ≡ (k *ℤ a +ℤ m *ℤ c) *ℤ x +ℤ (k *ℤ b -ℤ m *ℤ d) *ℤ y
linear_combination k m a b c d x y =
    solveℤ (k ∷ m ∷ a ∷ b ∷ c ∷ d ∷ x ∷ y ∷ [])
    (λ k m a b c d x y. k ⊗ (a ⊗ x ⊕ b ⊗ y) ⊕ m ⊗ (c ⊗ x ⊖ d ⊗ y) ≐ (k ⊗ a ⊕ m ⊗ c) ⊗ x ⊕ (k ⊗ b ⊖ m ⊗ d) ⊗ y) tt

-- The cube of a sum of six has 56 monomials.
cube_of_sum :
    (a b c d e f : ℤ) →
    let s : ℤ = a +ℤ b +ℤ c +ℤ d +ℤ e +ℤ f in s *ℤ (s *ℤ s) ≡ s *ℤ s *ℤ (f +ℤ e +ℤ d +ℤ c +ℤ b +ℤ a)
cube_of_sum a b c d e f =
    solveℤ (a ∷ b ∷ c ∷ d ∷ e ∷ f ∷ [])
    (λ a b c d e f. let s : E = a ⊕ b ⊕ c ⊕ d ⊕ e ⊕ f in s ⊗ (s ⊗ s) ≐ s ⊗ s ⊗ (f ⊕ e ⊕ d ⊕ c ⊕ b ⊕ a)) tt

-- ---- with hypotheses

-- Equal fractions a / b and c / d stay equal when 1 is added,
add_one_of_cross : (a b c d : ℤ) → a *ℤ d ≡ c *ℤ b → (a +ℤ b) *ℤ d ≡ (c +ℤ d) *ℤ b
add_one_of_cross a b c d h = deriveℤ (a ∷ b ∷ c ∷ d ∷ []) (λ a b c d. (a ⊕ b) ⊗ d ≐ (c ⊕ d) ⊗ b from 𝟙 · a ⊗ d ≐ c ⊗ b) tt h

-- and when e / f is added.
add_of_cross :
    (a b c d e f : ℤ) → a *ℤ d ≡ c *ℤ b → (a *ℤ f +ℤ e *ℤ b) *ℤ (d *ℤ f) ≡ (c *ℤ f +ℤ e *ℤ d) *ℤ (b *ℤ f)
add_of_cross a b c d e f h =
    deriveℤ (a ∷ b ∷ c ∷ d ∷ e ∷ f ∷ [])
    (λ a b c d e f. (a ⊗ f ⊕ e ⊗ b) ⊗ (d ⊗ f) ≐ (c ⊗ f ⊕ e ⊗ d) ⊗ (b ⊗ f) from f ⊗ f · a ⊗ d ≐ c ⊗ b) tt h

-- The equality of fractions is transitive, up to the factor d.
cross_trans : (a b c d e f : ℤ) → a *ℤ d ≡ c *ℤ b → c *ℤ f ≡ e *ℤ d → a *ℤ f *ℤ d ≡ e *ℤ b *ℤ d
cross_trans a b c d e f h k =
    deriveℤ (a ∷ b ∷ c ∷ d ∷ e ∷ f ∷ []) (λ a b c d e f. a ⊗ f ⊗ d ≐ e ⊗ b ⊗ d from f · a ⊗ d ≐ c ⊗ b and b · c ⊗ f ≐ e ⊗ d) tt h k

-- Where a / b is a' / b' and c / d is c' / d', the products are equal.
mul_of_cross :
    (a b c d a' b' c' d' : ℤ) → a *ℤ b' ≡ a' *ℤ b → c *ℤ d' ≡ c' *ℤ d →
    a *ℤ c *ℤ (b' *ℤ d') ≡ a' *ℤ c' *ℤ (b *ℤ d)
mul_of_cross a b c d a' b' c' d' h k =
    deriveℤ (a ∷ b ∷ c ∷ d ∷ a' ∷ b' ∷ c' ∷ d' ∷ [])
    (λ a b c d a' b' c' d'. a ⊗ c ⊗ (b' ⊗ d') ≐ a' ⊗ c' ⊗ (b ⊗ d) from c ⊗ d' · a ⊗ b' ≐ a' ⊗ b and a' ⊗ b · c ⊗ d' ≐ c' ⊗ d) tt h k

-- x is eliminated from two equations, one of them with a negated factor.
eliminate : (a b c d x : ℤ) → a *ℤ x +ℤ b ≡ pos 0 → c *ℤ x +ℤ d ≡ pos 0 → a *ℤ d ≡ c *ℤ b
eliminate a b c d x h k =
    deriveℤ (a ∷ b ∷ c ∷ d ∷ x ∷ [])
    (λ a b c d x. a ⊗ d ≐ c ⊗ b from neg c · a ⊗ x ⊕ b ≐ 𝟘 and a · c ⊗ x ⊕ d ≐ 𝟘) tt h k

-- ---- over any ring

square_of_sum :
    (R : Ring) (a b : R.carrier) →
    R.mul (R.add a b) (R.add a b) ≡ R.add (R.mul a a) (R.mul (R.add b (R.mul (R.ι (pos 2)) a)) b)
square_of_sum R a b = solve R (a ∷ b ∷ []) (λ a b. (a ⊕ b) ⊗ (a ⊕ b) ≐ a ⊗ a ⊕ (b ⊕ lit (pos 2) ⊗ a) ⊗ b) tt

-- ---- a wrong equation or factor is refused: its test is false, so that `tt` does not check

square_is_no_double : is_identity (at_vars (pos 0 ∷ []) 0 (λ a. a ⊗ a ≐ a ⊕ a)) ≡ false
square_is_no_double = refl

wrong-factor : is_combination (at_vars (pos 0 ∷ pos 0 ∷ []) 0 (λ a b. a ⊗ a ≐ a ⊗ b from b · a ≐ b)) ≡ false
wrong-factor = refl
