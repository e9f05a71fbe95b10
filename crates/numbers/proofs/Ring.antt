-- Polynomial equations over any commutative ring that the integers map into, proved by computation. R is the ring, ρ the list of the
-- variables' values, and the λ names a variable for each of them. An equation that does not hold is refused at `tt`.
--     solve R ρ (λ a b. l ≐ r) tt                                  proves l ≡ r, where l and r are one polynomial
--     derive R ρ (λ a b. l ≐ r from k · l₁ ≐ r₁ and m · l₂ ≐ r₂) tt h₁ h₂
--         proves l ≡ r from h₁ : l₁ ≡ r₁ and h₂ : l₂ ≡ r₂, where l - r and k (l₁ - r₁) + m (l₂ - r₂) are one polynomial
use mathlib.Core.Path.{◌≡◌, refl, sym, ◌∙◌, ap, ap₂}
use mathlib.Core.Bool.{Bool, true, false, ◌&&◌}
use mathlib.Core.List.{List, [], ◌∷◌, tail}
use Prim.Native.Nat.{ℕ, zero, suc, ◌+◌ as ◌+ℕ◌}
use native.Mathlib.Nat.{add-suc, add-zero as add-zeroℕ}
use lib.Dec.{T, eqb, eqb→eq}
use lib.IntN.{ℤ, pos, negsuc, ◌+ℤ◌, ◌*ℤ◌}
pub use Rattle.numbers.proofs.Polynomials.{E, var, lit, ◌⊕◌, ◌⊖◌, ◌⊗◌, neg, 𝟘, 𝟙, Equation, ◌≐◌, Hypotheses, ◌·◌, ◌and◌, Claim, ◌from◌, Vars, at_vars}
use Rattle.numbers.proofs.Polynomials.{Poly, nil, term, same_exponents, add_exponents, exponents_of_var}
use Rattle.numbers.proofs.Polynomials.{insert, sum, scale, product, opposite, normal, is_zero, vanishes}
use Rattle.numbers.proofs.Polynomials.{is_identity, combination, is_combination}

pub record Ring : Type 1 where
  pub carrier : Type 0
  pub add : carrier → carrier → carrier
  pub mul : carrier → carrier → carrier
  pub neg : carrier → carrier
  pub ι : ℤ → carrier
  pub add_assoc : (a b c : carrier) → add (add a b) c ≡ add a (add b c)
  pub add_comm : (a b : carrier) → add a b ≡ add b a
  pub add-zero : (a : carrier) → add a (ι (pos 0)) ≡ a
  pub add-neg : (a : carrier) → add a (neg a) ≡ ι (pos 0)
  pub mul_assoc : (a b c : carrier) → mul (mul a b) c ≡ mul a (mul b c)
  pub mul_comm : (a b : carrier) → mul a b ≡ mul b a
  pub mul-one : (a : carrier) → mul a (ι (pos 1)) ≡ a
  pub add-mul : (a b c : carrier) → mul (add a b) c ≡ add (mul a c) (mul b c)
  pub ι-add : (x y : ℤ) → ι (x +ℤ y) ≡ add (ι x) (ι y)
  pub ι-mul : (x y : ℤ) → ι (x *ℤ y) ≡ mul (ι x) (ι y)

and_both : (a b : Bool) → T (a && b) → T a × T b
and_both true b t = (tt, t)
and_both false b t = absurd t

eq-zero_of_is_zero : (z : ℤ) → T (is_zero z) → z ≡ pos 0
eq-zero_of_is_zero (pos n) t = ap pos (eqb→eq n 0 t)
eq-zero_of_is_zero (negsuc n) t = absurd t

-- These two serve the sum and the product.
module _ {A : Type 0} (◌∘◌ : A → A → A) (assoc : (a b c : A) → ◌∘◌ (◌∘◌ a b) c ≡ ◌∘◌ a (◌∘◌ b c)) (comm : (a b : A) → ◌∘◌ a b ≡ ◌∘◌ b a) where
  infixl 5 ◌∘◌
  left_comm : (a b c : A) → a ∘ (b ∘ c) ≡ b ∘ (a ∘ c)
  left_comm a b c = cc (assoc a b c, assoc b a c, comm a b)

  interchange : (a b c d : A) → (a ∘ b) ∘ (c ∘ d) ≡ (a ∘ c) ∘ (b ∘ d)
  interchange a b c d = cc (assoc a b (c ∘ d), assoc a c (b ∘ d), left_comm b c d)

module _ (R : Ring) where
  open R use {carrier, add as ◌+◌, mul as ◌*◌, neg as -◌, ι, add_assoc, add_comm, add-zero, add-neg, mul_assoc, mul_comm, mul-one, add-mul, ι-add, ι-mul}

  infixl 6 ◌+◌
  infixl 7 ◌*◌
  infix 8 -◌
  -- ---- what expressions, equations and claims mean

  -- A variable with no value is 0.
  abbrev pub first : List carrier → carrier
  first [] = ι (pos 0)
  first (x ∷ ρ) = x

  abbrev pub value : ℕ → List carrier → carrier
  value zero ρ = first ρ
  value (suc i) ρ = value i (tail ρ)

  abbrev pub ⟦◌⟧ : E → List carrier → carrier
  ⟦ var i ⟧ ρ = value i ρ
  ⟦ lit z ⟧ ρ = ι z
  ⟦ a ⊕ b ⟧ ρ = ⟦ a ⟧ ρ + ⟦ b ⟧ ρ
  ⟦ a ⊖ b ⟧ ρ = ⟦ a ⟧ ρ + - ⟦ b ⟧ ρ
  ⟦ a ⊗ b ⟧ ρ = ⟦ a ⟧ ρ * ⟦ b ⟧ ρ
  ⟦ neg a ⟧ ρ = - ⟦ a ⟧ ρ

  abbrev pub Holds : Equation → List carrier → Type 0
  Holds (l ≐ r) ρ = ⟦ l ⟧ ρ ≡ ⟦ r ⟧ ρ

  -- The hypotheses are arguments, one after the other.
  abbrev pub Given : Hypotheses → List carrier → Type 0 → Type 0
  Given (k · e) ρ G = Holds e ρ → G
  Given (h and j) ρ G = Given h ρ (Given j ρ G)

  abbrev pub Follows : Claim → List carrier → Type 0
  Follows (e from h) ρ = Given h ρ (Holds e ρ)

  -- ---- laws of a ring

  abbrev zeroᴿ : carrier
  zeroᴿ = ι (pos 0)

  abbrev oneᴿ : carrier
  oneᴿ = ι (pos 1)

  add_right_cancel : (a b c : carrier) → a + c ≡ b + c → a ≡ b
  add_right_cancel a b c e = cc (add-zero a, add-neg c, add_assoc a c (- c), add_assoc b c (- c), add-zero b)

  zero-add : (a : carrier) → zeroᴿ + a ≡ a
  zero-add a = add_comm zeroᴿ a ∙ add-zero a

  one-mul : (a : carrier) → oneᴿ * a ≡ a
  one-mul a = mul_comm oneᴿ a ∙ mul-one a

  mul-add : (a b c : carrier) → a * (b + c) ≡ a * b + a * c
  mul-add a b c = cc (mul_comm a (b + c), add-mul b c a, mul_comm b a, mul_comm c a)

  zero-mul : (a : carrier) → zeroᴿ * a ≡ zeroᴿ
  zero-mul a = add_right_cancel (zeroᴿ * a) zeroᴿ (zeroᴿ * a) (cc (add-mul zeroᴿ zeroᴿ a, add-zero zeroᴿ, zero-add (zeroᴿ * a)))

  mul-zero : (a : carrier) → a * zeroᴿ ≡ zeroᴿ
  mul-zero a = mul_comm a zeroᴿ ∙ zero-mul a

  neg-eq-mul : (a : carrier) → - a ≡ ι (negsuc 0) * a
  neg-eq-mul a = add_right_cancel (- a) (ι (negsuc 0) * a) a (cc (add_comm (- a) a, add-neg a, add-mul (ι (negsuc 0)) oneᴿ a, one-mul a, ι-add (negsuc 0) (pos 1), zero-mul a))

  eq_of_sub_eq_zero : (a b : carrier) → a + - b ≡ zeroᴿ → a ≡ b
  eq_of_sub_eq_zero a b e = add_right_cancel a b (- b) (e ∙ sym (add-neg b))

  -- ---- what polynomials mean

  power : carrier → ℕ → carrier
  power x zero = oneᴿ
  power x (suc n) = x * power x n

  monomial : List ℕ → List carrier → carrier
  monomial [] ρ = oneᴿ
  monomial (i ∷ m) ρ = power (first ρ) i * monomial m (tail ρ)

  poly : Poly → List carrier → carrier
  poly nil ρ = zeroᴿ
  poly (term c m p) ρ = ι c * monomial m ρ + poly p ρ

  power-add : (x : carrier) (i j : ℕ) → power x (i +ℕ j) ≡ power x i * power x j
  unfolding power
  power-add x i zero = ap (power x) (add-zeroℕ i) ∙ sym (mul-one (power x i))
  power-add x i (suc j) = ap (power x) (add-suc i j) ∙ ap (◌*◌ x) (power-add x i j) ∙ left_comm ◌*◌ mul_assoc mul_comm x (power x i) (power x j)

  same_exponents-monomial :
      (m n : List ℕ) (ρ : List carrier) → T (same_exponents m n) → monomial m ρ ≡ monomial n ρ
  unfolding monomial
  same_exponents-monomial [] [] ρ t = refl
  same_exponents-monomial [] (j ∷ n) ρ t = absurd t
  same_exponents-monomial (i ∷ m) [] ρ t = absurd t
  same_exponents-monomial (i ∷ m) (j ∷ n) ρ t =
      let t' = and_both (eqb i j) (same_exponents m n) t in
      cc (eqb→eq i j t'.0, same_exponents-monomial m n (tail ρ) t'.1)

  add_exponents-monomial :
      (m n : List ℕ) (ρ : List carrier) → monomial (add_exponents m n) ρ ≡ monomial m ρ * monomial n ρ
  unfolding monomial
  add_exponents-monomial [] n ρ = sym (one-mul (monomial n ρ))
  add_exponents-monomial (i ∷ m) [] ρ = sym (mul-one (power (first ρ) i * monomial m (tail ρ)))
  add_exponents-monomial (i ∷ m) (j ∷ n) ρ =
      ap₂ ◌*◌ (power-add (first ρ) i j) (add_exponents-monomial m n (tail ρ))
      ∙ interchange ◌*◌ mul_assoc mul_comm (power (first ρ) i) (power (first ρ) j) (monomial m (tail ρ)) (monomial n (tail ρ))

  exponents_of_var-monomial : (i : ℕ) (ρ : List carrier) → monomial (exponents_of_var i) ρ ≡ value i ρ
  unfolding monomial power
  exponents_of_var-monomial zero ρ = mul-one (first ρ * oneᴿ) ∙ mul-one (first ρ)
  exponents_of_var-monomial (suc i) ρ = one-mul (monomial (exponents_of_var i) (tail ρ)) ∙ exponents_of_var-monomial i (tail ρ)

  -- `go` goes by the test of the exponents, of which the lemma above tells what it says when it passes.
  insert-poly :
      (c : ℤ) (m : List ℕ) (p : Poly) (ρ : List carrier) →
      poly (insert c m p) ρ ≡ ι c * monomial m ρ + poly p ρ
  unfolding poly
  insert-poly c m nil ρ = refl
  insert-poly c m (term d n p) ρ = go (same_exponents m n) (same_exponents-monomial m n ρ) (insert-poly c m p ρ)
    where
      M : carrier
      M = monomial m ρ

      N : carrier
      N = monomial n ρ

      go :
          (b : Bool) → (T b → M ≡ N) → poly (insert c m p) ρ ≡ ι c * M + poly p ρ →
          poly (elim b [ true ↦ term (c +ℤ d) n p | false ↦ term d n (insert c m p) ]) ρ ≡ ι c * M + (ι d * N + poly p ρ)
      go true e ih = cc (e tt, ι-add c d, add-mul (ι c) (ι d) N, add_assoc (ι c * N) (ι d * N) (poly p ρ))
      go false e ih = ap (◌+◌ (ι d * N)) ih ∙ left_comm ◌+◌ add_assoc add_comm (ι d * N) (ι c * M) (poly p ρ)

  sum-poly : (p q : Poly) (ρ : List carrier) → poly (sum p q) ρ ≡ poly p ρ + poly q ρ
  unfolding poly
  sum-poly nil q ρ = sym (zero-add (poly q ρ))
  sum-poly (term c m p) q ρ = cc (insert-poly c m (sum p q) ρ, sum-poly p q ρ, add_assoc (ι c * monomial m ρ) (poly p ρ) (poly q ρ))

  scale-poly :
      (c : ℤ) (m : List ℕ) (p : Poly) (ρ : List carrier) →
      poly (scale c m p) ρ ≡ ι c * monomial m ρ * poly p ρ
  unfolding poly
  scale-poly c m nil ρ = sym (mul-zero (ι c * monomial m ρ))
  scale-poly c m (term d n p) ρ = cc (ι-mul c d, add_exponents-monomial m n ρ, interchange ◌*◌ mul_assoc mul_comm (ι c) (ι d) (monomial m ρ) (monomial n ρ), scale-poly c m p ρ, mul-add (ι c * monomial m ρ) (ι d * monomial n ρ) (poly p ρ))

  product-poly : (p q : Poly) (ρ : List carrier) → poly (product p q) ρ ≡ poly p ρ * poly q ρ
  unfolding poly
  product-poly nil q ρ = sym (zero-mul (poly q ρ))
  product-poly (term c m p) q ρ = cc (sum-poly (scale c m q) (product p q) ρ, scale-poly c m q ρ, product-poly p q ρ, add-mul (ι c * monomial m ρ) (poly p ρ) (poly q ρ))

  opposite-poly : (p : Poly) (ρ : List carrier) → poly (opposite p) ρ ≡ - poly p ρ
  unfolding monomial
  opposite-poly p ρ = cc (scale-poly (negsuc 0) [] p ρ, mul-one (ι (negsuc 0)), neg-eq-mul (poly p ρ))

  normal-poly : (e : E) (ρ : List carrier) → poly (normal e) ρ ≡ ⟦ e ⟧ ρ
  unfolding poly monomial
  normal-poly (var i) ρ = add-zero (oneᴿ * monomial (exponents_of_var i) ρ) ∙ one-mul (monomial (exponents_of_var i) ρ) ∙ exponents_of_var-monomial i ρ
  normal-poly (lit z) ρ = add-zero (ι z * oneᴿ) ∙ mul-one (ι z)
  normal-poly (a ⊕ b) ρ = sum-poly (normal a) (normal b) ρ ∙ ap₂ ◌+◌ (normal-poly a ρ) (normal-poly b ρ)
  normal-poly (a ⊖ b) ρ = cc (sum-poly (normal a) (opposite (normal b)) ρ, normal-poly a ρ, opposite-poly (normal b) ρ, normal-poly b ρ)
  normal-poly (a ⊗ b) ρ = product-poly (normal a) (normal b) ρ ∙ ap₂ ◌*◌ (normal-poly a ρ) (normal-poly b ρ)
  normal-poly (neg a) ρ = opposite-poly (normal a) ρ ∙ ap -◌ (normal-poly a ρ)

  vanishes-poly : (p : Poly) (ρ : List carrier) → T (vanishes p) → poly p ρ ≡ zeroᴿ
  unfolding poly
  vanishes-poly nil ρ t = refl
  vanishes-poly (term c m p) ρ t =
      let t' = and_both (is_zero c) (vanishes p) t in
      cc (eq-zero_of_is_zero c t'.0, zero-mul (monomial m ρ), vanishes-poly p ρ t'.1, add-zero zeroᴿ)

  -- ---- the solver

  holds_of_is_identity : (e : Equation) (ρ : List carrier) → T (is_identity e) → Holds e ρ
  holds_of_is_identity (l ≐ r) ρ t = eq_of_sub_eq_zero (⟦ l ⟧ ρ) (⟦ r ⟧ ρ) (sym (normal-poly (l ⊖ r) ρ) ∙ vanishes-poly (normal (l ⊖ r)) ρ t)

  -- Where the hypotheses hold, their combination is 0.
  given_of_combination :
      (h : Hypotheses) (ρ : List carrier) (G : Type 0) → (⟦ combination h ⟧ ρ ≡ zeroᴿ → G) → Given h ρ G
  given_of_combination (k · (l ≐ r)) ρ G f = λ e. f (cc (e, add-neg (⟦ r ⟧ ρ), mul-zero (⟦ k ⟧ ρ)))
  given_of_combination (h and j) ρ G f = given_of_combination h ρ (Given j ρ G) (λ p. given_of_combination j ρ G (λ q. f (cc (p, q, add-zero zeroᴿ))))

  follows_of_is_combination : (c : Claim) (ρ : List carrier) → T (is_combination c) → Follows c ρ
  follows_of_is_combination ((l ≐ r) from h) ρ t = given_of_combination h ρ (⟦ l ⟧ ρ ≡ ⟦ r ⟧ ρ) (λ z. eq_of_sub_eq_zero (⟦ l ⟧ ρ) (⟦ r ⟧ ρ) (holds_of_is_identity (l ⊖ r ≐ combination h) ρ t ∙ z))

  pub solve : (ρ : List carrier) (f : Vars ρ Equation) → T (is_identity (at_vars ρ 0 f)) → Holds (at_vars ρ 0 f) ρ
  solve ρ f t = holds_of_is_identity (at_vars ρ 0 f) ρ t

  pub derive :
      (ρ : List carrier) (f : Vars ρ Claim) → T (is_combination (at_vars ρ 0 f)) → Follows (at_vars ρ 0 f) ρ
  derive ρ f t = follows_of_is_combination (at_vars ρ 0 f) ρ t
