-- Equations between polynomials as data, and the normal form that tests them. Nothing here knows a ring: `Ring` gives the meaning.
--     E                  expressions: `a ⊕ b`, `a ⊖ b`, `a ⊗ b`, `neg a`, `lit z`, with `𝟘` and `𝟙` for the literals 0 and 1
--     l ≐ r              an equation;  l ≐ r from k · l₁ ≐ r₁ and m · l₂ ≐ r₂, one with hypotheses and their factors
--     normal             an expression as a list of terms;  is_identity, is_combination, the tests that a call of the solver passes
-- Every function is an `abbrev`, so that a test computes where a call of the solver stands.
use mathlib.Core.Bool.{Bool, true, false, ◌&&◌}
use mathlib.Core.List.{List, [], ◌∷◌}
use Prim.Native.Nat.{ℕ, zero, suc, ◌+◌}
use lib.Dec.{eqb}
use lib.IntN.{ℤ, pos, negsuc, ◌+ℤ◌, ◌*ℤ◌}

-- ---- what a caller writes

infixl 6 ◌⊕◌ ◌⊖◌
infixl 7 ◌⊗◌
pub data E : Type 0 where
  var : ℕ → E
  lit : ℤ → E
  ◌⊕◌ : E → E → E
  ◌⊖◌ : E → E → E
  ◌⊗◌ : E → E → E
  neg : E → E

abbrev pub 𝟘 : E
𝟘 = lit (pos 0)

-- It is the factor of a hypothesis that is taken once.
abbrev pub 𝟙 : E
𝟙 = lit (pos 1)

infix 4 ◌≐◌
pub data Equation : Type 0 where
  ◌≐◌ : E → E → Equation

infix 3 ◌·◌
infixl 2 ◌and◌
pub data Hypotheses : Type 0 where
  ◌·◌ : E → Equation → Hypotheses
  ◌and◌ : Hypotheses → Hypotheses → Hypotheses

infix 1 ◌from◌
pub data Claim : Type 0 where
  ◌from◌ : Equation → Hypotheses → Claim

-- A function of as many variables as the list has values, so that a caller names them by a λ.
abbrev pub Vars : {A : Type 0} → List A → Type 0 → Type 0
Vars [] X = X
Vars (x ∷ ρ) X = E → Vars ρ X

-- That function at the variables i, i + 1 and so on.
abbrev pub at_vars : {A X : Type 0} (ρ : List A) → ℕ → Vars ρ X → X
at_vars [] i f = f
at_vars (x ∷ ρ) i f = at_vars ρ (suc i) (f (var i))

-- ---- polynomials: a list of terms, each a coefficient and the exponents of the variables

pub data Poly : Type 0 where
  nil : Poly
  term : ℤ → List ℕ → Poly → Poly

abbrev pub same_exponents : List ℕ → List ℕ → Bool
same_exponents [] [] = true
same_exponents [] (j ∷ n) = false
same_exponents (i ∷ m) [] = false
same_exponents (i ∷ m) (j ∷ n) = eqb i j && same_exponents m n

abbrev pub add_exponents : List ℕ → List ℕ → List ℕ
add_exponents [] n = n
add_exponents (i ∷ m) [] = i ∷ m
add_exponents (i ∷ m) (j ∷ n) = (i + j) ∷ add_exponents m n

abbrev pub exponents_of_var : ℕ → List ℕ
exponents_of_var zero = 1 ∷ []
exponents_of_var (suc i) = 0 ∷ exponents_of_var i

-- A new term is merged with the one that has its exponents. An `elim` computes only the case that it takes.
abbrev pub insert : ℤ → List ℕ → Poly → Poly
insert c m nil = term c m nil
insert c m (term d n p) = elim (same_exponents m n) [ true ↦ term (c +ℤ d) n p | false ↦ term d n (insert c m p) ]

abbrev pub sum : Poly → Poly → Poly
sum nil q = q
sum (term c m p) q = insert c m (sum p q)

abbrev pub scale : ℤ → List ℕ → Poly → Poly
scale c m nil = nil
scale c m (term d n p) = term (c *ℤ d) (add_exponents m n) (scale c m p)

abbrev pub product : Poly → Poly → Poly
product nil q = nil
product (term c m p) q = sum (scale c m q) (product p q)

abbrev pub opposite : Poly → Poly
opposite p = scale (negsuc 0) [] p

abbrev pub normal : E → Poly
normal (var i) = term (pos 1) (exponents_of_var i) nil
normal (lit z) = term z [] nil
normal (a ⊕ b) = sum (normal a) (normal b)
normal (a ⊖ b) = sum (normal a) (opposite (normal b))
normal (a ⊗ b) = product (normal a) (normal b)
normal (neg a) = opposite (normal a)

abbrev pub is_zero : ℤ → Bool
is_zero (pos n) = eqb n 0
is_zero (negsuc n) = false

abbrev pub vanishes : Poly → Bool
vanishes nil = true
vanishes (term c m p) = is_zero c && vanishes p

-- ---- the two tests

-- Both sides are one polynomial.
abbrev pub is_identity : Equation → Bool
is_identity (l ≐ r) = vanishes (normal (l ⊖ r))

-- The sum of the hypotheses' differences, each times its factor.
abbrev pub combination : Hypotheses → E
combination (k · (l ≐ r)) = k ⊗ (l ⊖ r)
combination (h and j) = combination h ⊕ combination j

abbrev pub is_combination : Claim → Bool
is_combination ((l ≐ r) from h) = is_identity (l ⊖ r ≐ combination h)
