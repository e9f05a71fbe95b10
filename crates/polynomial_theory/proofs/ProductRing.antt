-- Sums of rational multiples of products of atoms as a ring (`product_ring`), which are the polynomials: lists of a
-- coefficient and exponents, where two lists are one polynomial if they tally the same under every value of
-- exponents (`◌~◌`). A sum is one list after the other; a product adds exponents. The numbers of the rules stand
-- for constants (`constants`), which can be divided (`constant_division`); and what a list tallies is known from
-- its polynomial (`tally-eq`), under `alone` the coefficient of one product.
use mathlib.Core.Path.{◌≡◌, refl, sym, ◌∙◌, ap, ap₂, fun_ext}
use mathlib.Core.Bool.{true, false}
use mathlib.Core.List.{List, [], ◌∷◌, ◌++◌, append_assoc}
use mathlib.Core.Quot.{mk, sound, lift}
use Prim.Native.Nat.{ℕ, ◌+◌ as ◌+ℕ◌}
use native.Mathlib.Omega.{arith}
use lib.IntN.{ℤ, pos}
use Rattle.numbers.specs.Rational.{Rational, whole, add_q, mul_q, neg_q, div_q, is_zero}
use Rattle.terms.specs.Term.{Term}
use Rattle.numbers.proofs.Ring.{Ring, ◌⊕◌, ◌⊗◌, neg, 𝟘, 𝟙, ◌≐◌, ◌·◌, ◌from◌, solve, derive}
use Rattle.numbers.proofs.Quotient.{ℚ, ℚSet, ℚring}
use Rattle.numbers.proofs.QuotientRings.{RingUpTo, quotient_ring, addᶜ, mulᶜ, negᶜ, ιᶜ}
use Rattle.alethe.proofs.Exponents.{has_atoms}
use Rattle.rules.proofs.Valuations.{Valuation, Division, numberℚ, rationals, rational_division}
open ℚring use {add as ◌+◌, mul as ◌*◌, neg as -◌, ι}

infixl 6 ◌+◌
infixl 7 ◌*◌
infix 8 -◌
abbrev pub Exponents : Type 0
Exponents = ℕ → ℕ

abbrev pub Multiples : Type 0
Multiples = List (ℚ × Exponents)

abbrev pub none : Exponents
none j = 0

abbrev pub plus : Exponents → Exponents → Exponents
plus e f j = e j +ℕ f j

-- what a list comes to if exponents have these values
unfoldable pub tally : (Exponents → ℚ) → Multiples → ℚ
tally f [] = ι (pos 0)
tally f (e ∷ m) = e.0 * f e.1 + tally f m

infix 4 ◌~◌
abbrev pub ◌~◌ : Multiples → Multiples → Type 0
m ~ n = (f : Exponents → ℚ) → tally f m ≡ tally f n

-- ---- the operations

unfoldable pub opposites : Multiples → Multiples
opposites [] = []
opposites (e ∷ m) = (- e.0, e.1) ∷ opposites m

unfoldable pub shifted : ℚ → Exponents → Multiples → Multiples
shifted q k [] = []
shifted q k (e ∷ m) = (q * e.0, plus k e.1) ∷ shifted q k m

unfoldable pub products : Multiples → Multiples → Multiples
products [] n = []
products (e ∷ m) n = shifted e.0 e.1 n ++ products m n

abbrev pub single : ℚ → Exponents → Multiples
single q k = (q, k) ∷ []

pub tally_append : (f : Exponents → ℚ) (m n : Multiples) → tally f (m ++ n) ≡ tally f m + tally f n
unfolding tally
tally_append f [] n = solve ℚring (tally f n ∷ []) (λ n. n ≐ 𝟘 ⊕ n) tt
tally_append f (e ∷ m) n =
    derive ℚring ((e.0 * f e.1) ∷ tally f (m ++ n) ∷ tally f m ∷ tally f n ∷ [])
    (λ e s m n. e ⊕ s ≐ e ⊕ m ⊕ n from 𝟙 · s ≐ m ⊕ n) tt (tally_append f m n)

pub tally-opposites : (f : Exponents → ℚ) (m : Multiples) → tally f (opposites m) ≡ - tally f m
unfolding tally opposites
tally-opposites f [] = solve ℚring [] (𝟘 ≐ neg 𝟘) tt
tally-opposites f (e ∷ m) =
    derive ℚring (e.0 ∷ f e.1 ∷ tally f (opposites m) ∷ tally f m ∷ [])
    (λ q x s m. neg q ⊗ x ⊕ s ≐ neg (q ⊗ x ⊕ m) from 𝟙 · s ≐ neg m) tt (tally-opposites f m)

tally-shifted : (f : Exponents → ℚ) (q : ℚ) (k : Exponents) (n : Multiples) →
    tally f (shifted q k n) ≡ q * tally (λ j. f (plus k j)) n
unfolding tally shifted
tally-shifted f q k [] = solve ℚring (q ∷ []) (λ q. 𝟘 ≐ q ⊗ 𝟘) tt
tally-shifted f q k (e ∷ n) =
    derive ℚring (q ∷ e.0 ∷ f (plus k e.1) ∷ tally f (shifted q k n) ∷ tally (λ j. f (plus k j)) n ∷ [])
    (λ q e x s n. q ⊗ e ⊗ x ⊕ s ≐ q ⊗ (e ⊗ x ⊕ n) from 𝟙 · s ≐ q ⊗ n) tt (tally-shifted f q k n)

pub tally-products : (f : Exponents → ℚ) (m n : Multiples) →
    tally f (products m n) ≡ tally (λ k. tally (λ j. f (plus k j)) n) m
unfolding tally products
tally-products f [] n = refl
tally-products f (e ∷ m) n =
    tally_append f (shifted e.0 e.1 n) (products m n)
    ∙ ap₂ ◌+◌ (tally-shifted f e.0 e.1 n) (tally-products f m n)

tally-zero : (n : Multiples) → ι (pos 0) ≡ tally (λ j. ι (pos 0)) n
unfolding tally
tally-zero [] = refl
tally-zero (e ∷ n) =
    derive ℚring (e.0 ∷ tally (λ j. ι (pos 0)) n ∷ []) (λ e n. 𝟘 ≐ e ⊗ 𝟘 ⊕ n from 𝟙 · 𝟘 ≐ n) tt (tally-zero n)

tally-sum : (q : ℚ) (f g : Exponents → ℚ) (n : Multiples) →
    q * tally f n + tally g n ≡ tally (λ j. q * f j + g j) n
unfolding tally
tally-sum q f g [] = solve ℚring (q ∷ []) (λ q. q ⊗ 𝟘 ⊕ 𝟘 ≐ 𝟘) tt
tally-sum q f g (e ∷ n) =
    derive ℚring
    (q ∷ e.0 ∷ f e.1 ∷ g e.1 ∷ tally f n ∷ tally g n ∷ tally (λ j. q * f j + g j) n ∷ [])
    (λ q e x y f g s. q ⊗ (e ⊗ x ⊕ f) ⊕ (e ⊗ y ⊕ g) ≐ e ⊗ (q ⊗ x ⊕ y) ⊕ s from 𝟙 · q ⊗ f ⊕ g ≐ s) tt
    (tally-sum q f g n)

-- sums in either order
pub tally_swap : (f : Exponents → Exponents → ℚ) (m n : Multiples) →
    tally (λ k. tally (f k) n) m ≡ tally (λ j. tally (λ k. f k j) m) n
unfolding tally
tally_swap f [] n = tally-zero n
tally_swap f (e ∷ m) n =
    ap (λ (x : ℚ). e.0 * tally (f e.1) n + x) (tally_swap f m n)
    ∙ tally-sum e.0 (f e.1) (λ j. tally (λ k. f k j) m) n

-- ---- the ring

unfoldable pub up_to : RingUpTo Multiples ◌~◌
unfolding tally products shifted
up_to = record {
  add = ◌++◌;
  mul = products;
  neg = opposites;
  ι = λ z. single (ι z) none;
  same = λ a f. refl;
  add_resp = λ a a' b b' p q f. tally_append f a b ∙ ap₂ ◌+◌ (p f) (q f) ∙ sym (tally_append f a' b');
  mul_resp = λ a a' b b' p q f.
      tally-products f a b ∙ p (λ k. tally (λ j. f (plus k j)) b)
      ∙ ap (λ (g : Exponents → ℚ). tally g a') (fun_ext λ k. q (λ j. f (plus k j))) ∙ sym (tally-products f a' b');
  neg_resp = λ a a' p f. tally-opposites f a ∙ ap -◌ (p f) ∙ sym (tally-opposites f a');
  add_assoc = λ a b c f. ap (tally f) (append_assoc a b c);
  add_comm = λ a b f. tally_append f a b ∙ ℚring.add_comm (tally f a) (tally f b) ∙ sym (tally_append f b a);
  add-zero = λ a f.
      tally_append f a (single (ι (pos 0)) none)
      ∙ solve ℚring (tally f a ∷ f none ∷ []) (λ a x. a ⊕ (𝟘 ⊗ x ⊕ 𝟘) ≐ a) tt;
  add-neg = λ a f.
      tally_append f a (opposites a) ∙ ap (◌+◌ (tally f a)) (tally-opposites f a)
      ∙ solve ℚring (tally f a ∷ f none ∷ []) (λ a x. a ⊕ neg a ≐ 𝟘 ⊗ x ⊕ 𝟘) tt;
  mul_assoc = λ a b c f.
      tally-products f (products a b) c ∙ tally-products (λ k. tally (λ j. f (plus k j)) c) a b
      ∙ ap (λ (g : Exponents → ℚ). tally g a)
      (fun_ext λ i.
      ap (λ (g : Exponents → ℚ). tally g b)
      (fun_ext λ j. ap (λ (g : Exponents → ℚ). tally g c) (fun_ext λ k. ap f (fun_ext λ x. omega arith)))
      ∙ sym (tally-products (λ j. f (plus i j)) b c))
      ∙ sym (tally-products f a (products b c));
  mul_comm = λ a b f.
      tally-products f a b ∙ tally_swap (λ k j. f (plus k j)) a b
      ∙ ap (λ (g : Exponents → ℚ). tally g b)
      (fun_ext λ j. ap (λ (g : Exponents → ℚ). tally g a) (fun_ext λ k. ap f (fun_ext λ x. omega arith)))
      ∙ sym (tally-products f b a);
  mul-one = λ a f.
      tally-products f a (single (ι (pos 1)) none)
      ∙ ap (λ (g : Exponents → ℚ). tally g a)
      (fun_ext λ k.
      solve ℚring (f (plus k none) ∷ []) (λ x. 𝟙 ⊗ x ⊕ 𝟘 ≐ x) tt ∙ ap f (fun_ext λ x. omega arith));
  add-mul = λ a b c f.
      tally-products f (a ++ b) c ∙ tally_append (λ k. tally (λ j. f (plus k j)) c) a b
      ∙ ap₂ ◌+◌ (sym (tally-products f a c)) (sym (tally-products f b c))
      ∙ sym (tally_append f (products a c) (products b c));
  ι-add = λ x y f.
      ap (λ (q : ℚ). q * f none + ι (pos 0)) (ℚring.ι-add x y)
      ∙ solve ℚring (ι x ∷ ι y ∷ f none ∷ []) (λ x y z. (x ⊕ y) ⊗ z ⊕ 𝟘 ≐ x ⊗ z ⊕ (y ⊗ z ⊕ 𝟘)) tt;
  ι-mul = λ x y f. ap (λ (q : ℚ). q * f none + ι (pos 0)) (ℚring.ι-mul x y);
}

abbrev pub product_ring : Ring
product_ring = quotient_ring up_to

abbrev pub polynomial : Multiples → product_ring.carrier
polynomial m = mk m

pub polynomial_append : (m n : Multiples) → polynomial (m ++ n) ≡ product_ring.add (polynomial m) (polynomial n)
unfolding up_to addᶜ
polynomial_append m n = refl

pub polynomial-product : (m n : Multiples) →
    polynomial (products m n) ≡ product_ring.mul (polynomial m) (polynomial n)
unfolding up_to mulᶜ
polynomial-product m n = refl

pub polynomial-whole : (z : ℤ) → polynomial (single (ι z) none) ≡ product_ring.ι z
unfolding up_to ιᶜ
polynomial-whole z = refl

-- ---- what a polynomial tells

tallied : (Exponents → ℚ) → product_ring.carrier → ℚ
tallied f x = lift {r = ◌~◌} ℚSet (tally f) (λ a b h. h f) x

pub tally-eq : {m n : Multiples} → polynomial m ≡ polynomial n → m ~ n
unfolding tallied
tally-eq e f = ap (tallied f) e

-- 1 at the exponents of these atoms, 0 at all others
abbrev pub alone : List Term → Exponents → ℚ
alone ts e = elim (has_atoms ts e) as (λ b. ℚ) [ true ↦ ι (pos 1) | false ↦ ι (pos 0) ]

-- ---- numbers are constants

abbrev pub constant : Rational → product_ring.carrier
constant q = polynomial (single (numberℚ q) none)

pub constant-add : (a b : Rational) → rationals.Good a → rationals.Good b →
    constant (add_q a b) ≡ product_ring.add (constant a) (constant b)
unfolding up_to addᶜ tally
constant-add a b ga gb =
    sound λ f.
    ap (λ (q : ℚ). q * f none + ι (pos 0)) (rationals.number-add a b ga gb)
    ∙ solve ℚring (numberℚ a ∷ numberℚ b ∷ f none ∷ []) (λ x y z. (x ⊕ y) ⊗ z ⊕ 𝟘 ≐ x ⊗ z ⊕ (y ⊗ z ⊕ 𝟘)) tt

pub constant-mul : (a b : Rational) → rationals.Good a → rationals.Good b →
    constant (mul_q a b) ≡ product_ring.mul (constant a) (constant b)
unfolding up_to mulᶜ products shifted
constant-mul a b ga gb = ap (λ (q : ℚ). polynomial (single q none)) (rationals.number-mul a b ga gb)

pub constant-neg : (a : Rational) → rationals.Good a → constant (neg_q a) ≡ product_ring.neg (constant a)
unfolding up_to negᶜ opposites
constant-neg a ga = ap (λ (q : ℚ). polynomial (single q none)) (rationals.number-neg a ga)

pub constant-whole : (z : ℤ) → constant (whole z) ≡ product_ring.ι z
constant-whole z = ap (λ (q : ℚ). polynomial (single q none)) (rationals.number-whole z) ∙ polynomial-whole z

pub constant-zero : (a : Rational) → rationals.Good a → is_zero a ≡ true → constant a ≡ product_ring.ι (pos 0)
constant-zero a ga e =
    ap (λ (q : ℚ). polynomial (single q none)) (rationals.number-zero a ga e) ∙ polynomial-whole (pos 0)

abbrev pub constants : Valuation product_ring
constants = record {
  number = constant;
  Good = rationals.Good;
  good-add = rationals.good-add;
  good-mul = rationals.good-mul;
  good-neg = rationals.good-neg;
  good-whole = rationals.good-whole;
  number-add = constant-add;
  number-mul = constant-mul;
  number-neg = constant-neg;
  number-whole = constant-whole;
  number-zero = constant-zero;
}

constant-div : (a b : Rational) → rationals.Good a → rationals.Good b → is_zero b ≡ false →
    product_ring.mul (constant (div_q a b)) (constant b) ≡ constant a
unfolding up_to mulᶜ products shifted
constant-div a b ga gb z = ap (λ (q : ℚ). polynomial (single q none)) (rational_division.number-div a b ga gb z)

pub constant_division : Division constants
constant_division = record { good-div = rational_division.good-div; number-div = constant-div }
