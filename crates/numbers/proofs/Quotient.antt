-- The rational numbers: the pairs of specs/Pair up to equal cross products, as the library's quotient.
-- Pairs of one value are EQUAL here, so that values are rewritten and solved for. Each law of the ring is
-- an identity of whole numbers at pairs.
--     ℚ, mk, ℚSet       the numbers, the number of a pair; equations between them are propositions
--     sum, product, opposite, ι, ℚring       the operations, and the ring that `solve` and `derive` take
--     mk-add, mk-mul, mk-neg, mk-whole       an operation on pairs is the operation on their numbers
--     mk-eq, ≈_of_mk-eq       a ≈ b and mk a ≡ mk b are the same
use mathlib.Core.Path.{◌≡◌, refl, sym, ◌∙◌, ap}
use mathlib.Core.Bool.{Bool, Bool-set}
use mathlib.Core.List.{[], ◌∷◌}
use mathlib.Core.Quot.{Quot, sound, lift, Quot-set}
use lib.IntN.{ℤ}
use Rattle.numbers.proofs.Truths.{same_test}
use Rattle.numbers.proofs.Comparisons.{of_eq_p, eq_p-true}
use Rattle.numbers.specs.Pair.{Pair, whole_p, add_p, mul_p, neg_p, eq_p, ◌≈◌}
use Rattle.numbers.proofs.Integers.{Ring, ◌⊕◌, ◌⊗◌, neg, 𝟘, 𝟙, ◌≐◌, solveℤ}
use Rattle.numbers.proofs.Pairs.{parts, ≈_refl, ≈_trans, add_resp, mul_resp, neg_resp}
use Rattle.numbers.proofs.QuotientRings.{RingUpTo, quotient_ring, by_one, by_two, addᶜ, mulᶜ, negᶜ, ιᶜ}

abbrev pub ℚ : Type 0
ℚ = Quot ◌≈◌

abbrev pub mk : Pair → ℚ
mk a = Quot.mk a

pub ℚSet : IsSet ℚ
ℚSet = Quot-set

-- ---- a proposition on numbers is shown at pairs

pub by_pair : {P : ℚ → Type 0} → ((x : ℚ) → IsProp (P x)) → ((a : Pair) → P (mk a)) → (x : ℚ) → P x
by_pair = by_one ◌≈◌

pub by_pairs :
    {P : ℚ → ℚ → Type 0} → ((x y : ℚ) → IsProp (P x y)) → ((a b : Pair) → P (mk a) (mk b)) → (x y : ℚ) → P x y
by_pairs = by_two ◌≈◌

-- ---- the ring

-- each law is an identity of whole numbers
unfoldable pub pairs_up_to : RingUpTo Pair ◌≈◌
pairs_up_to = record {
  add = add_p;
  mul = mul_p;
  neg = neg_p;
  ι = whole_p;
  same = ≈_refl;
  add_resp = add_resp;
  mul_resp = mul_resp;
  neg_resp = neg_resp;
  add_assoc = λ a b c.
      solveℤ (parts (a ∷ b ∷ c ∷ []))
      (λ a d b e c f.
      ((a ⊗ e ⊕ b ⊗ d) ⊗ f ⊕ c ⊗ (d ⊗ e)) ⊗ (d ⊗ (e ⊗ f)) ≐ (a ⊗ (e ⊗ f) ⊕ (b ⊗ f ⊕ c ⊗ e) ⊗ d) ⊗ (d ⊗ e ⊗ f)) tt;
  add_comm = λ a b.
      solveℤ (parts (a ∷ b ∷ [])) (λ a d b e. (a ⊗ e ⊕ b ⊗ d) ⊗ (e ⊗ d) ≐ (b ⊗ d ⊕ a ⊗ e) ⊗ (d ⊗ e)) tt;
  add-zero = λ a. solveℤ (parts (a ∷ [])) (λ a d. (a ⊗ 𝟙 ⊕ 𝟘 ⊗ d) ⊗ d ≐ a ⊗ (d ⊗ 𝟙)) tt;
  add-neg = λ a. solveℤ (parts (a ∷ [])) (λ a d. (a ⊗ d ⊕ neg a ⊗ d) ⊗ 𝟙 ≐ 𝟘 ⊗ (d ⊗ d)) tt;
  mul_assoc = λ a b c.
      solveℤ (parts (a ∷ b ∷ c ∷ [])) (λ a d b e c f. a ⊗ b ⊗ c ⊗ (d ⊗ (e ⊗ f)) ≐ a ⊗ (b ⊗ c) ⊗ (d ⊗ e ⊗ f)) tt;
  mul_comm = λ a b. solveℤ (parts (a ∷ b ∷ [])) (λ a d b e. a ⊗ b ⊗ (e ⊗ d) ≐ b ⊗ a ⊗ (d ⊗ e)) tt;
  mul-one = λ a. solveℤ (parts (a ∷ [])) (λ a d. a ⊗ 𝟙 ⊗ d ≐ a ⊗ (d ⊗ 𝟙)) tt;
  add-mul = λ a b c.
      solveℤ (parts (a ∷ b ∷ c ∷ []))
      (λ a d b e c f.
      (a ⊗ e ⊕ b ⊗ d) ⊗ c ⊗ (d ⊗ f ⊗ (e ⊗ f)) ≐ (a ⊗ c ⊗ (e ⊗ f) ⊕ b ⊗ c ⊗ (d ⊗ f)) ⊗ (d ⊗ e ⊗ f)) tt;
  ι-add = λ x y. solveℤ (x ∷ y ∷ []) (λ x y. (x ⊕ y) ⊗ 𝟙 ≐ (x ⊗ 𝟙 ⊕ y ⊗ 𝟙) ⊗ 𝟙) tt;
  ι-mul = λ x y. refl;
}

abbrev pub ℚring : Ring
ℚring = quotient_ring pairs_up_to

abbrev pub sum : ℚ → ℚ → ℚ
sum = ℚring.add

abbrev pub product : ℚ → ℚ → ℚ
product = ℚring.mul

abbrev pub opposite : ℚ → ℚ
opposite = ℚring.neg

abbrev pub ι : ℤ → ℚ
ι = ℚring.ι

-- ---- an operation on pairs is the operation on their numbers

pub mk-add : (a b : Pair) → mk (add_p a b) ≡ sum (mk a) (mk b)
unfolding pairs_up_to addᶜ
mk-add a b = refl

pub mk-mul : (a b : Pair) → mk (mul_p a b) ≡ product (mk a) (mk b)
unfolding pairs_up_to mulᶜ
mk-mul a b = refl

pub mk-neg : (a : Pair) → mk (neg_p a) ≡ opposite (mk a)
unfolding pairs_up_to negᶜ
mk-neg a = refl

pub mk-whole : (z : ℤ) → mk (whole_p z) ≡ ι z
unfolding pairs_up_to ιᶜ
mk-whole z = refl

-- ---- equal pairs and equal numbers

pub mk-eq : (a b : Pair) → a ≈ b → mk a ≡ mk b
mk-eq a b h = sound h

-- whether a number is that of the pair a
is_of : Pair → ℚ → Bool
is_of a x =
    lift {r = ◌≈◌} Bool-set (eq_p a)
    (λ b c h.
    same_test (eq_p a b) (eq_p a c) (λ e. eq_p-true a c (≈_trans a b c (of_eq_p a b e) h))
    (λ e. eq_p-true a b (≈_trans a c b (of_eq_p a c e) (sym h)))) x

pub ≈_of_mk-eq : (a b : Pair) → mk a ≡ mk b → a ≈ b
unfolding is_of
≈_of_mk-eq a b e = of_eq_p a b (ap (is_of a) (sym e) ∙ eq_p-true a a refl)
