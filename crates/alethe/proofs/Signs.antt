-- How a rational number compares with 0, as two tests, and the laws of these tests. They are the order of
-- pairs at 0, which respects equality, so they are tests on the quotient; each law is one of pairs.
--     Nonneg, Positive       x ≥ 0 and x > 0
--     nonneg-add, positive-add, nonneg-mul, positive-mul       sums and products
--     nonneg_antisymm, nonneg_of_positive, positive_of_nonneg, positive_of_not-nonneg       one and the other
--     at_most, below       the order of pairs is the sign of their difference
use mathlib.Core.Path.{◌≡◌, refl, sym, ◌∙◌, ap, subst}
use mathlib.Core.HLevel.{Π_prop}
use mathlib.Core.Bool.{Bool, true, false, Bool-set}
use mathlib.Core.List.{[], ◌∷◌}
use mathlib.Core.Logic.{⊎_elim}
use mathlib.Core.Quot.{lift}
use lib.Dec.{T, T_prop}
use lib.IntN.{ℤ, pos}
use lib.Signed.{le_z, lt_z, le_z_yes, lt_z_yes}
use Rattle.numbers.specs.Pair.{Pair, whole_p, add_p, mul_p, neg_p, less_p, less_eq_p, ◌≈◌, ◌≤P◌, ◌<P◌}
use Rattle.numbers.proofs.Integers.{*ℤ_idr, solveℤ}
use Rattle.numbers.proofs.Ring.{◌⊕◌, ◌⊗◌, neg, 𝟘, 𝟙, ◌≐◌, solve}
use Rattle.numbers.proofs.Pairs.{parts, ≤P_resp, <P_resp, ≤P_of_≈, ≤P_of_<P, ≤P_or_<P, ≤P_antisymm, add-le-add_p}
use Rattle.numbers.proofs.Pairs.{add_lt_add_p, neg-le-neg_p, mul-le-mul_p, mul_lt_mul_p}
use Rattle.numbers.proofs.Quotient.{ℚ, mk, ℚSet, ℚring, by_pair, by_pairs, sum, product, opposite, ι, mk-eq, mk-add}
use Rattle.numbers.proofs.Quotient.{mk-mul, mk-neg, mk-whole}

abbrev zero_p : Pair
zero_p = whole_p (pos 0)

-- two tests that say the same are one
same_test : (s t : Bool) → (T s → T t) → (T t → T s) → s ≡ t
same_test true true f g = refl
same_test true false f g = absurd (f tt)
same_test false true f g = absurd (g tt)
same_test false false f g = refl

pub is_nonneg : ℚ → Bool
is_nonneg x =
    lift {r = ◌≈◌} Bool-set (less_eq_p zero_p)
    (λ a b h.
    same_test _ _ (λ t. (≤P_resp zero_p zero_p a b refl h (le_z_yes t)).le)
    (λ t. (≤P_resp zero_p zero_p b a refl (sym h) (le_z_yes t)).le)) x

pub is_positive : ℚ → Bool
is_positive x =
    lift {r = ◌≈◌} Bool-set (less_p zero_p)
    (λ a b h.
    same_test _ _ (λ t. (<P_resp zero_p zero_p a b refl h (lt_z_yes t)).lt)
    (λ t. (<P_resp zero_p zero_p b a refl (sym h) (lt_z_yes t)).lt)) x

abbrev pub Nonneg : ℚ → Type 0
Nonneg x = T (is_nonneg x)

abbrev pub Positive : ℚ → Type 0
Positive x = T (is_positive x)

pub nonneg-as : {x y : ℚ} → x ≡ y → Nonneg x → Nonneg y
nonneg-as e h = subst (λ (z : ℚ). T (is_nonneg z)) e h

pub positive-as : {x y : ℚ} → x ≡ y → Positive x → Positive y
positive-as e h = subst (λ (z : ℚ). T (is_positive z)) e h

-- ---- at pairs

pub nonneg-mk : (a : Pair) → zero_p ≤P a → Nonneg (mk a)
unfolding is_nonneg
nonneg-mk a h = h.le

pub positive-mk : (a : Pair) → zero_p <P a → Positive (mk a)
unfolding is_positive
positive-mk a h = h.lt

pub le_of_nonneg : (a : Pair) → Nonneg (mk a) → zero_p ≤P a
unfolding is_nonneg
le_of_nonneg a h = le_z_yes h

pub lt_of_positive : (a : Pair) → Positive (mk a) → zero_p <P a
unfolding is_positive
lt_of_positive a h = lt_z_yes h

pub nonneg_is : (a : Pair) → is_nonneg (mk a) ≡ less_eq_p zero_p a
unfolding is_nonneg
nonneg_is a = refl

pub positive_is : (a : Pair) → is_positive (mk a) ≡ less_p zero_p a
unfolding is_positive
positive_is a = refl

pub nonneg-whole : (z : ℤ) → is_nonneg (ι z) ≡ le_z (pos 0) z
nonneg-whole z = ap is_nonneg (sym (mk-whole z)) ∙ nonneg_is (whole_p z) ∙ ap (le_z (pos 0)) (*ℤ_idr z)

pub positive-whole : (z : ℤ) → is_positive (ι z) ≡ lt_z (pos 0) z
positive-whole z = ap is_positive (sym (mk-whole z)) ∙ positive_is (whole_p z) ∙ ap (lt_z (pos 0)) (*ℤ_idr z)

-- ---- sums and products

zero-times : (a : Pair) → mul_p zero_p a ≈ zero_p
zero-times a = solveℤ (parts (a ∷ [])) (λ a d. 𝟘 ⊗ a ⊗ 𝟙 ≐ 𝟘 ⊗ (𝟙 ⊗ d)) tt

less_self : (a : Pair) → add_p a (neg_p a) ≈ zero_p
less_self a = solveℤ (parts (a ∷ [])) (λ a d. (a ⊗ d ⊕ neg a ⊗ d) ⊗ 𝟙 ≐ 𝟘 ⊗ (d ⊗ d)) tt

pub nonneg-add : (x y : ℚ) → Nonneg x → Nonneg y → Nonneg (sum x y)
nonneg-add =
    by_pairs (λ x y. Π_prop λ h. Π_prop λ k. T_prop (is_nonneg (sum x y))) λ a b h k.
    nonneg-as (mk-add a b)
    (nonneg-mk (add_p a b) (add-le-add_p zero_p a zero_p b (le_of_nonneg a h) (le_of_nonneg b k)))

pub positive-add : (x y : ℚ) → Positive x → Nonneg y → Positive (sum x y)
positive-add =
    by_pairs (λ x y. Π_prop λ h. Π_prop λ k. T_prop (is_positive (sum x y))) λ a b h k.
    positive-as (mk-add a b)
    (positive-mk (add_p a b) (add_lt_add_p zero_p a zero_p b (lt_of_positive a h) (le_of_nonneg b k)))

pub nonneg-mul : (x y : ℚ) → Nonneg x → Nonneg y → Nonneg (product x y)
nonneg-mul =
    by_pairs (λ x y. Π_prop λ h. Π_prop λ k. T_prop (is_nonneg (product x y))) λ a b h k.
    nonneg-as (mk-mul a b)
    (nonneg-mk (mul_p a b)
    (≤P_resp (mul_p zero_p b) zero_p (mul_p a b) (mul_p a b) (zero-times b) refl
    (mul-le-mul_p zero_p a b (le_of_nonneg a h) (le_of_nonneg b k))))

pub positive-mul : (x y : ℚ) → Positive x → Positive y → Positive (product x y)
positive-mul =
    by_pairs (λ x y. Π_prop λ h. Π_prop λ k. T_prop (is_positive (product x y))) λ a b h k.
    positive-as (mk-mul a b)
    (positive-mk (mul_p a b)
    (<P_resp (mul_p zero_p b) zero_p (mul_p a b) (mul_p a b) (zero-times b) refl
    (mul_lt_mul_p zero_p a b (lt_of_positive a h) (lt_of_positive b k))))

-- ---- one with the other

pub nonneg_of_positive : (x : ℚ) → Positive x → Nonneg x
nonneg_of_positive =
    by_pair (λ x. Π_prop λ h. T_prop (is_nonneg x)) λ a h.
    nonneg-mk a (≤P_of_<P zero_p a (lt_of_positive a h))

pub nonneg_of_zero : (x : ℚ) → x ≡ ι (pos 0) → Nonneg x
nonneg_of_zero x e = nonneg-as (sym e) (subst T (sym (nonneg-whole (pos 0))) tt)

pub zero-not-positive : Positive (ι (pos 0)) → ⊥
zero-not-positive h = subst T (positive-whole (pos 0)) h

-- a number that is not 0 or more has a positive opposite
pub positive_of_not-nonneg : (x : ℚ) → (Nonneg x → ⊥) → Positive (opposite x)
positive_of_not-nonneg =
    by_pair (λ x. Π_prop λ h. T_prop (is_positive (opposite x))) λ a h.
    positive-as (mk-neg a)
    (positive-mk (neg_p a)
    (⊎_elim (λ k. absurd (h (nonneg-mk a k)))
    (λ k.
    <P_resp (add_p a (neg_p a)) zero_p (add_p zero_p (neg_p a)) (neg_p a) (less_self a)
    (solveℤ (parts (a ∷ [])) (λ a d. (𝟘 ⊗ d ⊕ neg a ⊗ 𝟙) ⊗ d ≐ neg a ⊗ (𝟙 ⊗ d)) tt)
    (add_lt_add_p a zero_p (neg_p a) (neg_p a) k (≤P_of_≈ (neg_p a) (neg_p a) refl)))
    (≤P_or_<P zero_p a)))

-- x ≥ 0 and -x ≥ 0 only at 0
pub nonneg_antisymm : (x : ℚ) → Nonneg x → Nonneg (opposite x) → x ≡ ι (pos 0)
nonneg_antisymm =
    by_pair (λ x. Π_prop λ h. Π_prop λ k. ℚSet _ _) λ a h k.
    mk-eq a zero_p
    (≤P_antisymm a zero_p
    (≤P_resp (neg_p (neg_p a)) a (neg_p zero_p) zero_p
    (solveℤ (parts (a ∷ [])) (λ a d. neg (neg a) ⊗ d ≐ a ⊗ d) tt) refl
    (neg-le-neg_p zero_p (neg_p a) (le_of_nonneg (neg_p a) (nonneg-as (sym (mk-neg a)) k))))
    (le_of_nonneg a h))
    ∙ mk-whole (pos 0)

-- both are impossible
pub positive-not-nonneg : (x : ℚ) → Positive x → Nonneg (opposite x) → ⊥
positive-not-nonneg x h k =
    zero-not-positive
    (positive-as (solve ℚring (x ∷ []) (λ x. x ⊕ neg x ≐ 𝟘) tt) (positive-add x (opposite x) h k))

pub positive_of_nonneg : (x : ℚ) → Nonneg x → (x ≡ ι (pos 0) → ⊥) → Positive x
positive_of_nonneg x h n =
    positive-as (solve ℚring (x ∷ []) (λ x. neg (neg x) ≐ x) tt)
    (positive_of_not-nonneg (opposite x) (λ k. n (nonneg_antisymm x h k)))

-- ---- the order of pairs

infixl 6 ◌less◌
abbrev pub ◌less◌ : ℚ → ℚ → ℚ
x less y = sum x (opposite y)

pub mk-less : (a b : Pair) → mk (add_p a (neg_p b)) ≡ mk a less mk b
mk-less a b = mk-add a (neg_p b) ∙ ap (sum (mk a)) (mk-neg b)

module _ (a b : Pair) where
  pub at_most : T (less_eq_p a b) → Nonneg (mk b less mk a)
  at_most h =
      nonneg-as (mk-less b a)
      (nonneg-mk (add_p b (neg_p a))
      (≤P_resp (add_p a (neg_p a)) zero_p (add_p b (neg_p a)) (add_p b (neg_p a))
      (less_self a) refl
      (add-le-add_p a b (neg_p a) (neg_p a) (le_z_yes h) (≤P_of_≈ (neg_p a) (neg_p a) refl))))

  pub below : T (less_p a b) → Positive (mk b less mk a)
  below h =
      positive-as (mk-less b a)
      (positive-mk (add_p b (neg_p a))
      (<P_resp (add_p a (neg_p a)) zero_p (add_p b (neg_p a)) (add_p b (neg_p a))
      (less_self a) refl
      (add_lt_add_p a b (neg_p a) (neg_p a) (lt_z_yes h) (≤P_of_≈ (neg_p a) (neg_p a) refl))))
