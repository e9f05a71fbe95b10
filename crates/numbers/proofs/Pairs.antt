-- Laws of specs/Pair: a whole number over a positive one. Equality by cross products is an equivalence; the operations and
-- the order respect it; the order is total, and goes with sums, with negation, and with products by numbers that are not
-- negative.
--     ≈_trans, add_resp, mul_resp, neg_resp, mul_inv       equality, and the operations on equal pairs
--     ≤P_trans, ≤P_antisymm, ≤P_or_<P, ≤P_resp, <P_resp       the order
--     add-le-add_p, add_lt_add_p, neg-le-neg_p, mul-le-mul_p, mul_lt_mul_p       the order with the operations
-- Each order is proved by its difference: a ≤ b where b - a, or a positive multiple of it, is a sum of products of numbers
-- that are not negative. That the two are equal is one identity.
use mathlib.Core.Path.{◌≡◌, refl, sym, subst, subst₂}
use mathlib.Core.Logic.{◌⊎◌}
use mathlib.Core.List.{List, [], ◌∷◌}
use Prim.Native.Nat.{ℕ, zero, suc, ◌*◌, ◌<◌}
use native.Mathlib.Nat.{not-suc-le-zero}
use lib.Dec.{lt→ltb}
use lib.IntN.{ℤ, pos, negsuc, nat_abs, ◌+ℤ◌, ◌-ℤ◌, ◌*ℤ◌, zero-*ℤ}
use lib.Signed.{◌≤ℤ◌, ◌<ℤ◌, lt_z_yes}
use Rattle.numbers.specs.Pair.{Pair, whole_p, add_p, mul_p, neg_p, inv_p, flipped, ◌≈◌, ◌≤P◌, ◌<P◌}
use Rattle.numbers.proofs.Integers.{◌⊕◌, ◌⊖◌, ◌⊗◌, neg, 𝟙, ◌≐◌, ◌·◌, ◌and◌, ◌from◌, solveℤ, deriveℤ}
use Rattle.numbers.proofs.Integers.{*ℤ_right_cancel, *ℤ_idr}
use Rattle.numbers.proofs.Order.{le_refl, le_of_lt, le_or_lt, le_antisymm, sub-nonneg_of_le, le_of_sub-nonneg}
use Rattle.numbers.proofs.Order.{le_of_sub-eq, sub-pos_of_lt, lt_of_sub-pos, pos-nonneg, add-nonneg, mul-nonneg}
use Rattle.numbers.proofs.Order.{mul-pos, add-pos_of_pos_of_nonneg, add-pos_of_nonneg_of_pos}
use Rattle.numbers.proofs.Order.{le_of_mul_le_mul_right, lt_of_mul_lt_mul_right}

-- the variables of an identity over pairs: numerator and denominator of each
abbrev pub parts : List Pair → List ℤ
parts [] = []
parts (a ∷ l) = a.num ∷ pos a.den ∷ parts l

pub den_pos : (a : Pair) → pos 0 <ℤ pos a.den
den_pos a = lt_z_yes (lt→ltb 0 a.den a.positive)

den-nonneg : (a : Pair) → pos 0 ≤ℤ pos a.den
den-nonneg a = pos-nonneg a.den

-- ---- equality

pub ≈_refl : (a : Pair) → a ≈ a
≈_refl a = refl

pub ≈_sym : (a b : Pair) → a ≈ b → b ≈ a
≈_sym a b = sym

pub ≈_trans : (a b c : Pair) → a ≈ b → b ≈ c → a ≈ c
≈_trans a b c h k =
    *ℤ_right_cancel (a.num *ℤ pos c.den) (c.num *ℤ pos a.den) (pos b.den) b.positive
    (deriveℤ (parts (a ∷ b ∷ c ∷ []))
    (λ a d b e c f. a ⊗ f ⊗ e ≐ c ⊗ d ⊗ e from f · a ⊗ e ≐ b ⊗ d and d · b ⊗ f ≐ c ⊗ e) tt h k)

-- ---- the operations respect it

pub add_resp : (a a' b b' : Pair) → a ≈ a' → b ≈ b' → add_p a b ≈ add_p a' b'
add_resp a a' b b' h k =
    deriveℤ (parts (a ∷ a' ∷ b ∷ b' ∷ []))
    (λ a d a' d' b e b' e'.
    (a ⊗ e ⊕ b ⊗ d) ⊗ (d' ⊗ e') ≐ (a' ⊗ e' ⊕ b' ⊗ d') ⊗ (d ⊗ e) from e ⊗ e' · a ⊗ d' ≐ a' ⊗ d and d ⊗ d' · b ⊗ e' ≐ b' ⊗ e) tt h k

pub mul_resp : (a a' b b' : Pair) → a ≈ a' → b ≈ b' → mul_p a b ≈ mul_p a' b'
mul_resp a a' b b' h k =
    deriveℤ (parts (a ∷ a' ∷ b ∷ b' ∷ []))
    (λ a d a' d' b e b' e'.
    a ⊗ b ⊗ (d' ⊗ e') ≐ a' ⊗ b' ⊗ (d ⊗ e) from b ⊗ e' · a ⊗ d' ≐ a' ⊗ d and a' ⊗ d · b ⊗ e' ≐ b' ⊗ e) tt h k

pub neg_resp : (a a' : Pair) → a ≈ a' → neg_p a ≈ neg_p a'
neg_resp a a' h =
    deriveℤ (parts (a ∷ a' ∷ [])) (λ a d a' d'. neg a ⊗ d' ≐ neg a' ⊗ d from neg 𝟙 · a ⊗ d' ≐ a' ⊗ d) tt h

-- a number that is not 0, times its inverse, is 1
pub mul_inv : (a : Pair) → 0 < nat_abs a.num → mul_p a (inv_p a) ≈ whole_p (pos 1)
mul_inv a p = at a.num a.den p
  where
    at :
        (n : ℤ) (d : ℕ) → 0 < nat_abs n →
        n *ℤ (flipped n d).num *ℤ pos 1 ≡ pos 1 *ℤ (pos d *ℤ pos (flipped n d).den)
    at (pos zero) d p = absurd (not-suc-le-zero p)
    at (pos (suc n)) d p = solveℤ (pos (suc n) ∷ pos d ∷ []) (λ n d. n ⊗ d ⊗ 𝟙 ≐ 𝟙 ⊗ (d ⊗ n)) tt
    at (negsuc n) d p = solveℤ (pos (suc n) ∷ pos d ∷ []) (λ n d. neg n ⊗ neg d ⊗ 𝟙 ≐ 𝟙 ⊗ (d ⊗ n)) tt

-- ---- an order by a multiple of a difference

module _ {a b s : ℤ} (m : ℤ) (hm : pos 0 <ℤ m) where
  le_of_multiple : pos 0 ≤ℤ s → (b -ℤ a) *ℤ m ≡ s → a ≤ℤ b
  le_of_multiple h e = le_of_sub-nonneg (le_of_mul_le_mul_right (subst₂ ◌≤ℤ◌ (sym (zero-*ℤ m)) (sym e) h) hm)

  lt_of_multiple : pos 0 <ℤ s → (b -ℤ a) *ℤ m ≡ s → a <ℤ b
  lt_of_multiple h e = lt_of_sub-pos (lt_of_mul_lt_mul_right (subst₂ ◌<ℤ◌ (sym (zero-*ℤ m)) (sym e) h) (le_of_lt hm))

-- ---- the order

pub ≤P_of_≈ : (a b : Pair) → a ≈ b → a ≤P b
≤P_of_≈ a b h = subst (λ (z : ℤ). (a.num *ℤ pos b.den) ≤ℤ z) h (le_refl (a.num *ℤ pos b.den))

pub ≤P_of_<P : (a b : Pair) → a <P b → a ≤P b
≤P_of_<P a b h = le_of_lt h

pub ≤P_or_<P : (a b : Pair) → (a ≤P b) ⊎ (b <P a)
≤P_or_<P a b = le_or_lt (a.num *ℤ pos b.den) (b.num *ℤ pos a.den)

pub ≤P_antisymm : (a b : Pair) → a ≤P b → b ≤P a → a ≈ b
≤P_antisymm a b h k = le_antisymm h k

-- the identity of every chain of two: times the middle denominator, the difference is the sum of the two
chain :
    (a b c : Pair) →
    (c.num *ℤ pos a.den -ℤ a.num *ℤ pos c.den) *ℤ pos b.den ≡ pos c.den *ℤ (b.num *ℤ pos a.den -ℤ a.num *ℤ pos b.den) +ℤ pos a.den *ℤ (c.num *ℤ pos b.den -ℤ b.num *ℤ pos c.den)
chain a b c =
    solveℤ (parts (a ∷ b ∷ c ∷ []))
    (λ a d b e c f. (c ⊗ d ⊖ a ⊗ f) ⊗ e ≐ f ⊗ (b ⊗ d ⊖ a ⊗ e) ⊕ d ⊗ (c ⊗ e ⊖ b ⊗ f)) tt

pub ≤P_trans : (a b c : Pair) → a ≤P b → b ≤P c → a ≤P c
≤P_trans a b c h k =
    le_of_multiple (pos b.den) (den_pos b)
    (add-nonneg (mul-nonneg (den-nonneg c) (sub-nonneg_of_le h)) (mul-nonneg (den-nonneg a) (sub-nonneg_of_le k))) (chain a b c)

pub <P_of_<P_of_≤P : (a b c : Pair) → a <P b → b ≤P c → a <P c
<P_of_<P_of_≤P a b c h k =
    lt_of_multiple (pos b.den) (den_pos b)
    (add-pos_of_pos_of_nonneg (mul-pos (den_pos c) (sub-pos_of_lt h)) (mul-nonneg (den-nonneg a) (sub-nonneg_of_le k))) (chain a b c)

pub <P_of_≤P_of_<P : (a b c : Pair) → a ≤P b → b <P c → a <P c
<P_of_≤P_of_<P a b c h k =
    lt_of_multiple (pos b.den) (den_pos b)
    (add-pos_of_nonneg_of_pos (mul-nonneg (den-nonneg c) (sub-nonneg_of_le h)) (mul-pos (den_pos a) (sub-pos_of_lt k))) (chain a b c)

-- ---- the order respects equality

pub ≤P_resp : (a a' b b' : Pair) → a ≈ a' → b ≈ b' → a ≤P b → a' ≤P b'
≤P_resp a a' b b' h k l = ≤P_trans a' a b' (≤P_of_≈ a' a (sym h)) (≤P_trans a b b' l (≤P_of_≈ b b' k))

pub <P_resp : (a a' b b' : Pair) → a ≈ a' → b ≈ b' → a <P b → a' <P b'
<P_resp a a' b b' h k l = <P_of_≤P_of_<P a' a b' (≤P_of_≈ a' a (sym h)) (<P_of_<P_of_≤P a b b' l (≤P_of_≈ b b' k))

-- ---- the order with sums, negation and products

-- a + c and b + d differ as a and b do, and as c and d do
sum-gap :
    (a b c d : Pair) →
    (add_p b d).num *ℤ pos (add_p a c).den -ℤ (add_p a c).num *ℤ pos (add_p b d).den ≡ pos (c.den * d.den) *ℤ (b.num *ℤ pos a.den -ℤ a.num *ℤ pos b.den) +ℤ pos (a.den * b.den) *ℤ (d.num *ℤ pos c.den -ℤ c.num *ℤ pos d.den)
sum-gap a b c d =
    solveℤ (parts (a ∷ b ∷ c ∷ d ∷ []))
    (λ a a' b b' c c' d d'.
    (b ⊗ d' ⊕ d ⊗ b') ⊗ (a' ⊗ c') ⊖ (a ⊗ c' ⊕ c ⊗ a') ⊗ (b' ⊗ d') ≐ c' ⊗ d' ⊗ (b ⊗ a' ⊖ a ⊗ b') ⊕ a' ⊗ b' ⊗ (d ⊗ c' ⊖ c ⊗ d')) tt

pub add-le-add_p : (a b c d : Pair) → a ≤P b → c ≤P d → add_p a c ≤P add_p b d
add-le-add_p a b c d h k =
    le_of_sub-eq (add-nonneg (mul-nonneg (pos-nonneg _) (sub-nonneg_of_le h)) (mul-nonneg (pos-nonneg _) (sub-nonneg_of_le k)))
    (sum-gap a b c d)

pub add_lt_add_p : (a b c d : Pair) → a <P b → c ≤P d → add_p a c <P add_p b d
add_lt_add_p a b c d h k =
    lt_of_sub-pos
    (subst (λ (z : ℤ). pos 0 <ℤ z) (sym (sum-gap a b c d))
    (add-pos_of_pos_of_nonneg (mul-pos (mul-pos (den_pos c) (den_pos d)) (sub-pos_of_lt h)) (mul-nonneg (pos-nonneg _) (sub-nonneg_of_le k))))

pub neg-le-neg_p : (a b : Pair) → a ≤P b → neg_p b ≤P neg_p a
neg-le-neg_p a b h =
    le_of_sub-eq (sub-nonneg_of_le h) (solveℤ (parts (a ∷ b ∷ [])) (λ a a' b b'. neg a ⊗ b' ⊖ neg b ⊗ a' ≐ b ⊗ a' ⊖ a ⊗ b') tt)

-- how a number compares with 0 is how its numerator does
at_zero : (R : ℤ → ℤ → Type 0) (c : Pair) → R (pos 0 *ℤ pos c.den) (c.num *ℤ pos 1) → R (pos 0) c.num
at_zero R c h = subst₂ R (zero-*ℤ (pos c.den)) (*ℤ_idr c.num) h

product-gap :
    (a b c : Pair) →
    (mul_p b c).num *ℤ pos (mul_p a c).den -ℤ (mul_p a c).num *ℤ pos (mul_p b c).den ≡ c.num *ℤ pos c.den *ℤ (b.num *ℤ pos a.den -ℤ a.num *ℤ pos b.den)
product-gap a b c =
    solveℤ (parts (a ∷ b ∷ c ∷ []))
    (λ a a' b b' c c'. b ⊗ c ⊗ (a' ⊗ c') ⊖ a ⊗ c ⊗ (b' ⊗ c') ≐ c ⊗ c' ⊗ (b ⊗ a' ⊖ a ⊗ b')) tt

pub mul-le-mul_p : (a b c : Pair) → a ≤P b → whole_p (pos 0) ≤P c → mul_p a c ≤P mul_p b c
mul-le-mul_p a b c h k =
    le_of_sub-eq (mul-nonneg (mul-nonneg (at_zero ◌≤ℤ◌ c k) (den-nonneg c)) (sub-nonneg_of_le h)) (product-gap a b c)

pub mul_lt_mul_p : (a b c : Pair) → a <P b → whole_p (pos 0) <P c → mul_p a c <P mul_p b c
mul_lt_mul_p a b c h k =
    lt_of_sub-pos
    (subst (λ (z : ℤ). pos 0 <ℤ z) (sym (product-gap a b c))
    (mul-pos (mul-pos (at_zero ◌<ℤ◌ c k) (den_pos c)) (sub-pos_of_lt h)))
