-- The order of the integers. One idea carries every law: a ≤ b says that b - a is not negative, and a < b that b - (a + 1) is not. Such numbers
-- have sums and products that are not negative, so a law is a sum or product of what is given and an identity (`le_of_sub-eq`, `lt_of_sub-eq`).
--     le_refl, le_trans, lt_of_lt_of_le, lt_of_le_of_lt, lt_irrefl, le_of_lt, le_antisymm, le_or_lt       the order itself
--     add-le-add, add_lt_add_of_lt_of_le, neg-le-neg, mul-le-mul_of_nonneg, mul_lt_mul_of_pos, mul-pos       with sums and products
--     le_of_mul_le_mul_right, lt_of_mul_lt_mul_right       a factor is cancelled
use mathlib.Core.Path.{◌≡◌, refl, sym, ◌∙◌, ap, subst, subst₂}
use mathlib.Core.Logic.{◌⊎◌, inl, inr, ⊎_elim}
use mathlib.Core.Bool.{Bool, true, false, not, cond}
use mathlib.Core.List.{[], ◌∷◌}
use Prim.Native.Nat.{ℕ, zero, suc, ◌+◌, ◌-◌, ◌*◌, ◌<◌, zero-le}
use native.Mathlib.Nat.{zero-lt-suc}
use borrow.Author.Tests.{ltb-true, ltb-false, lt-leb, le-leb}
use lib.Dec.{T, ltb, leb, le→leb, lt→ltb, leb-zero, leb-suc-zero, leb-suc-suc}
use lib.IntN.{ℤ, pos, negsuc, suc_ℤ, neg_ℤ, nat_abs, sub_ℕ, ◌+ℤ◌, ◌-ℤ◌, ◌*ℤ◌, +ℤ_one, +ℤ_idl, +ℤ_comm, +ℤ_invr}
use lib.IntN.{zero-*ℤ, -ℤ-+ℤ_cancel}
use lib.Signed.{le_z, lt_z, ◌≤ℤ◌, ◌<ℤ◌, le_z_yes, lt_z_yes, lt_z_no, clash_ℤ}
pub use lib.Signed.{≤ℤ_refl as le_refl, <ℤ-≤ℤ_trans as lt_of_lt_of_le, <ℤ_irrefl as lt_irrefl}
use Rattle.numbers.proofs.Integers.{◌⊕◌, ◌⊖◌, ◌⊗◌, neg, 𝟙, ◌≐◌, solveℤ, eq_of_sub_eq_zero}

-- ---- the order by differences

le_z_subℕ : (m n : ℕ) → le_z (pos 0) (sub_ℕ m n) ≡ leb n m
le_z_subℕ m n = go (ltb m n) refl
  where
    go : (t : Bool) → ltb m n ≡ t → le_z (pos 0) (cond t (negsuc (n - suc m)) (pos (m - n))) ≡ leb n m
    go true e = sym (lt-leb n m (ltb-true m n e))
    go false e = leb-zero (m - n) ∙ sym (le-leb n m (ltb-false m n e))

le_z-sub : (a b : ℤ) → le_z (pos 0) (b -ℤ a) ≡ le_z a b
le_z-sub (pos zero) (pos b) = leb-zero (b + 0) ∙ sym (leb-zero b)
le_z-sub (pos (suc a)) (pos b) = le_z_subℕ b (suc a)
le_z-sub (pos zero) (negsuc b) = le_z_subℕ 0 (suc b) ∙ leb-suc-zero b
le_z-sub (pos (suc a)) (negsuc b) = refl
le_z-sub (negsuc a) (pos b) = leb-zero (b + suc a)
le_z-sub (negsuc a) (negsuc b) = le_z_subℕ (suc a) (suc b) ∙ leb-suc-suc b a

lt_z-suc : (a b : ℤ) → lt_z a b ≡ le_z (suc_ℤ a) b
lt_z-suc (pos a) (pos b) = refl
lt_z-suc (pos a) (negsuc b) = refl
lt_z-suc (negsuc zero) (pos b) = sym (leb-zero b)
lt_z-suc (negsuc (suc a)) (pos b) = refl
lt_z-suc (negsuc zero) (negsuc b) = leb-suc-zero b
lt_z-suc (negsuc (suc a)) (negsuc b) = leb-suc-suc b a

lt_z-add_one : (a b : ℤ) → lt_z a b ≡ le_z (a +ℤ pos 1) b
lt_z-add_one a b = lt_z-suc a b ∙ ap (λ (x : ℤ). le_z x b) (sym (+ℤ_one a))

pub sub-nonneg_of_le : {a b : ℤ} → a ≤ℤ b → pos 0 ≤ℤ (b -ℤ a)
sub-nonneg_of_le {a} {b} h = le_z_yes (subst T (sym (le_z-sub a b)) h.le)

pub le_of_sub-nonneg : {a b : ℤ} → pos 0 ≤ℤ (b -ℤ a) → a ≤ℤ b
le_of_sub-nonneg {a} {b} h = le_z_yes (subst T (le_z-sub a b) h.le)

pub add_one_le_of_lt : {a b : ℤ} → a <ℤ b → (a +ℤ pos 1) ≤ℤ b
add_one_le_of_lt {a} {b} h = le_z_yes (subst T (lt_z-add_one a b) h.lt)

pub lt_of_add_one_le : {a b : ℤ} → (a +ℤ pos 1) ≤ℤ b → a <ℤ b
lt_of_add_one_le {a} {b} h = lt_z_yes (subst T (sym (lt_z-add_one a b)) h.le)

pub sub-nonneg_of_lt : {a b : ℤ} → a <ℤ b → pos 0 ≤ℤ (b -ℤ (a +ℤ pos 1))
sub-nonneg_of_lt h = sub-nonneg_of_le (add_one_le_of_lt h)

pub le_of_sub-eq : {a b z : ℤ} → pos 0 ≤ℤ z → b -ℤ a ≡ z → a ≤ℤ b
le_of_sub-eq h e = le_of_sub-nonneg (subst (λ (x : ℤ). pos 0 ≤ℤ x) (sym e) h)

pub lt_of_sub-eq : {a b z : ℤ} → pos 0 ≤ℤ z → b -ℤ (a +ℤ pos 1) ≡ z → a <ℤ b
lt_of_sub-eq h e = lt_of_add_one_le (le_of_sub-eq h e)

-- ---- sums and products of numbers that are not negative

pub pos-nonneg : (n : ℕ) → pos 0 ≤ℤ pos n
pos-nonneg n = le_z_yes (le→leb 0 n zero-le)

-- An operation that takes naturals to naturals keeps numbers that are not negative.
nonneg-closed :
    (◌∘◌ : ℤ → ℤ → ℤ) → ((a b : ℕ) → pos 0 ≤ℤ ◌∘◌ (pos a) (pos b)) → {x y : ℤ} → pos 0 ≤ℤ x → pos 0 ≤ℤ y →
    pos 0 ≤ℤ ◌∘◌ x y
nonneg-closed ◌∘◌ f {x = pos a} {y = pos b} h k = f a b
nonneg-closed ◌∘◌ f {x = pos a} {y = negsuc b} h k = absurd k.le
nonneg-closed ◌∘◌ f {x = negsuc a} h k = absurd h.le

pub add-nonneg : {x y : ℤ} → pos 0 ≤ℤ x → pos 0 ≤ℤ y → pos 0 ≤ℤ (x +ℤ y)
add-nonneg = nonneg-closed ◌+ℤ◌ (λ a b. pos-nonneg (a + b))

pub mul-nonneg : {x y : ℤ} → pos 0 ≤ℤ x → pos 0 ≤ℤ y → pos 0 ≤ℤ (x *ℤ y)
mul-nonneg = nonneg-closed ◌*ℤ◌ (λ a b. pos-nonneg (a * b))

-- ---- the order itself

pub le_trans : {a b c : ℤ} → a ≤ℤ b → b ≤ℤ c → a ≤ℤ c
le_trans {a} {b} {c} h k =
    le_of_sub-eq (add-nonneg (sub-nonneg_of_le h) (sub-nonneg_of_le k)) (solveℤ (a ∷ b ∷ c ∷ []) (λ a b c. c ⊖ a ≐ (b ⊖ a) ⊕ (c ⊖ b)) tt)

pub lt_of_le_of_lt : {a b c : ℤ} → a ≤ℤ b → b <ℤ c → a <ℤ c
lt_of_le_of_lt {a} {b} {c} h k =
    lt_of_sub-eq (add-nonneg (sub-nonneg_of_le h) (sub-nonneg_of_lt k)) (solveℤ (a ∷ b ∷ c ∷ []) (λ a b c. c ⊖ (a ⊕ 𝟙) ≐ (b ⊖ a) ⊕ (c ⊖ (b ⊕ 𝟙))) tt)

pub le_of_lt : {a b : ℤ} → a <ℤ b → a ≤ℤ b
le_of_lt {a} {b} h = le_of_sub-eq (add-nonneg (sub-nonneg_of_lt h) (pos-nonneg 1)) (solveℤ (a ∷ b ∷ []) (λ a b. b ⊖ a ≐ (b ⊖ (a ⊕ 𝟙)) ⊕ 𝟙) tt)

pub le_or_lt : (a b : ℤ) → (a ≤ℤ b) ⊎ (b <ℤ a)
le_or_lt a b = go (lt_z b a) lt_z_yes lt_z_no
  where
    go : (t : Bool) → (T t → b <ℤ a) → (T (not t) → a ≤ℤ b) → (a ≤ℤ b) ⊎ (b <ℤ a)
    go true f g = inr (f tt)
    go false f g = inl (g tt)

eq-zero_of_nonneg_of_neg-nonneg : (z : ℤ) → pos 0 ≤ℤ z → pos 0 ≤ℤ neg_ℤ z → z ≡ pos 0
eq-zero_of_nonneg_of_neg-nonneg (pos zero) h k = refl
eq-zero_of_nonneg_of_neg-nonneg (pos (suc n)) h k = absurd k.le
eq-zero_of_nonneg_of_neg-nonneg (negsuc n) h k = absurd h.le

pub le_antisymm : {a b : ℤ} → a ≤ℤ b → b ≤ℤ a → a ≡ b
le_antisymm {a} {b} h k =
    eq_of_sub_eq_zero a b (eq-zero_of_nonneg_of_neg-nonneg (a -ℤ b) (sub-nonneg_of_le k)
    (subst (λ (z : ℤ). pos 0 ≤ℤ z) (solveℤ (a ∷ b ∷ []) (λ a b. b ⊖ a ≐ neg (a ⊖ b)) tt) (sub-nonneg_of_le h)))

-- ---- the order with sums, negation and products

pub add-le-add : {a b c d : ℤ} → a ≤ℤ b → c ≤ℤ d → (a +ℤ c) ≤ℤ (b +ℤ d)
add-le-add {a} {b} {c} {d} h k =
    le_of_sub-eq (add-nonneg (sub-nonneg_of_le h) (sub-nonneg_of_le k)) (solveℤ (a ∷ b ∷ c ∷ d ∷ []) (λ a b c d. b ⊕ d ⊖ (a ⊕ c) ≐ (b ⊖ a) ⊕ (d ⊖ c)) tt)

pub add_lt_add_of_lt_of_le : {a b c d : ℤ} → a <ℤ b → c ≤ℤ d → (a +ℤ c) <ℤ (b +ℤ d)
add_lt_add_of_lt_of_le {a} {b} {c} {d} h k =
    lt_of_sub-eq (add-nonneg (sub-nonneg_of_lt h) (sub-nonneg_of_le k)) (solveℤ (a ∷ b ∷ c ∷ d ∷ []) (λ a b c d. b ⊕ d ⊖ (a ⊕ c ⊕ 𝟙) ≐ (b ⊖ (a ⊕ 𝟙)) ⊕ (d ⊖ c)) tt)

pub neg-le-neg : {a b : ℤ} → a ≤ℤ b → neg_ℤ b ≤ℤ neg_ℤ a
neg-le-neg {a} {b} h = le_of_sub-eq (sub-nonneg_of_le h) (solveℤ (a ∷ b ∷ []) (λ a b. neg a ⊖ neg b ≐ b ⊖ a) tt)

pub mul-le-mul_of_nonneg : {a b c : ℤ} → a ≤ℤ b → pos 0 ≤ℤ c → (a *ℤ c) ≤ℤ (b *ℤ c)
mul-le-mul_of_nonneg {a} {b} {c} h k =
    le_of_sub-eq (mul-nonneg (sub-nonneg_of_le h) k) (solveℤ (a ∷ b ∷ c ∷ []) (λ a b c. b ⊗ c ⊖ a ⊗ c ≐ (b ⊖ a) ⊗ c) tt)

pub mul_lt_mul_of_pos : {a b c : ℤ} → a <ℤ b → pos 0 <ℤ c → (a *ℤ c) <ℤ (b *ℤ c)
mul_lt_mul_of_pos {a} {b} {c} h k =
    lt_of_sub-eq (add-nonneg (mul-nonneg (sub-nonneg_of_lt h) (le_of_lt k)) (sub-nonneg_of_lt k))
    (solveℤ (a ∷ b ∷ c ∷ []) (λ a b c. b ⊗ c ⊖ (a ⊗ c ⊕ 𝟙) ≐ (b ⊖ (a ⊕ 𝟙)) ⊗ c ⊕ (c ⊖ 𝟙)) tt)

pub mul-pos : {x y : ℤ} → pos 0 <ℤ x → pos 0 <ℤ y → pos 0 <ℤ (x *ℤ y)
mul-pos {x} {y} h k = subst (λ (z : ℤ). z <ℤ (x *ℤ y)) (zero-*ℤ y) (mul_lt_mul_of_pos h k)

-- ---- a factor is cancelled

pub le_of_mul_le_mul_right : {a b c : ℤ} → (a *ℤ c) ≤ℤ (b *ℤ c) → pos 0 <ℤ c → a ≤ℤ b
le_of_mul_le_mul_right {a} {b} h k = ⊎_elim (λ l. l) (λ l. clash_ℤ (mul_lt_mul_of_pos l k) h) (le_or_lt a b)

pub lt_of_mul_lt_mul_right : {a b c : ℤ} → (a *ℤ c) <ℤ (b *ℤ c) → pos 0 ≤ℤ c → a <ℤ b
lt_of_mul_lt_mul_right {a} {b} h k = ⊎_elim (λ l. clash_ℤ h (mul-le-mul_of_nonneg l k)) (λ l. l) (le_or_lt b a)

-- ---- a positive difference

pub sub-pos_of_lt : {a b : ℤ} → a <ℤ b → pos 0 <ℤ (b -ℤ a)
sub-pos_of_lt {a} {b} h =
    subst (λ (z : ℤ). z <ℤ (b -ℤ a)) (+ℤ_invr a) (add_lt_add_of_lt_of_le h (le_refl (neg_ℤ a)))

pub lt_of_sub-pos : {a b : ℤ} → pos 0 <ℤ (b -ℤ a) → a <ℤ b
lt_of_sub-pos {a} {b} h =
    subst₂ ◌<ℤ◌ (+ℤ_idl a) (-ℤ-+ℤ_cancel b a) (add_lt_add_of_lt_of_le h (le_refl a))

pub add-pos_of_pos_of_nonneg : {x y : ℤ} → pos 0 <ℤ x → pos 0 ≤ℤ y → pos 0 <ℤ (x +ℤ y)
add-pos_of_pos_of_nonneg h k = add_lt_add_of_lt_of_le h k

pub add-pos_of_nonneg_of_pos : {x y : ℤ} → pos 0 ≤ℤ x → pos 0 <ℤ y → pos 0 <ℤ (x +ℤ y)
add-pos_of_nonneg_of_pos {x} {y} h k = subst (λ (z : ℤ). pos 0 <ℤ z) (+ℤ_comm y x) (add-pos_of_pos_of_nonneg k h)

-- ---- positive numbers

-- what holds of every 1 + k holds of every positive number
pub at_positive : (P : ℤ → Type 0) → ((k : ℕ) → P (pos (suc k))) → (z : ℤ) → pos 0 <ℤ z → P z
at_positive P p (pos zero) h = absurd h.lt
at_positive P p (pos (suc k)) h = p k
at_positive P p (negsuc k) h = absurd h.lt

pub pos-positive : {n : ℕ} → 0 < n → pos 0 <ℤ pos n
pos-positive {n} h = lt_z_yes (lt→ltb 0 n h)

pub nat_abs-positive : {z : ℤ} → pos 0 <ℤ z → 0 < nat_abs z
nat_abs-positive {z} = at_positive (λ z. 0 < nat_abs z) zero-lt-suc z
