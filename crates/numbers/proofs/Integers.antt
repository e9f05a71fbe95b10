-- The integers as a commutative ring, the solver at them, and sizes.
--     solveℤ ρ (λ a b. l ≐ r) tt, deriveℤ ρ (λ a b. l ≐ r from ..) tt h ..       `solve` and `derive` of `Ring` at ℤring
--     *ℤ_assoc, *ℤ_distr, *ℤ_idr       the laws that `lib.IntN` lacks, and ℤring, the ring
--     nat_abs_negℤ, nat_abs_*ℤ, nat_abs_+ℤ_le, eq-zero_of_nat_abs-eq-zero       the size of a number
--     *ℤ_right_cancel, eq_of_sub_eq_zero       a factor that is not 0 is cancelled; a difference that is 0
use mathlib.Core.Path.{◌≡◌, refl, sym, ◌∙◌, ap}
use mathlib.Core.Bool.{Bool, true, false, cond}
use mathlib.Core.List.{List, [], ◌∷◌}
use Prim.Native.Nat.{ℕ, zero, suc, ◌+◌, ◌-◌, ◌*◌, ◌≤◌, ◌<◌}
use native.Mathlib.Nat.{suc-ne-zero, eq_of_mul-eq-mul_right, zero-mul, le_refl}
use native.Mathlib.Omega.{arith}
use lib.Dec.{T, ltb}
use borrow.Author.Tests.{ltb-true}
use lib.IntN.{ℤ, pos, negsuc, suc_ℤ, neg_ℤ, nat_abs, sub_ℕ, one, ◌+ℤ◌, ◌-ℤ◌, ◌*ℤ◌, +ℤ_idl, +ℤ_idr, +ℤ_assoc}
use lib.IntN.{+ℤ_comm, +ℤ_invr, suc_ℤ-+ℤ, suc_ℤ-*ℤ, zero-*ℤ, *ℤ_comm, *ℤ-one, +ℤ-neg_ℤ_cancel}
pub use Rattle.numbers.proofs.Ring.{Ring, E, lit, ◌⊕◌, ◌⊖◌, ◌⊗◌, neg, 𝟘, 𝟙, ◌≐◌, ◌·◌, ◌and◌, ◌from◌}
use Rattle.numbers.proofs.Ring.{Equation, Claim, Vars, at_vars, Holds, Follows, solve, derive}
use Rattle.numbers.proofs.Polynomials.{is_identity, is_combination}

-- ---- the laws of the product

-- Two functions that grow by c at each step and agree at 0 are equal. A law of the product is such a pair, in its first factor.
steps_unique :
    (f g : ℤ → ℤ) (c : ℤ) → ((k : ℤ) → f (suc_ℤ k) ≡ f k +ℤ c) → ((k : ℤ) → g (suc_ℤ k) ≡ g k +ℤ c) →
    f (pos 0) ≡ g (pos 0) → (k : ℤ) → f k ≡ g k
steps_unique f g c F G e = go
  where
    up : (k : ℤ) → f k ≡ g k → f (suc_ℤ k) ≡ g (suc_ℤ k)
    up k h = F k ∙ ap (λ (x : ℤ). x +ℤ c) h ∙ sym (G k)

    down : (k : ℤ) → f (suc_ℤ k) ≡ g (suc_ℤ k) → f k ≡ g k
    down k h = sym (+ℤ-neg_ℤ_cancel (f k) c) ∙ ap (λ (x : ℤ). x -ℤ c) (sym (F k) ∙ h ∙ G k) ∙ +ℤ-neg_ℤ_cancel (g k) c

    go : (k : ℤ) → f k ≡ g k
    go (pos zero) = e
    go (pos (suc n)) = up (pos n) (go (pos n))
    go (negsuc zero) = down (negsuc zero) e
    go (negsuc (suc n)) = down (negsuc (suc n)) (go (negsuc n))

pub *ℤ_distr : (a b c : ℤ) → (a +ℤ b) *ℤ c ≡ a *ℤ c +ℤ b *ℤ c
*ℤ_distr a b c =
    steps_unique (λ (k : ℤ). (k +ℤ b) *ℤ c) (λ (k : ℤ). k *ℤ c +ℤ b *ℤ c) c
    (λ k. ap (λ (x : ℤ). x *ℤ c) (suc_ℤ-+ℤ k b) ∙ suc_ℤ-*ℤ (k +ℤ b) c)
    (λ k. cc (suc_ℤ-*ℤ k c, +ℤ_assoc (k *ℤ c) c (b *ℤ c), +ℤ_comm c (b *ℤ c), +ℤ_assoc (k *ℤ c) (b *ℤ c) c))
    (cc (+ℤ_idl b, zero-*ℤ c, +ℤ_idl (b *ℤ c))) a

pub *ℤ_assoc : (a b c : ℤ) → (a *ℤ b) *ℤ c ≡ a *ℤ (b *ℤ c)
*ℤ_assoc a b c =
    steps_unique (λ (k : ℤ). (k *ℤ b) *ℤ c) (λ (k : ℤ). k *ℤ (b *ℤ c)) (b *ℤ c)
    (λ k. ap (λ (x : ℤ). x *ℤ c) (suc_ℤ-*ℤ k b) ∙ *ℤ_distr (k *ℤ b) b c)
    (λ k. suc_ℤ-*ℤ k (b *ℤ c))
    (cc (zero-*ℤ b, zero-*ℤ c, zero-*ℤ (b *ℤ c))) a

pub *ℤ_idr : (a : ℤ) → a *ℤ pos 1 ≡ a
unfolding one
*ℤ_idr a = *ℤ-one a

-- ---- the ring and the solver

abbrev pub ℤring : Ring
ℤring = record {
  carrier = ℤ;
  add = ◌+ℤ◌;
  mul = ◌*ℤ◌;
  neg = neg_ℤ;
  ι = λ z. z;
  add_assoc = +ℤ_assoc;
  add_comm = +ℤ_comm;
  add-zero = +ℤ_idr;
  add-neg = +ℤ_invr;
  mul_assoc = *ℤ_assoc;
  mul_comm = *ℤ_comm;
  mul-one = *ℤ_idr;
  add-mul = *ℤ_distr;
  ι-add = λ x y. refl;
  ι-mul = λ x y. refl;
}

pub solveℤ : (ρ : List ℤ) (f : Vars ρ Equation) → T (is_identity (at_vars ρ 0 f)) → Holds ℤring (at_vars ρ 0 f) ρ
solveℤ = solve ℤring

pub deriveℤ :
    (ρ : List ℤ) (f : Vars ρ Claim) → T (is_combination (at_vars ρ 0 f)) → Follows ℤring (at_vars ρ 0 f) ρ
deriveℤ = derive ℤring

-- ---- sizes

pub nat_abs_negℤ : (z : ℤ) → nat_abs (neg_ℤ z) ≡ nat_abs z
nat_abs_negℤ (pos zero) = refl
nat_abs_negℤ (pos (suc n)) = refl
nat_abs_negℤ (negsuc n) = refl

pub nat_abs_*ℤ : (x y : ℤ) → nat_abs (x *ℤ y) ≡ nat_abs x * nat_abs y
nat_abs_*ℤ (pos a) (pos b) = refl
nat_abs_*ℤ (pos a) (negsuc b) = nat_abs_negℤ (pos (a * suc b))
nat_abs_*ℤ (negsuc a) (pos b) = nat_abs_negℤ (pos (suc a * b))
nat_abs_*ℤ (negsuc a) (negsuc b) = refl

nat_abs_subℕ_le : (m n : ℕ) → nat_abs (sub_ℕ m n) ≤ m + n
nat_abs_subℕ_le m n = go (ltb m n) refl
  where
    go : (t : Bool) → ltb m n ≡ t → nat_abs (cond t (negsuc (n - suc m)) (pos (m - n))) ≤ m + n
    go true e = omega (arith, ltb-true m n e)
    go false e = omega arith

pub nat_abs_+ℤ_le : (x y : ℤ) → nat_abs (x +ℤ y) ≤ nat_abs x + nat_abs y
nat_abs_+ℤ_le (pos a) (pos b) = le_refl (a + b)
nat_abs_+ℤ_le (pos a) (negsuc b) = nat_abs_subℕ_le a (suc b)
nat_abs_+ℤ_le (negsuc a) (pos b) = omega (arith, nat_abs_subℕ_le b (suc a))
nat_abs_+ℤ_le (negsuc a) (negsuc b) = omega arith

pub eq-zero_of_nat_abs-eq-zero : (z : ℤ) → nat_abs z ≡ 0 → z ≡ pos 0
eq-zero_of_nat_abs-eq-zero (pos n) e = ap pos e
eq-zero_of_nat_abs-eq-zero (negsuc n) e = absurd (suc-ne-zero n e)

pub eq_of_sub_eq_zero : (x y : ℤ) → x -ℤ y ≡ pos 0 → x ≡ y
eq_of_sub_eq_zero x y = deriveℤ (x ∷ y ∷ []) (λ x y. x ≐ y from 𝟙 · x ⊖ y ≐ 𝟘) tt

pub *ℤ_right_cancel : (x y k : ℤ) → 0 < nat_abs k → x *ℤ k ≡ y *ℤ k → x ≡ y
*ℤ_right_cancel x y k h e = eq_of_sub_eq_zero x y (eq-zero_of_nat_abs-eq-zero (x -ℤ y) (eq_of_mul-eq-mul_right (nat_abs k) h (nat_abs (x -ℤ y)) 0 sizes))
  where
    product : (x -ℤ y) *ℤ k ≡ pos 0
    product = deriveℤ (x ∷ y ∷ k ∷ []) (λ x y k. (x ⊖ y) ⊗ k ≐ 𝟘 from 𝟙 · x ⊗ k ≐ y ⊗ k) tt e

    sizes : nat_abs (x -ℤ y) * nat_abs k ≡ 0 * nat_abs k
    sizes = sym (nat_abs_*ℤ (x -ℤ y) k) ∙ ap nat_abs product ∙ sym (zero-mul (nat_abs k))
