-- Arithmetic modulo m, for every m, and an odd factor modulo every power of 2. Two numbers are congruent where they differ by a multiple of m;
-- the floor of z/m and `modulo z m` of specs/Rational are a quotient and remainder, so congruent numbers are those with one remainder.
--     cong_refl, cong_sym, cong_trans, cong_of_eq       congruence is an equivalence
--     cong_add, cong_neg, cong_sub, cong_mul       and goes with sums, differences and products
--     floor-modulo, modulo_lt, modulo_cong       z is (floor of z/m) m + modulo z m, and the remainder is below m
--     eq_of_cong_of_lt, modulo-eq_of_cong, cong_of_modulo-eq       equal remainders and congruence are the same
--     odd_cancel_zero, odd_cancel       an odd factor is cancelled modulo 2 ^ w
use mathlib.Core.Path.{◌≡◌, sym, ◌∙◌, ap, subst}
use mathlib.Core.List.{[], ◌∷◌}
use Prim.Native.Nat.{ℕ, zero, suc, ◌+◌, ◌-◌, ◌*◌, ◌/◌, ◌%◌, ◌^◌, ◌<◌}
use native.Mathlib.Nat.{pow-suc, one-le-pow, div-add-mod', mod-lt}
use native.Mathlib.Omega.{arith}
use lib.IntN.{ℤ, pos, negsuc, neg_ℤ, nat_abs, one, ◌+ℤ◌, ◌-ℤ◌, ◌*ℤ◌, negsuc-eq}
use Rattle.numbers.specs.Rational.{floor_z, modulo}
use Rattle.numbers.proofs.Integers.{E, ◌⊕◌, ◌⊖◌, ◌⊗◌, neg, lit, 𝟘, 𝟙, ◌≐◌, ◌·◌, ◌and◌, ◌from◌, solveℤ, deriveℤ}
use Rattle.numbers.proofs.Integers.{nat_abs_*ℤ, *ℤ_right_cancel}

pub record Cong (m : ℕ) (x y : ℤ) : Type 0 where
  pub factor : ℤ
  pub differ : x ≡ y +ℤ factor *ℤ pos m

-- ---- an equivalence that goes with the operations

module _ {m : ℕ} where
  pub cong_refl : (x : ℤ) → Cong m x x
  cong_refl x = record { factor = pos 0; differ = solveℤ (x ∷ pos m ∷ []) (λ x m. x ≐ x ⊕ 𝟘 ⊗ m) tt }

  pub cong_of_eq : {x y : ℤ} → x ≡ y → Cong m x y
  cong_of_eq {x} {y} e = subst (λ (z : ℤ). Cong m x z) e (cong_refl x)

  pub cong_sym : {x y : ℤ} → Cong m x y → Cong m y x
  cong_sym {x} {y} h =
      record {
        factor = neg_ℤ h.factor;
        differ =
            deriveℤ (x ∷ y ∷ h.factor ∷ pos m ∷ []) (λ x y k m. y ≐ x ⊕ neg k ⊗ m from neg 𝟙 · x ≐ y ⊕ k ⊗ m) tt h.differ;
      }

  pub cong_trans : {x y z : ℤ} → Cong m x y → Cong m y z → Cong m x z
  cong_trans {x} {y} {z} h l =
      record {
        factor = h.factor +ℤ l.factor;
        differ =
            deriveℤ (x ∷ y ∷ z ∷ h.factor ∷ l.factor ∷ pos m ∷ [])
            (λ x y z h l m. x ≐ z ⊕ (h ⊕ l) ⊗ m from 𝟙 · x ≐ y ⊕ h ⊗ m and 𝟙 · y ≐ z ⊕ l ⊗ m) tt h.differ l.differ;
      }

  pub cong_add : {x y u v : ℤ} → Cong m x y → Cong m u v → Cong m (x +ℤ u) (y +ℤ v)
  cong_add {x} {y} {u} {v} h l =
      record {
        factor = h.factor +ℤ l.factor;
        differ =
            deriveℤ (x ∷ y ∷ u ∷ v ∷ h.factor ∷ l.factor ∷ pos m ∷ [])
            (λ x y u v h l m. x ⊕ u ≐ y ⊕ v ⊕ (h ⊕ l) ⊗ m from 𝟙 · x ≐ y ⊕ h ⊗ m and 𝟙 · u ≐ v ⊕ l ⊗ m) tt
            h.differ l.differ;
      }

  pub cong_neg : {x y : ℤ} → Cong m x y → Cong m (neg_ℤ x) (neg_ℤ y)
  cong_neg {x} {y} h =
      record {
        factor = neg_ℤ h.factor;
        differ =
            deriveℤ (x ∷ y ∷ h.factor ∷ pos m ∷ []) (λ x y k m. neg x ≐ neg y ⊕ neg k ⊗ m from neg 𝟙 · x ≐ y ⊕ k ⊗ m) tt
            h.differ;
      }

  pub cong_sub : {x y u v : ℤ} → Cong m x y → Cong m u v → Cong m (x -ℤ u) (y -ℤ v)
  cong_sub h l = cong_add h (cong_neg l)

  pub cong_mul : {x y u v : ℤ} → Cong m x y → Cong m u v → Cong m (x *ℤ u) (y *ℤ v)
  cong_mul {x} {y} {u} {v} h l =
      record {
        factor = h.factor *ℤ u +ℤ y *ℤ l.factor;
        differ =
            deriveℤ (x ∷ y ∷ u ∷ v ∷ h.factor ∷ l.factor ∷ pos m ∷ [])
            (λ x y u v h l m. x ⊗ u ≐ y ⊗ v ⊕ (h ⊗ u ⊕ y ⊗ l) ⊗ m from u · x ≐ y ⊕ h ⊗ m and y · u ≐ v ⊕ l ⊗ m) tt
            h.differ l.differ;
      }

-- ---- the least remainder that is not negative

module _ (m : ℕ) (p : 0 < m) where
  -- with n = q m + r and m = r + 1 + s, the remainder of n is r and that of -(n + 1) is s
  pub floor-modulo : (z : ℤ) → z ≡ floor_z z m *ℤ pos m +ℤ pos (modulo z m)
  unfolding one
  floor-modulo (pos n) = ap pos (sym (div-add-mod' n m))
  floor-modulo (negsuc n) =
      deriveℤ (negsuc n ∷ negsuc (n / m) ∷ pos n ∷ pos (n / m) ∷ pos m ∷ pos (n % m) ∷ pos (m - suc (n % m)) ∷ [])
      (λ z f n q m r s.
      z ≐ f ⊗ m ⊕ s from 𝟙 · z ≐ neg (n ⊕ 𝟙) and neg m · f ≐ neg (q ⊕ 𝟙) and neg 𝟙 · n ≐ q ⊗ m ⊕ r and 𝟙 · m ≐ r ⊕ 𝟙 ⊕ s) tt
      (negsuc-eq n) (negsuc-eq (n / m)) (ap pos (sym (div-add-mod' n m))) (ap pos (rest (mod-lt n p)))
    where
      rest : {r : ℕ} → r < m → m ≡ r + 1 + (m - suc r)
      rest h = omega arith

  pub modulo_lt : (z : ℤ) → modulo z m < m
  modulo_lt (pos n) = mod-lt n p
  modulo_lt (negsuc n) = omega arith

  pub modulo_cong : (z : ℤ) → Cong m z (pos (modulo z m))
  modulo_cong z =
      record {
        factor = floor_z z m;
        differ =
            deriveℤ (z ∷ floor_z z m ∷ pos m ∷ pos (modulo z m) ∷ []) (λ z f m r. z ≐ r ⊕ f ⊗ m from 𝟙 · z ≐ f ⊗ m ⊕ r) tt
            (floor-modulo z);
      }

  pub eq_of_cong_of_lt : {a b : ℕ} → a < m → b < m → Cong m (pos a) (pos b) → a ≡ b
  eq_of_cong_of_lt {a} {b} la lb c = go c.factor c.differ
    where
      more : (k : ℕ) → a ≡ b + k * m → a ≡ b
      more zero e = omega arith
      more (suc k) e = absurd (omega arith)

      go : (k : ℤ) → pos a ≡ pos b +ℤ k *ℤ pos m → a ≡ b
      go (pos k) e = more k (ap nat_abs e)
      go (negsuc k) e =
          let less : a + suc k * m ≡ b =
          ap nat_abs
          (deriveℤ (pos a ∷ pos b ∷ pos (suc k * m) ∷ []) (λ a b k. a ⊕ k ≐ b from 𝟙 · a ≐ b ⊕ neg k) tt e) in
          absurd (omega arith)

  pub modulo-eq_of_cong : {x y : ℤ} → Cong m x y → modulo x m ≡ modulo y m
  modulo-eq_of_cong {x} {y} h =
      eq_of_cong_of_lt (modulo_lt x) (modulo_lt y)
      (cong_trans (cong_sym (modulo_cong x)) (cong_trans h (modulo_cong y)))

  pub cong_of_modulo-eq : {x y : ℤ} → modulo x m ≡ modulo y m → Cong m x y
  cong_of_modulo-eq {x} {y} e =
      cong_trans (modulo_cong x) (cong_trans (cong_of_eq (ap pos e)) (cong_sym (modulo_cong y)))

-- ---- odd factors modulo a power of 2

pub two_pow_pos : (w : ℕ) → 0 < 2 ^ w
two_pow_pos w = one-le-pow w 2 (omega arith)

abbrev pub odd : ℤ → ℤ
odd h = pos 2 *ℤ h +ℤ pos 1

abbrev 𝟚 : E
𝟚 = lit (pos 2)

-- By halving: z = 2 f + r, and r is 0, since otherwise the product is odd.
module _ (w : ℕ) (h z : ℤ) (c : Cong (2 ^ suc w) (odd h *ℤ z) (pos 0)) where
  abbrev f : ℤ
  f = floor_z z 2

  double : pos (2 ^ suc w) ≡ pos (2 ^ w) *ℤ pos 2
  double = ap pos (pow-suc 2 w)

  half-vanishes : z ≡ f *ℤ pos 2 +ℤ pos 0 → Cong (2 ^ w) (odd h *ℤ f) (pos 0)
  half-vanishes e =
      record {
        factor = c.factor;
        differ =
            *ℤ_right_cancel (odd h *ℤ f) (pos 0 +ℤ c.factor *ℤ pos (2 ^ w)) (pos 2) (omega arith)
            (deriveℤ (odd h ∷ z ∷ f ∷ c.factor ∷ pos (2 ^ suc w) ∷ pos (2 ^ w) ∷ [])
            (λ o z f k m n.
            o ⊗ f ⊗ 𝟚 ≐ (𝟘 ⊕ k ⊗ n) ⊗ 𝟚
            from 𝟙 · o ⊗ z ≐ 𝟘 ⊕ k ⊗ m and neg o · z ≐ f ⊗ 𝟚 ⊕ 𝟘 and k · m ≐ n ⊗ 𝟚) tt
            c.differ e double);
      }

  double-vanishes : z ≡ f *ℤ pos 2 +ℤ pos 0 → Cong (2 ^ w) f (pos 0) → Cong (2 ^ suc w) z (pos 0)
  double-vanishes e d =
      record {
        factor = d.factor;
        differ =
            deriveℤ (z ∷ f ∷ d.factor ∷ pos (2 ^ suc w) ∷ pos (2 ^ w) ∷ [])
            (λ z f k m n. z ≐ 𝟘 ⊕ k ⊗ m from 𝟙 · z ≐ f ⊗ 𝟚 ⊕ 𝟘 and 𝟚 · f ≐ 𝟘 ⊕ k ⊗ n and neg k · m ≐ n ⊗ 𝟚) tt
            e d.differ double;
      }

  not-odd : z ≡ f *ℤ pos 2 +ℤ pos 1 → ⊥
  not-odd e =
      let t = c.factor *ℤ pos (2 ^ w) -ℤ (odd h *ℤ f +ℤ h) in
      let is_one : t *ℤ pos 2 ≡ pos 1 =
      deriveℤ (h ∷ z ∷ f ∷ c.factor ∷ pos (2 ^ suc w) ∷ pos (2 ^ w) ∷ [])
      (λ h z f k m n.
      (k ⊗ n ⊖ ((𝟚 ⊗ h ⊕ 𝟙) ⊗ f ⊕ h)) ⊗ 𝟚 ≐ 𝟙
      from neg 𝟙 · (𝟚 ⊗ h ⊕ 𝟙) ⊗ z ≐ 𝟘 ⊕ k ⊗ m and 𝟚 ⊗ h ⊕ 𝟙 · z ≐ f ⊗ 𝟚 ⊕ 𝟙 and neg k · m ≐ n ⊗ 𝟚) tt
      c.differ e double in
      let size : nat_abs t * 2 ≡ 1 = sym (nat_abs_*ℤ t (pos 2)) ∙ ap nat_abs is_one in
      omega arith

  by_half :
      (r : ℕ) → r < 2 → z ≡ f *ℤ pos 2 +ℤ pos r →
      (Cong (2 ^ w) (odd h *ℤ f) (pos 0) → Cong (2 ^ w) f (pos 0)) → Cong (2 ^ suc w) z (pos 0)
  by_half zero l e cancel = double-vanishes e (cancel (half-vanishes e))
  by_half (suc zero) l e cancel = absurd (not-odd e)
  by_half (suc (suc r)) l e cancel = absurd (omega arith)

pub odd_cancel_zero : (w : ℕ) (h z : ℤ) → Cong (2 ^ w) (odd h *ℤ z) (pos 0) → Cong (2 ^ w) z (pos 0)
odd_cancel_zero zero h z c = record { factor = z; differ = solveℤ (z ∷ []) (λ z. z ≐ 𝟘 ⊕ z ⊗ 𝟙) tt }
odd_cancel_zero (suc w) h z c =
    by_half w h z c (modulo z 2) (modulo_lt 2 (omega arith) z) (floor-modulo 2 (omega arith) z)
    (odd_cancel_zero w h (floor_z z 2))

pub odd_cancel : (w : ℕ) (h x y : ℤ) → Cong (2 ^ w) (odd h *ℤ x) (odd h *ℤ y) → Cong (2 ^ w) x y
odd_cancel w h x y c =
    record {
      factor = d.factor;
      differ =
          deriveℤ (x ∷ y ∷ d.factor ∷ pos (2 ^ w) ∷ []) (λ x y k m. x ≐ y ⊕ k ⊗ m from 𝟙 · x ⊖ y ≐ 𝟘 ⊕ k ⊗ m) tt
          d.differ;
    }
  where
    d : Cong (2 ^ w) (x -ℤ y) (pos 0)
    d =
        odd_cancel_zero w h (x -ℤ y)
        (record {
          factor = c.factor;
          differ =
              deriveℤ ((odd h) ∷ x ∷ y ∷ c.factor ∷ pos (2 ^ w) ∷ [])
              (λ o x y k m. o ⊗ (x ⊖ y) ≐ 𝟘 ⊕ k ⊗ m from 𝟙 · o ⊗ x ≐ o ⊗ y ⊕ k ⊗ m) tt c.differ;
        })
