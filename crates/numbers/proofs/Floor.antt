-- The floor of specs/Rational is the greatest whole number that is not above (`floor-le`, `floor-greatest`): with f the
-- floor of n/d, f d ≤ n < (f + 1) d.
use mathlib.Core.Path.{◌≡◌, sym, ap, subst, subst₂}
use mathlib.Core.List.{[], ◌∷◌}
use Prim.Native.Nat.{ℕ, suc, ◌+◌, ◌-◌, ◌<◌}
use native.Mathlib.Nat.{zero-lt-suc}
use native.Mathlib.Omega.{arith}
use lib.IntN.{ℤ, pos, nat_abs, ◌+ℤ◌, ◌*ℤ◌}
use lib.Signed.{◌≤ℤ◌, ◌<ℤ◌}
use Rattle.numbers.specs.Pair.{whole_p, ◌≤P◌}
use Rattle.numbers.specs.Rational.{Rational, Lowest, value, over_p, floor_z, floor_q, modulo}
use Rattle.numbers.proofs.Integers.{◌⊕◌, ◌⊖◌, ◌⊗◌, neg, 𝟙, ◌≐◌, ◌·◌, ◌and◌, ◌from◌, solveℤ, deriveℤ, *ℤ_idr}
use Rattle.numbers.proofs.Order.{at_positive, pos-nonneg, le_of_sub-eq, lt_of_sub-eq, lt_of_le_of_lt}
use Rattle.numbers.proofs.Order.{lt_of_mul_lt_mul_right, sub-nonneg_of_lt}
use Rattle.numbers.proofs.Modulo.{floor-modulo, modulo_lt}
use Rattle.numbers.proofs.LowestTerms.{whole_is_lowest}

record Between (n : ℤ) (d : ℕ) : Type 0 where
  below : (floor_z n d *ℤ pos d) ≤ℤ n
  above : n <ℤ ((floor_z n d +ℤ pos 1) *ℤ pos d)

-- with n = f d + r and d = r + 1 + s, the gaps below and above n are r and s
between : (n : ℤ) (d : ℕ) → 0 < d → Between n d
between n d p =
    record {
      below = le_of_sub-eq (pos-nonneg r) (deriveℤ (n ∷ f ∷ pos d ∷ pos r ∷ []) (λ n f d r. n ⊖ f ⊗ d ≐ r from 𝟙 · n ≐ f ⊗ d ⊕ r) tt (floor-modulo d p n));
      above =
          lt_of_sub-eq (pos-nonneg (d - suc r))
          (deriveℤ (n ∷ f ∷ pos d ∷ pos r ∷ pos (d - suc r) ∷ [])
          (λ n f d r s. (f ⊕ 𝟙) ⊗ d ⊖ (n ⊕ 𝟙) ≐ s from neg 𝟙 · n ≐ f ⊗ d ⊕ r and 𝟙 · d ≐ r ⊕ 𝟙 ⊕ s) tt
          (floor-modulo d p n) (ap pos (rest (modulo_lt d p n))));
    }
  where
    f : ℤ
    f = floor_z n d

    r : ℕ
    r = modulo n d

    rest : {r : ℕ} → r < d → d ≡ r + 1 + (d - suc r)
    rest h = omega arith

pub floor-lowest : (a : Rational) → Lowest (floor_q a)
unfolding floor_q
floor-lowest a = whole_is_lowest (floor_z a.num (nat_abs a.den))

module _ (a : Rational) (la : Lowest a) where
  pub floor-le : value (floor_q a) ≤P value a
  unfolding value floor_q
  floor-le =
      at_positive (λ d. whole_p (floor_z a.num (nat_abs d)) ≤P over_p a.num d)
      (λ k. subst (λ (z : ℤ). (floor_z a.num (suc k) *ℤ pos (suc k)) ≤ℤ z) (sym (*ℤ_idr a.num)) (between a.num (suc k) (zero-lt-suc k)).below)
      a.den la.positive

  pub floor-greatest : (z : ℤ) → whole_p z ≤P value a → whole_p z ≤P value (floor_q a)
  unfolding value floor_q
  floor-greatest z =
      at_positive (λ d. whole_p z ≤P over_p a.num d → whole_p z ≤P whole_p (floor_z a.num (nat_abs d))) (λ k h. at k h)
      a.den la.positive
    where
      le_of_lt_add_one : {x y : ℤ} → x <ℤ (y +ℤ pos 1) → x ≤ℤ y
      le_of_lt_add_one {x} {y} h =
          le_of_sub-eq (sub-nonneg_of_lt h) (solveℤ (x ∷ y ∷ []) (λ x y. y ⊖ x ≐ y ⊕ 𝟙 ⊖ (x ⊕ 𝟙)) tt)

      at :
          (k : ℕ) → (z *ℤ pos (suc k)) ≤ℤ (a.num *ℤ pos 1) →
          (z *ℤ pos 1) ≤ℤ (floor_z a.num (suc k) *ℤ pos 1)
      at k h =
          subst₂ ◌≤ℤ◌ (sym (*ℤ_idr z)) (sym (*ℤ_idr (floor_z a.num (suc k))))
          (le_of_lt_add_one
          (lt_of_mul_lt_mul_right
          (lt_of_le_of_lt (subst (λ (y : ℤ). (z *ℤ pos (suc k)) ≤ℤ y) (*ℤ_idr a.num) h) (between a.num (suc k) (zero-lt-suc k)).above)
          (pos-nonneg (suc k))))
