-- Lowest terms: `lowest n d` has the value n/d, a positive denominator and no common factor (`lowest-value`,
-- `lowest_is_lowest`), and two numbers in lowest terms with one value are equal (`eq_of_value-eq`).
-- A law about numbers with positive denominators is shown at denominators 1 + k, where `value` computes (`at_dens`).
use mathlib.Core.Path.{◌≡◌, refl, sym, ◌∙◌, ap, ap₂, subst, subst₂}
use mathlib.Core.List.{[], ◌∷◌}
use Prim.Native.Nat.{ℕ, suc, ◌*◌, ◌/◌, ◌<◌, ◌∣◌}
use native.Mathlib.Nat.{div-mul_cancel, dvd_antisymm, dvd-mul_left, dvd-one, mul_comm}
use lib.IntN.{ℤ, pos, negsuc, nat_abs, ◌*ℤ◌, zero-*ℤ}
use lib.Signed.{quot_z, ◌<ℤ◌, lt_z_yes}
use Rattle.numbers.specs.Pair.{pair, ◌≈◌}
use Rattle.numbers.specs.Rational.{Rational, frac, whole, gcd, Lowest, lowest, value, over_p}
use Rattle.numbers.proofs.Integers.{◌⊗◌, neg, ◌≐◌, ◌·◌, ◌and◌, ◌from◌, 𝟙, deriveℤ, nat_abs_negℤ, nat_abs_*ℤ}
use Rattle.numbers.proofs.Integers.{*ℤ_right_cancel}
use Rattle.numbers.proofs.Order.{pos-nonneg, lt_of_mul_lt_mul_right, at_positive, pos-positive, nat_abs-positive}
use Rattle.numbers.proofs.Divisors.{gcd_comm, gcd-pos, gcd_dvd_left, gcd_dvd_right, coprime-over-gcd}
use Rattle.numbers.proofs.Divisors.{dvd_of_coprime}

-- ---- positive denominators

pub at_dens :
    (P : ℤ → ℤ → Type 0) → ((j k : ℕ) → P (pos (suc j)) (pos (suc k))) → (d e : ℤ) → pos 0 <ℤ d → pos 0 <ℤ e →
    P d e
at_dens P f d e h k = at_positive (λ x. P x e) (λ i. at_positive (P (pos (suc i))) (f i) e k) d h

pub pos-nat_abs_of_pos : (d : ℤ) → pos 0 <ℤ d → d ≡ pos (nat_abs d)
pos-nat_abs_of_pos = at_positive (λ d. d ≡ pos (nat_abs d)) (λ k. refl)

-- values are equal by the cross products of the parts
pub value-eq :
    (a b : Rational) → pos 0 <ℤ a.den → pos 0 <ℤ b.den → a.num *ℤ b.den ≡ b.num *ℤ a.den →
    value a ≈ value b
unfolding value
value-eq a b =
    at_dens (λ d e. a.num *ℤ e ≡ b.num *ℤ d → over_p a.num d ≈ over_p b.num e) (λ j k h. h) a.den b.den

pub cross_of_value-eq :
    (a b : Rational) → pos 0 <ℤ a.den → pos 0 <ℤ b.den → value a ≈ value b →
    a.num *ℤ b.den ≡ b.num *ℤ a.den
unfolding value
cross_of_value-eq a b =
    at_dens (λ d e. over_p a.num d ≈ over_p b.num e → a.num *ℤ e ≡ b.num *ℤ d) (λ j k h. h) a.den b.den

-- ---- the exact quotient

pub nat_abs-quot_z : (z : ℤ) (g : ℕ) → nat_abs (quot_z z (pos g)) ≡ nat_abs z / g
nat_abs-quot_z (pos n) g = refl
nat_abs-quot_z (negsuc n) g = nat_abs_negℤ (pos (suc n / g))

pub quot_z-mul_cancel : (z : ℤ) (g : ℕ) → g ∣ nat_abs z → quot_z z (pos g) *ℤ pos g ≡ z
quot_z-mul_cancel (pos n) g h = ap pos (div-mul_cancel g h)
quot_z-mul_cancel (negsuc n) g h =
    deriveℤ (pos (suc n / g) ∷ pos g ∷ pos (suc n) ∷ []) (λ q g n. neg q ⊗ g ≐ neg n from neg 𝟙 · q ⊗ g ≐ n) tt
    (ap pos (div-mul_cancel g h))

-- ---- lowest terms

module _ (n d : ℤ) (p : pos 0 <ℤ d) where
  abbrev g : ℕ
  g = gcd (nat_abs n) (nat_abs d)

  numerator : quot_z n (pos g) *ℤ pos g ≡ n
  numerator = quot_z-mul_cancel n g (gcd_dvd_left (nat_abs n) (nat_abs d))

  denominator : quot_z d (pos g) *ℤ pos g ≡ d
  denominator = quot_z-mul_cancel d g (gcd_dvd_right (nat_abs n) (nat_abs d))

  pub lowest_cross : (lowest n d).num *ℤ d ≡ n *ℤ (lowest n d).den
  unfolding lowest
  lowest_cross =
      deriveℤ (quot_z n (pos g) ∷ quot_z d (pos g) ∷ n ∷ d ∷ pos g ∷ [])
      (λ m e n d g. m ⊗ d ≐ n ⊗ e from neg m · e ⊗ g ≐ d and e · m ⊗ g ≐ n) tt denominator numerator

  -- a positive number over a divisor of it is positive: its product with the divisor is
  pub lowest-pos : pos 0 <ℤ (lowest n d).den
  unfolding lowest
  lowest-pos = lt_of_mul_lt_mul_right (subst₂ ◌<ℤ◌ (sym (zero-*ℤ (pos g))) (sym denominator) p) (pos-nonneg g)

  pub lowest_is_lowest : Lowest (lowest n d)
  unfolding lowest
  lowest_is_lowest =
      record {
        positive = lowest-pos;
        coprime = ap₂ gcd (nat_abs-quot_z n g) (nat_abs-quot_z d g) ∙ coprime-over-gcd (nat_abs n) (nat_abs d) (gcd-pos (nat_abs n) (nat_abs d) (nat_abs-positive p));
      }

pub lowest-value : (n : ℤ) (d : ℕ) (p : 0 < d) → value (lowest n (pos d)) ≈ pair n d p
unfolding value
lowest-value n d p =
    let h : pos 0 <ℤ pos d = pos-positive p in
    at_positive (λ e. (lowest n (pos d)).num *ℤ pos d ≡ n *ℤ e → over_p (lowest n (pos d)).num e ≈ pair n d p) (λ k q. q)
    (lowest n (pos d)).den (lowest-pos n (pos d) h) (lowest_cross n (pos d) h)

-- ---- they are unique

-- each denominator divides the other, since it is coprime to its own numerator
dens_dvd :
    (a b : Rational) → Lowest a → Lowest b → a.num *ℤ b.den ≡ b.num *ℤ a.den →
    nat_abs a.den ∣ nat_abs b.den
dens_dvd a b la lb e =
    dvd_of_coprime (nat_abs a.den) (nat_abs a.num) (nat_abs b.den) (nat_abs-positive lb.positive)
    (gcd_comm (nat_abs a.den) (nat_abs a.num) ∙ la.coprime)
    (subst (λ (x : ℕ). nat_abs a.den ∣ x) same (dvd-mul_left (nat_abs a.den) (nat_abs b.num)))
  where
    same : nat_abs b.num * nat_abs a.den ≡ nat_abs b.den * nat_abs a.num
    same =
        sym (nat_abs_*ℤ b.num a.den) ∙ ap nat_abs (sym e) ∙ nat_abs_*ℤ a.num b.den
        ∙ mul_comm (nat_abs a.num) (nat_abs b.den)

eq_of_cross_eq : (a b : Rational) → Lowest a → Lowest b → a.num *ℤ b.den ≡ b.num *ℤ a.den → a ≡ b
eq_of_cross_eq a b la lb e = ap₂ frac nums dens
  where
    dens : a.den ≡ b.den
    dens =
        pos-nat_abs_of_pos a.den la.positive ∙ ap pos (dvd_antisymm (dens_dvd a b la lb e) (dens_dvd b a lb la (sym e)))
        ∙ sym (pos-nat_abs_of_pos b.den lb.positive)

    nums : a.num ≡ b.num
    nums =
        *ℤ_right_cancel a.num b.num b.den (nat_abs-positive lb.positive) (e ∙ ap (λ (z : ℤ). b.num *ℤ z) dens)

pub eq_of_value-eq : (a b : Rational) → Lowest a → Lowest b → value a ≈ value b → a ≡ b
eq_of_value-eq a b la lb h = eq_of_cross_eq a b la lb (cross_of_value-eq a b la.positive lb.positive h)

pub whole_is_lowest : (z : ℤ) → Lowest (whole z)
whole_is_lowest z = record { positive = lt_z_yes tt; coprime = dvd-one.0 (gcd_dvd_right (nat_abs z) 1) }

pub lowest-whole : (z : ℤ) → lowest z (pos 1) ≡ whole z
lowest-whole z =
    eq_of_cross_eq (lowest z (pos 1)) (whole z) (lowest_is_lowest z (pos 1) (lt_z_yes tt)) (whole_is_lowest z)
    (lowest_cross z (pos 1) (lt_z_yes tt))
