-- The greatest common divisor of specs/Rational: it divides both numbers and every common divisor divides it. What is
-- left after it is divided out is coprime, which is why `lowest` is in lowest terms; a divisor of a product that is
-- coprime to one factor divides the other (Euclid's lemma), which is why lowest terms are unique.
-- All of it goes by one induction along the remainders, `by_remainders`.
use mathlib.Core.Path.{◌≡◌, refl, sym, ◌∙◌, ap, ap₂, subst}
use Prim.Native.Nat.{ℕ, zero, suc, ◌*◌, ◌+◌, ◌/◌, ◌%◌, ◌<◌, ◌∣◌}
use native.Mathlib.Nat.{mod-lt, zero-lt-suc, not-suc-le-zero, le_of_suc-le-suc, lt_of_lt_of_le, lt-suc_self, mul-zero}
use native.Mathlib.Nat.{mul-one, div-add-mod', mul-lt-mul_of_pos_left, mul-pos, eq_of_mul-eq-mul_left, dvd_refl}
use native.Mathlib.Nat.{dvd-zero, dvd-mod_iff, dvd_antisymm, dvd-mul_left, mul-div_cancel', pos_of_dvd_of_pos}
use native.Mathlib.Omega.{arith}
use lib.Arith.{digits_mod}
use Rattle.numbers.specs.Rational.{gcd, gcd_within}

-- ---- the two rules of the loop

-- more remainders than are needed change nothing
enough : (j k a b : ℕ) → b < j → b < k → gcd_within j a b ≡ gcd_within k a b
unfolding gcd_within
enough zero k a b p q = absurd (not-suc-le-zero p)
enough (suc j) zero a b p q = absurd (not-suc-le-zero q)
enough (suc j) (suc k) a zero p q = refl
enough (suc j) (suc k) a (suc b) p q = enough j k (suc b) (a % suc b) (below p) (below q)
  where
    below : {n : ℕ} → suc b < suc n → a % suc b < n
    below h = lt_of_lt_of_le (mod-lt a (zero-lt-suc b)) (le_of_suc-le-suc h)

pub gcd-zero : (a : ℕ) → gcd a 0 ≡ a
unfolding gcd gcd_within
gcd-zero a = refl

pub gcd-step : (a b : ℕ) → 0 < b → gcd a b ≡ gcd b (a % b)
unfolding gcd gcd_within
gcd-step a zero p = absurd (not-suc-le-zero p)
gcd-step a (suc b) p =
    enough (suc b) (suc (a % suc b)) (suc b) (a % suc b) (mod-lt a (zero-lt-suc b)) (lt-suc_self (a % suc b))

-- What holds of (a, 0) with its divisor a, and of (a, b) where it holds of (b, a % b), holds of every pair.
module _ (P : ℕ → ℕ → ℕ → Type 0) (stop : (a : ℕ) → P a 0 a) (step : (a b g : ℕ) → 0 < b → P b (a % b) g → P a b g) where
  within : (k a b : ℕ) → b < k → P a b (gcd a b)
  within zero a b p = absurd (not-suc-le-zero p)
  within (suc k) a zero p = subst (P a 0) (sym (gcd-zero a)) (stop a)
  within (suc k) a (suc b) p =
      let h = within k (suc b) (a % suc b) (lt_of_lt_of_le (mod-lt a (zero-lt-suc b)) (le_of_suc-le-suc p)) in
      subst (P a (suc b)) (sym (gcd-step a (suc b) (zero-lt-suc b))) (step a (suc b) _ (zero-lt-suc b) h)

  by_remainders : (a b : ℕ) → P a b (gcd a b)
  by_remainders a b = within (suc b) a b (lt-suc_self b)

-- ---- what it is

pub gcd_dvd : (a b : ℕ) → (gcd a b ∣ a) × (gcd a b ∣ b)
gcd_dvd =
    by_remainders (λ a b g. (g ∣ a) × (g ∣ b)) (λ a. (dvd_refl a, dvd-zero a))
    (λ a b g p h. ((dvd-mod_iff g h.0).0 h.1, h.0))

pub gcd_dvd_left : (a b : ℕ) → gcd a b ∣ a
gcd_dvd_left a b = (gcd_dvd a b).0

pub gcd_dvd_right : (a b : ℕ) → gcd a b ∣ b
gcd_dvd_right a b = (gcd_dvd a b).1

pub gcd-greatest : (a b d : ℕ) → d ∣ a → d ∣ b → d ∣ gcd a b
gcd-greatest =
    by_remainders (λ a b g. (d : ℕ) → d ∣ a → d ∣ b → d ∣ g) (λ a d h k. h)
    (λ a b g p h d da db. h d db ((dvd-mod_iff d db).1 da))

pub gcd_comm : (a b : ℕ) → gcd a b ≡ gcd b a
gcd_comm a b = dvd_antisymm (half a b) (half b a)
  where
    half : (a b : ℕ) → gcd a b ∣ gcd b a
    half a b = gcd-greatest b a (gcd a b) (gcd_dvd_right a b) (gcd_dvd_left a b)

pub gcd-pos : (a b : ℕ) → 0 < b → 0 < gcd a b
gcd-pos a b p = pos_of_dvd_of_pos (gcd_dvd_right a b) p

-- ---- a common factor

pub mul_mod_mul : (k a b : ℕ) → 0 < k → 0 < b → (k * a) % (k * b) ≡ k * (a % b)
mul_mod_mul k a b hk hb =
    ap (λ (x : ℕ). x % (k * b)) split ∙ digits_mod (a / b) (mul-lt-mul_of_pos_left (mod-lt a hb) hk)
  where
    split : k * a ≡ a / b * (k * b) + k * (a % b)
    split = ap (λ (x : ℕ). k * x) (sym (div-add-mod' a b)) ∙ omega arith

pub gcd-mul-left : (k a b : ℕ) → 0 < k → gcd (k * a) (k * b) ≡ k * gcd a b
gcd-mul-left k a b hk =
    by_remainders (λ a b g. gcd (k * a) (k * b) ≡ k * g) (λ a. ap (gcd (k * a)) (mul-zero k) ∙ gcd-zero (k * a))
    (λ a b g p h. gcd-step (k * a) (k * b) (mul-pos hk p) ∙ ap (gcd (k * b)) (mul_mod_mul k a b hk p) ∙ h) a b

-- what is left is coprime
pub coprime-over-gcd : (a b : ℕ) → 0 < gcd a b → gcd (a / gcd a b) (b / gcd a b) ≡ 1
coprime-over-gcd a b h =
    eq_of_mul-eq-mul_left (gcd a b) h (gcd (a / gcd a b) (b / gcd a b)) 1
    (sym (gcd-mul-left (gcd a b) (a / gcd a b) (b / gcd a b) h)
    ∙ ap₂ gcd (mul-div_cancel' (gcd a b) (gcd_dvd_left a b)) (mul-div_cancel' (gcd a b) (gcd_dvd_right a b))
    ∙ sym (mul-one (gcd a b)))

-- Euclid's lemma
pub dvd_of_coprime : (a b c : ℕ) → 0 < c → gcd a b ≡ 1 → a ∣ c * b → a ∣ c
dvd_of_coprime a b c hc e h =
    subst (λ (x : ℕ). a ∣ x) (gcd-mul-left c a b hc ∙ ap (λ (x : ℕ). c * x) e ∙ mul-one c)
    (gcd-greatest (c * a) (c * b) a (dvd-mul_left a c) h)

-- ---- the denominator that is left is 1 exactly where the denominator divides the numerator

module _ (a b : ℕ) (p : 0 < b) where
  pub dvd_of_over-gcd_one : b / gcd a b ≡ 1 → b ∣ a
  dvd_of_over-gcd_one e =
      subst (λ (x : ℕ). x ∣ a)
      (sym (mul-one (gcd a b)) ∙ ap (λ (x : ℕ). gcd a b * x) (sym e) ∙ mul-div_cancel' (gcd a b) (gcd_dvd_right a b))
      (gcd_dvd_left a b)

  pub over-gcd_one_of_dvd : b ∣ a → b / gcd a b ≡ 1
  over-gcd_one_of_dvd h =
      eq_of_mul-eq-mul_left (gcd a b) (gcd-pos a b p) (b / gcd a b) 1
      (mul-div_cancel' (gcd a b) (gcd_dvd_right a b)
      ∙ dvd_antisymm (gcd-greatest a b b h (dvd_refl b)) (gcd_dvd_right a b) ∙ sym (mul-one (gcd a b)))
