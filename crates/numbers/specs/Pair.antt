-- Values of numbers, as document 01's 'Meaning' has them: a whole number over a positive one, of any size, not in
-- lowest terms. They are added and multiplied as such pairs, and compared by their cross products.
use Rattle.std.specs.Prelude.{◌≡◌, refl, Bool, true, false, ℕ, zero, suc, ◌*◌, ◌<◌, eqb, ℤ, pos, negsuc, neg_ℤ, ◌+ℤ◌}
use Rattle.std.specs.Prelude.{◌*ℤ◌, ◌≤ℤ◌, ◌<ℤ◌}
use Rattle.std.proofs.Common.{mul-pos, zero-lt-suc}
use Rattle.std.specs.Int.Signed.{le_z, lt_z}

pub record Pair : Type 0 where
  pub num : ℤ
  pub den : ℕ
  pub positive : 0 < den

abbrev pub pair : (n : ℤ) (d : ℕ) → 0 < d → Pair
pair n d p = record { num = n; den = d; positive = p }

-- a whole number is itself over 1
abbrev pub whole_p : ℤ → Pair
whole_p z = pair z 1 (zero-lt-suc 0)

-- ---- the operations

abbrev pub add_p : Pair → Pair → Pair
add_p a b =
    pair (a.num *ℤ pos b.den +ℤ b.num *ℤ pos a.den) (a.den * b.den) (mul-pos a.positive b.positive)

abbrev pub mul_p : Pair → Pair → Pair
mul_p a b = pair (a.num *ℤ b.num) (a.den * b.den) (mul-pos a.positive b.positive)

abbrev pub neg_p : Pair → Pair
neg_p a = pair (neg_ℤ a.num) a.den a.positive

-- one over n/d: d over n, with the sign above; 0 has no inverse, and 0 stands here
abbrev pub flipped : ℤ → ℕ → Pair
flipped (pos zero) d = whole_p (pos 0)
flipped (pos (suc n)) d = pair (pos d) (suc n) (zero-lt-suc n)
flipped (negsuc n) d = pair (neg_ℤ (pos d)) (suc n) (zero-lt-suc n)

abbrev pub inv_p : Pair → Pair
inv_p a = flipped a.num a.den

-- the quotient by a number that is not 0
abbrev pub div_p : Pair → Pair → Pair
div_p a b = mul_p a (inv_p b)

-- ---- comparison by cross products, as a test and as a statement

abbrev pub eq_z : ℤ → ℤ → Bool
eq_z (pos a) (pos b) = eqb a b
eq_z (pos a) (negsuc b) = false
eq_z (negsuc a) (pos b) = false
eq_z (negsuc a) (negsuc b) = eqb a b

abbrev pub eq_p : Pair → Pair → Bool
eq_p a b = eq_z (a.num *ℤ pos b.den) (b.num *ℤ pos a.den)

abbrev pub less_p : Pair → Pair → Bool
less_p a b = lt_z (a.num *ℤ pos b.den) (b.num *ℤ pos a.den)

abbrev pub less_eq_p : Pair → Pair → Bool
less_eq_p a b = le_z (a.num *ℤ pos b.den) (b.num *ℤ pos a.den)

infix 4 ◌≈◌ ◌≤P◌ ◌<P◌
abbrev pub ◌≈◌ : Pair → Pair → Type 0
a ≈ b = a.num *ℤ pos b.den ≡ b.num *ℤ pos a.den

abbrev pub ◌≤P◌ : Pair → Pair → Type 0
a ≤P b = (a.num *ℤ pos b.den) ≤ℤ (b.num *ℤ pos a.den)

abbrev pub ◌<P◌ : Pair → Pair → Type 0
a <P b = (a.num *ℤ pos b.den) <ℤ (b.num *ℤ pos a.den)

-- ---- examples: 1/2 + 1/3 is 5/6, 2/4 is 1/2, 1 over -2/3 is -3/2, and -1/2 is below 1/3

half : Pair
half = pair (pos 1) 2 (zero-lt-suc 1)

third : Pair
third = pair (pos 1) 3 (zero-lt-suc 2)

sum_of_half_and_third : eq_p (add_p half third) (pair (pos 5) 6 (zero-lt-suc 5)) ≡ true
unfolding half third
sum_of_half_and_third = refl

two_quarters : eq_p (pair (pos 2) 4 (zero-lt-suc 3)) half ≡ true
unfolding half
two_quarters = refl

inverse_of_a_negative : eq_p (inv_p (pair (negsuc 1) 3 (zero-lt-suc 2))) (pair (negsuc 2) 2 (zero-lt-suc 1)) ≡ true
inverse_of_a_negative = refl

negative-below-positive : less_p (neg_p half) third ≡ true
unfolding half third
negative-below-positive = refl
