-- A law for each operation of specs/Rational on numbers in lowest terms: its value, as a pair, is the operation on the
-- values, and its result is in lowest terms.
--     add-value, mul-value, div_value, neg_value, whole-value       the values
--     add-lowest, mul-lowest, div-lowest, neg-lowest, abs_lowest, floor-lowest       lowest terms
--     abs_of_nonneg, abs_of_neg       the absolute value
--     less-value, less_eq-value, is_zero-value, is_positive-value, is_integer-value, eq_q-eq       the tests
-- The floor is in proofs/Floor.
use mathlib.Core.Path.{◌≡◌, refl, sym, ◌∙◌, ap, ap₂, subst, subst₂}
use mathlib.Core.Bool.{true, false, ◌&&◌}
use Prim.Native.Nat.{ℕ, zero, suc, ◌*◌, ◌<◌}
use native.Mathlib.Nat.{zero-lt-suc, mul-pos, lt_irrefl, not-suc-le-zero}
use borrow.Author.Tests.{eqb-true, eq-eqb}
use lib.Dec.{T, ltb→lt}
use lib.IntN.{ℤ, pos, negsuc, neg_ℤ, nat_abs, ◌+ℤ◌, ◌*ℤ◌, zero-*ℤ, *ℤ-negsuc}
use lib.Signed.{le_z, lt_z, ◌≤ℤ◌, ◌<ℤ◌, yes_non_neg, pos-nat_abs}
use Rattle.numbers.specs.Pair.{pair, whole_p, add_p, mul_p, neg_p, div_p, eq_z, eq_p, less_p, less_eq_p, ◌≈◌}
use Rattle.numbers.specs.Rational.{Rational, frac, whole, gcd, Lowest, lowest, upright, value, over_p, mul_q, div_q}
use Rattle.numbers.specs.Rational.{add_q, neg_q, abs_q, is_integer, is_zero, is_positive, eq_q, less_q, less_eq_q}
use Rattle.numbers.proofs.Truths.{both}
use Rattle.numbers.proofs.Integers.{nat_abs_negℤ, *ℤ_idr}
use Rattle.numbers.proofs.Order
use Rattle.numbers.proofs.Order.{at_positive, pos-positive}
use Rattle.numbers.proofs.Pairs.{≈_trans}
use Rattle.numbers.proofs.LowestTerms.{at_dens, lowest-value, lowest_is_lowest, eq_of_value-eq, whole_is_lowest}

-- ---- values

pub whole-value : (z : ℤ) → value (whole z) ≈ whole_p z
unfolding value
whole-value z = refl

pub neg_value : (a : Rational) → Lowest a → value (neg_q a) ≈ neg_p (value a)
unfolding value neg_q
neg_value a la = at_positive (λ d. over_p (neg_ℤ a.num) d ≈ neg_p (over_p a.num d)) (λ k. refl) a.den la.positive

module _ (a b : Rational) (la : Lowest a) (lb : Lowest b) where
  dens-pos : pos 0 <ℤ (a.den *ℤ b.den)
  dens-pos = Order.mul-pos la.positive lb.positive

  pub add-lowest : Lowest (add_q a b)
  unfolding add_q
  add-lowest = lowest_is_lowest (a.num *ℤ b.den +ℤ b.num *ℤ a.den) (a.den *ℤ b.den) dens-pos

  pub mul-lowest : Lowest (mul_q a b)
  unfolding mul_q
  mul-lowest = lowest_is_lowest (a.num *ℤ b.num) (a.den *ℤ b.den) dens-pos

  -- at denominators 1 + j and 1 + k both sides are one numerator over (1 + j) (1 + k)
  pub add-value : value (add_q a b) ≈ add_p (value a) (value b)
  unfolding value add_q
  add-value =
      at_dens
      (λ d e. value (lowest (a.num *ℤ e +ℤ b.num *ℤ d) (d *ℤ e)) ≈ add_p (over_p a.num d) (over_p b.num e))
      (λ j k. lowest-value (a.num *ℤ pos (suc k) +ℤ b.num *ℤ pos (suc j)) (suc j * suc k) (mul-pos (zero-lt-suc j) (zero-lt-suc k)))
      a.den b.den la.positive lb.positive

  pub mul-value : value (mul_q a b) ≈ mul_p (value a) (value b)
  unfolding value mul_q
  mul-value =
      at_dens (λ d e. value (lowest (a.num *ℤ b.num) (d *ℤ e)) ≈ mul_p (over_p a.num d) (over_p b.num e))
      (λ j k. lowest-value (a.num *ℤ b.num) (suc j * suc k) (mul-pos (zero-lt-suc j) (zero-lt-suc k)))
      a.den b.den la.positive lb.positive

  pub less-value : less_q a b ≡ less_p (value a) (value b)
  unfolding value less_q
  less-value =
      at_dens (λ d e. lt_z (a.num *ℤ e) (b.num *ℤ d) ≡ less_p (over_p a.num d) (over_p b.num e)) (λ j k. refl)
      a.den b.den la.positive lb.positive

  pub less_eq-value : less_eq_q a b ≡ less_eq_p (value a) (value b)
  unfolding value less_eq_q
  less_eq-value =
      at_dens (λ d e. le_z (a.num *ℤ e) (b.num *ℤ d) ≡ less_eq_p (over_p a.num d) (over_p b.num e)) (λ j k. refl)
      a.den b.den la.positive lb.positive

-- ---- the quotient

-- the sign of a negative divisor moves up
upright-neg : (n : ℤ) (x : ℕ) → 0 < x → upright n (neg_ℤ (pos x)) ≡ lowest (neg_ℤ n) (pos x)
upright-neg n zero p = absurd (lt_irrefl 0 p)
upright-neg n (suc x) p = refl

-- m / (1 + j) over n / (1 + k), by the sign of n
record Quotient (m n : ℤ) (j k : ℕ) : Type 0 where
  in_lowest : Lowest (upright (m *ℤ pos (suc k)) (pos (suc j) *ℤ n))
  has_value : value (upright (m *ℤ pos (suc k)) (pos (suc j) *ℤ n)) ≈ div_p (pair m (suc j) (zero-lt-suc j)) (pair n (suc k) (zero-lt-suc k))

quotient : (m n : ℤ) → eq_z n (pos 0) ≡ false → (j k : ℕ) → Quotient m n j k
quotient m (pos zero) h j k = absurd (subst T h tt)
quotient m (pos (suc i)) h j k =
    let p : 0 < suc j * suc i = mul-pos (zero-lt-suc j) (zero-lt-suc i) in
    record {
      in_lowest = lowest_is_lowest (m *ℤ pos (suc k)) (pos (suc j * suc i)) (pos-positive p);
      has_value = lowest-value (m *ℤ pos (suc k)) (suc j * suc i) p;
    }
quotient m (negsuc i) h j k =
    let x = suc j * suc i in
    let p : 0 < x = mul-pos (zero-lt-suc j) (zero-lt-suc i) in
    let n = neg_ℤ (m *ℤ pos (suc k)) in
    let up = sym (upright-neg (m *ℤ pos (suc k)) x p) in
    record {
      in_lowest = subst Lowest up (lowest_is_lowest n (pos x) (pos-positive p));
      has_value = subst₂ (λ (q : Rational) (z : ℤ). value q ≈ pair z x p) up (sym (*ℤ-negsuc m k)) (lowest-value n x p);
    }

module _ (a b : Rational) (la : Lowest a) (lb : Lowest b) (h : is_zero b ≡ false) where
  pub div-lowest : Lowest (div_q a b)
  unfolding div_q is_zero
  div-lowest =
      at_dens (λ d e. Lowest (upright (a.num *ℤ e) (d *ℤ b.num))) (λ j k. (quotient a.num b.num h j k).in_lowest)
      a.den b.den la.positive lb.positive

  pub div_value : value (div_q a b) ≈ div_p (value a) (value b)
  unfolding value div_q is_zero
  div_value =
      at_dens (λ d e. value (upright (a.num *ℤ e) (d *ℤ b.num)) ≈ div_p (over_p a.num d) (over_p b.num e))
      (λ j k. (quotient a.num b.num h j k).has_value) a.den b.den la.positive lb.positive

-- ---- negation and absolute value

pub neg-lowest : (a : Rational) → Lowest a → Lowest (neg_q a)
unfolding neg_q
neg-lowest a la =
    record {
      positive = la.positive;
      coprime = ap (λ (n : ℕ). gcd n (nat_abs a.den)) (nat_abs_negℤ a.num) ∙ la.coprime;
    }

pub abs_lowest : (a : Rational) → Lowest a → Lowest (abs_q a)
unfolding abs_q
abs_lowest a la = record { positive = la.positive; coprime = la.coprime }

pub abs_of_nonneg : (a : Rational) → pos 0 ≤ℤ a.num → abs_q a ≡ a
unfolding abs_q
abs_of_nonneg a h = ap (λ (z : ℤ). frac z a.den) (pos-nat_abs a.num (yes_non_neg h))

pub abs_of_neg : (a : Rational) → a.num <ℤ pos 0 → abs_q a ≡ neg_q a
unfolding abs_q neg_q
abs_of_neg a h = ap (λ (z : ℤ). frac z a.den) (at a.num h)
  where
    at : (z : ℤ) → z <ℤ pos 0 → pos (nat_abs z) ≡ neg_ℤ z
    at (pos n) h = absurd (not-suc-le-zero (ltb→lt n 0 h.lt))
    at (negsuc n) h = refl

-- ---- the tests

pub eq_z-eq : (x y : ℤ) → eq_z x y ≡ true → x ≡ y
eq_z-eq (pos x) (pos y) e = ap pos (eqb-true x y e)
eq_z-eq (pos x) (negsuc y) e = absurd (subst T (sym e) tt)
eq_z-eq (negsuc x) (pos y) e = absurd (subst T (sym e) tt)
eq_z-eq (negsuc x) (negsuc y) e = ap negsuc (eqb-true x y e)

pub eq_z-refl : (x : ℤ) → eq_z x x ≡ true
eq_z-refl (pos x) = eq-eqb x x refl
eq_z-refl (negsuc x) = eq-eqb x x refl

pub eq_q-eq : (a b : Rational) → eq_q a b ≡ true → a ≡ b
unfolding eq_q
eq_q-eq a b e =
    let h = both (eq_z a.num b.num) (eq_z a.den b.den) e in
    ap₂ frac (eq_z-eq a.num b.num h.0) (eq_z-eq a.den b.den h.1)

pub eq_q-refl : (a : Rational) → eq_q a a ≡ true
unfolding eq_q
eq_q-refl a = ap₂ ◌&&◌ (eq_z-refl a.num) (eq_z-refl a.den)

pub is_zero-value : (a : Rational) → Lowest a → is_zero a ≡ eq_p (value a) (whole_p (pos 0))
unfolding value is_zero
is_zero-value a la =
    at_positive (λ d. eq_z a.num (pos 0) ≡ eq_p (over_p a.num d) (whole_p (pos 0)))
    (λ k. ap₂ eq_z (sym (*ℤ_idr a.num)) (sym (zero-*ℤ (pos (suc k))))) a.den la.positive

pub is_positive-value : (a : Rational) → Lowest a → is_positive a ≡ less_p (whole_p (pos 0)) (value a)
unfolding value is_positive
is_positive-value a la =
    at_positive (λ d. lt_z (pos 0) a.num ≡ less_p (whole_p (pos 0)) (over_p a.num d))
    (λ k. ap₂ lt_z (sym (zero-*ℤ (pos (suc k)))) (sym (*ℤ_idr a.num))) a.den la.positive

-- a whole number has the denominator 1, and only a whole number has
pub is_integer-whole : (a : Rational) → is_integer a ≡ true → a ≡ whole a.num
unfolding is_integer
is_integer-whole a e = ap (frac a.num) (eq_z-eq a.den (pos 1) e)

pub is_integer-value : (a : Rational) → Lowest a → (z : ℤ) → value a ≈ whole_p z → is_integer a ≡ true
unfolding is_integer
is_integer-value a la z h =
    ap is_integer (eq_of_value-eq a (whole z) la (whole_is_lowest z) (≈_trans (value a) (whole_p z) (value (whole z)) h (sym (whole-value z))))
