-- What the rules' numbers stand for in a ring. The operations on numbers are operations of the ring wherever
-- the numbers are good ones: in the rational numbers those in lowest terms, modulo m the whole ones. So a
-- walk that only adds, multiplies and negates is followed once, for every ring.
--     Valuation, Division       the laws, and those of the quotient, which not every ring has
--     Stands, plus-stands, times-stands       what an operation under a limit yields
--     rationals, rational_division       both for ℚring
use mathlib.Core.Path.{◌≡◌, sym, ◌∙◌, subst}
use mathlib.Core.Bool.{true, false}
use mathlib.Core.List.{[], ◌∷◌}
use Prim.Native.Nat.{zero, suc, ◌<◌}
use native.Mathlib.Nat.{zero-lt-suc}
use lib.Dec.{T}
use lib.IntN.{ℤ, pos, negsuc, nat_abs}
use Rattle.numbers.specs.Pair.{whole_p, inv_p, eq_z}
use Rattle.numbers.specs.Rational as Rational
use Rattle.numbers.specs.Rational.{Rational, whole, Lowest, add_q, mul_q, neg_q, div_q, is_zero}
use Rattle.numbers.proofs.Integers.{◌⊗◌, 𝟙, ◌≐◌, ◌·◌, ◌and◌, ◌from◌}
use Rattle.numbers.proofs.Ring.{Ring, derive, ◌and◌}
use Rattle.numbers.proofs.Order.{at_positive}
use Rattle.numbers.proofs.Pairs.{mul_inv}
use Rattle.numbers.proofs.LowestTerms.{whole_is_lowest, eq_of_value-eq}
use Rattle.numbers.proofs.Rationals.{add-value, mul-value, neg_value, div_value, whole-value, is_zero-value, add-lowest}
use Rattle.numbers.proofs.Rationals.{mul-lowest, neg-lowest, div-lowest, eq_z-eq}
use Rattle.numbers.proofs.Quotient.{ℚ, mk, ℚring, product, mk-eq, mk-add, mk-mul, mk-neg, mk-whole, ≈_of_mk-eq}
use Rattle.rules.specs.Limits.{Limits, plus, times}
use Rattle.rules.proofs.Yields.{Yields, weaker, plus-yields, times-yields}
use Rattle.terms.specs.Term.{Term, same}

pub record Valuation (R : Ring) : Type 1 where
  pub number : Rational → R.carrier
  pub Good : Rational → Type 0
  pub good-add : (a b : Rational) → Good a → Good b → Good (add_q a b)
  pub good-mul : (a b : Rational) → Good a → Good b → Good (mul_q a b)
  pub good-neg : (a : Rational) → Good a → Good (neg_q a)
  pub good-whole : (z : ℤ) → Good (whole z)
  pub number-add : (a b : Rational) → Good a → Good b → number (add_q a b) ≡ R.add (number a) (number b)
  pub number-mul : (a b : Rational) → Good a → Good b → number (mul_q a b) ≡ R.mul (number a) (number b)
  pub number-neg : (a : Rational) → Good a → number (neg_q a) ≡ R.neg (number a)
  pub number-whole : (z : ℤ) → number (whole z) ≡ R.ι z
  pub number-zero : (a : Rational) → Good a → is_zero a ≡ true → number a ≡ R.ι (pos 0)

-- the quotient by a number that is not 0, times that number, is the dividend
pub record Division {R : Ring} (N : Valuation R) : Type 0 where
  pub good-div : (a b : Rational) → N.Good a → N.Good b → is_zero b ≡ false → N.Good (div_q a b)
  pub number-div :
      (a b : Rational) → N.Good a → N.Good b → is_zero b ≡ false →
      R.mul (N.number (div_q a b)) (N.number b) ≡ N.number a

-- ---- operations under a limit

module _ {R : Ring} (N : Valuation R) where
  -- q is good and stands for x
  pub record Stands (q : Rational) (x : R.carrier) : Type 0 where
    pub good : N.Good q
    pub is : N.number q ≡ x

  module _ (l : Limits) (a b : Rational) (ga : N.Good a) (gb : N.Good b) where
    pub plus-stands : Yields (λ q. Stands q (R.add (N.number a) (N.number b))) (plus l a b)
    plus-stands =
        weaker (λ q e. record { good = rw e (N.good-add a b ga gb); is = rw e (N.number-add a b ga gb) })
        (plus-yields l a b)

    pub times-stands : Yields (λ q. Stands q (R.mul (N.number a) (N.number b))) (times l a b)
    times-stands =
        weaker (λ q e. record { good = rw e (N.good-mul a b ga gb); is = rw e (N.number-mul a b ga gb) })
        (times-yields l a b)

-- ---- in the rational numbers

abbrev pub numberℚ : Rational → ℚ
numberℚ q = mk (Rational.value q)

pub zero_number : (a : Rational) → Lowest a → is_zero a ≡ true → numberℚ a ≡ ℚring.ι (pos 0)
zero_number a la e =
    let v = Rational.value a in
    mk-eq v (whole_p (pos 0)) (eq_z-eq _ _ (sym (is_zero-value a la) ∙ e)) ∙ mk-whole (pos 0)

abbrev pub rationals : Valuation ℚring
rationals = record {
  number = numberℚ;
  Good = Lowest;
  good-add = add-lowest;
  good-mul = mul-lowest;
  good-neg = neg-lowest;
  good-whole = whole_is_lowest;
  number-add = λ a b la lb. mk-eq _ _ (add-value a b la lb) ∙ mk-add (Rational.value a) (Rational.value b);
  number-mul = λ a b la lb. mk-eq _ _ (mul-value a b la lb) ∙ mk-mul (Rational.value a) (Rational.value b);
  number-neg = λ a la. mk-eq _ _ (neg_value a la) ∙ mk-neg (Rational.value a);
  number-whole = λ z. mk-eq _ _ (whole-value z) ∙ mk-whole z;
  number-zero = zero_number;
}

-- ---- the quotient

nonzero-size : (n : ℤ) → eq_z n (pos 0) ≡ false → 0 < nat_abs n
nonzero-size (pos zero) h = absurd (subst T h tt)
nonzero-size (pos (suc n)) h = zero-lt-suc n
nonzero-size (negsuc n) h = zero-lt-suc n

module _ (a b : Rational) (la : Lowest a) (lb : Lowest b) (h : is_zero b ≡ false) where
  nonzero-value : 0 < nat_abs (Rational.value b).num
  unfolding Rational.value is_zero
  nonzero-value =
      at_positive (λ d. 0 < nat_abs (Rational.over_p b.num d).num) (λ k. nonzero-size b.num h)
      b.den lb.positive

  quotient-number : product (numberℚ (div_q a b)) (numberℚ b) ≡ numberℚ a
  quotient-number =
      let v = Rational.value b in
      derive ℚring (numberℚ (div_q a b) ∷ numberℚ a ∷ numberℚ b ∷ mk (inv_p v) ∷ [])
      (λ q a b i. q ⊗ b ≐ a from b · q ≐ a ⊗ i and a · b ⊗ i ≐ 𝟙) tt
      (mk-eq _ _ (div_value a b la lb h) ∙ mk-mul (Rational.value a) (inv_p v))
      (sym (mk-mul v (inv_p v)) ∙ mk-eq _ _ (mul_inv v nonzero-value) ∙ mk-whole (pos 1))

pub rational_division : Division rationals
rational_division = record { good-div = div-lowest; number-div = quotient-number }

-- atoms of one record number have one value
abbrev pub Respects : {A : Type 0} → (Term → Type 0) → (Term → A) → Type 0
Respects Known v = (s t : Term) → Known s → Known t → same s t ≡ true → v s ≡ v t

-- numbers in lowest terms that stand for one value are one number
pub number_unique : (a b : Rational) → Lowest a → Lowest b → numberℚ a ≡ numberℚ b → a ≡ b
number_unique a b la lb e = eq_of_value-eq a b la lb (≈_of_mk-eq (Rational.value a) (Rational.value b) e)
