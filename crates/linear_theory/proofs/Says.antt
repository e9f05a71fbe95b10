-- What an operator of rules 5 and 6 says of a value: = that it is 0, >= that it is at least 0, > that it is
-- above 0. The sum of two facts says what the joined operator says, and a multiple of a fact what the
-- weakened operator says. A fact about -d is what the rules test at the end.
--     Says, says-as       the facts
--     says-add, says-scaled       sums and multiples
--     stands_at_zero       a fact about -d says that 0 stands in the relation to d
use mathlib.Core.Path.{◌≡◌, refl, sym, ◌∙◌, subst}
use mathlib.Core.Bool.{Bool, true, false, not}
use mathlib.Core.List.{[], ◌∷◌}
use Prim.Native.Nat.{ℕ, zero, suc}
use native.Mathlib.Nat.{zero-lt-suc}
use lib.Dec.{T, eqb, lt→ltb}
use lib.IntN.{ℤ, pos, negsuc, nat_abs}
use lib.Signed.{lt_z}
use Rattle.numbers.specs.Pair.{eq_z}
use Rattle.numbers.specs.Rational as Rational
use Rattle.numbers.specs.Rational.{Rational, Lowest, abs_q, is_zero}
use Rattle.terms.specs.Operator.{Equals, GreaterThan, GreaterEq}
use Rattle.numbers.specs.Choice.{when◌then◌else◌}
use Rattle.numbers.proofs.Truths.{never, if_either}
use Rattle.numbers.proofs.Order.{pos-nonneg}
use Rattle.numbers.proofs.Rationals.{abs_lowest}
use Rattle.numbers.proofs.Ring.{◌⊕◌, ◌⊖◌, ◌⊗◌, neg, 𝟘, 𝟙, ◌≐◌, ◌·◌, ◌and◌, ◌from◌, solve, derive}
use Rattle.numbers.proofs.Quotient.{ℚ, ℚring, sum, product, ι}
use Rattle.process_disequality.specs.ProcessDisequality.{join_operators, scalar, weakened}
use Rattle.linear_arithmetic.specs.LinearArithmetic.{is_true_at_zero}
use Rattle.rules.proofs.Valuations.{numberℚ, zero_number}
use Rattle.alethe.proofs.Signs.{Nonneg, Positive, nonneg-as, positive-as, nonneg-add, positive-add, nonneg-mul}
use Rattle.alethe.proofs.Signs.{positive-mul, nonneg_of_positive, nonneg_of_zero, zero-not-positive}
use Rattle.alethe.proofs.Signs.{positive-not-nonneg, ◌less◌}
use Rattle.rules_theory.proofs.NumberSigns.{nonneg-number, positive-number, zero_of_number}

pub data Says : ℕ → ℚ → Type 0 where
  of_zero : {x : ℚ} → x ≡ ι (pos 0) → Says Equals x
  of_nonneg : {x : ℚ} → Nonneg x → Says GreaterEq x
  of_positive : {x : ℚ} → Positive x → Says GreaterThan x

pub says-as : {o : ℕ} {x y : ℚ} → x ≡ y → Says o x → Says o y
says-as {o} e h = subst (Says o) e h

-- ---- sums

add-positive : (x y : ℚ) → Nonneg x → Positive y → Positive (sum x y)
add-positive x y h k =
    positive-as (solve ℚring (x ∷ y ∷ []) (λ x y. y ⊕ x ≐ x ⊕ y) tt) (positive-add y x k h)

pub says-add : {o p : ℕ} {x y : ℚ} → Says o x → Says p y → Says (join_operators o p) (sum x y)
unfolding when◌then◌else◌
says-add {x} {y} (of_zero h) (of_zero k) =
    of_zero (derive ℚring (x ∷ y ∷ []) (λ x y. x ⊕ y ≐ 𝟘 from 𝟙 · x ≐ 𝟘 and 𝟙 · y ≐ 𝟘) tt h k)
says-add (of_zero h) (of_nonneg k) = of_nonneg (nonneg-add _ _ (nonneg_of_zero _ h) k)
says-add (of_zero h) (of_positive k) = of_positive (add-positive _ _ (nonneg_of_zero _ h) k)
says-add (of_nonneg h) (of_zero k) = of_nonneg (nonneg-add _ _ h (nonneg_of_zero _ k))
says-add (of_nonneg h) (of_nonneg k) = of_nonneg (nonneg-add _ _ h k)
says-add (of_nonneg h) (of_positive k) = of_positive (add-positive _ _ h k)
says-add (of_positive h) (of_zero k) = of_positive (positive-add _ _ h (nonneg_of_zero _ k))
says-add (of_positive h) (of_nonneg k) = of_positive (positive-add _ _ h k)
says-add (of_positive h) (of_positive k) = of_positive (positive-add _ _ h (nonneg_of_positive _ k))

nonzero-positive : (n : ℤ) → eq_z n (pos 0) ≡ false → T (lt_z (pos 0) (pos (nat_abs n)))
nonzero-positive (pos zero) h = never (sym h)
nonzero-positive (pos (suc n)) h = lt→ltb 0 (suc n) (zero-lt-suc n)
nonzero-positive (negsuc n) h = lt→ltb 0 (suc n) (zero-lt-suc n)

module _ (a : Rational) (la : Lowest a) where
  pub abs_nonneg : Nonneg (numberℚ (abs_q a))
  abs_nonneg =
      subst T (sym (nonneg-number (abs_q a) (abs_lowest a la)))
      (unfold abs_q in (pos-nonneg (nat_abs a.num)).le)

  abs_positive : is_zero a ≡ false → Positive (numberℚ (abs_q a))
  abs_positive z =
      subst T (sym (positive-number (abs_q a) (abs_lowest a la)))
      (unfold abs_q Rational.is_positive is_zero in nonzero-positive a.num z)

  -- ---- multiples

  pub scalar-lowest : (o : ℕ) → Lowest (scalar o a)
  scalar-lowest o = if_either Lowest (eqb o Equals) (λ e. la) (λ e. abs_lowest a la)

  pub says-scaled : {o : ℕ} {x : ℚ} → Says o x → Says (weakened o a) (product x (numberℚ (scalar o a)))
  unfolding when◌then◌else◌
  says-scaled {x = x} (of_zero h) =
      of_zero (derive ℚring (x ∷ numberℚ a ∷ []) (λ x a. x ⊗ a ≐ 𝟘 from a · x ≐ 𝟘) tt h)
  says-scaled (of_nonneg h) = of_nonneg (nonneg-mul _ _ h abs_nonneg)
  says-scaled {x = x} (of_positive h) =
      if_either (λ o. Says o (product x (numberℚ (abs_q a)))) (is_zero a)
      (λ z. of_nonneg (nonneg-mul _ _ (nonneg_of_positive x h) abs_nonneg))
      (λ z. of_positive (positive-mul _ _ h (abs_positive z)))

-- ---- the end

module _ (d : Rational) (ld : Lowest d) where
  abbrev minus : ℚ
  minus = ι (pos 0) less numberℚ d

  -- whether 0 stands in the relation, by the two tests on d
  abbrev standing : ℕ → Bool → Bool → Bool
  standing o p z = when p then false else when z then not (eqb o GreaterThan) else not (eqb o Equals)

  not-both : Nonneg minus → Positive (numberℚ d) → ⊥
  not-both h k =
      positive-not-nonneg (numberℚ d) k
      (nonneg-as (solve ℚring (numberℚ d ∷ []) (λ d. 𝟘 ⊖ d ≐ neg d) tt) h)

  positive_by : Rational.is_positive d ≡ true → Positive (numberℚ d)
  positive_by e = subst T (sym (positive-number d ld ∙ e)) tt

  at_tests : {o : ℕ} → Says o minus → (p z : Bool) → Rational.is_positive d ≡ p → is_zero d ≡ z →
      standing o p z ≡ true
  unfolding when◌then◌else◌
  at_tests (of_zero h) true z ep ez = absurd (not-both (nonneg_of_zero minus h) (positive_by ep))
  at_tests (of_zero h) false true ep ez = refl
  at_tests (of_zero h) false false ep ez =
      never
      (sym ez
      ∙ zero_of_number d ld
      (derive ℚring (numberℚ d ∷ []) (λ d. d ≐ 𝟘 from neg 𝟙 · 𝟘 ⊖ d ≐ 𝟘) tt h))
  at_tests (of_nonneg h) true z ep ez = absurd (not-both h (positive_by ep))
  at_tests (of_nonneg h) false true ep ez = refl
  at_tests (of_nonneg h) false false ep ez = refl
  at_tests (of_positive h) true z ep ez =
      absurd (not-both (nonneg_of_positive minus h) (positive_by ep))
  at_tests (of_positive h) false true ep ez =
      absurd
      (zero-not-positive
      (positive-as
      (derive ℚring (numberℚ d ∷ []) (λ d. 𝟘 ⊖ d ≐ 𝟘 from neg 𝟙 · d ≐ 𝟘) tt (zero_number d ld ez)) h))
  at_tests (of_positive h) false false ep ez = refl

  pub stands_at_zero : {o : ℕ} → Says o minus → is_true_at_zero o d ≡ true
  unfolding is_true_at_zero
  stands_at_zero h = at_tests h (Rational.is_positive d) (is_zero d) refl refl
