-- The premise of poly_simp_rel on numbers (`numbers-alike`): where c1 (x1 - x2) = c2 (y1 - y2) and c1 and c2 are
-- not 0, the one difference is 0 where the other is; and where c1 and c2 have one sign, the one is at least 0
-- where the other is. So the relation says of x1 and x2 what it says of y1 and y2.
--     equality-alike       a relation that is equality says the same where equality does
--     equation-true       the sides of an equation that is true are equal
use mathlib.Core.Path.{◌≡◌, sym, ◌∙◌, ap, ap₂}
use mathlib.Core.Bool.{true, false, not}
use mathlib.Core.List.{[], ◌∷◌}
use mathlib.Core.Logic.{◌⊎◌, inl, inr, ⊎_elim}
use Prim.Native.Nat.{ℕ}
use native.Mathlib.Omega.{arith}
use lib.IntN.{pos}
use Rattle.numbers.specs.Pair.{Pair, eq_p, less_p, less_eq_p}
use Rattle.numbers.specs.Rational as Rational
use Rattle.numbers.specs.Rational.{Rational, Lowest, is_zero, div_q, whole}
use Rattle.terms.specs.Operator.{Equals, Mult}
use Rattle.terms.specs.Term.{Term}
use Rattle.numbers.specs.Choice.{when◌then◌else◌}
use Rattle.terms.specs.Smtlib.{Assignment, value, values, meaning, fold_left}
use Rattle.numbers.proofs.Truths.{true-T, T_true, same_test, true_or_false, never}
use Rattle.numbers.proofs.Comparisons.{of_eq_p, eq_p-true, less_p-not}
use Rattle.numbers.proofs.Ring.{◌⊕◌, ◌⊖◌, ◌⊗◌, neg, 𝟘, 𝟙, ◌≐◌, ◌·◌, ◌and◌, ◌from◌, solve, derive}
use Rattle.numbers.proofs.Quotient.{ℚ, mk, ℚring, product, opposite, ι, mk-eq, ≈_of_mk-eq, mk-mul}
use Rattle.book.proofs.WellFormed.{WellFormed}
use Rattle.book.proofs.Fractions.{as_fraction-value}
use Rattle.alethe.specs.Alethe.{Departures, Is2, is, Difference, Written, ScaledNumbers, IsRelation, equals, less_than}
use Rattle.alethe.specs.Alethe.{less_eq, greater_than, greater_eq}
use Rattle.alethe.specs.Alethe.Difference.{plain, real_difference}
use Rattle.rules.proofs.Valuations.{numberℚ, rationals, rational_division}
use Rattle.alethe.proofs.Signs.{Nonneg, Positive, is_nonneg, is_positive, nonneg-as, positive-as, positive_of_not-nonneg}
use Rattle.alethe.proofs.Signs.{positive-not-nonneg, positive_of_nonneg, zero-not-positive, nonneg_of_positive}
use Rattle.alethe.proofs.Signs.{positive-add, nonneg-mul, positive-mul, at_most, below, ◌less◌, mk-less}
use Rattle.rules_theory.proofs.NumberSigns.{positive-number, zero_of_number}
use Rattle.alethe.proofs.Literals.{test, at, says, relation-says}
use Rattle.rules_theory.proofs.Shapes.{arguments-formed}
use Rattle.rules_theory.proofs.WrittenNumbers.{written_read}

-- ---- the signs of numbers whose multiples are equal

nonneg_or_opposite : (x : ℚ) → Nonneg x ⊎ Positive (opposite x)
nonneg_or_opposite x =
    ⊎_elim (λ e. inl (true-T e))
    (λ e. inr (positive_of_not-nonneg x (λ h. never (sym e ∙ T_true (is_nonneg x) h))))
    (true_or_false (is_nonneg x))

module _ (a b d e : ℚ) (h : product a d ≡ product b e) where
  -- otherwise a d + b (-e), which is 0, is above 0
  nonneg_follows : Positive a → Positive b → Nonneg d → Nonneg e
  nonneg_follows pa pb n =
      ⊎_elim (λ k. k)
      (λ k.
      absurd
      (zero-not-positive
      (positive-as
      (derive ℚring (a ∷ b ∷ d ∷ e ∷ []) (λ a b d e. b ⊗ neg e ⊕ a ⊗ d ≐ 𝟘 from 𝟙 · a ⊗ d ≐ b ⊗ e) tt h)
      (positive-add (product b (opposite e)) (product a d) (positive-mul b (opposite e) pb k)
      (nonneg-mul a d (nonneg_of_positive a pa) n)))))
      (nonneg_or_opposite e)

-- the order of two pairs is the sign of their difference
of_at_most : (x y : Pair) → Nonneg (mk y less mk x) → less_eq_p x y ≡ true
of_at_most x y h =
    ⊎_elim (λ e. e)
    (λ e.
    absurd
    (positive-not-nonneg (mk x less mk y)
    (below y x (true-T (less_p-not x y ∙ ap not e)))
    (nonneg-as (solve ℚring (mk x ∷ mk y ∷ []) (λ x y. y ⊖ x ≐ neg (x ⊖ y)) tt) h)))
    (true_or_false (less_eq_p x y))

-- a multiple by a number that is not 0 is 0 at 0 only
zero_of_multiple :
    (q : Rational) → Lowest q → is_zero q ≡ false → (z : ℚ) → product (numberℚ q) z ≡ ι (pos 0) → z ≡ ι (pos 0)
zero_of_multiple q lq n z h =
    derive ℚring (numberℚ q ∷ numberℚ (div_q (whole (pos 1)) q) ∷ z ∷ [])
    (λ q i z. z ≐ 𝟘 from neg z · i ⊗ q ≐ 𝟙 and i · q ⊗ z ≐ 𝟘) tt
    (rational_division.number-div (whole (pos 1)) q (rationals.good-whole (pos 1)) lq n
    ∙ rationals.number-whole (pos 1)) h

-- a number that is not 0 and not positive has a positive opposite
opposite-positive :
    (q : Rational) → Lowest q → is_zero q ≡ false → Rational.is_positive q ≡ false →
    Positive (opposite (numberℚ q))
opposite-positive q lq z n =
    positive_of_not-nonneg (numberℚ q) λ h.
    never
    (sym n
    ∙ sym (positive-number q lq)
    ∙ T_true (is_positive (numberℚ q))
    (positive_of_nonneg (numberℚ q) h (λ e. never (sym z ∙ zero_of_number q lq e))))

-- a relation that is equality
pub equality-alike :
    {o : ℕ} (r : IsRelation o) → o ≡ Equals → (x y u v : Pair) → eq_p x y ≡ eq_p u v → test r x y ≡ test r u v
equality-alike equals e x y u v h = h
equality-alike less_than e x y u v h = absurd (omega (arith, e))
equality-alike less_eq e x y u v h = absurd (omega (arith, e))
equality-alike greater_than e x y u v h = absurd (omega (arith, e))
equality-alike greater_eq e x y u v h = absurd (omega (arith, e))

-- ---- the differences compare with 0 alike

module _ (q1 q2 : Rational) (l1 : Lowest q1) (l2 : Lowest q2) (z1 : is_zero q1 ≡ false) (z2 : is_zero q2 ≡ false) where
  -- q1 (x - y) = q2 (u - v)
  abbrev Scaled : Pair → Pair → Pair → Pair → Type 0
  Scaled x y u v = product (numberℚ q1) (mk x less mk y) ≡ product (numberℚ q2) (mk u less mk v)

  turned_round : (x y u v : Pair) → Scaled x y u v → Scaled y x v u
  turned_round x y u v h =
      derive ℚring (numberℚ q1 ∷ numberℚ q2 ∷ mk x ∷ mk y ∷ mk u ∷ mk v ∷ [])
      (λ a b x y u v. a ⊗ (y ⊖ x) ≐ b ⊗ (v ⊖ u) from neg 𝟙 · a ⊗ (x ⊖ y) ≐ b ⊗ (u ⊖ v)) tt h

  eq_follows : (x y u v : Pair) → Scaled x y u v → eq_p x y ≡ true → eq_p u v ≡ true
  eq_follows x y u v h e =
      eq_p-true u v
      (≈_of_mk-eq u v
      (derive ℚring (mk u ∷ mk v ∷ []) (λ u v. u ≐ v from 𝟙 · u ⊖ v ≐ 𝟘) tt
      (zero_of_multiple q2 l2 z2 (mk u less mk v)
      (derive ℚring (numberℚ q1 ∷ numberℚ q2 ∷ mk x ∷ mk y ∷ mk u ∷ mk v ∷ [])
      (λ a b x y u v. b ⊗ (u ⊖ v) ≐ 𝟘 from neg 𝟙 · a ⊗ (x ⊖ y) ≐ b ⊗ (u ⊖ v) and a · x ≐ y) tt h
      (mk-eq x y (of_eq_p x y e))))))

  module _ (sign : Rational.is_positive q1 ≡ Rational.is_positive q2) where
    -- negative factors are replaced by their opposites
    nonneg-alike : (d e : ℚ) → product (numberℚ q1) d ≡ product (numberℚ q2) e → Nonneg d → Nonneg e
    nonneg-alike d e h =
        ⊎_elim
        (λ p.
        nonneg_follows a b d e h (true-T (positive-number q1 l1 ∙ p))
        (true-T (positive-number q2 l2 ∙ sym sign ∙ p)))
        (λ n.
        nonneg_follows (opposite a) (opposite b) d e
        (derive ℚring (a ∷ b ∷ d ∷ e ∷ []) (λ a b d e. neg a ⊗ d ≐ neg b ⊗ e from neg 𝟙 · a ⊗ d ≐ b ⊗ e) tt h)
        (opposite-positive q1 l1 z1 n) (opposite-positive q2 l2 z2 (sym sign ∙ n)))
        (true_or_false (Rational.is_positive q1))
      where
        a : ℚ
        a = numberℚ q1

        b : ℚ
        b = numberℚ q2

    less_eq_follows : (x y u v : Pair) → Scaled x y u v → less_eq_p x y ≡ true → less_eq_p u v ≡ true
    less_eq_follows x y u v h e =
        of_at_most u v
        (nonneg-alike (mk y less mk x) (mk v less mk u) (turned_round x y u v h) (at_most x y (true-T e)))

module _ (q1 q2 : Rational) (l1 : Lowest q1) (l2 : Lowest q2) (z1 : is_zero q1 ≡ false) (z2 : is_zero q2 ≡ false) where
  eq-alike : (x y u v : Pair) → Scaled q1 q2 l1 l2 z1 z2 x y u v → eq_p x y ≡ eq_p u v
  eq-alike x y u v h =
      same_test (eq_p x y) (eq_p u v) (eq_follows q1 q2 l1 l2 z1 z2 x y u v h)
      (eq_follows q2 q1 l2 l1 z2 z1 u v x y (sym h))

  module _ (sign : Rational.is_positive q1 ≡ Rational.is_positive q2) where
    less_eq-alike : (x y u v : Pair) → Scaled q1 q2 l1 l2 z1 z2 x y u v → less_eq_p x y ≡ less_eq_p u v
    less_eq-alike x y u v h =
        same_test (less_eq_p x y) (less_eq_p u v) (less_eq_follows q1 q2 l1 l2 z1 z2 sign x y u v h)
        (less_eq_follows q2 q1 l2 l1 z2 z1 (sym sign) u v x y (sym h))

    less-alike : (x y u v : Pair) → Scaled q1 q2 l1 l2 z1 z2 y x v u → less_p x y ≡ less_p u v
    less-alike x y u v h = less_p-not y x ∙ ap not (less_eq-alike y x v u h) ∙ sym (less_p-not v u)

    tests-alike :
        {o : ℕ} (r : IsRelation o) (x y u v : Pair) → Scaled q1 q2 l1 l2 z1 z2 x y u v →
        test r x y ≡ test r u v
    tests-alike equals x y u v h = eq-alike x y u v h
    tests-alike less_than x y u v h = less-alike x y u v (turned_round q1 q2 l1 l2 z1 z2 x y u v h)
    tests-alike less_eq x y u v h = less_eq-alike x y u v h
    tests-alike greater_than x y u v h = less-alike y x v u h
    tests-alike greater_eq x y u v h = less_eq-alike y x v u (turned_round q1 q2 l1 l2 z1 z2 x y u v h)

  test-alike :
      {o : ℕ} (r : IsRelation o) → (o ≡ Equals) ⊎ (Rational.is_positive q1 ≡ Rational.is_positive q2) →
      (x y u v : Pair) → Scaled q1 q2 l1 l2 z1 z2 x y u v → test r x y ≡ test r u v
  test-alike r (inr sign) x y u v h = tests-alike sign r x y u v h
  test-alike r (inl e) x y u v h = equality-alike r e x y u v (eq-alike x y u v h)

-- ---- numbers

-- the two sides of an equation that is true
pub equation-true :
    (ρ : Assignment) {a b t : Term} → Is2 Equals a b t → says ρ t ≡ true → eq_p (at ρ a) (at ρ b) ≡ true
equation-true ρ h e = sym (relation-says ρ equals h) ∙ e

module _ (by : Departures) (ρ : Assignment) where
  difference-value : {x y d : Term} → Difference by x y d → mk (at ρ d) ≡ mk (at ρ x) less mk (at ρ y)
  unfolding value values meaning when◌then◌else◌ fold_left
  difference-value {x} {y} (plain (is i)) = mk-less (at ρ x) (at ρ y)
  difference-value {x} {y} (real_difference g (is i) (is j)) = mk-less (at ρ x) (at ρ y)

  product_value : {a b t : Term} → Is2 Mult a b t → mk (at ρ t) ≡ product (mk (at ρ a)) (mk (at ρ b))
  unfolding value values meaning when◌then◌else◌ fold_left
  product_value {a} {b} (is i) = mk-mul (at ρ a) (at ρ b)

  -- c times a difference
  multiple-value :
      {c x y d t : Term} {q : Rational} → WellFormed t → Written c q → Difference by x y d → Is2 Mult c d t →
      (mk (at ρ t) ≡ product (numberℚ q) (mk (at ρ x) less mk (at ρ y))) × Lowest q
  unfolding WellFormed
  multiple-value {c} {q = q} w r d p =
      let k = as_fraction-value c (arguments-formed p w).0 q (written_read r) ρ in
      (product_value p ∙ ap₂ product (mk-eq _ _ k.0) (difference-value d), k.1)

  pub numbers-alike :
      {o : ℕ} (r : IsRelation o) {premise x1 x2 y1 y2 : Term} → WellFormed premise →
      ScaledNumbers by o premise x1 x2 y1 y2 → says ρ premise ≡ true →
      test r (at ρ x1) (at ρ x2) ≡ test r (at ρ y1) (at ρ y2)
  unfolding WellFormed
  numbers-alike r {x1 = x1} {x2} {y1} {y2} w s e =
      let ws = arguments-formed s.equation w in
      let a = multiple-value ws.0 s.first s.left_difference s.left_product in
      let b = multiple-value ws.1.0 s.second s.right_difference s.right_product in
      test-alike s.q1 s.q2 a.1 b.1 s.first_nonzero s.second_nonzero r s.same_sign
      (at ρ x1) (at ρ x2) (at ρ y1) (at ρ y2)
      (sym a.0
      ∙ mk-eq _ _ (of_eq_p (at ρ s.left) (at ρ s.right) (equation-true ρ s.equation e))
      ∙ b.0)
