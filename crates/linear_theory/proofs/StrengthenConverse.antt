-- Step 4 of la_generic, the converse: where the Alethe side strengthens a constraint, the Rust's strengthening keeps
-- the same atoms, gives the same relation, and a bound that is at least as high (`strengthened-matches`). It raises >
-- by the greatest common divisor where the words raise by 1, and >= by 1 where the words leave a whole bound as it is.
--     Matches       what the Rust's strengthening is beside the Alethe side's
use mathlib.Core.Path.{◌≡◌, refl, sym, ◌∙◌, ap, subst}
use mathlib.Core.Bool.{Bool, true, false}
use mathlib.Core.List.{[], ◌∷◌}
use mathlib.Core.Logic.{◌⊎◌, inl, inr, ⊎_elim}
use Prim.Native.Nat.{ℕ, ◌≤◌, ◌+◌, ◌-◌}
use native.Mathlib.Omega.{arith}
use lib.Dec.{T}
use lib.IntN.{pos, negsuc}
use lib.Signed.{lt_z}
use Rattle.numbers.specs.Rational.{Rational, whole, Lowest, add_q, mul_q, floor_q, is_integer, is_positive}
use Rattle.terms.specs.Operator.{Equals, GreaterThan, GreaterEq}
use Rattle.terms.specs.Term.{Term}
use Rattle.numbers.proofs.Truths.{never, true_or_false}
use Rattle.numbers.proofs.Order.{pos-nonneg}
use Rattle.numbers.proofs.Floor.{floor-lowest}
use Rattle.numbers.proofs.LowestTerms.{whole_is_lowest}
use Rattle.numbers.proofs.Ring.{◌⊕◌, ◌⊖◌, neg, 𝟙, ◌≐◌, ◌·◌, ◌and◌, ◌from◌, derive}
use Rattle.numbers.proofs.Quotient.{ℚring, sum, ι}
use Rattle.book.proofs.BookTerms.{Closed}
use Rattle.std.specs.Prelude.{Ok}
use Rattle.rules.specs.Limits.{the_rust}
use Rattle.index_map.specs.IndexMap.{combination}
use Rattle.linear_comb.specs.LinearComb.{LinearComb, coefficients_gcd}
use Rattle.linear_comb.specs.LinearComb as Linear
use Rattle.process_disequality.specs.ProcessDisequality.{strengthened}
use Rattle.disequality.specs.Disequality.{Disequality, is_integer_times, raised, strengthen, floored}
use Rattle.alethe.specs.AletheTerms.{Departure, Departures, Cancels}
use Rattle.alethe.specs.Alethe.{Constraint, constraint, Relation, Strengthens, all_int, whole_times}
use Rattle.alethe.specs.Alethe.Strengthens.{not_all_int, equality, greater_whole, greater_fraction, at_least_whole}
use Rattle.alethe.specs.Alethe.Strengthens.{at_least_fraction, divisor, whole_product, fractional_product}
use Rattle.alethe.specs.Alethe.Relation.{ge, gt}
use Rattle.rules.proofs.Valuations.{numberℚ, rationals}
use Rattle.rules_theory.proofs.Unlimited.{Answers, answer_is}
use Rattle.linear_theory.proofs.UnlimitedLinear.{raised-free}
use Rattle.alethe.proofs.Signs.{nonneg-as, nonneg-whole}
use Rattle.linear_theory.proofs.NormalForms.{Normal, normal-cancels, normal-all_int, normal-divisor}
use Rattle.linear_theory.proofs.NormalForms.{normal-common}
use Rattle.linear_theory.proofs.Disequalities.{Agrees, operator_of}
use Rattle.linear_theory.proofs.Strengthening.{floor_of_whole, times-test}
use Rattle.linear_theory.proofs.ConstraintSums as Sums
use Rattle.alethe.proofs.ConstraintLaws.{raised-lowest}
use Rattle.linear_theory.proofs.BoundsAbove.{Above, above_same, above_more}

-- ---- bounds that are raised

module _ (f : Rational) (lf : Lowest f) where
  raised-number : (n : ℕ) → numberℚ (add_q f (whole (pos n))) ≡ sum (numberℚ f) (ι (pos n))
  raised-number n =
      rationals.number-add f (whole (pos n)) lf (whole_is_lowest (pos n))
      ∙ ap (sum (numberℚ f)) (rationals.number-whole (pos n))

  -- by more
  raised-more : (m n : ℕ) → n ≤ m → Above ge (numberℚ (add_q f (whole (pos m)))) (numberℚ (add_q f (whole (pos n))))
  raised-more m n h =
      above_more
      (nonneg-as
      (derive ℚring
      (numberℚ f ∷ ι (pos m) ∷ ι (pos n) ∷ ι (pos (m - n)) ∷ numberℚ (add_q f (whole (pos m)))
      ∷ numberℚ (add_q f (whole (pos n))) ∷ [])
      (λ f m n r x y. r ≐ x ⊖ y from neg 𝟙 · x ≐ f ⊕ m and 𝟙 · y ≐ f ⊕ n and neg 𝟙 · m ≐ n ⊕ r) tt
      (raised-number m) (raised-number n)
      (ap (λ k. ι (pos k)) (split m n h) ∙ ℚring.ι-add (pos n) (pos (m - n))))
      (subst T (sym (nonneg-whole (pos (m - n)))) (pos-nonneg (m - n)).le))
    where
      split : (m n : ℕ) → n ≤ m → m ≡ n + (m - n)
      split m n h = omega arith

  -- than not at all
  raised-above : (n : ℕ) → Above ge (numberℚ (add_q f (whole (pos n)))) (numberℚ f)
  raised-above n =
      above_more
      (nonneg-as
      (derive ℚring (numberℚ f ∷ ι (pos n) ∷ numberℚ (add_q f (whole (pos n))) ∷ [])
      (λ f n x. n ≐ x ⊖ f from neg 𝟙 · x ≐ f ⊕ n) tt (raised-number n))
      (subst T (sym (nonneg-whole (pos n))) (pos-nonneg n).le))

-- ---- what the Rust does

taken : {A : Type 0} (x y : A) (t : Bool) → t ≡ true → (elim t as (λ z. A) [ true ↦ x | false ↦ y ]) ≡ x
taken x y true e = refl
taken x y false e = never e

passed : {A : Type 0} (x y : A) (t : Bool) → t ≡ false → (elim t as (λ z. A) [ true ↦ x | false ↦ y ]) ≡ y
passed x y true e = never (sym e)
passed x y false e = refl

module _ (s : LinearComb) (a : Rational) where
  abbrev raised_to : ℕ → ℕ × LinearComb
  raised_to n = (GreaterEq, combination s.entries (add_q (floor_q s.constant) (whole (pos n))))

  not_all_stays : (o : ℕ) → Linear.all_int s.entries ≡ false → strengthened the_rust o s a ≡ Ok (o, s)
  not_all_stays o e = passed _ _ _ e

  equals-stays : strengthened the_rust Equals s a ≡ Ok (Equals, s)
  unfolding strengthen
  equals-stays = ⊎_elim (taken _ _ _) (passed _ _ _) (true_or_false (Linear.all_int s.entries))

  module _ (all : Linear.all_int s.entries ≡ true) where
    whole-stays : is_integer_times s.constant a ≡ true → strengthened the_rust GreaterEq s a ≡ Ok (GreaterEq, s)
    unfolding strengthen
    whole-stays e = taken _ _ _ all ∙ taken _ _ _ e

    fraction-raised : is_integer_times s.constant a ≡ false → strengthened the_rust GreaterEq s a ≡ Ok (raised_to 1)
    unfolding strengthen
    fraction-raised e = taken _ _ _ all ∙ passed _ _ _ e ∙ raised-free (floored s) (pos 1)

    greater-raised : is_integer_times s.constant a ≡ false → strengthened the_rust GreaterThan s a ≡ Ok (raised_to 1)
    unfolding strengthen
    greater-raised e = taken _ _ _ all ∙ passed _ _ _ e ∙ raised-free (floored s) (pos 1)

    greater_by : is_integer_times s.constant a ≡ true → (g : ℕ) → coefficients_gcd (floored s) ≡ pos g →
        strengthened the_rust GreaterThan s a ≡ Ok (raised_to g)
    unfolding strengthen
    greater_by e g h =
        taken _ _ _ all ∙ taken _ _ _ e ∙ ap (raised the_rust (floored s)) h ∙ raised-free (floored s) (pos g)

-- ---- beside the Alethe side

-- the Rust's operator and sum r, from the sum s, beside a constraint
pub record Matches (s : LinearComb) (strong : Constraint) (r : ℕ × LinearComb) : Type 0 where
  pub operator : r.0 ≡ operator_of strong.relation
  pub entries : r.1.entries ≡ s.entries
  pub lowest : Lowest r.1.constant
  pub bound : Above strong.relation (numberℚ r.1.constant) (numberℚ strong.bound)

module _ {P : Term → Type 0} (closed : Closed P) (d : Disequality) (k : Constraint) (agrees : Agrees P d k)
    (a : Rational) (la : Lowest a) where
  abbrev o : ℕ
  o = d.operator

  abbrev s : LinearComb
  s = d.sum

  abbrev f : Rational
  f = floor_q k.bound

  abbrev Strong : Constraint → Type 0
  Strong strong = Answers (Matches s strong) (strengthened the_rust o s a)

  whole_is : is_integer_times s.constant a ≡ whole_times a k
  whole_is =
      times-test s.constant a agrees.kept.constant la ∙ ap (λ q. is_integer (mul_q q a)) agrees.bound

  all_is : Linear.all_int s.entries ≡ all_int k
  all_is = normal-all_int closed k.terms agrees.entries s.entries agrees.normal

  at_operator : {p : ℕ} {r : ℕ × LinearComb} → o ≡ p → strengthened the_rust p s a ≡ Ok r →
      strengthened the_rust o s a ≡ Ok r
  at_operator e h = ap (λ x. strengthened the_rust x s a) e ∙ h

  operator_is : {r : Relation} → k.relation ≡ r → o ≡ operator_of r
  operator_is e = Sums.operator_is agrees.upward ∙ ap operator_of (agrees.relation ∙ e)

  unchanged : Matches s k (o, s)
  unchanged =
      record {
        operator = operator_is refl;
        entries = refl;
        lowest = agrees.kept.constant;
        bound = above_same k.relation (ap numberℚ agrees.bound);
      }

  to : (n : ℕ) (b : Rational) → Above ge (numberℚ (add_q f (whole (pos n)))) (numberℚ b) →
      Matches s (constraint k.terms ge b) (raised_to s a n)
  to n b h =
      record {
        operator = refl;
        entries = refl;
        lowest = raised-lowest (floor_q s.constant) (floor-lowest s.constant) n;
        bound = rw agrees.bound h;
      }

  lowest : Lowest k.bound
  lowest = subst Lowest agrees.bound agrees.kept.constant

  gcd_is : coefficients_gcd (floored s) ≡ coefficients_gcd (floored (combination s.entries k.bound))
  gcd_is = ap (λ q. coefficients_gcd (combination s.entries (floor_q q))) agrees.bound

  -- a bound that is positive where no atom is left
  not_negative : (Cancels k.terms → is_positive k.bound ≡ true) → s.entries ≡ [] → (j : ℕ) →
      k.bound.num ≡ negsuc j → ⊥
  unfolding is_positive
  not_negative h e j f =
      let none = normal-cancels closed k.terms agrees.entries (subst (Normal P k.terms) e agrees.normal) in
      never (sym (ap (lt_z (pos 0)) f) ∙ h none)

  -- > is raised by at least 1
  greater : all_int k ≡ true → k.relation ≡ gt → (b : Rational) →
      ((n : ℕ) → 1 ≤ n → Above ge (numberℚ (add_q f (whole (pos n)))) (numberℚ b)) → Strong (constraint k.terms ge b)
  greater e r b h =
      let div = normal-divisor closed k agrees.entries lowest s.entries agrees.normal in
      ⊎_elim
      (λ w.
      answer_is
      (at_operator (operator_is r) (greater_by s a (all_is ∙ e) w div.divisor (gcd_is ∙ div.is)))
      (to div.divisor b (h div.divisor div.least)))
      (λ w. answer_is (at_operator (operator_is r) (greater-raised s a (all_is ∙ e) w)) (to 1 b (h 1 (omega arith))))
      (true_or_false (is_integer_times s.constant a))

  -- >= is raised by 1
  at_least : all_int k ≡ true → k.relation ≡ ge → whole_times a k ≡ false → (b : Rational) →
      Above ge (numberℚ (add_q f (whole (pos 1)))) (numberℚ b) → Strong (constraint k.terms ge b)
  at_least e r w b h =
      answer_is (at_operator (operator_is r) (fraction-raised s a (all_is ∙ e) (whole_is ∙ w))) (to 1 b h)

  -- >= stays
  at_least-same : all_int k ≡ true → k.relation ≡ ge → whole_times a k ≡ true → Strong k
  at_least-same e r w =
      answer_is
      (at_operator (operator_is r) (whole-stays s a (all_is ∙ e) (whole_is ∙ w)))
      (subst (λ o. Matches s k (o, s)) (operator_is r) unchanged)

  pub strengthened-matches : {by : Departures} {strong : Constraint} →
      by Departure.whole_product ⊎ (is_integer k.bound ≡ true) → Strengthens by a k strong → Strong strong
  strengthened-matches h (not_all_int e) = answer_is (not_all_stays s a o (all_is ∙ e)) unchanged
  strengthened-matches h (equality e) =
      answer_is (at_operator (operator_is e) (equals-stays s a))
      (subst (λ o. Matches s k (o, s)) (operator_is e) unchanged)
  strengthened-matches h (greater_whole e r w) =
      greater e r _ (λ n p. rw (floor_of_whole k.bound w) (raised-more k.bound lowest n 1 p))
  strengthened-matches h (greater_fraction e r w) = greater e r _ (λ n. raised-more f (floor-lowest k.bound) n 1)
  strengthened-matches h (at_least_whole e r w) =
      ⊎_elim (at_least-same e r)
      (λ t.
      subst (λ x. Strong (constraint k.terms x k.bound)) (sym r)
      (at_least e r t k.bound (rw (floor_of_whole k.bound w) (raised-above k.bound lowest 1))))
      (true_or_false (whole_times a k))
  strengthened-matches (inl b) (at_least_fraction e r w n) = at_least e r (n b) _ (above_same ge refl)
  strengthened-matches (inr i) (at_least_fraction e r w n) = never (sym w ∙ i)
  strengthened-matches h (divisor b e r w z g p c n) =
      let is = normal-common closed k agrees.entries lowest s.entries agrees.normal g c n p (not_negative z) in
      answer_is (at_operator (operator_is r) (greater_by s a (all_is ∙ e) (whole_is ∙ w) g (gcd_is ∙ is)))
      (to g _ (above_same ge refl))
  strengthened-matches h (whole_product b e r w) = at_least-same e r w
  strengthened-matches h (fractional_product b e r w) = at_least e r w _ (above_same ge refl)
