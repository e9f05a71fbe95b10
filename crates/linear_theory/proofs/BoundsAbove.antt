-- The Rust's bound beside the Alethe side's: it is at least that, and the same where the relation is = or > (`Above`).
-- Sums and multiples keep this, and at the end the Rust's bound contradicts, in the Rust's relation, where the other
-- does.
--     Above, above_same, above_more       the two bounds
--     above-add, above-scaled       sums and multiples
--     above-contradicts       the end
use mathlib.Core.Path.{◌≡◌, refl, sym, ◌∙◌, ap, ap₂, subst}
use mathlib.Core.Bool.{Bool, true, false, ◌||◌, or-true}
use mathlib.Core.List.{List, [], ◌∷◌}
use mathlib.Core.Logic.{◌⊎◌, inl, inr, ⊎_elim}
use Prim.Native.Nat.{ℕ}
use native.Mathlib.Omega.{arith}
use Rattle.numbers.specs.Rational.{Rational, Lowest, abs_q, is_zero, is_positive}
use Rattle.numbers.proofs.Truths.{T_true, true-T, never}
use Rattle.numbers.proofs.Ring.{◌⊕◌, ◌⊖◌, ◌⊗◌, neg, 𝟘, 𝟙, ◌≐◌, ◌·◌, ◌from◌, solve, derive}
use Rattle.numbers.proofs.Quotient.{ℚ, ℚring, sum, product}
use Rattle.alethe.specs.AletheTerms.{Departures}
use Rattle.alethe.specs.Alethe.{Constraint, Relation, factor, weaker, stronger, joined, Joins, contradicts}
use Rattle.alethe.specs.Alethe.Joins.{as_worded, join}
use Rattle.alethe.specs.Alethe.Relation.{eq, ge, gt}
use Rattle.rules.proofs.Valuations.{numberℚ, zero_number, number_unique}
use Rattle.alethe.proofs.Signs.{Nonneg, nonneg-as, positive-as, nonneg-add, positive-add, nonneg-mul, nonneg_of_zero}
use Rattle.alethe.proofs.Signs.{positive_of_nonneg, ◌less◌}
use Rattle.linear_theory.proofs.Says.{abs_nonneg}
use Rattle.rules_theory.proofs.NumberSigns.{positive-number, zero_of_number}
use Rattle.alethe.proofs.ConstraintLaws.{Fits, same, raised, fits-joined}

-- ---- one bound above another

pub record Above (r : Relation) (x y : ℚ) : Type 0 where
  pub at_least : Nonneg (x less y)
  pub exact : (r ≡ ge) ⊎ (x ≡ y)

pub above_same : (r : Relation) {x y : ℚ} → x ≡ y → Above r x y
above_same r {x} {y} e =
    record {
      at_least = nonneg_of_zero _ (derive ℚring (x ∷ y ∷ []) (λ x y. x ⊖ y ≐ 𝟘 from 𝟙 · x ≐ y) tt e);
      exact = inr e;
    }

pub above_more : {x y : ℚ} → Nonneg (x less y) → Above ge x y
above_more h = record { at_least = h; exact = inl refl }

weaker-ge : (r s : Relation) → (r ≡ ge) ⊎ (s ≡ ge) → weaker r s ≡ ge
weaker-ge eq s (inl e) = cc
weaker-ge eq s (inr e) = e
weaker-ge ge s h = refl
weaker-ge gt s (inl e) = cc
weaker-ge gt eq (inr e) = cc
weaker-ge gt ge (inr e) = refl
weaker-ge gt gt (inr e) = e

pub above-add : {r s : Relation} {x y z w : ℚ} → Above r x y → Above s z w → Above (weaker r s) (sum x z) (sum y w)
above-add {r} {s} {x} {y} {z} {w} h k =
    record {
      at_least =
          nonneg-as (solve ℚring (x ∷ y ∷ z ∷ w ∷ []) (λ x y z w. (x ⊖ y) ⊕ (z ⊖ w) ≐ (x ⊕ z) ⊖ (y ⊕ w)) tt)
          (nonneg-add _ _ h.at_least k.at_least);
      exact =
          ⊎_elim (λ e. inl (weaker-ge r s (inl e)))
          (λ e. ⊎_elim (λ f. inl (weaker-ge r s (inr f))) (λ f. inr (ap₂ sum e f)) k.exact) h.exact;
    }

-- both are multiplied
module _ (a : Rational) (la : Lowest a) where
  same-product : (q : Rational) {x y : ℚ} → x ≡ y → product x (numberℚ q) ≡ product (numberℚ q) y
  same-product q {x} {y} e = derive ℚring (x ∷ y ∷ numberℚ q ∷ []) (λ x y q. x ⊗ q ≐ q ⊗ y from q · x ≐ y) tt e

  more-product : (x y : ℚ) → Nonneg (x less y) → Nonneg (product x (numberℚ (abs_q a)) less product (numberℚ (abs_q a)) y)
  more-product x y h =
      nonneg-as (solve ℚring (x ∷ y ∷ numberℚ (abs_q a) ∷ []) (λ x y q. (x ⊖ y) ⊗ q ≐ x ⊗ q ⊖ q ⊗ y) tt)
      (nonneg-mul _ _ h (abs_nonneg a la))

  by_factor : (r : Relation) (x y : ℚ) → Above r x y →
      Nonneg (product x (numberℚ (factor r a)) less product (numberℚ (factor r a)) y)
  by_factor eq x y h =
      ⊎_elim (λ e. let z : ◌≡◌ {A = ℕ} 0 1 = cc in absurd (omega arith))
      (λ e. (above_same eq (same-product a e)).at_least)
      h.exact
  by_factor ge x y h = more-product x y h.at_least
  by_factor gt x y h = more-product x y h.at_least

  pub above-scaled : (r : Relation) {x y : ℚ} → Above r x y →
      Above r (product x (numberℚ (factor r a))) (product (numberℚ (factor r a)) y)
  above-scaled r {x} {y} h =
      record { at_least = by_factor r x y h; exact = ⊎_elim inl (λ e. inr (same-product (factor r a) e)) h.exact }

-- ---- the end

module _ (c b : Rational) (lc : Lowest c) (lb : Lowest b) where
  abbrev Is : Relation → Type 0
  Is r = Above r (numberℚ c) (numberℚ b)

  positive-above : {r : Relation} → Is r → is_positive b ≡ true → is_positive c ≡ true
  positive-above h e =
      sym (positive-number c lc)
      ∙ T_true _
      (positive-as (solve ℚring (numberℚ b ∷ numberℚ c ∷ []) (λ b c. b ⊕ (c ⊖ b) ≐ c) tt)
      (positive-add (numberℚ b) _ (true-T (positive-number b lb ∙ e)) h.at_least))

  -- at least 0 is above it, or 0
  zero-above : {r : Relation} → Is r → is_zero b ≡ true → (is_positive c || is_zero c) ≡ true
  zero-above h e = at (is_zero c) refl
    where
      nonneg : Nonneg (numberℚ c)
      nonneg =
          nonneg-as
          (derive ℚring (numberℚ b ∷ numberℚ c ∷ []) (λ b c. c ⊖ b ≐ c from neg 𝟙 · b ≐ 𝟘) tt (zero_number b lb e))
          h.at_least

      at : (z : Bool) → is_zero c ≡ z → (is_positive c || z) ≡ true
      at true f = or-true (is_positive c)
      at false f =
          ap (λ p. p || false)
          (sym (positive-number c lc)
          ∙ T_true _ (positive_of_nonneg (numberℚ c) nonneg (λ g. never (sym f ∙ zero_of_number c lc g))))

  greater-above : {r : Relation} → Is r → (is_positive b || is_zero b) ≡ true → (is_positive c || is_zero c) ≡ true
  greater-above h e = at (is_positive b) refl e
    where
      at : (p : Bool) → is_positive b ≡ p → (p || is_zero b) ≡ true → (is_positive c || is_zero c) ≡ true
      at true f e = ap (λ p. p || is_zero c) (positive-above h f)
      at false f e = zero-above h e

  same-contradicts : (r : Relation) → Is r → contradicts r b ≡ true → contradicts r c ≡ true
  unfolding contradicts
  same-contradicts eq h e = ⊎_elim (λ f. cc) (λ f. rw (number_unique c b lc lb f) e) h.exact
  same-contradicts ge h e = positive-above h e
  same-contradicts gt h e = greater-above h e

  raised-contradicts : Is ge → (r : Relation) → (r ≡ ge) ⊎ (r ≡ gt) → contradicts r b ≡ true → contradicts gt c ≡ true
  unfolding contradicts
  raised-contradicts h r (inl e) f = ap (λ p. p || is_zero c) (positive-above h (rw e at f))
  raised-contradicts h r (inr e) f = greater-above h (rw e at f)

  fits-contradicts : {w s : Relation} → Fits w s → Is w → (r : Relation) → (r ≡ w) ⊎ (r ≡ s) → contradicts r b ≡ true →
      contradicts s c ≡ true
  fits-contradicts (same s) h r e f =
      same-contradicts s h (subst (λ x. contradicts x b ≡ true) (⊎_elim (λ g. g) (λ g. g) e) f)
  fits-contradicts raised h r e f = raised-contradicts h r e f

  pub above-contradicts : {by : Departures} (ks : List Constraint) → Is (joined weaker ks) → {r : Relation} →
      Joins by ks r → contradicts r b ≡ true → contradicts (joined stronger ks) c ≡ true
  above-contradicts ks h as_worded e = fits-contradicts (fits-joined ks) h _ (inl refl) e
  above-contradicts ks h (join d) e = fits-contradicts (fits-joined ks) h _ (inr refl) e
