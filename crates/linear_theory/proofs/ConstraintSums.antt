-- The Rust's operators beside the Alethe side's relations, and what `mul` and `add` do to the atoms of a sum and to
-- its constant, each by itself, whatever the atoms weigh.
--     operator_is, join_operators_lem, scalar-factor, weakened-operator, contradicts_is
--                operators are joined, scaled and tested as relations
--     scaled_exists       every relation has its scaled one
--     Parts, mul-parts, add_parts       the atoms' weight and the constant
use mathlib.Core.Path.{◌≡◌, refl, sym, ◌∙◌, ap}
use mathlib.Core.Bool.{Bool, true, false, not, ◌||◌}
use mathlib.Core.List.{[], ◌∷◌}
use mathlib.Core.Logic.{◌⊎◌, ⊎_elim}
use Prim.Native.Nat.{ℕ}
use lib.IntN.{pos}
use lib.Signed.{lt_z}
use Rattle.numbers.specs.Rational.{Rational, whole, Lowest, is_zero, is_positive, eq_q}
use Rattle.terms.specs.Term.{Term}
use Rattle.numbers.specs.Choice.{when◌then◌else◌}
use Rattle.numbers.proofs.Rationals.{eq_z-eq, eq_q-eq}
use Rattle.numbers.proofs.Truths.{never}
use Rattle.numbers.proofs.Ring.{◌⊗◌, neg, 𝟘, 𝟙, ◌≐◌, ◌·◌, ◌and◌, ◌from◌, derive}
use Rattle.numbers.proofs.Quotient.{ℚ, ℚring, sum, product}
use Rattle.rules.specs.Limits.{Limits}
use Rattle.index_map.specs.IndexMap.{add}
use Rattle.linear_comb.specs.LinearComb.{LinearComb, mul}
use Rattle.index_map.specs.Memory.Entries.{terms}
use Rattle.process_disequality.specs.ProcessDisequality.{join_operators, scalar, weakened}
use Rattle.linear_arithmetic.specs.LinearArithmetic.{is_true_at_zero}
use Rattle.alethe.specs.AletheTerms.{Departure, Departures, carcara}
use Rattle.alethe.specs.Alethe.{Relation, factor, ScaledRelation, stays, argument_zero, stronger, contradicts}
use Rattle.alethe.specs.Alethe.Relation.{eq, ge, gt}
use Rattle.rules.proofs.Yields.{Yields, gives, and_then, by_test}
use Rattle.rules.proofs.Valuations.{numberℚ, rationals, plus-stands, times-stands}
use Rattle.rules_theory.proofs.IndexMaps.{CombinationOf, total, insert_all_totals, scale_all_totals}
use Rattle.linear_theory.proofs.Weights.{weights}
use Rattle.linear_theory.proofs.Disequalities.{relation_of, operator_of, Upward, is_equals, is_greater}
use Rattle.linear_theory.proofs.Disequalities.{is_greater_eq}

-- ---- operators and relations

pub operator_is : {o : ℕ} → Upward o → o ≡ operator_of (relation_of o)
operator_is is_equals = refl
operator_is is_greater = refl
operator_is is_greater_eq = refl

pub join_operators_lem : (r s : Relation) → join_operators (operator_of r) (operator_of s) ≡ operator_of (stronger r s)
unfolding when◌then◌else◌
join_operators_lem eq eq = refl
join_operators_lem eq ge = refl
join_operators_lem eq gt = refl
join_operators_lem ge eq = refl
join_operators_lem ge ge = refl
join_operators_lem ge gt = refl
join_operators_lem gt eq = refl
join_operators_lem gt ge = refl
join_operators_lem gt gt = refl

pub scalar-factor : (r : Relation) (a : Rational) → scalar (operator_of r) a ≡ factor r a
unfolding when◌then◌else◌
scalar-factor eq a = refl
scalar-factor ge a = refl
scalar-factor gt a = refl

-- > with argument 0 becomes >= on both sides, or does not arise
pub weakened-operator : {by : Departures} {a : Rational} {r s : Relation} → ScaledRelation by a r s →
    (r ≡ gt → by Departure.argument_zero ⊎ (is_zero a ≡ false)) → weakened (operator_of r) a ≡ operator_of s
unfolding when◌then◌else◌
weakened-operator (stays eq c) h = refl
weakened-operator (stays ge c) h = refl
weakened-operator {a = a} (stays gt c) h =
    let nonzero : is_zero a ≡ false = ⊎_elim (λ b. c b refl) (λ z. z) (h refl) in
    rw nonzero
weakened-operator (argument_zero b z) h = rw z

module _ (a : Rational) where
  pub scaled_exists : (r : Relation) → (s : Relation) × ScaledRelation carcara a r s
  scaled_exists eq = (eq, stays eq (λ g e. cc))
  scaled_exists ge = (ge, stays ge (λ g e. cc))
  scaled_exists gt = at (is_zero a) refl
    where
      at : (z : Bool) → is_zero a ≡ z → (s : Relation) × ScaledRelation carcara a gt s
      at true e = (ge, argument_zero tt e)
      at false e = (gt, stays gt (λ g h. e))

not-both : (d : Rational) → is_positive d ≡ true → is_zero d ≡ true → ⊥
unfolding is_positive is_zero
not-both d p z = never (ap (lt_z (pos 0)) (sym (eq_z-eq d.num (pos 0) z)) ∙ p)

-- 0 ⋈ d is false where the Rust finds that it is not true
pub contradicts_is : (r : Relation) (d : Rational) → contradicts r d ≡ not (is_true_at_zero (operator_of r) d)
unfolding contradicts is_true_at_zero when◌then◌else◌
contradicts_is eq d = at (is_positive d) (is_zero d) (not-both d)
  where
    at : (p z : Bool) → (p ≡ true → z ≡ true → ⊥) →
        not z ≡ not (when p then false else when z then true else false)
    at true true h = absurd (h refl refl)
    at true false h = refl
    at false true h = refl
    at false false h = refl
contradicts_is ge d = at (is_positive d) (is_zero d)
  where
    at : (p z : Bool) → p ≡ not (when p then false else when z then true else true)
    at true z = refl
    at false true = refl
    at false false = refl
contradicts_is gt d = at (is_positive d) (is_zero d)
  where
    at : (p z : Bool) → (p || z) ≡ not (when p then false else when z then false else true)
    at true z = refl
    at false true = refl
    at false false = refl

-- ---- the atoms' weight and the constant

module _ (P : Term → Type 0) (v : ℕ → ℚ) where
  abbrev pub weight : LinearComb → ℚ
  weight s = total (weights P v) s.entries

  -- s is good, its atoms weigh x, and its constant is y
  pub record Parts (x y : ℚ) (s : LinearComb) : Type 0 where
    pub good : CombinationOf P Lowest s
    pub entries : weight s ≡ x
    pub constant : numberℚ s.constant ≡ y

  module _ (l : Limits) where
    pub mul-parts : (s : LinearComb) (q : Rational) → CombinationOf P Lowest s → Lowest q →
        Yields (Parts (product (weight s) (numberℚ q)) (product (numberℚ s.constant) (numberℚ q))) (mul l s q)
    unfolding mul total
    mul-parts s q g lq =
        by_test (is_zero q) _ _
        (λ z.
        let zero-times : (x y : ℚ) → y ≡ ℚring.ι (pos 0) → y ≡ product x (numberℚ q) =
        λ x y e.
        derive ℚring (x ∷ y ∷ numberℚ q ∷ []) (λ x y q. y ≐ x ⊗ q from 𝟙 · y ≐ 𝟘 and neg x · q ≐ 𝟘) tt e
        (rationals.number-zero q lq z) in
        gives
        (record {
          good = record { entries = tt; constant = rationals.good-whole (pos 0) };
          entries = zero-times _ _ refl;
          constant = zero-times _ _ (rationals.number-whole (pos 0));
        }))
        (λ z.
        by_test (eq_q q (whole (pos 1))) _ _
        (λ e.
        let one-times : (x : ℚ) → x ≡ product x (numberℚ q) =
        λ x.
        derive ℚring (x ∷ numberℚ q ∷ []) (λ x q. x ≐ x ⊗ q from neg x · q ≐ 𝟙) tt
        (ap numberℚ (eq_q-eq q (whole (pos 1)) e) ∙ rationals.number-whole (pos 1)) in
        gives (record { good = g; entries = one-times _; constant = one-times _ }))
        (λ e.
        and_then (scale_all_totals (weights P v) l q lq s.entries g.entries)
        (λ m t.
        and_then (times-stands rationals l s.constant q g.constant lq)
        (λ c h.
        gives
        (record { good = record { entries = t.good; constant = h.good }; entries = t.is; constant = h.is })))))

    pub add_parts : (a b : LinearComb) → CombinationOf P Lowest a → CombinationOf P Lowest b →
        Yields (Parts (sum (weight a) (weight b)) (sum (numberℚ a.constant) (numberℚ b.constant)))
        (add terms l a b)
    unfolding add
    add_parts a b ga gb =
        and_then (insert_all_totals (weights P v) l a.entries b.entries ga.entries gb.entries)
        (λ m t.
        and_then (plus-stands rationals l a.constant b.constant ga.constant gb.constant)
        (λ c h.
        gives (record { good = record { entries = t.good; constant = h.good }; entries = t.is; constant = h.is })))
