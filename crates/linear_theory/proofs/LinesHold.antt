-- Under an assignment that makes the literals of a la_generic step false the constraint of each line holds, and so
-- does their sum (`lines_hold`). Step 4 is where the numbers must be whole: a sum of Int atoms with whole
-- coefficients is whole, so it is above a bound that is not, and above a bound it is at least one more than the
-- bound's floor, or one divisor more.
--     Holds       a constraint under the assignment
--     strengthened-holds, line-holds, lines_hold       step 4, one line, all lines
use mathlib.Core.Path.{◌≡◌, refl, sym, ◌∙◌, ap, subst}
use mathlib.Core.Bool.{Bool, true, false}
use mathlib.Core.List.{List, [], ◌∷◌}
use mathlib.Core.Logic.{inl}
use Prim.Native.Nat.{ℕ}
use native.Mathlib.Omega.{arith}
use lib.IntN.{pos}
use Rattle.numbers.specs.Rational.{Rational, whole, Lowest, add_q, is_integer}
use Rattle.terms.specs.Operator.{GreaterThan, GreaterEq}
use Rattle.terms.specs.Term.{Term}
use Rattle.terms.specs.Smtlib.{Assignment, is_true, value, holds, divs_even}
use Rattle.numbers.proofs.Truths.{never}
use Rattle.numbers.proofs.Ring.{◌⊕◌, ◌⊖◌, ◌⊗◌, neg, 𝟘, 𝟙, ◌≐◌, ◌·◌, ◌and◌, ◌from◌, derive}
use Rattle.numbers.proofs.Quotient.{ℚ, ℚring, product}
use Rattle.terms.proofs.Sums.{meant}
use Rattle.book.proofs.BookTerms.{Closed}
use Rattle.index_map.specs.IndexMap.{Map}
use Rattle.process_disequality.specs.ProcessDisequality.{scalar}
use Rattle.linear_theory.specs.Premises.{whole_coefficients}
use Rattle.alethe.specs.AletheTerms.{Departure, Departures, Entries, coefficient_of}
use Rattle.alethe.specs.Alethe as Alethe
use Rattle.alethe.specs.Alethe.{Clause, Constraint, constraint, all_int, raised_by, Strengthens, factor, Line, Lines}
use Rattle.alethe.specs.Alethe.{all_terms, sum_bound, stronger, joined, WholeLine, WholeLines}
use Rattle.alethe.specs.Alethe.Relation.{ge, gt}
use Rattle.rules.proofs.Valuations.{numberℚ, rationals}
use Rattle.rules_theory.proofs.IndexMaps.{total}
use Rattle.linear_theory.proofs.LinearWalk.{atoms}
use Rattle.linear_theory.proofs.Weights as Weights
use Rattle.linear_theory.proofs.Weights.{weigh, EntriesFor, weigh_append, entries_append, weigh-times}
use Rattle.linear_theory.proofs.Weights.{entries-times}
use Rattle.linear_theory.proofs.NormalForms.{Normal, normal_exists, normal-all_int, whole-normal, normal-value}
use Rattle.linear_theory.proofs.NormalForms.{normal-multiples}
use Rattle.linear_theory.proofs.Disequalities.{operator_of, states-kept, states-false}
use Rattle.alethe.proofs.Signs.{Nonneg, Positive, nonneg-as, positive-as, ◌less◌}
use Rattle.linear_theory.proofs.Says.{Says, of_zero, of_nonneg, of_positive, says-as, says-add, says-scaled}
use Rattle.linear_theory.proofs.Multiples.{WholeAtoms}
use Rattle.linear_theory.proofs.Strengthening.{floor_of_whole, int-atoms, raised_by_one, raised_by_divisor}
use Rattle.linear_theory.proofs.Strengthening.{above-fraction}
use Rattle.disequality.proofs.WholeProducts.{product_whole}
use Rattle.linear_theory.proofs.Arguments.{EachOf, EachLowest, either-false}
use Rattle.alethe.proofs.ConstraintLaws.{factor-lowest, strengthens-terms, strengthens-lowest}
use Rattle.linear_theory.proofs.ConstraintSums.{join_operators_lem, scalar-factor, weakened-operator}

says-positive : {o : ℕ} {x : ℚ} → Says o x → o ≡ GreaterThan → Positive x
says-positive (of_zero h) e = absurd (omega arith)
says-positive (of_nonneg h) e = absurd (omega arith)
says-positive (of_positive h) e = h

says-nonneg : {o : ℕ} {x : ℚ} → Says o x → o ≡ GreaterEq → Nonneg x
says-nonneg (of_zero h) e = absurd (omega arith)
says-nonneg (of_nonneg h) e = h
says-nonneg (of_positive h) e = absurd (omega arith)

module _ {P : Term → Type 0} (closed : Closed P) (even : (t : Term) → P t → divs_even t ≡ true) (ρ : Assignment) where
  abbrev pub at : Term → ℚ
  at t = meant (value ρ t)

  abbrev gap : Entries → Rational → ℚ
  gap es d = weigh at es less numberℚ d

  abbrev pub Holds : Constraint → Type 0
  Holds k = Says (operator_of k.relation) (gap k.terms k.bound)

  -- ---- step 4

  module _ (k : Constraint) (of : EntriesFor P k.terms) (lk : Lowest k.bound) where
    module _ (i : all_int k ≡ true) (w : (i : ℕ) → is_integer (coefficient_of i k.terms) ≡ true) where
      abbrev m : Map Term
      m = (normal_exists closed k.terms of).0

      abbrev n : Normal P k.terms m
      n = (normal_exists closed k.terms of).1

      int : WholeAtoms closed ρ m
      int = int-atoms closed ρ even m n.kept (normal-all_int closed k.terms of m n ∙ i)

      whole-ones : whole_coefficients m ≡ true
      whole-ones = whole-normal closed k.terms of m n w

      same_gap : (d : Rational) → total (atoms closed ρ) m less numberℚ d ≡ gap k.terms d
      same_gap d = ap (λ (x : ℚ). x less numberℚ d) (normal-value closed k.terms of m n ρ)

      by_one : Positive (gap k.terms k.bound) → Holds (raised_by 1 k)
      by_one h =
          of_nonneg
          (nonneg-as (same_gap _)
          (raised_by_one closed ρ m k.bound lk int whole-ones (positive-as (sym (same_gap k.bound)) h)))

      by_divisor : (g : ℕ) → Alethe.Common g k → Positive (gap k.terms k.bound) → Holds (raised_by g k)
      by_divisor g common h =
          let both = normal-multiples closed k of lk m n g common in
          of_nonneg
          (nonneg-as (same_gap _)
          (raised_by_divisor closed ρ m k.bound lk int whole-ones g both.0 both.1
          (positive-as (sym (same_gap k.bound)) h)))

      above : is_integer k.bound ≡ false → Nonneg (gap k.terms k.bound) → Positive (gap k.terms k.bound)
      above t h =
          positive-as (same_gap k.bound)
          (above-fraction closed ρ m k.bound lk int whole-ones t (nonneg-as (sym (same_gap k.bound)) h))

    positive : k.relation ≡ gt → Holds k → Positive (gap k.terms k.bound)
    positive e h = says-positive h (ap operator_of e)

    nonneg : k.relation ≡ ge → Holds k → Nonneg (gap k.terms k.bound)
    nonneg e h = says-nonneg h (ap operator_of e)

    -- whole coefficients, and a whole argument where it is asked for
    abbrev Whole : Departures → Rational → Type 0
    Whole by a =
        all_int k ≡ true →
        ((i : ℕ) → is_integer (coefficient_of i k.terms) ≡ true)
        × (by Departure.fractional_product → is_integer a ≡ true)

    strengthened-holds : (by : Departures) (a : Rational) → Whole by a → {k' : Constraint} → Strengthens by a k k' →
        Holds k → Holds k'
    strengthened-holds by a w (Alethe.not_all_int i) h = h
    strengthened-holds by a w (Alethe.equality e) h = h
    strengthened-holds by a w (Alethe.greater_whole i e z) h =
        subst (λ (d : Rational). Holds (constraint k.terms ge (add_q d (whole (pos 1)))))
        (floor_of_whole k.bound z)
        (by_one i (w i).0 (positive e h))
    strengthened-holds by a w (Alethe.greater_fraction i e z) h = by_one i (w i).0 (positive e h)
    strengthened-holds by a w (Alethe.at_least_whole i e z) h = h
    strengthened-holds by a w (Alethe.at_least_fraction i e z f) h =
        by_one i (w i).0 (above i (w i).0 z (nonneg e h))
    strengthened-holds by a w (Alethe.divisor b i e z p g one common most) h =
        by_divisor i (w i).0 g common (positive e h)
    strengthened-holds by a w (Alethe.whole_product b i e z) h = h
    strengthened-holds by a w (Alethe.fractional_product b i e z) h =
        by_one i (w i).0 (above i (w i).0 (fractional (is_integer k.bound) refl) (nonneg e h))
      where
        fractional : (t : Bool) → is_integer k.bound ≡ t → t ≡ false
        fractional true t = never (sym z ∙ product_whole k.bound a t ((w i).1 b))
        fractional false t = refl

  -- ---- the lines

  -- a constraint that is good and holds
  pub record Holding (es : Entries) (d : Rational) (o : ℕ) : Type 0 where
    pub entries : EntriesFor P es
    pub lowest : Lowest d
    pub says : Says o (gap es d)

  module _ (by : Departures) (granted : by Departure.argument_zero) where
    line-holds : (phi : Term) → P phi → (a : Rational) → Lowest a → WholeLine by phi a → (k : Constraint) →
        Line by phi a k → is_true (value ρ phi) ≡ false → Holding k.terms k.bound (operator_of k.relation)
    line-holds phi p a la w k h e =
        record {
          entries = subst (EntriesFor P) (sym h.terms) (entries-times f lf strong.terms entries_of_lem);
          lowest = subst Lowest (sym h.bound) (rationals.good-mul f strong.bound lf strong-lowest);
          says =
              subst (λ (o : ℕ). Says o (gap k.terms k.bound)) (weakened-operator h.relation (λ e. inl granted))
              (says-as scaled-gap (says-scaled a la strong-holds));
        }
      where
        negated : Constraint
        negated = h.negated

        strong : Constraint
        strong = h.strong

        f : Rational
        f = factor strong.relation a

        scalar_is : scalar (operator_of strong.relation) a ≡ f
        scalar_is = scalar-factor strong.relation a

        lf : Lowest f
        lf = factor-lowest a la strong.relation

        kept : EntriesFor P negated.terms × Lowest negated.bound
        kept = states-kept closed phi p by negated h.states

        strong-lowest : Lowest strong.bound
        strong-lowest = strengthens-lowest kept.1 h.strengthens

        entries_of_lem : EntriesFor P strong.terms
        entries_of_lem = subst (EntriesFor P) (sym (strengthens-terms h.strengthens)) kept.0

        strong-holds : Holds strong
        strong-holds =
            strengthened-holds negated kept.0 kept.1 by a (w negated h.states) h.strengthens
            (states-false closed phi p by negated h.states ρ e)

        scaled-gap :
            product (gap strong.terms strong.bound) (numberℚ (scalar (operator_of strong.relation) a))
            ≡ gap k.terms k.bound
        scaled-gap =
            derive ℚring
            (weigh at strong.terms ∷ numberℚ strong.bound ∷ numberℚ (scalar (operator_of strong.relation) a)
            ∷ numberℚ f ∷ weigh at k.terms ∷ numberℚ k.bound ∷ [])
            (λ s d c f t b.
            (s ⊖ d) ⊗ c ≐ t ⊖ b from (s ⊖ d) · c ≐ f and neg 𝟙 · t ≐ f ⊗ s and 𝟙 · b ≐ f ⊗ d) tt
            (ap numberℚ scalar_is)
            (ap (weigh at) h.terms ∙ weigh-times at f lf strong.terms entries_of_lem)
            (ap numberℚ h.bound ∙ rationals.number-mul f strong.bound lf strong-lowest)

    pub lines_hold : {c : Clause} {qs : List Rational} {ks : List Constraint} → EachOf P c → EachLowest qs →
        WholeLines by c qs → Lines by c qs ks → holds ρ c ≡ false →
        Holding (all_terms ks) (sum_bound ks) (operator_of (joined stronger ks))
    unfolding holds all_terms sum_bound joined weigh
    lines_hold {c = []} {qs = []} ps ls ws Alethe.end h =
        record {
          entries = Weights.none;
          lowest = rationals.good-whole (pos 0);
          says =
              of_zero
              (derive ℚring (numberℚ (whole (pos 0)) ∷ []) (λ z. 𝟘 ⊖ z ≐ 𝟘 from neg 𝟙 · z ≐ 𝟘) tt
              (rationals.number-whole (pos 0)));
        }
    lines_hold {c = phi ∷ c} {qs = a ∷ qs} (p, ps) (l, ls) (Alethe.also w ws) (Alethe.line {k = k} {ks = ks} line rest) h =
        let b = either-false (is_true (value ρ phi)) (holds ρ c) h in
        let first = line-holds phi p a l w k line b.0 in
        let others = lines_hold ps ls ws rest b.1 in
        record {
          entries = entries_append P k.terms (all_terms ks) first.entries others.entries;
          lowest = rationals.good-add k.bound (sum_bound ks) first.lowest others.lowest;
          says =
              subst (λ (o : ℕ). Says o (gap (all_terms (k ∷ ks)) (sum_bound (k ∷ ks))))
              (join_operators_lem k.relation (joined stronger ks))
              (says-as
              (derive ℚring
              (weigh at k.terms ∷ numberℚ k.bound ∷ weigh at (all_terms ks) ∷ numberℚ (sum_bound ks)
              ∷ weigh at (all_terms (k ∷ ks)) ∷ numberℚ (sum_bound (k ∷ ks)) ∷ [])
              (λ s d t b x y. s ⊖ d ⊕ (t ⊖ b) ≐ x ⊖ y from neg 𝟙 · x ≐ s ⊕ t and 𝟙 · y ≐ d ⊕ b) tt
              (weigh_append at k.terms (all_terms ks))
              (rationals.number-add k.bound (sum_bound ks) first.lowest others.lowest))
              (says-add first.says others.says));
        }
    lines_hold {c = []} {qs = a ∷ qs} {ks = ks} ps ls ws _ h = elim ws [ ]
    lines_hold {c = phi ∷ c} {qs = []} {ks = ks} ps ls ws _ h = elim ws [ ]
