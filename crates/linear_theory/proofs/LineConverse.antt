-- One literal of la_generic, the converse: where the Alethe side has a line for it, the Rust's `process_disequality`
-- answers, and what it adds to the sum is the line's constraint, with a bound that is at least as high
-- (`literal-answers`).
--     WholeBound, NoZero       what is asked of the literal and its argument
--     Added       what a literal adds to the sum
use mathlib.Core.Path.{◌≡◌, refl, sym, ◌∙◌, ap, ap₂, subst, subst₂}
use mathlib.Core.Bool.{true, false}
use Rattle.std.specs.Prelude.{Some}
use mathlib.Core.List.{List}
use mathlib.Core.Logic.{◌⊎◌, inl, inr, ⊎_elim}
use Prim.Native.Nat.{ℕ}
use lib.IntN.{pos}
use Rattle.numbers.specs.Rational.{Rational, Lowest, is_integer, is_zero}
use Rattle.terms.specs.Term.{Term}
use Rattle.numbers.proofs.Quotient.{ℚ, ℚring, sum, product, ι}
use Rattle.numbers.proofs.Rationals.{mul-lowest}
use Rattle.book.proofs.BookTerms.{Closed}
use Rattle.rules.specs.Refusal.{Result, ◌>>=◌}
use Rattle.rules.specs.Limits.{the_rust}
use Rattle.index_map.specs.IndexMap.{add}
use Rattle.linear_comb.specs.LinearComb.{LinearComb, mul}
use Rattle.index_map.specs.Memory.Entries.{terms}
use Rattle.process_disequality.specs.ProcessDisequality.{Progress, progress, argument_of, join_operators, scalar}
use Rattle.process_disequality.specs.ProcessDisequality.{weakened, process_disequality}
use Rattle.disequality.specs.Disequality.{Disequality}
use Rattle.alethe.specs.AletheTerms.{Departure, Departures, times_each}
use Rattle.alethe.specs.Alethe.{Constraint, Relation, States, factor, ScaledRelation, Line}
use Rattle.alethe.specs.Alethe.ScaledRelation.{stays, argument_zero}
use Rattle.alethe.specs.Alethe.Relation.{gt}
use Rattle.rules.proofs.Valuations.{numberℚ, rationals}
use Rattle.rules_theory.proofs.IndexMaps.{EntriesOf, CombinationOf, total}
use Rattle.rules_theory.proofs.Unlimited.{Answers, answers, answer_is, answers-then, answered-each, add_free}
use Rattle.linear_theory.proofs.UnlimitedLinear.{mul-free}
use Rattle.linear_theory.proofs.Says.{scalar-lowest}
use Rattle.linear_theory.proofs.Weights.{weigh, numbered, weights, EntriesFor, weigh-times, entries-times}
use Rattle.linear_theory.proofs.Disequalities.{Agrees, operator_of, states-agree, states-answered, states-kept}
use Rattle.linear_theory.proofs.ConstraintSums.{weight, Parts, mul-parts, add_parts, join_operators_lem}
use Rattle.linear_theory.proofs.ConstraintSums.{scalar-factor, weakened-operator}
use Rattle.linear_theory.proofs.ConstraintFolds.{JoinedOne}
use Rattle.linear_theory.proofs.BoundsAbove.{Above, above-scaled}
use Rattle.linear_theory.proofs.StrengthenConverse.{Matches, strengthened-matches}
use Rattle.alethe.proofs.ConstraintLaws.{factor-lowest, strengthens-terms, strengthens-lowest, strengthens-greater}

-- ---- the relation after scaling

-- a bound that is above stays above
scaled-above : {by : Departures} {a : Rational} {r s : Relation} {x y : ℚ} → ScaledRelation by a r s → Above r x y →
    Above s x y
scaled-above (stays r c) h = h
scaled-above (argument_zero b z) h = record { at_least = h.at_least; exact = inl refl }

-- ---- one literal

pub record Added (P : Term → Type 0) (p q : Progress) (k : Constraint) : Type 0 where
  pub kept : CombinationOf P Lowest q.acc
  pub joins : JoinedOne P p q k
  -- what is added to the constant
  pub share : ℚ
  pub constant : numberℚ q.acc.constant ≡ sum (numberℚ p.acc.constant) share
  pub above : Above k.relation share (numberℚ k.bound)

argument-given : {A : Type 0} {Q : A → Type 0} (p : Progress) (s : LinearComb) (a : Rational)
    (f : Rational × List Rational → Result A) → Answers Q (f (a, p.trace)) →
    Answers Q (argument_of the_rust p s (Some a) >>= f)
unfolding argument_of ◌>>=◌
argument-given p s a f h = h

-- the literal's bound is whole, and its argument not 0 if it is >, or the departures are granted
abbrev pub WholeBound : Departures → Term → Type 0
WholeBound by phi =
    by Departure.whole_product ⊎ ((n : Constraint) → States by phi n → is_integer n.bound ≡ true)

abbrev pub NoZero : Departures → Term → Rational → Type 0
NoZero by phi a =
    by Departure.argument_zero ⊎ ((n : Constraint) → States by phi n → n.relation ≡ gt → is_zero a ≡ false)

module _ {P : Term → Type 0} (closed : Closed P) (by : Departures) (phi : Term) (of-P : P phi) (a : Rational)
    (la : Lowest a) (p : Progress) (start : CombinationOf P Lowest p.acc) where
  -- what mul makes of the sum that was strengthened, for every weight of the atoms
  abbrev Scaled : LinearComb → Rational → LinearComb → Type 0
  Scaled s q r = (v : ℕ → ℚ) →
      Parts P v (product (weight P v s) (numberℚ q)) (product (numberℚ s.constant) (numberℚ q)) r

  scaled-answers : (s : LinearComb) (q : Rational) → CombinationOf P Lowest s → Lowest q →
      Answers (Scaled s q) (mul the_rust s q)
  scaled-answers s q g lq = answered-each (mul-free s q) (λ v. mul-parts P v the_rust s q g lq)

  abbrev Summed : LinearComb → LinearComb → Type 0
  Summed s r = (v : ℕ → ℚ) →
      Parts P v (sum (weight P v p.acc) (weight P v s)) (sum (numberℚ p.acc.constant) (numberℚ s.constant)) r

  summed-answers : (s : LinearComb) → CombinationOf P Lowest s → Answers (Summed s) (add terms the_rust p.acc s)
  summed-answers s g =
      answered-each (add_free terms (λ n. refl) p.acc s) (λ v. add_parts P v the_rust p.acc s start g)

  module _ (k : Constraint) (line : Line by phi a k) where
    abbrev negated : Constraint
    negated = line.negated

    abbrev strong : Constraint
    strong = line.strong

    abbrev f : Rational
    f = factor strong.relation a

    strong-lowest : Lowest strong.bound
    strong-lowest = strengthens-lowest (states-kept closed phi of-P by negated line.states).1 line.strengthens

    terms-are : k.terms ≡ times_each f negated.terms
    terms-are = line.terms ∙ ap (times_each f) (strengthens-terms line.strengthens)

    module _ (zero : NoZero by phi a) (d : Disequality) (agrees : Agrees P d negated) (r : ℕ × LinearComb)
        (m : Matches d.sum strong r) where
      scalar_is : scalar r.0 a ≡ f
      scalar_is = ap (λ o. scalar o a) m.operator ∙ scalar-factor strong.relation a

      sum_kept : CombinationOf P Lowest r.1
      sum_kept =
          record {
            entries = subst (EntriesOf P Lowest) (sym m.entries) agrees.kept.entries;
            constant = m.lowest;
          }

      weak : weakened r.0 a ≡ operator_of k.relation
      weak =
          ap (λ o. weakened o a) m.operator
          ∙ weakened-operator line.relation
          (λ e. ⊎_elim inl (λ z. inr (z negated line.states (strengthens-greater line.strengthens e))) zero)

      module _ (scaled : LinearComb) (h : Scaled r.1 (scalar r.0 a) scaled) (acc : LinearComb)
          (g : Summed scaled acc) where
        abbrev after : Progress
        after = progress (join_operators p.operator (weakened r.0 a)) acc p.trace d.visits

        terms-added : (v : ℕ → ℚ) →
            weight P v acc ≡ sum (weight P v p.acc) (weigh (numbered v) k.terms)
        terms-added v =
            (g v).entries
            ∙ ap (sum (weight P v p.acc))
            ((h v).entries
            ∙ ap₂ product (ap (total (weights P v)) m.entries ∙ agrees.normal.sums v) (ap numberℚ scalar_is)
            ∙ ℚring.mul_comm (weigh (numbered v) negated.terms) (numberℚ f)
            ∙ sym (weigh-times (numbered v) f (factor-lowest a la strong.relation) negated.terms
            agrees.entries)
            ∙ ap (weigh (numbered v)) (sym terms-are))

        share-above : Above k.relation (numberℚ scaled.constant) (numberℚ k.bound)
        share-above =
            let rust =
            (h (λ i. ι (pos 0))).constant ∙ ap (λ q. product (numberℚ r.1.constant) (numberℚ q)) scalar_is in
            let alethe =
            ap numberℚ line.bound
            ∙ rationals.number-mul f strong.bound (factor-lowest a la strong.relation) strong-lowest in
            subst₂ (Above k.relation) (sym rust) (sym alethe)
            (scaled-above line.relation (above-scaled a la strong.relation m.bound))

        added : Added P p after k
        added =
            record {
              kept = (g (λ i. ι (pos 0))).good;
              joins = record {
                terms = terms-added;
                relation = λ o e. ap₂ join_operators e weak ∙ join_operators_lem o k.relation;
                entries =
                    subst (EntriesFor P) (sym terms-are)
                    (entries-times f (factor-lowest a la strong.relation) negated.terms agrees.entries);
                lowest =
                    subst Lowest (sym line.bound)
                    (mul-lowest f strong.bound (factor-lowest a la strong.relation) strong-lowest);
              };
              share = numberℚ scaled.constant;
              constant = (g (λ i. ι (pos 0))).constant;
              above = share-above;
            }

    pub literal-answers : WholeBound by phi → NoZero by phi a →
        Answers (λ q. Added P p q k) (process_disequality the_rust p phi (Some a))
    unfolding process_disequality
    literal-answers whole zero =
        let (d, answer) = states-answered closed phi of-P by negated line.states p.visits in
        let agrees = states-agree closed phi of-P by negated line.states the_rust p.visits d answer in
        let bound = ⊎_elim inl (λ w. inr (w negated line.states)) whole in
        answers-then (answer_is answer agrees) λ d agrees.
        argument-given p d.sum a _
        (answers-then
        (strengthened-matches closed d negated agrees a la bound line.strengthens)
        λ r m.
        answers-then
        (scaled-answers r.1 (scalar r.0 a) (sum_kept zero d agrees r m) (scalar-lowest a la r.0)) λ scaled h.
        answers-then (summed-answers scaled (h (λ i. ι (pos 0))).good) λ acc g.
        answers (added zero d agrees r m scaled h acc g))
