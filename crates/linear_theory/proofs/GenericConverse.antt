-- la_generic, the converse: what the Alethe specification's words make a la_generic step the Rust accepts, where every
-- bound after step 3 is whole and no > literal has the argument 0, or where the departures on these are granted
-- (`generic_accepted`). Literal by literal the fold adds a line's constraint to the sum, with a bound that is at least
-- as high; at the end no atom is left, and the Rust's bound contradicts as the sum of the bounds does. Under limits the
-- step is refused for a limit alone (`generic_not-refused`).
use mathlib.Core.Path.{◌≡◌, refl, sym, ◌∙◌, ap, ap₂, subst}
use mathlib.Core.Bool.{true, not, ◌&&◌}
use mathlib.Core.List.{List, [], ◌∷◌}
use mathlib.Core.Logic.{◌⊎◌, inl, inr}
use Prim.Native.Nat.{ℕ}
use borrow.Author.Tests.{eq-eqb}
use lib.IntN.{pos}
use lib.ListN.{length}
use Rattle.numbers.specs.Rational.{Rational, Lowest}
use Rattle.terms.specs.Term.{Term}
use Rattle.numbers.proofs.Ring.{◌⊕◌, neg, 𝟘, 𝟙, ◌≐◌, ◌·◌, ◌and◌, ◌from◌, solve, derive}
use Rattle.numbers.proofs.Quotient.{ℚ, ℚring, sum, ι}
use Rattle.numbers.proofs.LowestTerms.{whole_is_lowest}
use Rattle.book.proofs.BookTerms.{Closed}
use Rattle.rules.specs.declared.refusal.Refusal.{Refusal}
use Rattle.std.specs.Prelude.{Ok, Err}
use Rattle.rules.specs.Limits.{Limits, the_rust}
use Rattle.index_map.specs.IndexMap.{is_empty, new}
use Rattle.index_map.specs.Memory.Entries as Entry
use Rattle.process_disequality.specs.ProcessDisequality.{Progress}
use Rattle.linear_arithmetic.specs.LinearArithmetic.{fold_literals, is_true_at_zero, la_generic_partial, la_generic}
use Rattle.alethe.specs.AletheTerms.{Departure, Departures, Cancels, nought}
use Rattle.alethe.specs.Alethe.{Clause, Constraint, Relation, Lines, LaGeneric, Arguments, all_terms, sum_bound, weaker}
use Rattle.alethe.specs.Alethe.{stronger, joined, Joins, contradicts}
use Rattle.alethe.specs.Alethe.Relation.{eq}
use Rattle.alethe.specs.AletheDifferences.{WholeBounds, NoZeroArgument}
use Rattle.rules.proofs.Results.{next, asserts}
use Rattle.rules.proofs.Yields.{at_ok}
use Rattle.rules_theory.proofs.Limited.{IsLimit, limit-alone}
use Rattle.linear_theory.proofs.LimitedLinear.{la_generic-limited}
use Rattle.linear_theory.proofs.NoZero as Tidy
use Rattle.linear_theory.proofs.NoZero.{fold_literals-nonzero}
use Rattle.rules.proofs.Valuations.{numberℚ, rationals}
use Rattle.rules_theory.proofs.IndexMaps.{CombinationOf, total}
use Rattle.rules_theory.proofs.Unlimited.{Answers, answers, answer_of, answers-then, answered-as}
use Rattle.linear_theory.proofs.Weights.{weigh, numbered}
use Rattle.linear_theory.proofs.NormalForms.{normal-empty}
use Rattle.linear_theory.proofs.Arguments.{EachOf, EachLowest, arguments-lowest, arguments-length}
use Rattle.linear_theory.proofs.Arguments.{arguments-accepted}
use Rattle.linear_theory.proofs.ConstraintSums.{contradicts_is}
use Rattle.alethe.proofs.ConstraintLaws.{lines-length}
use Rattle.linear_theory.proofs.ConstraintFolds.{start, chained, JoinedAll, nothing-joined, then-joined}
use Rattle.linear_theory.proofs.BoundsAbove.{Above, above_same, above-add, above-contradicts}
use Rattle.linear_theory.proofs.LineConverse.{WholeBound, NoZero, Added, literal-answers}

-- ---- the two conditions, by literals

abbrev WholeOr : Departures → Clause → Type 0
WholeOr by c = by Departure.whole_product ⊎ WholeBounds by c

abbrev NoZeroOr : Departures → Clause → List Rational → Type 0
NoZeroOr by c qs = by Departure.argument_zero ⊎ NoZeroArgument by c qs

whole_parts : {by : Departures} {phi : Term} {c : Clause} → WholeOr by (phi ∷ c) → WholeBound by phi × WholeOr by c
whole_parts (inl b) = (inl b, inl b)
whole_parts (inr (WholeBounds.also h w)) = (inr h, inr w)

nonzero-parts : {by : Departures} {phi : Term} {c : Clause} {a : Rational} {qs : List Rational} →
    NoZeroOr by (phi ∷ c) (a ∷ qs) → NoZero by phi a × NoZeroOr by c qs
nonzero-parts (inl b) = (inl b, inl b)
nonzero-parts (inr (NoZeroArgument.also h z)) = (inr h, inr z)

-- ---- the fold

-- what the lines' constraints add to the sum
record Summed (P : Term → Type 0) (p r : Progress) (ks : List Constraint) : Type 0 where
  kept : CombinationOf P Lowest r.acc
  joins : JoinedAll P p r ks
  share : ℚ
  constant : numberℚ r.acc.constant ≡ sum (numberℚ p.acc.constant) share
  above : Above (joined weaker ks) share (numberℚ (sum_bound ks))

module _ (P : Term → Type 0) where
  none_summed : (p : Progress) → CombinationOf P Lowest p.acc → Summed P p p []
  unfolding sum_bound joined
  none_summed p h =
      record {
        kept = h;
        joins = nothing-joined P p;
        share = ι (pos 0);
        constant = sym (ℚring.add-zero _);
        above = above_same eq (sym (rationals.number-whole (pos 0)));
      }

  one_more : (p q r : Progress) (k : Constraint) (ks : List Constraint) → Added P p q k → Summed P q r ks →
      Summed P p r (k ∷ ks)
  unfolding sum_bound joined
  one_more p q r k ks a s =
      record {
        kept = s.kept;
        joins = then-joined P k ks a.joins s.joins;
        share = sum a.share s.share;
        constant = chained _ _ _ a.constant s.constant refl;
        above =
            subst (Above (weaker k.relation (joined weaker ks)) (sum a.share s.share))
            (sym (rationals.number-add k.bound (sum_bound ks) a.joins.lowest s.joins.lowest))
            (above-add a.above s.above);
      }

module _ {P : Term → Type 0} (closed : Closed P) (by : Departures) where
  fold-answers : (c : Clause) → EachOf P c → (qs : List Rational) → EachLowest qs → (ks : List Constraint) →
      Lines by c qs ks → WholeOr by c → NoZeroOr by c qs → (p : Progress) → CombinationOf P Lowest p.acc →
      Answers (λ r. Summed P p r ks) (fold_literals the_rust c qs p)
  unfolding fold_literals
  fold-answers [] ps [] ls [] Lines.end whole zero p h = answers (none_summed P p h)
  fold-answers (phi ∷ c) (of-P, ps) (a ∷ qs) (la, ls) (k ∷ ks) (Lines.line line lines) whole zero p h =
      let w = whole_parts whole in
      let z = nonzero-parts zero in
      answers-then (literal-answers closed by phi of-P a la p h k line w.0 z.0) λ q added.
      answered-as (λ r s. one_more P p q r k ks added s)
      (fold-answers c ps qs ls ks lines w.1 z.1 q added.kept)
  fold-answers [] ps [] ls (k ∷ ks) x15 whole zero p h = elim x15 [ ]
  fold-answers [] ps (a ∷ qs) ls ks x12 whole zero p h = elim x12 [ ]
  fold-answers (phi ∷ c) (of-P, ps) [] ls ks x9 whole zero p h = elim x9 [ ]
  fold-answers (phi ∷ c) (of-P, ps) (a ∷ qs) (la, ls) [] x12 whole zero p h = elim x12 [ ]

-- ---- the end

module _ {P : Term → Type 0} (closed : Closed P) (n : ℕ) (r : Progress) (ks : List Constraint)
    (s : Summed P (start n) r ks) where
  constant_is : s.share ≡ numberℚ r.acc.constant
  constant_is =
      derive ℚring (s.share ∷ numberℚ r.acc.constant ∷ numberℚ nought ∷ [])
      (λ x c z. x ≐ c from neg 𝟙 · c ≐ z ⊕ x and neg 𝟙 · z ≐ 𝟘)
      tt s.constant (rationals.number-whole (pos 0))

  none_left : Tidy.NoZero Entry.terms r.acc.entries → Cancels (all_terms ks) → r.acc.entries ≡ []
  unfolding total
  none_left tidy cancels =
      normal-empty closed (all_terms ks) s.joins.entries r.acc.entries
      (record {
        tidy = tidy;
        kept = s.kept.entries;
        sums = λ v.
            s.joins.terms v ∙ solve ℚring (weigh (numbered v) (all_terms ks) ∷ []) (λ x. 𝟘 ⊕ x ≐ x) tt;
      })
      cancels

  refuted : {by : Departures} {o : Relation} → Joins by ks o → contradicts o (sum_bound ks) ≡ true →
      not (is_true_at_zero r.operator r.acc.constant) ≡ true
  refuted joins e =
      let above = subst (λ x. Above (joined weaker ks) x (numberℚ (sum_bound ks))) constant_is s.above in
      let c = r.acc.constant in
      ap (λ o. not (is_true_at_zero o c)) (s.joins.relation eq refl)
      ∙ sym (contradicts_is (joined stronger ks) c)
      ∙ above-contradicts c (sum_bound ks) s.kept.constant s.joins.lowest ks above joins e

-- ---- the rule

nothing_yet : (P : Term → Type 0) → CombinationOf P Lowest new
nothing_yet P = record { entries = tt; constant = whole_is_lowest (pos 0) }

module _ {P : Term → Type 0} (closed : Closed P) where
  pub generic_accepted : (by : Departures) (c : Clause) → EachOf P c → (args : List Term) (qs : List Rational) →
      EachOf P args → Arguments args qs → LaGeneric by c qs → by Departure.whole_product ⊎ WholeBounds by c →
      by Departure.argument_zero ⊎ NoZeroArgument by c qs → (n : ℕ) →
      (p : Progress) × (la_generic the_rust c args n ≡ Ok p)
  unfolding la_generic la_generic_partial
  generic_accepted by c ps args qs of-P given g whole zero n =
      let ks = g.constraints in
      let lowest = arguments-lowest closed args of-P qs given in
      let folded = fold-answers closed by c ps qs lowest ks g.lines whole zero (start n) (nothing_yet P) in
      let (p, (e, s)) = answer_of folded in
      let counted = eq-eqb (length args) (length c) (sym (arguments-length given) ∙ lines-length g.lines) in
      let tidy = at_ok (fold_literals-nonzero the_rust c qs (start n) Tidy.empty) e in
      let empty = ap is_empty (none_left closed n p ks s tidy g.cancels) in (
        p,
        next _ (asserts _ counted)
            ∙ next _ (arguments-accepted given)
            ∙ next _ e
            ∙ next _ (asserts _ (ap₂ ◌&&◌ empty (refuted closed n p ks s g.joins g.contradiction))),
      )

  -- under limits it is refused for a limit alone
  pub generic_not-refused : (by : Departures) (c : Clause) → EachOf P c → (args : List Term) (qs : List Rational) →
      EachOf P args → Arguments args qs → LaGeneric by c qs → by Departure.whole_product ⊎ WholeBounds by c →
      by Departure.argument_zero ⊎ NoZeroArgument by c qs → (l : Limits) (n : ℕ) (r : Refusal) →
      la_generic l c args n ≡ Err r → IsLimit r
  generic_not-refused by c ps args qs of-P given g whole zero l n r =
      limit-alone (la_generic-limited l c args n) (generic_accepted by c ps args qs of-P given g whole zero n).1
