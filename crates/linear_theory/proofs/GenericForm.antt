-- An accepted la_generic or bounded_farkas step is one in the wording of the Alethe specification with Carcara's
-- departures (`la_generic-form`, `la_generic_partial-form`), without a premise on its terms: literal by literal the fold
-- adds a line's constraint to the sum, so at the end the sum is that of all constraints. It has no atoms left, and 0
-- does not stand in the relation to its bound. The numbers given and inferred are in lowest terms
-- (`Arguments.arguments-lowest`, `trace-lowest`).
use mathlib.Core.Path.{◌≡◌, refl, sym, ◌∙◌, ap, ap₂, subst}
use mathlib.Core.Bool.{Bool, true, not, ◌&&◌}
use mathlib.Core.List.{List, [], ◌∷◌, ◌++◌}
use mathlib.Core.Logic.{◌⊎◌, inl, inr, ⊎_elim}
use Prim.Native.Nat.{ℕ}
use native.Mathlib.Omega.{arith}
use lib.Dec.{eqb}
use lib.IntN.{pos}
use lib.ListN.{length}
use borrow.Author.Tests.{eqb-true}
use Rattle.numbers.specs.Rational.{Rational, Lowest}
use Rattle.terms.specs.Term.{Term}
use Rattle.numbers.proofs.Truths.{both}
use Rattle.numbers.proofs.Ring.{◌⊕◌, 𝟘, 𝟙, neg, ◌≐◌, ◌·◌, ◌and◌, ◌from◌, derive}
use Rattle.numbers.proofs.Quotient.{ℚring}
use Rattle.book.proofs.BookTerms.{Closed}
use Rattle.rules.specs.Refusal.{assert}
use Rattle.std.specs.Prelude.{Ok}
use Rattle.rules.specs.declared.refusal.Refusal.TheVariants.{WrongNumberOfArgs, DisequalityIsNotContradiction}
use Rattle.rules.specs.Limits.{Limits}
use Rattle.index_map.specs.IndexMap.{is_empty, new}
use Rattle.process_disequality.specs.ProcessDisequality.{Progress}
use Rattle.linear_arithmetic.specs.LinearArithmetic.{read_args, fold_literals, is_true_at_zero, la_generic_partial, la_generic}
use Rattle.rules.specs.Shapes.{Clause}
use Rattle.alethe.specs.AletheTerms.{carcara, Cancels}
use Rattle.alethe.specs.Alethe.{Constraint, all_terms, sum_bound, stronger, joined, join, contradicts, LaGeneric}
use Rattle.alethe.specs.Alethe.{Arguments, BoundedFarkas, completed, surplus_arguments}
use Rattle.alethe.specs.Alethe.Relation.{eq}
use Rattle.rules.proofs.Yields.{at_ok, through}
use Rattle.rules.proofs.Valuations.{numberℚ, rationals, number_unique}
use Rattle.linear_theory.proofs.NoZero as NoZero
use Rattle.rules_theory.proofs.IndexMaps.{total}
use Rattle.linear_theory.proofs.MapEntries.{no_entries}
use Rattle.linear_theory.proofs.Weights.{weigh, numbered, weights}
use Rattle.linear_theory.proofs.NormalForms.{normal-cancels}
use Rattle.linear_theory.proofs.Arguments.{EachOf, EachLowest, asserted-true, arguments-found, arguments-lowest}
use Rattle.linear_theory.proofs.Arguments.{arguments-length}
use Rattle.alethe.proofs.ConstraintLaws.{lines-length}
use Rattle.linear_theory.proofs.ConstraintSums.{contradicts_is}
use Rattle.linear_theory.proofs.ConstraintFolds.{start}
use Rattle.linear_theory.proofs.GenericFold.{Summed, Assigned, no_literal, no_argument, given, fold-lines}

-- ---- the arguments

all_or_surplus : {qs taken surplus inferred : List Rational} → Assigned qs taken surplus inferred →
    (taken ≡ qs ++ inferred) ⊎ ((inferred ≡ []) × (qs ≡ taken ++ surplus))
all_or_surplus (no_literal []) = inl refl
all_or_surplus (no_literal (q ∷ qs)) = inr (refl, refl)
all_or_surplus (no_argument inferred) = inl refl
all_or_surplus (given q h) =
    ⊎_elim (λ e. inl (ap (◌∷◌ q) e)) (λ e. inr (e.0, ap (◌∷◌ q) e.1)) (all_or_surplus h)

-- where there are as many arguments as literals, none is inferred and none is left
none_inferred : {qs taken surplus inferred : List Rational} → Assigned qs taken surplus inferred →
    length qs ≡ length taken →
    (taken ≡ qs) × (inferred ≡ [])
none_inferred (no_literal []) e = (refl, refl)
none_inferred (no_literal (q ∷ qs)) e = absurd (omega arith)
none_inferred (no_argument []) e = (refl, refl)
none_inferred (no_argument (q ∷ inferred)) e = absurd (omega arith)
none_inferred (given q h) e = let r = none_inferred h (omega arith) in (ap (◌∷◌ q) r.0, r.1)

-- ---- the end

module _ {P : Term → Type 0} (closed : Closed P) (l : Limits) where
  module _ (n : ℕ) (r : Progress) (ks : List Constraint) (s : Summed P (start n) r ks) where
    sum-cancels : is_empty r.acc.entries ≡ true → Cancels (all_terms ks)
    unfolding total
    sum-cancels e =
        normal-cancels closed (all_terms ks) s.joins.entries
        (record {
          tidy = NoZero.empty;
          kept = tt;
          sums = λ v.
              derive ℚring
              (total (weights P v) r.acc.entries ∷ total (weights P v) [] ∷ weigh (numbered v) (all_terms ks) ∷ [])
              (λ a z w. z ≐ w from 𝟙 · a ≐ z ⊕ w and neg 𝟙 · a ≐ z and 𝟙 · z ≐ 𝟘) tt (s.joins.terms v)
              (ap (total (weights P v)) (no_entries r.acc.entries e)) refl;
        })

    bound_is : Lowest r.acc.constant → r.acc.constant ≡ sum_bound ks
    bound_is lr =
        number_unique r.acc.constant (sum_bound ks) lr s.joins.lowest
        (derive ℚring (numberℚ r.acc.constant ∷ numberℚ (new {K = Term}).constant ∷ numberℚ (sum_bound ks) ∷ [])
        (λ c z b. c ≐ b from 𝟙 · c ≐ z ⊕ b and 𝟙 · z ≐ 𝟘) tt s.bound (rationals.number-whole (pos 0)))

    sum-contradicts : Lowest r.acc.constant → not (is_true_at_zero r.operator r.acc.constant) ≡ true →
        contradicts (joined stronger ks) (sum_bound ks) ≡ true
    sum-contradicts lr t =
        contradicts_is (joined stronger ks) (sum_bound ks)
        ∙ ap not (ap₂ is_true_at_zero (sym (s.joins.relation eq refl)) (sym (bound_is lr)))
        ∙ t

  abbrev refutes : Progress → Bool
  refutes p = is_empty p.acc.entries && not (is_true_at_zero p.operator p.acc.constant)

  -- what an accepted step goes through
  pub record Accepted (c : Clause) (args : List Term) (r : Progress) : Type 0 where
    pub numbers : List Rational
    pub arguments : Arguments args numbers
    pub taken : List Rational
    pub surplus : List Rational
    pub assigned : Assigned numbers taken surplus r.trace
    pub lowest : EachLowest r.trace
    pub form : LaGeneric carcara c taken

  pub accepted : (c : Clause) → EachOf P c → (args : List Term) → EachOf P args → (n : ℕ) (r : Progress) →
      la_generic_partial l c args n ≡ Ok r → Accepted c args r
  unfolding la_generic_partial
  accepted c ps args fs n r e =
      let t = through (read_args l args) _ r e in
      let qs = t.middle in
      let given = at_ok (arguments-found l args) t.first in
      let u = through (fold_literals l c qs (start n)) _ r t.then in
      let p = u.middle in
      let v = through (assert (refutes p) DisequalityIsNotContradiction) _ r u.then in
      let b = both (is_empty p.acc.entries) _ (asserted-true _ _ _ v.first) in
      let f =
      fold-lines closed l c ps qs (arguments-lowest closed args fs qs given) (start n) p u.first
      (record { entries = tt; constant = rationals.good-whole (pos 0) }) in
      let ks = f.constraints in
      subst (Accepted c args) (let h = v.then in let same : p ≡ r = cc in same)
      (record {
        numbers = qs;
        arguments = given;
        taken = f.taken;
        surplus = f.surplus;
        assigned = subst (Assigned qs f.taken f.surplus) (sym f.traced) f.assigned;
        lowest = subst EachLowest (sym f.traced) f.lowest;
        form = record {
          constraints = ks;
          lines = f.lines;
          cancels = sum-cancels n p ks f.summed b.0;
          relation = joined stronger ks;
          joins = join tt;
          contradiction = sum-contradicts n p ks f.summed f.left.constant b.1;
        };
      })

-- ---- the theorem

-- the step's numbers, none of which is inferred
pub record GenericStep (c : Clause) (args : List Term) (p : Progress) : Type 0 where
  pub numbers : List Rational
  pub arguments : Arguments args numbers
  pub form : LaGeneric carcara c numbers
  pub nothing-inferred : p.trace ≡ []

module _ {P : Term → Type 0} (closed : Closed P) (c : Clause) (terms-of-P : EachOf P c) (l : Limits) (args : List Term)
    (args-of-P : EachOf P args) (n : ℕ) (p : Progress) where
  step : la_generic_partial l c args n ≡ Ok p → Accepted closed l c args p
  step = accepted closed l c terms-of-P args args-of-P n p

  pub la_generic_partial-form : la_generic_partial l c args n ≡ Ok p → BoundedFarkas carcara c args p.trace
  la_generic_partial-form e =
      let a = step e in
      ⊎_elim (λ all. completed a.numbers a.arguments (subst (LaGeneric carcara c) all a.form))
      (λ left.
      surplus_arguments tt a.taken a.surplus (subst (Arguments args) left.1 a.arguments) left.0 a.form)
      (all_or_surplus a.assigned)

  pub trace-lowest : la_generic_partial l c args n ≡ Ok p → EachLowest p.trace
  trace-lowest e = (step e).lowest

  pub la_generic-form : la_generic l c args n ≡ Ok p → GenericStep c args p
  unfolding la_generic
  la_generic-form e =
      let t = through (assert (eqb (length args) (length c)) WrongNumberOfArgs) _ p e in
      let a = step t.then in
      let same = eqb-true (length args) (length c) (asserted-true _ _ _ t.first) in
      let r =
      none_inferred a.assigned (arguments-length a.arguments ∙ same ∙ sym (lines-length a.form.lines)) in
      record {
        numbers = a.numbers;
        arguments = a.arguments;
        form = subst (LaGeneric carcara c) r.0 a.form;
        nothing-inferred = r.1;
      }
