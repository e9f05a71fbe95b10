-- Step 4 of la_generic: what `strengthen` makes of a disequality that agrees with a constraint is a row of the table or
-- one of Carcara's departures (`strengthened-strong`).
--     Strong       the operator and the sum after strengthening are a constraint
use mathlib.Core.Path.{◌≡◌, refl, sym, ◌∙◌, ap, subst}
use mathlib.Core.Bool.{Bool, true, false}
use mathlib.Core.Logic.{⊎_elim}
use Prim.Native.Nat.{ℕ}
use lib.IntN.{ℤ, pos}
use Rattle.numbers.specs.Rational.{Rational, whole, Lowest, add_q, floor_q, is_integer}
use Rattle.terms.specs.Term.{Term}
use Rattle.book.proofs.BookTerms.{Closed}
use Rattle.rules.specs.Limits.{Limits}
use Rattle.index_map.specs.IndexMap.{Map, combination}
use Rattle.linear_comb.specs.LinearComb.{LinearComb, coefficients_gcd}
use Rattle.linear_comb.specs.LinearComb as Linear
use Rattle.process_disequality.specs.ProcessDisequality.{strengthened}
use Rattle.disequality.specs.Disequality.{is_integer_times, raised, floored, strengthen}
use Rattle.alethe.specs.AletheTerms.{carcara, one}
use Rattle.alethe.specs.Alethe as Alethe
use Rattle.alethe.specs.Alethe.{Relation, Constraint, constraint, all_int, raised_by, whole_times, Strengthens, not_all_int}
use Rattle.alethe.specs.Alethe.{equality, greater_whole, greater_fraction}
use Rattle.alethe.specs.Alethe.Relation.{eq, ge, gt}
use Rattle.rules.proofs.Yields.{Yields, gives, and_then, by_test, plus-yields}
use Rattle.linear_theory.proofs.Weights.{EntriesFor}
use Rattle.linear_theory.proofs.NormalForms.{Normal, Divisor, normal-all_int, normal-divisor}
use Rattle.linear_theory.proofs.Disequalities.{operator_of}
use Rattle.linear_theory.proofs.Strengthening.{floor_of_whole, times-test}

pub record Strong (k : Constraint) (m : Map Term) (a : Rational) (r : ℕ × LinearComb) : Type 0 where
  pub strong : Constraint
  pub strengthens : Strengthens carcara a k strong
  pub operator : r.0 ≡ operator_of strong.relation
  pub sum : r.1 ≡ combination m strong.bound

module _ {P : Term → Type 0} (closed : Closed P) (l : Limits) (k : Constraint) (of : EntriesFor P k.terms)
    (lk : Lowest k.bound) (m : Map Term) (n : Normal P k.terms m) (a : Rational) (la : Lowest a) where
  abbrev s : LinearComb
  s = combination m k.bound

  unchanged : {o : ℕ} → o ≡ operator_of k.relation → Strengthens carcara a k k → Strong k m a (o, s)
  unchanged e h = record { strong = k; strengthens = h; operator = e; sum = refl }

  raised-strong : (z : ℤ) (g : ℕ) → z ≡ pos g → Strengthens carcara a k (raised_by g k) →
      Yields (Strong k m a) (raised l (floored s) z)
  unfolding raised
  raised-strong z g e h =
      and_then (plus-yields l (floor_q k.bound) (whole z)) λ c q.
      gives
      (record {
        strong = raised_by g k;
        strengthens = h;
        operator = refl;
        sum = ap (combination m) (q ∙ ap (λ (z : ℤ). add_q (floor_q k.bound) (whole z)) e);
      })

  module _ (i : all_int k ≡ true) where
    greater_by_one : k.relation ≡ gt → Strengthens carcara a k (raised_by 1 k)
    greater_by_one e = at (is_integer k.bound) refl
      where
        at : (w : Bool) → is_integer k.bound ≡ w → Strengthens carcara a k (raised_by 1 k)
        at true w =
            subst (λ (d : Rational). Strengthens carcara a k (constraint k.terms ge (add_q d one)))
            (sym (floor_of_whole k.bound w)) (greater_whole i e w)
        at false w = greater_fraction i e w

    greater_by_divisor : k.relation ≡ gt → whole_times a k ≡ true → (d : Divisor k m) →
        Strengthens carcara a k (raised_by d.divisor k)
    greater_by_divisor e w d = ⊎_elim by_one (λ (common, most, positive).
        Alethe.divisor tt i e w positive d.divisor d.least common most) d.greatest
      where
        by_one : d.divisor ≡ 1 → Strengthens carcara a k (raised_by d.divisor k)
        by_one h = subst (λ (g : ℕ). Strengthens carcara a k (raised_by g k)) (sym h) (greater_by_one e)

    strengthen-strong : (r : Relation) → k.relation ≡ r → Yields (Strong k m a) (strengthen l (operator_of r) s a)
    unfolding strengthen
    strengthen-strong eq e = gives (unchanged (ap operator_of (sym e)) (equality e))
    strengthen-strong ge e =
        by_test (is_integer_times k.bound a) _ _
        (λ t. gives (unchanged (ap operator_of (sym e)) (Alethe.whole_product tt i e (sym (test) ∙ t))))
        (λ t. raised-strong (pos 1) 1 refl (Alethe.fractional_product tt i e (sym (test) ∙ t)))
      where
        test : is_integer_times k.bound a ≡ whole_times a k
        test = times-test k.bound a lk la
    strengthen-strong gt e =
        let d = normal-divisor closed k of lk m n in
        by_test (is_integer_times k.bound a) _ _
        (λ t.
        raised-strong (coefficients_gcd (floored s)) d.divisor d.is
        (greater_by_divisor e (sym (times-test k.bound a lk la) ∙ t) d))
        (λ t. raised-strong (pos 1) 1 refl (greater_by_one e))

  pub strengthened-strong : Yields (Strong k m a) (strengthened l (operator_of k.relation) s a)
  strengthened-strong =
      let same = normal-all_int closed k.terms of m n in
      by_test (Linear.all_int m) _ _ (λ i. strengthen-strong (sym same ∙ i) k.relation refl)
      (λ i. gives (unchanged refl (not_all_int (sym same ∙ i))))
