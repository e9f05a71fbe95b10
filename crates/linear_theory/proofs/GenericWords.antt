-- A la_generic step that meets the specification's own words meets them with departures granted (`words_granted`),
-- where no > literal has argument 0, and every bound is whole if `whole_product` is granted: the other departures only
-- accept more. So Carcara accepts the form of such a step (`words-carcara`), and where the coefficients are whole the
-- clause is true (`words-valid`).
use mathlib.Core.Path.{◌≡◌, sym, ◌∙◌}
use mathlib.Core.Bool.{true, false}
use mathlib.Core.List.{List, [], ◌∷◌}
use Rattle.numbers.specs.Rational.{Rational, is_integer, is_zero}
use Rattle.terms.specs.Term.{Term}
use Rattle.numbers.proofs.Truths.{never}
use Rattle.book.proofs.BookTerms.{Closed}
use Rattle.linear_theory.specs.Premises.{all_even}
use Rattle.alethe.specs.AletheTerms.{Departure, Departures, words, carcara}
use Rattle.alethe.specs.Alethe as Alethe
use Rattle.alethe.specs.Alethe.{Clause, Valid, Relation, Constraint, Numbers, States, Strengthens, ScaledRelation, Line}
use Rattle.alethe.specs.Alethe.{Lines, Joins, LaGeneric, WholeLines}
use Rattle.alethe.specs.Alethe.Relation.{gt}
use Rattle.alethe.specs.AletheDifferences as Differences
use Rattle.alethe.specs.AletheDifferences.{WholeBounds, NoZeroArgument}
use Rattle.linear_theory.proofs.Arguments.{EachOf, EachLowest}
use Rattle.linear_theory.proofs.GenericValid.{la_generic-valid}

-- ---- steps 1 to 3

module _ {by by' : Departures} (sorts : by Departure.other_sort → by' Departure.other_sort) where
  numbers_granted : {a b : Term} → Numbers by a b → Numbers by' a b
  numbers_granted (Alethe.numbers e f) = Alethe.numbers e f
  numbers_granted (Alethe.other_sort g) = Alethe.other_sort (sorts g)

  states_granted : {phi : Term} {k : Constraint} → States by phi k → States by' phi k
  states_granted h =
      record {
        o = h.o;
        a = h.a;
        b = h.b;
        x = h.x;
        y = h.y;
        left = h.left;
        right = h.right;
        opposite = h.opposite;
        sorts = numbers_granted h.sorts;
        oriented = h.oriented;
        left_sum = h.left_sum;
        right_sum = h.right_sum;
        terms = h.terms;
        bound = h.bound;
      }

-- ---- steps 4 and 5

-- strengthening makes no >
strong-greater : {by : Departures} {a : Rational} {k k' : Constraint} → Strengthens by a k k' → k'.relation ≡ gt →
    k.relation ≡ gt
strong-greater (Alethe.not_all_int i) e = e
strong-greater (Alethe.equality e) f = f
strong-greater (Alethe.greater_whole i e z) f = e
strong-greater (Alethe.greater_fraction i e z) f = e
strong-greater (Alethe.at_least_whole i e z) f = f
strong-greater (Alethe.at_least_fraction i e z g) f = cc
strong-greater (Alethe.divisor b i e z p g one common most) f = e
strong-greater (Alethe.whole_product b i e z) f = f
strong-greater (Alethe.fractional_product b i e z) f = cc

module _ (by : Departures) where
  strengthens_granted : {a : Rational} {k k' : Constraint} → (by Departure.whole_product → is_integer k.bound ≡ true) →
      Strengthens words a k k' → Strengthens by a k k'
  strengthens_granted w (Alethe.not_all_int i) = Alethe.not_all_int i
  strengthens_granted w (Alethe.equality e) = Alethe.equality e
  strengthens_granted w (Alethe.greater_whole i e z) = Alethe.greater_whole i e z
  strengthens_granted w (Alethe.greater_fraction i e z) = Alethe.greater_fraction i e z
  strengthens_granted w (Alethe.at_least_whole i e z) = Alethe.at_least_whole i e z
  strengthens_granted w (Alethe.at_least_fraction i e z f) = Alethe.at_least_fraction i e z (λ b. never (sym z ∙ w b))
  strengthens_granted w (Alethe.divisor b i e z p g one common most) = absurd b
  strengthens_granted w (Alethe.whole_product b i e z) = absurd b
  strengthens_granted w (Alethe.fractional_product b i e z) = absurd b

  scaled_granted : {a : Rational} {r s : Relation} → (r ≡ gt → is_zero a ≡ false) → ScaledRelation words a r s →
      ScaledRelation by a r s
  scaled_granted n (Alethe.stays r f) = Alethe.stays r (λ g e. n e)
  scaled_granted n (Alethe.argument_zero g z) = absurd g

  line_granted : {phi : Term} {a : Rational} {k : Constraint} →
      ((k : Constraint) → States words phi k → by Departure.whole_product → is_integer k.bound ≡ true) →
      ((k : Constraint) → States words phi k → k.relation ≡ gt → is_zero a ≡ false) → Line words phi a k →
      Line by phi a k
  line_granted w n h =
      record {
        negated = h.negated;
        strong = h.strong;
        states = states_granted absurd h.states;
        strengthens = strengthens_granted (w h.negated h.states) h.strengthens;
        relation = scaled_granted (λ e. n h.negated h.states (strong-greater h.strengthens e)) h.relation;
        terms = h.terms;
        bound = h.bound;
      }

  -- ---- the step

  lines_granted : {c : Clause} {qs : List Rational} {ks : List Constraint} →
      (by Departure.whole_product → WholeBounds words c) → NoZeroArgument words c qs → Lines words c qs ks →
      Lines by c qs ks
  lines_granted w n Alethe.end = Alethe.end
  lines_granted w (Differences.also n ns) (Alethe.line {phi} {c = c} h hs) =
      Alethe.line (line_granted (λ k s b. first (w b) k s) n h) (lines_granted (λ b. others (w b)) ns hs)
    where
      first : WholeBounds words (phi ∷ c) → (k : Constraint) → States words phi k → is_integer k.bound ≡ true
      first (Differences.also b bs) = b

      others : WholeBounds words (phi ∷ c) → WholeBounds words c
      others (Differences.also b bs) = bs

  joins_granted : {ks : List Constraint} {r : Relation} → Joins words ks r → Joins by ks r
  joins_granted Alethe.as_worded = Alethe.as_worded
  joins_granted (Alethe.join g) = absurd g

  generic_granted : {c : Clause} {qs : List Rational} → (by Departure.whole_product → WholeBounds words c) →
      NoZeroArgument words c qs → LaGeneric words c qs → LaGeneric by c qs
  generic_granted w n g =
      record {
        constraints = g.constraints;
        lines = lines_granted w n g.lines;
        cancels = g.cancels;
        relation = g.relation;
        joins = joins_granted g.joins;
        contradiction = g.contradiction;
      }

-- no argument is 0
abbrev pub EachNonzero : List Rational → Type 0
EachNonzero [] = Unit {0}
EachNonzero (q ∷ qs) = (is_zero q ≡ false) × EachNonzero qs

no_zero-argument : {c : Clause} {qs : List Rational} {ks : List Constraint} → Lines words c qs ks → EachNonzero qs →
    NoZeroArgument words c qs
no_zero-argument Alethe.end n = Differences.end
no_zero-argument (Alethe.line h hs) (n, ns) = Differences.also (λ k s e. n) (no_zero-argument hs ns)

pub words_granted : (by : Departures) {c : Clause} {qs : List Rational} → LaGeneric words c qs → EachNonzero qs →
    (by Departure.whole_product → ⊥) → LaGeneric by c qs
words_granted by g n w = generic_granted by (λ b. absurd (w b)) (no_zero-argument g.lines n) g

pub words-carcara : {c : Clause} {qs : List Rational} → LaGeneric words c qs → NoZeroArgument words c qs →
    WholeBounds words c → LaGeneric carcara c qs
words-carcara g n w = generic_granted carcara (λ b. w) n g

-- ---- soundness of the words

-- the only departure that the words need
abbrev pub zero_argument : Departures
zero_argument Departure.divisor = ⊥
zero_argument Departure.whole_product = ⊥
zero_argument Departure.fractional_product = ⊥
zero_argument Departure.argument_zero = Unit {0}
zero_argument Departure.join = ⊥
zero_argument Departure.surplus_arguments = ⊥
zero_argument Departure.other_sort = ⊥
zero_argument Departure.any_bound = ⊥
zero_argument Departure.real_difference = ⊥

whole_granted : {c : Clause} {qs : List Rational} → WholeLines words c qs → WholeLines zero_argument c qs
whole_granted Alethe.end = Alethe.end
whole_granted (Alethe.also w ws) =
    Alethe.also (λ k h i. ((w k (states_granted absurd h) i).0, λ b. absurd b)) (whole_granted ws)

pub words-valid : {P : Term → Type 0} → Closed P → (c : Clause) → EachOf P c → all_even c ≡ true → (qs : List Rational) →
    EachLowest qs → NoZeroArgument words c qs → WholeLines words c qs → LaGeneric words c qs → Valid c
words-valid closed c ps even qs ls n w g =
    la_generic-valid closed zero_argument tt c ps even qs ls (whole_granted w) (generic_granted zero_argument absurd n g)
