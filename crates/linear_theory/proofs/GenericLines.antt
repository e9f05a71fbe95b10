-- One literal of an accepted la_generic or bounded_farkas step is a line of the Alethe specification with Carcara's
-- departures (`literal-taken`): its disequality agrees with a constraint that states its opposite, this is
-- strengthened, and what is added to the sum is the strong constraint times the argument.
--     Added       what a literal adds to the sum is the constraint
--     Taken       the argument, the constraint and the line
use mathlib.Core.Path.{◌≡◌, refl, sym, ◌∙◌, ap, ap₂, subst}
use Rattle.std.specs.Prelude.{Option}
use mathlib.Core.Logic.{inl}
use Prim.Native.Nat.{ℕ}
use lib.IntN.{pos}
use Rattle.numbers.specs.Rational.{Rational, Lowest, mul_q}
use Rattle.terms.specs.Term.{Term}
use Rattle.numbers.proofs.Quotient.{ℚ, ℚring, sum, product}
use Rattle.book.proofs.BookTerms.{Closed}
use Rattle.std.specs.Prelude.{Ok}
use Rattle.rules.specs.Limits.{Limits}
use Rattle.index_map.specs.IndexMap.{combination}
use Rattle.linear_comb.specs.LinearComb.{LinearComb, mul}
use Rattle.process_disequality.specs.ProcessDisequality.{strengthened, Progress, join_operators, weakened, scalar}
use Rattle.process_disequality.specs.ProcessDisequality.{process_disequality}
use Rattle.disequality.specs.Disequality.{Disequality}
use Rattle.alethe.specs.AletheTerms.{carcara, times_each}
use Rattle.alethe.specs.Alethe.{Relation, Constraint, constraint, States, factor, Line, stronger}
use Rattle.rules.proofs.Yields.{at_ok}
use Rattle.rules.proofs.Valuations.{numberℚ, rationals}
use Rattle.rules_theory.proofs.IndexMaps.{CombinationOf}
use Rattle.linear_theory.proofs.Weights.{weigh, numbered, EntriesFor, weigh-times, entries-times}
use Rattle.linear_theory.proofs.Disequalities.{operator_of, Agrees, disequality-states, states-agree}
use Rattle.alethe.proofs.ConstraintLaws.{factor-lowest, strengthens-terms, strengthens-lowest}
use Rattle.linear_theory.proofs.LiteralSteps.{LowestGiven, Argued, Steps, steps, steps-argued, argument-lowest}
use Rattle.linear_theory.proofs.ConstraintSums.{operator_is, join_operators_lem, scalar-factor, weakened-operator}
use Rattle.linear_theory.proofs.ConstraintSums.{scaled_exists, weight, Parts, mul-parts, add_parts}
use Rattle.linear_theory.proofs.ConstraintFolds.{JoinedOne}
use Rattle.linear_theory.proofs.GenericStrengthens.{Strong, strengthened-strong}

module _ (P : Term → Type 0) where
  pub record Added (p q : Progress) (k : Constraint) : Type 0 where
    pub joins : JoinedOne P p q k
    pub bound : numberℚ q.acc.constant ≡ sum (numberℚ p.acc.constant) (numberℚ k.bound)

  pub record Taken (p : Progress) (phi : Term) (arg : Option Rational) (q : Progress) : Type 0 where
    pub argument : Rational
    pub lowest : Lowest argument
    pub argued : Argued arg p.trace argument q.trace
    pub constraint : Constraint
    pub line : Line carcara phi argument constraint
    pub left : CombinationOf P Lowest q.acc
    pub added : Added p q constraint

module _ {P : Term → Type 0} (closed : Closed P) (l : Limits) (p : Progress) (phi : Term) (arg : Option Rational)
    (q : Progress) (e : process_disequality l p phi arg ≡ Ok q) (of-P : P phi) (given : LowestGiven arg)
    (h : CombinationOf P Lowest p.acc) where
  abbrev t : Steps l p phi arg q
  t = steps l p phi arg q e

  abbrev a : Rational
  a = t.argument.0

  abbrev d : Disequality
  d = t.literal

  stated : (k : Constraint) × States carcara phi k
  stated = at_ok (disequality-states closed phi of-P l p.visits) t.of_literal

  abbrev k : Constraint
  k = stated.0

  agrees : Agrees P d k
  agrees = states-agree closed phi of-P carcara k stated.1 l p.visits d t.of_literal

  lowest : Lowest a
  lowest = at_ok (argument-lowest l P p d.sum arg h.entries agrees.kept.entries given) t.of_argument

  bound-lowest : Lowest k.bound
  bound-lowest = subst Lowest agrees.bound agrees.kept.constant

  strong : Strong k d.sum.entries a t.stronger
  strong =
      at_ok
      (strengthened-strong closed l k agrees.entries bound-lowest
      d.sum.entries agrees.normal a lowest)
      (sym
      (ap₂ (λ (o : ℕ) (s : LinearComb). strengthened l o s a)
      (operator_is agrees.upward ∙ ap operator_of agrees.relation)
      (ap (combination d.sum.entries) agrees.bound))
      ∙ t.of_stronger)

  abbrev k' : Constraint
  k' = strong.strong

  strong-lowest : Lowest k'.bound
  strong-lowest = strengthens-lowest bound-lowest strong.strengthens

  -- the factor, and the relation after scaling
  abbrev f : Rational
  f = factor k'.relation a

  scalar_is : scalar t.stronger.0 a ≡ f
  scalar_is = ap (λ (o : ℕ). scalar o a) strong.operator ∙ scalar-factor k'.relation a

  lf : Lowest f
  lf = factor-lowest a lowest k'.relation

  abbrev r : Relation
  r = (scaled_exists a k'.relation).0

  abbrev line-constraint : Constraint
  line-constraint = constraint (times_each f k'.terms) r (mul_q f k'.bound)

  line_of : Line carcara phi a line-constraint
  line_of =
      record {
        negated = k;
        strong = k';
        states = stated.1;
        strengthens = strong.strengthens;
        relation = (scaled_exists a k'.relation).1;
        terms = refl;
        bound = refl;
      }

  entries_of_lem : EntriesFor P k'.terms
  entries_of_lem = subst (EntriesFor P) (sym (strengthens-terms strong.strengthens)) agrees.entries

  module _ (v : ℕ → ℚ) where
    abbrev c : LinearComb
    c = combination d.sum.entries k'.bound

    times : Parts P v (product (weight P v c) (numberℚ f)) (product (numberℚ k'.bound) (numberℚ f)) t.scaled
    times =
        at_ok (mul-parts P v l c f (record { entries = agrees.kept.entries; constant = strong-lowest }) lf)
        (sym (ap₂ (mul l) strong.sum scalar_is) ∙ t.of_scaled)

    plus :
        Parts P v (ℚring.add (weight P v p.acc) (weight P v t.scaled))
        (ℚring.add (numberℚ p.acc.constant) (numberℚ t.scaled.constant)) t.acc
    plus = at_ok (add_parts P v l p.acc t.scaled h times.good) t.of_acc

    terms-added : weight P v t.acc ≡ ℚring.add (weight P v p.acc) (weigh (numbered v) line-constraint.terms)
    terms-added =
        plus.entries
        ∙ ap (ℚring.add (weight P v p.acc))
        (times.entries
        ∙ ap (λ (x : ℚ). product x (numberℚ f))
        (agrees.normal.sums v ∙ ap (weigh (numbered v)) (sym (strengthens-terms strong.strengthens)))
        ∙ ℚring.mul_comm _ _
        ∙ sym (weigh-times (numbered v) f lf k'.terms entries_of_lem))

    bound-added :
        numberℚ t.acc.constant ≡ ℚring.add (numberℚ p.acc.constant) (numberℚ line-constraint.bound)
    bound-added =
        plus.constant
        ∙ ap (ℚring.add (numberℚ p.acc.constant))
        (times.constant
        ∙ ℚring.mul_comm _ _
        ∙ sym (rationals.number-mul f k'.bound lf strong-lowest))

  operator-joined : (r0 : Relation) → p.operator ≡ operator_of r0 →
      join_operators p.operator (weakened t.stronger.0 a) ≡ operator_of (stronger r0 r)
  operator-joined r0 e =
      ap₂ join_operators e
      (ap (λ (o : ℕ). weakened o a) strong.operator
      ∙ weakened-operator (scaled_exists a k'.relation).1 (λ e. inl tt))
      ∙ join_operators_lem r0 r

  abbrev nowhere : ℕ → ℚ
  nowhere i = ℚring.ι (pos 0)

  pub literal-taken : Taken P p phi arg q
  literal-taken =
      record {
        argument = a;
        lowest = lowest;
        argued = steps-argued l p phi arg q e;
        constraint = line-constraint;
        line = line_of;
        left = subst (λ (q : Progress). CombinationOf P Lowest q.acc) t.is (plus nowhere).good;
        added =
            subst (λ (q : Progress). Added P p q line-constraint) t.is
            (record {
              joins = record {
                terms = terms-added;
                relation = operator-joined;
                entries = entries-times f lf k'.terms entries_of_lem;
                lowest = rationals.good-mul f k'.bound lf strong-lowest;
              };
              bound = bound-added nowhere;
            });
      }
