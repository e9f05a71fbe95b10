-- The fold over the literals of an accepted la_generic or bounded_farkas step (`fold-lines`): each literal is a line
-- of the Alethe specification with Carcara's departures, and what the fold has at the end is what it had at the start
-- with the sum of the lines' constraints. The arguments of the lines are those given, with the numbers inferred
-- behind them, or the first of those given.
--     Summed       the sum of several constraints is added
--     Assigned       which arguments the literals take
--     Folded       the arguments, the numbers inferred, the lines, and their sum
use mathlib.Core.Path.{◌≡◌, sym, ◌∙◌, ap, subst}
use Rattle.std.specs.Prelude.{Some, None}
use mathlib.Core.List.{List, [], ◌∷◌, ◌++◌, append_assoc, append-nil}
use lib.IntN.{pos}
use Rattle.numbers.specs.Rational.{Rational, Lowest}
use Rattle.terms.specs.Term.{Term}
use Rattle.numbers.proofs.Quotient.{ℚring, sum}
use Rattle.book.proofs.BookTerms.{Closed}
use Rattle.std.specs.Prelude.{Ok}
use Rattle.rules.specs.Limits.{Limits}
use Rattle.process_disequality.specs.ProcessDisequality.{Progress, process_disequality}
use Rattle.linear_arithmetic.specs.LinearArithmetic.{fold_literals}
use Rattle.rules.specs.Shapes.{Clause}
use Rattle.alethe.specs.AletheTerms.{carcara}
use Rattle.alethe.specs.Alethe.{Constraint, Line, Lines, end, line, sum_bound}
use Rattle.rules.proofs.Yields.{through}
use Rattle.rules.proofs.Valuations.{numberℚ, rationals}
use Rattle.rules_theory.proofs.IndexMaps.{CombinationOf}
use Rattle.linear_theory.proofs.Arguments.{EachOf, EachLowest}
use Rattle.linear_theory.proofs.ConstraintFolds.{chained, JoinedAll, nothing-joined, then-joined}
use Rattle.linear_theory.proofs.GenericLines.{Added, Taken, literal-taken}

-- ---- the sum of several constraints

module _ (P : Term → Type 0) where
  pub record Summed (p q : Progress) (ks : List Constraint) : Type 0 where
    pub joins : JoinedAll P p q ks
    pub bound : numberℚ q.acc.constant ≡ sum (numberℚ p.acc.constant) (numberℚ (sum_bound ks))

  nothing-summed : (p : Progress) → Summed p p []
  unfolding sum_bound
  nothing-summed p =
      record {
        joins = nothing-joined P p;
        bound = sym (ap (sum (numberℚ p.acc.constant)) (rationals.number-whole (pos 0)) ∙ ℚring.add-zero _);
      }

  one_more : (p q r : Progress) (k : Constraint) (ks : List Constraint) → Added P p q k → Summed q r ks →
      Summed p r (k ∷ ks)
  unfolding sum_bound
  one_more p q r k ks a s =
      record {
        joins = then-joined P k ks a.joins s.joins;
        bound =
            chained _ _ _ a.bound s.bound
            (rationals.number-add k.bound (sum_bound ks) a.joins.lowest s.joins.lowest);
      }

-- ---- the arguments

-- of the arguments given, qs, and those inferred the literals take all, or none is inferred and some of qs are left
pub data Assigned : (qs taken surplus inferred : List Rational) → Type 0 where
  no_literal : (qs : List Rational) → Assigned qs [] qs []
  no_argument : (inferred : List Rational) → Assigned [] inferred [] inferred
  given :
      (q : Rational) {qs taken surplus inferred : List Rational} → Assigned qs taken surplus inferred →
      Assigned (q ∷ qs) (q ∷ taken) surplus inferred

one_inferred : (a : Rational) {taken surplus inferred : List Rational} → Assigned [] taken surplus inferred →
    Assigned [] (a ∷ taken) surplus (a ∷ inferred)
one_inferred a (no_literal []) = no_argument (a ∷ [])
one_inferred a (no_argument inferred) = no_argument (a ∷ inferred)

module _ {P : Term → Type 0} (closed : Closed P) (l : Limits) where
  -- ---- the fold

  pub record Folded (c : Clause) (qs : List Rational) (p r : Progress) : Type 0 where
    pub taken : List Rational
    pub surplus : List Rational
    pub inferred : List Rational
    pub assigned : Assigned qs taken surplus inferred
    pub lowest : EachLowest inferred
    pub traced : r.trace ≡ p.trace ++ inferred
    pub constraints : List Constraint
    pub lines : Lines carcara c taken constraints
    pub left : CombinationOf P Lowest r.acc
    pub summed : Summed P p r constraints

  after-inferred : (phi : Term) (c : Clause) (p q r : Progress) → Taken P p phi None q → Folded c [] q r →
      Folded (phi ∷ c) [] p r
  after-inferred phi c p q r t f =
      record {
        taken = t.argument ∷ f.taken;
        surplus = f.surplus;
        inferred = t.argument ∷ f.inferred;
        assigned = one_inferred t.argument f.assigned;
        lowest = (t.lowest, f.lowest);
        traced = rw (f.traced, t.argued) (append_assoc p.trace (t.argument ∷ []) f.inferred);
        constraints = t.constraint ∷ f.constraints;
        lines = line t.line f.lines;
        left = f.left;
        summed = one_more P p q r t.constraint f.constraints t.added f.summed;
      }

  after-given : (phi : Term) (c : Clause) (a : Rational) (qs : List Rational) (p q r : Progress) →
      Taken P p phi (Some a) q → Folded c qs q r → Folded (phi ∷ c) (a ∷ qs) p r
  after-given phi c a qs p q r t f =
      record {
        taken = a ∷ f.taken;
        surplus = f.surplus;
        inferred = f.inferred;
        assigned = given a f.assigned;
        lowest = f.lowest;
        traced = f.traced ∙ ap (λ (x : List Rational). x ++ f.inferred) t.argued.1;
        constraints = t.constraint ∷ f.constraints;
        lines =
            line (subst (λ (x : Rational). Line carcara phi x t.constraint) (sym t.argued.0) t.line)
            f.lines;
        left = f.left;
        summed = one_more P p q r t.constraint f.constraints t.added f.summed;
      }

  pub fold-lines : (c : Clause) → EachOf P c → (qs : List Rational) → EachLowest qs → (p r : Progress) →
      fold_literals l c qs p ≡ Ok r → CombinationOf P Lowest p.acc → Folded c qs p r
  unfolding fold_literals
  fold-lines [] ps qs ls p r e h =
      subst (Folded [] qs p) (let k : p ≡ r = cc in k)
      (record {
        taken = [];
        surplus = qs;
        inferred = [];
        assigned = no_literal qs;
        lowest = tt;
        traced = sym (append-nil p.trace);
        constraints = [];
        lines = end;
        left = h;
        summed = nothing-summed P p;
      })
  fold-lines (phi ∷ c) (k, ps) [] ls p r e h =
      let t = through (process_disequality l p phi None) _ r e in
      let s = literal-taken closed l p phi None t.middle t.first k tt h in
      after-inferred phi c p t.middle r s (fold-lines c ps [] tt t.middle r t.then s.left)
  fold-lines (phi ∷ c) (k, ps) (a ∷ qs) (la, ls) p r e h =
      let t = through (process_disequality l p phi (Some a)) _ r e in
      let s = literal-taken closed l p phi (Some a) t.middle t.first k la h in
      after-given phi c a qs p t.middle r s (fold-lines c ps qs ls t.middle r t.then s.left)
