-- Closed steps that the specification's words accept, each by its derivation: what is written is the form of the
-- step, what is computed are the tests. The steps are those of specs/AletheExamples. K10 and the sum of > and >= need
-- departures; where Carcara refuses what the words accept, the Rust's answer stands beside it.
use mathlib.Core.Path.{◌≡◌, refl}
use mathlib.Core.List.{[], ◌∷◌}
use Prim.Native.Nat.{ℕ}
use lib.IntN.{ℤ, pos, negsuc}
use Rattle.numbers.specs.Rational as Rational
use Rattle.numbers.specs.Rational.{Rational}
use Rattle.terms.specs.Operator.{LessEq, GreaterThan}
use Rattle.terms.specs.Term.{Sort, Term}
use Rattle.terms.specs.Term.Sort.{int, real}
use Rattle.terms.specs.Term.Term.{integer}
use Rattle.std.specs.Prelude.{Err}
use Rattle.rules.specs.declared.refusal.Refusal.TheVariants.{DisequalityIsNotContradiction, DisequalityIsNotTautology}
use Rattle.rules.specs.Limits.{the_rust}
use Rattle.linear_arithmetic.specs.LinearArithmetic.{la_generic, la_tautology}
use Rattle.alethe_examples.specs.Computes.{rules}
use Rattle.alethe.specs.AletheTerms.{Departures, words, carcara, is, IsNot2, equals, less_than, less_eq, greater_than}
use Rattle.alethe.specs.AletheTerms.{greater_eq, Constant, Unsigned, Written, sum_of, Linear}
use Rattle.alethe.specs.Alethe.{LaRwEq, LaDisequality, LaTotality, Relation, constraint, Opposite, Turns, Oriented}
use Rattle.alethe.specs.Alethe.{Numbers, Strengthens, ScaledRelation, Lines, Joins, LaGeneric, Arguments, BoundedFarkas}
use Rattle.alethe.specs.Alethe.{Bound, LaTautology}
use Rattle.alethe.specs.Alethe.BoundsForm.{below, below_or_not}
use Rattle.alethe.specs.AletheExamples as Step
use Rattle.alethe.specs.AletheExamples.{x, y, v, one, twice, half, alethe}
use Rattle.alethe_examples.proofs.ExampleLaws.{alone, atom_is, constant-written, states, line_of, all_zero_in}
use Rattle.alethe_examples.proofs.ExampleLaws.{cancels_by, generic_of, Accepts, accepts}

-- ---- atoms, constants, arguments

pub an_atom : (i : ℕ) (s : Sort) (n : ℕ) → Linear (Term.atom i s n) (alone (Term.atom i s n))
an_atom i s n = Linear.atom (atom_is i s n)

pub a_constant : (i : ℕ) (c : ℤ) → Linear (integer i c) (sum_of [] (Rational.whole c))
a_constant i c = Linear.number (constant-written i c)

pub half-written : Written half (Rational.frac (pos 1) (pos 2))
half-written = Written.plain (Unsigned.constant (Constant.fraction 14 (Rational.frac (pos 1) (pos 2))))

pub both-arguments :
    {a b : Term} {q r : Rational} → Written a q → Written b r → Arguments (a ∷ b ∷ []) (q ∷ r ∷ [])
both-arguments v w = Arguments.argument v (Arguments.argument w Arguments.end)

pub ones-written : Arguments Step.ones (Rational.whole (pos 1) ∷ Rational.whole (pos 1) ∷ [])
ones-written = both-arguments (constant-written 9 (pos 1)) (constant-written 9 (pos 1))

-- the words keep every relation
kept : {a : Rational} (r : Relation) → ScaledRelation words a r r
kept r = ScaledRelation.stays r λ d e. absurd d

-- ---- la_generic

-- whatever departures are granted
between_generic : (by : Departures) → LaGeneric by Step.between (Rational.whole (pos 1) ∷ Rational.whole (pos 1) ∷ [])
unfolding alethe all_zero_in
between_generic by =
    generic_of
    (Lines.line
    (line_of (states by 21 20 (Numbers.numbers refl refl) less_than (an_atom 0 int 0) (a_constant 11 (pos 3)))
    (Strengthens.greater_whole refl refl refl) (ScaledRelation.stays _ λ d e. refl))
    (Lines.line
    (line_of (states by 23 22 (Numbers.numbers refl refl) greater_than (an_atom 0 int 0) (a_constant 10 (pos 2)))
    (Strengthens.greater_whole refl refl refl) (ScaledRelation.stays _ λ d e. refl))
    Lines.end))
    refl Joins.as_worded refl

between-accepted : (by : Departures) → Accepts by Step.between Step.ones
between-accepted by = (_, ones-written, between_generic by)

-- K7: Carcara ignores a third argument
surplus-accepted : BoundedFarkas carcara Step.between Step.three_ones []
surplus-accepted =
    BoundedFarkas.surplus_arguments tt (Rational.whole (pos 1) ∷ Rational.whole (pos 1) ∷ []) (Rational.whole (pos 1) ∷ [])
    (Arguments.argument (constant-written 9 (pos 1)) ones-written) refl (between_generic carcara)

functions-accepted : Accepts words Step.functions Step.one_and_minus_one
unfolding alethe all_zero_in
functions-accepted =
    accepts (both-arguments (constant-written 9 (pos 1)) (constant-written 13 (negsuc 0)))
    (Lines.line
    (line_of (states words 25 24 (Numbers.numbers refl refl) greater_than (an_atom 3 int 3) (an_atom 4 int 4))
    (Strengthens.greater_whole refl refl refl) (kept _))
    (Lines.line
    (line_of (states words 27 26 (Numbers.numbers refl refl) equals (an_atom 3 int 3) (an_atom 4 int 4))
    (Strengthens.equality refl) (kept _))
    Lines.end))
    refl Joins.as_worded refl

halves-accepted : Accepts words Step.halves Step.twos
unfolding alethe all_zero_in
halves-accepted =
    accepts (both-arguments (constant-written 10 (pos 2)) (constant-written 10 (pos 2)))
    (Lines.line
    (line_of (states words 29 28 (Numbers.numbers refl refl) greater_eq (an_atom 0 int 0) (Linear.number half-written))
    (Strengthens.at_least_fraction refl refl refl λ d. absurd d) (kept _))
    (Lines.line
    (line_of (states words 31 30 (Numbers.numbers refl refl) less_eq (an_atom 0 int 0) (Linear.number half-written))
    (Strengthens.at_least_fraction refl refl refl λ d. absurd d) (kept _))
    Lines.end))
    refl Joins.as_worded refl

halves-refused_by_the_Rust : la_generic the_rust Step.halves Step.twos 0 ≡ Err DisequalityIsNotContradiction
unfolding rules
halves-refused_by_the_Rust = refl

reals-accepted : Accepts words Step.reals Step.ones
unfolding alethe all_zero_in
reals-accepted =
    accepts ones-written
    (Lines.line
    (line_of (states words 33 32 (Numbers.numbers refl refl) less_eq (an_atom 5 real 5) (a_constant 9 (pos 1)))
    (Strengthens.not_all_int refl) (kept _))
    (Lines.line
    (line_of (states words 35 34 (Numbers.numbers refl refl) greater_eq (an_atom 5 real 5) (a_constant 10 (pos 2)))
    (Strengthens.not_all_int refl) (kept _))
    Lines.end))
    refl Joins.as_worded refl

-- > with >= is > by a departure only
joint-accepted : Accepts carcara Step.joint Step.ones
unfolding alethe all_zero_in
joint-accepted =
    accepts ones-written
    (Lines.line
    (line_of (states carcara 37 36 (Numbers.numbers refl refl) greater_than (an_atom 5 real 5) (a_constant 8 (pos 0)))
    (Strengthens.not_all_int refl) (ScaledRelation.stays _ λ d e. refl))
    (Lines.line
    (line_of (states carcara 39 38 (Numbers.numbers refl refl) less_eq (an_atom 5 real 5) (a_constant 8 (pos 0)))
    (Strengthens.not_all_int refl) (ScaledRelation.stays _ λ d e. refl))
    Lines.end))
    refl (Joins.join tt) refl

-- K10: 1/2 times a whole bound is not whole, so Carcara raises it
at_one_accepted : Accepts carcara Step.at_one Step.half_and_half
unfolding alethe all_zero_in
at_one_accepted =
    accepts (both-arguments half-written half-written)
    (Lines.line
    (line_of (states carcara 41 40 (Numbers.numbers refl refl) greater_eq (an_atom 0 int 0) (a_constant 9 (pos 1)))
    (Strengthens.fractional_product tt refl refl refl) (ScaledRelation.stays _ λ d e. refl))
    (Lines.line
    (line_of (states carcara 43 42 (Numbers.numbers refl refl) less_eq (an_atom 0 int 0) (a_constant 9 (pos 1)))
    (Strengthens.fractional_product tt refl refl refl) (ScaledRelation.stays _ λ d e. refl))
    Lines.end))
    refl Joins.as_worded refl

-- ---- la_tautology

-- K8
five_is_not-zero : LaTautology words Step.five_is_not_zero
unfolding alethe all_zero_in
five_is_not-zero =
    LaTautology.comparison _
    (states words 54 53 (Numbers.numbers refl refl) equals (a_constant 12 (pos 5)) (a_constant 8 (pos 0)))
    (cancels_by [] refl) refl

five_is_not-zero-refused_by_the_Rust :
    la_tautology the_rust (Step.five_is_not_zero ∷ []) 0 ≡ Err DisequalityIsNotTautology
unfolding rules
five_is_not-zero-refused_by_the_Rust = refl

one_below-two : LaTautology words Step.one_below_two
unfolding alethe all_zero_in
one_below-two =
    LaTautology.comparison (constraint [] Relation.gt (Rational.whole (pos 1)))
    (record {
      o = GreaterThan;
      a = one;
      b = twice;
      x = one;
      y = twice;
      left = sum_of [] (Rational.whole (pos 1));
      right = sum_of [] (Rational.whole (pos 2));
      opposite = Opposite.turned LessEq Turns.less_equal (is 55);
      sorts = Numbers.numbers refl refl;
      oriented = Oriented.as-greater;
      left_sum = a_constant 9 (pos 1);
      right_sum = a_constant 10 (pos 2);
      terms = refl;
      bound = refl;
    })
    (cancels_by [] refl) refl

not-below_one : IsNot2 LessEq x one (Step.opposite 43 Step.below_one)
not-below_one = record { body = Step.below_one; relation = is 42; negation = is 43 }

bounds-accepted : LaTautology words Step.bounds
unfolding alethe
bounds-accepted =
    LaTautology.bounds _ _ (is 57)
    (below x one twice _ _ not-below_one (is 56) (constant-written 9 (pos 1)) (constant-written 10 (pos 2)) tt)

either-accepted : LaTautology words Step.either
either-accepted =
    LaTautology.bounds _ _ (is 58)
    (below_or_not x one (is 42) not-below_one (Bound.number _ (constant-written 9 (pos 1))))

-- ---- la_rw_eq, la_disequality, la_totality

rewritten-accepted : LaRwEq Step.rewritten
rewritten-accepted =
    record {
      t = x;
      u = y;
      left = Step.x_is_y;
      right = _;
      first = Step.x_below_y;
      second = Step.y_below_x;
      equality = is 60;
      below = is 61;
      above = is 62;
      conjunction = is 63;
      conclusion = is 64;
    }

disequality-accepted : LaDisequality Step.disequality
disequality-accepted =
    record {
      t1 = x;
      t2 = y;
      first = Step.x_is_y;
      second = _;
      third = _;
      equality = is 60;
      not_below = record { body = Step.x_below_y; relation = is 61; negation = is 65 };
      not_above = record { body = Step.y_below_x; relation = is 62; negation = is 66 };
      conclusion = is 67;
    }

total-accepted : LaTotality Step.total
total-accepted =
    record {
      t1 = x;
      t2 = y;
      first = Step.x_below_y;
      second = Step.y_below_x;
      below = is 61;
      above = is 62;
      conclusion = is 68;
    }
