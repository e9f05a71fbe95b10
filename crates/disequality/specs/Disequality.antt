-- A literal of rules 4 to 6 as a disequality, src/checker/rules/linear_arithmetic.rs: negated, its sides made
-- combinations, strengthened over the integers.
use Rattle.std.specs.Prelude.{Bool, true, false, ◌&&◌, ◌||◌, ℕ, eqb, ℤ, pos}
use Rattle.std.specs.Prelude.{Option, Some, None}
use Rattle.numbers.specs.Rational.{Rational, whole, mul_q, neg_q, floor_q, is_integer, is_zero, eq_q}
use Rattle.terms.specs.Operator.{LessThan, LessEq, GreaterThan, GreaterEq}
use Rattle.terms.specs.Term.{Term, Terms}
use Rattle.numbers.specs.Choice.{when◌then◌else◌}
use Rattle.terms.specs.Term.Terms.{nil, ◌▹◌}
use Rattle.terms.specs.Readers.{as_op, remove_negation}
use Rattle.rules.specs.Refusal.{Result, or_else, ◌>>=◌}
use Rattle.std.specs.Prelude.{Ok, Err}
use Rattle.rules.specs.declared.refusal.Refusal.TheVariants.{InvalidDisequalityOp, TooManyArgsInDisequality}
use Rattle.rules.specs.Limits.{Limits, plus}
use Rattle.index_map.specs.IndexMap.{combination, neg, sub}
use Rattle.linear_walk.specs.LinearTerms.{from_term}
use Rattle.linear_comb.specs.LinearComb.{LinearComb, coefficients_gcd}
use Rattle.index_map.specs.Memory.Entries.{terms}
use Rattle.rules.specs.Shapes.{is_relation}

unfoldable pub negate_operator : ℕ → Option ℕ
negate_operator o =
    when eqb o LessThan then Some GreaterEq else
    when eqb o GreaterThan then Some LessEq else
    when eqb o LessEq then Some GreaterThan else
    when eqb o GreaterEq then Some LessThan else
    None

-- the operation under a negation, where there is one
abbrev pub negated_op : Term → Option (ℕ × Terms)
negated_op t = elim (remove_negation t) [ Some u ↦ as_op u | None ↦ None ]

-- of a negated relation the relation itself; of any other operation its negated operator
unfoldable pub inner : Term → Option (ℕ × Terms)
inner t = elim (negated_op t) [
  | Some p ↦ elim (is_relation p.0) [ true ↦ Some p | false ↦ None ]
  | None ↦ elim (as_op t) [
    | Some p ↦ elim (negate_operator p.0) [ Some o ↦ Some (o, p.1) | None ↦ None ]
    | None ↦ None
  ]
]

abbrev pub two_sides : Terms → Result (Term × Term)
two_sides nil = Err TooManyArgsInDisequality
two_sides (a ▹ nil) = Err TooManyArgsInDisequality
two_sides (a ▹ b ▹ nil) = Ok (a, b)
two_sides (a ▹ b ▹ c ▹ ts) = Err TooManyArgsInDisequality

-- an operator and a combination, whose constant stands on the right; and the visits made so far
pub record Disequality : Type 0 where
  pub operator : ℕ
  pub sum : LinearComb
  pub visits : ℕ

abbrev pub disequality : ℕ → LinearComb → ℕ → Disequality
disequality o s n = record { operator = o; sum = s; visits = n }

-- the operator and the two sides
unfoldable pub negate_disequality : Limits → Term → ℕ → Result (ℕ × LinearComb × LinearComb × ℕ)
negate_disequality l phi n = do
  (o, args) ← or_else (inner phi) InvalidDisequalityOp
  (a, b) ← two_sides args
  s1 ← from_term l a n
  s2 ← from_term l b s1.visits
  Ok (o, s1.sum, s2.sum, s2.visits)

-- < and <= are turned to > and >=
unfoldable pub turned : ℕ → LinearComb → ℕ → Disequality
turned o s n =
    when eqb o LessThan then disequality GreaterThan (neg s) n else
    when eqb o LessEq then disequality GreaterEq (neg s) n else
    disequality o s n

-- steps 1 to 3: negated, all atoms on the left and the constant on the right, turned to > or >=
unfoldable pub disequality_of : Limits → Term → ℕ → Result Disequality
disequality_of l phi n = do
  (o, s1, s2, visits) ← negate_disequality l phi n
  s ← sub terms l s1 s2
  Ok (turned o (combination s.entries (neg_q s.constant)) visits)

-- whether the constant times the argument is whole; the product itself is not tested for its range
unfoldable pub is_integer_times : Rational → Rational → Bool
is_integer_times d a =
    when is_zero a then true else
    when eq_q a (whole (pos 1)) then is_integer d else
    is_integer (mul_q d a)

-- the constant is rounded down, and then raised
unfoldable pub raised : Limits → LinearComb → ℤ → Result (ℕ × LinearComb)
raised l s step = do
  c ← plus l s.constant (whole step)
  Ok (GreaterEq, combination s.entries c)

abbrev pub floored : LinearComb → LinearComb
floored s = combination s.entries (floor_q s.constant)

unfoldable pub strengthen : Limits → ℕ → LinearComb → Rational → Result (ℕ × LinearComb)
strengthen l o s a =
    elim (eqb o GreaterEq && is_integer_times s.constant a) [
      | true ↦ Ok (o, s)
      | false ↦ elim (eqb o GreaterThan && is_integer_times s.constant a) [
        | true ↦ raised l (floored s) (coefficients_gcd (floored s))
        | false ↦ elim (eqb o GreaterThan || eqb o GreaterEq) [
          | true ↦ raised l (floored s) (pos 1)
          | false ↦ Ok (o, s)
        ]
      ]
    ]
