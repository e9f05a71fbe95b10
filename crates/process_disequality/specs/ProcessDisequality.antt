-- `process_disequality` of src/checker/rules/linear_arithmetic.rs, line by line in the Rust's order: one literal of a
-- step. `negate_disequality` and `strengthen` are among the definitions of the crate `disequality`.
use Rattle.std.specs.Prelude.{true, false, ◌&&◌, ◌||◌, not, List, [], ◌∷◌, ◌++◌, ℕ, eqb}
use Rattle.std.specs.Prelude.{Option, Some, None}
use Rattle.numbers.specs.Rational.{Rational, neg_q, abs_q, is_zero}
use Rattle.terms.specs.Operator.{Equals, GreaterThan, GreaterEq}
use Rattle.terms.specs.Term.{Term}
use Rattle.numbers.specs.Choice.{when◌then◌else◌}
use Rattle.rules.specs.Refusal.{Result, ◌>>=◌, assert, or_else}
use Rattle.std.specs.Prelude.{Ok, Err}
use Rattle.rules.specs.declared.refusal.Refusal.TheVariants.{NotUnit, CoeffNotFound}
use Rattle.rules.specs.Limits.{Limits, over}
use Rattle.index_map.specs.IndexMap.{Map, get, add}
use Rattle.linear_comb.specs.LinearComb.{LinearComb, mul, all_int}
use Rattle.index_map.specs.Memory.Entries.{terms}
use Rattle.disequality.specs.Disequality.{disequality_of, strengthen}

-- what the fold over the literals carries: operator, sum, the numbers inferred, the visits
pub record Progress : Type 0 where
  pub operator : ℕ
  pub acc : LinearComb
  pub trace : List Rational
  pub visits : ℕ

abbrev pub progress : ℕ → LinearComb → List Rational → ℕ → Progress
progress o s t n = record { operator = o; acc = s; trace = t; visits = n }

-- minus the sum's coefficient of the literal's only atom, divided by the literal's own; where the Rust would divide by
-- zero, it is refused as a literal with no atom or several is
unfoldable pub inferred : Limits → Map Term → Map Term → Result Rational
inferred l acc [] = Err NotUnit
inferred l acc ((var, coeff1) ∷ []) = do
  _ ← assert (not (is_zero coeff1)) NotUnit
  coeff2 ← or_else (get terms acc var) CoeffNotFound
  over l (neg_q coeff2) coeff1
inferred l acc (e ∷ f ∷ m) = Err NotUnit

-- the argument, and the trace with it where it is inferred
unfoldable pub argument_of : Limits → Progress → LinearComb → Option Rational → Result (Rational × List Rational)
argument_of l p s (Some a) = Ok (a, p.trace)
argument_of l p s None = do
  a ← inferred l p.acc.entries s.entries
  Ok (a, p.trace ++ a ∷ [])

abbrev pub strengthened : Limits → ℕ → LinearComb → Rational → Result (ℕ × LinearComb)
strengthened l o s a = elim (all_int s.entries) [ true ↦ strengthen l o s a | false ↦ Ok (o, s) ]

-- the stronger of two operators
abbrev pub join_operators : ℕ → ℕ → ℕ
join_operators o p =
    when eqb o GreaterThan || eqb p GreaterThan then GreaterThan else
    when eqb o GreaterEq || eqb p GreaterEq then GreaterEq else
    Equals

abbrev pub scalar : ℕ → Rational → Rational
scalar o a = when eqb o Equals then a else abs_q a

-- > with argument 0 is only >=
abbrev pub weakened : ℕ → Rational → ℕ
weakened o a = when eqb o GreaterThan && is_zero a then GreaterEq else o

unfoldable pub process_disequality : Limits → Progress → Term → Option Rational → Result Progress
process_disequality l p phi arg = do
  d ← disequality_of l phi p.visits
  (a, trace) ← argument_of l p d.sum arg
  (o, s) ← strengthened l d.operator d.sum a
  scaled ← mul l s (scalar o a)
  acc ← add terms l p.acc scaled
  Ok (progress (join_operators p.operator (weakened o a)) acc trace d.visits)
