-- Rule 8 on one step that is given as parts of the lent run: what each function of `polynomial_rel` finds or answers,
-- in terms of the definitions. The records in an answer stand for the terms below them.
use Rattle.std.specs.Prelude.{◌≡◌, Bool, ◌&&◌, ◌||◌, not, List, [], ◌∷◌, ℕ, eqb, length}
use Rattle.std.specs.Bool.{beq}
use Rattle.numbers.specs.Rational.{Rational, is_zero, is_positive}
use Rattle.numbers.specs.Bytes.{Bytes}
use Rattle.terms.specs.Operator.{Equals, Sub, Mult, BvSub, BvMul}
use Rattle.terms.specs.Term.{Term, Terms}
use Rattle.terms.specs.Book.{tree}
use Rattle.terms.specs.Readers.{operator_of, arguments_of}
use Rattle.rules.specs.Refusal.{Result, ◌>>=◌, assert}
use Rattle.std.specs.Prelude.{Option, Some, None, Ok, Err}
use Rattle.rules.specs.declared.refusal.Refusal.TheVariants.{TermOfWrongForm, CoeffIsZero}
use Rattle.rules.specs.declared.refusal.Refusal.TheVariants.{CoeffDifferentSignums, InvalidOperators}
use Rattle.rules.specs.Limits.{Limits, fraction_err, op_err}
use Rattle.rules.specs.Shapes.{Clause, binary_err, is_relation}
use Rattle.polynomial_rel.specs.PolySimpRel.{Scaled, scaled, operands, assert_sides, bitvector_case}
use Rattle.polynomial_rel.specs.PolySimpRel.{number_case}
use Rattle.rules.specs.Memory.Parts.{terms_in}
use Rattle.rules.specs.Memory.ShapeRecords.{pair_of}
use Rattle.polynomial_rel.specs.declared.polynomial_rel.Scaled as by_value

-- of a step's n premises only the number matters, and where there is one, the part that holds its literals
abbrev pub PremisesAre : Bytes → ℕ → Bytes → List Clause → Type 0
PremisesAre b n part ps = (length ps ≡ n) × (n ≡ 1 → ps ≡ terms_in b part ∷ [])

-- ---- the premise

abbrev pub scaled_at : Bytes → by_value.Scaled → Scaled
scaled_at b p = (tree b p.c1, pair_of b p.x1 p.x2, tree b p.c2, pair_of b p.y1 p.y2)

abbrev pub scaled_in : Bytes → Option by_value.Scaled → Result Scaled
scaled_in b (Some p) = Ok (scaled_at b p)
scaled_in b None = Err TermOfWrongForm

-- ---- the coefficients: `number_case` up to the conclusion, and whether their signs are the same

unfoldable pub one_sign : Rational → Rational → Result Bool
one_sign p q = do
  _ ← assert (not (is_zero p)) CoeffIsZero
  _ ← assert (not (is_zero q)) CoeffIsZero
  Ok (beq (is_positive p) (is_positive q))

unfoldable pub signs_of : Limits → Term → Term → Result Bool
signs_of l c1 c2 = do
  p ← fraction_err l c1
  q ← fraction_err l c2
  one_sign p q

-- ---- the conclusion: the rest of `number_case`

-- of a term that is an operation
abbrev pub operation_of : Term → ℕ × Terms
operation_of t = (operator_of t, arguments_of t)

unfoldable pub sides_case : Bool → Scaled → ℕ × Terms → ℕ × Terms → Result (Unit {0})
sides_case same p left right = do
  _ ← assert (is_relation left.0 && eqb left.0 right.0) InvalidOperators
  x ← operands left.1
  y ← operands right.1
  _ ← assert (eqb left.0 Equals || same) CoeffDifferentSignums
  assert_sides x y p

unfoldable pub relation_case : Bool → Scaled → Term → Result (Unit {0})
relation_case same p phi = do
  (left, right) ← binary_err Equals phi
  first ← op_err left
  second ← op_err right
  sides_case same p first second

-- `poly_simp_rel` from its premise t and its conclusion phi on
unfoldable pub scaled_case : Limits → Term → Term → Result (Unit {0})
scaled_case l t phi = elim (scaled BvMul BvSub t) [
  | Ok p ↦ bitvector_case p phi
  | Err r ↦ scaled Mult Sub t >>= λ p. number_case l p phi
]
