-- Rules 1 to 3 of src/checker/rules/linear_arithmetic.rs on one step, and the second form of `la_tautology`, with the
-- assertions of src/checker/rules/mod.rs that they use. A conclusion is the list of a step's literals.
use Rattle.std.specs.Prelude.{Some, None}
use Rattle.std.specs.Prelude.{[], ◌∷◌}
use Rattle.numbers.specs.Rational.{less_q, less_eq_q}
use Rattle.terms.specs.Operator.{Not, And, Or, Equals, LessEq, GreaterEq}
use Rattle.terms.specs.Term.{Term, binary}
use Rattle.rules.specs.Refusal.{Result, ◌>>=◌, assert}
use Rattle.std.specs.Prelude.{Err}
use Rattle.rules.specs.declared.refusal.Refusal.TheVariants.{ExpectedLessThan, ExpectedLessEq, NotValidTautologyCase}
use Rattle.rules.specs.Limits.{signed_number_err}
use Rattle.rules.specs.Shapes.{Clause, Form, ◌≔◌of◌, has_form, assert_eq, negated_binary, both, bounds_case}

-- ---- shapes

-- (= (= t u) (and (<= t u) (<= u t)))
abbrev pub rw_eq_form : Form
rw_eq_form =
    (0 ≔ Equals of (1 ∷ 2 ∷ []))
    ∷ (1 ≔ Equals of (3 ∷ 4 ∷ []))
    ∷ (2 ≔ And of (5 ∷ 6 ∷ []))
    ∷ (5 ≔ LessEq of (3 ∷ 4 ∷ []))
    ∷ (6 ≔ LessEq of (4 ∷ 3 ∷ []))
    ∷ []

unfoldable pub la_rw_eq : Clause → Result (Unit {0})
la_rw_eq = has_form rw_eq_form

-- (or (= t1 t2) (not (<= t1 t2)) (not (<= t2 t1)))
abbrev pub disequality_form : Form
disequality_form =
    (0 ≔ Or of (1 ∷ 2 ∷ 3 ∷ []))
    ∷ (1 ≔ Equals of (4 ∷ 5 ∷ []))
    ∷ (2 ≔ Not of (6 ∷ []))
    ∷ (6 ≔ LessEq of (4 ∷ 5 ∷ []))
    ∷ (3 ≔ Not of (7 ∷ []))
    ∷ (7 ≔ LessEq of (5 ∷ 4 ∷ []))
    ∷ []

unfoldable pub la_disequality : Clause → Result (Unit {0})
la_disequality = has_form disequality_form

-- (or (<= t1 t2) (<= t2 t1))
abbrev pub totality_form : Form
totality_form =
    (0 ≔ Or of (1 ∷ 2 ∷ []))
    ∷ (1 ≔ LessEq of (3 ∷ 4 ∷ []))
    ∷ (2 ≔ LessEq of (4 ∷ 3 ∷ []))
    ∷ []

unfoldable pub la_totality : Clause → Result (Unit {0})
la_totality = has_form totality_form

-- ---- the five forms of `la_tautology`

unfoldable pub assert_less_than : Term → Term → Result (Unit {0})
assert_less_than a b = do
  p ← signed_number_err a
  q ← signed_number_err b
  assert (less_q p q) ExpectedLessThan

unfoldable pub assert_less_eq : Term → Term → Result (Unit {0})
assert_less_eq a b = do
  p ← signed_number_err a
  q ← signed_number_err b
  assert (less_eq_q p q) ExpectedLessEq

unfoldable pub tautology_case : Term → Term → Result (Unit {0})
tautology_case first second =
    elim (both (negated_binary LessEq first) (binary LessEq second)) [
      | Some p ↦ bounds_case assert_less_eq p
      | None ↦ elim (both (binary LessEq first) (negated_binary LessEq second)) [
        | Some p ↦ bounds_case assert_eq p
        | None ↦ elim (both (negated_binary GreaterEq first) (binary GreaterEq second)) [
          | Some p ↦ bounds_case (λ d1 d2. assert_less_eq d2 d1) p
          | None ↦ elim (both (binary GreaterEq first) (negated_binary GreaterEq second)) [
            | Some p ↦ bounds_case assert_eq p
            | None ↦ elim (both (negated_binary LessEq first) (negated_binary GreaterEq second)) [
              | Some p ↦ bounds_case assert_less_than p
              | None ↦ Err NotValidTautologyCase
            ]
          ]
        ]
      ]
    ]
