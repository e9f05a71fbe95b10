-- The rule poly_simp_rel on one step, src/checker/rules/polynomial.rs, line by line in the Rust's order.
use Rattle.std.specs.Prelude.{◌&&◌, ◌||◌, not, List, [], ◌∷◌, ℕ, ◌%◌, eqb}
use Rattle.std.specs.Bool.{beq}
use Rattle.std.specs.Prelude.{Option, Some, None}
use Rattle.numbers.specs.Choice.{when◌then◌else◌}
use Rattle.numbers.specs.Rational.{is_zero, is_positive}
use Rattle.terms.specs.Operator.{Equals, Sub, Mult, ToReal, BvSub, BvMul}
use Rattle.terms.specs.Term.{Term, Terms, unary, binary}
use Rattle.terms.specs.Term.Terms.{nil, ◌▹◌}
use Rattle.rules.specs.Refusal.{Result, ◌>>=◌, assert, or_else}
use Rattle.std.specs.Prelude.{Ok, Err}
use Rattle.rules.specs.declared.refusal.Refusal.TheVariants.{WrongNumberOfPremises, WrongLengthOfPremiseClause}
use Rattle.rules.specs.declared.refusal.Refusal.TheVariants.{CoeffIsZero, CoeffDifferentSignums, CoeffEven}
use Rattle.rules.specs.declared.refusal.Refusal.TheVariants.{InvalidOperators, TermOfWrongForm}
use Rattle.rules.specs.Limits.{Limits, fraction_err, bitvector_err, op_err}
use Rattle.rules.specs.Shapes.{Clause, only_literal, binary_err, is_relation, assert_eq, Form, Names, matches, ◌≔◌of◌}

-- get_premise_term
abbrev pub premise_term : Clause → Result Term
premise_term [] = Err WrongLengthOfPremiseClause
premise_term (t ∷ []) = Ok t
premise_term (t ∷ u ∷ ts) = Err WrongLengthOfPremiseClause

-- assert_num_premises(premises, 1)
abbrev pub only_premise : List Clause → Result Clause
only_premise [] = Err WrongNumberOfPremises
only_premise (c ∷ []) = Ok c
only_premise (c ∷ d ∷ cs) = Err WrongNumberOfPremises

-- c1, (x1, x2), c2, (y1, y2)
abbrev pub Scaled : Type 0
Scaled = Term × (Term × Term) × Term × (Term × Term)

-- (= (o a b) (o c d))
abbrev pub equated_form : ℕ → Form
equated_form o = (0 ≔ Equals of (1 ∷ 2 ∷ [])) ∷ (1 ≔ o of (3 ∷ 4 ∷ [])) ∷ (2 ≔ o of (5 ∷ 6 ∷ [])) ∷ []

abbrev pub equated_in : Option Names → Option ((Term × Term) × (Term × Term))
equated_in (Some σ) = Some ((σ.at 3, σ.at 4), (σ.at 5, σ.at 6))
equated_in None = None

-- a, b, c and d
unfoldable pub equated : ℕ → Term → Option ((Term × Term) × (Term × Term))
equated o t = equated_in (matches (equated_form o) t)

-- (d x y), and of numbers also (to_real (- x y))
unfoldable pub difference : ℕ → Term → Option (Term × Term)
difference d t = when eqb d Sub then elim (unary ToReal t) [ Some u ↦ binary d u | None ↦ binary d t ] else binary d t

-- (= (o c1 xs) (o c2 ys)), where xs and ys are differences by d
unfoldable pub scaled : ℕ → ℕ → Term → Result Scaled
scaled o d t = do
  p ← or_else (equated o t) TermOfWrongForm
  x ← or_else (difference d p.0.1) TermOfWrongForm
  y ← or_else (difference d p.1.1) TermOfWrongForm
  Ok (p.0.0, x, p.1.0, y)

unfoldable pub assert_sides : Term × Term → Term × Term → Scaled → Result (Unit {0})
assert_sides l r p = do
  _ ← assert_eq l.0 p.1.0
  _ ← assert_eq l.1 p.1.1
  _ ← assert_eq r.0 p.3.0
  assert_eq r.1 p.3.1

abbrev pub assert_odd : Term → Result (Unit {0})
assert_odd t = do
  (c, _) ← bitvector_err t
  assert (eqb (c % 2) 1) CoeffEven

unfoldable pub bitvector_case : Scaled → Term → Result (Unit {0})
bitvector_case p phi = do
  _ ← assert_odd p.0
  _ ← assert_odd p.2
  q ← or_else (equated Equals phi) TermOfWrongForm
  assert_sides q.0 q.1 p

-- two arguments, or InvalidOperators
abbrev pub operands : Terms → Result (Term × Term)
operands nil = Err InvalidOperators
operands (a ▹ nil) = Err InvalidOperators
operands (a ▹ b ▹ nil) = Ok (a, b)
operands (a ▹ b ▹ c ▹ ts) = Err InvalidOperators

unfoldable pub number_case : Limits → Scaled → Term → Result (Unit {0})
number_case l p phi = do
  c1 ← fraction_err l p.0
  c2 ← fraction_err l p.2
  _ ← assert (not (is_zero c1)) CoeffIsZero
  _ ← assert (not (is_zero c2)) CoeffIsZero
  (left, right) ← binary_err Equals phi
  (o1, args1) ← op_err left
  (o2, args2) ← op_err right
  _ ← assert (is_relation o1 && eqb o1 o2) InvalidOperators
  x ← operands args1
  y ← operands args2
  _ ← assert (eqb o1 Equals || beq (is_positive c1) (is_positive c2)) CoeffDifferentSignums
  assert_sides x y p

unfoldable pub poly_simp_rel : Limits → Clause → List Clause → Result (Unit {0})
poly_simp_rel l conclusion premises = do
  premise ← only_premise premises
  phi ← only_literal conclusion
  t ← premise_term premise
  elim (scaled BvMul BvSub t) [
    | Ok p ↦ bitvector_case p phi
    | Err r ↦ scaled Mult Sub t >>= λ p. number_case l p phi
  ]
