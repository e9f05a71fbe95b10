-- A step of the specification's poly_simp_rel is accepted (`poly-simp_rel_accepted`), and under limits it is refused
-- by a limit at most (`poly-simp_rel_limited`). The Rust reads the premise as one of bit-vectors first: a product by
-- * is none, so it goes on to numbers.
use mathlib.Core.Path.{◌≡◌, refl, ◌∙◌, ap}
use mathlib.Core.Bool.{Bool, true, false, not, ◌||◌, beq}
use mathlib.Core.List.{[], ◌∷◌}
use Rattle.std.specs.Prelude.{Some}
use mathlib.Core.Logic.{◌⊎◌, inl, inr, ⊎_elim}
use Prim.Native.Nat.{ℕ, ◌%◌}
use borrow.Author.Tests.{eq-eqb}
use lib.Dec.{eqb}
use Rattle.numbers.specs.Choice.{when◌then◌else◌}
use Rattle.numbers.specs.Rational.{is_positive}
use Rattle.terms.specs.Operator.{Equals, Sub, Mult, BvSub, BvMul}
use Rattle.terms.specs.Term.{Term, Terms, unary, binary}
use Rattle.terms.specs.Term.Term.{bitvector}
use Rattle.terms.specs.Readers.{as_bitvector, as_op}
use Rattle.rules.specs.Refusal.{Result, ◌>>=◌, or_else}
use Rattle.rules.specs.declared.refusal.Refusal.{Refusal}
use Rattle.std.specs.Prelude.{Ok, Err}
use Rattle.rules.specs.declared.refusal.Refusal.TheVariants.{TermOfWrongForm, ExpectedOperationTerm}
use Rattle.rules.specs.Limits.{Limits, the_rust, bitvector_err, op_err}
use Rattle.rules.specs.Shapes.{only_literal, is_relation, assert_eq, bind, bind_all, solve, solve_all}
use Rattle.polynomial_rel.specs.PolySimpRel.{Scaled, equated, difference, scaled, assert_sides, assert_odd, bitvector_case}
use Rattle.polynomial_rel.specs.PolySimpRel.{number_case, poly_simp_rel}
use Rattle.alethe.specs.Alethe.{Departures, Is, is, Is2, IsRelation, equals, less_than, less_eq, greater_than, greater_eq}
use Rattle.alethe.specs.Alethe.{Difference, ScaledNumbers, ScaledVectors, PolySimpRel}
use Rattle.alethe.specs.Alethe.Difference.{plain, real_difference}
use Rattle.rules_theory.proofs.Limited.{IsLimit, limit-alone}
use Rattle.polynomial_theory.proofs.LimitedPolynomial.{poly_simp_rel-limited}
use Rattle.rules_theory.proofs.WrittenNumbers.{written-accepted}
use Rattle.rules.proofs.Results.{next, asserts}
use Rattle.rules_theory.proofs.Shapes.{same_self, binary_err_of, operation_of_lem}

-- ---- the readers

vector-difference : {x y d : Term} → Is2 BvSub x y d → difference BvSub d ≡ Some (x, y)
unfolding difference binary when◌then◌else◌
vector-difference (is i) = refl

difference_of_lem : {by : Departures} {x y d : Term} → Difference by x y d → difference Sub d ≡ Some (x, y)
unfolding difference unary binary when◌then◌else◌
difference_of_lem (plain (is i)) = refl
difference_of_lem (real_difference g (is i) (is j)) = refl

operation_err_of :
    {o : ℕ} {ts : Terms} {t : Term} → Is o ts t → op_err t ≡ Ok (o, ts)
unfolding op_err or_else
operation_err_of h = ap (λ o. or_else o ExpectedOperationTerm) (operation_of_lem h)

relation-accepted : {o : ℕ} → IsRelation o → is_relation o ≡ true
relation-accepted equals = refl
relation-accepted less_than = refl
relation-accepted less_eq = refl
relation-accepted greater_than = refl
relation-accepted greater_eq = refl

equated_of :
    {o : ℕ} {a b c d left right t : Term} → Is2 Equals left right t → Is2 o a b left → Is2 o c d right →
    or_else (equated o t) TermOfWrongForm ≡ Ok ((a, b), (c, d))
unfolding equated solve_all solve bind_all bind as_op or_else when◌then◌else◌
equated_of {o} (is i) (is j) (is k) =
    rw (eq-eqb o o refl, equated, solve_all, solve, bind_all, bind, eq-eqb o o refl)

-- (= (o c1 dx) (o c2 dy)), where dx and dy are differences
scaled_of_lem :
    (o d : ℕ) {c1 c2 dx dy left right t : Term} {x y : Term × Term} →
    Is2 Equals left right t → Is2 o c1 dx left → Is2 o c2 dy right → difference d dx ≡ Some x →
    difference d dy ≡ Some y → scaled o d t ≡ Ok (c1, x, c2, y)
unfolding scaled or_else ◌>>=◌
scaled_of_lem o d e l r a b = next _ (equated_of e l r) ∙ rw (a, b)

-- a product by * is none of bit-vectors
no_vectors :
    {a b left right t : Term} → Is2 Equals left right t → Is2 Mult a b left →
    scaled BvMul BvSub t ≡ Err TermOfWrongForm
unfolding scaled equated solve_all solve bind_all bind as_op or_else when◌then◌else◌ ◌>>=◌
no_vectors (is i) (is j) = refl

-- what the rule makes of the first attempt
abbrev attempted : Term → Term → Result Scaled → Result (Unit {0})
attempted premise phi x = elim x [
  | Ok p ↦ bitvector_case p phi
  | Err r ↦ scaled Mult Sub premise >>= λ p. number_case the_rust p phi
]

-- ---- the tests

sides-accepted :
    (c1 c2 : Term) (x y : Term × Term) → assert_sides x y (c1, x, c2, y) ≡ Ok tt
unfolding assert_sides assert_eq
sides-accepted c1 c2 x y =
    next _ (asserts _ (same_self x.0))
    ∙ next _ (asserts _ (same_self x.1))
    ∙ next _ (asserts _ (same_self y.0))
    ∙ asserts _ (same_self y.1)

signs_accepted : (o : ℕ) (s t : Bool) → (o ≡ Equals) ⊎ (s ≡ t) → (eqb o Equals || beq s t) ≡ true
signs_accepted o s t (inl e) = rw (eq-eqb o Equals e)
signs_accepted o s t (inr e) = rw e (go (eqb o Equals) t)
  where
    go : (z t : Bool) → (z || beq t t) ≡ true
    go true t = refl
    go false true = refl
    go false false = refl

-- t is a bit-vector of an odd value
odd-accepted : (i n w : ℕ) → n % 2 ≡ 1 → assert_odd (bitvector i n w) ≡ Ok tt
unfolding bitvector_err as_bitvector ◌>>=◌
odd-accepted i n w e = asserts _ (eq-eqb (n % 2) 1 e)

-- ---- the two cases

vectors-accepted :
    {o : ℕ} {premise phi x1 x2 y1 y2 left right : Term} → ScaledVectors o premise x1 x2 y1 y2 → Is2 o x1 x2 left →
    Is2 o y1 y2 right → Is2 Equals left right phi →
    poly_simp_rel the_rust (phi ∷ []) ((premise ∷ []) ∷ []) ≡ Ok tt
unfolding poly_simp_rel only_literal ◌>>=◌ bitvector_case
vectors-accepted {o} {premise} {phi} {x1} {x2} {y1} {y2} {left} {right} s l r c =
    let f : Is2 Equals x1 x2 left = rw s.relation at l in
    let g : Is2 Equals y1 y2 right = rw s.relation at r in
    ap (attempted premise phi)
    (scaled_of_lem BvMul BvSub s.equation s.left_product s.right_product (vector-difference s.left_difference)
    (vector-difference s.right_difference))
    ∙ next _ (odd-accepted s.i1 s.n1 s.w1 s.first_odd)
    ∙ next _ (odd-accepted s.i2 s.n2 s.w2 s.second_odd)
    ∙ next _ (equated_of c f g)
    ∙ sides-accepted _ _ (x1, x2) (y1, y2)

numbers-accepted :
    (by : Departures) {o : ℕ} {premise phi x1 x2 y1 y2 left right : Term} → IsRelation o →
    ScaledNumbers by o premise x1 x2 y1 y2 → Is2 o x1 x2 left → Is2 o y1 y2 right → Is2 Equals left right phi →
    poly_simp_rel the_rust (phi ∷ []) ((premise ∷ []) ∷ []) ≡ Ok tt
unfolding poly_simp_rel only_literal ◌>>=◌ number_case or_else
numbers-accepted by {o} {premise} {phi} {x1} {x2} {y1} {y2} {left} {right} k s l r c =
    ap (attempted premise phi) (no_vectors s.equation s.left_product)
    ∙ next _
    (scaled_of_lem Mult Sub s.equation s.left_product s.right_product (difference_of_lem s.left_difference)
    (difference_of_lem s.right_difference))
    ∙ next _ (written-accepted s.first)
    ∙ next _ (written-accepted s.second)
    ∙ next _ (asserts _ (ap not s.first_nonzero))
    ∙ next _ (asserts _ (ap not s.second_nonzero))
    ∙ next _ (binary_err_of c)
    ∙ next _ (operation_err_of l)
    ∙ next _ (operation_err_of r)
    ∙ next _ (asserts _ (rw (relation-accepted k) (eq-eqb o o refl)))
    ∙ next _ (asserts _ (signs_accepted o (is_positive s.q1) (is_positive s.q2) s.same_sign))
    ∙ sides-accepted _ _ (x1, x2) (y1, y2)

-- ---- the rule

module _ (by : Departures) (premise phi : Term) (h : PolySimpRel by premise phi) where
  pub poly-simp_rel_accepted : poly_simp_rel the_rust (phi ∷ []) ((premise ∷ []) ∷ []) ≡ Ok tt
  poly-simp_rel_accepted =
      ⊎_elim (λ s. numbers-accepted by h.relation s h.left_side h.right_side h.conclusion)
      (λ s. vectors-accepted s h.left_side h.right_side h.conclusion) h.premise_form

  -- under limits, a step is refused by a limit at most
  pub poly-simp_rel_limited :
      (l : Limits) (r : Refusal) → poly_simp_rel l (phi ∷ []) ((premise ∷ []) ∷ []) ≡ Err r → IsLimit r
  poly-simp_rel_limited l r e =
      limit-alone (poly_simp_rel-limited l (phi ∷ []) ((premise ∷ []) ∷ [])) poly-simp_rel_accepted e
