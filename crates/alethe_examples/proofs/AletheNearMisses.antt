-- Closed steps that one number or one operator parts from an accepted one, and that the Alethe side refuses whatever
-- departures are granted. The steps are those of specs/AletheExamples.
use mathlib.Core.Path.{◌≡◌, refl, sym, ◌∙◌, ap}
use mathlib.Core.Bool.{false}
use mathlib.Core.List.{List, [], ◌∷◌}
use mathlib.Core.Logic.{◌⊎◌, inl, inr}
use Prim.Native.Nat.{ℕ, ◌%◌}
use native.Mathlib.Omega.{arith}
use lib.IntN.{pos, negsuc}
use Rattle.numbers.specs.Rational as Rational
use Rattle.numbers.specs.Rational.{Rational, is_zero, is_positive}
use Rattle.terms.specs.Operator.{Equals, GreaterEq, Mult}
use Rattle.terms.specs.Term.{Term, sort, is_bits}
use Rattle.terms.specs.Term.Sort.{int}
use Rattle.numbers.proofs.Truths.{never}
use Rattle.book.proofs.Vectors.{not_vector}
use Rattle.alethe.specs.AletheTerms.{Departures, Written, Products, coefficient_in, minus_one, one}
use Rattle.alethe.specs.Alethe.{BoundsForm, LaTautology, SamePolynomial, PolySimp, ScaledNumbers, ScaledVectors}
use Rattle.alethe.specs.Alethe.{PolySimpRel}
use Rattle.alethe.specs.Alethe.BoundsForm.{below, below_or_not, above, above_or_not, apart}
use Rattle.alethe.specs.AletheExamples as Step
use Rattle.alethe.specs.AletheExamples.{x, y, two, not_two, opposite, alethe}
use Rattle.alethe_examples.proofs.ExampleLaws.{is_itself, written-constant}
use Rattle.alethe_examples.proofs.StepInversions.{no_literal, no_negation}
use Rattle.alethe_examples.proofs.ExpansionInversions.{atom_out, constant_out, sum_out, difference_out}
use Rattle.alethe_examples.proofs.ExpansionInversions.{product_out, quotient_out}
use Rattle.alethe_examples.proofs.DepartureInversions.{two-itself, not-two-itself, left-factors, right-factors}

-- ---- la_tautology

-- the bounds 2 and 1
swapped-bounds :
    {by : Departures} {phi psi : Term} → BoundsForm by phi psi → phi ≡ opposite 103 Step.below_two →
    psi ≡ Step.below_one → ⊥
unfolding alethe
swapped-bounds (below s c d q r n h v w l) e f =
    let g = written-constant 10 (pos 2) q (rw (not-two-itself (rw e at n)).2 at v) in
    let k = written-constant 9 (pos 1) r (rw (two-itself (rw f at h)).2 at w) in
    rw (g, k) at l
swapped-bounds (below_or_not s d h n b) e f = omega (arith, (is_itself (rw e at h)).0)
swapped-bounds (above s c d q r n h v w l) e f = omega (arith, (not-two-itself (rw e at n)).0)
swapped-bounds (above_or_not s d h n b) e f = omega (arith, (is_itself (rw e at h)).0)
swapped-bounds (apart s c d q r n h v w l) e f = no_negation (omega arith) (rw f at h)

swapped-refused : (by : Departures) → LaTautology by Step.swapped → ⊥
swapped-refused by (LaTautology.comparison k s c e) = no_literal by k (omega arith) (omega arith) s
swapped-refused by (LaTautology.bounds phi psi h b) = let e = (is_itself h).1 in swapped-bounds b (cc) (cc)

-- the bounds 2 and 2
touching-bounds :
    {by : Departures} {phi psi : Term} → BoundsForm by phi psi → phi ≡ opposite 103 Step.below_two →
    psi ≡ not_two 106 105 GreaterEq x Step.twice → ⊥
unfolding alethe
touching-bounds (below s c d q r n h v w l) e f = omega (arith, (is_itself (rw f at h)).0)
touching-bounds (below_or_not s d h n b) e f = omega (arith, (is_itself (rw e at h)).0)
touching-bounds (above s c d q r n h v w l) e f = omega (arith, (not-two-itself (rw e at n)).0)
touching-bounds (above_or_not s d h n b) e f = omega (arith, (is_itself (rw e at h)).0)
touching-bounds (apart s c d q r n h v w l) e f =
    let g = written-constant 10 (pos 2) q (rw (not-two-itself (rw e at n)).2 at v) in
    let k = written-constant 10 (pos 2) r (rw (not-two-itself (rw f at h)).2 at w) in
    rw (g, k) at l

touching-refused : (by : Departures) → LaTautology by Step.touching → ⊥
touching-refused by (LaTautology.comparison k s c e) = no_literal by k (omega arith) (omega arith) s
touching-refused by (LaTautology.bounds phi psi h b) = let e = (is_itself h).1 in touching-bounds b (cc) (cc)

-- ---- poly_simp_rel

-- the constants of a premise (= (* a b) (* c d))
abbrev Constants : ℕ → Term → Term → Type 0
Constants o a c =
    (p q : Rational) × Written a p × Written c q × (is_zero p ≡ false) × ((o ≡ Equals) ⊎ (is_positive p ≡ is_positive q))

constants_of :
    {by : Departures} {i j k o : ℕ} {a b c d x1 x2 y1 y2 : Term} →
    ScaledNumbers by o (two i Equals (two j Mult a b) (two k Mult c d)) x1 x2 y1 y2
    ⊎ ScaledVectors o (two i Equals (two j Mult a b) (two k Mult c d)) x1 x2 y1 y2 →
    Constants o a c
constants_of (inl h) = (
  h.q1,
  h.q2,
  rw (left-factors h.equation h.left_product).1 at h.first,
  rw (right-factors h.equation h.right_product).1 at h.second,
  h.first_nonzero,
  h.same_sign,
)
constants_of (inr h) = absurd (omega (arith, (left-factors h.equation h.left_product).0))

zero-multiple-refused : (by : Departures) → PolySimpRel by Step.zero_multiple Step.related → ⊥
unfolding alethe
zero-multiple-refused by h =
    let c = constants_of h.premise_form in never (sym c.4 ∙ ap is_zero (written-constant 8 (pos 0) c.0 c.2))

two_signs_refused : (by : Departures) → PolySimpRel by Step.two_signs Step.related_less → ⊥
unfolding alethe
two_signs_refused by h =
    let c = constants_of h.premise_form in
    go (written-constant 13 (negsuc 0) c.0 c.2) (written-constant 11 (pos 3) c.1 c.3) c.5
  where
    go :
        {p q : Rational} → p ≡ Rational.whole (negsuc 0) → q ≡ Rational.whole (pos 3) →
        (h.o ≡ Equals) ⊎ (is_positive p ≡ is_positive q) → ⊥
    go e f (inl g) = omega (arith, (left-factors h.conclusion h.left_side).0)
    go e f (inr g) = never (rw (e, f) at g)

-- 128 is even
even-multiples-premise :
    {by : Departures} {o : ℕ} {a b c d : Term} →
    ScaledNumbers by o Step.even_multiples a b c d ⊎ ScaledVectors o Step.even_multiples a b c d → ⊥
even-multiples-premise (inl h) = omega (arith, (left-factors h.equation h.left_product).0)
even-multiples-premise (inr h) =
    let e = (left-factors h.equation h.left_product).1 in
    let f : h.n1 ≡ 128 = cc in
    let g : 128 % 2 ≡ 1 = rw f at h.first_odd in
    omega arith

even-multiples-refused : (by : Departures) → PolySimpRel by Step.even_multiples Step.equal_vectors → ⊥
even-multiples-refused by h = even-multiples-premise h.premise_form

mixed-refused : (by : Departures) → PolySimpRel by Step.multiples Step.mixed → ⊥
mixed-refused by h =
    omega (arith, (left-factors h.conclusion h.left_side).0, (right-factors h.conclusion h.right_side).0)

-- ---- poly_simp

-- two different coefficients
differ :
    {by : Departures} {t s : Term} {m n : Products} {p q : Rational} (ts : List Term) → is_bits (sort t) ≡ false →
    coefficient_in ts m ≡ p → coefficient_in ts n ≡ q → (p ≡ q → ⊥) → SamePolynomial by t s m n → ⊥
differ ts b e f d (SamePolynomial.numbers c k g) = d (sym e ∙ g ts ∙ f)
differ ts b e f d (SamePolynomial.vectors w c k g) = not_vector _ b c
differ ts b e f d (SamePolynomial.other_sort c k g) = d (sym e ∙ g ts ∙ f)

one_is_not-minus_one : one ≡ minus_one → ⊥
one_is_not-minus_one e =
    let k : pos 1 ≡ negsuc 0 = ap (λ (q : Rational). q.num) e in let w : ◌≡◌ {A = ℕ} 0 1 = cc in omega arith

-- y has the coefficients 1 and -1
sum_is_difference-refused : (by : Departures) → PolySimp by Step.sum_is_difference → ⊥
unfolding alethe
sum_is_difference-refused by h =
    let e = two-itself h.conclusion in
    let l = sum_out (atom_out 0 int 0) (atom_out 1 int 1) 69 _ (rw e.1 at h.left_side) in
    let r = difference_out (atom_out 0 int 0) (atom_out 1 int 1) 83 _ (rw e.2 at h.right_side) in
    differ (y ∷ []) (rw e.1) (rw l) (rw r) one_is_not-minus_one h.same

half_is_not-two : Rational.frac (pos 1) (pos 2) ≡ Rational.whole (pos 2) → ⊥
half_is_not-two e =
    let k : pos 1 ≡ pos 2 = ap (λ (q : Rational). q.num) e in let w : ◌≡◌ {A = ℕ} 1 2 = cc in omega arith

-- x has the coefficients 1/2 and 2
half_is_double-refused : (by : Departures) → PolySimp by Step.half_is_double → ⊥
unfolding alethe
half_is_double-refused by h =
    let e = two-itself h.conclusion in
    let l = quotient_out 109 10 (pos 2) refl 0 int 0 _ (rw e.1 at h.left_side) in
    let r = product_out (constant_out 10 (pos 2)) (atom_out 0 int 0) 71 _ (rw e.2 at h.right_side) in
    differ (x ∷ []) (rw e.1) (rw l) (rw r) half_is_not-two h.same
