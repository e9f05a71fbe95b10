-- Closed steps that the Alethe side must not accept, whatever departures are granted; `joint-refused`, `at_one_refused`
-- and `surplus-refused` are refused by the words alone. The steps are those of specs/AletheExamples. A line's atoms and
-- bound are known from the literal (StepInversions), so each refusal is one number that does not come out, or one
-- operator that does not fit.
use mathlib.Core.Path.{◌≡◌, refl, sym, ◌∙◌, ap, ap₂}
use mathlib.Core.Bool.{true, false}
use mathlib.Core.List.{List, [], ◌∷◌, ◌++◌}
use Prim.Native.Nat.{ℕ}
use native.Mathlib.Omega.{arith}
use lib.IntN.{pos, negsuc}
use Rattle.numbers.specs.Rational as Rational
use Rattle.numbers.specs.Rational.{Rational}
use Rattle.terms.specs.Operator.{Equals, LessThan, LessEq, GreaterThan, GreaterEq, Mult}
use Rattle.terms.specs.Term.{Term, sort, is_bits}
use Rattle.terms.specs.Term.Sort.{bool, int, real}
use Rattle.terms.specs.Term.Terms.{nil, ◌▹◌}
use Rattle.numbers.proofs.Truths.{never}
use Rattle.book.proofs.Vectors.{not_vector}
use Rattle.alethe.specs.AletheTerms.{Departures, words, Written, Products, coefficient_in, nought, one}
use Rattle.alethe.specs.Alethe.{LaTotality, Relation, Constraint, Opposite, joined, weaker, States, sum_bound}
use Rattle.alethe.specs.Alethe.{contradicts, Joins, LaGeneric, Arguments, BoundedFarkas, BoundsForm, LaTautology}
use Rattle.alethe.specs.Alethe.{SamePolynomial, PolySimp}
use Rattle.alethe.specs.Alethe.Opposite.{negation, turned}
use Rattle.alethe.specs.Alethe.BoundsForm.{below, below_or_not, above, above_or_not, apart}
use Rattle.alethe.specs.AletheExamples as Step
use Rattle.alethe.specs.AletheExamples.{x, y, u, p, alethe}
use Rattle.alethe_examples.proofs.ExampleLaws.{is_itself, atom_unwritten, written-constant, written-fraction}
use Rattle.alethe_examples.proofs.ExampleLaws.{atom-only, constant-only, product-only, states-only}
use Rattle.alethe_examples.proofs.StepInversions.{no_literal, no_negation, one_line, two-lines, line-terms}
use Rattle.alethe_examples.proofs.StepInversions.{line_kept, some-real, whole-bound, atom_expands}
use Rattle.alethe_examples.proofs.StepInversions.{negation_expands, square_expands}
use Rattle.alethe.proofs.ConstraintLaws.{lines-length}

-- no numbers that the arguments stand for make a step
abbrev pub Refuses : Departures → List Term → List Term → Type 0
Refuses by c args = (qs : List Rational) → Arguments args qs → LaGeneric by c qs → ⊥

-- ---- arguments and literals

atom_is_no_argument : (qs : List Rational) → Arguments (x ∷ []) qs → ⊥
atom_is_no_argument qs (Arguments.argument w r) = atom_unwritten 0 int 0 _ w

positive-equality_is_no_literal : (by : Departures) (k : Constraint) → States by Step.positive_equality k → ⊥
positive-equality_is_no_literal by k h = no_literal by k (omega arith) (omega arith) h

chain_is_no_literal : (by : Departures) (k : Constraint) → States by Step.chained k → ⊥
chain_is_no_literal by k h = go h.opposite
  where
    go : {a b : Term} {o : ℕ} → Opposite (a ▹ b ▹ nil) Step.chained o → ⊥
    go (negation body r s n) = omega (arith, (is_itself n).0)
    go (turned q t s) = let e = (is_itself s).1 in let f : ◌≡◌ {A = ℕ} 0 1 = cc in omega arith

-- ---- la_generic

-- the constants of two arguments
pub two-arguments :
    {a b : Term} {q r : Rational} {qs : List Rational} → ((s : Rational) → Written a s → s ≡ q) →
    ((s : Rational) → Written b s → s ≡ r) → Arguments (a ∷ b ∷ []) qs → qs ≡ q ∷ r ∷ []
two-arguments f g (Arguments.argument v (Arguments.argument w Arguments.end)) = rw (f _ v, g _ w)

-- by the words, the sum's relation is the weaker one
as_worded_lem :
    {ks ms : List Constraint} {r : Relation} → Joins words ks r → contradicts r (sum_bound ks) ≡ true → ks ≡ ms →
    contradicts (joined weaker ms) (sum_bound ms) ≡ false → ⊥
as_worded_lem Joins.as_worded e f g =
    never (sym g ∙ sym (ap (λ (ms : List Constraint). contradicts (joined weaker ms) (sum_bound ms)) f) ∙ e)
as_worded_lem (Joins.join d) e f g = absurd d

abbrev half : Rational
half = Rational.frac (pos 1) (pos 2)

-- -x and -x do not cancel
wrong_sign_refused : (by : Departures) → Refuses by Step.wrong_sign Step.minus_one_and_one
unfolding alethe
wrong_sign_refused by qs args h =
    let e = two-arguments (written-constant 13 (negsuc 0)) (written-constant 9 (pos 1)) args in
    let g : LaGeneric by Step.wrong_sign (Rational.whole (negsuc 0) ∷ Rational.whole (pos 1) ∷ []) = rw e at h in
    let ls = two-lines g.lines in
    let s = line-terms ls.2
    (states-only (atom-only 0 int 0) (constant-only 9 (pos 1)) by 45 44 Equals _ ls.2.states) in
    let t = line-terms ls.3
    (states-only (atom-only 0 int 0) (constant-only 8 (pos 0)) by 47 46 LessEq _ ls.3.states) in
    never (rw (ls.4, s, t) at (g.cancels 0))

pub one_argument :
    {a : Term} {q : Rational} {qs : List Rational} → ((s : Rational) → Written a s → s ≡ q) →
    Arguments (a ∷ []) qs → qs ≡ q ∷ []
one_argument f (Arguments.argument v Arguments.end) = rw (f _ v)

-- y x - x y does not cancel: to a linear rule the two products are two atoms
nonlinear-refused : (by : Departures) → Refuses by Step.nonlinear (Step.one ∷ [])
unfolding alethe
nonlinear-refused by qs args h =
    let e = one_argument (written-constant 9 (pos 1)) args in
    let g : LaGeneric by Step.nonlinear (Rational.whole (pos 1) ∷ []) = rw e at h in
    let ls = one_line g.lines in
    let s = line-terms ls.1
    (states-only (product-only 48 x y (atom_unwritten 0 int 0) (atom_unwritten 1 int 1))
    (product-only 49 y x (atom_unwritten 1 int 1) (atom_unwritten 0 int 0)) by 51 50 LessThan _ ls.1.states) in
    never (rw (ls.2, s) at (g.cancels 49))

-- of > and >= the words make >=, and 0 >= 0 is true
joint-refused : Refuses words Step.joint Step.ones
unfolding alethe
joint-refused qs args h =
    let e = two-arguments (written-constant 9 (pos 1)) (written-constant 9 (pos 1)) args in
    let g : LaGeneric words Step.joint (Rational.whole (pos 1) ∷ Rational.whole (pos 1) ∷ []) = rw e at h in
    let ls = two-lines g.lines in
    let s = line_kept ls.2
    (states-only (atom-only 5 real 5) (constant-only 8 (pos 0)) words 37 36 GreaterThan _ ls.2.states)
    (some-real refl) in
    let t = line_kept ls.3
    (states-only (atom-only 5 real 5) (constant-only 8 (pos 0)) words 39 38 LessEq _ ls.3.states)
    (some-real refl) in
    as_worded_lem g.joins g.contradiction (ls.4 ∙ ap₂ (λ k l. k ∷ l ∷ []) s t) refl

-- K10: the words leave whole bounds as they are, and 0 >= 0 is true
at_one_refused : Refuses words Step.at_one Step.half_and_half
unfolding alethe
at_one_refused qs args h =
    let e = two-arguments (written-fraction 14 half) (written-fraction 14 half) args in
    let g : LaGeneric words Step.at_one (half ∷ half ∷ []) = rw e at h in
    let ls = two-lines g.lines in
    let s = line_kept ls.2
    (states-only (atom-only 0 int 0) (constant-only 9 (pos 1)) words 41 40 GreaterEq _ ls.2.states)
    (whole-bound refl refl) in
    let t = line_kept ls.3
    (states-only (atom-only 0 int 0) (constant-only 9 (pos 1)) words 43 42 LessEq _ ls.3.states)
    (whole-bound refl refl) in
    as_worded_lem g.joins g.contradiction (ls.4 ∙ ap₂ (λ k l. k ∷ l ∷ []) s t) refl

-- three arguments for two literals
surplus-refused : BoundedFarkas words Step.between Step.three_ones [] → ⊥
surplus-refused (BoundedFarkas.completed qs a h) = go a h
  where
    go : {qs : List Rational} → Arguments Step.three_ones qs → LaGeneric words Step.between (qs ++ []) → ⊥
    go (Arguments.argument u (Arguments.argument v (Arguments.argument w Arguments.end))) h =
        omega (arith, lines-length h.lines)
surplus-refused (BoundedFarkas.surplus_arguments d qs r a e h) = absurd d

-- ---- la_tautology, la_totality

bounds-are_no_opposites :
    {by : Departures} {phi psi : Term} → BoundsForm by phi psi → phi ≡ Step.below_one → psi ≡ Step.below_two → ⊥
bounds-are_no_opposites (below s c d q r n h v w l) e f = no_negation (omega arith) (rw e at n)
bounds-are_no_opposites (below_or_not s d h n b) e f = no_negation (omega arith) (rw f at n)
bounds-are_no_opposites (above s c d q r n h v w l) e f = no_negation (omega arith) (rw e at n)
bounds-are_no_opposites (above_or_not s d h n b) e f = no_negation (omega arith) (rw f at n)
bounds-are_no_opposites (apart s c d q r n h v w l) e f = no_negation (omega arith) (rw e at n)

unbounded-refused : (by : Departures) → LaTautology by Step.unbounded → ⊥
unbounded-refused by (LaTautology.comparison k s c e) = no_literal by k (omega arith) (omega arith) s
unbounded-refused by (LaTautology.bounds phi psi h b) =
    let e = (is_itself h).1 in bounds-are_no_opposites b (cc) (cc)

equation_is_not-total : LaTotality Step.x_is_y → ⊥
equation_is_not-total h = omega (arith, (is_itself h.conclusion).0)

-- ---- poly_simp

zero_is_not_one : nought ≡ one → ⊥
zero_is_not_one e =
    let k : pos 0 ≡ pos 1 = ap (λ (q : Rational). q.num) e in let w : ◌≡◌ {A = ℕ} 0 1 = cc in omega arith

-- a coefficient that is 0 on one side and 1 on the other
differ :
    {by : Departures} {t s : Term} {m n : Products} (ts : List Term) → is_bits (sort t) ≡ false →
    coefficient_in ts m ≡ nought → coefficient_in ts n ≡ one → SamePolynomial by t s m n → ⊥
differ ts b e f (SamePolynomial.numbers c d g) = zero_is_not_one (sym e ∙ g ts ∙ f)
differ ts b e f (SamePolynomial.vectors w c d g) = not_vector _ b c
differ ts b e f (SamePolynomial.other_sort c d g) = zero_is_not_one (sym e ∙ g ts ∙ f)

-- p is no monomial of (not (not p))
double-negation-refused : (by : Departures) → PolySimp by Step.double_negation → ⊥
unfolding alethe
double-negation-refused by h =
    let e = (is_itself h.conclusion).1 in
    let et : h.t ≡ Step.opposite 79 (Step.opposite 78 p) = cc in
    let es : h.s ≡ p = cc in
    let l = negation_expands 79 (Step.opposite 78 p) (rw et at h.left_side) in
    let r = atom_expands 6 bool 6 (rw es at h.right_side) in
    differ (p ∷ []) (rw et) (rw l) (rw r) h.same

-- x is no monomial of (* x x)
square-refused : (by : Departures) → PolySimp by Step.squared → ⊥
unfolding alethe
square-refused by h =
    let e = (is_itself h.conclusion).1 in
    let et : h.t ≡ Step.two 81 Mult x x = cc in
    let es : h.s ≡ x = cc in
    let l = square_expands 81 0 int 0 (rw et at h.left_side) in
    let r = atom_expands 0 int 0 (rw es at h.right_side) in
    differ (x ∷ []) (rw et) (rw l) (rw r) h.same
