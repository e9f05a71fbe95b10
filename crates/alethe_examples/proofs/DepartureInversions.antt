-- Inversions of a step of the Alethe side whatever departures are granted: what step 4 leaves of a constraint
-- (`reals-kept`, `at_least-kept`, `raised_by_one`), what is left of a line (`line-left`, `at_least-left`), a sum
-- that no relation refutes (`not-refuted`), and the parts of closed steps.
use mathlib.Core.Path.{◌≡◌, refl, sym, ◌∙◌, ap, ap₂}
use mathlib.Core.Bool.{true, false}
use mathlib.Core.List.{List, []}
use mathlib.Core.Logic.{◌⊎◌, inl, inr}
use Prim.Native.Nat.{ℕ}
use native.Mathlib.Omega.{arith}
use lib.IntN.{ℤ}
use Rattle.numbers.specs.Rational as Rational
use Rattle.numbers.specs.Rational.{Rational, is_integer, is_zero, add_q}
use Rattle.terms.specs.Operator.{Equals, Mult}
use Rattle.terms.specs.Term.{Term, Terms, sort, is_numeric, unary, binary}
use Rattle.terms.specs.Term.Term.{integer, rational, op}
use Rattle.terms.specs.Term.Terms.{nil, ◌▹◌}
use Rattle.terms.specs.Readers.{as_op, as_number, quotient_of, as_unsigned_fraction, as_fraction}
use Rattle.numbers.proofs.Truths.{never}
use Rattle.terms.proofs.Readings.{not-number}
use Rattle.alethe.specs.AletheTerms.{Departure, Departures, Is, is, Is2, IsNot2, Constant, Unsigned, Written, Sum}
use Rattle.alethe.specs.AletheTerms.{sum_of, times, one, Linear}
use Rattle.alethe.specs.Alethe.{Relation, Constraint, constraint, Numbers, States, all_int, whole_times, Strengthens}
use Rattle.alethe.specs.Alethe.{ScaledRelation, Line, joined, weaker, stronger, sum_bound, contradicts, Joins}
use Rattle.alethe.specs.Alethe.Relation.{ge, gt}
use Rattle.alethe.specs.AletheExamples.{two, not_two}
use Rattle.rules_theory.proofs.WrittenNumbers.{written_read}
use Rattle.rules_theory.proofs.Shapes.{nothing-found}
use Rattle.linear_theory.proofs.ShapeConverse.{operation_of_lem}
use Rattle.alethe_examples.proofs.ExampleLaws.{is_itself, constant-written, written-constant, written-fraction}
use Rattle.alethe_examples.proofs.ExampleLaws.{Only, opposite_of_negation, scaled_by}

-- ---- steps 4 and 5

gt_is_not-ge : {A : Type 0} {r : Relation} → r ≡ gt → r ≡ ge → A
gt_is_not-ge e f = let z : ◌≡◌ {A = ℕ} 0 1 = cc in absurd (omega arith)

module _ {by : Departures} {a : Rational} {k : Constraint} where
  pub reals-kept : {m : Constraint} → all_int k ≡ false → Strengthens by a k m → m ≡ k
  reals-kept n (Strengthens.not_all_int e) = refl
  reals-kept n (Strengthens.equality e) = refl
  reals-kept n (Strengthens.greater_whole e r w) = never (sym n ∙ e)
  reals-kept n (Strengthens.greater_fraction e r w) = never (sym n ∙ e)
  reals-kept n (Strengthens.at_least_whole e r w) = refl
  reals-kept n (Strengthens.at_least_fraction e r w f) = never (sym n ∙ e)
  reals-kept n (Strengthens.divisor d e r w f g l c h) = never (sym n ∙ e)
  reals-kept n (Strengthens.whole_product d e r w) = refl
  reals-kept n (Strengthens.fractional_product d e r w) = never (sym n ∙ e)

  -- >= stays where a · d is whole, and d is or `whole_product` is granted
  pub at_least-kept :
      {m : Constraint} → k.relation ≡ ge → whole_times a k ≡ true →
      (is_integer k.bound ≡ true) ⊎ by Departure.whole_product → Strengthens by a k m → m ≡ k
  at_least-kept s p b (Strengthens.not_all_int e) = refl
  at_least-kept s p b (Strengthens.equality e) = refl
  at_least-kept s p b (Strengthens.greater_whole e r w) = gt_is_not-ge r s
  at_least-kept s p b (Strengthens.greater_fraction e r w) = gt_is_not-ge r s
  at_least-kept s p b (Strengthens.at_least_whole e r w) = refl
  at_least-kept s p (inl b) (Strengthens.at_least_fraction e r w f) = never (sym w ∙ b)
  at_least-kept s p (inr d) (Strengthens.at_least_fraction e r w f) = never (sym (f d) ∙ p)
  at_least-kept s p b (Strengthens.divisor d e r w f g l c h) = gt_is_not-ge r s
  at_least-kept s p b (Strengthens.whole_product d e r w) = refl
  at_least-kept s p b (Strengthens.fractional_product d e r w) = never (sym w ∙ p)

  -- without `divisor`, > is raised by 1
  pub raised_by_one :
      {m : Constraint} → (by Departure.divisor → ⊥) → all_int k ≡ true → k.relation ≡ gt → is_integer k.bound ≡ true →
      Strengthens by a k m → m ≡ constraint k.terms ge (add_q k.bound one)
  raised_by_one n i s b (Strengthens.not_all_int e) = never (sym e ∙ i)
  raised_by_one n i s b (Strengthens.equality e) = let z : ◌≡◌ {A = ℕ} 0 1 = cc in absurd (omega arith)
  raised_by_one n i s b (Strengthens.greater_whole e r w) = refl
  raised_by_one n i s b (Strengthens.greater_fraction e r w) = never (sym w ∙ b)
  raised_by_one n i s b (Strengthens.at_least_whole e r w) = gt_is_not-ge s r
  raised_by_one n i s b (Strengthens.at_least_fraction e r w f) = gt_is_not-ge s r
  raised_by_one n i s b (Strengthens.divisor d e r w f g l c h) = absurd (n d)
  raised_by_one n i s b (Strengthens.whole_product d e r w) = gt_is_not-ge s r
  raised_by_one n i s b (Strengthens.fractional_product d e r w) = gt_is_not-ge s r

module _ {by : Departures} {a : Rational} where
  at_least-stays : {r s : Relation} → r ≡ ge → ScaledRelation by a r s → s ≡ ge
  at_least-stays e (ScaledRelation.stays r f) = e
  at_least-stays e (ScaledRelation.argument_zero d z) = refl

  pub greater-weakened :
      {r s : Relation} → by Departure.argument_zero → is_zero a ≡ true → r ≡ gt → ScaledRelation by a r s → s ≡ ge
  greater-weakened d z e (ScaledRelation.stays r f) = never (sym (f d e) ∙ z)
  greater-weakened d z e (ScaledRelation.argument_zero c y) = refl

-- what is left of a line
pub line-left :
    {by : Departures} {phi : Term} {a : Rational} {k m : Constraint} (l : Line by phi a k) → l.strong ≡ m →
    k.relation ≡ ge → k ≡ constraint (scaled_by a m).terms ge (scaled_by a m).bound
line-left {a = a} {k} l e f =
    ap₂ (λ es d. constraint es k.relation d) l.terms l.bound
    ∙ ap (λ (r : Relation). constraint (scaled_by a l.strong).terms r (scaled_by a l.strong).bound) f
    ∙ ap (λ (m : Constraint). constraint (scaled_by a m).terms ge (scaled_by a m).bound) e

-- a line of >=
pub at_least-left :
    {by : Departures} {phi : Term} {a : Rational} {k m : Constraint} (l : Line by phi a k) → l.strong ≡ m →
    m.relation ≡ ge → k ≡ constraint (scaled_by a m).terms ge (scaled_by a m).bound
at_least-left l e f = line-left l e (at_least-stays (ap (λ (m : Constraint). m.relation) e ∙ f) l.relation)

-- step 6: a sum that neither relation refutes
pub not-refuted :
    {by : Departures} {ks ms : List Constraint} {r : Relation} → Joins by ks r → contradicts r (sum_bound ks) ≡ true →
    ks ≡ ms → contradicts (joined weaker ms) (sum_bound ms) ≡ false →
    contradicts (joined stronger ms) (sum_bound ms) ≡ false → ⊥
not-refuted Joins.as_worded e f g h =
    never (sym g ∙ sym (ap (λ (ms : List Constraint). contradicts (joined weaker ms) (sum_bound ms)) f) ∙ e)
not-refuted (Joins.join d) e f g h =
    never (sym h ∙ sym (ap (λ (ms : List Constraint). contradicts (joined stronger ms) (sum_bound ms)) f) ∙ e)

-- ---- sums

-- a fraction
module _ (i : ℕ) (c : Rational) where
  fraction_no_operation : {A : Type 0} {o : ℕ} {ts : Terms} → Is o ts (rational i c) → A
  unfolding as_op
  fraction_no_operation h = nothing-found (operation_of_lem h)

  pub fraction-only : Only (rational i c) (sum_of [] c)
  fraction-only r (Linear.number w) = ap (sum_of []) (written-fraction i c _ w)
  fraction-only r (Linear.atom a) = absurd (a.no_number c (Written.plain (Unsigned.constant (Constant.fraction i c))))
  fraction-only r (Linear.sum h l) = fraction_no_operation h
  fraction-only r (Linear.minus h l) = fraction_no_operation h
  fraction-only r (Linear.difference h l k) = fraction_no_operation h
  fraction-only r (Linear.product_left h w l) = fraction_no_operation h
  fraction-only r (Linear.product_right h w l) = fraction_no_operation h

-- (* c b) for a constant c and a term b that is no number
module _ (i j : ℕ) (c : ℤ) {b : Term} {s : Sum} (nb : (q : Rational) → Written b q → ⊥) (ob : Only b s) where
  pub scaled-only : Only (op i Mult (integer j c ▹ b ▹ nil)) (times (Rational.whole c) s)
  unfolding as_fraction as_unsigned_fraction quotient_of unary binary as_number
  scaled-only r (Linear.number w) = not-number (written_read w)
  scaled-only r (Linear.atom k) = absurd (k.not_product _ _ _ (is i) (inl (constant-written j c)))
  scaled-only r (Linear.sum h l) = absurd (omega (arith, (is_itself h).0))
  scaled-only r (Linear.minus h l) = absurd (omega (arith, (is_itself h).0))
  scaled-only r (Linear.difference h l k) = absurd (omega (arith, (is_itself h).0))
  scaled-only r (Linear.product_left {a = d} {b = e} {q = q} h w l) =
      let f = (is_itself h).1 in
      let fd : d ≡ integer j c = cc in
      let fe : e ≡ b = cc in
      ap₂ times (written-constant j c q (rw fd at w)) (ob _ (rw fe at l))
  scaled-only r (Linear.product_right {b = e} {q = q} h w l) =
      let f = (is_itself h).1 in let fe : e ≡ b = cc in absurd (nb q (rw fe at w))

-- ---- shapes

-- without `other_sort`, a literal's sides are numbers
pub sides-are-numbers :
    {by : Departures} {i j o : ℕ} {a b : Term} {k : Constraint} → (by Departure.other_sort → ⊥) →
    States by (not_two i j o a b) k → is_numeric (sort a) ≡ true
sides-are-numbers {by} {a = a} n h =
    let f = (opposite_of_negation h.opposite).1 in let e : h.a ≡ a = cc in rw e at (go h.sorts)
  where
    go : {c d : Term} → Numbers by c d → is_numeric (sort c) ≡ true
    go (Numbers.numbers e f) = e
    go (Numbers.other_sort d) = absurd (n d)

pub two-itself : {i o p : ℕ} {a b c d : Term} → Is2 o a b (two i p c d) → (o ≡ p) × (a ≡ c) × (b ≡ d)
two-itself h = let e = is_itself h in let f = e.1 in (e.0, cc, cc)

pub not-two-itself :
    {i j o p : ℕ} {a b c d : Term} → IsNot2 o a b (not_two i j p c d) → (o ≡ p) × (a ≡ c) × (b ≡ d)
not-two-itself {j = j} {p = p} {c = c} {d} h =
    let e = (is_itself h.negation).1 in
    let f : h.body ≡ two j p c d = cc in
    two-itself (rw f at h.relation)

-- the factors on the two sides of an equation
module _ {i j k o p : ℕ} {a b c d : Term} {l r : Term} where
  pub left-factors :
      {q : ℕ} {s t : Term} → Is2 Equals l r (two i Equals (two j o a b) (two k p c d)) → Is2 q s t l →
      (q ≡ o) × (s ≡ a) × (t ≡ b)
  left-factors e f =
      let g = (is_itself e).1 in
      let h : l ≡ two j o a b = cc in
      two-itself (rw h at f)

  pub right-factors :
      {q : ℕ} {s t : Term} → Is2 Equals l r (two i Equals (two j o a b) (two k p c d)) → Is2 q s t r →
      (q ≡ p) × (s ≡ c) × (t ≡ d)
  right-factors e f =
      let g = (is_itself e).1 in
      let h : r ≡ two k p c d = cc in
      two-itself (rw h at f)
