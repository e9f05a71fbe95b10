-- The five forms (or phi1 phi2) of la_tautology: a step that is accepted has one of them, and one of phi1 and phi2 is
-- true in every model, since the two bounds are numbers that compare as the form says.
--     case_form       what `tautology_case` accepts
--     form-says       why it is true
use mathlib.Core.Path.{◌≡◌, refl, sym, ◌∙◌, ap, ap₂}
use mathlib.Core.Bool.{Bool, true, false, not, ◌||◌, or-not_self}
use Rattle.std.specs.Prelude.{Option, Some, None}
use Prim.Native.Nat.{ℕ}
use lib.Dec.{T}
use lib.Signed.{clash_ℤ}
use Rattle.numbers.specs.Pair.{Pair, less_eq_p, ◌≈◌, ◌≤P◌, ◌<P◌}
use Rattle.numbers.specs.Rational as Rational
use Rattle.numbers.specs.Rational.{Rational, Lowest, less_q, less_eq_q}
use Rattle.terms.specs.Operator.{LessEq, GreaterEq}
use Rattle.terms.specs.Term.{Term}
use Rattle.terms.specs.Readers.{as_signed_number}
use Rattle.terms.specs.Smtlib.{Assignment}
use Rattle.numbers.proofs.Pairs.{≤P_trans, ≤P_resp, <P_resp}
use Rattle.numbers.proofs.Rationals.{less-value, less_eq-value}
use Rattle.book.proofs.WellFormed.{WellFormed}
use Rattle.book.proofs.Fractions.{as_fraction-value}
use Rattle.book.proofs.BookTerms.{Closed}
use Rattle.rules.specs.Refusal.{Result, ◌>>=◌, or_else}
use Rattle.rules.specs.declared.refusal.Refusal.{Refusal}
use Rattle.rules.specs.declared.refusal.Refusal.TheVariants.{ExpectedAnyNumber}
use Rattle.rules.specs.Limits.{number_or, signed_number_err}
use Rattle.rules.specs.Shapes as Form
use Rattle.linear_shapes.specs.LinearShapes.{assert_less_eq, assert_less_than, tautology_case}
use Rattle.rules.specs.Shapes.{assert_eq, bounds_case}
use Rattle.alethe.specs.Alethe.{Departures, carcara, Is2, IsNot2, Written, BoundsForm, less_eq, greater_eq}
use Rattle.alethe.specs.Alethe.BoundsForm.{below, below_or_not, above, above_or_not, apart}
use Rattle.alethe.specs.Alethe.Bound.{any_bound}
use Rattle.rules.proofs.Yields.{Yields, gives, refuses, and_then, weaker}
use Rattle.rules_theory.proofs.WrittenNumbers.{read-signed, signed-written, written_read}
use Rattle.rules_theory.proofs.Shapes.{NotFound, asserted, binary-found, negated-found, nothing-found, equal-yields}
use Rattle.rules_theory.proofs.Shapes.{arguments-formed}
use Rattle.numbers.proofs.Truths.{T_true, true-T}
use Rattle.numbers.proofs.Comparisons.{of_less_p, of_less_eq_p, less_eq_p-true}
use Rattle.alethe.proofs.Literals.{at, says, relation-says, negated-says}
use Rattle.terms.specs.Readers.{Reading}
use Rattle.std.specs.Prelude.{Ok, Err}
use Rattle.terms.specs.declared.term.NotRead.TheVariants.{NotNumber, OutOfRange}

-- ---- tests along the steps

-- an option that is found, or what comes next
pub by_found :
    {A B : Type 0} {Q : A → Type 0} (o : Option B) {f : B → Result A} {y : Result A} →
    ((b : B) → o ≡ Some b → Yields Q (f b)) → Yields Q y →
    Yields {E = Refusal} Q (elim o as (λ z. Result A) [ Some b ↦ f b | None ↦ y ])
by_found (Some b) h k = h b refl
by_found None h k = k

-- what is found of each of two
both_found :
    {A B : Type 0} (o q : Option (Term × Term)) (r : (Term × Term) × (Term × Term)) → (o ≡ Some r.0 → A) →
    (q ≡ Some r.1 → B) → Form.both o q ≡ Some r → A × B
both_found (Some a) (Some b) r f g e =
    let h : ◌≡◌ {A = (Term × Term) × (Term × Term)} (a, b) r = cc in (
      f (ap (λ (r : (Term × Term) × (Term × Term)). Some r.0) h),
      g (ap (λ (r : (Term × Term) × (Term × Term)). Some r.1) h),
    )
both_found (Some a) None r f g e = nothing-found e
both_found None q r f g e = nothing-found e

-- a and b are signed numbers, and a test says true of them
record Compared (test : Rational → Rational → Bool) (a b : Term) : Type 0 where
  q1 : Rational
  q2 : Rational
  first : Written a q1
  second : Written b q2
  compare : T (test q1 q2)

signed-yields : (t : Term) → Yields (Written t) (signed_number_err t)
unfolding signed_number_err ◌>>=◌ or_else
signed-yields t = go (as_signed_number t) refl
  where
    go :
        (r : Reading) → as_signed_number t ≡ r →
        Yields (Written t) (number_or r >>= λ q. or_else q ExpectedAnyNumber)
    go (Ok q) e = gives (signed-written (read-signed t q e))
    go (Err NotNumber) e = refuses
    go (Err OutOfRange) e = refuses

module _ (a b : Term) where
  less-yields : Yields (λ u. Compared less_q a b) (assert_less_than a b)
  unfolding assert_less_than
  less-yields =
      and_then (signed-yields a) λ p f.
      and_then (signed-yields b) λ q g.
      asserted (less_q p q) _ λ e. record { q1 = p; q2 = q; first = f; second = g; compare = true-T e }

  less_eq-yields : Yields (λ u. Compared less_eq_q a b) (assert_less_eq a b)
  unfolding assert_less_eq
  less_eq-yields =
      and_then (signed-yields a) λ p f.
      and_then (signed-yields b) λ q g.
      asserted (less_eq_q p q) _ λ e. record { q1 = p; q2 = q; first = f; second = g; compare = true-T e }

-- ---- what is accepted

denied : {P : Term → Type 0} {o : ℕ} {t : Term} {q : Term × Term} → NotFound P o t q → IsNot2 o q.0 q.1 t
denied h = record { body = h.body; relation = h.relation.shape; negation = h.negation }

module _ {P : Term → Type 0} (closed : Closed P) where
  bounds-yields :
      {R Q : Type 0} (test : Term → Term → Result (Unit {0})) (p : (Term × Term) × (Term × Term)) →
      P p.0.0 → P p.1.0 → Yields (λ u. R) (test p.0.1 p.1.1) → (p.1.0 ≡ p.0.0 → R → Q) →
      Yields (λ u. Q) (bounds_case test p)
  unfolding bounds_case
  bounds-yields test p a b h k =
      and_then (equal-yields closed p.0.0 p.1.0 a b) λ u e.
      weaker (λ v r. k (sym e) r) h

  module _ (first second : Term) (pf : P first) (ps : P second) where
    pub case_form : Yields (λ u. BoundsForm carcara first second) (tautology_case first second)
    unfolding tautology_case
    case_form =
        by_found _
        (λ r e.
        let h =
        both_found _ _ r (negated-found closed LessEq first pf r.0)
        (binary-found closed LessEq second ps r.1) e in
        bounds-yields assert_less_eq r h.0.relation.inside.0 h.1.inside.0 (less_eq-yields r.0.1 r.1.1)
        λ s c.
        below r.0.0 r.0.1 r.1.1 c.q1 c.q2 (denied h.0) (rw s at h.1.shape) c.first
        c.second
        c.compare)
        (by_found _
        (λ r e.
        let h =
        both_found _ _ r (binary-found closed LessEq first pf r.0)
        (negated-found closed LessEq second ps r.1) e in
        let ds = equal-yields closed r.0.1 r.1.1 h.0.inside.1.0 h.1.relation.inside.1.0 in
        bounds-yields assert_eq r h.0.inside.0 h.1.relation.inside.0 ds λ s d.
        below_or_not r.0.0 r.0.1 h.0.shape (rw (s, ← d) at (denied h.1)) (any_bound tt))
        (by_found _
        (λ r e.
        let h =
        both_found _ _ r (negated-found closed GreaterEq first pf r.0)
        (binary-found closed GreaterEq second ps r.1) e in
        bounds-yields (λ d1 d2. assert_less_eq d2 d1) r h.0.relation.inside.0 h.1.inside.0
        (less_eq-yields r.1.1 r.0.1) λ s c.
        above r.0.0 r.0.1 r.1.1 c.q2 c.q1 (denied h.0) (rw s at h.1.shape) c.second
        c.first
        c.compare)
        (by_found _
        (λ r e.
        let h =
        both_found _ _ r (binary-found closed GreaterEq first pf r.0)
        (negated-found closed GreaterEq second ps r.1) e in
        let ds = equal-yields closed r.0.1 r.1.1 h.0.inside.1.0 h.1.relation.inside.1.0 in
        bounds-yields assert_eq r h.0.inside.0 h.1.relation.inside.0 ds λ s d.
        above_or_not r.0.0 r.0.1 h.0.shape (rw (s, ← d) at (denied h.1)) (any_bound tt))
        (by_found _
        (λ r e.
        let h =
        both_found _ _ r (negated-found closed LessEq first pf r.0)
        (negated-found closed GreaterEq second ps r.1) e in
        bounds-yields assert_less_than r h.0.relation.inside.0 h.1.relation.inside.0
        (less-yields r.0.1 r.1.1) λ s c.
        apart r.0.0 r.0.1 r.1.1 c.q1 c.q2 (denied h.0) (rw s at (denied h.1)) c.first
        c.second
        c.compare)
        refuses))))

-- ---- Bools and well-formed bounds

implies_or : (s t : Bool) → (s ≡ true → t ≡ true) → (not s || t) ≡ true
implies_or true t h = h refl
implies_or false t h = refl

not-both : (s t : Bool) → (s ≡ true → t ≡ true → ⊥) → (not s || not t) ≡ true
not-both true true h = absurd (h refl refl)
not-both true false h = refl
not-both false t h = refl

-- the bound of a relation, negated or not
bound-formed : {o : ℕ} {a b t : Term} → Is2 o a b t → WellFormed t → WellFormed b
unfolding WellFormed
bound-formed h w = (arguments-formed h w).1.0

negated-bound-formed : {o : ℕ} {a b t : Term} → IsNot2 o a b t → WellFormed t → WellFormed b
unfolding WellFormed
negated-bound-formed h w = bound-formed h.relation (arguments-formed h.negation w).0

-- ---- bounds compare as the numbers that they are

number_at_lem :
    (ρ : Assignment) (d : Term) → WellFormed d → (q : Rational) → Written d q →
    (at ρ d ≈ Rational.value q) × Lowest q
number_at_lem ρ d w q n = as_fraction-value d w q (written_read n) ρ

module _ (ρ : Assignment) (d1 d2 : Term) (w1 : WellFormed d1) (w2 : WellFormed d2) (q1 q2 : Rational)
    (n1 : Written d1 q1) (n2 : Written d2 q2) where
  -- an order of pairs that respects equality, and its test
  bounds_ordered :
      {◌<◌ : Pair → Pair → Type 0} (resp : (a a' b b' : Pair) → a ≈ a' → b ≈ b' → ◌<◌ a b → ◌<◌ a' b') →
      (Lowest q1 → Lowest q2 → ◌<◌ (Rational.value q1) (Rational.value q2)) → ◌<◌ (at ρ d1) (at ρ d2)
  bounds_ordered resp ordered =
      let h = number_at_lem ρ d1 w1 q1 n1 in
      let k = number_at_lem ρ d2 w2 q2 n2 in
      resp (Rational.value q1) (at ρ d1) (Rational.value q2) (at ρ d2) (sym h.0) (sym k.0) (ordered h.1 k.1)

  bounds-le : T (less_eq_q q1 q2) → at ρ d1 ≤P at ρ d2
  bounds-le e =
      bounds_ordered {◌<◌ = ◌≤P◌} ≤P_resp
      (λ l1 l2.
      of_less_eq_p (Rational.value q1) (Rational.value q2)
      (sym (less_eq-value q1 q2 l1 l2) ∙ T_true (less_eq_q q1 q2) e))

  bounds_lt : T (less_q q1 q2) → at ρ d1 <P at ρ d2
  bounds_lt e =
      bounds_ordered {◌<◌ = ◌<P◌} <P_resp
      (λ l1 l2.
      of_less_p (Rational.value q1) (Rational.value q2)
      (sym (less-value q1 q2 l1 l2) ∙ T_true (less_q q1 q2) e))

-- ---- why it is true

pub form-says :
    {by : Departures} {phi1 phi2 : Term} → WellFormed phi1 → WellFormed phi2 → BoundsForm by phi1 phi2 →
    (ρ : Assignment) →
    (says ρ phi1 || says ρ phi2) ≡ true
form-says w1 w2 (below s d1 d2 q1 q2 f g n1 n2 c) ρ =
    let x = at ρ s in
    let y = at ρ d1 in
    let z = at ρ d2 in
    let l = bounds-le ρ d1 d2 (negated-bound-formed f w1) (bound-formed g w2) q1 q2 n1 n2 c in
    ap₂ ◌||◌ (negated-says ρ less_eq f) (relation-says ρ less_eq g)
    ∙ implies_or (less_eq_p x y) (less_eq_p x z) (λ e. less_eq_p-true x z (≤P_trans x y z (of_less_eq_p x y e) l))
form-says w1 w2 (below_or_not s d f g b) ρ =
    ap₂ ◌||◌ (relation-says ρ less_eq f) (negated-says ρ less_eq g) ∙ or-not_self (less_eq_p (at ρ s) (at ρ d))
form-says w1 w2 (above s d1 d2 q1 q2 f g n1 n2 c) ρ =
    let x = at ρ s in
    let y = at ρ d1 in
    let z = at ρ d2 in
    let l = bounds-le ρ d2 d1 (bound-formed g w2) (negated-bound-formed f w1) q2 q1 n2 n1 c in
    ap₂ ◌||◌ (negated-says ρ greater_eq f) (relation-says ρ greater_eq g)
    ∙ implies_or (less_eq_p y x) (less_eq_p z x) (λ e. less_eq_p-true z x (≤P_trans z y x l (of_less_eq_p y x e)))
form-says w1 w2 (above_or_not s d f g b) ρ =
    ap₂ ◌||◌ (relation-says ρ greater_eq f) (negated-says ρ greater_eq g) ∙ or-not_self (less_eq_p (at ρ d) (at ρ s))
form-says w1 w2 (apart s d1 d2 q1 q2 f g n1 n2 c) ρ =
    let x = at ρ s in
    let y = at ρ d1 in
    let z = at ρ d2 in
    let l = bounds_lt ρ d1 d2 (negated-bound-formed f w1) (negated-bound-formed g w2) q1 q2 n1 n2 c in
    ap₂ ◌||◌ (negated-says ρ less_eq f) (negated-says ρ greater_eq g)
    ∙ not-both (less_eq_p x y) (less_eq_p z x) (λ e h. clash_ℤ l (≤P_trans z x y (of_less_eq_p z x h) (of_less_eq_p x y e)))
