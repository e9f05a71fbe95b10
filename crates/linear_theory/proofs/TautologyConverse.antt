-- la_tautology, the converse: what the Alethe specification's words make a la_tautology step the Rust accepts, but for
-- an equality whose bound is negative (K8) and for bounds that are quotients (`tautology-accepted`). Under limits it is
-- refused for these or a limit alone (`tautology-not-refused`). A literal that states a constraint is no (or a b); of
-- the five forms of bounds each fits one of the Rust's matches only.
use mathlib.Core.Path.{◌≡◌, refl, sym, ◌∙◌, ap}
use mathlib.Core.Bool.{Bool, true, false, ◌&&◌, ◌||◌}
use Rattle.std.specs.Prelude.{None}
use mathlib.Core.List.{[], ◌∷◌}
use mathlib.Core.Logic.{◌⊎◌, inl, inr, ⊎_elim}
use Prim.Native.Nat.{ℕ}
use lib.Dec.{T, eqb}
use Rattle.numbers.specs.Rational.{Rational, is_zero, is_positive, less_q, less_eq_q}
use Rattle.terms.specs.Operator.{Not, Or, GreaterThan, LessEq, GreaterEq}
use Rattle.terms.specs.Term.{Term, Terms, binary, unary}
use Rattle.terms.specs.Term.Term.{op}
use Rattle.terms.specs.Term.Terms.{nil, ◌▹◌}
use Rattle.terms.specs.Readers.{as_signed_number, remove_negation}
use Rattle.numbers.proofs.Truths.{T_true}
use Rattle.terms.proofs.Readings.{not-number, out_of_range}
use Rattle.book.proofs.BookTerms.{Closed}
use Rattle.rules.specs.Refusal.{Result, ◌>>=◌, assert, or_else}
use Rattle.rules.specs.declared.refusal.Refusal.{Refusal}
use Rattle.std.specs.Prelude.{Ok, Err}
use Rattle.rules.specs.declared.refusal.Refusal.TheVariants.{ExpectedAnyNumber}
use Rattle.rules.specs.Limits.{Limits, the_rust, number_or, signed_number_err}
use Rattle.linear_shapes.specs.LinearShapes.{assert_less_than, assert_less_eq, tautology_case}
use Rattle.linear_arithmetic.specs.LinearArithmetic.{is_tautology, la_tautology}
use Rattle.disequality.specs.Disequality.{Disequality, disequality_of}
use Rattle.rules.specs.Shapes.{only_literal, assert_eq, bounds_case, negated_binary}
use Rattle.alethe.specs.AletheTerms.{Departures, is, Is1, Is2, Signed, Written, Cancels}
use Rattle.alethe.specs.Alethe.{Constraint, States, contradicts, Opposite, LaTautology, BoundsForm}
use Rattle.alethe.specs.Alethe.Turns.{less, greater, less_equal, greater_equal}
use Rattle.alethe.specs.Alethe.Opposite.{negation, turned}
use Rattle.alethe.specs.Alethe.Relation.{eq}
use Rattle.alethe.specs.Alethe.LaTautology.{comparison, bounds}
use Rattle.alethe.specs.Alethe.BoundsForm.{below, below_or_not, above, above_or_not, apart}
use Rattle.alethe.specs.AletheDifferences.{NegativeEquality, QuotientBound, BoundIn}
use Rattle.alethe.specs.AletheDifferences.BoundIn.{below as in-below, above as in-above, not_below, not_above}
use Rattle.alethe.specs.AletheDifferences.BoundIn.{not_above_second}
use Rattle.rules.proofs.Results.{next}
use Rattle.rules_theory.proofs.Limited.{IsLimit, limit-alone}
use Rattle.linear_theory.proofs.LimitedLinear.{la_tautology-limited}
use Rattle.rules_theory.proofs.Shapes.{same_self}
use Rattle.rules_theory.proofs.WrittenNumbers.{signed-read, read-signed, signed-written, written_read}
use Rattle.linear_theory.proofs.NormalForms.{normal-empty}
use Rattle.linear_theory.proofs.Disequalities.{Upward, is_equals, is_greater, is_greater_eq, relation_of}
use Rattle.linear_theory.proofs.Disequalities.{states-agree, states-answered}
use Rattle.terms.specs.Readers.{Reading}
use Rattle.terms.specs.declared.term.NotRead.TheVariants.{NotNumber, OutOfRange}

-- ---- a comparison

-- a literal that states a constraint is no disjunction
no_disjunction : {ts : Terms} {phi : Term} {o : ℕ} → Opposite ts phi o → binary Or phi ≡ None
unfolding binary
no_disjunction (negation body r h (is i)) = refl
no_disjunction (turned p less (is i)) = refl
no_disjunction (turned p greater (is i)) = refl
no_disjunction (turned p less_equal (is i)) = refl
no_disjunction (turned p greater_equal (is i)) = refl

-- the Rust's test on the constant, or an equality that it does not see
refuted : {o : ℕ} → Upward o → (c : Rational) → contradicts (relation_of o) c ≡ true →
    ((is_positive c || (eqb o GreaterThan && is_zero c)) ≡ true) ⊎ ((relation_of o ≡ eq) × (is_positive c ≡ false))
unfolding contradicts
refuted is_equals c e = at (is_positive c) refl
  where
    at : (p : Bool) → is_positive c ≡ p → ((p || false) ≡ true) ⊎ ((eq ≡ eq) × (is_positive c ≡ false))
    at true h = inl refl
    at false h = inr (refl, h)
refuted is_greater_eq c e = inl (rw e)
refuted is_greater c e = inl e

-- the rule by its two forms
literal-only : (phi : Term) → only_literal (phi ∷ []) ≡ Ok phi
unfolding only_literal
literal-only phi = refl

one_accepted : (phi : Term) (n : ℕ) → binary Or phi ≡ None → (d : Disequality) → disequality_of the_rust phi n ≡ Ok d →
    is_tautology d ≡ true → la_tautology the_rust (phi ∷ []) n ≡ Ok d.visits
unfolding la_tautology assert ◌>>=◌
one_accepted phi n e d answer t = next _ (literal-only phi) ∙ rw e (next _ answer ∙ rw t)

two-accepted : {phi1 phi2 phi : Term} (n : ℕ) → Is2 Or phi1 phi2 phi → tautology_case phi1 phi2 ≡ Ok tt →
    la_tautology the_rust (phi ∷ []) n ≡ Ok n
unfolding la_tautology binary
two-accepted n (is i) e = next _ (literal-only (op i Or (_ ▹ _ ▹ nil))) ∙ next _ e

module _ {P : Term → Type 0} (closed : Closed P) (by : Departures) (phi : Term) (p : P phi) (n : ℕ) where
  -- what the Rust accepts, or why it does not
  abbrev Accepted : Type 0
  Accepted = ((m : ℕ) × (la_tautology the_rust (phi ∷ []) n ≡ Ok m)) ⊎ (NegativeEquality by phi ⊎ QuotientBound phi)

  comparison-accepted : (k : Constraint) → States by phi k → Cancels k.terms →
      contradicts k.relation k.bound ≡ true → Accepted
  comparison-accepted k states cancels e =
      let (d, answer) = states-answered closed phi p by k states n in
      let a = states-agree closed phi p by k states the_rust n d answer in
      let empty = normal-empty closed k.terms a.entries d.sum.entries a.normal cancels in
      ⊎_elim
      (λ t.
      let passes : is_tautology d ≡ true = rw empty t in
      inl (d.visits, one_accepted phi n (no_disjunction states.opposite) d answer passes))
      (λ t.
      inr
      (inl
      (record {
        negated = k;
        states = states;
        equality = sym a.relation ∙ t.0;
        cancels = cancels;
        negative = ap is_positive (sym a.bound) ∙ t.1;
      })))
      (refuted a.upward d.sum.constant (rw (a.relation, a.bound) e))

-- ---- bounds

-- a bound that is written is a signed constant, or none
signed_or_not : (d : Term) (q : Rational) → Written d q → (signed_number_err d ≡ Ok q) ⊎ ((r : Rational) → Signed d r → ⊥)
unfolding signed_number_err or_else ◌>>=◌
signed_or_not d q w = at (as_signed_number d) refl
  where
    at : (r : Reading) → as_signed_number d ≡ r →
        ((number_or r >>= λ x. or_else x ExpectedAnyNumber) ≡ Ok q) ⊎ ((r : Rational) → Signed d r → ⊥)
    at (Ok r) e =
        let read : Ok r ≡ Ok q = sym (written_read (signed-written (read-signed d r e))) ∙ written_read w in
        inl cc
    at (Err NotNumber) e = inr λ r h. not-number (sym e ∙ signed-read h)
    at (Err OutOfRange) e = inr λ r h. out_of_range (sym e ∙ signed-read h)

-- two bounds are compared, or one is no signed constant
module _ (d1 d2 : Term) (q1 q2 : Rational) (w1 : Written d1 q1) (w2 : Written d2 q2) where
  abbrev Compared : Result (Unit {0}) → Type 0
  Compared x = (x ≡ Ok tt) ⊎ (((r : Rational) → Signed d1 r → ⊥) ⊎ ((r : Rational) → Signed d2 r → ⊥))

  by_numbers : (f : Rational → Rational → Result (Unit {0})) → f q1 q2 ≡ Ok tt →
      Compared (signed_number_err d1 >>= λ p. signed_number_err d2 >>= λ q. f p q)
  by_numbers f e =
      ⊎_elim (λ r1. ⊎_elim (λ r2. inl (next _ r1 ∙ next _ r2 ∙ e)) (λ u. inr (inr u)) (signed_or_not d2 q2 w2))
      (λ u. inr (inl u)) (signed_or_not d1 q1 w1)

  less_eq-compared : T (less_eq_q q1 q2) → Compared (assert_less_eq d1 d2)
  unfolding assert_less_eq assert
  less_eq-compared t = by_numbers _ (rw (T_true (less_eq_q q1 q2) t))

  less-compared : T (less_q q1 q2) → Compared (assert_less_than d1 d2)
  unfolding assert_less_than assert
  less-compared t = by_numbers _ (rw (T_true (less_q q1 q2) t))

-- each form is the one that the Rust's match finds
module _ {s t d1 d2 : Term} where
  below_case : {b f g : Term} → Is2 LessEq s d1 b → Is1 Not b f → Is2 LessEq t d2 g →
      tautology_case f g ≡ bounds_case assert_less_eq ((s, d1), (t, d2))
  unfolding tautology_case negated_binary remove_negation unary binary
  below_case (is j) (is i) (is k) = refl

  below_or_not_case : {b f g : Term} → Is2 LessEq s d1 f → Is2 LessEq t d2 b → Is1 Not b g →
      tautology_case f g ≡ bounds_case assert_eq ((s, d1), (t, d2))
  unfolding tautology_case negated_binary remove_negation unary binary
  below_or_not_case (is j) (is i) (is k) = refl

  above_case : {b f g : Term} → Is2 GreaterEq s d1 b → Is1 Not b f → Is2 GreaterEq t d2 g →
      tautology_case f g ≡ bounds_case (λ x y. assert_less_eq y x) ((s, d1), (t, d2))
  unfolding tautology_case negated_binary remove_negation unary binary
  above_case (is j) (is i) (is k) = refl

  above_or_not_case : {b f g : Term} → Is2 GreaterEq s d1 f → Is2 GreaterEq t d2 b → Is1 Not b g →
      tautology_case f g ≡ bounds_case assert_eq ((s, d1), (t, d2))
  unfolding tautology_case negated_binary remove_negation unary binary
  above_or_not_case (is j) (is i) (is k) = refl

  apart_case : {a b f g : Term} → Is2 LessEq s d1 a → Is1 Not a f → Is2 GreaterEq t d2 b → Is1 Not b g →
      tautology_case f g ≡ bounds_case assert_less_than ((s, d1), (t, d2))
  unfolding tautology_case negated_binary remove_negation unary binary
  apart_case (is j) (is i) (is k) (is l) = refl

equal_passes : (t : Term) → assert_eq t t ≡ Ok tt
unfolding assert_eq assert
equal_passes t = rw (same_self t)

bounds_pass : (test : Term → Term → Result (Unit {0})) (s d1 d2 : Term) → test d1 d2 ≡ Ok tt →
    bounds_case test ((s, d1), (s, d2)) ≡ Ok tt
unfolding bounds_case
bounds_pass test s d1 d2 e = next _ (equal_passes s) ∙ e

-- one of the two bounds is no signed constant
record Unsigned (phi1 phi2 : Term) : Type 0 where
  bound : Term
  inside : BoundIn bound phi1 phi2
  unsigned : (q : Rational) → Signed bound q → ⊥

form-accepted : {by : Departures} {phi1 phi2 : Term} → BoundsForm by phi1 phi2 →
    (tautology_case phi1 phi2 ≡ Ok tt) ⊎ Unsigned phi1 phi2
form-accepted (below s d1 d2 q1 q2 f g n1 n2 c) =
    ⊎_elim (λ e. inl (below_case f.relation f.negation g ∙ bounds_pass assert_less_eq s d1 d2 e))
    (⊎_elim (λ u. inr (record { bound = d1; inside = not_below s f; unsigned = u }))
    (λ u. inr (record { bound = d2; inside = in-below s g; unsigned = u })))
    (less_eq-compared d1 d2 q1 q2 n1 n2 c)
form-accepted (below_or_not s d f g b) =
    inl (below_or_not_case f g.relation g.negation ∙ bounds_pass assert_eq s d d (equal_passes d))
form-accepted (above s d1 d2 q1 q2 f g n1 n2 c) =
    ⊎_elim (λ e. inl (above_case f.relation f.negation g ∙ bounds_pass (λ x y. assert_less_eq y x) s d1 d2 e))
    (⊎_elim (λ u. inr (record { bound = d2; inside = in-above s g; unsigned = u }))
    (λ u. inr (record { bound = d1; inside = not_above s f; unsigned = u })))
    (less_eq-compared d2 d1 q2 q1 n2 n1 c)
form-accepted (above_or_not s d f g b) =
    inl (above_or_not_case f g.relation g.negation ∙ bounds_pass assert_eq s d d (equal_passes d))
form-accepted (apart s d1 d2 q1 q2 f g n1 n2 c) =
    ⊎_elim
    (λ e.
    inl (apart_case f.relation f.negation g.relation g.negation ∙ bounds_pass assert_less_than s d1 d2 e))
    (⊎_elim (λ u. inr (record { bound = d1; inside = not_below s f; unsigned = u }))
    (λ u. inr (record { bound = d2; inside = not_above_second s g; unsigned = u })))
    (less-compared d1 d2 q1 q2 n1 n2 c)

-- ---- the rule

module _ {P : Term → Type 0} (closed : Closed P) where
  pub tautology-accepted : (by : Departures) (phi : Term) → P phi → LaTautology by phi → (n : ℕ) →
      ((m : ℕ) × (la_tautology the_rust (phi ∷ []) n ≡ Ok m)) ⊎ (NegativeEquality by phi ⊎ QuotientBound phi)
  tautology-accepted by phi p (comparison k states cancels e) n =
      comparison-accepted closed by phi p n k states cancels e
  tautology-accepted by phi p (bounds phi1 phi2 h f) n =
      ⊎_elim (λ e. inl (n, two-accepted n h e))
      (λ u.
      inr
      (inr
      (record {
        phi1 = phi1;
        phi2 = phi2;
        bound = u.bound;
        disjunction = h;
        inside = u.inside;
        unsigned = u.unsigned;
      })))
      (form-accepted f)

  -- under limits it is refused by these alone
  pub tautology-not-refused : (by : Departures) (phi : Term) → P phi → LaTautology by phi → (l : Limits) (n : ℕ)
      (r : Refusal) → la_tautology l (phi ∷ []) n ≡ Err r → IsLimit r ⊎ (NegativeEquality by phi ⊎ QuotientBound phi)
  tautology-not-refused by phi p h l n r e =
      ⊎_elim (λ a. inl (limit-alone (la_tautology-limited l (phi ∷ []) n) a.1 e)) inr
      (tautology-accepted by phi p h n)
