-- la_rw_eq, la_disequality and la_totality: a step that is accepted has the rule's shape, and a term of that shape is true in every
-- model. `<=` is total and antisymmetric, whatever the two terms are.
--     rw_eq-literal, disequality-literal, totality-literal       an accepted step has one literal
--     rw_eq-shape, disequality-shape, totality-shape       and this is its shape
--     rw_eq-valid, disequality-valid, totality-valid       why it is true
use mathlib.Core.Path.{◌≡◌, refl, sym, ◌∙◌, ap, ap₂}
use mathlib.Core.Bool.{Bool, true, false, not, ◌&&◌, ◌||◌}
use mathlib.Core.List.{[], ◌∷◌}
use Rattle.numbers.specs.Pair.{Pair, eq_p, less_eq_p}
use Rattle.terms.specs.Term.{Term}
use Rattle.terms.specs.Smtlib.{as_pair, is_true, truth, value}
use Rattle.book.proofs.BookTerms.{Closed}
use Rattle.std.specs.Prelude.{Ok}
use Rattle.linear_shapes.specs.LinearShapes.{la_rw_eq, la_disequality, la_totality, rw_eq_form, disequality_form, totality_form}
use Rattle.rules.specs.Shapes.{has_form}
use Rattle.alethe.specs.Alethe.{Clause, Valid, LaRwEq, LaDisequality, LaTotality, equals, less_eq}
use Rattle.rules_theory.proofs.Forms.{has-form}
use Rattle.rules_theory.proofs.Shapes.{one_literal}
use Rattle.numbers.proofs.Comparisons.{eq_p-both, eq_p-refl, less_eq_p-total}
use Rattle.alethe.proofs.Literals.{at, relation-value, relation-says, negated-says, and_value, or_value, or3_value}
use Rattle.alethe.proofs.Literals.{valid-literal}

-- ---- what an accepted step is

module _ (c : Clause) where
  pub rw_eq-literal : la_rw_eq c ≡ Ok tt → (phi : Term) × (c ≡ phi ∷ [])
  unfolding la_rw_eq has_form
  rw_eq-literal = one_literal c _

  pub disequality-literal : la_disequality c ≡ Ok tt → (phi : Term) × (c ≡ phi ∷ [])
  unfolding la_disequality has_form
  disequality-literal = one_literal c _

  pub totality-literal : la_totality c ≡ Ok tt → (phi : Term) × (c ≡ phi ∷ [])
  unfolding la_totality has_form
  totality-literal = one_literal c _

module _ {P : Term → Type 0} (closed : Closed P) (phi : Term) (p : P phi) where
  pub rw_eq-shape : la_rw_eq (phi ∷ []) ≡ Ok tt → LaRwEq phi
  unfolding la_rw_eq
  rw_eq-shape e =
      let (σ, f) = has-form closed rw_eq_form phi p e in
      let h = f.holds in
      record {
        t = σ.at 3;
        u = σ.at 4;
        left = σ.at 1;
        right = σ.at 2;
        first = σ.at 5;
        second = σ.at 6;
        equality = h.1.0;
        below = h.1.1.1.0;
        above = h.1.1.1.1.0;
        conjunction = h.1.1.0;
        conclusion = rw f.whole at h.0;
      }

  pub disequality-shape : la_disequality (phi ∷ []) ≡ Ok tt → LaDisequality phi
  unfolding la_disequality
  disequality-shape e =
      let (σ, f) = has-form closed disequality_form phi p e in
      let h = f.holds in
      record {
        t1 = σ.at 4;
        t2 = σ.at 5;
        first = σ.at 1;
        second = σ.at 2;
        third = σ.at 3;
        equality = h.1.0;
        not_below = record { body = σ.at 6; relation = h.1.1.1.0; negation = h.1.1.0 };
        not_above = record { body = σ.at 7; relation = h.1.1.1.1.1.0; negation = h.1.1.1.1.0 };
        conclusion = rw f.whole at h.0;
      }

  pub totality-shape : la_totality (phi ∷ []) ≡ Ok tt → LaTotality phi
  unfolding la_totality
  totality-shape e =
      let (σ, f) = has-form closed totality_form phi p e in
      let h = f.holds in
      record {
        t1 = σ.at 3;
        t2 = σ.at 4;
        first = σ.at 1;
        second = σ.at 2;
        below = h.1.0;
        above = h.1.1.0;
        conclusion = rw f.whole at h.0;
      }

-- ---- why it is true

pub rw_eq-valid : {phi : Term} → LaRwEq phi → Valid (phi ∷ [])
rw_eq-valid {phi} h =
    valid-literal phi λ ρ.
    let x = at ρ h.t in
    let y = at ρ h.u in
    let left : value ρ h.left ≡ truth (eq_p x y) = relation-value ρ equals h.equality in
    let right : value ρ h.right ≡ truth (eq_p x y) =
    and_value ρ h.conjunction
    ∙ ap truth (ap₂ ◌&&◌ (relation-says ρ less_eq h.below) (relation-says ρ less_eq h.above) ∙ sym (eq_p-both x y)) in
    relation-says ρ equals h.conclusion ∙ rw (left, right) (eq_p-refl (as_pair (truth (eq_p x y))))

antisymmetric : (x y : Pair) → (eq_p x y || (not (less_eq_p x y) || not (less_eq_p y x))) ≡ true
antisymmetric x y = rw (eq_p-both x y) (go (less_eq_p x y) (less_eq_p y x))
  where
    go : (s t : Bool) → ((s && t) || (not s || not t)) ≡ true
    go true true = refl
    go true false = refl
    go false t = refl

pub disequality-valid : {phi : Term} → LaDisequality phi → Valid (phi ∷ [])
disequality-valid {phi} h =
    valid-literal phi λ ρ.
    ap is_true (or3_value ρ h.conclusion)
    ∙ ap₂ ◌||◌ (relation-says ρ equals h.equality)
    (ap₂ ◌||◌ (negated-says ρ less_eq h.not_below) (negated-says ρ less_eq h.not_above))
    ∙ antisymmetric (at ρ h.t1) (at ρ h.t2)

pub totality-valid : {phi : Term} → LaTotality phi → Valid (phi ∷ [])
totality-valid {phi} h =
    valid-literal phi λ ρ.
    ap is_true (or_value ρ h.conclusion)
    ∙ ap₂ ◌||◌ (relation-says ρ less_eq h.below) (relation-says ρ less_eq h.above)
    ∙ less_eq_p-total (at ρ h.t1) (at ρ h.t2)
