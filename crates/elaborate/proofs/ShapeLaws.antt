-- The laws of the rules that look at shapes alone: `assume`, and rules 1 to 3.
use Rattle.runs.specs.declared.rule.Rule.TheVariants.{LaTotality, LaDisequality, LaRwEq, Assume}
use mathlib.Core.Path.{◌≡◌, refl, sym, ◌∙◌}
use mathlib.Core.List.{List, [], ◌∷◌}
use mathlib.Core.Logic.{inl, ⊎_elim}
use Rattle.terms.specs.Term.{Term}
use Rattle.book.proofs.BookTerms.{Closed}
use Rattle.rules.specs.Refusal.{Result}
use Rattle.std.specs.Prelude.{Ok}
use Rattle.rules.specs.Shapes.{Clause}
use Rattle.linear_shapes.specs.LinearShapes as rule
use Rattle.alethe.specs.Alethe as Alethe
use Rattle.rules.proofs.Yields.Yields.{gives}
use Rattle.rules_theory.proofs.Limited.◌≼◌.{equal}
use Rattle.linear_theory.proofs.ShapeRules.{rw_eq-literal, rw_eq-shape, rw_eq-valid, disequality-literal}
use Rattle.linear_theory.proofs.ShapeRules.{disequality-shape, disequality-valid, totality-literal, totality-shape}
use Rattle.linear_theory.proofs.ShapeRules.{totality-valid}
use Rattle.linear_theory.proofs.ShapeConverse.{rw_eq-accepted, disequality-accepted, totality-accepted}
use Rattle.steps.specs.CheckStep.{check_rule}
use Rattle.elaborate.proofs.RuleLaws.{RuleLaws, infers-nothing, not-refused, OnLiteral, one_meets, one_words}
use Rattle.elaborate.proofs.RuleLaws.{one_valid}

-- a rule on the shape of its literal
abbrev OnShape : (Clause → Result (Unit {0})) → (Term → Type 0) → Type 1
OnShape check shape = OnLiteral (λ l c n. check c) (λ by. shape) (λ by phi. ⊥)

module _ {check : Clause → Result (Unit {0})} {shape : Term → Type 0} where
  -- what has the shape is accepted
  on_shape :
      ((c : Clause) → check c ≡ Ok tt → (phi : Term) × (c ≡ phi ∷ [])) →
      ((Q : Term → Type 0) → Closed Q → (phi : Term) → Q phi → check (phi ∷ []) ≡ Ok tt → shape phi) →
      ((phi : Term) → shape phi → check (phi ∷ []) ≡ Ok tt) →
      ((phi : Term) → shape phi → Alethe.Valid (phi ∷ [])) → OnShape check shape
  on_shape literal form accepted valid =
      record {
        literal = λ l c n u e. literal c e;
        form = λ {Q} closed l phi q n u e. form Q closed phi q e;
        refuses = λ closed by phi q h l n r e. not-refused (sym (accepted phi h) ∙ e);
        valid = λ closed {phi} q h. valid phi h;
      }

rw_eq : OnShape rule.la_rw_eq Alethe.LaRwEq
rw_eq = on_shape rw_eq-literal (λ Q. rw_eq-shape) rw_eq-accepted (λ phi. rw_eq-valid)

disequality : OnShape rule.la_disequality Alethe.LaDisequality
disequality = on_shape disequality-literal (λ Q. disequality-shape) disequality-accepted (λ phi. disequality-valid)

totality : OnShape rule.la_totality Alethe.LaTotality
totality = on_shape totality-literal (λ Q. totality-shape) totality-accepted (λ phi. totality-valid)

module _ (ps : List Clause) (c : Clause) (args : List Term) where
  pub assume-laws : RuleLaws Assume ps c args
  unfolding check_rule
  assume-laws =
      record {
        limits = λ l n. equal _;
        meets = λ k l n. gives tt;
        words = λ k by m w l n r e. not-refused e;
        sound = λ k qs h g m ρ a t. a refl;
        infers = infers-nothing refl refl;
      }

  pub rw_eq-laws : RuleLaws LaRwEq ps c args
  unfolding check_rule
  rw_eq-laws =
      record {
        limits = λ l n. equal _;
        meets = λ k l n. one_meets rw_eq k (λ u. n) l n;
        words = λ k by m w l n r e. ⊎_elim inl absurd (one_words rw_eq k (λ u. n) by m l n r e);
        sound = λ k qs h g m ρ a t. one_valid rw_eq k m ρ;
        infers = infers-nothing refl refl;
      }

  pub disequality-laws : RuleLaws LaDisequality ps c args
  unfolding check_rule
  disequality-laws =
      record {
        limits = λ l n. equal _;
        meets = λ k l n. one_meets disequality k (λ u. n) l n;
        words = λ k by m w l n r e. ⊎_elim inl absurd (one_words disequality k (λ u. n) by m l n r e);
        sound = λ k qs h g m ρ a t. one_valid disequality k m ρ;
        infers = infers-nothing refl refl;
      }

  pub totality-laws : RuleLaws LaTotality ps c args
  unfolding check_rule
  totality-laws =
      record {
        limits = λ l n. equal _;
        meets = λ k l n. one_meets totality k (λ u. n) l n;
        words = λ k by m w l n r e. ⊎_elim inl absurd (one_words totality k (λ u. n) by m l n r e);
        sound = λ k qs h g m ρ a t. one_valid totality k m ρ;
        infers = infers-nothing refl refl;
      }
