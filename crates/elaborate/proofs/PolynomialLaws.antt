-- The laws of `poly_simp` and `poly_simp_rel`.
use Rattle.runs.specs.declared.rule.Rule.TheVariants.{PolySimpRel, PolySimp}
use mathlib.Core.Path.{◌≡◌, refl, sym, ◌∙◌, ap₂, subst}
use mathlib.Core.Bool.{true, or-false}
use mathlib.Core.List.{List, [], ◌∷◌}
use mathlib.Core.Logic.{inl, inr, ⊎_elim}
use lib.Dec.{T}
use Rattle.numbers.proofs.Truths.{T_true}
use Rattle.terms.specs.Term.{Term}
use Rattle.terms.specs.Smtlib.{Assignment, is_true, value, holds}
use Rattle.rules.specs.Shapes.{Clause}
use Rattle.polynomial_rel.specs.PolySimpRel as rel
use Rattle.poly_simp.specs.PolySimp as rules
use Rattle.alethe.specs.Alethe as Alethe
use Rattle.alethe.specs.AletheDifferences.{VanishingMonomial}
use Rattle.rules.proofs.Yields.{known}
use Rattle.rules.proofs.Yields.Yields.{gives}
use Rattle.rules_theory.proofs.Limited.{bind}
use Rattle.rules_theory.proofs.Limited.◌≼◌.{equal}
use Rattle.rules_theory.proofs.Shapes.{one_literal}
use Rattle.polynomial_theory.proofs.LimitedPolynomial.{poly_simp-limited, poly_simp_rel-limited}
use Rattle.polynomial_theory.proofs.PolynomialsEqual.{poly-simp-form, poly-simp-valid}
use Rattle.polynomial_theory.proofs.PolynomialConverse.{poly-simp-refused}
use Rattle.polynomial_theory.proofs.RelationRule.{poly-simp_rel_literals, poly-simp_rel_form}
use Rattle.polynomial_theory.proofs.RelationConverse.{poly-simp_rel_limited}
use Rattle.polynomial_theory.proofs.RelationSound.{poly-simp_rel_sound}
use Rattle.steps.specs.CheckStep.{check_rule}
use Rattle.elaborate.specs.Demands.{Differs}
use Rattle.elaborate.specs.Demands.Differs.{vanishing_monomial}
use Rattle.elaborate.proofs.RuleLaws.{RuleLaws, only-premise, literal-known, premise-known, infers-nothing}
use Rattle.elaborate.proofs.RuleLaws.{refused-before, OnLiteral, one_meets, one_words, one_valid}

simp : OnLiteral rules.poly_simp Alethe.PolySimp VanishingMonomial
unfolding rules.poly_simp
simp =
    record {
      literal = λ l c n m e. one_literal c _ e;
      form = λ closed l phi q n m e. poly-simp-form closed l phi q n m e;
      refuses = λ closed by phi q h l n r e. poly-simp-refused closed by phi q h n l r e;
      valid = λ closed q h. poly-simp-valid closed Alethe.carcara q h;
    }

-- a clause of one literal is true where the literal is
module _ (ρ : Assignment) (phi : Term) where
  of_literal : T (holds ρ (phi ∷ [])) → is_true (value ρ phi) ≡ true
  unfolding holds
  of_literal h = sym (or-false (is_true (value ρ phi))) ∙ T_true _ h

  to_literal : is_true (value ρ phi) ≡ true → T (holds ρ (phi ∷ []))
  unfolding holds
  to_literal e = rw e tt

module _ (ps : List Clause) (c : Clause) (args : List Term) where
  pub poly-simp-laws : RuleLaws PolySimp ps c args
  unfolding check_rule
  poly-simp-laws =
      record {
        limits = λ l n. bind (poly_simp-limited l c n) λ m. equal _;
        meets = λ k l n. one_meets simp k (λ m. m) l n;
        words = λ k by m w l n r e.
            ⊎_elim inl (λ d. inr (subst (Differs by PolySimp) (sym m.alone) (vanishing_monomial m.literal d)))
            (one_words simp k (λ m. m) by m l n r e);
        sound = λ k qs h g m ρ a t. one_valid simp k m ρ;
        infers = infers-nothing refl refl;
      }

  -- the premise is a literal of an earlier step
  pub poly-simp_rel_laws : RuleLaws PolySimpRel ps c args
  unfolding check_rule
  poly-simp_rel_laws =
      record {
        limits = λ l n. bind (poly_simp_rel-limited l c ps) λ u. equal _;
        meets = λ k l n.
            known (rel.poly_simp_rel l c ps) λ u e.
            let x = poly-simp_rel_literals l c ps e in
            gives (
              x.premise,
              (
                x.premises,
                record {
                  literal = x.phi;
                  alone = x.conclusion;
                  says =
                      poly-simp_rel_form k.closed l x.premise x.phi
                      (premise-known k x.premise x.premises) (literal-known k x.phi x.conclusion)
                      (sym (ap₂ (rel.poly_simp_rel l) x.conclusion x.premises) ∙ e);
                },
              ),
            );
        words = λ k by (premise, (named, m)) w l n r e.
            inl
            (poly-simp_rel_limited by premise m.literal m.says l r
            (sym (ap₂ (rel.poly_simp_rel l) m.alone named) ∙ refused-before _ _ e));
        sound = λ k qs h g (premise, (named, m)) ρ a t.
            subst (λ (d : Clause). T (holds ρ d)) (sym m.alone)
            (to_literal ρ m.literal
            (poly-simp_rel_sound Alethe.carcara (k.closed.formed premise (premise-known k premise named)) m.says ρ
            (of_literal ρ premise (only-premise named t))));
        infers = infers-nothing refl refl;
      }
