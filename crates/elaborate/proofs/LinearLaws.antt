-- The laws of `la_tautology`, `la_generic` and `bounded_farkas`. The last has no words in the Alethe specification; it
-- infers numbers, and its elaboration is `la_generic` with these as arguments.
use Rattle.runs.specs.declared.rule.Rule.TheVariants.{BoundedFarkas, LaGeneric, LaTautology}
use mathlib.Core.Path.{◌≡◌, refl, sym, ap, subst}
use mathlib.Core.Bool.{true}
use mathlib.Core.List.{List, [], ◌∷◌}
use mathlib.Core.Logic.{◌⊎◌, inl, inr, ⊎_elim}
use Prim.Native.Nat.{ℕ}
use native.Mathlib.Omega.{arith}
use Rattle.numbers.specs.Rational.{Rational}
use Rattle.numbers.proofs.Truths.{both, T_true}
use Rattle.terms.specs.Term.{Term}
use Rattle.rules.specs.Refusal.{◌>>=◌}
use Rattle.rules.specs.Shapes.{Clause}
use Rattle.linear_arithmetic.specs.LinearArithmetic as rule
use Rattle.linear_theory.specs.Premises.{all_even}
use Rattle.alethe.specs.Alethe as Alethe
use Rattle.alethe.specs.AletheDifferences.{NegativeEquality, QuotientBound}
use Rattle.rules.proofs.Yields.{known, and_then, at_ok}
use Rattle.rules.proofs.Yields.Yields.{gives}
use Rattle.rules_theory.proofs.Limited.{bind}
use Rattle.rules_theory.proofs.Limited.◌≼◌.{equal}
use Rattle.linear_theory.proofs.Arguments.{EachLowest}
use Rattle.linear_theory.proofs.LimitedLinear.{la_tautology-limited, la_generic-limited, la_generic_partial-limited}
use Rattle.linear_theory.proofs.TautologySound.{tautology-literal, tautology-form, tautology-valid}
use Rattle.linear_theory.proofs.TautologyConverse.{tautology-not-refused}
use Rattle.linear_theory.proofs.GenericForm.{la_generic-form, la_generic_partial-form, trace-lowest}
use Rattle.linear_theory.proofs.GenericValid.{bounded_farkas_valid, generic_step-valid}
use Rattle.linear_theory.proofs.GenericConverse.{generic_not-refused}
use Rattle.linear_theory.proofs.Inferred.{la_generic-again}
use Rattle.linear_theory.proofs.InferredNumbers.{AllInRange, partial_in_range}
use Rattle.runs.specs.Rule.{rule_number}
use Rattle.runs.specs.Run.{Step, Every, end, also}
use Rattle.steps.specs.CheckStep.{accepted, traced, check_rule}
use Rattle.elaborate.specs.Statements.{MeaningPremises}
use Rattle.elaborate.specs.Demands.{Differs}
use Rattle.elaborate.specs.Demands.Differs.{negative_equality, quotient_bound}
use Rattle.out_areas.proofs.RealRecord.{Storable}
use Rattle.elaborate.proofs.RuleLaws.{RuleLaws, Inference, infers-nothing, refused-before, OnLiteral, one_meets}
use Rattle.elaborate.proofs.RuleLaws.{one_words, one_valid}

tautology : OnLiteral rule.la_tautology Alethe.LaTautology (λ by phi. NegativeEquality by phi ⊎ QuotientBound phi)
tautology =
    record {
      literal = tautology-literal;
      form = λ closed l phi q n m e. tautology-form closed l phi q n m e;
      refuses = λ closed by phi q h l n r e. tautology-not-refused closed by phi q h l n r e;
      valid = λ closed q h. tautology-valid closed Alethe.carcara q h;
    }

tautology-differs :
    (by : Alethe.Departures) (c : Clause) (phi : Term) → c ≡ phi ∷ [] → NegativeEquality by phi ⊎ QuotientBound phi →
    Differs by LaTautology c
tautology-differs by c phi e d =
    subst (Differs by LaTautology) (sym e) (⊎_elim (negative_equality phi) (quotient_bound phi) d)

even : (s : Step) {inferred : List Rational} → MeaningPremises s inferred → all_even s.clause ≡ true
even s g = (both (all_even s.clause) (all_even s.args) (T_true _ g.even_divs)).0

storable : (qs : List Rational) → EachLowest qs → AllInRange qs → Every Storable qs
storable [] l r = end
storable (q ∷ qs) (l, ls) (r, rs) =
    also
    record {
      lowest = l;
      proper = record { numerator = r.numerator; positive = l.positive; denominator = r.denominator };
    }
    (storable qs ls rs)

module _ (ps : List Clause) (c : Clause) (args : List Term) where
  pub tautology-laws : RuleLaws LaTautology ps c args
  unfolding check_rule
  tautology-laws =
      record {
        limits = λ l n. bind (la_tautology-limited l c n) λ m. equal _;
        meets = λ k l n. one_meets tautology k (λ m. m) l n;
        words = λ k by m w l n r e.
            ⊎_elim inl (λ d. inr (tautology-differs by c m.literal m.alone d))
            (one_words tautology k (λ m. m) by m l n r e);
        sound = λ k qs h g m ρ a t. one_valid tautology k m ρ;
        infers = infers-nothing refl refl;
      }

  pub generic_laws : RuleLaws LaGeneric ps c args
  unfolding check_rule
  generic_laws =
      record {
        limits = λ l n. bind (la_generic-limited l c args n) λ p. equal _;
        meets = λ k l n.
            known (rule.la_generic l c args n) λ p e.
            let g = la_generic-form k.closed c k.clause l args k.given n p e in
            gives (g.numbers, (g.arguments, g.form));
        words = λ k by (qs, (h, m)) w l n r e.
            inl
            (generic_not-refused k.closed by c k.clause args qs k.given h m (w.whole refl)
            (w.nonzero refl qs h) l n r (refused-before _ _ e));
        sound = λ k inferred h g (qs, (x, y)) ρ a t.
            generic_step-valid k.closed c k.clause (even _ g) args k.given inferred
            (T_true _ (g.whole tt)) qs x y ρ;
        infers = infers-nothing refl refl;
      }

  farkas_inference : Inference BoundedFarkas ps c args
  unfolding check_rule ◌>>=◌
  farkas_inference =
      record {
        not_farkas = refl;
        stays = refl;
        assumed = λ e. let z : ◌≡◌ {A = ℕ} 5 0 = ap rule_number e in absurd (omega arith);
        stored = λ k limit n.
            known (rule.la_generic_partial _ c args n) λ p e.
            gives
            (storable p.trace (trace-lowest k.closed c k.clause _ args k.given n p e)
            (at_ok (partial_in_range limit c args n) e));
        again = λ l n h.
            and_then (la_generic-again l c args n (h refl)) λ p again.
            gives {a = accepted p.visits p.trace} λ ts r. ap traced (again ts r);
      }

  pub farkas_laws : RuleLaws BoundedFarkas ps c args
  unfolding check_rule
  farkas_laws =
      record {
        limits = λ l n. bind (la_generic_partial-limited l c args n) λ p. equal _;
        meets = λ k l n.
            known (rule.la_generic_partial l c args n) λ p e.
            gives (la_generic_partial-form k.closed c k.clause l args k.given n p e);
        words = λ k by m w l n r e. absurd (w.specified refl);
        sound = λ k inferred h g m ρ a t.
            bounded_farkas_valid k.closed c k.clause (even _ g) args k.given inferred h
            (T_true _ (g.whole tt)) m ρ;
        infers = farkas_inference;
      }
