-- One step of a run, checked: the rule by the byte of its S record, whose literals, arguments and premises are parts of
-- the run.
--     premises-are       what the rule `poly_simp_rel` looks up, where the step names one premise
--     visits-traced, judged       the verdict by the rule
--     judged-relation       that of `poly_simp_rel`
use Rattle.runs.specs.declared.rule.Rule.{Rule}
use Rattle.runs.specs.declared.rule.Rule.TheVariants.{PolySimpRel, PolySimp, BoundedFarkas, LaGeneric, LaTautology}
use Rattle.runs.specs.declared.rule.Rule.TheVariants.{LaTotality, LaDisequality, LaRwEq, Assume}
use mathlib.Core.Path.{◌≡◌, refl, sym, ap, ◌∙◌}
use mathlib.Core.List.{List, [], ◌∷◌}
use Prim.Native.Nat.{ℕ, suc, ◌/◌, ◌<◌}
use native.Mathlib.Omega.{arith}
use lib.ListN.{length, get_or}
use Rattle.numbers.specs.Bytes.{Bytes, le}
use Rattle.terms.specs.Term.{Term}
use Rattle.rules.specs.Refusal.{Result, ◌>>=◌}
use Rattle.std.specs.Prelude.{Ok, Err}
use Rattle.rules.specs.Limits.{Limits, limited}
use Rattle.linear_shapes.specs.LinearShapes.{la_rw_eq, la_disequality, la_totality}
use Rattle.process_disequality.specs.ProcessDisequality.{Progress}
use Rattle.linear_arithmetic.specs.LinearArithmetic.{la_tautology, la_generic, la_generic_partial}
use Rattle.rules.specs.Shapes.{Clause}
use Rattle.linear_arithmetic.specs.Memory.LinearSteps.{visits_of}
use Rattle.rules.specs.Memory.Parts.{numbers_in, terms_in, after}
use Rattle.polynomial_rel.specs.PolySimpRel.{poly_simp_rel}
use Rattle.poly_simp.specs.PolySimp.{poly_simp}
use Rattle.polynomial_rel.specs.Memory.PolynomialRel.{PremisesAre}
use Rattle.rules.proofs.RunParts.{length-numbers_in, number_at_lem, below_at}
use Rattle.runs.specs.Run.{Step, step, steps_of}
use Rattle.steps.specs.CheckStep.{still, moved, traced, clauses_of, check_rule, check_step}
use Rattle.steps.specs.Memory.StepAnswers.{visits_after}
use Rattle.runs.specs.Memory.StepParts.{premises_in, clause_in, args_in, rule_in, step_in, step_from, StandsIn}
use Rattle.runs.proofs.Standing.{stands-steps, stands-premises, stands-named}

-- ---- the premises of a step

length-clauses_of : (ss : List Step) (ps : List ℕ) → length (clauses_of ss ps) ≡ length ps
unfolding clauses_of
length-clauses_of ss [] = refl
length-clauses_of ss (p ∷ ps) = ap suc (length-clauses_of ss ps)

clauses-alone :
    (ss : List Step) (ps : List ℕ) (p : ℕ) → length ps ≡ 1 → get_or ps 0 0 ≡ p →
    clauses_of ss ps ≡ (get_or ss p (step Assume [] [] [])).clause ∷ []
unfolding clauses_of
clauses-alone ss [] p one e = absurd (omega arith)
clauses-alone ss (x ∷ []) p one e = ap (λ q. (get_or ss q (step Assume [] [] [])).clause ∷ []) e
clauses-alone ss (x ∷ y ∷ ps) p one e = absurd (omega arith)

module _ {b run part : Bytes} (s : StandsIn b run part) where
  -- the number in the first P record
  abbrev first : ℕ
  first = le 2 (premises_in part) 2

  premise-alone :
      length (premises_in part) / 4 ≡ 1 →
      clauses_of s.steps (numbers_in (premises_in part)) ≡ terms_in b (clause_in (step_from first run)) ∷ []
  unfolding step_in
  premise-alone one =
      let ps = numbers_in (premises_in part) in
      let many = length-numbers_in (premises_in part) in
      let is = number_at_lem (premises_in part) 0 0 (omega (arith, one)) in
      let below = below_at s.number ps 0 0 (stands-premises s) (omega (arith, many, one)) in
      let there : first < length s.steps = omega (arith, is, below, s.inside) in
      clauses-alone s.steps ps first (many ∙ one) is ∙ ap (λ x. x.clause ∷ []) (stands-named s first there)

  pub premises-are :
      PremisesAre b (length (premises_in part) / 4) (clause_in (step_from first run))
      (clauses_of (steps_of b run) (numbers_in (premises_in part)))
  premises-are =
      rw (stands-steps s) (length-clauses_of s.steps _ ∙ length-numbers_in (premises_in part), premise-alone)

-- ---- the verdict by the rule

-- what each rule's function answers
abbrev pub answered : Rule → Limits → List Clause → Clause → List Term → ℕ → Result ℕ
answered Assume l premises c args n = Ok n
answered LaRwEq l premises c args n = after n (la_rw_eq c)
answered LaDisequality l premises c args n = after n (la_disequality c)
answered LaTotality l premises c args n = after n (la_totality c)
answered LaTautology l premises c args n = la_tautology l c n
answered LaGeneric l premises c args n = visits_of (la_generic l c args n)
answered BoundedFarkas l premises c args n = visits_of (la_generic_partial l c args n)
answered PolySimp l premises c args n = poly_simp l c n
answered PolySimpRel l premises c args n = after n (poly_simp_rel l c premises)

visits-still : (n : ℕ) (r : Result (Unit {0})) → visits_after (still n r) ≡ after n r
unfolding ◌>>=◌
visits-still n (Ok u) = refl
visits-still n (Err x) = refl

visits-moved : (r : Result ℕ) → visits_after (moved r) ≡ r
unfolding ◌>>=◌
visits-moved (Ok n) = refl
visits-moved (Err x) = refl

pub visits-traced : (r : Result Progress) → visits_after (traced r) ≡ visits_of r
unfolding ◌>>=◌
visits-traced (Ok p) = refl
visits-traced (Err x) = refl

answered_is :
    (k : Rule) (l : Limits) (premises : List Clause) (c : Clause) (args : List Term) (n : ℕ) →
    answered k l premises c args n ≡ visits_after (check_rule k l premises c args n)
unfolding check_rule ◌>>=◌
answered_is Assume l premises c args n = refl
answered_is LaRwEq l premises c args n = sym (visits-still n (la_rw_eq c))
answered_is LaDisequality l premises c args n = sym (visits-still n (la_disequality c))
answered_is LaTotality l premises c args n = sym (visits-still n (la_totality c))
answered_is LaTautology l premises c args n = sym (visits-moved (la_tautology l c n))
answered_is LaGeneric l premises c args n = sym (visits-traced (la_generic l c args n))
answered_is BoundedFarkas l premises c args n = sym (visits-traced (la_generic_partial l c args n))
answered_is PolySimp l premises c args n = sym (visits-moved (poly_simp l c n))
answered_is PolySimpRel l premises c args n = sym (visits-still n (poly_simp_rel l c premises))

-- the rule, the literals and the arguments that were found
pub judged :
    (k : Rule) (l : Limits) (ss : List Step) (b part : Bytes) (n : ℕ) {cs as' : Bytes} → k ≡ rule_in part →
    cs ≡ clause_in part → as' ≡ args_in part → {r : Result ℕ} →
    r ≡ answered k l (clauses_of ss (numbers_in (premises_in part))) (terms_in b cs) (terms_in b as') n →
    r ≡ visits_after (check_step l ss (step_in b part) n)
unfolding step_in check_step
judged k l ss b part n is clause args e =
    rw (← is, ← clause, ← args) (e ∙ answered_is k l _ _ _ n)

-- ---- poly_simp_rel

module _ {b run part : Bytes} (s : StandsIn b run part) {ps named ds : Bytes} {k : ℕ} where
  -- the P records, the number in the first of them, the run from that step on, and its literals
  named-premises :
      ps ≡ premises_in part → k ≡ le 2 ps 2 → named ≡ step_from k run → ds ≡ clause_in named →
      PremisesAre b (length ps / 4) ds (clauses_of (steps_of b run) (numbers_in (premises_in part)))
  named-premises premises number from theirs = rw (premises, theirs, from, number, premises) (premises-are s)

  pub judged-relation :
      {cs : Bytes} → (step_in b part).rule ≡ PolySimpRel → ps ≡ premises_in part → k ≡ le 2 ps 2 →
      named ≡ step_from k run → cs ≡ clause_in part → ds ≡ clause_in named → (n : ℕ) {r : Result ℕ} →
      ((l : ℕ) (others : List Clause) → PremisesAre b (length ps / 4) ds others →
      r ≡ after n (poly_simp_rel (limited l) (terms_in b cs) others)) →
      (l : ℕ) → r ≡ visits_after (check_step (limited l) (steps_of b run) (step_in b part) n)
  unfolding step_in
  judged-relation is premises number from clause theirs n answer l =
      let there = named-premises premises number from theirs in
      judged PolySimpRel (limited l) (steps_of b run) b part n (sym is) clause refl (answer l _ there)
