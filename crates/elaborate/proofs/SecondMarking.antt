-- Marking the elaborated steps accepts them all, infers nothing and makes the same visits (`marked-again`): a step that
-- is elaborated is accepted again, as its rule's laws say. Of other steps a step sees only the clauses of earlier ones,
-- and elaboration keeps every clause (`clauses-kept`).
use Rattle.runs.specs.declared.verdict.Verdict.TheVariants.{AllAccepted}
use mathlib.Core.Path.{◌≡◌, refl, ◌∙◌, ap, ap₂}
use mathlib.Core.List.{List, [], ◌∷◌}
use Prim.Native.Nat.{ℕ, zero, suc, ◌+◌, ◌<◌, ◌≤◌}
use native.Mathlib.Omega.{arith}
use lib.ListN.{length, get_or}
use Rattle.numbers.specs.Rational.{Rational}
use Rattle.numbers.specs.Bytes.{Bytes}
use Rattle.std.specs.Prelude.{Ok}
use Rattle.rules.specs.Limits.{Limits}
use Rattle.rules.proofs.Yields.{at_ok}
use Rattle.linear_theory.proofs.Inferred.{Reals}
use Rattle.runs.specs.Run.{Step, Every, end, also}
use Rattle.steps.specs.CheckStep.{Accepted, accepted, clauses_of, check_step}
use Rattle.marking.specs.Check.{Marking, marking}
use Rattle.marking.proofs.Turns.{before, mark_from, next, Marks, ends, stops, goes_on}
use Rattle.elaborate.specs.Statements.{NoSurplus}
use Rattle.elaborate.proofs.EachRule.{laws}
use Rattle.elaborate.proofs.RunTerms.{Ordered, one, no_such_step}
use Rattle.elaborate.proofs.Unrefused.{mark_steps, steps-marked}
use Rattle.elaborate.proofs.WrittenSteps.{reals, elaborated_step, elaborated_steps}

-- steps that infer nothing
abbrev pub untraced : List Step → List (Step × List Rational)
untraced [] = []
untraced (s ∷ ss) = (s, []) ∷ untraced ss

-- step for step, es have the clauses of ss
abbrev Keeps : List Step → List Step → Type 0
Keeps ss es = (p : ℕ) → p < length es → (get_or es p no_such_step).clause ≡ (get_or ss p no_such_step).clause

keeps-next : (s e : Step) (ss es : List Step) → e.clause ≡ s.clause → Keeps ss es → Keeps (s ∷ ss) (e ∷ es)
keeps-next s e ss es c k zero h = c
keeps-next s e ss es c k (suc p) h = k p (omega (arith, h))

-- t has the constants that the book lacks
module _ (book : Bytes) (t : List Rational) where
  reals-are : (qs : List Rational) → Reals (reals book t qs) qs
  reals-are [] = Reals.end
  reals-are (q ∷ qs) = Reals.also _ (reals-are qs)

  -- the accepted steps, elaborated
  abbrev E : Marking → List Step
  E m = elaborated_steps book t m.steps

  clauses-kept :
      {l : Limits} {run ss : List Step} {n : ℕ} {m : Marking} → Marks l run ss n m → Keeps ss (E m)
  unfolding elaborated_steps
  clauses-kept ends = λ p h. absurd (omega (arith, h))
  clauses-kept (stops y) = λ p h. absurd (omega (arith, h))
  clauses-kept (goes_on {s = s} {ss = ss} {m = m} y ms) = keeps-next s _ ss (E m) refl (clauses-kept ms)

  module _ (l : Limits) (run es : List Step) (kept : Keeps run es) where
    step-again :
        (s : Step) (n : ℕ) (a : Accepted) → check_step l run s n ≡ Ok a → NoSurplus s →
        clauses_of es s.premises ≡ clauses_of run s.premises →
        check_step l es (elaborated_step book t s a.inferred) n ≡ Ok (accepted a.visits [])
    unfolding check_step
    step-again s n a e g named =
        rw named (at_ok ((laws s.rule _ s.clause s.args).infers.again l n g) e _ (reals-are a.inferred))

    -- a step that names earlier steps alone names the same clauses
    names_same :
        (k : ℕ) → k ≤ length es → (ps : List ℕ) → Every (λ p. p < k) ps → clauses_of es ps ≡ clauses_of run ps
    unfolding clauses_of
    names_same k h [] end = refl
    names_same k h (p ∷ ps) (also g gs) = ap₂ ◌∷◌ (kept p (omega (arith, g, h))) (names_same k h ps gs)

    -- the steps accepted in m, from step k on
    steps-again :
        {ss : List Step} {n : ℕ} {m : Marking} → Marks l run ss n m → (k : ℕ) → Ordered k ss →
        k + length (E m) ≤ length es → Every (λ x. NoSurplus x.0) m.steps →
        mark_from l es (E m) n ≡ marking AllAccepted (untraced (E m)) m.visits
    unfolding mark_from elaborated_steps
    steps-again ends k o h g = refl
    steps-again (stops y) k o h g = refl
    steps-again (goes_on {s = s} {n = n} {a = a} {m = m} y ms) k (one ps o) h (also g gs) =
        let e = elaborated_step book t s a.inferred in
        ap (next l es e (E m) n) (step-again s n a y g (names_same k (omega (arith, h)) s.premises ps))
        ∙ ap (before (e, [])) (steps-again ms (suc k) o (omega (arith, h)) gs)

  -- ---- a run

  pub marked-again :
      (l : Limits) (run : List Step) → Ordered 0 run → Every (λ x. NoSurplus x.0) (mark_steps l run).steps →
      mark_steps l (E (mark_steps l run)) ≡
      marking AllAccepted (untraced (E (mark_steps l run))) (mark_steps l run).visits
  marked-again l run o g =
      let ms = steps-marked l run in
      steps-again l run (E (mark_steps l run)) (clauses-kept ms) ms 0 o (omega arith) g
