-- A step that meets its rule, by the Alethe specification's words or whatever departures are granted, is not refused
-- 20 to 42, but for the differences that have a name (`words-accepted`), since its rule's laws say so. Where a marking
-- stops, the step there is the one that was refused (`stopped`).
use Rattle.runs.specs.declared.verdict.Verdict.{Verdict}
use Rattle.runs.specs.declared.verdict.Verdict.TheVariants.{Stopped, Lent, AllAccepted}
use mathlib.Core.Path.{◌≡◌, refl, sym, subst}
use mathlib.Core.List.{List, []}
use mathlib.Core.Logic.{⊎_elim}
use Prim.Native.Nat.{ℕ}
use lib.Dec.{T}
use lib.ListN.{length, get_or}
use Rattle.numbers.specs.Bytes.{Bytes}
use Rattle.rules.specs.declared.refusal.Refusal.{Refusal}
use Rattle.std.specs.Prelude.{Err}
use Rattle.rules.specs.Limits.{Limits, limited}
use Rattle.alethe.specs.Alethe.{Departures}
use Rattle.rules_theory.proofs.Limited.{IsLimit, ten, eleven, twelve}
use Rattle.runs.specs.Verdict.{is_of_rule}
use Rattle.runs.specs.Run.{Step, steps_of}
use Rattle.steps.specs.CheckStep.{check_step}
use Rattle.marking.specs.Check.{Marking, mark}
use Rattle.marking.proofs.Turns.{Marks, ends, stops, goes_on}
use Rattle.elaborate.specs.Demands.{Meets, Differs, Comparable, WordsAccepted}
use Rattle.elaborate.proofs.EachRule.{laws}
use Rattle.out_areas.proofs.Everywhere.{every_get_d}
use Rattle.elaborate.proofs.RunTerms.{no_such_step, none_of}
use Rattle.elaborate.proofs.Unrefused.{Free, Ran, mark_steps, steps-marked, mark_is, free-ran, listed}
use Rattle.elaborate.proofs.Unrefused.{ran_of_book, known_in}

-- ---- where a marking stops

limit-outside : {r : Refusal} → IsLimit r → T (is_of_rule (Stopped r)) → ⊥
limit-outside ten t = t
limit-outside eleven t = t
limit-outside twelve t = t

module _ (l : Limits) (run : List Step) where
  -- the step there is refused with the verdict
  record StopsAt (s : Step) (v : Verdict) : Type 0 where
    visits : ℕ
    refusal : Refusal
    stops : check_step l run s visits ≡ Err refusal
    verdict : v ≡ Stopped refusal

  stopped :
      {ss : List Step} {n : ℕ} {m : Marking} → Marks l run ss n m → T (is_of_rule m.verdict) →
      StopsAt (get_or ss (length m.steps) no_such_step) m.verdict
  stopped ends t = absurd t
  stopped (stops {n = n} {r = r} e) t = record { visits = n; refusal = r; stops = e; verdict = refl }
  stopped (goes_on e ms) t = stopped ms t

-- ---- a run

module _ (by : Departures) where
  -- of the step at which a marking of these steps stops
  abbrev Compared : List Step → Marking → Type 0
  Compared ss m =
      let s : Step = get_or ss (length m.steps) no_such_step in
      T (is_of_rule m.verdict) → Meets by ss s [] → Comparable by s.rule s.clause s.args →
      Differs by s.rule s.clause

  steps-compared : {book run : Bytes} (l : Limits) (x : Ran book run) → Compared x.steps (mark_steps l x.steps)
  unfolding check_step
  steps-compared l x t m c =
      let ss = x.steps in
      let y = stopped l ss (steps-marked l ss) t in
      let s = get_or ss (length (mark_steps l ss).steps) no_such_step in
      let known = known_in x s (every_get_d ss no_such_step none_of (ran_of_book x) _) in
      ⊎_elim (λ i. absurd (limit-outside i (rw y.verdict at t))) (λ d. d)
      ((laws s.rule _ s.clause s.args).words known by m c l y.visits y.refusal y.stops)

rule-free : (v : Verdict) → T (is_of_rule v) → Free v
rule-free (Stopped r) t = tt
rule-free (Lent r) t = absurd t
rule-free AllAccepted t = absurd t

pub words-accepted : WordsAccepted
words-accepted by book run limit t =
    let x : Ran book run = free-ran (limited limit) book run (rule-free (mark (limited limit) book run).verdict t) in
    subst (Compared by (steps_of book run)) (sym (mark_is x (limited limit)))
    (subst (λ (ss : List Step). Compared by ss (mark_steps (limited limit) x.steps)) (sym (listed x))
    (steps-compared by (limited limit) x))
    t
