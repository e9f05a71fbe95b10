-- The limits theorem for runs, the specification's sentence 'on every book and run that refusals 1 to 12
-- don't stop, each verdict, inferred coefficient and elaborated step equals the Rust's'. Under any limits a
-- step answers as in the Rust, or ends the marking by a limit; any other marking is the Rust's (`mark-limits`),
-- and so is its elaboration. Then the same of the entry points, which is demand 2's first half, with the trace
-- on (`the_rusts_answers`) and off (`the_rusts_marking`).
use Rattle.runs.specs.declared.verdict.Verdict.{Verdict}
use Rattle.runs.specs.declared.verdict.Verdict.TheVariants.{Stopped, Lent, AllAccepted}
use mathlib.Core.Path.{◌≡◌, refl, sym, ap, ◌∙◌}
use mathlib.Core.Bool.{Bool, true, false, not}
use mathlib.Core.List.{List, [], ◌∷◌}
use Prim.Native.Nat.{ℕ}
use lib.Dec.{T}
use Rattle.numbers.specs.Rational.{Rational}
use Rattle.numbers.specs.Bytes.{Bytes}
use Rattle.rules.specs.Refusal.{Result}
use Rattle.rules.specs.declared.refusal.Refusal.{Refusal}
use Rattle.std.specs.Prelude.{Ok, Err}
use Rattle.rules.specs.Limits.{Limits, the_rust, limited}
use Rattle.rules_theory.proofs.Limited.{IsLimit, ◌≼◌}
use Rattle.rules_theory.proofs.Limited.IsLimit.{ten, eleven, twelve}
use Rattle.rules_theory.proofs.Limited.◌≼◌.{equal, stopped}
use Rattle.runs.specs.Verdict.{is_of_limit, is_lent_or_limit}
use Rattle.runs.specs.Run.{Step}
use Rattle.steps.specs.CheckStep.{Accepted, check_step}
use Rattle.marking.specs.Check.{Marking, mark, lent_ok, check}
use Rattle.marking.proofs.Turns.{before, mark_from, next}
use Rattle.elaborate.specs.Elaborate.{Answer, add_steps, elaborated, elaborate_under}
use Rattle.out_areas.specs.Farkas.{written, fits}
use Rattle.elaborate.specs.Demands.{TheRustsAnswers, TheRustsMarking}
use Rattle.elaborate.proofs.EachRule.{laws}
use Rattle.elaborate.proofs.Unrefused.{Reads, reads, mark_is, elaborate_is}
use Rattle.elaborate.proofs.Unrefused.Reads.{not-read, is_read}

-- ---- one step

check_step-limited : (l : Limits) (run : List Step) (s : Step) (n : ℕ) → check_step l run s n ≼ check_step the_rust run s n
unfolding check_step
check_step-limited l run s n = (laws s.rule _ s.clause s.args).limits l n

-- ---- a marking: the same, or ended by a limit

data Limited (m m' : Marking) : Type 0 where
  agrees : m ≡ m' → Limited m m'
  ended : T (is_of_limit m.verdict) → Limited m m'

before-limited : {m m' : Marking} (s : Step × List Rational) → Limited m m' → Limited (before s m) (before s m')
before-limited s (agrees e) = agrees (ap (before s) e)
before-limited s (ended h) = ended h

of_limit : {r : Refusal} → IsLimit r → T (is_of_limit (Stopped r))
of_limit ten = tt
of_limit eleven = tt
of_limit twelve = tt

module _ (l : Limits) where
  steps-limited : (run ss : List Step) (n : ℕ) → Limited (mark_from l run ss n) (mark_from the_rust run ss n)
  unfolding mark_from
  steps-limited run [] n = agrees refl
  steps-limited run (s ∷ ss) n = go (check_step-limited l run s n) (steps-limited run ss)
    where
      go :
          {a b : Result Accepted} → a ≼ b → ((k : ℕ) → Limited (mark_from l run ss k) (mark_from the_rust run ss k)) →
          Limited (next l run s ss n a) (next the_rust run s ss n b)
      go (equal (Ok c)) h = before-limited (s, c.inferred) (h c.visits)
      go (equal (Err r)) h = agrees refl
      go (stopped p) h = ended (of_limit p)

  mark-limited : (book run : Bytes) → Limited (mark l book run) (mark the_rust book run)
  mark-limited book run = go (reads book run)
    where
      go : Reads book run → Limited (mark l book run) (mark the_rust book run)
      go (not-read r e) = agrees (e l ∙ sym (e the_rust))
      go (is_read x) = rw (mark_is x l, mark_is x the_rust) (steps-limited x.steps x.steps 0)

-- ---- the theorem

-- no refusal from 1 to 12
abbrev Unstopped : Verdict → Type 0
Unstopped v = T (not (is_lent_or_limit v))

limit-stops : {X : Type 0} (v : Verdict) → T (is_of_limit v) → Unstopped v → X
limit-stops AllAccepted h g = absurd h
limit-stops (Lent r) h g = absurd h
limit-stops (Stopped r) h g = both_ways (is_of_limit (Stopped r)) h g
  where
    both_ways : {X : Type 0} (b : Bool) → T b → T (not b) → X
    both_ways true h g = absurd g
    both_ways false h g = absurd h

-- the verdict, the accepted steps with the numbers that they inferred, and the visits
mark-limits :
    (l : Limits) (book run : Bytes) → Unstopped (mark l book run).verdict → mark l book run ≡ mark the_rust book run
mark-limits l book run h = go (mark-limited l book run) h
  where
    go : {m m' : Marking} → Limited m m' → Unstopped m.verdict → m ≡ m'
    go (agrees e) h = e
    go {m = m} (ended g) h = limit-stops m.verdict g h

-- ---- the entry points: demand 2's first half

-- by a test, a refusal from 1 to 12, or what is answered without it
unless_refused :
    {X : Type 0} (verdict : X → Verdict) (Q : X → Type 0) (b : Bool) (x y : X) → is_lent_or_limit (verdict y) ≡ true →
    (Unstopped (verdict x) → Q x) → Unstopped (verdict (elim b [ true ↦ x | false ↦ y ])) →
    Q (elim b [ true ↦ x | false ↦ y ])
unless_refused verdict Q true x y e q h = q h
unless_refused verdict Q false x y e q h = absurd (rw e at h)

-- an elaboration that refusal 8 does not replace has its marking's verdict
marking_unstopped :
    (book : Bytes) (out_run out_tail : ℕ) (m : Marking) → Unstopped (elaborated book out_run out_tail m).verdict →
    Unstopped m.verdict
unfolding elaborated
marking_unstopped book out_run out_tail m =
    unless_refused (λ (a : Answer). a.verdict) (λ a. Unstopped m.verdict)
    (fits book out_run out_tail (add_steps book (written [] []) m.steps)) _ _ refl (λ h. h)

pub the_rusts_marking : TheRustsMarking
unfolding check
the_rusts_marking book run limit work =
    unless_refused (λ m. m.verdict) (λ m. m ≡ mark the_rust book run) (lent_ok work limit)
    (mark (limited limit) book run) _ refl (mark-limits (limited limit) book run)

pub the_rusts_answers : TheRustsAnswers
unfolding elaborate_under
the_rusts_answers book run limit work out_run out_tail h =
    let is = elaborate_is book run limit work out_run out_tail in
    let g = marking_unstopped book out_run out_tail (check book run limit work) (rw is at h) in
    is ∙ ap (elaborated book out_run out_tail) (the_rusts_marking book run limit work g)
