-- Turns of a marking by value (`state_of`), as `turn` and `check_steps` make them. A loop that takes turns of its own,
-- with more beside the state, uses the same laws.
--     turn-stands, turn-room, turn-within       a state by value: what a turn asks
--     turn-same, turn-over, turn-answered       the next state
--     turn-stays, turn-done, turn-refused, turn-accepted       that state by value
--     OnTheWay, way-begins, way-goes, way-less, way-marking, way-ends       a loop of turns
use Rattle.runs.specs.declared.verdict.Verdict.{Verdict}
use Rattle.runs.specs.declared.verdict.Verdict.TheVariants.{Stopped, AllAccepted}
use mathlib.Core.Path.{◌≡◌, refl, sym, ap, ◌∙◌, subst}
use mathlib.Core.Bool.{true, false}
use mathlib.Core.List.{List, [], ◌∷◌, ◌++◌}
use Rattle.std.specs.Prelude.{Option, Some, None}
use Prim.Native.Nat.{ℕ, zero, suc, ◌+◌, ◌-◌, ◌≤◌, ◌<◌}
use native.Mathlib.Numerals.{add-one}
use native.Mathlib.Omega.{arith}
use lib.ListN.{length, drop, length-append, length-drop}
use Rattle.numbers.specs.Bytes.{Bytes}
use Rattle.numbers.proofs.Truths.{never}
use Rattle.rules.specs.Refusal.{Result}
use Rattle.std.specs.Prelude.{Ok, Err, is_some}
use Rattle.rules.specs.Limits.{limited}
use Rattle.rules.specs.declared.refusal.Refusal.{Refusal}
use Rattle.rules.proofs.RunParts.{drop_to_end}
use Rattle.runs.specs.Run.{Step, read_run, steps_of}
use Rattle.steps.specs.CheckStep.{Accepted, counter, check_step}
use Rattle.marking.specs.Check.{State, state, ended, answered, onward, turn, turns, marking_of, check_steps}
use Rattle.runs.specs.Memory.StepParts.{step_in, bytes_in, StandsIn}
use Rattle.marking.specs.Answers.{marked_of}
use Rattle.marking.specs.Memory.Lent.{place_of, state_of, Reached, Underway}
use Rattle.marking.specs.declared.check.State as by_value
use Rattle.marking.specs.declared.check.Marked.{Marked}
use Rattle.runs.proofs.RunRecords.{part_from, Begins, begins_first, begins-next, passed-next}
use Rattle.runs.proofs.Standing.{stands, step_now, no_more}
use Rattle.marking.proofs.TurnOutcomes.{turn-reached, turns_by, turns_left, outcome, turn_by, turn-ended, turns-ended}
use Rattle.marking.proofs.TurnOutcomes.{turn-less, turn-outcome}

-- ---- by value

begins-place : {run : Bytes} {at n : ℕ} → Begins run at n → place_of run n ≡ at
begins-place {run} {at} {n} begins =
    omega (arith, ap length begins.from, length-drop at run, begins.within)

place-begins : (run : Bytes) (n : ℕ) → Begins run (place_of run n) n
place-begins run zero = rw (begins-place (begins_first run)) (begins_first run)
place-begins run (suc n) =
    let next = begins-next (place-begins run n) refl in
    let here = rw add-one at next in
    rw (begins-place here) here

-- as long as a step is there, none before it is empty
place-few : (run : Bytes) (n : ℕ) → place_of run n < length run → n ≤ place_of run n
place-few run zero h = omega arith
place-few run (suc n) h =
    let begins = place-begins run n in
    let place = rw add-one at (begins-place (begins-next begins refl)) in
    let before : place_of run n < length run = omega (arith, h, place) in
    let passed = passed-next (record { begins = begins; few = place-few run n before }) before refl in
    omega (arith, passed.few, place)

-- what a test of the verdict says
pub ended_by : {X : Type 0} (o : Option X) → is_some o ≡ true → (x : X) × (o ≡ Some x)
ended_by (Some x) e = (x, refl)
ended_by None e = never e

under_by : {X : Type 0} (o : Option X) → is_some o ≡ false → o ≡ None
under_by (Some x) e = never (sym e)
under_by None e = refl

-- s is the state σ of a run that was read
pub record Shows (b run : Bytes) (s : by_value.State) (σ : State) : Type 0 where
  pub read : read_run b run ≡ Ok (steps_of b run)
  pub reached : Reached (steps_of b run) s.counter.limit σ
  pub is : s ≡ state_of run s.counter.limit σ

-- the next state
abbrev pub next_of : Bytes → Bytes → by_value.State → State → by_value.State
next_of b run s σ = state_of run s.counter.limit (turn (steps_of b run) σ)

-- the answer to the step at its place
abbrev pub answer_to : Bytes → Bytes → by_value.State → Result Accepted
answer_to b run s =
    check_step (limited s.counter.limit) (steps_of b run) (step_in b (part_from run s.at)) s.counter.visits

-- the marking is ended by a verdict; or it is at another byte, with k steps and v visits
abbrev pub ended_as : by_value.State → Verdict → by_value.State
ended_as s v = record s { verdict = Some v }

abbrev pub placed : ℕ → ℕ → ℕ → ℕ → by_value.State
placed at k v limit =
    record { at = at; steps = k; counter = record { visits = v; limit = limit }; verdict = None }

module _ {b run : Bytes} {s : by_value.State} {σ : State} (shows : Shows b run s σ) where
  begins : Begins run s.at (length σ.steps)
  begins = rw (ap (λ x. x.at) shows.is) (place-begins run (length σ.steps))

  pub verdict-same : s.verdict ≡ σ.verdict
  verdict-same = ap (λ x. x.verdict) shows.is

  pub turn-same : is_some s.verdict ≡ true → turn (steps_of b run) σ ≡ σ
  turn-same e = turn-ended (steps_of b run) σ (sym verdict-same ∙ (ended_by s.verdict e).1)

  pub turn-stays : is_some s.verdict ≡ true → s ≡ next_of b run s σ
  turn-stays e = shows.is ∙ ap (state_of run s.counter.limit) (sym (turn-same e))

  module _ (h : s.at < length run) where
    pub turn-stands : StandsIn b run (part_from run s.at)
    turn-stands = rw (drop_to_end run s.at) (stands b run _ shows.read begins h)

    pub turn-room : s.steps < length run
    turn-room =
        let place = ap (λ x. x.at) shows.is in
        let steps = ap (λ x. x.steps) shows.is in
        omega (arith, h, place, steps, place-few run (length σ.steps) (omega (arith, h, place)))

  -- m is how many bytes the step has
  pub turn-within : {m : ℕ} → m ≡ bytes_in (part_from run s.at) → s.at + m ≤ length run
  turn-within size = (begins-next begins size).within

  module _ (e : is_some s.verdict ≡ false) where
    pub under : σ.verdict ≡ None
    under = sym verdict-same ∙ under_by s.verdict e

    onwards :
        (left : List Step) → drop (length σ.steps) (steps_of b run) ≡ left →
        turn (steps_of b run) σ ≡ onward (steps_of b run) σ left
    unfolding turn
    onwards left f = ap (turn_by (steps_of b run) σ) under ∙ ap (onward (steps_of b run) σ) f

    ends_as :
        (v : Verdict) → turn (steps_of b run) σ ≡ ended σ v → ended_as s v ≡ next_of b run s σ
    ends_as v f = ap (λ x. ended_as x v) shows.is ∙ ap (state_of run s.counter.limit) (sym f)

    pub turn-over : length run ≤ s.at → turn (steps_of b run) σ ≡ ended σ AllAccepted
    turn-over h = onwards [] (no_more b run _ shows.read begins h)

    pub turn-done : length run ≤ s.at → ended_as s AllAccepted ≡ next_of b run s σ
    turn-done h = ends_as AllAccepted (turn-over h)

    module _ (h : s.at < length run) where
      pub turn-answered :
          turn (steps_of b run) σ ≡ answered σ (step_in b (part_from run s.at)) (answer_to b run s)
      turn-answered =
          let ss = steps_of b run in
          let x = step_in b (part_from run s.at) in
          let now = rw (← drop_to_end run s.at) at (step_now b run _ shows.read begins h) in
          onwards _ now
          ∙ ap (λ l. answered σ x (check_step l ss x σ.counter.visits)) shows.reached.limits
          ∙ ap (λ n. answered σ x (check_step (limited s.counter.limit) ss x n))
          (sym (ap (λ y. y.counter.visits) shows.is))

      pub turn-refused : (r : Refusal) → answer_to b run s ≡ Err r → ended_as s (Stopped r) ≡ next_of b run s σ
      turn-refused r e =
          ends_as (Stopped r) (turn-answered ∙ ap (answered σ (step_in b (part_from run s.at))) e)

      pub turn-accepted :
          (a : Accepted) → answer_to b run s ≡ Ok a → {v m : ℕ} → v ≡ a.visits → m ≡ bytes_in (part_from run s.at) →
          placed (s.at + m) (s.steps + 1) v s.counter.limit ≡ next_of b run s σ
      turn-accepted a f {v} v-is size =
          let limit = s.counter.limit in
          let x = step_in b (part_from run s.at) in
          let k = length (σ.steps ++ (x, a.inferred) ∷ []) in
          let more : length σ.steps + 1 ≡ k = omega (arith, length-append σ.steps ((x, a.inferred) ∷ [])) in
          let place = sym (begins-place (begins-next begins size)) ∙ ap (place_of run) more in
          let steps = ap (λ y. y.steps + 1) shows.is ∙ more in
          ap (λ at. placed at (s.steps + 1) v limit) place
          ∙ ap (λ j. placed (place_of run k) j v limit) steps
          ∙ ap (λ u. placed (place_of run k) k u limit) v-is
          ∙ ap (state_of run limit) (sym (turn-answered ∙ ap (answered σ x) f))

-- ---- a loop of turns

-- the first state
abbrev pub first : ℕ → State
first limit = state [] (counter (limited limit) 0) None

pub first_is_lem : (run : Bytes) (limit : ℕ) → placed 0 0 0 limit ≡ state_of run limit (first limit)
first_is_lem run limit = ap (λ at. placed at 0 0 limit) (sym (begins-place (begins_first run)))

module _ {b run : Bytes} {s : by_value.State} {σ : State} (shows : Shows b run s σ) where
  pub shows_underway : Underway b run s
  shows_underway = record { state = σ; reached = shows.reached; is = shows.is }

  pub shows-next : {r : by_value.State} → r ≡ next_of b run s σ → Shows b run r (turn (steps_of b run) σ)
  shows-next {r} e =
      let same : s.counter.limit ≡ r.counter.limit = sym (ap (λ x. x.counter.limit) e) in
      record {
        read = shows.read;
        reached = subst (λ l. Reached (steps_of b run) l (turn (steps_of b run) σ)) same (turn-reached shows.reached);
        is = e ∙ ap (λ l. state_of run l (turn (steps_of b run) σ)) same;
      }

-- s is a state on the way from the first to the end
pub record OnTheWay (b run : Bytes) (limit : ℕ) (s : by_value.State) : Type 0 where
  pub state : State
  pub shows : Shows b run s state
  pub under-limit : s.counter.limit ≡ limit
  pub end : outcome (steps_of b run) state ≡ outcome (steps_of b run) (first limit)

abbrev pub way-begins :
    {b run : Bytes} {limit : ℕ} → read_run b run ≡ Ok (steps_of b run) → {s : by_value.State} →
    ((r : Bytes) → s ≡ state_of r limit (first limit)) → OnTheWay b run limit s
way-begins {b} {run} {limit} read {s} is =
    let same : limit ≡ s.counter.limit = sym (ap (λ x. x.counter.limit) (is run)) in
    record {
      state = first limit;
      shows =
          record {
            read = read;
            reached = record { limits = ap limited same; place = omega arith };
            is = is run ∙ ap (λ l. state_of run l (first limit)) same;
          };
      under-limit = sym same;
      end = refl;
    }

-- how many turns there are to the end, by value
abbrev pub turns_in : Bytes → Bytes → by_value.State → ℕ
turns_in b run s = turns_by (length (steps_of b run)) s.steps s.verdict

-- what is answered at the end
abbrev pub marked_in : by_value.State → Verdict → Marked
marked_in s v = record { verdict = v; steps = s.steps; visits = s.counter.visits }

module _ {b run : Bytes} {limit : ℕ} {s : by_value.State} (way : OnTheWay b run limit s) where
  abbrev pub way-goes : {r : by_value.State} → r ≡ next_of b run s way.state → OnTheWay b run limit r
  way-goes e =
      record {
        state = turn (steps_of b run) way.state;
        shows = shows-next way.shows e;
        under-limit = ap (λ x. x.counter.limit) e ∙ way.under-limit;
        end = turn-outcome (steps_of b run) way.state ∙ way.end;
      }

  pub way-less :
      {r : by_value.State} → is_some s.verdict ≡ false → r ≡ next_of b run s way.state →
      turns_in b run r < turns_in b run s
  way-less e f =
      let σ = way.state in
      let after = ap (turns_in b run) f in
      let before = ap (turns_in b run) way.shows.is in
      omega (arith, after, before, turn-less (steps_of b run) σ (under way.shows e))

  module _ {v : Verdict} (e : s.verdict ≡ Some v) where
    pub way-marking : marking_of way.state ≡ check_steps (limited limit) (steps_of b run)
    unfolding check_steps
    way-marking =
        let ss = steps_of b run in
        let σ = way.state in
        let all : length ss - 0 ≡ length ss = omega arith in
        ap marking_of (sym (turns-ended (turns_left ss σ) ss σ (sym (verdict-same way.shows) ∙ e)) ∙ way.end)
        ∙ ap (λ n. marking_of (turns (suc n) ss (first limit))) all

    pub way-ends : marked_in s v ≡ marked_of (check_steps (limited limit) (steps_of b run))
    way-ends =
        let σ = way.state in
        ap (λ x. marked_in x v) way.shows.is
        ∙ ap (λ o. marked_of (marking_of (state σ.steps σ.counter o))) (sym e ∙ verdict-same way.shows)
        ∙ ap marked_of way-marking
