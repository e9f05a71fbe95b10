-- A turn of `elaborate_steps` is a turn of the marking (CheckLoops), and writes the step that is accepted.
--     written-stays, written_over, written-refused, written-accepted       what a turn leaves
--     Going, going_begin, going_turn, going_less, going_end       the loop
use mathlib.Core.Path.{◌≡◌, refl, sym, ap, subst, ◌∙◌}
use mathlib.Core.Bool.{true, false}
use mathlib.Core.List.{List, [], ◌∷◌, ◌++◌}
use Prim.Native.Nat.{ℕ, ◌+◌, ◌≤◌, ◌<◌}
use lib.ListN.{length}
use Rattle.numbers.specs.Rational.{Rational}
use Rattle.numbers.specs.Bytes.{Bytes}
use Rattle.std.specs.Prelude.{Some, Ok, Err, is_some}
use Rattle.rules.specs.Refusal.{Result}
use Rattle.rules.specs.declared.refusal.Refusal.{Refusal}
use Rattle.runs.specs.declared.verdict.Verdict.TheVariants.{AllAccepted, Stopped}
use Rattle.rules.specs.Limits.{limited}
use Rattle.rules.specs.Memory.Parts.{Ready}
use Rattle.runs.specs.Run.{Step, read_run, steps_of}
use Rattle.steps.specs.CheckStep.{Accepted}
use Rattle.marking.specs.Check.{Marking, State, turn, answered, check_steps}
use Rattle.runs.specs.Memory.StepParts.{step_in, bytes_in}
use Rattle.marking.specs.Memory.Lent.{Reached, state_of}
use Rattle.marking.specs.declared.check.State as by_value
use Rattle.marking.specs.declared.check.Marked.{Marked}
use Rattle.runs.proofs.RunRecords.{part_from}
use Rattle.marking.proofs.CheckLoops.{Shows, answer_to, ended_as, placed, turn-same, turn-stays, turn-over, turn-done}
use Rattle.marking.proofs.CheckLoops.{turn-answered, turn-refused, turn-accepted, first, OnTheWay, way-begins, way-goes}
use Rattle.marking.proofs.CheckLoops.{ended_by, turns_in, way-less, way-marking, way-ends}
use Rattle.elaborate.specs.Elaborate.{add_steps}
use Rattle.out_areas.specs.Farkas.{Written, written, add_reals}
use Rattle.farkas.specs.Memory.FarkasSteps.{more_step, SteppedLeft}
use Rattle.out_areas.specs.Memory.OutAreas.{Holds, with_step}
use Rattle.elaborate.specs.Memory.OutMemory.{ElaboratesTo, TurnsWritten, Elaborates}
use Rattle.out_areas.specs.declared.out_areas.Out.{Out}
use Rattle.elaborate.specs.declared.elaborate.Elaborating.{Elaborating}
use Rattle.out_areas.proofs.OutAreas.{holds-back, holds_none}

-- one step more
adds-last :
    (b : Bytes) (w : Written) (ss : List (Step × List Rational)) (x : Step) (qs : List Rational) →
    add_steps b w (ss ++ (x, qs) ∷ []) ≡ add_reals b (with_step x (add_steps b w ss)) qs
unfolding add_steps
adds-last b w [] x qs = refl
adds-last b w (s ∷ ss) x qs = adds-last b (add_reals b (with_step s.0 w) s.1) ss x qs

-- what the accepted steps of a state write
abbrev steps_written : Bytes → State → Written
steps_written b σ = add_steps b (written [] []) σ.steps

-- ---- one turn

-- e is under way in a run that was read, and stands for σ
pub record Under (b run o t : Bytes) (e : Elaborating) (σ : State) : Type 0 where
  pub shows : Shows b run e.state σ
  pub holds : Holds b o t e.out (steps_written b σ)

pub under_of :
    {b run o t : Bytes} {e : Elaborating} {σ : State} → read_run b run ≡ Ok (steps_of b run) →
    Reached (steps_of b run) e.state.counter.limit σ → ElaboratesTo b run o t e.state.counter.limit e σ →
    Under b run o t e σ
under_of read reached to =
    record { shows = record { read = read; reached = reached; is = to.state }; holds = to.holds }

module _ {b run o t : Bytes} {e : Elaborating} {σ : State} (under : Under b run o t e σ) where
  -- the next state
  abbrev τ : State
  τ = turn (steps_of b run) σ

  -- what a turn leaves
  abbrev Next : Bytes → Bytes → Elaborating → Type 0
  Next o' t' r = ElaboratesTo b run o' t' e.state.counter.limit r τ

  as-next :
      (o' t' : Bytes) (out : Out) {ρ : State} → τ ≡ ρ → Holds b o' t' out (steps_written b ρ) →
      Holds b o' t' out (steps_written b τ)
  as-next o' t' out f h = subst (λ (x : State). Holds b o' t' out (steps_written b x)) (sym f) h

  -- the step at its place, and what its call leaves
  abbrev step : Step
  step = step_in b (part_from run e.state.at)

  abbrev Left : Bytes → Bytes → Result (ℕ × Out) → Type 0
  Left o' t' r =
      SteppedLeft b o t e.out o' t' r (with_step step)
      (more_step b (length o) (length t) step e.state.counter.limit e.state.counter.visits)
      (answer_to b run e.state)

  pub written-stays : is_some e.state.verdict ≡ true → Next o t e
  written-stays h =
      record {
        state = turn-stays under.shows h;
        holds = as-next o t e.out (turn-same under.shows h) under.holds;
      }

  module _ (going : is_some e.state.verdict ≡ false) where
    pub written_over :
        length run ≤ e.state.at → {s : by_value.State} → s ≡ ended_as e.state AllAccepted →
        Next o t (record { state = s; out = e.out })
    written_over h is =
        record {
          state = is ∙ turn-done under.shows going h;
          holds = as-next o t e.out (turn-over under.shows going h) under.holds;
        }

    -- a step is there, which is checked and written
    module _ (h : e.state.at < length run) {o' t' : Bytes} where
      pub written-refused :
          (r : Refusal) → Left o' t' (Err r) → length o' ≡ length o → length t' ≡ length t → {s : by_value.State} →
          s ≡ ended_as e.state (Stopped r) → Next o' t' (record { state = s; out = e.out })
      written-refused r left size size' is =
          let refused = left.is (steps_written b σ) under.holds in
          record {
            state = is ∙ turn-refused under.shows going h r refused;
            holds =
                as-next o' t' e.out (turn-answered under.shows going h ∙ ap (answered σ step) refused)
                (holds-back b e.out (steps_written b σ) left.fronts size size' under.holds);
          }

      pub written-accepted :
          (n : ℕ) (longer : Out) → Left o' t' (Ok (n, longer)) → {m : ℕ} →
          m ≡ bytes_in (part_from run e.state.at) → {s : by_value.State} →
          s ≡ placed (e.state.at + m) (e.state.steps + 1) n e.state.counter.limit →
          Next o' t' (record { state = s; out = longer })
      written-accepted n longer left size is =
          let accepts = left.is (steps_written b σ) under.holds in
          let a : Accepted = accepts.0 in
          record {
            state = is ∙ turn-accepted under.shows going h a accepts.1.0 accepts.1.1.0 size;
            holds =
                as-next o' t' longer (turn-answered under.shows going h ∙ ap (answered σ step) accepts.1.0)
                (subst (Holds b o' t' longer) (sym (adds-last b (written [] []) σ.steps step a.inferred))
                accepts.1.1.1);
          }

-- ---- the loop

-- what is lent: book, run, limit, and the three areas as they are on entry
pub record Given : Type 0 where
  pub book : Bytes
  pub run : Bytes
  pub limit : ℕ
  pub work : Bytes
  pub out_run : Bytes
  pub out_tail : Bytes

pub record Going (g : Given) (work o t : Bytes) (e : Elaborating) : Type 0 where
  pub way : OnTheWay g.book g.run g.limit e.state
  pub holds : Holds g.book o t e.out (steps_written g.book way.state)
  pub ready : Ready g.book g.work
  pub same : work ≡ g.work
  pub run_length : length o ≡ length g.out_run
  pub tail_length : length t ≡ length g.out_tail

pub going_begin :
    (g : Given) → Ready g.book g.work → read_run g.book g.run ≡ Ok (steps_of g.book g.run) →
    {s : by_value.State} → ((r : Bytes) → s ≡ state_of r g.limit (first g.limit)) → {out : Out} →
    out ≡ record { run = 0; tail = 0; full = false } →
    Going g g.work g.out_run g.out_tail (record { state = s; out = out })
unfolding add_steps
going_begin g ready read starts {out} none =
    record {
      way = way-begins read starts;
      holds =
          subst (λ x. Holds g.book g.out_run g.out_tail x (written [] [])) (sym none)
          (holds_none g.book g.out_run g.out_tail);
      ready = ready;
      same = refl;
      run_length = refl;
      tail_length = refl;
    }

module _ {g : Given} {work o t : Bytes} {e : Elaborating} (going : Going g work o t e) where
  module _ {o' t' : Bytes} {r : Elaborating} (turns : TurnsWritten g.book g.run o t o' t' e r) where
    next :
        ElaboratesTo g.book g.run o' t' e.state.counter.limit r
        (turn (steps_of g.book g.run) going.way.state)
    next =
        let shows = going.way.shows in
        turns going.way.state shows.reached (record { state = shows.is; holds = going.holds })

    pub going_turn :
        {work' : Bytes} → work' ≡ work → length o' ≡ length o → length t' ≡ length t → Going g work' o' t' r
    going_turn kept size size' =
        record {
          way = way-goes going.way next.state;
          holds = next.holds;
          ready = going.ready;
          same = kept ∙ going.same;
          run_length = size ∙ going.run_length;
          tail_length = size' ∙ going.tail_length;
        }

    pub going_less :
        is_some e.state.verdict ≡ false → turns_in g.book g.run r.state < turns_in g.book g.run e.state
    going_less h = way-less going.way h next.state

  pub going_end :
      is_some e.state.verdict ≡ true →
      Elaborates g.book o t e (check_steps (limited g.limit) (steps_of g.book g.run))
  going_end h =
      let found = ended_by e.state.verdict h in
      let is = way-ends going.way found.1 in
      record {
        verdict = found.1 ∙ ap (λ (m : Marked). Some m.verdict) is;
        steps = ap (λ (m : Marked). m.steps) is;
        visits = ap (λ (m : Marked). m.visits) is;
        holds =
            subst (λ (m : Marking). Holds g.book o t e.out (add_steps g.book (written [] []) m.steps))
            (way-marking going.way found.1) going.holds;
      }
