-- Each return is a law of CheckLoops: the marking has ended, or ends, or the next step is refused or accepted.
use mathlib.Core.Path.{◌≡◌, sym, ap, ◌∙◌}
use borrow.Author.Rules.{rules}
use Rattle.numbers.specs.Bytes.{Bytes}
use Rattle.std.specs.Prelude.{Ok}
use Rattle.runs.specs.Run.{read_run, steps_of}
use Rattle.marking.specs.Check.{State}
use Rattle.marking.specs.Memory.Lent.{Reached, Underway, state_of}
use Rattle.marking.specs.declared.check.State as by_value
use Rattle.steps.proofs.StepVerdicts.{refused_as, accepted-as}
use Rattle.marking.proofs.CheckLoops.{Shows, turn-stays, turn-done, turn-stands, turn-room}
use Rattle.marking.proofs.CheckLoops.{turn-within, turn-refused, turn-accepted}
use Rattle.marking.proofs.check.turn.Goals as goal

-- s is a state of the run
module _ {b run : Bytes} {s : by_value.State} (read : read_run b run ≡ Ok (steps_of b run)) where
  shown :
      {σ : State} → Reached (steps_of b run) s.counter.limit σ → s ≡ state_of run s.counter.limit σ → Shows b run s σ
  shown reached is = record { read = read; reached = reached; is = is }

  given : (u : Underway b run s) → Shows b run s u.state
  given u = shown u.reached u.is

pub returns-then-is_some-clause-turns : goal.returns-then-is_some-clause-turns
returns-then-is_some-clause-turns c σ reached is =
    turn-stays (shown c.requires.ready.1 reached is) (sym c.if-is_some.ensures)

pub returns-then-run-s-clause-turns : goal.returns-then-run-s-clause-turns
returns-then-run-s-clause-turns c σ reached is =
    c.ended.ensures ∙ turn-done (shown c.requires.ready.1 reached is) (sym c.if-is_some.ensures) c.if-run-s.true

pub check_step-requires-clause-ready : goal.check_step-requires-clause-ready
check_step-requires-clause-ready c =
    (c.requires.ready.0, turn-stands (given c.requires.ready.1 c.requires.underway) c.if-run-s.false)

pub returns-in-Err-clause-turns : goal.returns-in-Err-clause-turns
returns-in-Err-clause-turns c σ reached is =
    let said = refused_as (λ a. a.visits) _ c.in-Err.ensures.value in
    c.ended-in-Err.ensures
    ∙ turn-refused (shown c.requires.ready.1 reached is) (sym c.if-is_some.ensures) c.if-run-s.false _ said

pub advanced-requires : goal.advanced-requires
advanced-requires c =
    let shows = given c.requires.ready.1 c.requires.underway in
    let within = turn-within shows (ap (λ p. p.args) c.parts-p.ensures) in
    let room = turn-room shows c.if-run-s.false in
    (search rules, search rules)

pub returns-in-Ok-clause-turns : goal.returns-in-Ok-clause-turns
returns-in-Ok-clause-turns c σ reached is =
    let said = accepted-as (λ a. a.visits) _ c.in-Ok.ensures.value in
    c.advanced.ensures
    ∙ turn-accepted (shown c.requires.ready.1 reached is) (sym c.if-is_some.ensures) c.if-run-s.false
    said.0 said.1.0 said.1.1 (ap (λ p. p.args) c.parts-p.ensures)
