-- Each return is a law of ElaborateLoops: the marking has ended, or ends, or the next step is refused or accepted.
use mathlib.Core.Path.{◌≡◌, sym, ap}
use native.Mathlib.Omega.{arith}
use Rattle.numbers.specs.Bytes.{Bytes}
use Rattle.std.specs.Prelude.{Ok}
use Rattle.runs.specs.Run.{read_run, steps_of}
use Rattle.marking.specs.declared.check.State.{State}
use Rattle.marking.specs.Memory.Lent.{Underway}
use Rattle.marking.proofs.CheckLoops.{Shows, turn-stands, turn-within, turn-room}
use Rattle.elaborate.proofs.ElaborateLoops.{under_of, written-stays, written_over, written-refused}
use Rattle.elaborate.proofs.ElaborateLoops.{written-accepted}
use Rattle.elaborate.proofs.elaborate.turn.Goals as goal

-- the marking is a state of the run
given :
    {book run : Bytes} {s : State} → read_run book run ≡ Ok (steps_of book run) → (u : Underway book run s) →
    Shows book run s u.state
given read u = record { read = read; reached = u.reached; is = u.is }

pub returns-then-is_some-clause-turns_written : goal.returns-then-is_some-clause-turns_written
returns-then-is_some-clause-turns_written c σ reached to =
    written-stays (under_of c.requires.ready.1 reached to) (sym c.if-is_some.ensures)

pub returns-then-run-s-clause-turns_written : goal.returns-then-run-s-clause-turns_written
returns-then-run-s-clause-turns_written c σ reached to =
    written_over (under_of c.requires.ready.1 reached to) (sym c.if-is_some.ensures) c.if-run-s.true c.ended.ensures

-- a step is there
pub elaborate_step-requires : goal.elaborate_step-requires
elaborate_step-requires c = record {
  ready = (c.requires.ready.0, turn-stands (given c.requires.ready.1 c.requires.underway) c.if-run-s.false);
  p_value = c.parts-p.ensures;
}

-- it is refused
pub returns-in-Err : goal.returns-in-Err
returns-in-Err c = record {
  turns_written = λ σ reached to.
      written-refused (under_of c.requires.ready.1 reached to) (sym c.if-is_some.ensures) c.if-run-s.false _
      c.in-Err.ensures.stepped_left c.elaborate_step.auto.outrun c.elaborate_step.auto.outtail
      c.ended-in-Err.ensures;
  work_unchanged = c.in-Err.ensures.work_unchanged;
}

-- or accepted
pub advanced-requires : goal.advanced-requires
advanced-requires c =
    let shows = given c.requires.ready.1 c.requires.underway in
    let within = turn-within shows (ap (λ p. p.args) c.parts-p.ensures) in
    let room = turn-room shows c.if-run-s.false in
    (omega (arith, within), omega (arith, room))

pub returns-in-Ok : goal.returns-in-Ok
returns-in-Ok c = record {
  turns_written = λ σ reached to.
      written-accepted (under_of c.requires.ready.1 reached to) (sym c.if-is_some.ensures) c.if-run-s.false
      _ _ c.in-Ok.ensures.stepped_left (ap (λ p. p.args) c.parts-p.ensures) c.advanced.ensures;
  work_unchanged = c.in-Ok.ensures.work_unchanged;
}
