use mathlib.Core.Path.{sym, ap}
use lib.ListN.{length}
use Rattle.marking.proofs.CheckLoops.{shows_underway}
use Rattle.elaborate.proofs.ElaborateLoops.{going_begin, going_turn, going_less, going_end}
use Rattle.elaborate.proofs.elaborate.elaborate_steps.Goals as goal

pub loop-e-init : goal.loop-e-init
loop-e-init c = going_begin _ c.requires.0 c.requires.1 c.start.ensures c.nothing.ensures

pub shape_of-work-then-is_some : goal.shape_of-work-then-is_some
shape_of-work-then-is_some c = ap (λ w. length w) c.loop-e.invariant.same

pub shape_of-outrun-then-is_some : goal.shape_of-outrun-then-is_some
shape_of-outrun-then-is_some c = c.loop-e.invariant.run_length

pub shape_of-outtail-then-is_some : goal.shape_of-outtail-then-is_some
shape_of-outtail-then-is_some c = c.loop-e.invariant.tail_length

pub returns-then-is_some : goal.returns-then-is_some
returns-then-is_some c = record {
  elaborates = going_end c.loop-e.invariant (sym c.if-is_some.ensures);
  work_unchanged = c.loop-e.invariant.same;
}

pub turn-e-requires : goal.turn-e-requires
turn-e-requires c =
    let inv = c.loop-e.invariant in record {
      ready = (rw inv.same inv.ready, inv.way.shows.read);
      underway = shows_underway inv.way.shows;
    }

pub loop-e-smaller : goal.loop-e-smaller
loop-e-smaller c = going_less c.loop-e.invariant c.turn-e.ensures.turns_written (sym c.if-is_some.ensures)

pub loop-e-preserved : goal.loop-e-preserved
loop-e-preserved c =
    going_turn c.loop-e.invariant c.turn-e.ensures.turns_written c.turn-e.ensures.work_unchanged
    c.turn-e.auto.outrun c.turn-e.auto.outtail
