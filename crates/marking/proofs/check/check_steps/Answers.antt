use mathlib.Core.Path.{refl, ap, ◌∙◌}
use Rattle.std.specs.Prelude.{is_some}
use Rattle.marking.proofs.CheckLoops.{way-begins, way-goes, way-less, way-ends}
use Rattle.marking.proofs.check.check_steps.Goals as goal

pub loop-s-init : goal.loop-s-init
loop-s-init c = record { way = way-begins c.requires.1 c.start-s.ensures; same = refl }

pub returns-in-Some-clause-value : goal.returns-in-Some-clause-value
returns-in-Some-clause-value c = way-ends c.loop-s.invariant.way c.in-Some.is

pub loop-s-smaller : goal.loop-s-smaller
loop-s-smaller c =
    let way = c.loop-s.invariant.way in
    way-less way (ap is_some c.in_default.is) (c.turn-s.ensures.turns _ way.shows.reached way.shows.is)

pub loop-s-preserved : goal.loop-s-preserved
loop-s-preserved c =
    let way = c.loop-s.invariant.way in
    record {
      way = way-goes way (c.turn-s.ensures.turns _ way.shows.reached way.shows.is);
      same = c.turn-s.ensures.work_unchanged ∙ c.loop-s.invariant.same;
    }
