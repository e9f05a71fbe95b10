-- By what `open` answers the marking is a refusal, with nothing written, or that of the steps.
use mathlib.Core.Path.{refl, ◌∙◌}
use Rattle.marking.proofs.EntryPoints.{opened-read, opened-marked}
use Rattle.elaborate.proofs.ClosedAreas.{refused_elaborating}
use Rattle.elaborate.proofs.elaborate.elaborate_run.Goals as goal

pub returns-in-Err : goal.returns-in-Err
returns-in-Err c =
    let opens = c.in-Err.ensures in record {
      elaborates =
          refused_elaborating _ _ _ _ opens.answered c.start.ensures c.ended.ensures c.nothing.ensures;
      work_after = opens.left;
    }

pub elaborate_steps-requires : goal.elaborate_steps-requires
elaborate_steps-requires c =
    let opens = c.in-Ok.ensures in
    (opens.ready refl, opened-read _ _ _ _ opens.answered)

pub returns-in-Ok : goal.returns-in-Ok
returns-in-Ok c =
    let opens = c.in-Ok.ensures in record {
      elaborates = rw (opened-marked _ _ _ _ opens.answered) c.elaborate_steps.ensures.elaborates;
      work_after = c.elaborate_steps.ensures.work_unchanged ∙ opens.left;
    }
