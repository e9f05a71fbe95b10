-- The records of the part are tested one after the other.
use mathlib.Core.Path.{◌∙◌}
use Rattle.std.proofs.Common.{rules, tests}
use Rattle.rules.proofs.Chunks.{all_chunks}
use Rattle.runs.specs.Run.{recs}
use Rattle.runs.specs.Memory.StepParts.{head_in}
use Rattle.runs.proofs.RunRecords.{less_recs, more_recs}
use Rattle.runs.proofs.StepReading.{is_right, all_right_all}
use Rattle.runs.proofs.run.all_right.Goals as goal

pub returns : goal.returns
unfolding head_in
returns g c p h =
    all_chunks 4 head_in recs less_recs more_recs c.args.part.now (search rules) (search rules)
    (is_right p) c.all.ensures.ran (λ x b q k. search (rules, tests))
    ∙ all_right_all _ _
