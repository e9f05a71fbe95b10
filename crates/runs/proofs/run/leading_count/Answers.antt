-- The records that are counted are those in front with the mark.
use mathlib.Core.Path.{◌∙◌}
use lib.Dec.{eqb}
use Rattle.std.proofs.Common.{rules, tests}
use Rattle.rules.proofs.Chunks.{count_chunks}
use Rattle.runs.specs.Run.{recs}
use Rattle.runs.specs.Memory.StepParts.{head_in}
use Rattle.runs.proofs.RunRecords.{less_recs, more_recs}
use Rattle.runs.proofs.StepAreas.{leading-prefix}
use Rattle.runs.proofs.run.leading_count.Goals as goal

pub returns : goal.returns
unfolding head_in
returns c =
    let a = c.args in
    let w = c.take_while.ensures in
    count_chunks 4 head_in recs less_recs more_recs a.part.now (search rules) (search rules) (λ r. eqb r.mark a.mark)
    w.source w.closure w.done c.count.ensures.ran (λ x b q k. search (rules, tests))
    ∙ leading-prefix a.part.now a.mark (recs a.part.now)
