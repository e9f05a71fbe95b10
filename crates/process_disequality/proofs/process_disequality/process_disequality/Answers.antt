-- The literal's disequality is made in area 1, and then the rest runs on it (`ProcessedLiterals`).
use borrow.Author.Rules.{rules}
use Rattle.index_map.proofs.StoredEntries.{kept_small}
use Rattle.linear_comb.proofs.AreaSteps.{same-apart}
use Rattle.process_disequality.proofs.ProcessedLiterals.{both-areas, handed, literal-refused, literal-accumulated}
use Rattle.process_disequality.proofs.process_disequality.process_disequality.Goals as goal

pub refuse-requires : goal.refuse-requires
refuse-requires c =
    let folding = c.requires.0 in
    (same-apart (both-areas folding.between) c.disequality_of.auto.work, (kept_small folding.acc.kept, search rules))

pub returns-in-Err : goal.returns-in-Err
returns-in-Err c =
    rw c.refuse.ensures.value
    (literal-refused _ _ _ _ _ c.args.arg c.requires.0 c.in-Err.ensures c.refuse.ensures.work_after)

pub accumulate-requires : goal.accumulate-requires
accumulate-requires c =
    let h = handed _ _ _ _ _ c.args.arg c.requires.0 c.in-Ok.ensures in
    (h.apart, ((_, (h.sorts, (h.sum, h.literal))), c.requires.1.1))

pub returns-in-Ok : goal.returns-in-Ok
returns-in-Ok c =
    let h = handed _ _ _ _ _ c.args.arg c.requires.0 c.in-Ok.ensures in
    literal-accumulated _ _ _ _ _ _ c.requires.0 c.in-Ok.ensures (c.accumulate.ensures _ h.sorts h.sum h.literal _)
