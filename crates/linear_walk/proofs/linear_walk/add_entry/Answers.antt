-- The map after the insertion is the combination's, with the constant as it was. An insertion that is refused has
-- emptied the area.
use Rattle.rules.proofs.Results.{handed_on}
use Rattle.linear_walk.proofs.WalkSteps.{entry_out, entry-added}
use Rattle.linear_walk.proofs.linear_walk.add_entry.Goals as goal

pub returns-in_err-len-clause-walks : goal.returns-in_err-len-clause-walks
returns-in_err-len-clause-walks c b kept inside l =
    rw (handed_on c.from_residual.ensures.1)
    (entry_out kept l _ _ _ (c.in_err-len.ensures.inserts b kept.kept inside l))

pub returns-clause-walks : goal.returns-clause-walks
returns-clause-walks c b kept inside l =
    entry-added kept l _ _ _ (c.in_ok-len.ensures.inserts b kept.kept inside l)
