-- The first step begins at byte 0.
use Rattle.marking.proofs.CheckLoops.{first_is_lem}
use Rattle.marking.proofs.check.start.Goals as goal

pub returns : goal.returns
returns c run = first_is_lem run _
