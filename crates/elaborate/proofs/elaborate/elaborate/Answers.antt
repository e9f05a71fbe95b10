-- The run is marked and its elaboration written, the work area cleared, then the out areas behind what is written:
-- `elaborates_left` of ElaboratePromise takes the three together.
use Rattle.numbers.proofs.ClearedBytes.{cleared-zeros}
use Rattle.elaborate.proofs.ElaboratePromise.{elaborates_left}
use Rattle.elaborate.proofs.elaborate.elaborate.Goals as goal

pub returns : goal.returns
returns c =
    let begun = c.elaborate_run-e in
    elaborates_left _ begun.auto.outrun begun.auto.outtail begun.ensures.elaborates
    (cleared-zeros _ c.clear_from.ensures begun.auto.work) c.close.ensures
