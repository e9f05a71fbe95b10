-- The two areas are emptied one after the other; the second is as it was after the first is emptied (`LiteralAreas`).
use Rattle.process_disequality.proofs.LiteralAreas.{emptied-both}
use Rattle.process_disequality.proofs.process_disequality.refuse.Goals as goal

pub returns-clause-work_after : goal.returns-clause-work_after
returns-clause-work_after c = emptied-both _ _ c.requires.0 c.clear_in.ensures c.clear_in-2.ensures
