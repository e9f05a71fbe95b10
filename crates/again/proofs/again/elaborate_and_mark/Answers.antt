use Rattle.elaborate.specs.LentMemory.{Memory, lent}
use Rattle.again.specs.Again.{second}
use Rattle.again.proofs.SecondAnswers.{both_markings}
use Rattle.again.proofs.again.elaborate_and_mark.Goals as goal

pub returns : goal.returns
returns c =
    let a = c.args in
    let left = c.mark_again-again.new in
    let m : Memory = lent a.book.now a.run.now a.work.now a.outrun.now a.outtail.now in
    both_markings m a.limit (second a.joined.now a.againrun.now a.againtail.now)
    c.elaborate-first.ensures
    {s' = second left.joined left.againrun left.againtail} c.mark_again-again.ensures
