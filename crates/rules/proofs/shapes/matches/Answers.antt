use borrow.Author.Rules.{rules}
use Rattle.rules.proofs.FormSteps.{solving_next, solving_refused, solving_end}
use Rattle.rules.proofs.shapes.matches.Goals as goal

pub returns-in_err-n : goal.returns-in_err-n
returns-in_err-n c =
    let left = solving_refused c.loop-e.invariant.1 c.in-Some.e.now c.next.new.self.rest.now in
    rw c.from_residual.ensures (left (search rules) (search rules) c.in_err-n.ensures.1)

pub loop-e-preserved : goal.loop-e-preserved
loop-e-preserved c = (
  search rules,
  solving_next c.loop-e.invariant.1 c.in-Some.e.now _ (search rules) (search rules) c.in_ok-n.ensures.0
      c.in_ok-n.ensures.1,
)

pub returns : goal.returns
returns c = solving_end c.loop-e.invariant.1 (search rules)
