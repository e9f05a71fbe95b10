use borrow.Author.Rules.{rules}
use Rattle.rules.proofs.Results.{handed_on}
use Rattle.polynomial.proofs.ProductTasks.{each-begin, each_more, each-refused, each-done}
use Rattle.polynomial.proofs.polynomial.mul_each.Goals as goal

pub loop-k-init : goal.loop-k-init
loop-k-init c = each-begin c.requires.1.1.1.1

pub loop-k-preserved : goal.loop-k-preserved
loop-k-preserved c =
    each_more c.loop-k.invariant c.loop-k-test.true (search rules) c.in_ok-len.ensures.few
    c.in_ok-len.ensures.inserts_at

pub returns-in_err-len-clause-inserts_at : goal.returns-in_err-len-clause-inserts_at
returns-in_err-len-clause-inserts_at c =
    rw (handed_on c.from_residual.ensures.1)
    (each-refused c.loop-k.invariant c.loop-k-test.true c.in_err-len.ensures.inserts_at)

pub returns-clause-inserts_at : goal.returns-clause-inserts_at
returns-clause-inserts_at c = each-done c.loop-k.invariant c.loop-k-test.false
