use borrow.Author.Rules.{rules}
use Rattle.rules.proofs.Results.{handed_on}
use Rattle.polynomial.proofs.ProductTasks.{scaling_begin, scaling_more, scaling_refused, scaling_done}
use Rattle.polynomial.proofs.polynomial.insert_scaled.Goals as goal

pub loop-k-init : goal.loop-k-init
loop-k-init c = scaling_begin c.requires.1.1.1

pub loop-k-preserved : goal.loop-k-preserved
loop-k-preserved c =
    scaling_more c.loop-k.invariant c.loop-k-test.true (search rules) c.in_ok-len.ensures.few
    c.in_ok-len.ensures.inserts_at

pub returns-in_err-len-clause-inserts_at : goal.returns-in_err-len-clause-inserts_at
returns-in_err-len-clause-inserts_at c =
    rw (handed_on c.from_residual.ensures.1)
    (scaling_refused c.loop-k.invariant c.loop-k-test.true c.in_err-len.ensures.inserts_at)

pub returns-clause-inserts_at : goal.returns-clause-inserts_at
returns-clause-inserts_at c = scaling_done c.loop-k.invariant c.loop-k-test.false
