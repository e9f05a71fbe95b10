use borrow.Author.Rules.{rules}
use Rattle.rules.proofs.Results.{handed_on}
use Rattle.poly_simp.proofs.TurnedEntries.{turning_none, turning_refused, turning_more, turning_done}
use Rattle.poly_simp.proofs.poly_simp.insert_turned.Goals as goal

pub loop-k-init : goal.loop-k-init
loop-k-init c = turning_none (search rules)

pub loop-k-preserved : goal.loop-k-preserved
loop-k-preserved c =
    turning_more c.loop-k.invariant c.loop-k-test.true (search rules) c.in_ok-len.ensures.few
    c.in_ok-len.ensures.inserts_at

pub returns-in_err-len-clause-inserts_at : goal.returns-in_err-len-clause-inserts_at
returns-in_err-len-clause-inserts_at c =
    rw (handed_on c.from_residual.ensures.1)
    (turning_refused c.loop-k.invariant c.loop-k-test.true c.in_err-len.ensures.inserts_at)

pub returns-clause-inserts_at : goal.returns-clause-inserts_at
returns-clause-inserts_at c = turning_done c.loop-k.invariant c.loop-k-test.false
