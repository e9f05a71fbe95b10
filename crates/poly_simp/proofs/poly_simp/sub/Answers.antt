-- The entries of area 1 are entered and it is emptied; then the constants are subtracted: the laws are in
-- TurnedEntries.
use Rattle.rules.proofs.Results.{handed_on}
use Rattle.poly_simp.proofs.TurnedEntries.{sub-refused, sub-made, sub_out}
use Rattle.poly_simp.proofs.poly_simp.sub.Goals as goal

pub returns-in_err-len : goal.returns-in_err-len
returns-in_err-len c =
    rw (handed_on c.from_residual.ensures.1)
    (sub-refused c.args.p c.args.q c.clear_at.ensures c.in_err-len.ensures.inserts_at)

pub returns-in_default : goal.returns-in_default
returns-in_default c =
    sub_out c.args.p c.args.q c.clear_at.ensures c.in_ok-len.ensures.inserts_at c.neg.ensures.is c.add.ensures
    c.in_default.is c.clear_at-in_default.ensures

pub returns : goal.returns
returns c =
    sub-made c.args.p c.args.q c.clear_at.ensures c.in_ok-len.ensures.inserts_at c.neg.ensures.is c.add.ensures
    c.in-Some.is
