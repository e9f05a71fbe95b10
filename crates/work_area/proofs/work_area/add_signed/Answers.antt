-- Each return is a lemma of AreaSums over what the calls ensure.
use mathlib.Core.Path.{refl}
use Rattle.rules.proofs.Results.{handed_on}
use Rattle.work_area.proofs.AreaSums.{added-refused, added_out, added-sum}
use Rattle.work_area.proofs.work_area.add_signed.Goals as goal

pub returns-in_err-len-clause-combines : goal.returns-in_err-len-clause-combines
returns-in_err-len-clause-combines c =
    let all = c.in_err-len.ensures in
    rw (handed_on c.from_residual.ensures.1)
    (added-refused _ _ _ _ _ c.args.turned _ (all.grown, all.inserts)).1

pub returns-in_default : goal.returns-in_default
returns-in_default c =
    let all = c.in_ok-len.ensures in
    let r =
    added_out _ _ _ _ _ c.args.turned _ (all.grown, all.inserts) _ c.signed.ensures.is _
    c.add.ensures c.requires.0.first c.insert_all.auto.work c.in_default.is _ c.clear_in.ensures in
    record { only_area = r.0; refused = refl; combines = r.1 }

pub returns-clause-combines : goal.returns-clause-combines
returns-clause-combines c =
    let all = c.in_ok-len.ensures in
    (added-sum _ _ _ _ _ c.args.turned _ (all.grown, all.inserts) _ c.signed.ensures.is _
    c.add.ensures _ c.in-Some.is).1
