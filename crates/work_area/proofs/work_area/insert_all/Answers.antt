use mathlib.Core.Path.{refl}
use Rattle.rules.proofs.Results.{handed_on}
use Rattle.index_map.specs.Memory.Entries.{entries_of}
use Rattle.work_area.proofs.InsertLoops.{inserting_none, inserting_refused, inserting_more, inserting_done}
use Rattle.work_area.proofs.work_area.insert_all.Goals as goal

pub returns-then-n-eq0-clause-inserts : goal.returns-then-n-eq0-clause-inserts
unfolding entries_of
returns-then-n-eq0-clause-inserts c = rw c.if-n-eq0.true c.copy_all.ensures.inserts

pub returns-in_err-len : goal.returns-in_err-len
returns-in_err-len c =
    let r =
    inserting_refused c.loop-k.invariant c.loop-k-test.true
    _ c.area.ensures _ c.key_at-key.ensures.0
    _ c.area-in-loop-k.ensures _ c.value_at.ensures.is
    _ c.signed-value.ensures _ c.insert_in.auto.work _ c.in_err-len.ensures.grown
    (λ b kept inside _. c.in_err-len.ensures.inserts b kept inside) refl in
    rw (handed_on c.from_residual.ensures.1)
    (record { grown = r.0; refused = c.in_err-len.ensures.refused; inserts = r.1 })

pub loop-k-preserved : goal.loop-k-preserved
loop-k-preserved c =
    inserting_more c.loop-k.invariant c.loop-k-test.true
    _ c.area.ensures _ c.key_at-key.ensures.0
    _ c.area-in-loop-k.ensures _ c.value_at.ensures.is
    _ c.signed-value.ensures _ c.insert_in.auto.work _ c.in_ok-len.ensures.grown
    (λ b kept inside _. c.in_ok-len.ensures.inserts b kept inside) _ refl

pub loop-k-init : goal.loop-k-init
loop-k-init c = inserting_none c.requires.0 c.requires.1.0 c.requires.1.1

pub returns-clause-inserts : goal.returns-clause-inserts
returns-clause-inserts c = (inserting_done c.loop-k.invariant c.loop-k-test.false).1
