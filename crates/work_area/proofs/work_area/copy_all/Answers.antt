use mathlib.Core.Path.{refl}
use native.Mathlib.Omega.{arith}
use Rattle.index_map.specs.Memory.Entries.{entries_of}
use Rattle.work_area.proofs.InsertLoops.{inserting_none, inserting_more, inserting_done}
use Rattle.work_area.proofs.work_area.copy_all.Goals as goal

pub loop-k-preserved : goal.loop-k-preserved
loop-k-preserved c =
    inserting_more c.loop-k.invariant c.loop-k-test.true
    _ c.area.ensures _ c.key_at-key.ensures.0
    _ c.area-in-loop-k.ensures _ c.value_at.ensures.is
    _ c.signed-value.ensures _ c.append_in-len.auto.work _ c.append_in-len.ensures.upper_bound
    (λ b kept inside once. c.append_in-len.ensures.inserts b kept inside (once refl)) _ refl

pub returns-clause-inserts : goal.returns-clause-inserts
unfolding entries_of
returns-clause-inserts c = (inserting_done c.loop-k.invariant c.loop-k-test.false).1

pub loop-k-init : goal.loop-k-init
loop-k-init c = inserting_none c.requires.0 (omega arith) c.requires.1
