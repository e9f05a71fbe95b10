-- Each return is a case of `Added`.
use mathlib.Core.Path.{sym, ◌∙◌}
use Rattle.index_map.specs.Memory.StoredMaps.{out, gone, put}
use Rattle.index_map.proofs.stored_map.StoredMap.add.Goals as goal

pub returns-in_default-clause-adds : goal.returns-in_default-clause-adds
returns-in_default-clause-adds g c =
    rw c.clear.ensures (out (rw c.value_at.ensures.is at (sym c.add.ensures.is ∙ c.in_default.is)))

pub returns-then-is_zero-clause-adds : goal.returns-then-is_zero-clause-adds
returns-then-is_zero-clause-adds g c =
    let sum = rw c.value_at.ensures.is at (sym c.add.ensures.is ∙ c.in-Some.is) in
    rw c.swap_remove.ensures (gone _ sum (sym c.is_zero.ensures ∙ c.if-is_zero.true))

pub returns-clause-adds : goal.returns-clause-adds
returns-clause-adds g c =
    let sum = rw c.value_at.ensures.is at (sym c.add.ensures.is ∙ c.in-Some.is) in
    let proper = c.add.ensures.proper _ c.in-Some.is in
    rw c.put_entry.ensures (put _ sum (sym c.is_zero.ensures ∙ c.if-is_zero.false) proper)
