-- `neg_in` lends area j to `neg`: what it ensures of the bytes lent holds of the area; nothing else changes.
use mathlib.Core.Path.{refl}
use Rattle.linear_comb.proofs.Areas.{lent_back_lem}
use Rattle.work_area.proofs.work_area.neg_in.Goals as goal

pub returns : goal.returns
returns c =
    let m = c.neg in
    let back = lent_back_lem c.requires.0 m.new.entries m.auto.entries in
    rw (back.put, back.is) (record { value = (m.ensures.value, refl); held = rw back.was at m.ensures.held })
