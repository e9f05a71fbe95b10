-- `mul_in` lends area j to `mul`: what it ensures of the bytes lent holds of the area; nothing else changes.
use mathlib.Core.Path.{refl}
use Rattle.linear_comb.proofs.Areas.{lent_back_lem}
use Rattle.work_area.proofs.work_area.mul_in.Goals as goal

pub returns : goal.returns
returns c =
    let m = c.mul in
    let back = lent_back_lem c.requires.0 m.new.entries m.auto.entries in
    rw (back.put, back.is)
    (record { only_area = refl; refused = m.ensures.refused; combines = rw back.was at m.ensures.combines })
