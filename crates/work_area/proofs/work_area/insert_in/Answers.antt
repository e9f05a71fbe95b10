-- `insert_in` lends area j to `insert`: what it ensures of the bytes lent holds of the area; nothing else changes.
use mathlib.Core.Path.{refl}
use Rattle.linear_comb.proofs.Areas.{lent_back_lem}
use Rattle.work_area.proofs.work_area.insert_in.Goals as goal

pub returns : goal.returns
returns c =
    let m = c.insert in
    let back = lent_back_lem c.requires.0 m.new.entries m.auto.entries in
    rw (back.put, back.is)
    (record {
      grown = (m.ensures.grown, refl);
      refused = m.ensures.refused;
      inserts = rw back.was at m.ensures.inserts;
    })
