-- `clear_in` lends area j to `clear`: what comes back stands in its place.
use mathlib.Core.Path.{ap, ◌∙◌}
use Rattle.linear_comb.specs.Memory.WorkArea.{with_area}
use Rattle.linear_comb.proofs.Areas.{lent_back_lem}
use Rattle.work_area.proofs.work_area.clear_in.Goals as goal

pub returns : goal.returns
returns c =
    let m = c.clear in
    let back = lent_back_lem c.requires.0 m.new.entries m.auto.entries in
    back.put ∙ ap (λ y. with_area c.args.j y c.args.work.now) (rw back.was at m.ensures)
