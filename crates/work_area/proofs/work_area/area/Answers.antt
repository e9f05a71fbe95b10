-- `area` lends on the bytes between the two ends of area j, which are those of area j.
use Rattle.linear_comb.proofs.Areas.{lent_is}
use Rattle.work_area.proofs.work_area.area.Goals as goal

pub returns : goal.returns
returns c = lent_is _ _
