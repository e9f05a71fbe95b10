-- `area_at` lends on the bytes between the two ends of area j, which are those of area j.
use Rattle.polynomial.proofs.StackAreas.{lent-part}
use Rattle.polynomial.proofs.polynomial.area_at.Goals as goal

pub returns : goal.returns
returns c = lent-part _ _
