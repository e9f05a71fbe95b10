-- Area 2 is copied over area 0, so what it holds stands there too.
use native.Mathlib.Omega.{arith}
use Rattle.polynomial.specs.Memory.PolynomialArea.{part_at}
use Rattle.polynomial.proofs.StackAreas.{stack-part, stack-put}
use Rattle.polynomial.proofs.polynomial.move_down.Goals as goal

pub returns : goal.returns
unfolding part_at
returns c b p q s t = rw c.copy_within.ensures.after (stack-put t 0 (omega arith) (stack-part t 2 (omega arith)))
