-- The place that `find` gives is that of the entry with the key, if there is one.
use native.Mathlib.Omega.{arith}
use Rattle.index_map.proofs.AreaEntry.{coefficient, no_coefficient}
use Rattle.index_map.proofs.index_map.get.Goals as goal

pub returns : goal.returns
returns c = coefficient _ _ _ _ c.in_ok-k.ensures.1 c.in_ok-k.ensures.0 c.value_at.ensures

pub returns-in_err-k : goal.returns-in_err-k
returns-in_err-k c = rw c.from_residual.ensures (no_coefficient _ _ _ _ c.in_err-k.ensures (omega arith))
