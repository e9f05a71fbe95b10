use Rattle.numbers.proofs.SameBytes.{same_bytes-pointwise}
use Rattle.numbers.proofs.bytes.same_bytes.Goals as goal
use mathlib.Core.Path.{◌∙◌}

pub returns : goal.returns
returns c = c.eq.ensures ∙ same_bytes-pointwise _ _
