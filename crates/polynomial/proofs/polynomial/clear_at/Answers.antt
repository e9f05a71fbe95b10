-- `clear_at` lends area j to `clear`: the stack has an empty area in its place.
use Rattle.polynomial.proofs.StackAreas.{lent_clear}
use Rattle.polynomial.proofs.polynomial.clear_at.Goals as goal

pub returns : goal.returns
returns c = λ b ms t among size. lent_clear t among size c.clear.ensures
