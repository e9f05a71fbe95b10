-- `insert_at` lends area j to `insert`: what that makes of the area stands in its place.
use Rattle.polynomial.proofs.StackAreas.{lent-held, lent-enter}
use Rattle.polynomial.proofs.polynomial.insert_at.Goals as goal

pub returns-clause-inserts_at : goal.returns-clause-inserts_at
returns-clause-inserts_at c =
    λ b ms x t among size key l. lent-enter t among (c.insert.ensures.inserts b _ x (lent-held t among) size key l)
