-- `disequality_of` fills the areas of the literal's two sides and leaves their difference in that of the left one; the
-- other is empty again.
use Rattle.rules.proofs.Results.{handed_on}
use Rattle.disequality.proofs.SidesAreas.{left-side, right_side, sides-refused, literal-left}
use Rattle.disequality.proofs.disequality.disequality_of.Goals as goal

pub returns-in_err-sides : goal.returns-in_err-sides
returns-in_err-sides c =
    rw (handed_on c.from_residual.ensures.1) (sides-refused c.requires.0 _ _ _ c.in_err-sides.ensures)

pub returns : goal.returns
returns c =
    let between = c.requires.0 in
    let both = c.in_ok-sides.ensures in
    literal-left between _ _ _ both
    (c.subtracted.ensures _ (left-side between _ _ _ both) (right_side between _ _ _ both) _)
