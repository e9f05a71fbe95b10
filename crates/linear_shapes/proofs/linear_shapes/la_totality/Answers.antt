-- The bytes are the definition's form.
use Rattle.rules.specs.Shapes.{form_of}
use Rattle.linear_shapes.specs.LinearShapes.{la_totality}
use Rattle.linear_shapes.proofs.linear_shapes.la_totality.Goals as goal

pub returns : goal.returns
unfolding la_totality form_of
returns c = c.has_form.ensures
