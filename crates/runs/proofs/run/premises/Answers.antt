-- The records behind the first, up to the end of the premises.
use mathlib.Core.Path.{◌∙◌}
use Rattle.runs.proofs.StepAreas.{premises-found}
use Rattle.runs.proofs.run.premises.Goals as goal

pub returns : goal.returns
returns c = c.rest.ensures ∙ premises-found _ c.requires
