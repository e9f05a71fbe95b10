-- The test is on record numbers.
use mathlib.Core.Path.{◌∙◌}
use borrow.Author.Tests.{eq-eqb, ne_eqb}
use Rattle.rules.specs.Refusal.{assert}
use Rattle.rules.specs.Shapes.{assert_eq}
use Rattle.rules.proofs.ShapeSteps.{same-records}
use Rattle.rules.proofs.shapes.assert_eq.Goals as goal

pub returns-then-a-b : goal.returns-then-a-b
unfolding assert_eq assert
returns-then-a-b c b = rw (same-records b c.args.a c.args.b ∙ eq-eqb _ _ c.if-a-b.true)

pub returns-else-a-b : goal.returns-else-a-b
unfolding assert_eq assert
returns-else-a-b c b = rw (same-records b c.args.a c.args.b ∙ ne_eqb _ _ c.if-a-b.false)
