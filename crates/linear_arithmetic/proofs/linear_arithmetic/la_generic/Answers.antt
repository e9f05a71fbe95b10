-- As many arguments as literals; then it is `la_generic_partial`.
use mathlib.Core.Path.{◌∙◌, ap}
use Rattle.linear_arithmetic.specs.Memory.LinearSteps.{visits_of}
use Rattle.linear_arithmetic.proofs.PartialEnd.{generic_unequal, generic_equal}
use Rattle.linear_arithmetic.proofs.linear_arithmetic.la_generic.Goals as goal

pub returns-then-args-literals-clause-value : goal.returns-then-args-literals-clause-value
returns-then-args-literals-clause-value c = generic_unequal _ _ _ _ _ c.if-args-literals.true

pub returns-clause-value : goal.returns-clause-value
returns-clause-value c =
    c.la_generic_partial.ensures.value ∙ ap visits_of (generic_equal _ _ _ _ _ c.if-args-literals.false)
