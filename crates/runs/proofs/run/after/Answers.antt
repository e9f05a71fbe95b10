-- What follows the part in front, whose bytes are inside the part, since its records are.
use native.Mathlib.Omega.{arith}
use Rattle.runs.proofs.StepAreas.{leading-inside, after-found}
use Rattle.runs.proofs.run.after.Goals as goal

pub overflow_mul-result : goal.overflow_mul-result
overflow_mul-result c = omega (arith, leading-inside _ _ _ c.leading_count.ensures)

pub slice_bounds-result-count : goal.slice_bounds-result-count
slice_bounds-result-count c = leading-inside _ _ _ c.leading_count.ensures

pub slice_bounds-result-start : goal.slice_bounds-result-start
slice_bounds-result-start c = leading-inside _ _ _ c.leading_count.ensures

pub returns : goal.returns
returns c = after-found _ _ _ c.leading_count.ensures
