-- Between the ends of premises and clause.
use Rattle.runs.proofs.StepAreas.{clause-start, clause-end, clause-found}
use Rattle.runs.proofs.run.clause.Goals as goal

pub slice_bounds-result-count : goal.slice_bounds-result-count
slice_bounds-result-count c = clause-start _ c.requires

pub slice_bounds-result-start : goal.slice_bounds-result-start
slice_bounds-result-start c = clause-start _ c.requires

pub slice_bounds-result-end : goal.slice_bounds-result-end
slice_bounds-result-end c = clause-end _ c.requires

pub returns : goal.returns
returns c = clause-found _ c.requires
