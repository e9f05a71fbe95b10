-- Between the ends of clause and step.
use Rattle.runs.proofs.StepAreas.{args-start, args_end, args-found}
use Rattle.runs.proofs.run.args.Goals as goal

pub slice_bounds-result-count : goal.slice_bounds-result-count
slice_bounds-result-count c = args-start _ c.requires

pub slice_bounds-result-start : goal.slice_bounds-result-start
slice_bounds-result-start c = args-start _ c.requires

pub slice_bounds-result-end : goal.slice_bounds-result-end
slice_bounds-result-end c = args_end _ c.requires

pub returns : goal.returns
returns c = args-found _ c.requires
