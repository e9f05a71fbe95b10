-- What is left behind each part is found from what is left behind the one before.
use Rattle.runs.proofs.StepAreas.{literals-inside, arguments-inside, next-inside, parts-found}
use Rattle.runs.proofs.run.parts.Goals as goal

pub overflow_sub-result : goal.overflow_sub-result
overflow_sub-result c =
    literals-inside c.args.step.now _ c.rest.ensures c.after-behind_premises.ensures

pub overflow_sub-result-2 : goal.overflow_sub-result-2
overflow_sub-result-2 c =
    arguments-inside c.args.step.now _ c.rest.ensures c.after-behind_premises.ensures
    c.after-behind_clause.ensures

pub overflow_sub-result-3 : goal.overflow_sub-result-3
overflow_sub-result-3 c =
    next-inside c.args.step.now _ c.rest.ensures c.after-behind_premises.ensures
    c.after-behind_clause.ensures c.after-next.ensures

pub returns : goal.returns
returns c =
    parts-found c.args.step.now _ c.rest.ensures c.after-behind_premises.ensures
    c.after-behind_clause.ensures c.after-next.ensures
