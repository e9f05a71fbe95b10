-- The folds of the turns are joined as those of `la_generic_partial`.
use Rattle.std.proofs.Common.{sym, ◌∙◌}
use Rattle.linear_arithmetic.specs.Memory.LinearSteps.{AllNumbers}
use Rattle.linear_arithmetic.proofs.PartialFold.{part-begin, rest_folds, folded_rest, part-more, part-again}
use Rattle.linear_arithmetic.proofs.PartialFold.{part-fits, part-less}
use Rattle.step_cases.proofs.step.Step.infers.Goals as goal

pub loop-folded-init : goal.loop-folded-init
loop-folded-init c =
    let numbers : AllNumbers 1000000 c.args.self.book.now c.args.self.others.now =
    sym (c.read_args.ensures 1000000) ∙ c.in-Ok.is in
    (_, part-begin _ _ numbers c.requires.0 c.requires.1.0 c.requires.1.1 c.new.ensures)

pub fold_literals-requires : goal.fold_literals-requires
fold_literals-requires c =
    let folds = rest_folds c.loop-folded.invariant.1 c.rest-clause.ensures c.rest.ensures in
    record { folding = folds.0; all_numbers = folds.1 }

pub overflow_add-done : goal.overflow_add-done
overflow_add-done c =
    let far = c.loop-folded.invariant.1 in
    let fold = rw c.in-Inferred.is at c.in-Ok-fold_literals.ensures in
    let rested = folded_rest c.rest-clause.ensures c.rest.ensures fold in
    part-fits far _ (part-more far rested)

pub loop-folded-smaller : goal.loop-folded-smaller
loop-folded-smaller c =
    let far = c.loop-folded.invariant.1 in
    let fold = rw c.in-Inferred.is at c.in-Ok-fold_literals.ensures in
    let rested = folded_rest c.rest-clause.ensures c.rest.ensures fold in
    part-less far _ (part-more far rested)

pub loop-folded-preserved : goal.loop-folded-preserved
loop-folded-preserved c =
    let far = c.loop-folded.invariant.1 in
    let fold = rw c.in-Inferred.is at c.in-Ok-fold_literals.ensures in
    let rested = folded_rest c.rest-clause.ensures c.rest.ensures fold in
    (_, part-again far rested)
