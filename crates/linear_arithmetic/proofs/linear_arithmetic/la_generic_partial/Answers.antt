use mathlib.Core.Path.{sym, ◌∙◌}
use Rattle.rules.proofs.Results.{handed_on}
use Rattle.linear_arithmetic.proofs.FoldedAreas.{Given}
use Rattle.linear_arithmetic.proofs.PartialEnd.{part-unread}
use Rattle.linear_arithmetic.proofs.PartialFold.{part-begin, rest_folds}
use Rattle.linear_arithmetic.proofs.PartialFold.{part-less, part-fits, folded_rest, part_clear, part-more}
use Rattle.linear_arithmetic.proofs.PartialFold.{part-refused, part-done, part-again}
use Rattle.linear_arithmetic.proofs.linear_arithmetic.la_generic_partial.Goals as goal

pub returns-in_err-read_args-clause-value : goal.returns-in_err-read_args-clause-value
returns-in_err-read_args-clause-value c =
    let g : Given =
    record {
      book = c.args.book.now;
      literals = c.args.literals.now;
      args = c.args.args.now;
      limit = c.args.counter.limit;
      work = c.args.work.now;
    }
    in
    handed_on c.from_residual.ensures.1 ∙ (part-unread g _ c.in_err-read_args.ensures).0

pub loop-q-init : goal.loop-q-init
loop-q-init c =
    (_, part-begin _ _ (sym (c.in_ok-read_args.ensures _)) c.requires.0 c.requires.1.0 c.requires.1.1 c.new.ensures)

pub fold_literals-requires : goal.fold_literals-requires
fold_literals-requires c =
    let folds = rest_folds c.loop-q.invariant.1 c.rest.ensures c.rest-in-loop-q.ensures in
    record { folding = folds.0; all_numbers = folds.1 }

pub returns-in_err-q : goal.returns-in_err-q
returns-in_err-q c =
    let rested = folded_rest c.rest.ensures c.rest-in-loop-q.ensures c.in_err-q.ensures in
    let judged = part-refused c.loop-q.invariant.1 rested in
    record { value = handed_on c.from_residual-in_err-q.ensures.1 ∙ judged.0; work_unchanged = judged.1 }

pub contradiction-requires : goal.contradiction-requires
contradiction-requires c =
    let rested = folded_rest c.rest.ensures c.rest-in-loop-q.ensures (rw c.in-Done.is at c.in_ok-q.ensures) in
    part_clear c.loop-q.invariant.1 rested

pub returns-in-Done : goal.returns-in-Done
returns-in-Done c =
    let rested = folded_rest c.rest.ensures c.rest-in-loop-q.ensures (rw c.in-Done.is at c.in_ok-q.ensures) in
    let judged =
    part-done c.loop-q.invariant.1 rested c.contradiction.ensures.value c.contradiction.ensures.work_after
    in
    record { value = judged.0; work_unchanged = judged.1 }

pub overflow_add-done : goal.overflow_add-done
overflow_add-done c =
    let far = c.loop-q.invariant.1 in
    let rested = folded_rest c.rest.ensures c.rest-in-loop-q.ensures (rw c.in-Inferred.is at c.in_ok-q.ensures) in
    part-fits far _ (part-more far rested)

pub loop-q-smaller : goal.loop-q-smaller
loop-q-smaller c =
    let far = c.loop-q.invariant.1 in
    let rested = folded_rest c.rest.ensures c.rest-in-loop-q.ensures (rw c.in-Inferred.is at c.in_ok-q.ensures) in
    part-less far _ (part-more far rested)

pub loop-q-preserved : goal.loop-q-preserved
loop-q-preserved c =
    let rested = folded_rest c.rest.ensures c.rest-in-loop-q.ensures (rw c.in-Inferred.is at c.in_ok-q.ensures) in
    (_, part-again c.loop-q.invariant.1 rested)
