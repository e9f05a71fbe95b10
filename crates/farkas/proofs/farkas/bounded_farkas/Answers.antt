use mathlib.Core.Path.{sym}
use Rattle.rules.proofs.Results.{handed_on}
use Rattle.linear_arithmetic.proofs.FoldedAreas.{Given}
use Rattle.linear_arithmetic.proofs.PartialFold.{rest_folds, part-less, part-fits}
use Rattle.linear_arithmetic.proofs.PartialFold.{folded_rest, part_clear, part-more}
use Rattle.farkas.proofs.TracedFold.{traced-unread, traced-begin, traced-again, traced-refused, traced-wrong}
use Rattle.farkas.proofs.TracedFold.{traced-done}
use Rattle.farkas.proofs.farkas.bounded_farkas.Goals as goal

pub returns-in_err-read_args : goal.returns-in_err-read_args
returns-in_err-read_args c =
    let asked = c.args in
    let g : Given =
    record {
      book = asked.book.now;
      literals = asked.literals.now;
      args = asked.args.now;
      limit = asked.counter.limit;
      work = asked.work.now;
    }
    in
    let left = traced-unread g _ c.in_err-read_args.ensures _ _ _ in
    record { stepped_left = rw (handed_on c.from_residual.ensures.1) left.0; work_unchanged = left.1 }

pub loop-q-init : goal.loop-q-init
loop-q-init c =
    traced-begin _ _ (sym (c.in_ok-read_args.ensures _)) c.requires.0 c.requires.1.0 c.requires.1.1 c.new.ensures _ _ _

pub fold_literals-requires : goal.fold_literals-requires
fold_literals-requires c =
    let folds = rest_folds c.loop-q.invariant.far c.rest.ensures c.rest-in-loop-q.ensures in
    record { folding = folds.0; all_numbers = folds.1 }

pub returns-in_err-q : goal.returns-in_err-q
returns-in_err-q c =
    let rested = folded_rest c.rest.ensures c.rest-in-loop-q.ensures c.in_err-q.ensures in
    let left = traced-refused c.loop-q.invariant rested in
    record { stepped_left = rw (handed_on c.from_residual-in_err-q.ensures.1) left.0; work_unchanged = left.1 }

-- the last line
pub contradiction-requires : goal.contradiction-requires
contradiction-requires c =
    let rested = folded_rest c.rest.ensures c.rest-in-loop-q.ensures (rw c.in-Done.is at c.in_ok-q.ensures) in
    part_clear c.loop-q.invariant.far rested

pub returns-in_err-contradiction-in-Done : goal.returns-in_err-contradiction-in-Done
returns-in_err-contradiction-in-Done c =
    let rested = folded_rest c.rest.ensures c.rest-in-loop-q.ensures (rw c.in-Done.is at c.in_ok-q.ensures) in
    let last = c.in_err-contradiction-in-Done.ensures in
    let left = traced-wrong c.loop-q.invariant rested last.work_after last.value in
    record {
      stepped_left = rw (handed_on c.from_residual-in_err-contradiction-in-Done.ensures.1) left.0;
      work_unchanged = left.1;
    }

pub returns-in-Done : goal.returns-in-Done
returns-in-Done c =
    let rested = folded_rest c.rest.ensures c.rest-in-loop-q.ensures (rw c.in-Done.is at c.in_ok-q.ensures) in
    let last = c.in_ok-contradiction-in-Done.ensures in
    let left = traced-done c.loop-q.invariant rested last.work_after last.value in
    record { stepped_left = left.0; work_unchanged = left.1 }

-- a number was inferred
pub overflow_add-done : goal.overflow_add-done
overflow_add-done c =
    let far = c.loop-q.invariant.far in
    let rested = folded_rest c.rest.ensures c.rest-in-loop-q.ensures (rw c.in-Inferred.is at c.in_ok-q.ensures) in
    part-fits far _ (part-more far rested)

pub loop-q-smaller : goal.loop-q-smaller
loop-q-smaller c =
    let far = c.loop-q.invariant.far in
    let rested = folded_rest c.rest.ensures c.rest-in-loop-q.ensures (rw c.in-Inferred.is at c.in_ok-q.ensures) in
    part-less far _ (part-more far rested)

pub loop-q-preserved : goal.loop-q-preserved
loop-q-preserved c =
    let rested = folded_rest c.rest.ensures c.rest-in-loop-q.ensures (rw c.in-Inferred.is at c.in_ok-q.ensures) in
    traced-again c.loop-q.invariant rested c.add_real-written.ensures
