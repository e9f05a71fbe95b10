-- The invariant is `FoldedSoFar` of FoldedAreas: nothing was inferred up to literal k, so that what is left of the fold
-- is the whole.
use Rattle.linear_arithmetic.proofs.FoldedAreas.{Given, whole_fold, FoldedSoFar}
use Rattle.linear_arithmetic.proofs.linear_arithmetic.fold_literals.Given as goal

abbrev pub invariant-loop-k : goal.invariant-loop-k
invariant-loop-k l =
    let g : Given =
    record { book = l.book; literals = l.literals; args = l.args; limit = l.limit; work = l.initial.work }
    in
    FoldedSoFar g (whole_fold g l.initial.q) l.work l.q l.k
