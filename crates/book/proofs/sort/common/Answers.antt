use mathlib.Core.Path.{◌∙◌}
use native.Mathlib.Omega.{arith}
use Rattle.std.proofs.lemmas.Grind.{common_steps}
use Rattle.book.proofs.SortCodes.{passed_none, passed-more, passed_all, first_read, first_missing}
use Rattle.book.proofs.SortCodes.{sort-read, length-sorts_of}
use Rattle.book.proofs.sort.common.Goals.{then-args-lt2, else-args-lt2, then-s-eq-INT_SORT, else-s-eq-INT_SORT}
use Rattle.book.proofs.sort.common.Goals as goal

pub loop-k-init : goal.loop-k-init
loop-k-init c =
    let a = c.args in
    passed_none _ _
    (elim c.if-args-lt2.branch [
      | then-args-lt2 w ↦ w.first-is ∙ first_missing a.id a.sorts.now a.args.now (omega (arith, w.if-args-lt2.true))
      | else-args-lt2 w ↦
          w.first-is
          ∙ first_read a.id a.sorts.now a.args.now _ _ (omega (arith, w.if-args-lt2.false)) w.read_u16.ensures
          w.sort_at-first.ensures
    ])

pub loop-k-preserved : goal.loop-k-preserved
loop-k-preserved c =
    passed-more _ _ _ _ _ _ _ _ c.loop-k.invariant
    (rw (length-sorts_of _ _ _) c.loop-k-test.true)
    (sort-read _ _ _ _ _ _ c.loop-k-test.true c.read_u16-in-loop-k.ensures c.sort_at-s.ensures)
    (elim c.if-s-eq-INT_SORT.branch [
      | then-s-eq-INT_SORT w ↦ grind (arith, common_steps)
      | else-s-eq-INT_SORT w ↦ grind (arith, common_steps)
    ])

pub returns : goal.returns
returns c =
    passed_all _ _ _ _ _ _ c.loop-k.invariant (rw (length-sorts_of _ _ _) c.loop-k-test.false)
