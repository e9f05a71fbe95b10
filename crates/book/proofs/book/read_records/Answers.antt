use mathlib.Core.Path.{◌∙◌, ap}
use Prim.Native.Nat.{◌<◌}
use native.Mathlib.Omega.{arith}
use Rattle.book.specs.Memory.RecordIndex.{chain}
use Rattle.book.proofs.IndexedReading.{indexing_none, indexing_more}
use Rattle.book.proofs.IndexedReading.{indexed-sorted, left-odd, left-many, left-refused, left-done}
use Rattle.book.proofs.book.read_records.Goals.{then-book-ne0-via-then-book-ne0}
use Rattle.book.proofs.book.read_records.Goals.{then-book-ne0-via-else-book-ne0+then-n-gt-MAX_RECORDS}
use Rattle.book.proofs.book.read_records.Goals as goal

pub loop-i-init : goal.loop-i-init
loop-i-init c = indexing_none _ _ _ c.requires.0 c.requires.1

pub enter-requires : goal.enter-requires
enter-requires c =
    (omega (arith, c.loop-i-test.true, c.if-n-gt-MAX_RECORDS.false), c.chain-h.ensures.1)

pub returns-in-Err : goal.returns-in-Err
returns-in-Err c =
    left-refused _ _ _ _ c.if-book-ne0.false c.if-n-gt-MAX_RECORDS.false c.loop-i.invariant
    c.loop-i-test.true _ _ c.record_read.ensures c.in-Err.is

pub loop-i-preserved : goal.loop-i-preserved
loop-i-preserved c =
    let few : c.loop-i.i < 2048 = omega (arith, c.loop-i-test.true, c.if-n-gt-MAX_RECORDS.false) in
    let entered =
    c.enter.ensures _ (indexed-sorted _ _ _ _ _ c.loop-i.invariant _ few)
    (c.chain-h.ensures.0 ∙ ap chain c.record.ensures) in
    indexing_more _ _ _ _ _ c.loop-i.invariant c.loop-i-test.true
    _ _ c.record_read.ensures c.in-Ok.is _ entered.0 entered.1

pub returns : goal.returns
returns c =
    left-done _ _ _ _ c.if-book-ne0.false c.if-n-gt-MAX_RECORDS.false c.loop-i.invariant c.loop-i-test.false

pub returns-then-book-ne0 : goal.returns-then-book-ne0
returns-then-book-ne0 c =
    elim c.then-book-ne0.branch [
      | then-book-ne0-via-then-book-ne0 w ↦ left-odd _ _ w.if-book-ne0.true
      | then-book-ne0-via-else-book-ne0+then-n-gt-MAX_RECORDS w ↦ left-many _ _ w.if-n-gt-MAX_RECORDS.true
    ]
