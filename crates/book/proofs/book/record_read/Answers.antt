-- The layout is tested first, then the sorts, then whether the record stands twice, as in the definition
-- (`BookReading`).
use mathlib.Core.Bool.{true, false}
use Rattle.book.proofs.BookReading.{Judged, judged, refused-layout, refused-sort, sorted-once}
use Rattle.book.proofs.book.record_read.Goals.{After-sort_of}
use Rattle.book.proofs.book.record_read.Goals as goal

judge : (c : After-sort_of) → Judged c.args.book.now c.args.id c.sort_of.result
judge c =
    judged _ _ _ c.record-r.ensures _ c.layout_ok.ensures _ c.requires.read.0 c.if-not-layout_ok.false _ c.sort_of.ensures

pub returns-then-not-layout_ok : goal.returns-then-not-layout_ok
returns-then-not-layout_ok c = refused-layout _ _ _ c.record-r.ensures _ c.layout_ok.ensures c.if-not-layout_ok.true

pub returns-in-None : goal.returns-in-None
returns-in-None c = refused-sort _ _ _ (judge (goal.at.returns-in-None c).After-sort_of) c.in-None.is

pub returns-in-Some : goal.returns-in-Some
returns-in-Some c =
    sorted-once _ _ _ (judge (goal.at.returns-in-Some c).After-sort_of) _ c.in-Some.is
    _ c.found-again.ensures true c.if-again.true

pub returns-in-Some-2 : goal.returns-in-Some-2
returns-in-Some-2 c =
    sorted-once _ _ _ (judge (goal.at.returns-in-Some-2 c).After-sort_of) _ c.in-Some.is
    _ c.found-again.ensures false c.if-again.false
