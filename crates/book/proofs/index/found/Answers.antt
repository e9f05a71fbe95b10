use mathlib.Core.Path.{◌∙◌, ap, sym}
use Rattle.terms.specs.Book.{stands}
use Rattle.book.specs.Memory.RecordIndex.{chain}
use Rattle.book.proofs.RecordChains.{compared, searching_first, searching_next}
use Rattle.book.proofs.RecordChains.{searching_found, searching_end}
use Rattle.book.proofs.index.found.Goals as goal

pub loop-k-init : goal.loop-k-init
loop-k-init c =
    searching_first _ _ _ c.requires.indexed _ _ _ (c.requires.h_value.0 ∙ ap chain (sym c.record-r.ensures)) c.read_u16-k.ensures

pub returns-then-same_bytes : goal.returns-then-same_bytes
returns-then-same_bytes c =
    searching_found _ _ _ c.requires.indexed _ _ c.loop-k.invariant c.loop-k-test.true
    (compared _ _ _ _ _ _ c.record.ensures c.same_bytes.ensures c.if-same_bytes.true)
    ∙ ap (stands _ _) c.record-r.ensures

pub loop-k-preserved : goal.loop-k-preserved
loop-k-preserved c =
    searching_next _ _ _ c.requires.indexed _ _ c.loop-k.invariant c.loop-k-test.true
    (compared _ _ _ _ _ _ c.record.ensures c.same_bytes.ensures c.if-same_bytes.false)
    _ c.read_u16-k-in-loop-k.ensures

pub returns : goal.returns
returns c =
    searching_end _ _ _ c.requires.indexed _ _ c.loop-k.invariant c.loop-k-test.false
    ∙ ap (stands _ _) c.record-r.ensures
