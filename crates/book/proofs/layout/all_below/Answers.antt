use mathlib.Core.Path.{sym, ◌∙◌}
use borrow.Author.Rules.{rules}
use borrow.Author.Tests.{lt-ltb, le-ltb}
use Rattle.terms.proofs.Layouts.{walk_on, walk_fails, all_below_all}
use Rattle.terms.proofs.RecordBytes.{length-numbers, number_at_lem}
use Rattle.book.proofs.layout.all_below.Goals as goal

pub loop-k-init : goal.loop-k-init
loop-k-init c = record { long = length-numbers _; inside = search rules; left = all_below_all _ _ }

pub returns-then-id-read_u16 : goal.returns-then-id-read_u16
returns-then-id-read_u16 c =
    walk_fails c.loop-k.invariant _ 0 (search rules)
    (c.read_u16.ensures ∙ sym (number_at_lem _ _ _ (search rules))) (le-ltb _ _ c.if-id-read_u16.true)

pub loop-k-preserved : goal.loop-k-preserved
loop-k-preserved c =
    walk_on c.loop-k.invariant _ 0 (search rules)
    (c.read_u16.ensures ∙ sym (number_at_lem _ _ _ (search rules))) (lt-ltb _ _ c.if-id-read_u16.false)
