-- No operator takes more than 14 arguments, so that 28 bytes hold them.
use mathlib.Core.Path.{sym, ◌∙◌}
use native.Mathlib.Omega.{arith}
use Rattle.terms.proofs.Layouts.{count-bounded}
use Rattle.book.proofs.layout.arguments_ok.Goals.{then-count_ok, else-count_ok}
use Rattle.book.proofs.layout.arguments_ok.Goals as goal

pub overflow_sub-used : goal.overflow_sub-used
overflow_sub-used c =
    elim c.if-count_ok.branch [
      | then-count_ok w ↦ omega (arith, count-bounded _ c.byte-n.result (sym c.count_ok.ensures ∙ w.if-count_ok.true))
      | else-count_ok w ↦ cc
    ]
