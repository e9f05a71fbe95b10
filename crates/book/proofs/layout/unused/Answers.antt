-- A place past the end has no bytes.
use mathlib.Core.Path.{◌∙◌}
use borrow.Author.Tests.{lt-ltb}
use Rattle.terms.proofs.Layouts.{unused-past}
use Rattle.book.proofs.layout.unused.Goals as goal

pub returns-then-r-k : goal.returns-then-r-k
returns-then-r-k c =
    let a = c.args in
    lt-ltb _ _ c.if-r-k.true ∙ unused-past a.n a.r.now a.k c.if-r-k.true
