-- The book is read into a work area of zeros.
use mathlib.Core.Path.{refl}
use borrow.Author.Rules.{rules}
use lib.ListN.{length}
use Rattle.numbers.proofs.ClearedBytes.{cleared-zeros}
use Rattle.book.proofs.RecordChains.{unused-zeros}
use Rattle.runs.proofs.prepare.prepare.Goals as goal

pub read_book-requires : goal.read_book-requires
read_book-requires c =
    (search rules, rw (cleared-zeros _ c.clear_from.ensures refl) (unused-zeros (length c.args.work.now)))

pub returns : goal.returns
returns c =
    rw (← cleared-zeros _ c.clear_from.ensures refl) c.read_book.ensures
