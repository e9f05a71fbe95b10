-- `book_cases::try_book` is safe: the work area that it lends is zeros, so the index in it is empty.
use Rattle.std.proofs.Common.{rules}
use Rattle.book.proofs.RecordChains.{unused-zeros}
use Rattle.book_cases.proofs.try_book.Goals as goal

pub read_book-requires : goal.read_book-requires
read_book-requires g c = (search rules, unused-zeros 8192)
