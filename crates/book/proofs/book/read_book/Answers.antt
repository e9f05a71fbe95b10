-- The sorts are left once the index is emptied (`left-cleared` of IndexedReading).
use Rattle.book.proofs.IndexedReading.{left-cleared}
use Rattle.book.proofs.book.read_book.Goals as goal

pub returns : goal.returns
returns c =
    left-cleared _ _ _ _ _ c.requires.1 c.read_records-read.ensures c.clear.ensures
