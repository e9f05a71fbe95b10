-- The record's link is the chain's first number, and the chain then starts with the record (`entered_all`).
use mathlib.Core.Path.{refl}
use Rattle.book.proofs.RecordChains.{entered_all}
use Rattle.book.proofs.index.enter.Goals as goal

pub returns : goal.returns
returns c b indexed h-is =
    entered_all _ b _ (indexed, c.requires.0) _ refl _ (h-is, c.requires.1)
    _ c.read_u16-first.ensures _ _ c.write_u16.ensures c.write_u16-2.ensures
