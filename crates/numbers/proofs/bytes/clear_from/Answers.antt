-- Behind byte n all is filled with zeros; where no byte is behind it, the area stays.
use borrow.Author.Rules.{rules}
use native.Mathlib.Omega.{arith}
use Rattle.numbers.proofs.ClearedBytes.{cleared_rest, cleared_nothing}
use Rattle.numbers.proofs.bytes.clear_from.Goals as goal

pub returns-then-n-area : goal.returns-then-n-area
returns-then-n-area c = cleared_rest _ _ (search rules) (omega arith)

pub returns-else-n-area : goal.returns-else-n-area
returns-else-n-area c = cleared_nothing _ _ c.if-n-area.false
