-- The number at k is an argument where it is an earlier record; it lies in the bytes where k is below half their length.
use borrow.Author.Rules.{rules}
use Rattle.terms.proofs.RecordBytes.{argument-earlier, argument_late, argument-past}
use Rattle.terms.proofs.records.argument.Goals as goal

pub returns-then-a-id : goal.returns-then-a-id
returns-then-a-id c = argument-earlier _ _ _ _ (search rules) c.read_u16-a.ensures (search rules)

pub returns-else-a-id : goal.returns-else-a-id
returns-else-a-id c = argument_late _ _ _ _ (search rules) c.read_u16-a.ensures (search rules)

pub returns-else-k-args : goal.returns-else-k-args
returns-else-k-args c = argument-past _ _ _ (search rules)
