-- Two bytes make the key of the entry.
use borrow.Author.Rules.{rules}
use Rattle.numbers.proofs.LittleEndian.{le_of_two}
use Rattle.index_map.proofs.index_map.first_key.Goals as goal

pub returns : goal.returns
returns c = le_of_two c.args.entry.now 0 _ _ (search rules) c.wide.ensures.0 c.wide-2.ensures.0
