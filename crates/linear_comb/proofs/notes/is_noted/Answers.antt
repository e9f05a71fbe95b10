-- The bit is read as the definition reads it.
use borrow.Author.Rules.{rules}
use Rattle.linear_comb.specs.Memory.Notes.{is_noted}
use Rattle.linear_comb.proofs.notes.is_noted.Goals as goal

pub returns : goal.returns
unfolding is_noted
returns c = search rules
