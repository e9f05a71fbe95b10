-- Each return is a case of AreaEntry: nothing to insert, a new entry.
use mathlib.Core.Path.{sym, ◌∙◌}
use borrow.Author.Rules.{rules}
use Rattle.index_map.proofs.AreaEntry.{nothing_inserted, new-appended}
use Rattle.index_map.proofs.index_map.append.Goals as goal

pub returns-then-is_zero-clause-inserts : goal.returns-then-is_zero-clause-inserts
returns-then-is_zero-clause-inserts c b kept inside _ =
    nothing_inserted _ _ _ _ (sym c.is_zero.ensures ∙ c.if-is_zero.true) b kept inside

pub returns-clause-inserts : goal.returns-clause-inserts
returns-clause-inserts c =
    new-appended _ _ _ _ (sym c.is_zero.ensures ∙ c.if-is_zero.false) (search rules) _ c.put_entry.ensures
