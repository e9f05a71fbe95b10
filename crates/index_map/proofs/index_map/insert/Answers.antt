-- Each return is a case of AreaEntry: nothing to insert, a new entry, a sum.
use mathlib.Core.Path.{sym, ◌∙◌}
use native.Mathlib.Omega.{arith}
use borrow.Author.Rules.{rules}
use Rattle.index_map.proofs.AreaEntry.{nothing_inserted, new_inserted, sum_inserted}
use Rattle.index_map.proofs.index_map.insert.Goals as goal

pub returns-then-is_zero-clause-inserts : goal.returns-then-is_zero-clause-inserts
returns-then-is_zero-clause-inserts c = nothing_inserted _ _ _ _ (sym c.is_zero.ensures ∙ c.if-is_zero.true)

pub returns-in_default-clause-inserts : goal.returns-in_default-clause-inserts
returns-in_default-clause-inserts c =
    new_inserted _ _ _ _ (sym c.is_zero.ensures ∙ c.if-is_zero.false) (search rules) _ c.put_entry.ensures _
    c.in_default.ensures (omega arith)

pub returns-clause-inserts : goal.returns-clause-inserts
returns-clause-inserts c =
    sum_inserted _ _ _ _ (sym c.is_zero.ensures ∙ c.if-is_zero.false) _ c.in-Some.ensures.1 c.in-Some.ensures.0
    c.add.ensures.adds
