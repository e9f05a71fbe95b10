-- The entry is read from area 1 and goes into area 0: `enters-turned` of TurnedEntries.
use mathlib.Core.Path.{ap, ◌∙◌}
use lib.ListN.{length}
use borrow.Author.Rules.{rules}
use Rattle.polynomial.proofs.ProductEntries.{part_length}
use Rattle.poly_simp.proofs.TurnedEntries.{enters-turned}
use Rattle.poly_simp.proofs.poly_simp.enter_turned.Goals as goal

pub key_at-key-requires : goal.key_at-key-requires
key_at-key-requires c = (ap length c.area_at.ensures ∙ part_length 1 _ (search rules), search rules)

pub returns-clause-inserts_at : goal.returns-clause-inserts_at
returns-clause-inserts_at c =
    enters-turned c.area_at.ensures c.key_at-key.ensures c.area_at-2.ensures c.value_at-value.ensures.is
    c.neg.ensures.is c.insert_at.ensures.inserts_at
