-- A record that is noted is inserted. One that is not is no key, so `append` may enter it once it is noted.
use mathlib.Core.Path.{sym, ◌∙◌}
use Rattle.linear_comb.proofs.NotedAtoms.{noting-known, noting-other, noted_absent}
use Rattle.linear_comb.proofs.notes.enter.Goals as goal

pub returns-then-is_noted-clause-noted_after : goal.returns-then-is_noted-clause-noted_after
returns-then-is_noted-clause-noted_after c =
    sym (noting-known _ _ (sym c.is_noted.ensures ∙ c.if-is_noted.true))

pub returns-clause-noted_after : goal.returns-clause-noted_after
returns-clause-noted_after c =
    c.note.ensures ∙ sym (noting-other _ _ (sym c.is_noted.ensures ∙ c.if-is_noted.false))

pub returns-clause-inserts : goal.returns-clause-inserts
returns-clause-inserts c b kept inside noted l =
    let other = sym c.is_noted.ensures ∙ c.if-is_noted.false in
    c.append.ensures.inserts b kept inside (noted_absent _ _ other _ noted.keys) l
