use mathlib.Core.Path.{sym, ◌∙◌}
use Rattle.linear_comb.proofs.EntryLoops.{begin, at, put, over, cleared}
use Rattle.linear_comb.proofs.CombinationLoops.{scales_first, scales_next, scales_out, scales_all}
use Rattle.linear_comb.proofs.linear_comb.scale_all.Goals as goal

pub returns-in_default-clause-inserts : goal.returns-in_default-clause-inserts
returns-in_default-clause-inserts c b kept =
    let loop = c.loop-k.invariant in
    let x = at loop c.loop-k-test.true c.value_at-value.ensures.is b kept in
    scales_out _ _ x.done x.term _ x.rest x.stands (sym c.mul.ensures.is ∙ c.in_default.is)
    (cleared loop c.clear.ensures b kept)

pub loop-k-preserved : goal.loop-k-preserved
loop-k-preserved c =
    put c.loop-k.invariant c.loop-k-test.true c.value_at-value.ensures.is c.key_at-key.ensures.0
    (c.mul.ensures.proper _ c.in-Some.is) c.put_entry.ensures c.put_entry.auto.entries
    (λ b d t r h. scales_next _ _ d t _ r h _ (sym c.mul.ensures.is ∙ c.in-Some.is))

pub loop-k-init : goal.loop-k-init
loop-k-init c = begin (λ b. scales_first _ _)

pub returns-clause-inserts : goal.returns-clause-inserts
returns-clause-inserts c b kept = scales_all _ _ (over c.loop-k.invariant c.loop-k-test.false b kept)
