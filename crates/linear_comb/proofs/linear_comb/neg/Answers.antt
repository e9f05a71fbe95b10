use mathlib.Core.Path.{refl}
use Rattle.linear_comb.proofs.EntryLoops.{begin, put, over}
use Rattle.linear_comb.proofs.CombinationLoops.{negates_next, negates_all}
use Rattle.linear_comb.proofs.linear_comb.neg.Goals as goal

pub loop-k-preserved : goal.loop-k-preserved
loop-k-preserved c =
    put c.loop-k.invariant c.loop-k-test.true c.value_at-value.ensures.is c.key_at-key.ensures.0
    c.neg.ensures.proper c.put_entry.ensures c.put_entry.auto.entries
    (λ b d t r h. negates_next _ d t _ _ r c.neg.ensures.is h)

pub returns-clause-held : goal.returns-clause-held
returns-clause-held c b kept = negates_all _ (over c.loop-k.invariant c.loop-k-test.false b kept.kept)

pub loop-k-init : goal.loop-k-init
loop-k-init c = begin (λ b. refl)
