-- By whether there is a relation, and by the number of its sides, which are two bytes each.
use borrow.Author.Rules.{rules}
use Rattle.rules.proofs.Results.{handed_on}
use Rattle.disequality.proofs.Relations.{no_relation_of, other-sides, two-sides}
use Rattle.disequality.proofs.disequality.relation_of.Goals as goal

pub returns-in_err-o : goal.returns-in_err-o
returns-in_err-o c =
    rw (handed_on c.from_residual.ensures.1) (no_relation_of _ _ _ c.inner.ensures c.in_err-o.ensures.value)

pub returns-then-sides-ne2 : goal.returns-then-sides-ne2
returns-then-sides-ne2 c =
    other-sides _ _ (rw c.in_ok-o.ensures.ok_part at c.inner.ensures) _ c.args-sides.ensures.terms (search rules)

pub returns : goal.returns
returns c =
    two-sides _ _ (rw c.in_ok-o.ensures.ok_part at c.inner.ensures) _ c.args-sides.ensures.terms c.requires.0
    (search rules) c.argument.ensures c.argument-2.ensures
