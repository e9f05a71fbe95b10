-- By whether the literal is a negation, and then by the operator.
use borrow.Author.Rules.{rules}
use Rattle.disequality.proofs.Relations.{negated-relation, negated-low, negated-high, plain-relation, plain_other}
use Rattle.disequality.proofs.disequality.inner.Goals as goal

pub returns-in-4-to-8 : goal.returns-in-4-to-8
returns-in-4-to-8 c =
    negated-relation _ _ c.remove_negation.ensures c.in-Some.is
    c.requires c.operator-o.ensures (search rules) (search rules)

pub returns-in_default-o : goal.returns-in_default-o
returns-in_default-o c =
    negated-low _ _ c.remove_negation.ensures c.in-Some.is
    c.operator-o.ensures (search rules)

pub returns-in_default-o-2 : goal.returns-in_default-o-2
returns-in_default-o-2 c =
    negated-high _ _ c.remove_negation.ensures c.in-Some.is
    c.operator-o.ensures (search rules) (search rules)

pub returns-in_err-negate_operator : goal.returns-in_err-negate_operator
returns-in_err-negate_operator c =
    rw c.from_residual.ensures
    (plain_other _ _ c.remove_negation.ensures c.in_default.is c.operator.ensures c.in_err-negate_operator.ensures)

pub returns : goal.returns
returns c =
    plain-relation _ _ c.remove_negation.ensures c.in_default.is
    c.operator.ensures c.in_ok-negate_operator.ensures c.requires
