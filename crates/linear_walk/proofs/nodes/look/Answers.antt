-- The node by the operator: the arms of the match are those of the definition. A minus of one argument and a
-- difference are told apart by the number of arguments, which are two bytes each.
use Rattle.std.proofs.Common.{rules, sym, ◌∙◌}
use Rattle.linear_walk.proofs.NodeAnswers.{sum-node, negation-node, difference-node, product-node}
use Rattle.linear_walk.proofs.NodeAnswers.{other-product-node, read-leaf, leaf-node, plain-node}
use Rattle.rules.proofs.ArgumentsLeft.{counted}
use Rattle.linear_walk.proofs.nodes.look.Goals as goal

pub returns-in-0 : goal.returns-in-0
returns-in-0 c = plain-node _ _ (search rules) c.as_number.ensures c.leaf.ensures

pub returns-in-9 : goal.returns-in-9
returns-in-9 c = sum-node _ _ (search rules) c.requires

pub returns-then-args-eq1 : goal.returns-then-args-eq1
returns-then-args-eq1 c =
    negation-node _ _ (search rules) c.neg-minus.ensures
    (sym (counted _ _ _ _ c.args-in-10.ensures.terms) ∙ search rules)

pub returns-else-args-eq1 : goal.returns-else-args-eq1
returns-else-args-eq1 c =
    difference-node _ _ (search rules) c.neg-minus.ensures
    (λ n. c.if-args-eq1.false (counted _ _ _ _ c.args-in-10.ensures.terms ∙ n)) c.requires

pub returns-in-Some : goal.returns-in-Some
returns-in-Some c = product-node _ _ _ c.binary.ensures c.in-Some.is c.product.ensures

pub returns-in-None : goal.returns-in-None
returns-in-None c =
    other-product-node _ _ _ c.binary.ensures (search rules) c.in-None.is
    (read-leaf _ _ c.as_fraction.ensures c.leaf-in-None.ensures)

pub returns-in_default : goal.returns-in_default
returns-in_default c =
    leaf-node _ _ (λ e. search rules) (λ e. search rules) (λ e. search rules)
    (read-leaf _ _ c.as_fraction-in_default.ensures c.leaf-in_default.ensures)
