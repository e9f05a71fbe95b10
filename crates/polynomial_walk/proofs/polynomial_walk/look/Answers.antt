-- The node by the operator: the arms of the match are those of the definition. A minus of one argument and a
-- difference are told apart by the number of arguments, which are two bytes each.
use Rattle.std.proofs.Common.{sym, ◌∙◌, inl, inr, ⊎_elim, arith, rules}
use Rattle.rules.proofs.ArgumentsLeft.{counted}
use Rattle.polynomial_walk.proofs.NodeAnswers.{sum-node, sums-node, product-node, quotient-node, leaf-node}
use Rattle.polynomial_walk.proofs.NodeAnswers.{opposite-node, negation-node, vector-difference-node}
use Rattle.polynomial_walk.proofs.NodeAnswers.{difference-node, OutOfSums}
use Rattle.polynomial_walk.proofs.polynomial_walk.look.Goals as goal
use Rattle.polynomial_walk.proofs.polynomial_walk.look.Goals.{in_default-via-then-this-lt13}
use Rattle.polynomial_walk.proofs.polynomial_walk.look.Goals.{in_default-via-else-this-lt13+else-this-lt16}

pub returns-then-args-eq1 : goal.returns-then-args-eq1
returns-then-args-eq1 c =
    negation-node _ _ c.neg-minus.ensures (search rules)
    (sym (counted _ _ _ _ c.args-in-10.ensures.terms) ∙ search rules)

pub returns-else-args-eq1 : goal.returns-else-args-eq1
returns-else-args-eq1 c =
    difference-node _ _ c.neg-minus.ensures (search rules)
    (λ n. c.if-args-eq1.false (counted _ _ _ _ c.args-in-10.ensures.terms ∙ n)) c.requires

pub returns-in-16 : goal.returns-in-16
returns-in-16 c = vector-difference-node _ _ c.neg-minus.ensures (search rules) c.requires

pub returns-in-17 : goal.returns-in-17
returns-in-17 c = opposite-node _ _ c.neg-minus.ensures (search rules)

pub returns-in-11 : goal.returns-in-11
returns-in-11 c =
    let operator = c.operator.ensures in
    product-node _ _ (⊎_elim (λ e. inl (sym operator ∙ e)) (λ e. inr (sym operator ∙ e)) c.in-11.is)

pub returns-in-13 : goal.returns-in-13
returns-in-13 c = quotient-node _ _ (search rules) c.quotient.ensures

pub returns-in_default : goal.returns-in_default
returns-in_default c =
    let out : OutOfSums c.operator.result = elim c.in_default.branch [
      | in_default-via-then-this-lt13 w ↦ inl (omega arith)
      | in_default-via-else-this-lt13+else-this-lt16 w ↦ inr (omega arith)
    ] in
    leaf-node _ _ c.operator.ensures (record {
      not-add = λ e. search rules;
      not-sub = λ e. search rules;
      not-bv_sub = λ e. search rules;
      not-bv_neg = λ e. search rules;
      not-mult = λ e. search rules;
      not-bv_mul = λ e. search rules;
      not-real_div = λ e. search rules;
    }) out c.leaf.ensures

pub returns-in-9 : goal.returns-in-9
returns-in-9 c = sum-node _ _ (search rules) c.requires

pub returns-in-9-2 : goal.returns-in-9-2
returns-in-9-2 c = sums-node _ _ (omega arith) (omega arith) c.requires
