-- `Number::mul` answers the product or leaves the range, and the node is made of its answer.
use Rattle.linear_walk.specs.declared.nodes.Node.TheVariants.{Factor}
use Rattle.linear_walk.specs.Memory.LinearNodes.{factor_node}
use Rattle.rules.proofs.Results.{handed_on}
use Rattle.linear_walk.proofs.NodeAnswers.{scaled, scaled-outside}
use Rattle.linear_walk.proofs.nodes.factor.Goals as goal

pub returns-in_err-c : goal.returns-in_err-c
unfolding factor_node
returns-in_err-c c =
    rw (handed_on c.from_residual.ensures.1)
    (scaled-outside (λ q. Factor c.args.x q) _ c.mul.ensures c.in_err-c.ensures.value)

pub returns : goal.returns
unfolding factor_node
returns c =
    let found = c.in_ok-c.ensures.ok_part in
    scaled (λ q. Factor c.args.x q) _ c.mul.ensures found (c.mul.ensures.proper _ found)
