-- `Number::mul` answers the product or leaves the range, and the node is made of its answer.
use Rattle.rules.proofs.Results.{handed_on}
use Rattle.polynomial_walk.proofs.NodeAnswers.{scaled, scaled-outside}
use Rattle.polynomial_walk.proofs.polynomial_walk.constant.Goals as goal

pub returns-in_err-c : goal.returns-in_err-c
returns-in_err-c c =
    rw (handed_on c.from_residual.ensures.1) (scaled-outside _ _ c.mul.ensures c.in_err-c.ensures.value)

pub returns : goal.returns
returns c = scaled _ _ c.mul.ensures c.in_ok-c.ensures.ok_part
