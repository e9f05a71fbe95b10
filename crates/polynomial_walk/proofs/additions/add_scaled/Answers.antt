-- The product's entries are entered and its area is emptied; then its constant, times the number, is added. Every
-- refusal empties both areas.
use Rattle.rules.proofs.Results.{handed_on}
use Rattle.polynomial_walk.proofs.PolynomialSums.{scaled_out, scaled-outside, scaled-added}
use Rattle.polynomial_walk.proofs.additions.add_scaled.Goals as goal

pub returns-in_err-len : goal.returns-in_err-len
returns-in_err-len c b m n stack has has_p l =
    rw (handed_on c.from_residual.ensures.1)
    (scaled_out _ stack has has_p _ l c.in_err-len.ensures.inserts_at c.clear_at.ensures)

pub returns-in_default : goal.returns-in_default
returns-in_default c b m n stack has has_p l =
    scaled-outside _ stack has has_p _ l c.in_ok-len.ensures.inserts_at c.clear_at.ensures c.mul.ensures
    c.in_default.is c.clear_at-in_default.ensures

pub returns : goal.returns
returns c b m n stack has has_p l =
    scaled-added _ stack has has_p _ l c.in_ok-len.ensures.inserts_at c.clear_at.ensures c.mul.ensures c.in-Some.is
    c.add_constant.ensures
