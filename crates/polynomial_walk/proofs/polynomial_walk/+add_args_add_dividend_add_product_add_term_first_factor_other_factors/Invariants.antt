-- The walk of a term, the walk of its arguments and the product of its factors, which call each other. What falls is
-- the record's number, then what is left of its factors: each argument, each factor and each dividend is an earlier
-- record. The arguments of record i count as 4 i spans, and so do its factors behind the first, with the bytes that are
-- left of them; all its factors count as 4 i + 1 spans, its product as 4 i + 2, its term as 4 i + 3, and in the place
-- of a quotient as 4 i + 4. The loop's invariant is `Walking` of PolynomialArgWalks.
use Rattle.std.proofs.Common.{ℕ, ◌+◌, ◌*◌, length}
use Rattle.polynomial_walk.proofs.PolynomialArgWalks.{Walking}
use Rattle.polynomial_walk.proofs.polynomial_walk.+add_args_add_dividend_add_product_add_term_first_factor_other_factors.Given as goal

-- more than a part has bytes
abbrev pub span : ℕ
span = 18446744073709551616

abbrev pub decreases-add_args : goal.decreases-add_args
decreases-add_args l = span * (4 * l.id)

abbrev pub decreases-add_dividend : goal.decreases-add_dividend
decreases-add_dividend l = span * (4 * l.id + 4)

abbrev pub decreases-add_product : goal.decreases-add_product
decreases-add_product l = span * (4 * l.id + 2)

abbrev pub decreases-add_term : goal.decreases-add_term
decreases-add_term l = span * (4 * l.id + 3)

abbrev pub decreases-first_factor : goal.decreases-first_factor
decreases-first_factor l = span * (4 * l.id + 1)

abbrev pub decreases-other_factors : goal.decreases-other_factors
decreases-other_factors l = span * (4 * l.id) + length l.rest.now

abbrev pub invariant-add_args-loop-k : goal.invariant-add_args-loop-k
invariant-add_args-loop-k l =
    Walking l.book l.fn.stack l.args l.id l.limit l.depth l.fn.first l.others l.fn.w l.stack l.done l.coeff l.k
