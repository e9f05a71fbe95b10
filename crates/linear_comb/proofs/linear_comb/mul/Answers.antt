-- `mul` returns in five ways, and ScaledCombinations has the answer of each. Past the two tests it is known that the
-- factor is neither 0 nor 1, and past `scale_all` what it says of the entries.
use mathlib.Core.Path.{◌≡◌, sym, ◌∙◌, ap}
use mathlib.Core.Bool.{Bool}
use lib.IntN.{pos}
use Rattle.numbers.specs.Rational.{Rational, whole, eq_q}
use Rattle.rules.proofs.Results.{handed_on}
use Rattle.linear_comb.proofs.ScaledCombinations.{times_zero, times_one_lem, entry_out, constant_out, scaled}
use Rattle.linear_comb.proofs.linear_comb.mul.Goals as goal

pub returns-then-is_zero-clause-combines : goal.returns-then-is_zero-clause-combines
returns-then-is_zero-clause-combines c b kept l =
    times_zero kept _ l (sym c.is_zero.ensures ∙ c.if-is_zero.true) c.clear.ensures c.new.ensures

tested :
    (q : Rational) {one : Rational} {r : Bool} → r ≡ eq_q q one → one ≡ whole (pos 1) → eq_q q (whole (pos 1)) ≡ r
tested q is one-is = sym (is ∙ ap (eq_q q) one-is)

pub returns-then-eq-clause-combines : goal.returns-then-eq-clause-combines
returns-then-eq-clause-combines c b kept l =
    times_one_lem kept _ l (sym c.is_zero.ensures ∙ c.if-is_zero.false)
    (tested _ c.eq.ensures c.whole.ensures ∙ c.if-eq.true)

pub returns-in_err-scale_all-clause-combines : goal.returns-in_err-scale_all-clause-combines
returns-in_err-scale_all-clause-combines c b kept l =
    rw (handed_on c.from_residual.ensures.1)
    (entry_out kept _ l (sym c.is_zero.ensures ∙ c.if-is_zero.false)
    (tested _ c.eq.ensures c.whole.ensures ∙ c.if-eq.false) (c.in_err-scale_all.ensures.inserts b kept.kept l))

pub returns-in_default-clause-combines : goal.returns-in_default-clause-combines
returns-in_default-clause-combines c b kept l =
    constant_out kept _ l (sym c.is_zero.ensures ∙ c.if-is_zero.false)
    (tested _ c.eq.ensures c.whole.ensures ∙ c.if-eq.false)
    (c.in_ok-scale_all.ensures.inserts b kept.kept l)
    (sym c.mul.ensures.is ∙ c.in_default.is) c.clear-in_default.ensures

pub returns-clause-combines : goal.returns-clause-combines
returns-clause-combines c b kept l =
    scaled kept _ l (sym c.is_zero.ensures ∙ c.if-is_zero.false)
    (tested _ c.eq.ensures c.whole.ensures ∙ c.if-eq.false)
    (c.in_ok-scale_all.ensures.inserts b kept.kept l)
    (sym c.mul.ensures.is ∙ c.in-Some.is) (c.mul.ensures.proper _ c.in-Some.is)
