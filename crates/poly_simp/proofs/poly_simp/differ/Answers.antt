-- The two polynomials are reduced and subtracted, and the difference is emptied: the laws are in PolynomialDifferences.
use mathlib.Core.Path.{sym, ◌∙◌}
use native.Mathlib.Omega.{arith}
use borrow.Author.Rules.{rules}
use Rattle.rules.proofs.Results.{handed_on}
use Rattle.poly_simp.proofs.PolynomialDifferences.{two-areas, first_few, second_few, reduced-ready, clear_ready}
use Rattle.poly_simp.proofs.PolynomialDifferences.{differ-refused, differ-equal, differ-unequal}
use Rattle.poly_simp.proofs.poly_simp.differ.Goals.{else-d-eq0-via-then-d-eq0+else-is_zero, else-d-eq0-via-else-d-eq0}
use Rattle.poly_simp.proofs.poly_simp.differ.Goals as goal

pub reduced-a-requires : goal.reduced-a-requires
reduced-a-requires c =
    let two = c.requires.1.1.1.1 in
    let areas = two-areas two.0 in
    (omega (arith, areas), (first_few two.0 two.1.0, (two.1.0.proper, c.requires.0)))

pub reduced-b-requires : goal.reduced-b-requires
reduced-b-requires c =
    let two = c.requires.1.1.1.1 in
    let areas = two-areas two.0 in
    (omega (arith, areas), (second_few two.0 two.1.1, (two.1.1.proper, c.requires.0)))

pub sub-requires : goal.sub-requires
sub-requires c =
    let two = c.requires.1.1.1.1 in
    reduced-ready c.args.p c.args.q _ _ c.args.sort c.reduced-a.ensures c.reduced-b.ensures two.0 two.1.0 two.1.1

pub clear_at-requires : goal.clear_at-requires
clear_at-requires c =
    let two = c.requires.1.1.1.1 in
    clear_ready c.args.p c.args.q _ _ c.args.sort c.reduced-a.ensures c.reduced-b.ensures two.0 two.1.0 two.1.1
    c.in_ok-d.ensures

-- ---- the verdicts

pub returns-in_err-d : goal.returns-in_err-d
returns-in_err-d c =
    rw (handed_on c.from_residual.ensures.1)
    (differ-refused c.args.p c.args.q _ _ c.args.sort c.reduced-a.ensures c.reduced-b.ensures c.args.visits
    c.in_err-d.ensures)

pub returns-then-is_zero : goal.returns-then-is_zero
returns-then-is_zero c =
    differ-equal c.args.p c.args.q _ _ c.args.sort c.reduced-a.ensures c.reduced-b.ensures c.args.visits
    c.in_ok-d.ensures c.clear_at.ensures (search rules) (sym c.is_zero.ensures ∙ c.if-is_zero.true)

pub returns-else-d-eq0 : goal.returns-else-d-eq0
returns-else-d-eq0 c =
    differ-unequal c.args.p c.args.q _ _ c.args.sort c.reduced-a.ensures c.reduced-b.ensures c.args.visits
    c.in_ok-d.ensures c.clear_at.ensures
    (λ none. elim c.else-d-eq0.branch [
      | else-d-eq0-via-then-d-eq0+else-is_zero w ↦ sym w.is_zero.ensures ∙ w.if-is_zero.false
      | else-d-eq0-via-else-d-eq0 w ↦ absurd (w.if-d-eq0.false none)
    ])
