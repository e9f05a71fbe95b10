-- Each arm of the match is a kind of `layout_ok`.
use native.Mathlib.Omega.{arith}
use borrow.Author.Rules.{rules}
use Rattle.numbers.specs.Choice.{when◌then◌else◌}
use Rattle.terms.proofs.Layouts.{layout_of_kind, layout_of_none}
use Rattle.book.proofs.layout.layout_ok.Goals as goal

pub returns-in_default : goal.returns-in_default
returns-in_default c =
    layout_of_none c.byte.result _ _ c.byte.ensures (λ e. omega arith) (λ e. omega arith) (λ e. omega arith)
    (λ e. omega arith) (λ e. omega arith)

pub returns-in-1 : goal.returns-in-1
unfolding when◌then◌else◌
returns-in-1 c = layout_of_kind 1 _ _ _ (search rules) c.in-1.is c.integer_ok.ensures

pub returns-in-2 : goal.returns-in-2
unfolding when◌then◌else◌
returns-in-2 c = layout_of_kind 2 _ _ _ (search rules) c.in-2.is c.real_ok.ensures

pub returns-in-3 : goal.returns-in-3
unfolding when◌then◌else◌
returns-in-3 c = layout_of_kind 3 _ _ _ (search rules) c.in-3.is c.vector_ok.ensures

pub returns-in-4 : goal.returns-in-4
unfolding when◌then◌else◌
returns-in-4 c = layout_of_kind 4 _ _ _ (search rules) c.in-4.is c.atom_ok.ensures

pub returns-in-5 : goal.returns-in-5
unfolding when◌then◌else◌
returns-in-5 c = layout_of_kind 5 _ _ _ (search rules) c.in-5.is c.operation_ok.ensures
