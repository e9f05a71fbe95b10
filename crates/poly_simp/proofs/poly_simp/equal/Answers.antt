-- The first side is walked into an empty stack and the second above it: the laws are in PolynomialSides.
use mathlib.Core.Path.{◌∙◌}
use Rattle.rules.proofs.Results.{handed_on}
use Rattle.poly_simp.proofs.PolynomialSides.{first_pre, first_refused, second_pre, first_area, second_refused}
use Rattle.poly_simp.proofs.PolynomialSides.{both-walked, sides-differ}
use Rattle.poly_simp.proofs.poly_simp.equal.Goals as goal

pub add_term-requires : goal.add_term-requires
add_term-requires c =
    first_pre c.requires.1.0 _ c.whole-one.ensures c.new-begun.ensures c.requires.0.0 c.requires.0.1.0

pub add_term-requires-2 : goal.add_term-requires-2
add_term-requires-2 c =
    second_pre c.requires.1.0 _ c.whole-one.ensures c.new-begun.ensures _ _ c.in_ok-left.ensures c.add_term.auto.stack
    c.new-begun-2.ensures c.requires.0.0 c.requires.0.1.1

pub clear_at-requires : goal.clear_at-requires
clear_at-requires c =
    first_area c.requires.1.0 _ c.whole-one.ensures c.new-begun.ensures _ _ c.in_ok-left.ensures c.add_term.auto.stack _
    c.add_term-2.auto.stack

pub differ-requires : goal.differ-requires
differ-requires c = (
  c.requires.1.1,
  both-walked c.requires.1.0 _ c.whole-one.ensures c.new-begun.ensures _ _ c.in_ok-left.ensures c.add_term.auto.stack _
      c.add_term-2.auto.stack c.new-begun-2.ensures _ c.in-Ok.ensures,
)

pub returns-in_err-left : goal.returns-in_err-left
returns-in_err-left c =
    let made =
    first_refused c.requires.1.0 _ c.whole-one.ensures c.new-begun.ensures c.args.counter.limit c.args.t c.args.sort
    c.args.s c.in_err-left.ensures c.add_term.auto.stack in
    record { value = handed_on c.from_residual.ensures.1 ∙ made.0; stack_unchanged = made.1 }

pub returns-in-Err : goal.returns-in-Err
returns-in-Err c =
    let made =
    second_refused c.requires.1.0 _ c.whole-one.ensures c.new-begun.ensures c.args.counter.limit c.args.t
    c.in_ok-left.ensures c.add_term.auto.stack _ c.add_term-2.auto.stack c.new-begun-2.ensures c.args.s c.args.sort
    c.in-Err.ensures c.clear_at.ensures c.clear_at.auto.stack in
    record { value = made.0; stack_unchanged = made.1 }

pub returns-in-Ok : goal.returns-in-Ok
returns-in-Ok c =
    let made =
    sides-differ c.requires.1.0 _ c.whole-one.ensures c.new-begun.ensures c.args.counter.limit c.args.t
    c.in_ok-left.ensures c.add_term.auto.stack _ c.add_term-2.auto.stack c.new-begun-2.ensures c.args.s
    c.in-Ok.ensures c.args.sort c.differ.ensures c.differ.auto.stack in
    record { value = made.0; stack_unchanged = made.1 }
