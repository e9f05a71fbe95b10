-- The forms are tried in turn: where one is not found, the next is.
use borrow.Author.Rules.{rules}
use Rattle.terms.specs.Term.{Term}
use Rattle.rules.specs.Shapes.{assert_eq}
use Rattle.linear_shapes.specs.LinearShapes.{tautology_case, assert_less_than, assert_less_eq}
use Rattle.linear_shapes.proofs.linear_shapes.tautology_case.Goals as goal

pub returns-in-Some : goal.returns-in-Some
unfolding tautology_case
returns-in-Some c =
    let found = c.bounds_case.ensures c.args.book.now assert_less_eq (λ r h. search rules) in
    search rules

pub returns-in-Some-second_negated : goal.returns-in-Some-second_negated
unfolding tautology_case
returns-in-Some-second_negated c =
    let found = c.bounds_case-in-Some-second_negated.ensures c.args.book.now assert_eq (λ r h. search rules) in
    search rules

pub returns-in-Some-first_negated : goal.returns-in-Some-first_negated
unfolding tautology_case
returns-in-Some-first_negated c =
    let at_most = λ (d1 d2 : Term). assert_less_eq d2 d1 in
    let found = c.bounds_case-in-Some-first_negated.ensures c.args.book.now at_most (λ r h. search rules) in
    search rules

pub returns-in-Some-second_negated-2 : goal.returns-in-Some-second_negated-2
unfolding tautology_case
returns-in-Some-second_negated-2 c =
    let found = c.bounds_case-in-Some-second_negated-2.ensures c.args.book.now assert_eq (λ r h. search rules) in
    search rules

pub returns-in-Some-both_negated : goal.returns-in-Some-both_negated
unfolding tautology_case
returns-in-Some-both_negated c =
    let found = c.bounds_case-in-Some-both_negated.ensures c.args.book.now assert_less_than (λ r h. search rules) in
    search rules

pub returns : goal.returns
unfolding tautology_case
returns c = search rules
