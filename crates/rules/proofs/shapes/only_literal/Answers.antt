-- A part of four to seven bytes has one record.
use borrow.Author.Rules.{rules}
use Rattle.rules.proofs.ShapeSteps.{literal-found, no_literal-found}
use Rattle.rules.proofs.shapes.only_literal.Goals as goal

pub returns-then-literals-eq1 : goal.returns-then-literals-eq1
returns-then-literals-eq1 c = literal-found _ (search rules) (search rules)

pub returns : goal.returns
returns c = no_literal-found _ (search rules)
