-- `Number::neg` makes the negation of a number, and the other readings stay.
use borrow.Author.Rules.{rules}
use Rattle.terms.proofs.Findings.{negated-value}
use Rattle.terms.proofs.term.negated.Goals as goal

pub neg-requires : goal.neg-requires
neg-requires c = c.requires.proper _ c.in_ok-x.was

pub returns-in_err-x : goal.returns-in_err-x
returns-in_err-x c = search rules

pub returns : goal.returns
returns c = negated-value c.in_ok-x.was c.neg.ensures
