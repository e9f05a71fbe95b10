-- The arms of the `match` are the rows of the table.
use mathlib.Core.Path.{refl}
use native.Mathlib.Omega.{arith}
use Rattle.std.proofs.lemmas.Bool.Decides.{nat_tests}
use Rattle.runs.specs.Rule.{rule_of, with_number}
use Rattle.runs.proofs.rule.rule_of.Goals as goal

pub returns-in-0 : goal.returns-in-0
unfolding rule_of with_number
returns-in-0 c = rw c.in-0.is refl

pub returns-in-1 : goal.returns-in-1
unfolding rule_of with_number
returns-in-1 c = rw c.in-1.is refl

pub returns-in-2 : goal.returns-in-2
unfolding rule_of with_number
returns-in-2 c = rw c.in-2.is refl

pub returns-in-3 : goal.returns-in-3
unfolding rule_of with_number
returns-in-3 c = rw c.in-3.is refl

pub returns-in-4 : goal.returns-in-4
unfolding rule_of with_number
returns-in-4 c = rw c.in-4.is refl

pub returns-in-5 : goal.returns-in-5
unfolding rule_of with_number
returns-in-5 c = rw c.in-5.is refl

pub returns-in-6 : goal.returns-in-6
unfolding rule_of with_number
returns-in-6 c = rw c.in-6.is refl

pub returns-in-7 : goal.returns-in-7
unfolding rule_of with_number
returns-in-7 c = rw c.in-7.is refl

pub returns-in-8 : goal.returns-in-8
unfolding rule_of with_number
returns-in-8 c = rw c.in-8.is refl

pub returns-in_default : goal.returns-in_default
unfolding rule_of with_number
returns-in_default c = grind (arith, nat_tests)
