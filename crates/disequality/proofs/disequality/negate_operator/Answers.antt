-- The operators in turn, as in the definition.
use borrow.Author.Rules.{rules}
use Rattle.numbers.specs.Choice.{when◌then◌else◌}
use Rattle.disequality.specs.Disequality.{negate_operator}
use Rattle.disequality.proofs.disequality.negate_operator.Goals as goal

pub returns-in-5 : goal.returns-in-5
unfolding negate_operator when◌then◌else◌
returns-in-5 c = search rules

pub returns-in-6 : goal.returns-in-6
unfolding negate_operator when◌then◌else◌
returns-in-6 c = search rules

pub returns-in-7 : goal.returns-in-7
unfolding negate_operator when◌then◌else◌
returns-in-7 c = search rules

pub returns-in-8 : goal.returns-in-8
unfolding negate_operator when◌then◌else◌
returns-in-8 c = search rules

pub returns-in_default : goal.returns-in_default
unfolding negate_operator when◌then◌else◌
returns-in_default c = search rules
