-- By the definition's two tests, and before them by whether both numbers are whole.
use native.Mathlib.Omega.{arith}
use mathlib.Core.Path.{sym}
use borrow.Author.Rules.{rules}
use Rattle.std.proofs.lemmas.Grind.{common_steps}
use Rattle.numbers.specs.Choice.{when◌then◌else◌}
use Rattle.disequality.specs.Disequality.{is_integer_times}
use Rattle.disequality.proofs.WholeProducts.{times-whole}
use Rattle.disequality.proofs.disequality.is_integer_times.Goals as goal

pub returns-then-is_zero : goal.returns-then-is_zero
unfolding is_integer_times when◌then◌else◌
returns-then-is_zero c = grind (arith, common_steps)

pub returns-then-is_integer-2 : goal.returns-then-is_integer-2
returns-then-is_integer-2 c = sym (times-whole _ _ (search rules) (search rules))

pub returns-then-eq : goal.returns-then-eq
unfolding is_integer_times when◌then◌else◌
returns-then-eq c = grind (arith, common_steps)

pub returns : goal.returns
unfolding is_integer_times when◌then◌else◌
returns c = grind (arith, common_steps)
