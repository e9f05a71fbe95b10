-- The rule by the number of literals, and the form of the only one.
use native.Mathlib.Omega.{arith}
use Rattle.std.proofs.lemmas.Grind.{common_steps}
use Rattle.rules.specs.Refusal.{or_else, ◌>>=◌}
use Rattle.rules.proofs.ShapeSteps.{literal_is}
use Rattle.linear_arithmetic.specs.LinearArithmetic.{la_tautology}
use Rattle.linear_arithmetic.specs.Memory.LinearSteps.{tautology_of}
use Rattle.linear_arithmetic.proofs.Tautologies.{phi-inside}
use Rattle.linear_arithmetic.proofs.linear_arithmetic.la_tautology.Goals as goal

pub returns-in_err-phi-clause-value : goal.returns-in_err-phi-clause-value
unfolding la_tautology or_else ◌>>=◌
returns-in_err-phi-clause-value c = grind (arith, common_steps)

pub tautology-requires : goal.tautology-requires
tautology-requires c = (
  c.requires.0,
  phi-inside c.args.book.now _ _ (literal_is _ _ c.only_literal.ensures c.in_ok-phi.ensures.ok_part) c.requires.1,
)

pub returns-in_default-clause-value : goal.returns-in_default-clause-value
unfolding la_tautology tautology_of or_else ◌>>=◌
returns-in_default-clause-value c = grind (arith, common_steps)

pub returns-in_err-tautology_case-clause-value : goal.returns-in_err-tautology_case-clause-value
unfolding la_tautology or_else ◌>>=◌
returns-in_err-tautology_case-clause-value c = grind (arith, common_steps)

pub returns-clause-value : goal.returns-clause-value
unfolding la_tautology or_else ◌>>=◌
returns-clause-value c = grind (arith, common_steps)
