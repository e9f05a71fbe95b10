-- The argument that is given is taken; where there is none, it is the inference's.
use native.Mathlib.Omega.{arith}
use mathlib.Core.Path.{refl, sym}
use Rattle.std.proofs.lemmas.Grind.{common_steps}
use Rattle.rules.specs.Refusal.{◌>>=◌}
use Rattle.rules.proofs.Results.{goes_on}
use Rattle.process_disequality.specs.Memory.ProcessSteps.{argument_from}
use Rattle.process_disequality.proofs.process_disequality.argument_of.Goals as goal

pub returns-in-Some : goal.returns-in-Some
unfolding argument_from
returns-in-Some c = grind (arith, common_steps)

pub returns-in_err-a : goal.returns-in_err-a
unfolding argument_from ◌>>=◌
returns-in_err-a c = grind (arith, common_steps)

pub returns : goal.returns
unfolding argument_from
returns c b p q l =
    let a = c.in_ok-a.ensures b p q l in
    (rw c.in_default.is (sym (goes_on _ a.is refl)), (a.proper _ refl, a.proper _ refl))
