-- Where all arguments are numbers, argument k is the one that is read, and there is none past the end.
use native.Mathlib.Omega.{arith}
use Rattle.rules.proofs.RunParts.{length-numbers_in}
use Rattle.linear_arithmetic.proofs.ReadParts.{argument_of_lem, argument-proper, argument-beyond}
use Rattle.linear_arithmetic.proofs.linear_arithmetic.argument_at.Goals as goal

pub number_in-requires : goal.number_in-requires
number_in-requires c = omega (arith, length-numbers_in c.args.args.now)

pub returns-then-k-args-clause-by_index : goal.returns-then-k-args-clause-by_index
returns-then-k-args-clause-by_index c =
    rw c.ok.ensures.value (argument_of_lem _ _ _ _ c.if-k-args.true c.number_in.ensures _ c.as_fraction_err.ensures)

pub returns-then-k-args-clause-coefficient_proper : goal.returns-then-k-args-clause-coefficient_proper
returns-then-k-args-clause-coefficient_proper c =
    rw c.ok.ensures.value (argument-proper _ (c.as_fraction_err.ensures 0))

pub returns-else-k-args-clause-by_index : goal.returns-else-k-args-clause-by_index
returns-else-k-args-clause-by_index c = argument-beyond _ _ _ c.if-k-args.false
