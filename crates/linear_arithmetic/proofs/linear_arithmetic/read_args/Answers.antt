use native.Mathlib.Omega.{arith}
use mathlib.Core.Path.{◌∙◌}
use Rattle.rules.proofs.Results.{handed_on}
use Rattle.rules.proofs.RunParts.{length-numbers_in}
use Rattle.linear_arithmetic.proofs.ReadParts.{read_again, read-refused, read-end}
use Rattle.linear_arithmetic.proofs.linear_arithmetic.read_args.Goals as goal

pub number_in-requires : goal.number_in-requires
number_in-requires c = omega (arith, length-numbers_in c.args.args.now)

pub returns-in_err-as_fraction_err : goal.returns-in_err-as_fraction_err
returns-in_err-as_fraction_err c l =
    handed_on c.from_residual.ensures.1
    ∙ read-refused _ _ _ _ c.loop-k-test.true c.number_in.ensures c.loop-k.invariant c.in_err-as_fraction_err.ensures l

pub loop-k-preserved : goal.loop-k-preserved
loop-k-preserved c =
    read_again _ _ _ _ c.loop-k-test.true c.number_in.ensures c.loop-k.invariant c.in_ok-as_fraction_err.ensures

pub returns : goal.returns
returns c = read-end _ _ _ c.loop-k.invariant c.loop-k-test.false
