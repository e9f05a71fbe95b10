-- What is read, where a number is expected.
use Rattle.rules.specs.Limits.{fraction_of, fraction_err}
use Rattle.rules.proofs.Results.{handed_on}
use Rattle.rules.proofs.ExpectedTerms.{expects-number, expects_none}
use Rattle.rules.proofs.readers.as_fraction_err.Goals as goal

pub returns-in_err-as_fraction : goal.returns-in_err-as_fraction
unfolding fraction_err fraction_of
returns-in_err-as_fraction c l = expects_none _ (handed_on c.from_residual.ensures.1) c.in_err-as_fraction.ensures

pub returns : goal.returns
unfolding fraction_err fraction_of
returns c l = expects-number c.in_ok-as_fraction.ensures
