-- What is read, where a number is expected.
use Rattle.rules.specs.Limits.{signed_number_err}
use Rattle.rules.proofs.Results.{handed_on}
use Rattle.rules.proofs.ExpectedTerms.{expects-number, expects_none}
use Rattle.rules.proofs.readers.as_signed_number_err.Goals as goal

pub returns-in_err-as_signed_number : goal.returns-in_err-as_signed_number
unfolding signed_number_err
returns-in_err-as_signed_number c =
    expects_none _ (handed_on c.from_residual.ensures.1) c.in_err-as_signed_number.ensures

pub returns : goal.returns
unfolding signed_number_err
returns c = expects-number c.in_ok-as_signed_number.ensures
