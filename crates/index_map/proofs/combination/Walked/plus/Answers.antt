-- The sum of the constants is in range and takes the constant's place, or it is refused.
use mathlib.Core.Path.{refl, ◌∙◌}
use Rattle.rules.proofs.Results.{handed_on, stops, goes_on}
use Rattle.index_map.proofs.CheckedNumbers.{sum-asked}
use Rattle.index_map.proofs.combination.Walked.plus.Goals as goal

pub returns-in_err-constant-clause-value : goal.returns-in_err-constant-clause-value
returns-in_err-constant-clause-value c l =
    handed_on c.from_residual.ensures.1
    ∙ stops _ (c.in_err-constant.ensures.value ∙ sum-asked l _ _ c.add.ensures.is)

pub returns-clause-value : goal.returns-clause-value
returns-clause-value c l = goes_on _ (c.in_ok-constant.ensures.value ∙ sum-asked l _ _ c.add.ensures.is) refl
