-- The sum leaves the range or is the constant.
use mathlib.Core.Path.{refl, sym, ◌∙◌}
use mir.Facts.{to_z-of_z}
use Rattle.rules.proofs.Results.{handed_on, stops, goes_on}
use Rattle.disequality.specs.Disequality.{raised}
use Rattle.index_map.proofs.CheckedNumbers.{sum-asked}
use Rattle.disequality.proofs.disequality.raised.Goals as goal

pub returns-in_err-constant-clause-value : goal.returns-in_err-constant-clause-value
unfolding raised
returns-in_err-constant-clause-value c m size l =
    let made = rw (c.whole.ensures, to_z-of_z c.ranges.step) at c.add.ensures.is in
    rw (handed_on c.from_residual.ensures.1) (sym (stops _ (c.in_err-constant.ensures.value ∙ sum-asked l _ _ made)))

pub returns-clause-value : goal.returns-clause-value
unfolding raised
returns-clause-value c m size l =
    let made = rw (c.whole.ensures, to_z-of_z c.ranges.step) at c.add.ensures.is in (
      sym (goes_on _ (c.in_ok-constant.ensures.value ∙ sum-asked l _ _ made) refl),
      record { size = size; proper = c.add.ensures.proper _ c.in_ok-constant.ensures.ok_part },
    )
