-- `constant_side` multiplies the number by 1 and adds it to 0, as the walk of a number does: each can leave the range.
use mathlib.Core.Path.{refl, ◌∙◌}
use Rattle.rules.proofs.Results.{handed_on, stops, goes_on}
use Rattle.index_map.specs.IndexMap.{add_constant}
use Rattle.disequality.specs.Memory.DisequalitySteps.{constant_side}
use Rattle.index_map.proofs.CheckedNumbers.{sum-asked, product-asked}
use Rattle.disequality.proofs.ConstantSides.{no_walk, constant-walks}
use Rattle.disequality.proofs.disequality.constant_side.Goals as goal

pub returns-in_err-c : goal.returns-in_err-c
unfolding constant_side
returns-in_err-c c b w held l =
    rw (handed_on c.from_residual.ensures.1)
    (no_walk held (stops _ (c.in_err-c.ensures.value ∙ product-asked l _ _ (rw c.whole.ensures at c.mul.ensures.is))))

pub returns-in_err-constant : goal.returns-in_err-constant
unfolding constant_side add_constant
returns-in_err-constant c b w held l =
    rw (handed_on c.from_residual-in_err-constant.ensures.1)
    (no_walk held (goes_on _ (c.in_ok-c.ensures.value ∙ product-asked l _ _ (rw c.whole.ensures at c.mul.ensures.is))
    (stops _ (c.in_err-constant.ensures.value ∙ sum-asked l _ _ (rw c.whole-2.ensures at c.add.ensures.is)))))

pub returns : goal.returns
unfolding constant_side add_constant
returns c b w held l =
    constant-walks held (c.add.ensures.proper _ c.in_ok-constant.ensures.ok_part)
    (goes_on _ (c.in_ok-c.ensures.value ∙ product-asked l _ _ (rw c.whole.ensures at c.mul.ensures.is))
    (goes_on _ (c.in_ok-constant.ensures.value ∙ sum-asked l _ _ (rw c.whole-2.ensures at c.add.ensures.is)) refl))
