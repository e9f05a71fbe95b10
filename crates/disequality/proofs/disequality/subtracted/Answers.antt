-- `subtracted` leaves the difference of areas 1 and 2 in area 1, empties area 2 and turns the operator. Where area 2
-- has no entries, `bounded` does all this.
use mathlib.Core.Path.{◌∙◌}
use native.Mathlib.Omega.{arith}
use Rattle.rules.proofs.Results.{handed_on}
use Rattle.index_map.proofs.StoredEntries.{kept_small}
use Rattle.linear_comb.proofs.AreaSteps.{kept-sum}
use Rattle.disequality.proofs.SidesAreas.{in_both}
use Rattle.disequality.proofs.SubtractedSides.{out_of_range, subtracted-left}
use Rattle.disequality.proofs.ConstantSides.{none_held, none_comb}
use Rattle.disequality.proofs.disequality.subtracted.Goals as goal

pub returns-then-s-eq0 : goal.returns-then-s-eq0
returns-then-s-eq0 c b left right l =
    let none = c.if-s-eq0.true in
    rw (none_comb right none) (c.bounded.ensures b left (none_held right none) l)

pub sub-answer-requires : goal.sub-answer-requires
sub-answer-requires c =
    let kept = c.requires.1.1 in
    (c.requires.0, ((kept_small kept.0.kept, kept_small kept.1.kept), (kept.0.proper, kept.1.proper)))

pub clear_in-requires : goal.clear_in-requires
clear_in-requires c =
    let few = kept_small c.requires.1.1.1.kept in
    ((in_both (c.sub-answer.auto.work ∙ c.requires.0.first.size)).second, omega arith)

pub returns-in_err-difference : goal.returns-in_err-difference
returns-in_err-difference c b left right l =
    let m = c.sub-answer in
    rw (handed_on c.from_residual.ensures.1)
    (out_of_range c.requires.0 left right m.ensures.only_area c.clear_in.ensures _ _ _
    (rw c.in_err-difference.was at (m.ensures.combines b left right l)))

pub neg-requires : goal.neg-requires
neg-requires c =
    let kept = c.requires.1 in
    let sum = c.sub-answer.ensures.combines kept.0 kept.1.0 kept.1.1 0 in
    (rw c.in_ok-difference.was at sum).is.1.proper

pub turned-requires : goal.turned-requires
turned-requires c =
    let kept = c.requires.1 in
    let m = c.sub-answer in
    let sum = rw c.in_ok-difference.was at (m.ensures.combines kept.0 kept.1.0 kept.1.1 0) in
    let few = kept_small (kept-sum sum.held sum.is.1).kept in (
      (in_both (c.clear_in.auto.work ∙ m.auto.work ∙ c.requires.0.first.size)).first,
      (omega arith, c.neg.ensures.proper),
    )

pub returns : goal.returns
returns c b left right l =
    let m = c.sub-answer in
    subtracted-left c.requires.0 left right m.ensures.only_area
    c.clear_in.ensures _ _ _ (rw c.in_ok-difference.was at (m.ensures.combines b left right l))
    c.neg.ensures (c.turned.ensures b)
