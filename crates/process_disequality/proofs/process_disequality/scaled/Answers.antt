-- What is left after each way out (`LiteralAreas`). The strengthened sum is still kept, as the multiplication requires.
use native.Mathlib.Omega.{arith}
use Rattle.rules.proofs.Results.{handed_on}
use Rattle.index_map.proofs.StoredEntries.{kept_small}
use Rattle.linear_comb.proofs.AreaSteps.{kept-sum}
use Rattle.process_disequality.proofs.LiteralAreas.{unstrengthened, unscaled, scaled-left}
use Rattle.process_disequality.proofs.process_disequality.scaled.Goals as goal

pub strengthened-requires : goal.strengthened-requires
strengthened-requires c =
    let pre = c.requires in
    (pre.0, (omega (arith, kept_small pre.1.0.1.1.kept), (pre.1.0.1.1.proper, pre.1.1)))

pub clear_in-requires : goal.clear_in-requires
clear_in-requires c =
    let pre = c.requires in
    (pre.0, omega (arith, kept_small pre.1.0.1.1.kept))

pub returns-in-Err : goal.returns-in-Err
returns-in-Err c b sorts k l =
    unstrengthened b _ l _ _ _ k c.requires.0 (c.in-Err.ensures.value b sorts k.kept l) c.clear_in.ensures

pub mul_in-requires : goal.mul_in-requires
mul_in-requires c =
    let pre = c.requires in
    let k = pre.1.0.1.1 in
    let has = (c.in-Ok.ensures.value pre.1.0.0 pre.1.0.1.0 k.kept 0).1 in
    let small = kept_small (kept-sum k.kept.held has).kept in
    (pre.0, (omega (arith, small), (has.proper, c.scalar.ensures.proper)))

pub returns-in_err-u-in-Ok : goal.returns-in_err-u-in-Ok
returns-in_err-u-in-Ok c b sorts k l =
    rw (handed_on c.from_residual.ensures.1)
    (unscaled b _ l _ _ _ k (c.in-Ok.ensures.value b sorts k.kept l) c.scalar.ensures.is c.mul_in.ensures.only_area
    (λ t. c.in_err-u-in-Ok.ensures.combines b t l))

pub returns-in_ok-u-in-Ok : goal.returns-in_ok-u-in-Ok
returns-in_ok-u-in-Ok c b sorts k l =
    scaled-left b _ l _ _ _ k (c.in-Ok.ensures.value b sorts k.kept l) c.scalar.ensures.is c.mul_in.ensures.only_area
    (λ t. c.in_ok-u-in-Ok.ensures.combines b t l) c.weakened.ensures
