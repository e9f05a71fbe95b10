use Rattle.out_areas.proofs.AddedReals.{real-full, real_in_book, real_in_tail, real-added}
use Rattle.out_areas.proofs.out_areas.add_real.Goals as goal

pub returns-then-out : goal.returns-then-out
returns-then-out c = real-full _ _ _ _ _ c.if-out.true

pub returns-in-Some : goal.returns-in-Some
returns-in-Some c = real_in_book _ _ c.find_real.ensures c.in-Some.is (c.add_arg.ensures _ _)

pub returns-in-Some-place_of : goal.returns-in-Some-place_of
returns-in-Some-place_of c =
    real_in_tail _ _ c.find_real.ensures c.in_default.is c.count-n.ensures c.if-out.false c.place_of.ensures.value
    c.in-Some-place_of.is c.place_of.ensures.upper_bound (c.add_arg-in-Some-place_of.ensures _ _)

pub returns : goal.returns
returns c =
    real-added _ _ c.find_real.ensures c.in_default.is c.count-n.ensures c.if-out.false c.place_of.ensures.value
    c.in_default-place_of.is (c.add_constant-grown.ensures _) (c.add_arg-2.ensures _ _)
