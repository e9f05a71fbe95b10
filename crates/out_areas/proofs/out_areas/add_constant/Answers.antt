use Rattle.out_areas.proofs.AddedPieces.{constant-full, constant-written, constant_unwritten}
use Rattle.out_areas.proofs.out_areas.add_constant.Goals as goal

pub returns-then-out : goal.returns-then-out
returns-then-out c o = constant-full _ o _ _ _ c.if-out.true

pub returns : goal.returns
returns c o =
    constant-written _ o _ _ _ c.if-out.false _ c.count.ensures
    c.goes_in.ensures
    c.requires c.if-not-goes_in.false
    c.put_real.ensures c.paste.ensures

pub returns-then-not-goes_in : goal.returns-then-not-goes_in
returns-then-not-goes_in c o =
    constant_unwritten _ o _ _ _ c.if-out.false _ c.count.ensures
    c.goes_in.ensures c.if-not-goes_in.true
