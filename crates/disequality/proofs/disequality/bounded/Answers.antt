-- `bounded` subtracts the constants alone: area 1 keeps its entries, or is emptied where their difference leaves the
-- range.
use native.Mathlib.Omega.{arith}
use Rattle.index_map.proofs.StoredEntries.{kept_small}
use Rattle.disequality.proofs.ConstantSides.{bounded_out, bounded-left}
use Rattle.disequality.proofs.disequality.bounded.Goals as goal

pub clear_in-requires : goal.clear_in-requires
clear_in-requires c =
    let few = kept_small c.requires.1.0.1.kept in
    (c.requires.0.first, omega arith)

pub returns-in_default : goal.returns-in_default
returns-in_default c b left held l =
    bounded_out c.requires.0 left held c.requires.1.1 c.neg.ensures.is c.add.ensures _ _ l
    c.in_default.is c.clear_in.ensures

pub turned-requires : goal.turned-requires
turned-requires c =
    let few = kept_small c.requires.1.0.1.kept in
    (c.requires.0.first, (omega arith, c.neg-2.ensures.proper))

pub returns : goal.returns
returns c b left held l =
    bounded-left c.requires.0 left held c.requires.1.1 c.neg.ensures.is c.add.ensures _ _ l
    c.in-Some.is c.neg-2.ensures (c.turned.ensures b)
