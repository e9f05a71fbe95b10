-- Where what is to be written is too long, both areas are cleared whole, else behind what is written.
use Rattle.elaborate.proofs.ClosedAreas.{closes_full, closes_whole}
use Rattle.elaborate.proofs.elaborate.close.Goals as goal

pub returns-then-e : goal.returns-then-e
returns-then-e c =
    let full = c.if-e.true in
    λ b m h. closes_full h full c.clear_from.ensures c.clear_from-then-e.ensures

pub returns : goal.returns
returns c =
    let whole = c.if-e.false in
    λ b m h. closes_whole h whole c.clear_from-2.ensures c.clear_from-3.ensures c.unwrap_or.ensures
