-- `turned` negates the combination in area 1 where the operator is < or <=, and leaves it elsewhere.
use borrow.Author.Rules.{rules}
use Rattle.disequality.proofs.SubtractedSides.{as_it_is, from_less, from_less-eq}
use Rattle.disequality.proofs.disequality.turned.Goals as goal

pub returns-in-5 : goal.returns-in-5
returns-in-5 c b kept =
    let m = c.neg_in.ensures in
    from_less c.requires.0 kept _ _ m.value.0 m.value.1 (m.held b kept) (search rules)

pub returns-in-6 : goal.returns-in-6
returns-in-6 c b kept =
    let m = c.neg_in-in-6.ensures in
    from_less-eq c.requires.0 kept _ _ m.value.0 m.value.1 (m.held b kept) (search rules)

pub returns-in_default : goal.returns-in_default
returns-in_default c b kept = as_it_is c.requires.0 kept _ _ (search rules) (search rules)
