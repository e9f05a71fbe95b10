-- Where the right side is read as a number, its walk is that of a number, and area 2 stays empty; elsewhere
-- `from_term` walks it.
use mathlib.Core.Path.{sym, ◌∙◌}
use borrow.Author.Rules.{rules}
use Rattle.linear_comb.proofs.Areas.{only_none}
use Rattle.disequality.proofs.ConstantSides.{constant-walk}
use Rattle.disequality.proofs.disequality.right_side.Goals as goal

pub returns-in-Ok : goal.returns-in-Ok
returns-in-Ok c =
    let number = sym c.as_number.ensures.is ∙ c.in-Ok.is in record {
      only_area = only_none c.requires.0;
      walks = rw (constant-walk _ number c.args.counter.limit c.args.counter.visits (search rules))
          (c.constant_side.ensures _ _ c.requires.1.1.1 _);
    }
