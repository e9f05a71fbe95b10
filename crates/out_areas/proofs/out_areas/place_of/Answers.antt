-- What is written of the tail is in front of its area, and is the records of its constants.
use mathlib.Core.Path.{◌≡◌, ◌∙◌}
use native.Mathlib.Omega.{arith}
use borrow.Author.Rules.{rules}
use lib.ListN.{take}
use Rattle.out_areas.proofs.OutAreas.{holds-stored}
use Rattle.out_areas.proofs.AddedReals.{inside-tail, few_in_tail}
use Rattle.out_areas.proofs.out_areas.place_of.Goals as goal

pub returns-in_err-get-clause-value : goal.returns-in_err-get-clause-value
returns-in_err-get-clause-value c b o w e h =
    absurd (omega (arith, inside-tail b o _ _ w e h, c.in_err-get.ensures.lookup))

pub returns-clause-value : goal.returns-clause-value
returns-clause-value c b o w e h =
    let s = holds-stored b o _ _ w e h in
    let front : c.in_ok-get.field-0.now ≡ take c.args.out.tail c.args.outtail.now = search rules in
    c.place_in.ensures.value w.tail s.proper (front ∙ s.tail) (few_in_tail b o _ _ w e h)
