-- The closure's test at place k is `int_at` of IntAtoms.
use borrow.Author.Rules.{rules}
use borrow.Author.Tests.{tests}
use native.Mathlib.Omega.{arith}
use mathlib.Core.Path.{refl, ◌∙◌}
use Rattle.std.proofs.lemmas.Iterator.{YieldsList-from_range}
use Rattle.std.proofs.lemmas.Iterator.Search.{all_from_yields_List}
use Rattle.work_area.proofs.IntAtoms.{int_at, int_all}
use Rattle.work_area.proofs.work_area.all_int.Goals as goal

pub returns : goal.returns
returns c b sorts kept =
    all_from_yields_List (int_at c.args.work.now c.area-entries.result.now) _ _ _ c.all.ensures.ran
    (YieldsList-from_range 0 c.args.n c.args.n refl (omega arith)) (λ k t q called. search (rules, tests))
    ∙ rw c.area-entries.ensures (int_all sorts kept)
