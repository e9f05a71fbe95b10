-- The first record that is the constant, as the search along the range finds it (FoundReals).
use mathlib.Core.Path.{◌≡◌}
use mathlib.Core.Bool.{true, false}
use native.Mathlib.Omega.{arith}
use Rattle.std.proofs.Common.{rules, tests}
use Rattle.std.proofs.lemmas.Iterator.{first_from_Range}
use Rattle.terms.specs.Book.{count, tree}
use Rattle.out_areas.specs.Farkas.{is_real}
use Rattle.out_areas.proofs.FoundReals.{first_real}
use Rattle.out_areas.proofs.constants.find_real.Goals as goal

pub returns : goal.returns
returns c =
    let b = c.args.book.now in
    let q = c.args.q in
    first_real (count b) b q 0 c.find.result (omega (arith, c.count.ensures))
    (first_from_Range _ _ _ _ (λ i. is_real q (tree b i) ≡ true) (λ i. is_real q (tree b i) ≡ false) c.find.ensures.ran
    (λ x r k. search (rules, tests)) (λ x r k. search (rules, tests)))
