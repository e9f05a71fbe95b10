-- The bytes are tested one by one, as in the definition.
use mathlib.Core.Path.{◌≡◌, refl, ap, ◌∙◌}
use mathlib.Core.Bool.{Bool, ◌&&◌}
use mathlib.Core.List.{[], ◌∷◌}
use borrow.Author.Rules.{rules}
use borrow.Author.Tests.{tests}
use lib.Dec.{eqb}
use Rattle.std.specs.List.{list_all}
use Rattle.std.proofs.lemmas.Iterator.{YieldsList-from_slice, YieldsList-from_take}
use Rattle.std.proofs.lemmas.Iterator.Search.{all_from_yields_List}
use Rattle.numbers.specs.Bytes.{Bytes}
use Rattle.terms.specs.Book.{all_zero}
use Rattle.book.proofs.layout.all_zero.Goals as goal

each_zero : (s : Bytes) → list_all (λ x. eqb x 0) s ≡ all_zero s
unfolding all_zero
each_zero [] = refl
each_zero (x ∷ s) = ap (λ (b : Bool). eqb x 0 && b) (each_zero s)

pub returns : goal.returns
returns c =
    all_from_yields_List (λ x. eqb x 0) _ _ _ c.all.ensures.ran
    (YieldsList-from_take c.args.n (YieldsList-from_slice c.args.s.now cc) cc)
    (λ x b q k. search (rules, tests))
    ∙ each_zero _
