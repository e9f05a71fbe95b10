-- The table starts with the only literal.
use mathlib.Core.Path.{refl, ◌∙◌}
use Rattle.std.specs.Prelude.{Option, ℕ}
use Rattle.terms.specs.Readers.{found}
use Rattle.rules.specs.Shapes.{has_form}
use Rattle.rules.specs.Memory.ShapeRecords.{found_names}
use Rattle.rules.proofs.Results.{handed_on, none-refused, some-found, stops, goes_on}
use Rattle.rules.proofs.FormSteps.{matches_of}
use Rattle.rules.proofs.shapes.has_form.Goals as goal

pub returns-in_err-phi : goal.returns-in_err-phi
unfolding has_form
returns-in_err-phi c =
    handed_on c.from_residual.ensures.1
    ∙ stops _ (stops _ (none-refused (found _) _ _ refl refl c.in_err-phi.ensures.value ∙ c.only_literal.ensures _))

pub returns-in_err-ok_or : goal.returns-in_err-ok_or
unfolding has_form
returns-in_err-ok_or c =
    let table = λ (r : Option ℕ). found_names c.args.book.now c.in_ok-phi.phi r c.matches.new.names in
    let literal = some-found (found _) _ _ refl refl c.in_ok-phi.ensures.value ∙ c.only_literal.ensures _ in
    let misfit = none-refused table _ _ (matches_of _ _ _ (c.matches.ensures _)) refl c.in_err-ok_or.ensures.value in
    handed_on c.from_residual-in_err-ok_or.ensures.1 ∙ stops _ (goes_on _ literal (stops _ misfit))

pub returns : goal.returns
unfolding has_form
returns c =
    let table = λ (r : Option ℕ). found_names c.args.book.now c.in_ok-phi.phi r c.matches.new.names in
    let literal = some-found (found _) _ _ refl refl c.in_ok-phi.ensures.value ∙ c.only_literal.ensures _ in
    let fit = some-found table _ _ (matches_of _ _ _ (c.matches.ensures _)) refl c.in_ok-ok_or.ensures.value in
    goes_on _ (goes_on _ literal (goes_on _ fit refl)) refl
