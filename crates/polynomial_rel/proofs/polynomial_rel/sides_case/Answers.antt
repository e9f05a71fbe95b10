-- The operator, its arguments on both sides, and the signs.
use mathlib.Core.Path.{◌≡◌, refl, sym, ◌∙◌}
use Rattle.std.specs.Prelude.{Err}
use Rattle.rules.specs.Refusal.{Result, assert, or_else}
use Rattle.rules.specs.declared.refusal.Refusal.TheVariants.{InvalidOperators}
use Rattle.rules.specs.Shapes.{is_relation}
use Rattle.rules.specs.Memory.ShapeRecords.{found_bounds}
use Rattle.rules.proofs.ShapeSteps.{both-asked}
use Rattle.rules.proofs.Results.{handed_on, stops, goes_on, asserts, none-refused, some-found}
use Rattle.polynomial_rel.proofs.ScaledSides.{sides-steps}
use Rattle.polynomial_rel.proofs.polynomial_rel.sides_case.Goals as goal

pub returns-then-not-is_relation : goal.returns-then-not-is_relation
unfolding assert
returns-then-not-is_relation c =
    let none : ◌≡◌ {A = Result (Unit {0})} (Err InvalidOperators) (assert (is_relation c.args.o) InvalidOperators) =
    rw (sym c.is_relation.ensures ∙ c.if-not-is_relation.true) in
    stops _ none ∙ sides-steps _ _ _ _ c.requires

pub returns-in_err-l1 : goal.returns-in_err-l1
returns-in_err-l1 c =
    let sides = both-asked c.binary.result c.binary-2.result c.both-operands.result _ c.both-operands.ensures
    c.binary.ensures.is c.binary-2.ensures.is in
    handed_on c.from_residual.ensures.1
    ∙ goes_on _ (sym (asserts _ (sym c.is_relation.ensures ∙ c.if-not-is_relation.false)))
    (stops _ (none-refused (found_bounds _) _ _ sides refl c.in_err-l1.ensures.value))
    ∙ sides-steps _ _ _ _ c.requires

pub returns-in_err-assert_signs : goal.returns-in_err-assert_signs
unfolding or_else
returns-in_err-assert_signs c =
    let sides = both-asked c.binary.result c.binary-2.result c.both-operands.result _ c.both-operands.ensures
    c.binary.ensures.is c.binary-2.ensures.is in
    handed_on c.from_residual-in_err-assert_signs.ensures.1
    ∙ goes_on _ (sym (asserts _ (sym c.is_relation.ensures ∙ c.if-not-is_relation.false)))
    (goes_on _ (some-found (found_bounds _) _ _ sides refl c.in_ok-l1.ensures.value)
    (stops _ c.in_err-assert_signs.ensures))
    ∙ sides-steps _ _ _ _ c.requires

pub returns : goal.returns
unfolding or_else
returns c =
    let sides = both-asked c.binary.result c.binary-2.result c.both-operands.result _ c.both-operands.ensures
    c.binary.ensures.is c.binary-2.ensures.is in
    goes_on _ (sym (asserts _ (sym c.is_relation.ensures ∙ c.if-not-is_relation.false)))
    (goes_on _ (some-found (found_bounds _) _ _ sides refl c.in_ok-l1.ensures.value)
    (goes_on _ c.in_ok-assert_signs.ensures (c.assert_sides.ensures _)))
    ∙ sides-steps _ _ _ _ c.requires
