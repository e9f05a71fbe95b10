-- The left sides are compared first.
use borrow.Author.Rules.{rules}
use mathlib.Core.Path.{◌≡◌, ◌∙◌}
use Rattle.terms.specs.Term.{Term}
use Rattle.rules.specs.Refusal.{◌>>=◌}
use Rattle.rules.specs.Shapes.{assert_eq, bounds_case}
use Rattle.rules.proofs.Results.{bind_assoc, handed_on, stops, goes_on}
use Rattle.polynomial_rel.specs.PolySimpRel.{Scaled, assert_sides}
use Rattle.polynomial_rel.proofs.polynomial_rel.assert_sides.Goals as goal

in_turn :
    (l r : Term × Term) (p : Scaled) →
    (bounds_case assert_eq (l, p.1) >>= λ u. bounds_case assert_eq (r, p.3)) ≡ assert_sides l r p
unfolding assert_sides bounds_case
in_turn l r p = bind_assoc (assert_eq l.0 p.1.0) (λ u. assert_eq l.1 p.1.1) (λ u. bounds_case assert_eq (r, p.3))

pub returns-in_err-bounds_case : goal.returns-in_err-bounds_case
returns-in_err-bounds_case c b =
    handed_on c.from_residual.ensures.1
    ∙ stops _ (c.in_err-bounds_case.ensures b assert_eq (λ r h. search rules))
    ∙ in_turn _ _ _

pub returns : goal.returns
returns c b =
    goes_on _ (c.in_ok-bounds_case.ensures b assert_eq (λ r h. search rules))
    (c.bounds_case-2.ensures b assert_eq (λ r h. search rules))
    ∙ in_turn _ _ _
