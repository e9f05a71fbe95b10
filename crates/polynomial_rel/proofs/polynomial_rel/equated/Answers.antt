-- The bytes are the form, and its names are read off the table.
use mathlib.Core.Path.{ap}
use native.Mathlib.Omega.{arith}
use Prim.Native.Nat.{ℕ, ◌<◌}
use Rattle.rules.specs.Shapes.{form_of}
use Rattle.rules.proofs.FormSteps.{get_d_inside, matches_of}
use Rattle.polynomial_rel.specs.PolySimpRel.{equated, equated_form, equated_in}
use Rattle.polynomial_rel.proofs.polynomial_rel.equated.Goals as goal

pub returns-in_err-matches : goal.returns-in_err-matches
unfolding equated form_of
returns-in_err-matches c =
    rw c.from_residual.ensures
    (ap equated_in (matches_of _ _ (equated_form c.args.o) (c.in_err-matches.ensures c.args.id)))

pub returns : goal.returns
unfolding equated form_of
returns c =
    let inside = λ (k : ℕ) (h : k < 16). get_d_inside c.matches.new.names k 0 c.args.id (omega arith) in
    rw (inside 3 (omega arith), inside 4 (omega arith), inside 5 (omega arith), inside 6 (omega arith))
    (ap equated_in (matches_of _ _ (equated_form c.args.o) (c.in_ok-matches.ensures c.args.id)))
