-- A step of the specification's la_rw_eq, la_disequality and la_totality is accepted (`rw_eq-accepted`,
-- `disequality-accepted`, `totality-accepted`): matching its term computes, and a name that comes again is the same
-- term.
use mathlib.Core.Path.{◌≡◌}
use mathlib.Core.List.{[], ◌∷◌}
use Rattle.numbers.specs.Choice.{when◌then◌else◌}
use Rattle.terms.specs.Operator.{Not, And, Or, Equals, LessEq}
use Rattle.terms.specs.Term.{Term}
use Rattle.terms.specs.Readers.{as_op}
use Rattle.rules.specs.Refusal.{◌>>=◌, or_else}
use Rattle.std.specs.Prelude.{Ok}
use Rattle.rules.specs.Shapes.{only_literal, bind, bind_all, solve, solve_all, has_form}
use Rattle.linear_shapes.specs.LinearShapes.{la_rw_eq, la_disequality, la_totality, rw_eq_form, disequality_form, totality_form}
use Rattle.alethe.specs.Alethe.{Is1, Is2, Is3, is, LaRwEq, LaDisequality, LaTotality}
use Rattle.rules_theory.proofs.Shapes.{same_self}
pub use Rattle.rules_theory.proofs.Shapes.{operation_of_lem}

rw_eq-matches :
    {t u first second left right phi : Term} →
    Is2 Equals left right phi → Is2 Equals t u left → Is2 And first second right →
    Is2 LessEq t u first → Is2 LessEq u t second → has_form rw_eq_form (phi ∷ []) ≡ Ok tt
unfolding has_form solve_all solve bind_all bind as_op only_literal ◌>>=◌ or_else when◌then◌else◌
rw_eq-matches {t} {u} (is i) (is j) (is k) (is l) (is m) =
    rw (same_self t, same_self u, solve_all, solve, bind_all, bind)
    (rw (same_self u, solve_all, solve, bind_all, bind, same_self t))

disequality-matches :
    {t u first second a b c phi : Term} →
    Is3 Or a b c phi → Is2 Equals t u a → Is1 Not first b → Is2 LessEq t u first → Is1 Not second c →
    Is2 LessEq u t second → has_form disequality_form (phi ∷ []) ≡ Ok tt
unfolding has_form solve_all solve bind_all bind as_op only_literal ◌>>=◌ or_else when◌then◌else◌
disequality-matches {t} {u} (is i) (is j) (is k) (is l) (is m) (is n) =
    rw (same_self t, same_self u, solve_all, solve, bind_all, bind)
    (rw (same_self u, solve_all, solve, bind_all, bind, same_self t))

totality-matches :
    {t u first second phi : Term} → Is2 Or first second phi → Is2 LessEq t u first → Is2 LessEq u t second →
    has_form totality_form (phi ∷ []) ≡ Ok tt
unfolding has_form solve_all solve bind_all bind as_op only_literal ◌>>=◌ or_else when◌then◌else◌
totality-matches {t} {u} (is i) (is j) (is k) = rw (same_self u, solve_all, solve, bind_all, bind, same_self t)

-- ---- the rules

module _ (phi : Term) where
  pub rw_eq-accepted : LaRwEq phi → la_rw_eq (phi ∷ []) ≡ Ok tt
  unfolding la_rw_eq
  rw_eq-accepted h = rw_eq-matches h.conclusion h.equality h.conjunction h.below h.above

  pub disequality-accepted : LaDisequality phi → la_disequality (phi ∷ []) ≡ Ok tt
  unfolding la_disequality
  disequality-accepted h =
      disequality-matches h.conclusion h.equality h.not_below.negation h.not_below.relation
      h.not_above.negation h.not_above.relation

  pub totality-accepted : LaTotality phi → la_totality (phi ∷ []) ≡ Ok tt
  unfolding la_totality
  totality-accepted h = totality-matches h.conclusion h.below h.above
