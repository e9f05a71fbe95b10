-- Rules 4 to 6 of src/checker/rules/linear_arithmetic.rs on one step, line by line in the Rust's order. A conclusion is
-- the list of a step's literals. Rules 1 to 3 are among the definitions of the crate `linear_shapes`, and what is done
-- with one literal is among those of `process_disequality`.
use Rattle.std.specs.Prelude.{Bool, false, ◌&&◌, ◌||◌, not, List, [], ◌∷◌, ℕ, eqb, length}
use Rattle.std.specs.Prelude.{Some, None}
use Rattle.numbers.specs.Rational.{Rational, is_zero, is_positive}
use Rattle.terms.specs.Operator.{Or, Equals, GreaterThan}
use Rattle.terms.specs.Term.{Term, binary}
use Rattle.numbers.specs.Choice.{when◌then◌else◌}
use Rattle.rules.specs.Refusal.{Result, ◌>>=◌, assert}
use Rattle.std.specs.Prelude.{Ok}
use Rattle.rules.specs.declared.refusal.Refusal.TheVariants.{WrongNumberOfArgs, DisequalityIsNotContradiction}
use Rattle.rules.specs.declared.refusal.Refusal.TheVariants.{DisequalityIsNotTautology}
use Rattle.rules.specs.Limits.{Limits, fraction_err}
use Rattle.index_map.specs.IndexMap.{is_empty, new}
use Rattle.rules.specs.Shapes.{Clause, only_literal}
use Rattle.disequality.specs.Disequality.{Disequality, disequality_of}
use Rattle.linear_shapes.specs.LinearShapes.{tautology_case}
use Rattle.process_disequality.specs.ProcessDisequality.{Progress, progress, process_disequality}

-- ---- la_generic

-- all arguments are read before the first literal
unfoldable pub read_args : Limits → List Term → Result (List Rational)
read_args l [] = Ok []
read_args l (a ∷ args) = do
  q ← fraction_err l a
  qs ← read_args l args
  Ok (q ∷ qs)

-- `try_fold`; arguments that are missing are none, surplus ones are ignored
unfoldable pub fold_literals : Limits → Clause → List Rational → Progress → Result Progress
fold_literals l [] args p = Ok p
fold_literals l (phi ∷ clause) [] p = do
  q ← process_disequality l p phi None
  fold_literals l clause [] q
fold_literals l (phi ∷ clause) (a ∷ args) p = do
  q ← process_disequality l p phi (Some a)
  fold_literals l clause args q

-- whether 0 stands in the relation to the right side: only =, > and >= arise
unfoldable pub is_true_at_zero : ℕ → Rational → Bool
is_true_at_zero o r =
    when is_positive r then false else
    when is_zero r then not (eqb o GreaterThan) else
    not (eqb o Equals)

unfoldable pub la_generic_partial : Limits → Clause → List Term → ℕ → Result Progress
la_generic_partial l conclusion args n = do
  qs ← read_args l args
  p ← fold_literals l conclusion qs (progress Equals new [] n)
  _ ← assert (is_empty p.acc.entries && not (is_true_at_zero p.operator p.acc.constant))
      DisequalityIsNotContradiction
  Ok p

unfoldable pub la_generic : Limits → Clause → List Term → ℕ → Result Progress
la_generic l conclusion args n = do
  _ ← assert (eqb (length args) (length conclusion)) WrongNumberOfArgs
  la_generic_partial l conclusion args n

-- ---- la_tautology

abbrev pub is_tautology : Disequality → Bool
is_tautology d =
    is_empty d.sum.entries
    && (is_positive d.sum.constant || (eqb d.operator GreaterThan && is_zero d.sum.constant))

-- the visits made
unfoldable pub la_tautology : Limits → Clause → ℕ → Result ℕ
la_tautology l conclusion n = only_literal conclusion >>= λ phi. elim (binary Or phi) [
  | Some p ↦ (do
    _ ← tautology_case p.0 p.1
    Ok n)
  | None ↦ (do
    d ← disequality_of l phi n
    _ ← assert (is_tautology d) DisequalityIsNotTautology
    Ok d.visits)
]
