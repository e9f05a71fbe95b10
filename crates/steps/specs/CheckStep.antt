-- One step, by its rule.
use Rattle.runs.specs.declared.rule.Rule.{Rule}
use Rattle.runs.specs.declared.rule.Rule.TheVariants.{PolySimpRel, PolySimp, BoundedFarkas, LaGeneric, LaTautology}
use Rattle.runs.specs.declared.rule.Rule.TheVariants.{LaTotality, LaDisequality, LaRwEq, Assume}
use Rattle.std.specs.Prelude.{List, [], ◌∷◌, ℕ, get_or}
use Rattle.numbers.specs.Rational.{Rational}
use Rattle.terms.specs.Term.{Term}
use Rattle.rules.specs.Refusal.{Result, ◌>>=◌}
use Rattle.std.specs.Prelude.{Ok}
use Rattle.rules.specs.Limits.{Limits}
use Rattle.rules.specs.Shapes.{Clause}
use Rattle.linear_shapes.specs.LinearShapes as shape
use Rattle.linear_arithmetic.specs.LinearArithmetic as rule
use Rattle.process_disequality.specs.ProcessDisequality.{Progress}
use Rattle.linear_arithmetic.specs.LinearArithmetic.{la_generic_partial}
use Rattle.polynomial_rel.specs.PolySimpRel as rel
use Rattle.poly_simp.specs.PolySimp as simplification
use Rattle.runs.specs.Run.{Step, step}

-- the visits made so far, and the limits that they stand under: a rule is handed both, whatever else a run counts
pub record Counter : Type 0 where
  pub limits : Limits
  pub visits : ℕ

abbrev pub counter : Limits → ℕ → Counter
counter l n = record { limits = l; visits = n }

-- an accepted step: the visits made so far, and the numbers that it inferred
pub record Accepted : Type 0 where
  pub visits : ℕ
  pub inferred : List Rational

abbrev pub accepted : ℕ → List Rational → Accepted
accepted n qs = record { visits = n; inferred = qs }

abbrev pub still : ℕ → Result (Unit {0}) → Result Accepted
still n r = r >>= λ u. Ok (accepted n [])

abbrev pub moved : Result ℕ → Result Accepted
moved r = r >>= λ n. Ok (accepted n [])

abbrev pub traced : Result Progress → Result Accepted
traced r = r >>= λ p. Ok (accepted p.visits p.trace)

-- a rule on a step's clause and arguments, and on the clauses of the steps that it names
unfoldable pub check_rule : Rule → Limits → List Clause → Clause → List Term → ℕ → Result Accepted
check_rule Assume l premises c args n = Ok (accepted n [])
check_rule LaRwEq l premises c args n = still n (shape.la_rw_eq c)
check_rule LaDisequality l premises c args n = still n (shape.la_disequality c)
check_rule LaTotality l premises c args n = still n (shape.la_totality c)
check_rule LaTautology l premises c args n = moved (rule.la_tautology l c n)
check_rule LaGeneric l premises c args n = traced (rule.la_generic l c args n)
check_rule BoundedFarkas l premises c args n = traced (la_generic_partial l c args n)
check_rule PolySimp l premises c args n = moved (simplification.poly_simp l c n)
check_rule PolySimpRel l premises c args n = still n (rel.poly_simp_rel l c premises)

-- the clauses of the steps that a step names
unfoldable pub clauses_of : List Step → List ℕ → List Clause
clauses_of run [] = []
clauses_of run (p ∷ ps) = (get_or run p (step Assume [] [] [])).clause ∷ clauses_of run ps

unfoldable pub check_step : Limits → List Step → Step → ℕ → Result Accepted
check_step l run s n = check_rule s.rule l (clauses_of run s.premises) s.clause s.args n
