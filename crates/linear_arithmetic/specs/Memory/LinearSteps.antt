-- Rules 4 to 6 on one step that is given as parts of the lent run, with the work area lent: what each function of the
-- code answers and leaves, in terms of the definitions.
use Rattle.index_map.specs.Memory.Answers.{Has}
use Rattle.std.specs.Prelude.{◌≡◌, ◌&&◌, not, cond, List, [], ◌∷◌, ℕ, zero, suc, ◌≤◌, eqb, length}
use Rattle.std.specs.Prelude.{Option, Some, None}
use Rattle.numbers.specs.Rational.{Rational, Proper}
use Rattle.numbers.specs.Bytes.{Bytes}
use Rattle.terms.specs.Term.{Term}
use Rattle.terms.specs.Format.{max_run_bytes}
use Rattle.rules.specs.Refusal.{Result, ◌>>=◌, assert}
use Rattle.std.specs.Prelude.{Ok, Err}
use Rattle.rules.specs.declared.refusal.Refusal.TheVariants.{DisequalityIsNotContradiction, DisequalityIsNotTautology}
use Rattle.rules.specs.Limits.{Limits, limited}
use Rattle.index_map.specs.IndexMap.{Map}
use Rattle.index_map.specs.Memory.Entries.{Held}
use Rattle.process_disequality.specs.ProcessDisequality.{Progress, process_disequality}
use Rattle.process_disequality.specs.Memory.ProcessSteps.{progress_with}
use Rattle.linear_arithmetic.specs.LinearArithmetic.{read_args, is_true_at_zero, is_tautology}
use Rattle.disequality.specs.Disequality.{disequality_of}
use Rattle.rules.specs.Shapes.{Clause}
use Rattle.linear_comb.specs.Memory.WorkArea.{accumulated, area_of, OnlyArea}
use Rattle.rules.specs.Memory.Parts.{Ready, Inside, terms_in}
use Rattle.linear_arithmetic.specs.declared.linear_arithmetic.Folded.{Folded}
use Rattle.linear_arithmetic.specs.declared.linear_arithmetic.Folded.TheVariants as folded
use Rattle.process_disequality.specs.declared.process_disequality.Progress as by_value

-- ---- what `la_generic` and `bounded_farkas` ask and answer

-- the work area is ready, and the literals are records of the book, no more than a run has
abbrev pub StepReady : Bytes → Bytes → Bytes → Type 0
StepReady b w literals = Ready b w × (Inside b literals × (length literals ≤ max_run_bytes))

-- the visits of an answer
abbrev pub visits_of : Result Progress → Result ℕ
visits_of r = r >>= λ p. Ok p.visits

-- a rule's verdict on a step's literals and arguments, after n visits
abbrev pub verdict_by : (Limits → Clause → List Term → ℕ → Result Progress) → ℕ → Bytes → Bytes → Bytes → ℕ → Result ℕ
verdict_by rule l b literals args n = visits_of (rule (limited l) (terms_in b literals) (terms_in b args) n)

-- ---- the fold over the literals, up to the first number that is inferred: whoever elaborates takes each such number
-- as it is found, and goes on with the literals that are left. What the fold has made, and how many literals are done

unfoldable pub fold_some : Limits → Clause → List Rational → Progress → ℕ → Result (Progress × ℕ)
fold_some l [] args p k = Ok (p, k)
fold_some l (phi ∷ clause) [] p k = do
  q ← process_disequality l p phi None
  Ok (q, suc k)
fold_some l (phi ∷ clause) (a ∷ args) p k = do
  q ← process_disequality l p phi (Some a)
  fold_some l clause args q (suc k)

-- whether all arguments are numbers; refused as the first that is not
abbrev pub are_numbers : ℕ → Bytes → Bytes → Result (Unit {0})
are_numbers l b args = read_args (limited l) (terms_in b args) >>= λ qs. Ok tt

abbrev pub AllNumbers : ℕ → Bytes → Bytes → Type 0
AllNumbers l b args = are_numbers l b args ≡ Ok tt

-- the fold with the arguments as they are read
unfoldable pub fold_read : Limits → Clause → List Term → Progress → Result (Progress × ℕ)
fold_read l clause args p = do
  qs ← read_args l args
  fold_some l clause qs p 0

-- n literals in all
abbrev pub FoldedIs : ℕ → Result Folded → Map Term → Result (Progress × ℕ) → Type 0
FoldedIs n (Ok (folded.Done p)) m d = (d ≡ Ok (progress_with p m [], n)) × Has p.acc m
FoldedIs n (Ok (folded.Inferred p q k)) m d = (d ≡ Ok (progress_with p m (q ∷ []), k)) × (Has p.acc m × Proper q)
FoldedIs n (Err r) m d = (d ≡ Err r) × (m ≡ [])

pub record FoldedLeft (b w w' : Bytes) (n : ℕ) (r : Result Folded) (d : Result (Progress × ℕ)) : Type 0 where
  pub map : Map Term
  pub held : Held b (area_of accumulated w') map
  pub only : OnlyArea accumulated w w'
  pub is : FoldedIs n r map d

-- argument k
abbrev pub at : List Rational → ℕ → Option Rational
at [] k = None
at (q ∷ qs) zero = Some q
at (q ∷ qs) (suc k) = at qs k

-- the last line of `la_generic_partial`
abbrev pub contradicts : by_value.Progress → Result ℕ
contradicts p =
    cond (eqb p.acc.len 0 && not (is_true_at_zero p.operator p.acc.constant))
    (Ok p.visits)
    (Err DisequalityIsNotContradiction)

-- the first form of `la_tautology`
unfoldable pub tautology_of : Limits → Term → ℕ → Result ℕ
tautology_of l phi n = do
  d ← disequality_of l phi n
  _ ← assert (is_tautology d) DisequalityIsNotTautology
  Ok d.visits
