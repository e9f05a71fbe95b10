-- Marking (document 01's word for checking) a run: the steps are checked in turn up to the first that is refused.
-- Refusals 1 to 7 come first, in document 01's order.
use Rattle.runs.specs.declared.verdict.LentRefusal.{LentRefusal}
use Rattle.runs.specs.declared.verdict.Verdict.{Verdict}
use Rattle.runs.specs.declared.verdict.Verdict.TheVariants.{Stopped, AllAccepted, Lent}
use Rattle.runs.specs.declared.verdict.LentRefusal.TheVariants.{OfBook, WorkAreaOrLimit}
use Rattle.std.specs.Prelude.{Bool, true, false, ◌&&◌, List, [], ◌∷◌, ◌++◌, ℕ, zero, suc, eqb, leb, length, drop}
use Rattle.std.specs.Prelude.{Option, Some, None}
use Rattle.numbers.specs.Rational.{Rational}
use Rattle.numbers.specs.Bytes.{Bytes}
use Rattle.terms.specs.Book.{read_book}
use Rattle.terms.specs.Format.{work_bytes}
use Rattle.rules.specs.declared.refusal.Refusal.{Refusal}
use Rattle.std.specs.Prelude.{Result, Ok, Err}
use Rattle.rules.specs.Limits.{Limits, limited}
use Rattle.runs.specs.Run.{Step, step, read_run}
use Rattle.steps.specs.CheckStep.{Counter, counter, Accepted, check_step}

-- ---- the steps in turn

-- a marking under way: the accepted steps with what they inferred, the visits, and the verdict once it has ended. The
-- next step is the one behind those that are accepted.
pub record State : Type 0 where
  pub steps : List (Step × List Rational)
  pub counter : Counter
  pub verdict : Option Verdict

abbrev pub state : List (Step × List Rational) → Counter → Option Verdict → State
state ss c v = record { steps = ss; counter = c; verdict = v }

abbrev pub ended : State → Verdict → State
ended s v = state s.steps s.counter (Some v)

-- a step's answer
abbrev pub answered : State → Step → Result Accepted Refusal → State
answered s step (Err r) = ended s (Stopped r)
answered s step (Ok a) =
    state (s.steps ++ (step, a.inferred) ∷ []) (counter s.counter.limits a.visits) None

-- the steps that are left: their first one is checked
abbrev pub onward : List Step → State → List Step → State
onward run s [] = ended s AllAccepted
onward run s (step ∷ left) = answered s step (check_step s.counter.limits run step s.counter.visits)

unfoldable pub turn : List Step → State → State
turn run s = elim s.verdict [ Some v ↦ s | None ↦ onward run s (drop (length s.steps) run) ]

unfoldable pub turns : ℕ → List Step → State → State
turns zero run s = s
turns (suc n) run s = turns n run (turn run s)

-- the verdict, the accepted steps with what they inferred, and their visits
pub record Marking : Type 0 where
  pub verdict : Verdict
  pub steps : List (Step × List Rational)
  pub visits : ℕ

abbrev pub marking : Verdict → List (Step × List Rational) → ℕ → Marking
marking v s n = record { verdict = v; steps = s; visits = n }

-- what is marked so far
abbrev pub marking_of : State → Marking
marking_of s = marking (elim s.verdict [ Some v ↦ v | None ↦ AllAccepted ]) s.steps s.counter.visits

-- a turn for each step, and one that finds no step left
unfoldable pub check_steps : Limits → List Step → Marking
check_steps l run = marking_of (turns (suc (length run)) run (state [] (counter l 0) None))

-- ---- refusals 1 to 7, then the steps

abbrev pub nothing_marked : LentRefusal → Marking
nothing_marked r = marking (Lent r) [] 0

unfoldable pub mark_run : Limits → Result (List Step) LentRefusal → Marking
mark_run l (Ok ss) = check_steps l ss
mark_run l (Err r) = nothing_marked r

unfoldable pub mark : Limits → Bytes → Bytes → Marking
mark l book run = elim (read_book book) [
  | Ok n ↦ mark_run l (read_run book run)
  | Err e ↦ nothing_marked (OfBook e.refusal)
]

-- limits are 1 to 1,000,000
abbrev pub min_limit : ℕ
min_limit = 1

abbrev pub max_limit : ℕ
max_limit = 1000000

abbrev pub lent_ok : ℕ → ℕ → Bool
lent_ok work limit = eqb work work_bytes && (leb min_limit limit && leb limit max_limit)

unfoldable pub check : Bytes → Bytes → ℕ → ℕ → Marking
check book run limit work = elim (lent_ok work limit) [
  | true ↦ mark (limited limit) book run
  | false ↦ nothing_marked WorkAreaOrLimit
]
