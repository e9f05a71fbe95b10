-- What one step's elaboration answers, and what it leaves in the out areas: every byte of them, also behind a step that
-- is refused.
use Rattle.runs.specs.declared.rule.Rule.TheVariants.{BoundedFarkas}
use Rattle.std.specs.Prelude.{◌≡◌, true, false, List, [], ◌∷◌, ◌++◌, ℕ, ◌*◌, length, drop}
use Rattle.std.specs.Prelude.{Some, None}
use Rattle.numbers.specs.Rational.{Rational}
use Rattle.numbers.specs.Bytes.{Bytes}
use Rattle.terms.specs.Term.{Term}
use Rattle.terms.specs.Operator.{Equals}
use Rattle.terms.specs.Format as format
use Rattle.rules.specs.Refusal.{Result}
use Rattle.std.specs.Prelude.{Ok, Err}
use Rattle.rules.specs.Limits.{Limits, limited}
use Rattle.index_map.specs.IndexMap.{new}
use Rattle.process_disequality.specs.ProcessDisequality.{Progress, progress, process_disequality}
use Rattle.linear_arithmetic.specs.LinearArithmetic.{read_args}
use Rattle.rules.specs.Shapes.{Clause}
use Rattle.runs.specs.Rule.{is_rule}
use Rattle.runs.specs.Run.{Step}
use Rattle.steps.specs.CheckStep.{Accepted}
use Rattle.out_areas.specs.Farkas.{Written, tail_bytes, add_reals, fits}
use Rattle.out_areas.specs.declared.out_areas.Out.{Out}
use Rattle.out_areas.specs.Memory.OutAreas.{Holds, Fronts, with_step, Writing, more, more_reals, Lies}

-- the numbers that a fold over literals infers, up to its end or its refusal
unfoldable pub inferred_until : Limits → Clause → List Rational → Progress → List Rational
inferred_until l [] args p = p.trace
inferred_until l (phi ∷ clause) [] p =
    elim (process_disequality l p phi None) [ Ok q ↦ inferred_until l clause [] q | Err r ↦ p.trace ]
inferred_until l (phi ∷ clause) (a ∷ args) p =
    elim (process_disequality l p phi (Some a)) [ Ok q ↦ inferred_until l clause args q | Err r ↦ p.trace ]

-- of `bounded_farkas`, and of a step
unfoldable pub farkas_numbers : Limits → Clause → List Term → ℕ → List Rational
farkas_numbers l clause args n = elim (read_args l args) [
  | Ok qs ↦ inferred_until l clause qs (progress Equals new [] n)
  | Err r ↦ []
]

unfoldable pub step_numbers : Limits → Step → ℕ → List Rational
step_numbers l s n = elim (is_rule BoundedFarkas s.rule) [
  | true ↦ farkas_numbers l s.clause s.args n
  | false ↦ []
]

-- the records of a step, and the numbers that it infers: the areas have m and n bytes
abbrev pub more_step : Bytes → ℕ → ℕ → Step → ℕ → ℕ → Writing → Writing
more_step b m n step limit visits s =
    more_reals (fits b m n) b (step_numbers (limited limit) step visits) (more (fits b m n) (with_step step) s)

-- a step was checked, which the definition answers with d; w has its records, and where it is accepted, what it
-- inferred is written too
abbrev pub SteppedIs : Bytes → Bytes → Bytes → Result (ℕ × Out) → Written → Result Accepted → Type 0
SteppedIs b o t (Ok (n, out)) w d =
    (a : Accepted) × ((d ≡ Ok a) × ((n ≡ a.visits) × Holds b o t out (add_reals b w a.inferred)))
SteppedIs b o t (Err r) w d = d ≡ Err r

-- the counts of what is written; a refused step answers none
abbrev pub Counts : Result (ℕ × Out) → Writing → Type 0
Counts (Ok (n, out)) s =
    out
    ≡ record { run = length s.done.run; tail = format.record_bytes * length s.done.tail; full = s.full }
Counts (Err r) s = Unit {0}

-- the bytes x in front of an area, and the others as they were
unfoldable pub over : Bytes → Bytes → Bytes
over x a = x ++ drop (length x) a

-- every byte of the areas, where s is written, and the counts that are answered
pub record Leaves (o t o' t' : Bytes) (r : Result (ℕ × Out)) (s : Writing) : Type 0 where
  pub run : o' ≡ over s.done.run o
  pub tail : t' ≡ over (tail_bytes s.done.tail) t
  pub counts : Counts r s

-- What a step answers, and what it leaves in the out areas. What was written before stays, also of a step that is
-- refused. Where the areas hold what the counts say, every byte is fixed: they hold what the step writes, of a
-- refused one up to its refusal, and behind that the bytes that were there. What a refused step wrote lies behind the
-- counts, and is cleared with all else that lies there.
pub record SteppedLeft
    (b o t : Bytes) (out : Out) (o' t' : Bytes) (r : Result (ℕ × Out)) (then : Written → Written)
    (write : Writing → Writing) (d : Result Accepted) : Type 0 where
  pub fronts : Fronts out o o' t t'
  pub is : (w : Written) → Holds b o t out w → SteppedIs b o' t' r (then w) d
  pub left : (s : Writing) → Lies b o t out s → Leaves o t o' t' r (write s)
