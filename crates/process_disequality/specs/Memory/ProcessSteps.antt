-- `process_disequality` with the work area lent: what each function of the code answers and leaves, in terms of the
-- definitions.
use Rattle.index_map.specs.Memory.Answers.{comb_with}
use Rattle.index_map.specs.Memory.Answers.{Has}
use Rattle.std.specs.Prelude.{◌≡◌, List, [], ◌∷◌, ℕ}
use Rattle.std.specs.Prelude.{Option, Some, None}
use Rattle.numbers.specs.Rational.{Rational, Proper}
use Rattle.numbers.specs.Bytes.{Bytes}
use Rattle.terms.specs.Term.{Term}
use Rattle.rules.specs.Refusal.{Result, ◌>>=◌}
use Rattle.std.specs.Prelude.{Ok, Err}
use Rattle.rules.specs.Limits.{Limits}
use Rattle.index_map.specs.IndexMap.{Map, combination, add}
use Rattle.linear_comb.specs.LinearComb.{LinearComb, mul}
use Rattle.index_map.specs.Memory.Entries.{terms, slots, stored, entries_of, Held}
use Rattle.process_disequality.specs.ProcessDisequality.{strengthened, scalar, weakened, join_operators}
use Rattle.process_disequality.specs.ProcessDisequality.{argument_of, Progress, progress, inferred}
use Rattle.disequality.specs.Disequality.{Disequality}
use Rattle.linear_comb.specs.Memory.WorkArea.{accumulated, left_side, area_of, with_area, OnlyArea, KeptSum, Sum}
use Rattle.process_disequality.specs.declared.process_disequality.Progress as by_value
use Rattle.disequality.specs.Memory.DisequalitySteps.{Between}

-- ---- the argument of a literal

-- the numbers that are handed out
abbrev pub trace_of : Option Rational → List Rational
trace_of (Some q) = q ∷ []
trace_of None = []

abbrev pub CoefficientProper : Option Rational → Type 0
CoefficientProper (Some q) = Proper q
CoefficientProper None = Unit {0}

-- the argument that is given, or inferred from the sum's entries and the literal's own
unfoldable pub argument_from : Limits → Map Term → Map Term → Option Rational → Result (Rational × List Rational)
argument_from l acc own (Some a) = Ok (a, [])
argument_from l acc own None = do
  a ← inferred l acc own
  Ok (a, a ∷ [])

abbrev pub ArguedIs : Result (Rational × Option Rational) → Result (Rational × List Rational) → Type 0
ArguedIs (Ok (a, f)) d = (d ≡ Ok (a, trace_of f)) × (Proper a × CoefficientProper f)
ArguedIs (Err r) d = d ≡ Err r

-- ---- one literal

-- the sum so far by value, with the bytes of its area; nothing is inferred yet
abbrev pub progress_of : Bytes → Bytes → by_value.Progress → Progress
progress_of b w p =
    progress p.operator
    (combination (entries_of b (area_of accumulated w) p.acc.len) p.acc.constant) [] p.visits

-- the same with the entries m, and what was inferred since
abbrev pub progress_with : by_value.Progress → Map Term → List Rational → Progress
progress_with p m t = progress p.operator (comb_with p.acc m) t p.visits

-- what holds between the literals, and the sum so far is in its area
pub record Folding (b w : Bytes) (p : by_value.Progress) : Type 0 where
  pub between : Between b w
  pub acc : KeptSum b (area_of accumulated w) p.acc

-- the sum with the literal, and its argument where that was inferred
abbrev pub Processed : Type 0
Processed = Result (by_value.Progress × Option Rational)

abbrev pub ProcessedIs : Processed → Map Term → Result Progress → Type 0
ProcessedIs (Ok (p, f)) m d = (d ≡ Ok (progress_with p m (trace_of f))) × (Has p.acc m × CoefficientProper f)
ProcessedIs (Err r) m d = (d ≡ Err r) × (m ≡ [])

-- the sum so far is in its area, the areas of the two sides are as they were
pub record ProcessedLeft (b w w' : Bytes) (r : Processed) (d : Result Progress) : Type 0 where
  pub map : Map Term
  pub held : Held b (area_of accumulated w') map
  pub only : OnlyArea accumulated w w'
  pub is : ProcessedIs r map d

-- a literal that is strengthened and scaled, in its own area: steps 4 and 5
unfoldable pub scaled_of : Limits → ℕ → LinearComb → Rational → Result (ℕ × LinearComb)
scaled_of l o s a = do
  (p, t) ← strengthened l o s a
  scaled ← mul l t (scalar p a)
  Ok (weakened p a, scaled)

abbrev pub ScaledIs : Result (ℕ × Sum) → Map Term → Result (ℕ × LinearComb) → Type 0
ScaledIs (Ok (o, s)) m d = (d ≡ Ok (o, comb_with s m)) × Has s m
ScaledIs (Err r) m d = (d ≡ Err r) × (m ≡ [])

pub record ScaledLeft (b w w' : Bytes) (r : Result (ℕ × Sum)) (d : Result (ℕ × LinearComb)) : Type 0 where
  pub map : Map Term
  pub held : Held b (area_of left_side w') map
  pub only : OnlyArea left_side w w'
  pub is : ScaledIs r map d

-- the rest of `process_disequality`, from its disequality on
unfoldable pub accumulated_of : Limits → Progress → Disequality → Option Rational → Result Progress
accumulated_of l p d arg = do
  (a, trace) ← argument_of l p d.sum arg
  (o, s) ← scaled_of l d.operator d.sum a
  acc ← add terms l p.acc s
  Ok (progress (join_operators p.operator o) acc trace d.visits)

-- the areas of the sum and of the literal are read; the sum is left in its own, and the literal's is emptied
pub record AccumulatedLeft (b w w' : Bytes) (r : Processed) (d : Result Progress) : Type 0 where
  pub map : Map Term
  pub held : Held b (area_of accumulated w') map
  pub only : w' ≡ with_area left_side (stored slots []) (with_area accumulated (area_of accumulated w') w)
  pub is : ProcessedIs r map d
