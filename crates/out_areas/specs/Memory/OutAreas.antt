-- The out areas while a run is elaborated: what is written so far, every byte of them after a step, and what the
-- functions that write promise.
use Rattle.std.specs.Prelude.{◌≡◌, Bool, true, false, List, [], ◌∷◌, ◌++◌, ℕ, ◌+◌, ◌*◌, ◌%◌, ◌≤◌, ltb, length, take}
use Rattle.std.specs.Prelude.{drop}
use Rattle.std.specs.Prelude.{Some, None}
use Rattle.numbers.specs.Rational.{Rational, Proper}
use Rattle.numbers.specs.Bytes.{Bytes}
use Rattle.terms.specs.Format as format
use Rattle.terms.specs.Book.{count}
use Rattle.terms.specs.Format.{run_record_bytes}
use Rattle.runs.specs.Run.{Step, A, Every, record_bytes}
use Rattle.out_areas.specs.Farkas.{Written, written, step_bytes, tail_bytes, find_real, place_in, fits}
use Rattle.out_areas.specs.declared.out_areas.Out.{Out}

-- ---- what is written so far: it stands at the fronts of the areas, behind it anything

pub record Stored (b o t : Bytes) (out : Out) (w : Written) : Type 0 where
  pub room : fits b (length o) (length t) w ≡ true
  pub run : take out.run o ≡ w.run
  pub run_size : out.run ≡ length w.run
  pub whole : length w.run % run_record_bytes ≡ 0
  pub tail : take out.tail t ≡ tail_bytes w.tail
  pub tail_size : out.tail ≡ format.record_bytes * length w.tail
  pub proper : Every Proper w.tail

-- or it does not go into them
abbrev pub Holds : Bytes → Bytes → Bytes → Out → Written → Type 0
Holds b o t out w = elim out.full [ true ↦ fits b (length o) (length t) w ≡ false | false ↦ Stored b o t out w ]

-- what was written before stays, so that a refused step can be taken back
pub record Fronts (out : Out) (o o' t t' : Bytes) : Type 0 where
  pub run : take out.run o' ≡ take out.run o
  pub tail : take out.tail t' ≡ take out.tail t

pub record Grows (out r : Out) : Type 0 where
  pub run : out.run ≤ r.run
  pub tail : out.tail ≤ r.tail

-- what lies behind the counts is as it was
pub record Backs (r : Out) (o o' t t' : Bytes) : Type 0 where
  pub run : drop r.run o' ≡ drop r.run o
  pub tail : drop r.tail t' ≡ drop r.tail t

-- an A record of the number n
abbrev pub with_arg : ℕ → Written → Written
with_arg n w = written (w.run ++ record_bytes A 0 n) w.tail

abbrev pub with_constant : Rational → Written → Written
with_constant q w = written w.run (w.tail ++ q ∷ [])

abbrev pub with_step : Step → Written → Written
with_step s w = written (w.run ++ step_bytes s) w.tail

-- ---- every byte of the out areas: pieces are written one behind the other, up to the first that the areas do not take

-- what is written, and whether the areas are full
pub record Writing : Type 0 where
  pub done : Written
  pub full : Bool

abbrev pub writing : Written → Bool → Writing
writing w x = record { done = w; full = x }

-- one piece, where f says that the areas take it
unfoldable pub more : (Written → Bool) → (Written → Written) → Writing → Writing
more f g s = elim s.full [
  | true ↦ s
  | false ↦ elim (f (g s.done)) [ true ↦ writing (g s.done) false | false ↦ writing s.done true ]
]

-- an inferred number as an argument, behind its constant where neither the book nor the tail has it
unfoldable pub more_real : (Written → Bool) → Bytes → Rational → Writing → Writing
more_real f b q s = elim (find_real (count b) b q 0) [
  | Some i ↦ more f (with_arg i) s
  | None ↦ elim (ltb (place_in s.done.tail q) (length s.done.tail)) [
    | true ↦ more f (with_arg (count b + place_in s.done.tail q)) s
    | false ↦ more f (with_arg (count b + place_in s.done.tail q)) (more f (with_constant q) s)
  ]
]

unfoldable pub more_reals : (Written → Bool) → Bytes → List Rational → Writing → Writing
more_reals f b [] s = s
more_reals f b (q ∷ qs) s = more_reals f b qs (more_real f b q s)

-- the areas as the counts have them
pub record Lies (b o t : Bytes) (out : Out) (s : Writing) : Type 0 where
  pub stored : Stored b o t out s.done
  pub full : out.full ≡ s.full

-- A function that writes more: where w was written before, `then w` is afterwards, and where s was, `write s`. In
-- front of the counts `out` and behind the counts r every byte is as it was.
pub record Writes
    (b o t : Bytes) (out : Out) (o' t' : Bytes) (r : Out) (then : Written → Written)
    (write : Writing → Writing) : Type 0 where
  pub fronts : Fronts out o o' t t'
  pub grows : Grows out r
  pub backs : Backs r o o' t t'
  pub run_length : length o' ≡ length o
  pub tail_length : length t' ≡ length t
  pub holds : (w : Written) → Holds b o t out w → Holds b o' t' r (then w)
  pub lies : (s : Writing) → Lies b o t out s → Lies b o' t' r (write s)

-- one piece
abbrev pub WritesOne : Bytes → Bytes → Bytes → Out → Bytes → Bytes → Out → (Written → Written) → Type 0
WritesOne b o t out o' t' r then = Writes b o t out o' t' r then (more (fits b (length o) (length t)) then)

-- ---- one step
