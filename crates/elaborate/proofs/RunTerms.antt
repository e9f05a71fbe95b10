-- The steps of a run that is read without a refusal, for they are writable (WrittenRuns): their literals and arguments
-- are terms of the book (`run_of_book`), and so are the literals of the steps that they name (`known_step`). And each
-- step names earlier ones alone (`run_ordered`).
use Rattle.runs.specs.declared.rule.Rule.TheVariants.{Assume}
use mathlib.Core.Path.{◌≡◌}
use mathlib.Core.List.{List, [], ◌∷◌}
use Prim.Native.Nat.{ℕ, suc, ◌<◌}
use Rattle.numbers.specs.Bytes.{Bytes}
use Rattle.terms.specs.Term.{Term}
use Rattle.terms.specs.Book.{count}
use Rattle.book.proofs.BookTerms.{Closed, OfBook}
use Rattle.rules.proofs.Yields.{Yields, weaker}
use Rattle.linear_theory.proofs.Arguments.{EachOf}
use Rattle.runs.specs.Run.{Step, step, read_run, Every, end, also}
use Rattle.steps.specs.CheckStep.{clauses_of}
use Rattle.runs.proofs.RowRecords.{InBook}
use Rattle.elaborate.proofs.RuleLaws.{Known}
use Rattle.out_areas.proofs.Everywhere.{every-weaker, every_get_d}
use Rattle.elaborate.proofs.WrittenRuns.{AllWritable, read-writable}
use Rattle.elaborate.proofs.WrittenRuns.AllWritable.{none as no_step, one as one_step}

-- each step names earlier ones alone; k steps stand before these
pub data Ordered : ℕ → List Step → Type 0 where
  none : {k : ℕ} → Ordered k []
  one :
      {k : ℕ} {s : Step} {ss : List Step} → Every (λ p. p < k) s.premises → Ordered (suc k) ss →
      Ordered k (s ∷ ss)

pub record StepOf (Q : Term → Type 0) (s : Step) : Type 0 where
  pub clause : EachOf Q s.clause
  pub args : EachOf Q s.args

-- the step that stands for one that is not there
abbrev pub no_such_step : Step
no_such_step = step Assume [] [] []

pub none_of : {Q : Term → Type 0} → StepOf Q no_such_step
none_of = record { clause = tt; args = tt }

module _ {Q : Term → Type 0} (run : List Step) (all : Every (StepOf Q) run) where
  named_of : (ps : List ℕ) → Every (EachOf Q) (clauses_of run ps)
  unfolding clauses_of
  named_of [] = end
  named_of (p ∷ ps) = also (every_get_d {R = StepOf Q} run no_such_step none_of all p).clause (named_of ps)

  pub known_step : Closed Q → (s : Step) → StepOf Q s → Known (clauses_of run s.premises) s.clause s.args
  known_step closed s h =
      record { class = Q; closed = closed; premises = named_of s.premises; clause = h.clause; given = h.args }

-- ---- a run that is read

each_of : {Q : Term → Type 0} (ts : List Term) → Every Q ts → EachOf Q ts
each_of [] end = tt
each_of (t ∷ ts) (also h hs) = (h, each_of ts hs)

steps_of_book : (b : Bytes) {k : ℕ} (ss : List Step) → AllWritable b k ss → Every (StepOf (InBook b)) ss
steps_of_book b [] no_step = end
steps_of_book b (s ∷ ss) (one_step w ws) =
    also
    record {
      clause = each_of s.clause (every-weaker (λ t h. h.0) s.clause w.clause);
      args = each_of s.args w.args;
    }
    (steps_of_book b ss ws)

pub run_of_book :
    (b : Bytes) (n : ℕ) → n ≡ count b → (run : Bytes) → Yields (Every (StepOf (OfBook b n))) (read_run b run)
run_of_book b n counted run = rw counted (weaker (steps_of_book b) (read-writable b run))

steps_ordered : (b : Bytes) {k : ℕ} (ss : List Step) → AllWritable b k ss → Ordered k ss
steps_ordered b [] no_step = none
steps_ordered b (s ∷ ss) (one_step w ws) = one w.premises (steps_ordered b ss ws)

pub run_ordered : (b run : Bytes) → Yields (Ordered 0) (read_run b run)
run_ordered b run = weaker (steps_ordered b) (read-writable b run)
