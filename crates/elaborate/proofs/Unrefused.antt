-- A marking is that of the run's steps, where the book and the run are read, and else marks nothing (`reads`). Where
-- refusals 1 to 8 do not arise they are read, and what was written fits (`unrefused`). The marking and the answer are
-- then the steps' own.
use Rattle.runs.specs.declared.verdict.LentRefusal.{LentRefusal}
use Rattle.runs.specs.declared.verdict.Verdict.{Verdict}
use Rattle.runs.specs.declared.verdict.Verdict.TheVariants.{Lent}
use Rattle.runs.specs.declared.verdict.LentRefusal.TheVariants.{NoRoom, OfBook, WorkAreaOrLimit}
use mathlib.Core.Path.{◌≡◌, refl, sym, subst, ap, ◌∙◌}
use mathlib.Core.Bool.{Bool, true, false, not}
use mathlib.Core.List.{List, []}
use Prim.Native.Nat.{ℕ}
use lib.Dec.{T}
use lib.ListN.{length}
use Rattle.numbers.specs.Bytes.{Bytes}
use Rattle.terms.specs.Book.{read_book}
use Rattle.book.proofs.Accepted.{accepted-count}
use Rattle.book.proofs.BookTerms.{OfBook as InBook, book-closed}
use Rattle.std.specs.Prelude.{Result, Ok, Err}
use Rattle.rules.specs.Limits.{Limits, limited}
use Rattle.rules.proofs.Yields.{at_ok}
use Rattle.runs.specs.Verdict.{is_lent}
use Rattle.runs.specs.Run.{Step, read_run, steps_of, Every}
use Rattle.steps.specs.CheckStep.{clauses_of}
use Rattle.marking.specs.Check.{Marking, nothing_marked, mark_run, mark, lent_ok, check}
use Rattle.marking.proofs.Turns.{mark_from, check_steps_from, Marks, marks, mark_book}
use Rattle.elaborate.specs.Elaborate.{Answer, answer, add_steps, elaborated, elaborate_under, elaborate}
use Rattle.out_areas.specs.Farkas.{written, tail_bytes, fits}
use Rattle.out_areas.proofs.OutAreas.{none_fits}
use Rattle.elaborate.proofs.RunTerms.{StepOf, Ordered, known_step, run_of_book, run_ordered}
use Rattle.elaborate.proofs.RuleLaws.{Known}
use Rattle.terms.specs.Book.{BookRead}

-- none of refusals 1 to 8
abbrev pub Free : Verdict → Type 0
Free v = T (not (is_lent v))

-- ---- a marking

-- the book and the run are read
pub record Ran (book run : Bytes) : Type 0 where
  pub records : ℕ
  pub steps : List Step
  pub read : read_book book ≡ Ok records
  pub ran : read_run book run ≡ Ok steps

-- the marking of a run's steps
abbrev pub mark_steps : Limits → List Step → Marking
mark_steps l ss = mark_from l ss ss 0

pub steps-marked : (l : Limits) (ss : List Step) → Marks l ss ss 0 (mark_steps l ss)
steps-marked l ss = marks l ss ss 0

pub mark_is : {book run : Bytes} (x : Ran book run) (l : Limits) → mark l book run ≡ mark_steps l x.steps
unfolding mark mark_run
mark_is {book} {run} x l = ap (mark_book l book run) x.read ∙ ap (mark_run l) x.ran ∙ check_steps_from l x.steps

pub data Reads (book run : Bytes) : Type 0 where
  not-read : (r : LentRefusal) → ((l : Limits) → mark l book run ≡ nothing_marked r) → Reads book run
  is_read : Ran book run → Reads book run

pub reads : (book run : Bytes) → Reads book run
unfolding mark mark_run
reads book run = by_book (read_book book) refl (read_run book run) refl
  where
    by_book :
        (b : BookRead) → read_book book ≡ b → (r : Result (List Step) LentRefusal) → read_run book run ≡ r →
        Reads book run
    by_book (Ok n) e (Ok ss) f = is_read record { records = n; steps = ss; read = e; ran = f }
    by_book (Ok n) e (Err r) f = not-read r λ l. ap (mark_book l book run) e ∙ ap (mark_run l) f
    by_book (Err d) e r f = not-read (OfBook d.refusal) λ l. ap (mark_book l book run) e

-- what is known of the steps
module _ {book run : Bytes} (x : Ran book run) where
  pub listed : steps_of book run ≡ x.steps
  listed =
      ap (λ (r : Result (List Step) LentRefusal). elim r as (λ y. List Step) [ Ok ss ↦ ss | Err r ↦ [] ]) x.ran

  pub ran_of_book : Every (StepOf (InBook book x.records)) x.steps
  ran_of_book = at_ok (run_of_book book x.records (accepted-count book x.records x.read) run) x.ran

  pub known_in :
      (s : Step) → StepOf (InBook book x.records) s →
      Known (clauses_of x.steps s.premises) s.clause s.args
  known_in = known_step x.steps ran_of_book (book-closed book x.records x.read)

  pub ran_ordered : Ordered 0 x.steps
  ran_ordered = at_ok (run_ordered book run) x.ran

-- where refusals 1 to 8 do not end the marking
pub free-ran : (l : Limits) (book run : Bytes) → Free (mark l book run).verdict → Ran book run
free-ran l book run h = go (reads book run)
  where
    go : Reads book run → Ran book run
    go (not-read r e) = absurd (subst (λ (m : Marking). Free m.verdict) (e l) h)
    go (is_read x) = x

-- ---- an elaboration whose verdict is none of these

module _ (book : Bytes) (out_run out_tail : ℕ) where
  abbrev pub Fits : Marking → Type 0
  Fits m = fits book out_run out_tail (add_steps book (written [] []) m.steps) ≡ true

  abbrev pub answered : Marking → Answer
  answered m =
      let w = add_steps book (written [] []) m.steps in
      answer m.verdict (length m.steps) m.visits w.run (tail_bytes w.tail)

  -- the answer by the test of refusal 8
  abbrev pub chosen : Marking → Bool → Answer
  chosen m b = elim b [ true ↦ answered m | false ↦ answer (Lent NoRoom) (length m.steps) m.visits [] [] ]

  free-fits : (m : Marking) → Free (elaborated book out_run out_tail m).verdict → Fits m × Free m.verdict
  unfolding elaborated
  free-fits m = go (fits book out_run out_tail (add_steps book (written [] []) m.steps)) refl
    where
      go : (b : Bool) → fits book out_run out_tail (add_steps book (written [] []) m.steps) ≡ b →
          Free (chosen m b).verdict → Fits m × Free m.verdict
      go true e h = (e, h)
      go false e h = absurd h

  pub answer_by :
      (m : Marking) {x : Bool} → fits book out_run out_tail (add_steps book (written [] []) m.steps) ≡ x →
      elaborated book out_run out_tail m ≡ chosen m x
  unfolding elaborated
  answer_by m e = ap (chosen m) e

-- ---- the entry points

module _ (book run : Bytes) (limit work : ℕ) where
  -- a marking by the test of refusal 1
  abbrev pub checked : Bool → Marking
  checked b = elim b [ true ↦ mark (limited limit) book run | false ↦ nothing_marked WorkAreaOrLimit ]

  -- `elaborate` answers to the marking of `check`: where refusal 1 ends it nothing is written, and that fits
  pub elaborate_is :
      (out_run out_tail : ℕ) →
      elaborate book run limit work out_run out_tail ≡ elaborated book out_run out_tail (check book run limit work)
  unfolding check elaborate elaborate_under add_steps tail_bytes
  elaborate_is out_run out_tail = go (lent_ok work limit)
    where
      go :
          (b : Bool) →
          (elim b [
            | true ↦ elaborated book out_run out_tail (mark (limited limit) book run)
            | false ↦ answer (Lent WorkAreaOrLimit) 0 0 [] []
          ])
          ≡ elaborated book out_run out_tail (checked b)
      go true = refl
      go false = sym (answer_by book out_run out_tail (nothing_marked WorkAreaOrLimit) (none_fits book out_run out_tail))

  check_is : lent_ok work limit ≡ true → check book run limit work ≡ mark (limited limit) book run
  unfolding check
  check_is e = ap checked e

  free-lent : Free (check book run limit work).verdict → lent_ok work limit ≡ true
  unfolding check
  free-lent = go (lent_ok work limit)
    where
      go : (b : Bool) → Free (checked b).verdict → b ≡ true
      go true h = refl
      go false h = absurd h

-- where refusals 1 to 8 do not arise, the book and the run were read, and what was written fits
pub record Marked (book run : Bytes) (limit work out_run out_tail : ℕ) : Type 0 where
  pub lent : lent_ok work limit ≡ true
  pub ran : Ran book run
  pub fit : Fits book out_run out_tail (mark_steps (limited limit) ran.steps)

pub unrefused :
    (book run : Bytes) (limit work out_run out_tail : ℕ) →
    Free (elaborate book run limit work out_run out_tail).verdict → Marked book run limit work out_run out_tail
unrefused book run limit work out_run out_tail h =
    let answers = elaborate_is book run limit work out_run out_tail in
    let f = free-fits book out_run out_tail (check book run limit work) (rw answers at h) in
    let e = free-lent book run limit work f.1 in
    let is = check_is book run limit work e in
    let x = free-ran (limited limit) book run (rw is at f.1) in
    record { lent = e; ran = x; fit = subst (Fits book out_run out_tail) (is ∙ mark_is x (limited limit)) f.0 }

-- the answer is then that to the marking of the steps
pub answer_is :
    {book run : Bytes} {limit work out_run out_tail : ℕ} (m : Marked book run limit work out_run out_tail) →
    elaborate book run limit work out_run out_tail ≡
    answered book out_run out_tail (mark_steps (limited limit) m.ran.steps)
answer_is {book} {run} {limit} {work} {out_run} {out_tail} m =
    elaborate_is book run limit work out_run out_tail
    ∙ ap (elaborated book out_run out_tail) (check_is book run limit work m.lent ∙ mark_is m.ran (limited limit))
    ∙ answer_by book out_run out_tail (mark_steps (limited limit) m.ran.steps) m.fit
