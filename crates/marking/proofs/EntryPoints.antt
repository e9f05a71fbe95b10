-- What comes before the first step of a run.
--     opens-unfit, opens-ready, opens-refused, opens-read       what `open` answers and leaves
--     refused_is       the marking where `open` refuses
--     opened-read, opened-marked       the marking where it does not: that of the steps
use Rattle.runs.specs.declared.verdict.LentRefusal.{LentRefusal}
use Rattle.runs.specs.declared.verdict.LentRefusal.TheVariants.{OfBook, WorkAreaOrLimit}
use mathlib.Core.Path.{◌≡◌, refl, sym, ap, ◌∙◌}
use mathlib.Core.Bool.{Bool, true, false}
use mathlib.Core.List.{List}
use Prim.Native.Nat.{ℕ}
use native.Mathlib.Omega.{arith}
use lib.ListN.{length, replicate}
use Rattle.numbers.specs.Bytes.{Bytes}
use Rattle.terms.specs.Book.{read_book, records_read, put_sorts, BookDone}
use Rattle.terms.specs.declared.reading.BookError.{BookError}
use Rattle.terms.specs.Format.{work_bytes}
use Rattle.std.specs.Prelude.{Result, Ok, Err}
use Rattle.rules.specs.Limits.{limited}
use Rattle.rules.specs.Memory.Parts.{Ready}
use Rattle.runs.proofs.Prepared.{prepared}
use Rattle.runs.specs.Run.{Step, read_run, steps_of}
use Rattle.marking.specs.Check.{Marking, check_steps, nothing_marked, mark_run, mark, lent_ok}
use Rattle.marking.specs.Check.{check}
use Rattle.marking.specs.Answers.{zeros}
use Rattle.runs.specs.Memory.StepParts.{passed}
use Rattle.marking.specs.Memory.Lent.{opening, open_work, Opens}
use Rattle.rules.specs.Refusal.{◌>>=◌}
use Rattle.steps.proofs.StepVerdicts.{refused_as, accepted-as}
use Rattle.terms.specs.Book.{BookRead}

-- ---- refusals 1 to 7

-- what opening answers, and the marking, by that test and by what reading the book and the run answers
abbrev open_by : Bool → BookRead → Result (List Step) LentRefusal → Result (List Step) LentRefusal
open_by t x y = elim t [
  | true ↦ elim x [ Ok k ↦ y | Err e ↦ Err (OfBook e.refusal) ]
  | false ↦ Err WorkAreaOrLimit
]

abbrev mark_by : ℕ → Bool → BookRead → Result (List Step) LentRefusal → Marking
mark_by limit t x y = elim t [
  | true ↦ elim x [ Ok k ↦ mark_run (limited limit) y | Err e ↦ nothing_marked (OfBook e.refusal) ]
  | false ↦ nothing_marked WorkAreaOrLimit
]

opening_by :
    (b run : Bytes) (limit n : ℕ) {t : Bool} {x : BookRead} → lent_ok n limit ≡ t → read_book b ≡ x →
    opening b run limit n ≡ open_by t x (read_run b run)
unfolding opening
opening_by b run limit n {t} e f =
    ap (λ s. open_by s (read_book b) (read_run b run)) e ∙ ap (λ s. open_by t s (read_run b run)) f

-- the marking is that of what opening answers
mark_by_lem : (b run : Bytes) (limit n : ℕ) → check b run limit n ≡ mark_run (limited limit) (opening b run limit n)
unfolding check mark opening mark_run
mark_by_lem b run limit n = go (lent_ok n limit) (read_book b) (read_run b run)
  where
    go :
        (t : Bool) (x : BookRead) (y : Result (List Step) LentRefusal) →
        mark_by limit t x y ≡ mark_run (limited limit) (open_by t x y)
    go true (Ok k) y = refl
    go true (Err e) y = refl
    go false x y = refl

-- the work area by the test and by what reading the book answers
abbrev left_from : Bytes → Bytes → BookRead → Bool → Bytes
left_from b w x t = elim t [ true ↦ put_sorts (records_read x) b (zeros w) | false ↦ w ]

-- the work area after the book was read
pub opens-ready :
    {b w' : Bytes} {r : BookRead} {n k : ℕ} → n ≡ work_bytes → BookDone b (replicate n 0) w' r → r ≡ Ok k →
    Ready b w'
opens-ready {b} {w'} {r} {k} size done e = prepared b w' r k (rw size at done) e

-- what `open` answers, and what it leaves
module _ (b run : Bytes) (limit : ℕ) (w : Bytes) where
  left_by : {t : Bool} → lent_ok (length w) limit ≡ t → open_work b limit w ≡ left_from b w (read_book b) t
  unfolding open_work
  left_by e = ap (left_from b w (read_book b)) e

  pub opens-unfit : lent_ok (length w) limit ≡ false → Opens b run limit w w (Err WorkAreaOrLimit)
  unfolding ◌>>=◌
  opens-unfit e =
      record {
        answered = sym (ap passed (opening_by b run limit (length w) e refl));
        left = sym (left_by e);
        ready = λ h. let z : ◌≡◌ {A = ℕ} 0 1 = cc in absurd (omega arith);
      }

  module _ (right : lent_ok (length w) limit ≡ true) {w' : Bytes} {r : BookRead} (done : BookDone b (zeros w) w' r) where
    left-read : w' ≡ open_work b limit w
    left-read =
        done.sorts ∙ ap (λ (x : BookRead). put_sorts (records_read x) b (zeros w)) done.is ∙ sym (left_by right)

    by_book : {x : BookRead} → r ≡ x → opening b run limit (length w) ≡ open_by true x (read_run b run)
    by_book e = opening_by b run limit (length w) right (sym done.is ∙ e)

    pub opens-refused :
        {e : BookError} {x : Result (Unit {0}) LentRefusal} → r ≡ Err e → x ≡ Err (OfBook e.refusal) →
        Opens b run limit w w' x
    unfolding ◌>>=◌
    opens-refused e is =
        record {
          answered = is ∙ sym (ap passed (by_book e));
          left = left-read;
          ready = λ h. let z : ◌≡◌ {A = ℕ} 0 1 = cc in absurd (omega arith);
        }

    pub opens-read :
        {k : ℕ} {x : Result (Unit {0}) LentRefusal} → length w ≡ work_bytes → r ≡ Ok k →
        x ≡ passed (read_run b run) → Opens b run limit w w' x
    opens-read size e is =
        record {
          answered = is ∙ sym (ap passed (by_book e));
          left = left-read;
          ready = λ h. opens-ready size done e;
        }

-- ---- the marking, by what `open` answered

read_as :
    (t : Bool) (x : BookRead) (y : Result (List Step) LentRefusal) {ss : List Step} → open_by t x y ≡ Ok ss → y ≡ Ok ss
read_as true (Ok k) y e = e
read_as true (Err d) y e = let z : ◌≡◌ {A = ℕ} 0 1 = cc in absurd (omega arith)
read_as false x y e = let z : ◌≡◌ {A = ℕ} 0 1 = cc in absurd (omega arith)

module _ (b run : Bytes) (limit n : ℕ) where
  abbrev pub steps_marked : Marking
  steps_marked = check_steps (limited limit) (steps_of b run)

  pub refused_is : {r : LentRefusal} → Err r ≡ passed (opening b run limit n) → check b run limit n ≡ nothing_marked r
  unfolding mark_run
  refused_is e =
      mark_by_lem b run limit n ∙ ap (mark_run (limited limit)) (refused_as (λ x. tt) (opening b run limit n) e)

  module _ (answered : Ok tt ≡ passed (opening b run limit n)) where
    opened :
        (ss : List Step) × ((opening b run limit n ≡ Ok ss) × (steps_of b run ≡ ss) × (read_run b run ≡ Ok ss))
    unfolding opening
    opened =
        let o = accepted-as (λ x. tt) (opening b run limit n) answered in
        let read = read_as (lent_ok n limit) (read_book b) (read_run b run) o.1.0 in
        (o.0, (o.1.0, rw (read, steps_of), read))

    -- the book and the run were read
    pub opened-read : read_run b run ≡ Ok (steps_of b run)
    opened-read = let o = opened in o.1.2 ∙ ap Ok (sym o.1.1)

    pub opened-marked : check b run limit n ≡ steps_marked
    unfolding mark_run
    opened-marked =
        let o = opened in
        mark_by_lem b run limit n ∙ ap (mark_run (limited limit)) o.1.0 ∙ ap (check_steps (limited limit)) (sym o.1.1)
