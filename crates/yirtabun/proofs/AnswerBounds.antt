-- The numbers of an answer go into 32 bits.
--     accepted-few       a marking accepts 4,096 steps at most: a run has no more records, and each step takes one
--     written-few       an elaboration writes 4,096 records to the run and 65,536 bytes to the tail at most, by `fits`
--     marked-fits, elaborated-fits       so the numbers that the code casts fit
use Rattle.runs.specs.declared.verdict.LentRefusal.{LentRefusal}
use Rattle.std.specs.Prelude.{Result}
use mathlib.Core.Path.{◌≡◌, refl, ap}
use mathlib.Core.Bool.{Bool, true, false}
use mathlib.Core.List.{List, [], ◌∷◌}
use Prim.Native.Nat.{ℕ, zero, suc, ◌*◌, ◌/◌, ◌%◌, ◌≤◌}
use native.Mathlib.Omega.{arith}
use borrow.Author.Tests.{leb-true}
use lib.Dec.{eqb}
use lib.ListN.{length}
use mir.Syntax.{w32}
use mir.Val.{Fits}
use Rattle.numbers.specs.Bytes.{Bytes}
use Rattle.numbers.proofs.Truths.{both}
use Rattle.terms.specs.Book.{read_book}
use Rattle.terms.specs.Format.{max_records, max_run_records}
use Rattle.rules.specs.Limits.{Limits, limited}
use Rattle.rules.proofs.Yields.{Yields, past, and_then, weaker, guarded}
use Rattle.rules.proofs.Yields.Yields.{gives, refuses}
use Rattle.runs.specs.Run.{Step, Rec, read_steps, read_run}
use Rattle.marking.specs.Check.{Marking, mark_run, mark, lent_ok, check}
use Rattle.marking.specs.Answers.{marked_of}
use Rattle.marking.specs.declared.check.Marked.{Marked}
use Rattle.marking.proofs.Turns.{Marks, ends, stops, goes_on, marks, check_steps_from, mark_book}
use Rattle.elaborate.specs.Elaborate.{add_steps, Answer, elaborated, elaborate}
use Rattle.out_areas.specs.Farkas.{Written, written, fits}
use Rattle.elaborate.specs.LentMemory.{elaborated_of}
use Rattle.elaborate.specs.declared.elaborate.Elaborated.{Elaborated}
use Rattle.out_areas.proofs.RealRecord.{tail_bytes-length}
use Rattle.out_areas.proofs.OutAreas.{fit_of}
use Rattle.elaborate.proofs.Unrefused.{chosen, checked, elaborate_is}
use Rattle.terms.specs.Book.{BookRead}
use Rattle.std.specs.Prelude.{Ok, Err}

-- ---- accepted steps

-- k records make k steps at most
steps-few : (k : ℕ) (book : Bytes) (n : ℕ) (rs : List Rec) → Yields (λ ss. length ss ≤ k) (read_steps k book n rs)
unfolding read_steps
steps-few zero book n [] = gives {a = []} (omega arith)
steps-few zero book n (r ∷ rs) = refuses
steps-few (suc k) book n [] = gives {a = []} (omega arith)
steps-few (suc k) book n (r ∷ rs) =
    past _ λ s. and_then (steps-few k book (suc n) _) λ ss h. gives {a = s ∷ ss} (omega (arith, h))

run-few : (book run : Bytes) → Yields (λ ss. length ss ≤ max_run_records) (read_run book run)
unfolding read_run
run-few book run =
    guarded _ _ λ e u.
    let most = leb-true (length run / 4) max_run_records (both (eqb (length run % 4) 0) _ e).1 in
    weaker (λ ss h. omega (arith, h, most)) (steps-few _ book 0 _)

abbrev Accepts : Marking → Type 0
Accepts m = length m.steps ≤ max_run_records

module _ (l : Limits) where
  checked-few : {run ss : List Step} {n : ℕ} {m : Marking} → Marks l run ss n m → length m.steps ≤ length ss
  checked-few ends = omega arith
  checked-few (stops e) = omega arith
  checked-few (goes_on e ms) = omega (arith, checked-few ms)

  ran-few : {x : Result (List Step) LentRefusal} → Yields (λ ss. length ss ≤ max_run_records) x → Accepts (mark_run l x)
  unfolding mark_run
  ran-few (gives {a = ss} h) = rw (check_steps_from l ss) (omega (arith, h, checked-few (marks l ss ss 0)))
  ran-few refuses = omega arith

  marked-few : (book run : Bytes) → Accepts (mark l book run)
  unfolding mark
  marked-few book run = go (read_book book)
    where
      go : (x : BookRead) → Accepts (mark_book l book run x)
      go (Ok n) = ran-few (run-few book run)
      go (Err e) = omega arith

accepted-few : (book run : Bytes) (limit work : ℕ) → Accepts (check book run limit work)
unfolding check
accepted-few book run limit work = go (lent_ok work limit)
  where
    go : (t : Bool) → Accepts (checked book run limit work t)
    go true = marked-few (limited limit) book run
    go false = omega arith

-- ---- written bytes

record Few (a : Answer) : Type 0 where
  steps : a.steps ≤ max_run_records
  run : length a.run / 4 ≤ max_run_records
  tail : length a.tail ≤ 32 * max_records

module _ (book : Bytes) (out_run out_tail : ℕ) where
  elaborated-few : (m : Marking) → Accepts m → Few (elaborated book out_run out_tail m)
  unfolding elaborated
  elaborated-few m h = go (fits book out_run out_tail w) refl
    where
      w : Written
      w = add_steps book (written [] []) m.steps

      go : (t : Bool) → fits book out_run out_tail w ≡ t → Few (chosen book out_run out_tail m t)
      go true e =
          let fit = fit_of e in
          record {
            steps = h;
            run = fit.records;
            tail = omega (arith, tail_bytes-length w.tail, fit.book);
          }
      go false e = record { steps = h; run = omega arith; tail = omega arith }

  written-few : (run : Bytes) (limit work : ℕ) → Few (elaborate book run limit work out_run out_tail)
  written-few run limit work =
      rw (elaborate_is book run limit work out_run out_tail)
      (elaborated-few (check book run limit work) (accepted-few book run limit work))

-- ---- what the code casts

pub marked-fits :
    (book run : Bytes) (limit work : ℕ) {r : Marked} → r ≡ marked_of (check book run limit work) → Fits w32 r.steps
marked-fits book run limit work e =
    omega (arith, ap (λ (x : Marked). x.steps) e, accepted-few book run limit work)

pub record NumbersFit (r : Elaborated) : Type 0 where
  pub steps : Fits w32 r.steps
  pub run : Fits w32 r.run
  pub tail : Fits w32 r.tail

pub elaborated-fits :
    (book run : Bytes) (limit work out_run out_tail : ℕ) {r : Elaborated} →
    r ≡ elaborated_of (elaborate book run limit work out_run out_tail) → NumbersFit r
elaborated-fits book run limit work out_run out_tail e =
    let few = written-few book out_run out_tail run limit work in
    record {
      steps = omega (arith, ap (λ (x : Elaborated). x.steps) e, few.steps);
      run = omega (arith, ap (λ (x : Elaborated). x.run) e, few.run);
      tail = omega (arith, ap (λ (x : Elaborated). x.tail) e, few.tail);
    }
