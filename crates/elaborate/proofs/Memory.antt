-- Demand 1: what the lent memory is afterwards, for all bytes, lengths and limits (`demand1`); and that `elaborate`,
-- which marks with the trace on, answers with the verdict and the counts of `check` (`trace_on_and_off`). What is
-- written fits into its area, for the elaboration is tested (`fits`). On a verdict from 1 to 8 nothing is written: 8
-- writes nothing by definition, a book or run that is refused has no steps, and a marking that has begun never ends by
-- such a verdict, since no rule gives one.
use Rattle.runs.specs.declared.verdict.Verdict.{Verdict}
use Rattle.runs.specs.declared.verdict.Verdict.TheVariants.{Lent}
use Rattle.runs.specs.declared.verdict.LentRefusal.TheVariants.{NoRoom}
use mathlib.Core.Path.{◌≡◌, refl, sym, ap, ◌∙◌}
use mathlib.Core.Bool.{Bool, true, false}
use mathlib.Core.List.{List, [], ◌++◌}
use Prim.Native.Nat.{ℕ, ◌-◌, ◌≤◌}
use native.Mathlib.Omega.{arith}
use native.Mathlib.Nat.{sub-zero}
use lib.Dec.{T}
use lib.ListN.{length, replicate, length-append, length-replicate}
use Rattle.numbers.proofs.Truths.{never}
use Rattle.numbers.specs.Bytes.{Bytes}
use Rattle.rules.specs.Limits.{Limits, limited}
use Rattle.runs.specs.Verdict.{is_lent}
use Rattle.runs.specs.Run.{Step}
use Rattle.marking.specs.Check.{Marking, mark, lent_ok, check}
use Rattle.marking.proofs.Turns.{Marks, ends, stops, goes_on}
use Rattle.elaborate.specs.Elaborate.{Answer, answer, add_steps, elaborated, elaborate}
use Rattle.out_areas.specs.Farkas.{Written, tail_bytes, written, fits}
use Rattle.marking.specs.Answers.{area}
use Rattle.elaborate.specs.Statements.{KnownState}
use Rattle.elaborate.specs.Demands.{Demand1, TraceMakesNoDifference, check_of}
use Rattle.elaborate.specs.LentMemory.{Memory, answer_to, memory_after}
use Rattle.out_areas.proofs.OutAreas.{Fit, fit_of, none_fits}
use Rattle.out_areas.proofs.RealRecord.{tail_bytes-length}
use Rattle.elaborate.proofs.Unrefused.{steps-marked, Reads, reads, mark_is, checked, elaborate_is}
use Rattle.elaborate.proofs.Unrefused.Reads.{not-read, is_read}

-- ---- a marking that refusals 1 to 8 end has no steps

module _ (l : Limits) where
  steps-not-lent :
      {run ss : List Step} {n : ℕ} {m : Marking} → Marks l run ss n m → T (is_lent m.verdict) → ⊥
  steps-not-lent ends h = h
  steps-not-lent (stops e) h = h
  steps-not-lent (goes_on e ms) h = steps-not-lent ms h

  mark_no_steps : (book run : Bytes) → T (is_lent (mark l book run).verdict) → (mark l book run).steps ≡ []
  mark_no_steps book run h = go (reads book run)
    where
      go : Reads book run → (mark l book run).steps ≡ []
      go (not-read r e) = rw (e l)
      go (is_read x) = absurd (steps-not-lent (steps-marked l x.steps) (rw (mark_is x l) at h))

check_no_steps :
    (book run : Bytes) (limit work : ℕ) → T (is_lent (check book run limit work).verdict) →
    (check book run limit work).steps ≡ []
unfolding check
check_no_steps book run limit work = go (lent_ok work limit)
  where
    go : (b : Bool) → T (is_lent (checked book run limit work b).verdict) → (checked book run limit work b).steps ≡ []
    go true h = mark_no_steps (limited limit) book run h
    go false h = refl

-- ---- an answer to a marking

no_tail_lem : tail_bytes [] ≡ []
unfolding tail_bytes
no_tail_lem = refl

-- What is written fits, and is nothing on a verdict from 1 to 8. All else is the marking's, the verdict
-- unless it is 8.
record Answers (out_run out_tail : ℕ) (m : Marking) (a : Answer) : Type 0 where
  run_fits : length a.run ≤ out_run
  tail_fits : length a.tail ≤ out_tail
  no_run : T (is_lent a.verdict) → a.run ≡ []
  no_tail : T (is_lent a.verdict) → a.tail ≡ []
  same_verdict : (a.verdict ≡ Lent NoRoom → ⊥) → a.verdict ≡ m.verdict
  nothing_fits : m.steps ≡ [] → a.verdict ≡ m.verdict
  same_steps : a.steps ≡ length m.steps
  same_visits : a.visits ≡ m.visits

module _ (out_run out_tail : ℕ) where
  nothing-answers : (m : Marking) (v : Verdict) → ((v ≡ Lent NoRoom → ⊥) → v ≡ m.verdict) →
      (m.steps ≡ [] → v ≡ m.verdict) → Answers out_run out_tail m (answer v (length m.steps) m.visits [] [])
  nothing-answers m v h k =
      record {
        run_fits = omega arith;
        tail_fits = omega arith;
        no_run = λ e. refl;
        no_tail = λ e. refl;
        same_verdict = h;
        nothing_fits = k;
        same_steps = refl;
        same_visits = refl;
      }

  module _ (book : Bytes) where
    fits-areas : (w : Written) → fits book out_run out_tail w ≡ true →
        (length w.run ≤ out_run) × (length (tail_bytes w.tail) ≤ out_tail)
    fits-areas w e =
        let f : Fit book out_run out_tail w = fit_of e in
        (f.run, omega (arith, tail_bytes-length w.tail, f.tail))

    abbrev writes : Marking → Written
    writes m = add_steps book (written [] []) m.steps

    no_steps-write : (m : Marking) → m.steps ≡ [] → writes m ≡ written [] []
    unfolding add_steps
    no_steps-write m e = rw e

    elaborated-answers : (m : Marking) → (T (is_lent m.verdict) → m.steps ≡ []) →
        Answers out_run out_tail m (elaborated book out_run out_tail m)
    unfolding elaborated
    elaborated-answers m h = at (fits book out_run out_tail (writes m)) refl
      where
        says : Verdict → Bytes → Bytes → Answer
        says v = answer v (length m.steps) m.visits

        at : (b : Bool) → fits book out_run out_tail (writes m) ≡ b →
            Answers out_run out_tail m
            (elim b [
              | true ↦ says m.verdict (writes m).run (tail_bytes (writes m).tail)
              | false ↦ says (Lent NoRoom) [] []
            ])
        at true e =
            record {
              run_fits = (fits-areas (writes m) e).0;
              tail_fits = (fits-areas (writes m) e).1;
              no_run = λ v. ap (λ (w : Written). w.run) (no_steps-write m (h v));
              no_tail = λ v. ap (λ (w : Written). tail_bytes w.tail) (no_steps-write m (h v)) ∙ no_tail_lem;
              same_verdict = λ n. refl;
              nothing_fits = λ n. refl;
              same_steps = refl;
              same_visits = refl;
            }
        at false e =
            nothing-answers m (Lent NoRoom) (λ n. absurd (n refl)) λ n.
            never (sym e ∙ ap (fits book out_run out_tail) (no_steps-write m n) ∙ none_fits book out_run out_tail)

  elaborate-answers : (book run : Bytes) (limit work : ℕ) →
      Answers out_run out_tail (check book run limit work) (elaborate book run limit work out_run out_tail)
  elaborate-answers book run limit work =
      rw (elaborate_is book run limit work out_run out_tail)
      (elaborated-answers book (check book run limit work) (check_no_steps book run limit work))

-- ---- the areas

module _ (n : ℕ) (b : Bytes) where
  area_is : area n b ≡ b ++ replicate (n - length b) 0
  unfolding area
  area_is = refl

  area-length : length b ≤ n → length (area n b) ≡ n
  unfolding area
  area-length h = simp (length-append, length-replicate) (omega arith)

  area-zeros : b ≡ [] → area n b ≡ replicate n 0
  unfolding area
  area-zeros e = rw (e, sub-zero)

-- ---- the demand

answers_to : (m : Memory) (limit : ℕ) →
    Answers (length m.out_run) (length m.out_tail) (check_of m limit) (answer_to m limit)
answers_to m limit = elaborate-answers _ _ m.book m.run limit (length m.work)

known-state : (m : Memory) (limit : ℕ) → KnownState m (memory_after m limit) (answer_to m limit)
known-state m limit =
    let a = answers_to m limit in
    record {
      book = refl;
      run = refl;
      work = refl;
      out_run = area_is _ _;
      out_tail = area_is _ _;
      run_length = area-length _ _ a.run_fits;
      tail_length = area-length _ _ a.tail_fits;
      refused_run = λ v. area-zeros _ _ (a.no_run v);
      refused_tail = λ v. area-zeros _ _ (a.no_tail v);
    }

pub demand1 : Demand1
demand1 = record { memory = known-state }

-- ---- trace on and off

pub trace_on_and_off : TraceMakesNoDifference
trace_on_and_off m limit =
    let a = answers_to m limit in
    record {
      verdict = a.same_verdict;
      steps = a.same_steps;
      visits = a.same_visits;
      nothing_fits = a.nothing_fits;
    }
