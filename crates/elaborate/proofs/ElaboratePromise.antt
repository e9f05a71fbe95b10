-- What `elaborate` promises, from its answer and the memory that it leaves.
--     whole-answer       what is written has whole records, so the written part of an out area is all of it
--     promised       demand 1's known state, the room of book and tail, and demand 3 of what is answered and written
--     elaborates_left       the calls of `elaborate` together
use Rattle.runs.specs.declared.verdict.Verdict.{Verdict}
use Rattle.runs.specs.declared.verdict.Verdict.TheVariants.{Lent}
use Rattle.runs.specs.declared.verdict.LentRefusal.TheVariants.{NoRoom}
use mathlib.Core.Path.{◌≡◌, refl, sym, ap, ap₂, subst, ◌∙◌}
use mathlib.Core.Bool.{Bool, true, false}
use mathlib.Core.List.{[]}
use Prim.Native.Nat.{ℕ, ◌+◌, ◌*◌, ◌%◌, ◌≤◌}
use native.Mathlib.Omega.{arith}
use lib.ListN.{length}
use Rattle.numbers.specs.Bytes.{Bytes}
use Rattle.book.proofs.Accepted.{accepted-count}
use Rattle.rules.specs.Limits.{limited}
use Rattle.marking.specs.Check.{Marking, check}
use Rattle.elaborate.specs.Elaborate.{add_steps, Answer, answer, elaborated, elaborate}
use Rattle.out_areas.specs.Farkas.{Written, written, fits}
use Rattle.elaborate.specs.Statements.{KnownState, Elaboration}
use Rattle.elaborate.specs.LentMemory.{Memory, answer_to, memory_after, lent as lending, elaborated_of}
use Rattle.marking.specs.Answers.{zeros}
use Rattle.elaborate.specs.Memory.OutMemory.{Elaborates, Closes}
use Rattle.elaborate.specs.ElaborateEntry.{found_in, ElaborateDone}
use Rattle.elaborate.specs.declared.elaborate.Elaborating.{Elaborating}
use Rattle.elaborate.specs.declared.elaborate.Elaborated.{Elaborated}
use Rattle.elaborate.proofs.Memory.{demand1}
use Rattle.out_areas.proofs.RealRecord.{tail_bytes-length}
use Rattle.elaborate.proofs.Unrefused.{mark_steps, chosen, elaborate_is, Marked, unrefused, answer_is}
use Rattle.elaborate.proofs.Elaboration.{part-written, demand3}
use Rattle.out_areas.proofs.OutAreas.{Fit, fit_of}
use Rattle.elaborate.proofs.TailBook.{read_length}
use Rattle.elaborate.proofs.WrittenRuns.{whole_run}
use Rattle.elaborate.proofs.WrittenSteps.{steps_grow}

-- ---- what is written has whole records

pub record WholeAnswer (a : Answer) : Type 0 where
  pub run : length a.run % 4 ≡ 0
  pub tail : length a.tail % 4 ≡ 0

nothing-whole : (v : Verdict) (s n : ℕ) → WholeAnswer (answer v s n [] [])
nothing-whole v s n = record { run = refl; tail = refl }

whole-elaborated : (book : Bytes) (r t : ℕ) (m : Marking) → WholeAnswer (elaborated book r t m)
unfolding elaborated
whole-elaborated book r t m = go (fits book r t (add_steps book (written [] []) m.steps))
  where
    go : (x : Bool) → WholeAnswer (chosen book r t m x)
    go true =
        record {
          run = rw ((steps_grow book m.steps (written [] [])).run []) (whole_run _);
          tail = omega (arith, tail_bytes-length (add_steps book (written [] []) m.steps).tail);
        }
    go false = nothing-whole (Lent NoRoom) _ _

pub whole-answer : (book run : Bytes) (limit work r t : ℕ) → WholeAnswer (elaborate book run limit work r t)
whole-answer book run limit work r t =
    rw (elaborate_is book run limit work r t) (whole-elaborated book r t (check book run limit work))

-- ---- the promise

module _ (m : Memory) (limit : ℕ) where
  abbrev a : Answer
  a = answer_to m limit

  -- what a caller finds is the answer
  found_is : found_in a.verdict (memory_after m limit) (elaborated_of a) ≡ a
  found_is =
      let whole = whole-answer m.book m.run limit (length m.work) (length m.out_run) (length m.out_tail) in
      rw (
        part-written (length m.out_run) a.run whole.run,
        part-written (length m.out_tail) a.tail whole.tail,
      )

  room :
      Marked m.book m.run limit (length m.work) (length m.out_run) (length m.out_tail) →
      length m.book + length a.tail ≤ 65536
  room u =
      let w : Written = add_steps m.book (written [] []) (mark_steps (limited limit) u.ran.steps).steps in
      let long : length a.tail ≡ 32 * length w.tail =
      ap (λ (z : Answer). length z.tail) (answer_is u) ∙ tail_bytes-length w.tail
      in
      let fit : Fit m.book (length m.out_run) (length m.out_tail) w = fit_of u.fit in
      let read = read_length m.book u.ran.records u.ran.read in
      omega (arith, long, read, accepted-count m.book u.ran.records u.ran.read, fit.book)

  pub promised :
      {m' : Memory} {r : Elaborated} → r ≡ elaborated_of a → m' ≡ memory_after m limit → ElaborateDone m limit m' r
  promised {m'} {r} answered left =
      let size : r.tail ≡ length a.tail = ap (λ (z : Elaborated). z.tail) answered in
      record {
        answered = answered;
        left = left;
        known = subst (λ x. KnownState m x a) (sym left) (demand1.memory m limit);
        room = λ free. omega (arith, size, room (unrefused _ _ _ _ _ _ free));
        elaboration = λ applies.
            subst (Elaboration m.book limit (length m.work) (length m.out_run) (length m.out_tail))
            (sym (ap₂ (found_in a.verdict) left answered ∙ found_is))
            (demand3 m.book m.run limit _ _ _ applies.free applies.premises);
      }

-- `opened` leaves the out areas o₁ and t₁, which `close` makes o₂ and t₂
pub elaborates_left :
    {b run w o t : Bytes} (limit : ℕ) {e : Elaborating} {r : Elaborated} {o₁ t₁ w₂ o₂ t₂ : Bytes} →
    length o₁ ≡ length o → length t₁ ≡ length t → Elaborates b o₁ t₁ e (check b run limit (length w)) → w₂ ≡ zeros w →
    ((b' : Bytes) (m : Marking) → Elaborates b' o₁ t₁ e m →
    Closes r o₁ t₁ o₂ t₂ (elaborated b' (length o₁) (length t₁) m)) →
    ElaborateDone (lending b run w o t) limit (lending b run w₂ o₂ t₂) r
elaborates_left {b} {run} {w} {o} {t} limit {e} {r} {o₁} {t₁} {w₂} {o₂} {t₂} size size' begun cleared closes =
    let m : Memory = lending b run w o t in
    let c : Marking = check b run limit (length w) in
    let same = sym (elaborate_is b run limit (length w) (length o) (length t)) in
    let is : elaborated b (length o₁) (length t₁) c ≡ answer_to m limit = rw (size, size') same in
    let closed : Closes r o₁ t₁ o₂ t₂ (answer_to m limit) = rw is at (closes b c begun) in
    let after : lending b run w₂ o₂ t₂ ≡ memory_after m limit = rw (cleared, closed.run, closed.tail, size, size') in
    promised m limit closed.answered after
