-- `elaborate_and_mark`: what is elaborated is marked again over book and tail, and both answers are compared.
--     not_lent, accepts_by       the tests of the verdicts
--     Calls, marked_both       the second marking
--     agrees-again       both answers agree where no bounded_farkas step has surplus arguments and book and tail have room
--     both_markings       the two markings together
use Rattle.runs.specs.declared.verdict.Verdict.{Verdict}
use Rattle.runs.specs.declared.verdict.Verdict.TheVariants.{AllAccepted, Lent, Stopped}
use Rattle.runs.specs.declared.verdict.LentRefusal.{LentRefusal}
use Rattle.runs.specs.declared.verdict.LentRefusal.TheVariants.{WorkAreaOrLimit, OfBook}
use Rattle.terms.specs.declared.reading.BookRefusal.TheVariants.{BookSize}
use Rattle.rules.specs.declared.refusal.Refusal.TheVariants.{VisitLimit}
use Rattle.runs.specs.contracts.verdict.VerdictPartialEq.TheImpl.{ghosts}
use mathlib.Core.Path.{◌≡◌, refl, sym, ap, ◌∙◌}
use mathlib.Core.Bool.{Bool, true, false, ◌&&◌, not}
use mathlib.Core.List.{[]}
use Prim.Native.Nat.{ℕ, ◌+◌, ◌-◌, ◌≤◌}
use native.Mathlib.Nat.{sub-zero}
use native.Mathlib.Omega.{arith}
use borrow.Author.Tests.{le-leb, eq-eqb}
use lib.Dec.{T, eqb, leb}
use lib.ListN.{length, take, replicate, length-replicate}
use lib.Seq.{take-append_seam}
use Rattle.numbers.specs.Bytes.{Bytes}
use Rattle.numbers.proofs.Truths.{T_true}
use Rattle.numbers.proofs.SameBytes.{same_bytes-refl}
use Rattle.rules.specs.Limits.{limited}
use Rattle.runs.specs.Verdict.{verdict_number, is_lent}
use Rattle.marking.specs.Check.{mark}
use Rattle.elaborate.specs.Elaborate.{Answer, answer, written_part}
use Rattle.marking.specs.Answers.{area, zeros}
use Rattle.elaborate.specs.Statements.{NoSurplus}
use Rattle.elaborate.specs.LentMemory.{Memory, answer_to, memory_after, lent, elaborated_of}
use Rattle.runs.specs.Run.{Every}
use Rattle.again.specs.Again.{Second, joined_book, elaborated_book, answer_again, agree, agrees_again, MarkedAgain}
use Rattle.elaborate.specs.ElaborateEntry.{ElaborateDone}
use Rattle.again.specs.AgainEntry.{AgainDone}
use Rattle.elaborate.specs.declared.elaborate.Elaborated.{Elaborated}
use Rattle.elaborate.proofs.Elaboration.{part-written, second_marking}
use Rattle.again.proofs.JoinedBook.{joined_by_lem}
use Rattle.elaborate.proofs.ElaboratePromise.{WholeAnswer, whole-answer, promised}

-- ---- the comparison

-- whether a verdict is not one of refusals 1 to 8, by the test of its variant
pub not_lent : (v : Verdict) → ((r : LentRefusal) → v ≡ Lent r → ⊥) → is_lent v ≡ false
not_lent AllAccepted h = refl
not_lent (Lent r) h = absurd (h r refl)
not_lent (Stopped r) h = refl

-- whether it accepts, by the test of equality
pub accepts_by : (v : Verdict) → ghosts.eq v AllAccepted ≡ eqb (verdict_number v) 0
accepts_by AllAccepted = refl
accepts_by (Lent WorkAreaOrLimit) = refl
accepts_by (Lent (OfBook BookSize)) = refl
accepts_by (Stopped VisitLimit) = refl
accepts_by v = refl

module _ (a c : Elaborated) (run again : Bytes) where
  -- what `agree` answers
  abbrev pub Agrees : Bool → Type 0
  Agrees r =
      (x y : Answer) → a ≡ elaborated_of x → c ≡ elaborated_of y → run ≡ x.run → again ≡ y.run → r ≡ agree x y

-- ---- the second marking

-- the part of an area up to a byte, as it is lent
abbrev pub up_to : ℕ → Bytes → Bytes
up_to end b = take (end - 0) b

-- what the calls of `mark_again` answer and leave: the written parts of the first out areas, the joined book, the
-- second answer
pub record Calls
    (book : Bytes) (limit : ℕ) (work o t : Bytes) (first : Elaborated) (s : Second) (w : Bytes) (s' : Second) : Type 0 where
  pub run : Bytes
  pub run_is : run ≡ written_part o first.run
  pub tail : Bytes
  pub tail_is : tail ≡ written_part t first.tail
  pub fit : Bool
  pub fit_is : fit ≡ leb (length book + length tail) (length s.joined)
  pub joined_is : s'.joined ≡ area (length s.joined) (joined_book (length s.joined) book tail)
  -- the part of the joined book that is elaborated
  pub end : ℕ
  pub end_is : end ≡ length (joined_book (length s.joined) book tail)
  pub answer : Elaborated
  pub answer_is : answer ≡ elaborated_of (answer_to (lent (up_to end s'.joined) run work s.out_run s.out_tail) limit)
  pub after_is :
      lent (up_to end s'.joined) run w s'.out_run s'.out_tail
      ≡ memory_after (lent (up_to end s'.joined) run work s.out_run s.out_tail) limit
  pub again : Bytes
  pub again_is : again ≡ written_part s'.out_run answer.run
  pub agreed : Bool
  pub agreed_is : Agrees first answer run again agreed

module _
    {book : Bytes} {limit : ℕ} {work o t : Bytes} {first : Elaborated} {s : Second} {w : Bytes} {s' : Second}
    (calls : Calls book limit work o t first s w s') (m : Memory) (book-is : m.book ≡ book)
    (size_is : length m.work ≡ length work) (first_is_lem : first ≡ elaborated_of (answer_to m limit))
    (o_is : o ≡ (memory_after m limit).out_run) (t-is : t ≡ (memory_after m limit).out_tail) where
  abbrev x : Answer
  x = answer_to m limit

  abbrev y : Answer
  y = answer_again m limit s

  x-whole : WholeAnswer x
  x-whole = whole-answer m.book m.run limit (length m.work) (length m.out_run) (length m.out_tail)

  y-whole : WholeAnswer y
  unfolding answer_again
  y-whole = whole-answer _ _ limit (length m.work) (length s.out_run) (length s.out_tail)

  run-written : calls.run ≡ written_part (memory_after m limit).out_run (length x.run)
  run-written = calls.run_is ∙ rw (o_is, first_is_lem)

  run-whole : calls.run ≡ x.run
  run-whole = run-written ∙ part-written (length m.out_run) x.run x-whole.run

  tail-whole : calls.tail ≡ x.tail
  tail-whole = calls.tail_is ∙ rw (t-is, first_is_lem) (part-written (length m.out_tail) x.tail x-whole.tail)

  joined-whole : joined_book (length s.joined) book calls.tail ≡ elaborated_book m limit s
  joined-whole =
      ap (λ z. joined_book (length s.joined) z calls.tail) (sym book-is)
      ∙ ap (joined_book (length s.joined) m.book) tail-whole

  joined_all : s'.joined ≡ area (length s.joined) (elaborated_book m limit s)
  joined_all = calls.joined_is ∙ ap (area (length s.joined)) joined-whole

  book-again : up_to calls.end s'.joined ≡ elaborated_book m limit s
  unfolding area
  book-again =
      rw (sub-zero calls.end, joined_all, calls.end_is, joined-whole)
      (take-append_seam (elaborated_book m limit s) (replicate (length s.joined - length (elaborated_book m limit s)) 0))

  lent_again : answer_to (lent (up_to calls.end s'.joined) calls.run work s.out_run s.out_tail) limit ≡ y
  unfolding answer_again
  lent_again = rw (book-again, run-written, ← size_is)

  answer-again : calls.answer ≡ elaborated_of y
  answer-again = calls.answer_is ∙ ap elaborated_of lent_again

  out_again : s'.out_run ≡ area (length s.out_run) y.run
  out_again =
      ap (λ (z : Memory). z.out_run) calls.after_is
      ∙ ap (λ (z : Answer). area (length s.out_run) z.run) lent_again

  tail-again : s'.out_tail ≡ area (length s.out_tail) y.tail
  tail-again =
      ap (λ (z : Memory). z.out_tail) calls.after_is
      ∙ ap (λ (z : Answer). area (length s.out_tail) z.tail) lent_again

  work-again : w ≡ zeros m.work
  work-again = ap (λ (z : Memory). z.work) calls.after_is ∙ ap (λ n. replicate n 0) (sym size_is)

  again-whole : calls.again ≡ y.run
  again-whole =
      calls.again_is ∙ rw (out_again, answer-again) (part-written (length s.out_run) y.run y-whole.run)

  -- the answer r
  marked : (r : Bool) → r ≡ agrees_again m limit s → MarkedAgain m limit s r w s'
  marked r e = record { answered = e; cleared = work-again; left = rw (joined_all, out_again, tail-again) }

  fit-again : calls.fit ≡ leb (length m.book + length x.tail) (length s.joined)
  fit-again =
      calls.fit_is
      ∙ ap (λ (z : Bytes). leb (length z + length calls.tail) (length s.joined)) (sym book-is)
      ∙ ap (λ (z : Bytes). leb (length m.book + length z) (length s.joined)) tail-whole

  pub marked_both : {r : Bool} → r ≡ (calls.fit && calls.agreed) → MarkedAgain m limit s r w s'
  unfolding agrees_again
  marked_both {r} e =
      marked r
      (e ∙ ap (λ (z : Bool). z && calls.agreed) fit-again
      ∙ ap (λ (z : Bool). leb (length m.book + length x.tail) (length s.joined) && z)
      (calls.agreed_is x y first_is_lem answer-again run-whole again-whole))

-- ---- demand 3

-- an answer agrees with itself, with an empty tail
agrees-same :
    (a : Answer) → T (not (is_lent a.verdict)) →
    agree a (answer AllAccepted a.steps a.visits a.run []) ≡ true
unfolding agree
agrees-same a free =
    rw (
      T_true (not (is_lent a.verdict)) free,
      eq-eqb a.steps a.steps refl,
      eq-eqb a.visits a.visits refl,
      same_bytes-refl a.run,
    )

module _ (m : Memory) (limit : ℕ) (s : Second) where
  abbrev a : Answer
  a = answer_to m limit

  pub agrees-again :
      T (not (is_lent a.verdict)) → Every (λ x. NoSurplus x.0) (mark (limited limit) m.book m.run).steps →
      length m.book + length a.tail ≤ length s.joined → length s.out_run ≡ length m.out_run →
      length s.out_tail ≡ length m.out_tail → agrees_again m limit s ≡ true
  unfolding agrees_again answer_again
  agrees-again free surplus room run tail =
      let fit : leb (length m.book + length a.tail) (length s.joined) ≡ true = le-leb _ _ room in
      let second =
      second_marking m.book m.run limit (length m.work) (length m.out_run) (length m.out_tail) free surplus
      in
      let is : answer_again m limit s ≡ answer AllAccepted a.steps a.visits a.run [] =
      rw (joined_by_lem m.book a.tail s.joined fit, run, tail) second.again
      in
      rw (fit, is) (agrees-same a free)

-- ---- both markings

-- `elaborate` answered first and left work, o and t; the second marking answered again and left w and s'
module _
    (m : Memory) (limit : ℕ) (s : Second) {first : Elaborated} {work o t : Bytes}
    (done : ElaborateDone m limit (lent m.book m.run work o t) first) {again : Bool} {w : Bytes} {s' : Second}
    (marks :
    (n : Memory) → n.book ≡ m.book → length n.work ≡ length work → first ≡ elaborated_of (answer_to n limit) →
    o ≡ (memory_after n limit).out_run → t ≡ (memory_after n limit).out_tail → MarkedAgain n limit s again w s') where
  o-after : o ≡ (memory_after m limit).out_run
  o-after = ap (λ (z : Memory). z.out_run) done.left

  t-after : t ≡ (memory_after m limit).out_tail
  t-after = ap (λ (z : Memory). z.out_tail) done.left

  second_marked : MarkedAgain m limit s again w s'
  second_marked =
      let long : length work ≡ length m.work =
      ap (λ (z : Memory). length z.work) done.left ∙ length-replicate (length m.work) 0
      in
      marks m refl (sym long) done.answered o-after t-after

  pub both_markings :
      AgainDone m limit s (lent m.book m.run w o t) s' (record { first = first; again = again })
  both_markings =
      let size : length (answer_to m limit).tail ≡ first.tail = sym (ap (λ (z : Elaborated). z.tail) done.answered) in
      record {
        first = promised m limit done.answered (rw (o-after, t-after, second_marked.cleared));
        again = second_marked.answered;
        left = second_marked.left;
        agrees = λ applies room run tail.
            second_marked.answered
            ∙ agrees-again m limit s applies.free applies.no_surplus
            (omega (arith, size, room)) run tail;
      }
