-- The steps of a run that was read, where they stand in its bytes. Reading goes by records; at each step what is left
-- to read is what the bytes from that step on hold (`reads_from`).
--     stands, step_now, no_more       going through the bytes is going through the steps
--     Tested, stands-tested       what reading tested of a step
--     stands-steps .. stands-named       what that says of its parts
use Rattle.runs.specs.declared.verdict.LentRefusal.TheVariants.{RunRecord}
use Rattle.runs.specs.declared.rule.Rule.TheVariants.{Assume}
use mathlib.Core.Path.{◌≡◌, refl, sym, ap, ◌∙◌}
use mathlib.Core.Bool.{Bool, true}
use mathlib.Core.List.{List, [], ◌∷◌, ◌++◌}
use Rattle.std.specs.Prelude.{Option, Some, None}
use Prim.Native.Nat.{ℕ, zero, suc, ◌/◌, ◌%◌, ◌≤◌, ◌<◌}
use native.Mathlib.Numerals.{add-one}
use native.Mathlib.Omega.{arith}
use borrow.Author.Tests.{eqb-true, leb-true}
use lib.Dec.{eqb, leb, ltb}
use lib.ListN.{length, get_or, take, drop, length-append, length-drop, drop_of_length-le}
use lib.Seq.{drop-cons, drop-drop, drop-nil}
use Rattle.numbers.specs.Bytes.{Bytes}
use Rattle.terms.specs.Term.{sort, same_sort}
use Rattle.terms.specs.Term.Sort.{bool}
use Rattle.terms.specs.Book.{count, tree, all_below}
use Rattle.numbers.proofs.Truths.{both}
use Rattle.rules.specs.Refusal.{or_else}
use Rattle.std.specs.Prelude.{Ok}
use Rattle.rules.specs.Memory.Parts.{numbers_in, Inside}
use Rattle.rules.proofs.Yields.{Yields, at_ok, by_answer, guarded, known, through}
use Rattle.rules.proofs.Yields.Yields.{gives}
use Rattle.runs.specs.Run.{Step, step, recs, all_right, head_rule, read_step, read_run, Every, steps_of, end, also}
use Rattle.runs.specs.Memory.StepParts.{premises_in, clause_in, args_in, next_in, bytes_in, head_in, read_in, rule_in, step_in}
use Rattle.runs.specs.Memory.StepParts.{step_from, StandsIn}
use Rattle.runs.proofs.RowRecords.{is_literal, right-numbers}
use Rattle.runs.proofs.RunRecords.{length-recs, numbers_of_lem, terms_of_lem, rows_in, length-own, next-drop}
use Rattle.runs.proofs.RunRecords.{bytes-within, next-shorter, whole-next, Begins}
use Rattle.runs.proofs.StepRules.{head-rule, rule_is}
use Rattle.runs.proofs.StepReading.{read_part, part-done, part_first}

-- ---- one step

-- what reading tests of step n
pub record Tested (b : Bytes) (n : ℕ) (part : Bytes) : Type 0 where
  pub head : head_rule (head_in part) ≡ Some (rule_in part)
  pub premises : all_right (λ p. ltb p n) (recs (premises_in part)) ≡ true
  pub clause : all_right (is_literal b) (recs (clause_in part)) ≡ true
  pub args : all_right (λ a. ltb a (count b)) (recs (args_in part)) ≡ true

some_of : {E A : Type 0} (o : Option A) (r : E) {a : A} → or_else o r ≡ Ok a → o ≡ Some a
unfolding or_else
some_of (Some b) r e = cc
some_of None r e = let z : ◌≡◌ {A = ℕ} 0 1 = cc in absurd (omega arith)

read_as :
    (b : Bytes) (n : ℕ) (part : Bytes) → Yields (λ s. Tested b n part × (s ≡ step_in b part)) (read_in b n part)
unfolding read_in read_step step_in head_in
read_as b n part =
    known _ λ rule e1.
    guarded _ _ λ e2 u2.
    guarded _ _ λ e3 u3.
    guarded _ _ λ e4 u4.
    guarded _ _ λ e5 u5.
    let p = numbers_of_lem (premises_in part) in
    let c = terms_of_lem b (clause_in part) in
    let a = terms_of_lem b (args_in part) in
    let found = some_of (head_rule (head_in part)) RunRecord e1 in
    let same = rule_is part (head-rule (head_in part) found) in
    gives (record { head = found ∙ ap Some (sym same); premises = e2; clause = e3; args = e4 }, rw (same, p, c, a))

-- ---- the steps that are left

-- the part is read as the steps ss, the first of them step n
record Reads (b : Bytes) (n : ℕ) (part : Bytes) (ss : List Step) : Type 0 where
  read : read_part b n part ≡ Ok ss
  whole : length part % 4 ≡ 0

-- its first step, and the others
record ReadsOne (b : Bytes) (n : ℕ) (part : Bytes) (ss : List Step) : Type 0 where
  size : 4 ≤ length part
  tested : Tested b n part
  later : List Step
  are : ss ≡ step_in b part ∷ later
  rest : Reads b (suc n) (next_in part) later

none_read : (b : Bytes) (n : ℕ) → Reads b n [] []
none_read b n = record { read = part-done b n [] (omega arith); whole = omega arith }

reads_none : {b : Bytes} {n : ℕ} {ss : List Step} → Reads b n [] ss → ss ≡ []
reads_none {b} {n} h = cc (h.read, (none_read b n).read)

module _ {b : Bytes} {n : ℕ} {ss : List Step} where
  reads_one : (part : Bytes) → Reads b n part ss → 0 < length part → ReadsOne b n part ss
  reads_one part h left =
      let size : 4 ≤ length part = omega (arith, h.whole) in
      let first = through (read_in b n part) _ ss (sym (part_first b n part size) ∙ h.read) in
      let rest = through (read_part b (suc n) (next_in part)) _ ss first.then in
      let made : Ok (first.middle ∷ rest.middle) ≡ Ok ss = rest.then in
      let found = at_ok (read_as b n part) first.first in
      let is : first.middle ≡ step_in b part = found.1 in
      record {
        size = size;
        tested = found.0;
        later = rest.middle;
        are = cc;
        rest = record { read = rest.first; whole = whole-next part h.whole };
      }

  -- where steps are left, bytes are
  some_left : (part : Bytes) → Reads b n part ss → 0 < length ss → 0 < length part
  some_left [] h left = absurd (omega (arith, ap length (reads_none h)))
  some_left (m ∷ part) h left = omega arith

-- ---- the parts of a run

next_none : next_in [] ≡ []
next_none = sym (next-drop []) ∙ drop-nil (bytes_in [])

from_shorter : (n : ℕ) (run : Bytes) → length (step_from n run) ≤ length run
unfolding step_from
from_shorter zero run = omega arith
from_shorter (suc n) run = omega (arith, next-shorter (step_from n run), from_shorter n run)

clause-shorter : (part : Bytes) → length (clause_in part) ≤ length part
clause-shorter part =
    omega (
      arith,
      length-own part,
      bytes-within part,
      length-append (take 4 part) (rows_in part),
      length-append (premises_in part) (clause_in part ++ args_in part),
      length-append (clause_in part) (args_in part),
    )

drop_more : (n : ℕ) (ss : List Step) {xs : List Step} → drop n ss ≡ xs → drop 1 xs ≡ drop (suc n) ss
drop_more n ss e = ap (drop 1) (sym e) ∙ drop-drop 1 n ss ∙ ap (λ k. drop k ss) (add-one n)

-- ---- going through the bytes

-- the size of a run that was read
record RunRead (b run : Bytes) (ss : List Step) : Type 0 where
  few : length run ≤ 16384
  reads : Reads b 0 run ss

run-read : (b run : Bytes) → Yields (RunRead b run) (read_run b run)
unfolding read_run read_part
run-read b run =
    guarded _ _ λ e u.
    let x = both (eqb (length run % 4) 0) (leb (length run / 4) 4096) e in
    let whole = eqb-true (length run % 4) 0 x.0 in
    by_answer _ λ ss r. record {
      few = omega (arith, whole, leb-true (length run / 4) 4096 x.1);
      reads = record { read = rw (length-recs run) r; whole = whole };
    }

module _ (b run : Bytes) (ss : List Step) (read : read_run b run ≡ Ok ss) where
  pub read-steps : steps_of b run ≡ ss
  read-steps = rw (read, steps_of)

  reads_from : (n : ℕ) → Reads b n (step_from n run) (drop n ss)
  unfolding step_from
  reads_from zero = (at_ok (run-read b run) read).reads
  reads_from (suc n) = go (step_from n run) (reads_from n)
    where
      go : (part : Bytes) → Reads b n part (drop n ss) → Reads b (suc n) (next_in part) (drop (suc n) ss)
      go [] h = rw (next_none, ← drop_more n ss (reads_none h)) (none_read b (suc n))
      go (m ∷ part) h =
          let o = reads_one (m ∷ part) h (omega arith) in
          rw (← drop_more n ss o.are) o.rest

  -- step n, where there is one
  reads-step : (n : ℕ) → n < length ss → ReadsOne b n (step_from n run) (drop n ss)
  reads-step n h =
      let left : 0 < length (drop n ss) = omega (arith, length-drop n ss, h) in
      reads_one _ (reads_from n) (some_left _ (reads_from n) left)

  module _ {at n : ℕ} (begins : Begins run at n) where
    here : at < length run → ReadsOne b n (drop at run) (drop n ss)
    here h =
        let left : 0 < length (step_from n run) = omega (arith, ap length begins.from, length-drop at run, h) in
        rw begins.from (reads_one _ (reads_from n) left)

    step-below : at < length run → n < length ss
    step-below h = omega (arith, ap length (here h).are, length-drop n ss)

    pub stands : at < length run → StandsIn b run (drop at run)
    stands h = record { steps = ss; read = read; number = n; from = begins.from; inside = step-below h }

    -- step n is the next of the steps that are left
    pub step_now : at < length run → drop n ss ≡ step_in b (drop at run) ∷ drop (suc n) ss
    step_now h =
        let o = here h in
        rw (← drop_more n ss o.are) o.are

    pub no_more : length run ≤ at → drop n ss ≡ []
    no_more h =
        let none : step_from n run ≡ [] = sym begins.from ∙ drop_of_length-le run {i = at} h in
        reads_none (rw none at (reads_from n))

-- ---- what reading found of a step

below_all : (n : ℕ) (ns : List ℕ) → Every (λ i. ltb i n ≡ true) ns → all_below n ns ≡ true
unfolding all_below
below_all n [] end = refl
below_all n (i ∷ ns) (also h hs) = rw h (below_all n ns hs)

names_below :
    (n : ℕ) {p : ℕ → Bool} → ((i : ℕ) → p i ≡ true → ltb i n ≡ true) → (part : Bytes) → all_right p (recs part) ≡ true →
    all_below n (numbers_in part) ≡ true
names_below n f part e = ap (all_below n) (numbers_of_lem part) ∙ below_all n _ (right-numbers _ f (recs part) e)

module _ {b run part : Bytes} (s : StandsIn b run part) where
  pub stands-steps : steps_of b run ≡ s.steps
  stands-steps = read-steps b run s.steps s.read

  -- an earlier step, by its number
  pub stands-named :
      (p : ℕ) → p < length s.steps → get_or s.steps p (step Assume [] [] []) ≡ step_in b (step_from p run)
  stands-named p h =
      let o = reads-step b run s.steps s.read p h in
      cc (drop-cons s.steps p (step Assume [] [] []) h, o.are)

  read_here : ReadsOne b s.number part (drop s.number s.steps)
  read_here = rw s.from (reads-step b run s.steps s.read s.number s.inside)

  pub stands_record : 4 ≤ length part
  stands_record = read_here.size

  pub stands-tested : Tested b s.number part
  stands-tested = read_here.tested

  pub stands-premises : all_below s.number (numbers_in (premises_in part)) ≡ true
  stands-premises = names_below s.number (λ i e. e) (premises_in part) stands-tested.premises

  -- the literals, where they are found
  pub stands-literals : {cs : Bytes} → cs ≡ clause_in part → Inside b cs × (length cs ≤ 16384)
  stands-literals e =
      let named : Inside b (clause_in part) =
      names_below (count b) (λ i h. (both (ltb i (count b)) (same_sort (sort (tree b i)) bool) h).0) (clause_in part)
      stands-tested.clause
      in
      let all : length part ≤ length run = rw s.from (from_shorter s.number run) in
      rw e (named, omega (arith, clause-shorter part, all, (at_ok (run-read b run) s.read).few))
