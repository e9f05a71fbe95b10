-- A step that stands in a run which was read is written as it stands there, but for its rule.
--     head-back       its S record, since reading tests the mark and the number
--     row_back       a row of records, each with its mark and the byte 0, is its numbers as they are written
--     copied, length-copied       the bytes of a step are its S record and its rows; only the rule differs
--     add_nothing, add-full, add-copied       the function `add_step`
use Rattle.runs.specs.declared.rule.Rule.{Rule}
use mathlib.Core.Path.{◌≡◌, refl, sym, ap, ap₂, ◌∙◌}
use mathlib.Core.Bool.{Bool, true, false, ◌&&◌}
use mathlib.Core.List.{List, [], ◌∷◌, ◌++◌}
use Rattle.std.specs.Prelude.{Option, Some, None}
use Prim.Native.Nat.{ℕ, suc, ◌+◌, ◌*◌, ◌/◌, ◌%◌, ◌≤◌, ◌<◌}
use native.Mathlib.Nat.{zero-add, suc-add, mod-eq_of_lt}
use native.Mathlib.Omega.{arith}
use borrow.Author.Tests.{eqb-true}
use lib.Dec.{eqb, leb}
use lib.ListN.{length, get_or, take, drop, set, length-set, length-append}
use lib.Seq.{paste, take-length, set-append_left, get_or-drop, length-take-le}
use Rattle.numbers.specs.Bytes.{Bytes, bytes_of, le}
use Rattle.numbers.proofs.Truths.{both, never}
use Rattle.terms.proofs.NumberedNodes.{record_number-tree}
use Rattle.numbers.proofs.LittleEndian.{le_of_two}
use Rattle.rules.specs.Memory.Parts.{numbers_in, named, terms_in}
use Rattle.std.specs.Prelude.{is_some}
use Rattle.runs.specs.Rule.{rule_number, rule_of}
use Rattle.runs.specs.Run.{Step, Rec, rec, S, P, C, A, recs, leading, all_right, numbers_of, head_rule, record_bytes}
use Rattle.runs.specs.Run.{premise_bytes, term_bytes}
use Rattle.runs.specs.Memory.StepParts.{leading_in, after_in, premises_in, clause_in, args_in, bytes_in, head_in, rule_in}
use Rattle.runs.specs.Memory.StepParts.{step_in, StandsIn}
use Rattle.out_areas.specs.Farkas.{elaborated_rule, step_bytes}
use Rattle.out_areas.specs.Memory.OutAreas.{WritesOne, with_step}
use Rattle.out_areas.specs.declared.out_areas.Out.{Out}
use Rattle.runs.proofs.RunRecords.{recs-leading, numbers_of_lem, rows_in, step-taken, bytes-within, bytes-least}
use Rattle.runs.proofs.RowRecords.{number_bytes, record_numbers, premises-are-numbers, terms-are-numbers}
use Rattle.runs.proofs.RowRecords.{length-number_bytes}
use Rattle.out_areas.proofs.Pieces.{more-full, writes-full, writes-run, unwritten_run}
use Rattle.out_areas.proofs.OutAreas.{both-le, not-both}
use Rattle.runs.proofs.Standing.{Tested, stands-tested, stands_record}

abbrev pub Octets : Bytes → Type 0
Octets p = (j : ℕ) → get_or p j 0 < 256

octets_drop : (n : ℕ) (p : Bytes) → Octets p → Octets (drop n p)
octets_drop n p small j = rw (get_or-drop n p j 0) (small (n + j))

octets_after : (m : ℕ) (q : Bytes) → Octets q → Octets (after_in m q)
unfolding after_in
octets_after m q = octets_drop (4 * length (leading m (recs q))) q

-- ---- an S record is written as it stands

-- an S record that has a rule has its mark, and the number 0
head-marked : (s : Rec) {r : Rule} → head_rule s ≡ Some r → (eqb s.mark S && eqb s.number 0) ≡ true
unfolding head_rule
head-marked s {r} e = go (eqb s.mark S && eqb s.number 0) e
  where
    go : (t : Bool) → elim t as (λ x. Option Rule) [ true ↦ rule_of s.byte | false ↦ None ] ≡ Some r → t ≡ true
    go true e = refl
    go false e = never (ap is_some e)

head-back :
    (part : Bytes) {r : Rule} → 4 ≤ length part → head_rule (head_in part) ≡ Some r →
    take 4 part ≡ record_bytes S (get_or part 1 0) 0
unfolding head_in bytes_of
head-back [] h e = absurd (omega (arith, h))
head-back (m ∷ []) h e = absurd (omega (arith, h))
head-back (m ∷ c ∷ []) h e = absurd (omega (arith, h))
head-back (m ∷ c ∷ x ∷ []) h e = absurd (omega (arith, h))
head-back (m ∷ c ∷ x ∷ y ∷ p) h e =
    let part = m ∷ c ∷ x ∷ y ∷ p in
    let tests = both (eqb m S) _ (head-marked _ e) in
    let mark : m ≡ S = eqb-true m S tests.0 in
    let number = eqb-true (le 2 part 2) 0 tests.1 in
    let bytes = le_of_two part 2 x y (omega arith) refl refl in
    let low : x ≡ 0 = omega (arith, number, bytes) in
    let high : y ≡ 0 = omega (arith, number, bytes) in
    rw (mark, low, high)

-- ---- and so is a row of records

-- the records in front, by whether the first has the mark
abbrev fronts : Bool → Rec → List Rec → List Rec
fronts t r rs = elim t [ true ↦ r ∷ rs | false ↦ [] ]

module _ (test : ℕ → Bool) (m : ℕ) where
  row_by :
      (q : Bytes) (rs : List Rec) (a c x y : ℕ) (t : Bool) → eqb a m ≡ t → x < 256 → y < 256 →
      all_right test (fronts t (rec a c (x + 256 * y)) rs) ≡ true →
      (all_right test rs ≡ true → take (4 * length rs) q ≡ number_bytes m (numbers_of rs)) →
      take (4 * length (fronts t (rec a c (x + 256 * y)) rs)) (a ∷ c ∷ x ∷ y ∷ q)
      ≡ number_bytes m (numbers_of (fronts t (rec a c (x + 256 * y)) rs))
  unfolding all_right numbers_of number_bytes bytes_of
  row_by q rs a c x y false e low high z then = refl
  row_by q rs a c x y true e low high z then =
      let tests = both (eqb c 0 && test (x + 256 * y)) (all_right test rs) z in
      let marked : a ≡ m = eqb-true a m e in
      let zero-byte : c ≡ 0 = eqb-true c 0 (both (eqb c 0) _ tests.0).0 in
      let first : (x + 256 * y) % 256 ≡ x = omega arith in
      let rest : (x + 256 * y) / 256 ≡ y = omega arith in
      let second : (x + 256 * y) / 256 % 256 ≡ y = rw rest (mod-eq_of_lt high) in
      let place : 4 * suc (length rs) ≡ suc (suc (suc (suc (4 * length rs)))) = omega arith in
      rw (place, first, second, marked, zero-byte) (ap (λ l. m ∷ 0 ∷ x ∷ y ∷ l) (then tests.1))

  row-bytes :
      (q : Bytes) → Octets q → all_right test (leading m (recs q)) ≡ true →
      take (4 * length (leading m (recs q))) q ≡ number_bytes m (numbers_of (leading m (recs q)))
  unfolding recs leading numbers_of number_bytes
  row-bytes [] small z = refl
  row-bytes (a ∷ []) small z = refl
  row-bytes (a ∷ c ∷ []) small z = refl
  row-bytes (a ∷ c ∷ x ∷ []) small z = refl
  row-bytes (a ∷ c ∷ x ∷ y ∷ q) small z =
      row_by q (leading m (recs q)) a c x y (eqb a m) refl (small 2) (small 3) z
      (row-bytes q (octets_drop 4 (a ∷ c ∷ x ∷ y ∷ q) small))

  -- the numbers of a row, as bytes
  row_back :
      (q : Bytes) → Octets q → all_right test (recs (leading_in m q)) ≡ true →
      number_bytes m (numbers_in (leading_in m q)) ≡ leading_in m q
  unfolding leading_in
  row_back q small z =
      ap (number_bytes m) (numbers_of_lem (leading_in m q) ∙ ap numbers_of (recs-leading m q))
      ∙ sym (row-bytes q small (rw (recs-leading m q) at z))

named_back : (b : Bytes) (ns : List ℕ) → record_numbers (named b ns) ≡ ns
unfolding record_numbers named
named_back b [] = refl
named_back b (n ∷ ns) = ap₂ (λ (i : ℕ) (l : List ℕ). i ∷ l) (record_number-tree b n) (named_back b ns)

term-row : (b : Bytes) (m : ℕ) (ns : List ℕ) → term_bytes m (named b ns) ≡ number_bytes m ns
term-row b m ns = terms-are-numbers m (named b ns) ∙ ap (number_bytes m) (named_back b ns)

-- ---- the bytes of a step

whole-step : (s : Step) → length (step_bytes s) % 4 ≡ 0
unfolding step_bytes bytes_of
whole-step s =
    let rows : ℕ = length s.premises + (length (record_numbers s.clause) + length (record_numbers s.args)) in
    let records : length (step_bytes s) ≡ 4 * suc rows =
    simp (premises-are-numbers, terms-are-numbers, length-append, length-number_bytes) (omega arith)
    in
    omega (arith, records)

module _ {b run part : Bytes} (stands : StandsIn b run part) (small : Octets part) where
  tested : Tested b stands.number part
  tested = stands-tested stands

  rows_back :
      premise_bytes (numbers_in (premises_in part))
      ++ (term_bytes C (terms_in b (clause_in part)) ++ term_bytes A (terms_in b (args_in part)))
      ≡ rows_in part
  unfolding premises_in clause_in args_in
  rows_back =
      let p = drop 4 part in
      let c = after_in P p in
      let small-p = octets_drop 4 part small in
      let small-c = octets_after P p small-p in
      let small-a = octets_after C c small-c in
      ap₂ (λ (x y : Bytes). x ++ y) (premises-are-numbers _ ∙ row_back _ P p small-p tested.premises)
      (ap₂ (λ (x y : Bytes). x ++ y) (term-row b C _ ∙ row_back _ C c small-c tested.clause)
      (term-row b A _ ∙ row_back _ A (after_in C c) small-a tested.args))

  -- the byte of the rule
  abbrev rule_byte : ℕ
  rule_byte = rule_number (elaborated_rule (rule_in part))

  copied : step_bytes (step_in b part) ≡ set (take (bytes_in part) part) 1 rule_byte
  unfolding step_bytes step_in bytes_of
  copied =
      ap (λ l. record_bytes S rule_byte 0 ++ l) rows_back
      ∙ ap (λ f. set (f ++ rows_in part) 1 rule_byte) (sym (head-back part (stands_record stands) tested.head))
      ∙ ap (λ l. set l 1 rule_byte) (sym (step-taken part))

  length-copied : length (step_bytes (step_in b part)) ≡ bytes_in part
  length-copied =
      ap length copied
      ∙ length-set (take (bytes_in part) part) 1 rule_byte
      ∙ length-take-le (bytes_in part) part (bytes-within part)

-- ---- the function `add_step`

-- the areas did not take what was written before
pub add_nothing :
    (b o t : Bytes) (out : Out) (s : Step) → out.full ≡ true → WritesOne b o t out o t out (with_step s)
add_nothing b o t out s full =
    writes-full b o t out (with_step s) _ full
    (λ w. record { run = omega (arith, length-append w.run (step_bytes s)); tail = omega arith }) (more-full _ _)

set-behind : (x y : Bytes) (i a : ℕ) → set (x ++ y) (length x + i) a ≡ x ++ set y i a
set-behind [] y i a = rw zero-add
set-behind (c ∷ x) y i a = rw suc-add (ap (λ l. c ∷ l) (set-behind x y i a))

-- bytes that are put into an area, of which one is changed then
put_changed :
    (o x : Bytes) (at i a : ℕ) → at ≤ length o → i < length x →
    set (paste o at x (length x)) (at + i) a ≡ paste o at (set x i a) (length (set x i a))
put_changed o x at i a room h =
    let f = take at o in
    let z = drop (at + length x) o in
    let size = length-take-le at o room in
    ap (λ y. set (f ++ y ++ z) (at + i) a) (take-length x)
    ∙ set-append_left (f ++ x) z (at + i) a (omega (arith, size, length-append f x))
    ∙ ap (λ k. set (f ++ x) (k + i) a ++ z) (sym size)
    ∙ ap (λ y. y ++ z) (set-behind f x i a)
    ∙ rw (take-length (set x i a), length-set x i a)

-- the n bytes of the step go in, or they don't: r is the code's test
module _ {b run part : Bytes} (stands : StandsIn b run part) (small : Octets part) (o t : Bytes) (out : Out)
    (free : out.full ≡ false) {n : ℕ} (n-is : n ≡ bytes_in part) {r : Bool}
    (goes : r ≡ (leb (out.run + n) (length o) && leb (out.run + n) 16384)) where
  abbrev s : Step
  s = step_in b part

  size : n ≡ length (step_bytes s)
  size = n-is ∙ sym (length-copied stands small)

  pub add-full :
      r ≡ false → WritesOne b o t out o t record { run = out.run; tail = out.tail; full = true } (with_step s)
  add-full left =
      unwritten_run b o t out free (step_bytes s) (whole-step s)
      (rw size at (not-both (out.run + n) (length o) 16384 goes left))

  pub add-copied :
      r ≡ true → {o₁ : Bytes} → o₁ ≡ paste o out.run (take n part) (length (take n part)) → {rule : ℕ} →
      rule ≡ rule_number (elaborated_rule (rule_in part)) →
      WritesOne b o t out (set o₁ (out.run + 1) rule) t
      record { run = out.run + n; tail = out.tail; full = out.full } (with_step s)
  add-copied taken {o₁} o₁-is {rule} rule_is =
      let x : Bytes = take n part in
      let room = both-le (out.run + n) (length o) 16384 goes taken in
      let same : step_bytes s ≡ set x 1 rule = rw (n-is, rule_is) (copied stands small) in
      let long : 1 < length x =
      omega (
        arith,
        ap length same ∙ length-set x 1 rule,
        length-copied stands small,
        bytes-least part,
        stands_record stands,
      )
      in
      let put : set o₁ (out.run + 1) rule ≡ paste o out.run (step_bytes s) (length (step_bytes s)) =
      ap (λ y. set y (out.run + 1) rule) o₁-is
      ∙ put_changed o x out.run 1 rule (omega (arith, room)) long
      ∙ ap (λ y. paste o out.run y (length y)) (sym same)
      in
      rw (put, size)
      (writes-run b o t out free (step_bytes s) (whole-step s) (rw size at room.0) (rw size at room.1))
