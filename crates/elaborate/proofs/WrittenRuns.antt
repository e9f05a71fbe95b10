-- What is written as a run reads back as the steps that were written (`run-read-back`), and every step of a
-- run that is read is writable (`read-writable`). A step's bytes are its S record and the rows of P, C and A
-- records; the marks differ and the next step opens with S, so the rows are parted again. Every number goes
-- into two bytes: a book has 2048 records at most, and a premise is below the number of steps. What is written
-- has whole records (`whole_run`).
use Rattle.runs.specs.declared.rule.Rule.{Rule}
use Rattle.runs.specs.declared.rule.Rule.TheVariants.{Assume}
use mathlib.Core.Path.{◌≡◌, refl, sym, ◌∙◌, ap, subst}
use mathlib.Core.Bool.{Bool, true, false, not, ◌&&◌, ◌||◌}
use mathlib.Core.List.{List, [], ◌∷◌, ◌++◌, append_assoc}
use Prim.Native.Nat.{ℕ, zero, suc, ◌+◌, ◌*◌, ◌/◌, ◌%◌, ◌<◌, ◌≤◌}
use native.Mathlib.Omega.{arith}
use borrow.Author.Tests.{lt-ltb, le-leb, eq-eqb, eqb-true, ltb-true}
use lib.Dec.{eqb, ltb}
use lib.ListN.{length, length-append}
use Rattle.numbers.specs.Bytes.{Bytes, bytes_of}
use Rattle.terms.specs.Term.{Term, record_number}
use Rattle.terms.specs.Book.{count}
use Rattle.numbers.proofs.Truths.{both, never}
use Rattle.terms.specs.Format.{max_run_records}
use Rattle.rules.specs.Refusal.{◌>>=◌, assert, or_else}
use Rattle.std.specs.Prelude.{Ok}
use Rattle.rules.proofs.Yields.{Yields, and_then, past, guarded}
use Rattle.rules.proofs.Yields.Yields.{gives, refuses}
use Rattle.runs.specs.Rule.{rule_number, is_rule}
use Rattle.runs.specs.Run.{Step, Rec, S, P, C, A, rec, recs, all_right, is_empty, shape_ok, numbers_of, terms_of}
use Rattle.runs.specs.Run.{head_rule, read_step, read_steps, read_run, Every, record_bytes, premise_bytes, term_bytes}
use Rattle.runs.proofs.Rules.{rule-back, same-rule}
use Rattle.runs.proofs.RowRecords.{number_bytes, marked, record_numbers, premises-are-numbers, terms-are-numbers}
use Rattle.runs.proofs.RowRecords.{length-number_bytes, Small, recs_record, recs-numbers, Elsewhere, elsewhere_marked}
use Rattle.runs.proofs.RowRecords.{parted, every-number, all_right_lem, right-numbers, numbers-back, length_marked, InBook}
use Rattle.runs.proofs.RowRecords.{is_literal, number-inside, tree_of_number, terms-back, every-term, Literal}
use Rattle.runs.proofs.RowRecords.{length-terms, in_book, literal}
use Rattle.out_areas.proofs.Everywhere.{every-weaker}

-- ---- a run as bytes

-- `step_bytes` of farkas' specs/Farkas without the change of the rule
unfoldable pub plain_bytes : Step → Bytes
plain_bytes s =
    record_bytes S (rule_number s.rule) 0
    ++ (premise_bytes s.premises ++ (term_bytes C s.clause ++ term_bytes A s.args))

unfoldable pub run_bytes : List Step → Bytes
run_bytes [] = []
run_bytes (s ∷ ss) = plain_bytes s ++ run_bytes ss

-- ---- what document 01 asks of step k

pub record Writable (b : Bytes) (k : ℕ) (s : Step) : Type 0 where
  pub premises : Every (λ p. p < k) s.premises
  pub clause : Every (Literal b) s.clause
  pub args : Every (InBook b) s.args
  -- an assume has one literal and nothing else
  pub assumed : s.rule ≡ Assume → (s.premises ≡ []) × (length s.clause ≡ 1) × (s.args ≡ [])

-- step k, step k + 1 and so on
pub data AllWritable (b : Bytes) : ℕ → List Step → Type 0 where
  none : {k : ℕ} → AllWritable b k []
  one :
      {k : ℕ} {s : Step} {ss : List Step} → Writable b k s → AllWritable b (suc k) ss →
      AllWritable b k (s ∷ ss)

-- ---- the records of what is written

-- the three rows of records behind a step's S
abbrev rows : Step → Bytes
rows s =
    number_bytes P s.premises
    ++ (number_bytes C (record_numbers s.clause) ++ number_bytes A (record_numbers s.args))

step_is_rows : (s : Step) → plain_bytes s ≡ record_bytes S (rule_number s.rule) 0 ++ rows s
unfolding plain_bytes
step_is_rows s =
    rw (premises-are-numbers s.premises, terms-are-numbers C s.clause, terms-are-numbers A s.args)

-- what stands behind the S record of a step, and rs behind the step
abbrev behind : Step → List Rec → List Rec
behind s rs =
    marked P s.premises
    ++ (marked C (record_numbers s.clause) ++ (marked A (record_numbers s.args) ++ rs))

record SmallNumbers (s : Step) : Type 0 where
  premises : Every Small s.premises
  clause : Every Small (record_numbers s.clause)
  args : Every Small (record_numbers s.args)

recs-rows : (s : Step) (r : Bytes) → SmallNumbers s → recs (rows s ++ r) ≡ behind s (recs r)
recs-rows s r h =
    simp (append_assoc, recs-numbers P h.premises, recs-numbers C h.clause, recs-numbers A h.args)

recs-step :
    (s : Step) (r : Bytes) → SmallNumbers s →
    recs (plain_bytes s ++ r) ≡ rec S (rule_number s.rule) 0 ∷ behind s (recs r)
unfolding bytes_of
recs-step s r h =
    ap (λ x. recs (x ++ r)) (step_is_rows s)
    ∙ recs_record S (rule_number s.rule) 0 (rows s ++ r) (omega arith)
    ∙ ap (λ rs. rec S (rule_number s.rule) 0 ∷ rs) (recs-rows s r h)

-- ---- a step is read back

module _ (b : Bytes) (k : ℕ) (s : Step) (w : Writable b k s) where
  abbrev ps : List Rec
  ps = marked P s.premises

  abbrev cs : List Rec
  cs = marked C (record_numbers s.clause)

  abbrev as' : List Rec
  as' = marked A (record_numbers s.args)

  shape-right : shape_ok s.rule ps cs as' ≡ true
  unfolding marked record_numbers
  shape-right = go (is_rule Assume s.rule) refl
    where
      go :
          (t : Bool) → is_rule Assume s.rule ≡ t →
          (not t || (is_empty ps && (eqb (length cs) 1 && is_empty as'))) ≡ true
      go false e = refl
      go true e =
          let h = w.assumed (sym (same-rule Assume s.rule e)) in
          rw (length_marked C s.clause, h.0, h.1, h.2)

  literals : Every (InBook b) s.clause
  literals = every-weaker (λ t h. h.0) s.clause w.clause

  small-numbers : k ≤ 65536 → SmallNumbers s
  small-numbers few =
      record {
        premises = every-weaker (λ p h. omega arith) s.premises w.premises;
        clause = every-number Small small s.clause literals;
        args = every-number Small small s.args w.args;
      }
    where
      small : (t : Term) → InBook b t → record_number t < 65536
      small t h = let x = number-inside b t h in omega arith

  literal-right : (t : Term) → Literal b t → is_literal b (record_number t) ≡ true
  literal-right t (h, e) = rw (lt-ltb _ _ (number-inside b t h), tree_of_number b t h) e

  premises-right : all_right (λ p. ltb p k) ps ≡ true
  premises-right = all_right_lem _ P _ (every-weaker (λ p h. lt-ltb p k h) s.premises w.premises)

  clause-right : all_right (is_literal b) cs ≡ true
  clause-right = all_right_lem _ C _ (every-number _ literal-right s.clause w.clause)

  args-right : all_right (λ a. ltb a (count b)) as' ≡ true
  args-right = all_right_lem _ A _ (every-number _ (λ t h. lt-ltb _ _ (number-inside b t h)) s.args w.args)

  step_back : read_step b k (rec S (rule_number s.rule) 0) ps cs as' ≡ Ok s
  unfolding read_step head_rule or_else ◌>>=◌ assert
  step_back =
      let p = numbers-back P s.premises in
      let c = terms-back b C s.clause literals in
      let a = terms-back b A s.args w.args in
      rw (rule-back s.rule, premises-right, clause-right, args-right, shape-right, p, c, a)

-- ---- a run is read back

-- a run is empty or opens with S
opens : (ss : List Step) (m : ℕ) → eqb S m ≡ false → Elsewhere m (recs (run_bytes ss))
unfolding recs run_bytes plain_bytes bytes_of Elsewhere
opens [] m e = tt
opens (s ∷ ss) m e = e

steps_back :
    (b : Bytes) (k n : ℕ) (ss : List Step) → AllWritable b n ss → length ss ≤ k → n + length ss ≤ 65536 →
    read_steps k b n (recs (run_bytes ss)) ≡ Ok ss
unfolding read_steps recs run_bytes ◌>>=◌
steps_back b zero n [] w h few = refl
steps_back b (suc k) n [] w h few = refl
steps_back b zero n (s ∷ ss) w h few = absurd (omega arith)
steps_back b (suc k) n (s ∷ ss) (one w ws) h few =
    let rest = recs (run_bytes ss) in
    let cs = record_numbers s.clause in
    let as' = record_numbers s.args in
    let a = parted A as' rest (opens ss A refl) in
    let c = parted C cs _ (elsewhere_marked A C as' rest refl (opens ss C refl)) in
    let other = elsewhere_marked A P as' rest refl (opens ss P refl) in
    let p = parted P s.premises _ (elsewhere_marked C P cs _ refl other) in
    let records = recs-step s (run_bytes ss) (small-numbers b n s w (omega arith)) in
    let later = steps_back b k (suc n) ss ws (omega arith) (omega arith) in
    rw (records, p.0, p.1, c.0, c.1, a.0, a.1, step_back b n s w, later)

-- ---- the length of a run

-- a step's records
records_of : Step → ℕ
records_of s =
    suc (length s.premises + (length (record_numbers s.clause) + length (record_numbers s.args)))

length-step : (s : Step) → length (plain_bytes s) ≡ 4 * records_of s
unfolding records_of bytes_of
length-step s = simp (step_is_rows s, length-append, length-number_bytes) (omega arith)

-- as many whole records as steps, at least
record Quarters (ss : List Step) : Type 0 where
  records : ℕ
  all : length (run_bytes ss) ≡ 4 * records
  enough : length ss ≤ records

run_quarters : (ss : List Step) → Quarters ss
unfolding run_bytes records_of
run_quarters [] = record { records = 0; all = refl; enough = omega arith }
run_quarters (s ∷ ss) =
    let q = run_quarters ss in
    let n = records_of s + q.records in
    let sum = length-append (plain_bytes s) (run_bytes ss) in
    record { records = n; all = omega (arith, sum, length-step s, q.all); enough = omega (arith, q.enough) }

pub whole_run : (ss : List Step) → length (run_bytes ss) % 4 ≡ 0
whole_run ss = omega (arith, (run_quarters ss).all)

pub run-read-back :
    (b : Bytes) (ss : List Step) → AllWritable b 0 ss → length (run_bytes ss) / 4 ≤ max_run_records →
    read_run b (run_bytes ss) ≡ Ok ss
unfolding read_run ◌>>=◌ assert
run-read-back b ss w few =
    let q = run_quarters ss in
    let e = q.all in
    let h = q.enough in
    rw (eq-eqb (length (run_bytes ss) % 4) 0 (omega arith), le-leb _ _ few)
    (steps_back b _ 0 ss w (omega arith) (omega arith))

-- ---- what is read can be written

empty_list : {X : Type 0} (xs : List X) → is_empty xs ≡ true → xs ≡ []
empty_list [] e = refl
empty_list (x ∷ xs) e = never e

module _ (b : Bytes) where
  assumed-alone :
      (rule : Rule) (ps cs as' : List Rec) → shape_ok rule ps cs as' ≡ true → rule ≡ Assume →
      (numbers_of ps ≡ []) × (length (terms_of b cs) ≡ 1) × (terms_of b as' ≡ [])
  unfolding numbers_of terms_of
  assumed-alone rule ps cs as' e z =
      let x = both (is_empty ps) _ (subst (λ r. shape_ok r ps cs as' ≡ true) z e) in
      let y = both (eqb (length cs) 1) (is_empty as') x.1 in (
        ap numbers_of (empty_list ps x.0),
        length-terms b cs ∙ eqb-true (length cs) 1 y.0,
        ap (terms_of b) (empty_list as' y.1),
      )

  step-writable : (k : ℕ) (s : Rec) (ps cs as' : List Rec) → Yields (Writable b k) (read_step b k s ps cs as')
  unfolding read_step
  step-writable k s ps cs as' =
      past _ λ rule.
      guarded _ _ λ e1 u1.
      guarded _ _ λ e2 u2.
      guarded _ _ λ e3 u3.
      guarded _ _ λ e4 u4.
      gives record {
        premises = right-numbers _ (λ i e. ltb-true i k e) ps e1;
        clause = every-term b cs (right-numbers _ (literal b) cs e2);
        args = every-term b as' (right-numbers _ (in_book b) as' e3);
        assumed = assumed-alone rule ps cs as' e4;
      }

  steps-writable : (m k : ℕ) (rs : List Rec) → Yields (AllWritable b k) (read_steps m b k rs)
  unfolding read_steps
  steps-writable zero k [] = gives none
  steps-writable zero k (r ∷ rs) = refuses
  steps-writable (suc m) k [] = gives none
  steps-writable (suc m) k (r ∷ rs) =
      and_then (step-writable k r _ _ _) λ s h. and_then (steps-writable m (suc k) _) λ ss g. gives (one h g)

  pub read-writable : (run : Bytes) → Yields (AllWritable b 0) (read_run b run)
  unfolding read_run
  read-writable run = guarded _ _ λ e u. steps-writable _ 0 _
