-- Reading a run: what the functions of the code that read steps answer is what the definitions say.
--     is_right, all_right_all       records, each of which must be right
--     shape_is       the shape of a step, by how many records it has of each mark
--     step-tests, not-read       a step is read if all tests hold; otherwise it is refusal 7
--     read_part, part-done .. part-wrong       the steps of a part are its first step and those of what follows
--     not-whole, too_long       refusal 6
--     ReadSoFar, read-begin .. read_on       so many steps are read, and the others are left
use Rattle.runs.specs.declared.rule.Rule.{Rule}
use Rattle.runs.specs.declared.rule.Rule.TheVariants.{Assume}
use Rattle.runs.specs.declared.verdict.LentRefusal.{LentRefusal}
use Rattle.runs.specs.declared.verdict.LentRefusal.TheVariants.{RunSize, RunRecord}
use mathlib.Core.Path.{◌≡◌, refl, sym, ap, ◌∙◌, subst}
use mathlib.Core.Bool.{Bool, true, false, ◌&&◌, ◌||◌, not, and_assoc}
use mathlib.Core.List.{List, [], ◌∷◌}
use Rattle.std.specs.Prelude.{Option, Some, None}
use Prim.Native.Nat.{ℕ, zero, suc, ◌+◌, ◌/◌, ◌%◌, ◌≤◌, ◌<◌}
use native.Mathlib.Numerals.{add-one}
use native.Mathlib.Omega.{arith}
use borrow.Author.Tests.{eq-eqb, ne_eqb, le-leb, lt-leb}
use lib.Dec.{eqb, leb, ltb}
use lib.ListN.{length, drop, length-drop}
use Rattle.numbers.specs.Bytes.{Bytes}
use Rattle.terms.specs.Book.{count}
use Rattle.std.specs.List.{list_all}
use Rattle.numbers.proofs.Truths.{never}
use Rattle.terms.specs.Format.{max_run_bytes, max_run_records}
use Rattle.rules.specs.Refusal.{◌>>=◌, assert, or_else}
use Rattle.std.specs.Prelude.{Result, Ok, Err}
use Rattle.runs.specs.Rule.{is_rule}
use Rattle.runs.specs.Run.{Step, Rec, P, C, A, recs, leading, after, all_right, is_empty, shape_ok, head_rule}
use Rattle.runs.specs.Run.{read_step, read_steps, read_run}
use Rattle.runs.specs.Memory.StepParts.{after_in, premises_in, clause_in, args_in, next_in, bytes_in, head_in, parts_ok}
use Rattle.runs.specs.Memory.StepParts.{read_in, parts_in, rule_in, passed}
use Rattle.std.specs.Prelude.{is_ok}
use denote.Enum.Bare.{sameb}
use Rattle.runs.specs.contracts.rule.Rule.{the_type}
use Rattle.runs.specs.declared.run.StepParts.{StepParts}
use Rattle.std.specs.Prelude.{is_some}
use Rattle.runs.proofs.StepRules.{head-rule, rule_is}
use Rattle.runs.proofs.RunRecords.{length-recs, head_is, after-drop, recs-leading, recs-after}
use Rattle.runs.proofs.RunRecords.{bytes-least, next-drop, whole-next, part_from}
use Rattle.runs.proofs.StepAreas.{next-found}
use Rattle.runs.proofs.RowRecords.{is_literal}

-- ---- each record is right

abbrev pub is_right : (ℕ → Bool) → Rec → Bool
is_right test r = eqb r.byte 0 && test r.number

pub all_right_all : (test : ℕ → Bool) (l : List Rec) → list_all (is_right test) l ≡ all_right test l
unfolding all_right
all_right_all test [] = refl
all_right_all test (r ∷ l) = ap (λ (b : Bool). is_right test r && b) (all_right_all test l)

-- of a part that is known by an equation
pub right_in : (test : ℕ → Bool) (p q : Bytes) → p ≡ q → all_right test (recs p) ≡ all_right test (recs q)
right_in test p q e = ap (λ (x : Bytes). all_right test (recs x)) e

-- ---- the shape of a step

is_empty-recs : (p : Bytes) → is_empty (recs p) ≡ eqb (length p / 4) 0
is_empty-recs p = go (recs p) ∙ ap (λ (n : ℕ). eqb n 0) (length-recs p)
  where
    go : (l : List Rec) → is_empty l ≡ eqb (length l) 0
    go [] = refl
    go (r ∷ l) = sym (ne_eqb (suc (length l)) 0 (λ e. omega (arith, e)))

same-assume : (r : Rule) → sameb the_type r Assume ≡ is_rule Assume r
same-assume Assume = refl
same-assume r = refl

-- t is whether the rule is another than assume; of an assume the records are counted
pub shape_is :
    (rule : Rule) (p c a : Bytes) {t x : Bool} → t ≡ not (sameb the_type rule Assume) →
    x ≡ (t || (eqb (length p / 4) 0 && (eqb (length c / 4) 1 && eqb (length a / 4) 0))) →
    x ≡ shape_ok rule (recs p) (recs c) (recs a)
shape_is rule p c a e h = h ∙ rw (e, same-assume rule, is_empty-recs p, length-recs c, is_empty-recs a)

-- ---- a step is read where all tests hold; otherwise it is refusal 7

-- t is what all tests on the way to x say
record Judged {X : Type 0} (t : Bool) (x : Result X LentRefusal) : Type 0 where
  is : is_ok x ≡ t
  seven : is_ok x ≡ false → x ≡ Err RunRecord

module _ {X : Type 0} where
  behind :
      (t : Bool) {u : Bool} (f : Unit {0} → Result X LentRefusal) → Judged u (f tt) →
      Judged (t && u) (assert t RunRecord >>= f)
  unfolding assert ◌>>=◌
  behind true f j = j
  behind false f j = record { is = refl; seven = λ e. refl }

  behind-some :
      {Y : Type 0} (o : Option Y) {u : Bool} (f : Y → Result X LentRefusal) →
      ((y : Y) → o ≡ Some y → Judged u (f y)) → Judged (is_some o && u) (or_else o RunRecord >>= f)
  unfolding or_else ◌>>=◌
  behind-some (Some y) f j = j y refl
  behind-some None f j = record { is = refl; seven = λ e. refl }

  last-behind : (t : Bool) (x : X) → Judged t (assert t RunRecord >>= λ _. Ok x)
  unfolding assert ◌>>=◌
  last-behind true x = record { is = refl; seven = λ e. never (sym e) }
  last-behind false x = record { is = refl; seven = λ e. refl }

grouped : (a b c d : Bool) → (a && (b && (c && d))) ≡ ((a && (b && c)) && d)
grouped a b c d = sym (and_assoc a (b && c) d ∙ ap (λ x. a && x) (and_assoc b c d))

abbrev pub head_ok : Bytes → Bool
head_ok part = is_some (head_rule (head_in part))

abbrev pub shape_in : Bytes → Bool
shape_in part = shape_ok (rule_in part) (recs (premises_in part)) (recs (clause_in part)) (recs (args_in part))

-- of parts that are known by equations
pub shape-in :
    (part : Bytes) {r : Rule} {p c a : Bytes} {x : Bool} → r ≡ rule_in part → p ≡ premises_in part →
    c ≡ clause_in part → a ≡ args_in part → x ≡ shape_ok r (recs p) (recs c) (recs a) → x ≡ shape_in part
shape-in part r-is p_is c-is a-is h = rw (← r-is, ← p_is, ← c-is, ← a-is) h

module _ (b : Bytes) (n : ℕ) (part : Bytes) where
  judged : Judged (head_ok part && (parts_ok b n part && shape_in part)) (read_in b n part)
  unfolding read_in read_step parts_ok head_in
  judged =
      let ps = all_right (λ p. ltb p n) (recs (premises_in part)) in
      let cs = all_right (is_literal b) (recs (clause_in part)) in
      let as' = all_right (λ a. ltb a (count b)) (recs (args_in part)) in
      subst (λ (t : Bool). Judged (head_ok part && t) (read_in b n part)) (grouped ps cs as' (shape_in part))
      (behind-some (head_rule (head_in part)) _ λ r e.
      rw (rule_is part (head-rule (head_in part) e))
      (behind ps _ (behind cs _ (behind as' _ (last-behind _ _)))))

  pub step-tests :
      {x : Bool} → x ≡ (head_ok part && (parts_ok b n part && shape_in part)) → x ≡ is_ok (read_in b n part)
  step-tests e = e ∙ sym judged.is

  pub not-read : is_ok (read_in b n part) ≡ false → read_in b n part ≡ Err RunRecord
  not-read = judged.seven

-- ---- the steps

after-short : (m : ℕ) (l : List Rec) → length (after m l) ≤ length l
after-short m l = omega (arith, ap length (after-drop m l), length-drop (length (leading m l)) l)

-- what follows the first step
abbrev next_recs : List Rec → List Rec
next_recs l = after A (after C (after P l))

next-short : (l : List Rec) → length (next_recs l) ≤ length l
next-short l = omega (arith, after-short A (after C (after P l)), after-short C (after P l), after-short P l)

module _ (b : Bytes) where
  abbrev followed : Result Step LentRefusal → Result (List Step) LentRefusal → Result (List Step) LentRefusal
  followed x y = x >>= λ s. y >>= λ ss. Ok (s ∷ ss)

  first : ℕ → Rec → List Rec → Result Step LentRefusal
  first n r l = read_step b n r (leading P l) (leading C (after P l)) (leading A (after C (after P l)))

  none_left : (k n : ℕ) → read_steps k b n [] ≡ Ok []
  unfolding read_steps
  none_left zero n = refl
  none_left (suc k) n = refl

  some_left :
      (k n : ℕ) (r : Rec) (l : List Rec) →
      read_steps (suc k) b n (r ∷ l) ≡ followed (first n r l) (read_steps k b (suc n) (next_recs l))
  unfolding read_steps first
  some_left k n r l = refl

  -- where enough steps are allowed, what is read does not depend on how many
  enough : (k j n : ℕ) (l : List Rec) → length l ≤ k → length l ≤ j → read_steps k b n l ≡ read_steps j b n l
  enough zero j n [] h g = none_left zero n ∙ sym (none_left j n)
  enough (suc k) j n [] h g = none_left (suc k) n ∙ sym (none_left j n)
  enough zero j n (r ∷ l) h g = absurd (omega (arith, h))
  enough (suc k) zero n (r ∷ l) h g = absurd (omega (arith, g))
  enough (suc k) (suc j) n (r ∷ l) h g =
      let short = next-short l in
      some_left k n r l
      ∙ ap (followed (first n r l)) (enough k j (suc n) (next_recs l) (omega (arith, short, h)) (omega (arith, short, g)))
      ∙ sym (some_left j n r l)

  -- all steps of a part, the first of them step n
  unfoldable pub read_part : ℕ → Bytes → Result (List Step) LentRefusal
  read_part n part = read_steps (length (recs part)) b n (recs part)

  module _ (n : ℕ) (part : Bytes) where
    pub part-done : length part ≡ 0 → read_part n part ≡ Ok []
    unfolding read_part recs
    part-done h = go part h
      where
        go : (p : Bytes) → length p ≡ 0 → read_part n p ≡ Ok []
        go [] h = none_left 0 n
        go (x ∷ p) h = absurd (omega (arith, h))

    first_is_lem : first n (head_in part) (recs (drop 4 part)) ≡ read_in b n part
    unfolding first read_in premises_in clause_in args_in
    first_is_lem =
        let l = drop 4 part in
        let c = after_in P l in
        let a = after_in C c in
        rw (recs-leading P l, recs-leading C c, recs-leading A a, recs-after C c, recs-after P l)

    next_is : next_recs (recs (drop 4 part)) ≡ recs (next_in part)
    unfolding next_in
    next_is = rw (recs-after, recs-after, recs-after)

    pub part_first : 4 ≤ length part → read_part n part ≡ followed (read_in b n part) (read_part (suc n) (next_in part))
    unfolding read_part
    part_first h =
        let l = recs (drop 4 part) in
        let next = recs (next_in part) in
        let short : length next ≤ length l = rw (← next_is) (next-short l) in
        ap (λ (x : List Rec). read_steps (length x) b n x) (head_is part h)
        ∙ some_left (length l) n (head_in part) l
        ∙ ap (λ x. followed x (read_steps (length l) b (suc n) (next_recs l))) first_is_lem
        ∙ ap (λ (x : List Rec). followed (read_in b n part) (read_steps (length l) b (suc n) x)) next_is
        ∙ ap (followed (read_in b n part)) (enough (length l) (length next) (suc n) next short (omega arith))

    -- the first is read, and the others are left; or it is not
    pub part-read :
        4 ≤ length part → is_ok (read_in b n part) ≡ true →
        passed (read_part n part) ≡ passed (read_part (suc n) (next_in part))
    unfolding ◌>>=◌
    part-read h e = ap passed (part_first h) ∙ go (read_in b n part) e (read_part (suc n) (next_in part))
      where
        go :
            (x : Result Step LentRefusal) → is_ok x ≡ true → (y : Result (List Step) LentRefusal) →
            passed (followed x y) ≡ passed y
        go (Ok s) e (Ok ss) = refl
        go (Ok s) e (Err r) = refl
        go (Err r) e y = never e

    pub part-wrong :
        4 ≤ length part → is_ok (read_in b n part) ≡ false → passed (read_part n part) ≡ Err RunRecord
    unfolding ◌>>=◌
    part-wrong h e =
        ap passed (part_first h)
        ∙ ap (λ x. passed (followed x (read_part (suc n) (next_in part)))) (not-read b n part e)

-- ---- the run

module _ (b run : Bytes) where
  abbrev Answers : Result (Unit {0}) LentRefusal → Type 0
  Answers r = r ≡ passed (read_run b run)

  size-wrong : (eqb (length run % 4) 0 && leb (length run / 4) max_run_records) ≡ false → Answers (Err RunSize)
  unfolding read_run assert ◌>>=◌
  size-wrong e = rw e

  pub not-whole : (length run % 4 ≡ 0 → ⊥) → Answers (Err RunSize)
  not-whole h = size-wrong (rw (ne_eqb _ _ h))

  pub too_long : length run % 4 ≡ 0 → max_run_bytes < length run → Answers (Err RunSize)
  too_long h g = size-wrong (rw (eq-eqb _ _ h) (lt-leb (length run / 4) max_run_records (omega (arith, h, g))))

  -- n steps are read, none of them empty
  pub record ReadSoFar (left : Bytes) (n : ℕ) : Type 0 where
    pub few : n + length left ≤ length run
    pub whole : length left % 4 ≡ 0
    pub rest : passed (read_run b run) ≡ passed (read_part b n left)

  pub read-begin : length run % 4 ≡ 0 → length run ≤ max_run_bytes → ReadSoFar run 0
  unfolding read_run read_part assert ◌>>=◌
  read-begin h g =
      record {
        few = omega arith;
        whole = h;
        rest =
            rw (eq-eqb _ _ h, le-leb (length run / 4) max_run_records (omega (arith, g)))
            (ap (λ (k : ℕ). passed (read_steps k b 0 (recs run))) (sym (length-recs run)));
      }

  module _ (left : Bytes) (n : ℕ) (so : ReadSoFar left n) where
    pub read-end : length left ≤ 0 → Answers (Ok tt)
    unfolding ◌>>=◌
    read-end h = sym (so.rest ∙ ap passed (part-done b n left (omega (arith, h))))

    -- another step is there
    module _ (h : 0 < length left) where
      a_record : 4 ≤ length left
      a_record = omega (arith, so.whole, h)

      -- x is whether it can be read
      module _ {x : Bool} (x-is : x ≡ is_ok (read_in b n left)) where
        pub read-wrong : x ≡ false → Answers (Err RunRecord)
        read-wrong e = sym (so.rest ∙ part-wrong b n left a_record (sym x-is ∙ e))

        -- p has its parts
        module _ {p : StepParts} (is : p ≡ parts_in left) where
          pub read-less : length (part_from left p.args) < length left
          read-less =
              let next = next-found left is in
              let behind = next-drop left in
              omega (arith, h, ap length next, ap length behind, length-drop (bytes_in left) left, bytes-least left)

          pub read_on : x ≡ true → ReadSoFar (part_from left p.args) (n + 1)
          read_on e =
              let next = next-found left is in
              record {
                few = omega (arith, so.few, read-less);
                whole = rw next (whole-next left so.whole);
                rest = rw (next, add-one) (so.rest ∙ part-read b n left a_record (sym x-is ∙ e));
              }
