-- The records of a part of a run, and the parts of a step.
--     length-recs, recs-drop, recs-take, rec_at, recs_cons, head_is       the records by place and from a place on
--     leading-has, leading-stops, leading-take, after-drop       the records in front with one mark
--     recs-leading, recs-after, cut       the records of the part in front, and of the part that follows
--     numbers_of, terms_of_lem       the numbers in a part's records, and the terms that they name
--     rows_in, own_bytes, length-own, step-taken       the bytes of a step
--     next-drop, bytes-within, bytes-least, next-shorter, whole-next       where the next step starts
--     part_from, Begins, begins_first, begins-behind, begins-next, begins-less       going through a run step by step
--     Passed, passed-next       where each step that is passed has some bytes
use mathlib.Core.Path.{◌≡◌, refl, sym, ap, ◌∙◌}
use mathlib.Core.Bool.{Bool, true, false}
use mathlib.Core.List.{List, [], ◌∷◌, ◌++◌, append_assoc}
use Prim.Native.Nat.{ℕ, zero, suc, ◌+◌, ◌*◌, ◌-◌, ◌/◌, ◌%◌, ◌≤◌, ◌<◌, min}
use native.Mathlib.Numerals.{add-one}
use native.Mathlib.Omega.{arith}
use lib.Dec.{eqb}
use lib.ListN.{length, get_or, take, drop, length-append, length-take, length-drop, drop_of_length-le, take-append-drop}
use lib.Seq.{take_all, take-nil, drop-nil, drop-drop, take_at, drop_at}
use Rattle.numbers.specs.Bytes.{Bytes, le}
use Rattle.numbers.proofs.LittleEndian.{le_cons, le_of_two}
use Rattle.rules.specs.Memory.Parts.{numbers_in, named, terms_in}
use Rattle.rules.proofs.RunParts.{drop_to_end}
use Rattle.runs.specs.Run.{Rec, rec, recs, leading, after, numbers_of, terms_of, P, C, A}
use Rattle.runs.specs.Memory.StepParts.{leading_in, after_in, premises_in, clause_in, args_in, next_in, bytes_in, head_in}
use Rattle.runs.specs.Memory.StepParts.{step_from}

-- ---- by place

pub length-recs : (p : Bytes) → length (recs p) ≡ length p / 4
unfolding recs
length-recs [] = refl
length-recs (m ∷ []) = refl
length-recs (m ∷ b ∷ []) = refl
length-recs (m ∷ b ∷ x ∷ []) = refl
length-recs (m ∷ b ∷ x ∷ y ∷ p) = omega (arith, length-recs p)

pub recs-drop : (p : Bytes) (k : ℕ) → recs (drop (4 * k) p) ≡ drop k (recs p)
unfolding recs
recs-drop p zero = refl
recs-drop [] (suc k) = ap recs (drop-nil (4 * suc k))
recs-drop (m ∷ []) (suc k) = ap recs (drop_of_length-le (m ∷ []) {i = 4 * suc k} (omega arith))
recs-drop (m ∷ b ∷ []) (suc k) = ap recs (drop_of_length-le (m ∷ b ∷ []) {i = 4 * suc k} (omega arith))
recs-drop (m ∷ b ∷ x ∷ []) (suc k) = ap recs (drop_of_length-le (m ∷ b ∷ x ∷ []) {i = 4 * suc k} (omega arith))
recs-drop (m ∷ b ∷ x ∷ y ∷ p) (suc k) =
    let place : 4 * suc k ≡ suc (suc (suc (suc (4 * k)))) = omega arith in
    rw place (recs-drop p k)

pub recs-take : (p : Bytes) (k : ℕ) → recs (take (4 * k) p) ≡ take k (recs p)
unfolding recs
recs-take p zero = refl
recs-take [] (suc k) = ap recs (take-nil (4 * suc k))
recs-take (m ∷ []) (suc k) = ap recs (take_all (4 * suc k) (m ∷ []) (omega arith))
recs-take (m ∷ b ∷ []) (suc k) = ap recs (take_all (4 * suc k) (m ∷ b ∷ []) (omega arith))
recs-take (m ∷ b ∷ x ∷ []) (suc k) = ap recs (take_all (4 * suc k) (m ∷ b ∷ x ∷ []) (omega arith))
recs-take (m ∷ b ∷ x ∷ y ∷ p) (suc k) =
    let place : 4 * suc k ≡ suc (suc (suc (suc (4 * k)))) = omega arith in
    rw place (ap (λ rs. rec m b (x + 256 * y) ∷ rs) (recs-take p k))

-- record k of a part
abbrev pub rec_at : Bytes → ℕ → Rec
rec_at p k = rec (get_or p (4 * k) 0) (get_or p (4 * k + 1) 0) (le 2 p (4 * k + 2))

-- that record, and those behind it
pub recs_cons : (p : Bytes) (k : ℕ) → k < length p / 4 → drop k (recs p) ≡ rec_at p k ∷ drop (suc k) (recs p)
unfolding recs
recs_cons [] k h = absurd (omega arith)
recs_cons (m ∷ []) k h = absurd (omega arith)
recs_cons (m ∷ b ∷ []) k h = absurd (omega arith)
recs_cons (m ∷ b ∷ x ∷ []) k h = absurd (omega arith)
recs_cons (m ∷ b ∷ x ∷ y ∷ p) zero h =
    ap (λ n. rec m b n ∷ recs p) (le_of_two (m ∷ b ∷ x ∷ y ∷ p) 2 x y (omega arith) refl refl)
recs_cons (m ∷ b ∷ x ∷ y ∷ p) (suc k) h =
    let mark : 4 * suc k ≡ suc (suc (suc (suc (4 * k)))) = omega arith in
    let byte : 4 * suc k + 1 ≡ suc (suc (suc (suc (4 * k + 1)))) = omega arith in
    let number : 4 * suc k + 2 ≡ suc (suc (suc (suc (4 * k + 2)))) = omega arith in
    rw (byte, number, mark, le_cons, le_cons, le_cons, le_cons) (recs_cons p k (omega arith))

-- a part that has a record starts with its head
pub head_is : (p : Bytes) → 4 ≤ length p → recs p ≡ head_in p ∷ recs (drop 4 p)
unfolding head_in
head_is p h = recs_cons p 0 (omega (arith, h)) ∙ ap (λ rs. rec_at p 0 ∷ rs) (sym (recs-drop p 1))

-- chunk by chunk
pub less_recs : (l : Bytes) → length l < 4 → recs l ≡ []
unfolding recs
less_recs [] h = refl
less_recs (m ∷ []) h = refl
less_recs (m ∷ b ∷ []) h = refl
less_recs (m ∷ b ∷ x ∷ []) h = refl
less_recs (m ∷ b ∷ x ∷ y ∷ l) h = absurd (omega arith)

pub more_recs : (p l : Bytes) → length p ≡ 4 → recs (p ++ l) ≡ head_in p ∷ recs l
unfolding recs head_in
more_recs [] l h = absurd (omega arith)
more_recs (m ∷ []) l h = absurd (omega arith)
more_recs (m ∷ b ∷ []) l h = absurd (omega arith)
more_recs (m ∷ b ∷ x ∷ []) l h = absurd (omega arith)
more_recs (m ∷ b ∷ x ∷ y ∷ []) l h =
    ap (λ n. rec m b n ∷ recs l) (le_of_two (m ∷ b ∷ x ∷ y ∷ []) 2 x y (omega arith) refl refl)
more_recs (m ∷ b ∷ x ∷ y ∷ z ∷ p) l h = absurd (omega arith)

-- ---- the records in front that have a mark

module _ (m : ℕ) where
  pub leading-has : (r : Rec) (rs : List Rec) → eqb r.mark m ≡ true → leading m (r ∷ rs) ≡ r ∷ leading m rs
  unfolding leading
  leading-has r rs e = rw (e, leading)

  pub leading-stops : (r : Rec) (rs : List Rec) → eqb r.mark m ≡ false → leading m (r ∷ rs) ≡ []
  unfolding leading
  leading-stops r rs e = rw (e, leading)

  after-has : (r : Rec) (rs : List Rec) → eqb r.mark m ≡ true → after m (r ∷ rs) ≡ after m rs
  unfolding after
  after-has r rs e = rw (e, after)

  after-stops : (r : Rec) (rs : List Rec) → eqb r.mark m ≡ false → after m (r ∷ rs) ≡ r ∷ rs
  unfolding after
  after-stops r rs e = rw (e, after)

  pub leading-take : (rs : List Rec) → take (length (leading m rs)) rs ≡ leading m rs
  unfolding leading
  leading-take [] = refl
  leading-take (r ∷ rs) = go (eqb r.mark m) refl (leading-take rs)
    where
      go :
          (t : Bool) → eqb r.mark m ≡ t → take (length (leading m rs)) rs ≡ leading m rs →
          take (length (leading m (r ∷ rs))) (r ∷ rs) ≡ leading m (r ∷ rs)
      go true e h = rw (leading-has r rs e) (ap (λ l. r ∷ l) h)
      go false e h = rw (leading-stops r rs e)

  pub after-drop : (rs : List Rec) → drop (length (leading m rs)) rs ≡ after m rs
  unfolding leading after
  after-drop [] = refl
  after-drop (r ∷ rs) = go (eqb r.mark m) refl (after-drop rs)
    where
      go :
          (t : Bool) → eqb r.mark m ≡ t → drop (length (leading m rs)) rs ≡ after m rs →
          drop (length (leading m (r ∷ rs))) (r ∷ rs) ≡ after m (r ∷ rs)
      go true e h = rw (leading-has r rs e, after-has r rs e) h
      go false e h = rw (leading-stops r rs e, after-stops r rs e)

pub recs-leading : (m : ℕ) (part : Bytes) → recs (leading_in m part) ≡ leading m (recs part)
unfolding leading_in
recs-leading m part = recs-take part (length (leading m (recs part))) ∙ leading-take m (recs part)

pub recs-after : (m : ℕ) (part : Bytes) → recs (after_in m part) ≡ after m (recs part)
unfolding after_in
recs-after m part = recs-drop part (length (leading m (recs part))) ∙ after-drop m (recs part)

pub cut : (m : ℕ) (part : Bytes) → leading_in m part ++ after_in m part ≡ part
unfolding leading_in after_in
cut m part = take-append-drop (4 * length (leading m (recs part))) part

-- ---- what they name

pub numbers_of_lem : (part : Bytes) → numbers_in part ≡ numbers_of (recs part)
unfolding numbers_in numbers_of recs
numbers_of_lem [] = refl
numbers_of_lem (m ∷ []) = refl
numbers_of_lem (m ∷ b ∷ []) = refl
numbers_of_lem (m ∷ b ∷ x ∷ []) = refl
numbers_of_lem (m ∷ b ∷ x ∷ y ∷ part) = ap (λ ns. (x + 256 * y) ∷ ns) (numbers_of_lem part)

terms-numbers : (b : Bytes) (rs : List Rec) → named b (numbers_of rs) ≡ terms_of b rs
unfolding named numbers_of terms_of
terms-numbers b [] = refl
terms-numbers b (r ∷ rs) = rw (terms-numbers b rs)

pub terms_of_lem : (b part : Bytes) → terms_in b part ≡ terms_of b (recs part)
terms_of_lem b part = ap (named b) (numbers_of_lem part) ∙ terms-numbers b (recs part)

-- ---- from step to step

-- a step's own bytes: its first record, and the rows behind it
abbrev pub rows_in : Bytes → Bytes
rows_in part = premises_in part ++ (clause_in part ++ args_in part)

abbrev pub own_bytes : Bytes → Bytes
own_bytes part = take 4 part ++ rows_in part

step_cut : (part : Bytes) → own_bytes part ++ next_in part ≡ part
unfolding premises_in clause_in args_in next_in
step_cut part =
    let p = drop 4 part in
    let c = after_in P p in
    let a = after_in C c in
    simp append_assoc
    (ap (λ l. take 4 part ++ (leading_in P p ++ (leading_in C c ++ l))) (cut A a)
    ∙ ap (λ l. take 4 part ++ (leading_in P p ++ l)) (cut C c)
    ∙ ap (λ l. take 4 part ++ l) (cut P p)
    ∙ take-append-drop 4 part)

pub length-own : (part : Bytes) → length (own_bytes part) ≡ bytes_in part
unfolding bytes_in
length-own part = omega (arith, ap length (step_cut part), length-append (own_bytes part) (next_in part))

pub step-taken : (part : Bytes) → take (bytes_in part) part ≡ own_bytes part
step-taken part =
    ap (take (bytes_in part)) (sym (step_cut part)) ∙ take_at (own_bytes part) (next_in part) _ (length-own part)

pub next-drop : (part : Bytes) → drop (bytes_in part) part ≡ next_in part
next-drop part =
    ap (drop (bytes_in part)) (sym (step_cut part)) ∙ drop_at (own_bytes part) (next_in part) _ (length-own part)

pub bytes-within : (part : Bytes) → bytes_in part ≤ length part
unfolding bytes_in
bytes-within part = omega arith

-- a record, where there is one
pub bytes-least : (part : Bytes) → min 4 (length part) ≤ bytes_in part
bytes-least part = omega (arith, length-own part, length-append (take 4 part) (rows_in part), length-take 4 part)

pub next-shorter : (part : Bytes) → length (next_in part) ≤ length part
next-shorter part = omega (arith, ap length (next-drop part), length-drop (bytes_in part) part)

whole-after : (m : ℕ) (part : Bytes) → length part % 4 ≡ 0 → length (after_in m part) % 4 ≡ 0
unfolding after_in
whole-after m part h = omega (arith, h, length-drop (4 * length (leading m (recs part))) part)

pub whole-next : (part : Bytes) → length part % 4 ≡ 0 → length (next_in part) % 4 ≡ 0
unfolding next_in
whole-next part h = whole-after A _ (whole-after C _ (whole-after P _ (omega (arith, h, length-drop 4 part))))

-- a run from a byte on, as it is lent
abbrev pub part_from : Bytes → ℕ → Bytes
part_from run at = take (length run - at) (drop at run)

-- step n of a run begins at byte `at`
pub record Begins (run : Bytes) (at n : ℕ) : Type 0 where
  pub within : at ≤ length run
  pub from : drop at run ≡ step_from n run

pub begins_first : (run : Bytes) → Begins run 0 0
unfolding step_from
begins_first run = record { within = omega arith; from = refl }

-- m is how many bytes step n has
module _ {run : Bytes} {at n : ℕ} (begins : Begins run at n) {m : ℕ} (size : m ≡ bytes_in (part_from run at)) where
  size-here : m ≡ bytes_in (drop at run)
  size-here = size ∙ ap bytes_in (drop_to_end run at)

  pub begins-behind : drop (at + m) run ≡ next_in (drop at run)
  begins-behind = rw size-here (sym (drop-drop (bytes_in (drop at run)) at run) ∙ next-drop (drop at run))

  pub begins-next : Begins run (at + m) (n + 1)
  unfolding step_from
  begins-next =
      record {
        within = omega (arith, begins.within, size-here, bytes-within (drop at run), length-drop at run);
        from = rw add-one (begins-behind ∙ ap next_in begins.from);
      }

  pub begins-less : at < length run → length run - (at + m) < length run - at
  begins-less h =
      let left = length-drop at run in
      omega (arith, left, size-here, bytes-least (drop at run))

-- and no step before it is empty
pub record Passed (run : Bytes) (at n : ℕ) : Type 0 where
  pub begins : Begins run at n
  pub few : n ≤ at

pub passed-next :
    {run : Bytes} {at n : ℕ} → Passed run at n → at < length run → {m : ℕ} → m ≡ bytes_in (part_from run at) →
    Passed run (at + m) (n + 1)
passed-next passed h size =
    let begins = passed.begins in
    record { begins = begins-next begins size; few = omega (arith, passed.few, begins-less begins size h) }
