-- The functions that find the parts of a step in lent bytes.
--     leading-prefix       `leading_count`
--     leading-inside, after-found       `after`: the part that is taken
--     literals-inside, arguments-inside, next-inside, parts-found       `parts`: what is left behind each part
--     clause-start .. next-found       the parts, by where they end
--     Reached, reached-begin, reached-again, reached-end       `step_at`
use mathlib.Core.Path.{◌≡◌, refl, sym, ap, ◌∙◌}
use mathlib.Core.Bool.{Bool, true, false, cond}
use mathlib.Core.List.{List, [], ◌∷◌, ◌++◌, append_assoc}
use Prim.Native.Nat.{ℕ, ◌+◌, ◌*◌, ◌-◌, ◌≤◌, ◌<◌}
use native.Mathlib.Numerals.{add-one}
use native.Mathlib.Omega.{arith}
use lib.Dec.{eqb}
use lib.ListN.{length, take, drop, length-append, length-take, take-append-drop}
use lib.Seq.{take_at, drop_at}
use Rattle.numbers.specs.Bytes.{Bytes}
use Rattle.rules.proofs.RunParts.{drop_to_end}
use Rattle.std.specs.List.{prefix_len}
use Rattle.runs.specs.Run.{Rec, recs, leading, P, C, A}
use Rattle.runs.specs.Memory.StepParts.{leading_in, after_in, premises_in, clause_in, args_in, next_in, bytes_in}
use Rattle.runs.specs.Memory.StepParts.{parts_in, step_from}
use Rattle.runs.specs.declared.run.StepParts.{StepParts}
use Rattle.runs.proofs.RunRecords.{length-recs, leading-take}
use Rattle.runs.proofs.RunRecords.{cut, next-drop, next-shorter, bytes-within, part_from}

-- ---- how many records in front have a mark

module _ (part : Bytes) (m : ℕ) where
  pub leading-prefix : (rs : List Rec) → prefix_len (λ r. eqb r.mark m) rs ≡ length (leading m rs)
  unfolding leading
  leading-prefix [] = refl
  leading-prefix (r ∷ rs) = go (eqb r.mark m) (leading-prefix rs)
    where
      go :
          (t : Bool) → prefix_len (λ r. eqb r.mark m) rs ≡ length (leading m rs) →
          cond t (1 + prefix_len (λ r. eqb r.mark m) rs) 0 ≡ length {A = Rec} (elim t [ true ↦ r ∷ leading m rs | false ↦ [] ])
      go true h = omega (arith, h)
      go false h = refl

  -- ---- the part with these n records, and the part behind them

  module _ (n : ℕ) (n-is : n ≡ length (leading m (recs part))) where
    pub leading-inside : 4 * n ≤ length part
    leading-inside =
        let taken = ap length (leading-take m (recs part)) in
        let most = length-take (length (leading m (recs part))) (recs part) in
        omega (arith, n-is, taken, most, length-recs part)

    pub after-found : take (length part - 4 * n) (drop (4 * n) part) ≡ after_in m part
    unfolding after_in
    after-found = drop_to_end part (4 * n) ∙ ap (λ k. drop (4 * k) part) n-is

-- ---- the parts of a step, one behind the other

after-size : (m : ℕ) (x : Bytes) → length (leading_in m x) + length (after_in m x) ≡ length x
after-size m x = omega (arith, ap length (cut m x), length-append (leading_in m x) (after_in m x))

-- a part is some bytes in front and x, which starts with records of a mark
module _ (part front x : Bytes) (is : front ++ x ≡ part) where
  sizes : length front + length x ≡ length part
  sizes = omega (arith, ap length is, length-append front x)

module _ (part front x : Bytes) (is : front ++ x ≡ part) (m : ℕ) where
  next-front : (front ++ leading_in m x) ++ after_in m x ≡ part
  next-front = simp append_assoc (ap (λ l. front ++ l) (cut m x) ∙ is)

  group :
      take ((length part - length (after_in m x)) - (length part - length x)) (drop (length part - length x) part) ≡
      leading_in m x
  group =
      let n : ℕ = (length part - length (after_in m x)) - (length part - length x) in
      let size : length (leading_in m x) ≡ n = omega (arith, sizes part front x is, after-size m x) in
      let start : length front ≡ length part - length x = omega (arith, sizes part front x is) in
      let from : drop (length part - length x) part ≡ x =
      ap (drop (length part - length x)) (sym is) ∙ drop_at front x _ start
      in
      ap (take n) (from ∙ sym (cut m x)) ∙ take_at (leading_in m x) (after_in m x) n size

-- what is left behind the first record, the premises, the clause
abbrev rows_of : Bytes → Bytes
rows_of step = drop 4 step

abbrev literals_of : Bytes → Bytes
literals_of step = after_in P (rows_of step)

abbrev arguments_of : Bytes → Bytes
arguments_of step = after_in C (literals_of step)

-- the records in front of the arguments
head-cut : (step : Bytes) → take 4 step ++ rows_of step ≡ step
head-cut step = take-append-drop 4 step

literals-cut : (step : Bytes) → (take 4 step ++ premises_in step) ++ literals_of step ≡ step
unfolding premises_in
literals-cut step = next-front step (take 4 step) (rows_of step) (head-cut step) P

arguments-cut : (step : Bytes) → ((take 4 step ++ premises_in step) ++ clause_in step) ++ arguments_of step ≡ step
unfolding clause_in
arguments-cut step = next-front step (take 4 step ++ premises_in step) (literals_of step) (literals-cut step) C

-- their sizes
literals-size : (step : Bytes) → length (take 4 step ++ premises_in step) + length (literals_of step) ≡ length step
literals-size step = sizes step (take 4 step ++ premises_in step) (literals_of step) (literals-cut step)

arguments-size :
    (step : Bytes) →
    length ((take 4 step ++ premises_in step) ++ clause_in step) + length (arguments_of step) ≡ length step
arguments-size step =
    sizes step ((take 4 step ++ premises_in step) ++ clause_in step) (arguments_of step) (arguments-cut step)

-- the first record is not among the premises
head_apart : (step : Bytes) → drop 4 (take 4 step ++ premises_in step) ≡ premises_in step
unfolding premises_in leading_in leading recs
head_apart [] = refl
head_apart (m ∷ []) = refl
head_apart (m ∷ b ∷ []) = refl
head_apart (m ∷ b ∷ x ∷ []) = refl
head_apart (m ∷ b ∷ x ∷ y ∷ step) = refl

-- what is found of a step, from what is left behind one part to what is left behind the next
module _
    (step rows : Bytes) (rows_is : rows ≡ drop 4 step) {literals : Bytes}
    (literals-is : literals ≡ after_in P rows) where
  literals-here : literals ≡ literals_of step
  literals-here = literals-is ∙ ap (after_in P) rows_is

  pub literals-inside : length literals ≤ length step
  literals-inside = rw literals-here (omega (arith, literals-size step))

  module _ {arguments : Bytes} (arguments-is : arguments ≡ after_in C literals) where
    arguments-here : arguments ≡ arguments_of step
    arguments-here = arguments-is ∙ ap (after_in C) literals-here

    pub arguments-inside : length arguments ≤ length step
    arguments-inside = rw arguments-here (omega (arith, arguments-size step))

    module _ {next : Bytes} (next_is : next ≡ after_in A arguments) where
      next_here : next ≡ next_in step
      unfolding next_in
      next_here = next_is ∙ ap (after_in A) arguments-here

      pub next-inside : length next ≤ length step
      next-inside = rw next_here (next-shorter step)

      pub parts-found :
          record {
            premises = length step - length literals;
            clause = length step - length arguments;
            args = length step - length next;
          } ≡
          parts_in step
      unfolding bytes_in
      parts-found = rw (literals-here, arguments-here, next_here)

-- ---- the parts, by where they end

module _ (step : Bytes) {p : StepParts} (is : p ≡ parts_in step) where
  pub clause-start : p.premises ≤ p.clause
  clause-start = rw is (omega (arith, after-size C (literals_of step)))

  pub clause-end : p.clause ≤ length step
  clause-end = rw is (omega arith)

  pub args-start : p.clause ≤ p.args
  unfolding bytes_in next_in
  args-start = rw is (omega (arith, after-size A (arguments_of step)))

  pub args_end : p.args ≤ length step
  args_end = rw is (bytes-within step)

  pub premises-found : drop 4 (take p.premises step) ≡ premises_in step
  premises-found =
      let front = take 4 step ++ premises_in step in
      let n : ℕ = length step - length (literals_of step) in
      let size : length front ≡ n = omega (arith, literals-size step) in
      let taken : take n step ≡ front =
      ap (take n) (sym (literals-cut step)) ∙ take_at front (literals_of step) n size
      in
      ap (λ q. drop 4 (take q.premises step)) is ∙ ap (drop 4) taken ∙ head_apart step

  pub clause-found : take (p.clause - p.premises) (drop p.premises step) ≡ clause_in step
  unfolding clause_in
  clause-found =
      ap (λ q. take (q.clause - q.premises) (drop q.premises step)) is
      ∙ group step (take 4 step ++ premises_in step) (literals_of step) (literals-cut step) C

  pub args-found : take (p.args - p.clause) (drop p.clause step) ≡ args_in step
  unfolding args_in bytes_in next_in
  args-found =
      ap (λ q. take (q.args - q.clause) (drop q.clause step)) is
      ∙ group step ((take 4 step ++ premises_in step) ++ clause_in step) (arguments_of step) (arguments-cut step) A

  pub next-found : part_from step p.args ≡ next_in step
  next-found = drop_to_end step p.args ∙ ap (λ q. drop q.args step) is ∙ next-drop step

-- ---- from step to step

module _ (run : Bytes) (k : ℕ) where
  -- the run from step i on, and step k is not passed
  pub record Reached (step : Bytes) (i : ℕ) : Type 0 where
    pub most : i ≤ k
    pub from : step ≡ step_from i run

  pub reached-begin : Reached run 0
  unfolding step_from
  reached-begin = record { most = omega arith; from = refl }

  module _ (step : Bytes) (i : ℕ) (reached : Reached step i) where
    pub reached-again : i < k → {p : StepParts} → p ≡ parts_in step → Reached (part_from step p.args) (i + 1)
    unfolding step_from
    reached-again h is =
        record { most = omega (arith, h); from = rw add-one (next-found step is ∙ ap next_in reached.from) }

    pub reached-end : k ≤ i → step ≡ step_from k run
    reached-end h =
        let same : i ≡ k = omega (arith, h, reached.most) in
        reached.from ∙ ap (λ j. step_from j run) same
