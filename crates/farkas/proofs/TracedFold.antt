-- `bounded_farkas` with the trace on: the loop of `la_generic_partial` (linear_arithmetic's PartialFold), where each
-- number that is inferred is written as it is found. So behind what stood there the numbers that the loop inferred are
-- written.
--     add-reals-then       one number more
--     refused-leaves, accepted-leaves       every byte that a step leaves
--     TracedSoFar, traced-unread, traced-begin, traced-again, traced-refused, traced-wrong, traced-done       the loop
use mathlib.Core.Path.{◌≡◌, refl, sym, ap, ap₂, subst, ◌∙◌}
use mathlib.Core.Bool.{Bool}
use mathlib.Core.List.{List, [], ◌∷◌, ◌++◌}
use Prim.Native.Nat.{ℕ, ◌+◌, ◌≤◌}
use lib.ListN.{length, take, drop, take-append-drop}
use Rattle.numbers.specs.Rational.{Rational}
use Rattle.numbers.specs.Bytes.{Bytes}
use Rattle.terms.specs.Operator.{Equals}
use Rattle.terms.specs.Format.{max_run_bytes}
use Rattle.rules.specs.Refusal.{Result}
use Rattle.std.specs.Prelude.{Ok, Err}
use Rattle.process_disequality.specs.ProcessDisequality.{Progress}
use Rattle.linear_comb.specs.Memory.WorkArea.{Sum, area_of, with_area}
use Rattle.index_map.specs.Memory.Entries.{blanked}
use Rattle.rules.specs.declared.refusal.Refusal.{Refusal}
use Rattle.rules.specs.Memory.Parts.{Ready, Inside}
use Rattle.linear_arithmetic.specs.Memory.LinearSteps.{visits_of, are_numbers, AllNumbers, contradicts}
use Rattle.index_map.specs.Memory.Answers.{nothing}
use Rattle.linear_arithmetic.specs.declared.linear_arithmetic.Folded.TheVariants as folded
use Rattle.process_disequality.specs.declared.process_disequality.Progress as by_value
use Rattle.rules.proofs.Results.{next, ends}
use Rattle.rules.proofs.Yields.{at_ok}
use Rattle.linear_arithmetic.proofs.FoldedAreas.{Given}
use Rattle.linear_arithmetic.proofs.PartialEnd.{Ended, Judged, partial_of, ended-trace, unread, part-unread}
use Rattle.linear_arithmetic.proofs.PartialFold.{PartSoFar, Rested, part-begin, refused_end, part-refused, done_end}
use Rattle.linear_arithmetic.proofs.PartialFold.{part-done, part-again}
use Rattle.steps.specs.CheckStep.{accepted, traced}
use Rattle.out_areas.specs.Farkas.{Written, add_real, add_reals, fits}
use Rattle.out_areas.specs.Memory.OutAreas.{Holds, Backs, Writing, more_real, more_reals, Lies, Writes}
use Rattle.farkas.specs.Memory.FarkasSteps.{Counts, over, Leaves, SteppedLeft}
use Rattle.out_areas.specs.declared.out_areas.Out.{Out}
use Rattle.out_areas.proofs.RealRecord.{tail_bytes-length}
use Rattle.farkas.proofs.InferredUntil.{numbers-unread, numbers_of, numbers-ended}
use Rattle.out_areas.proofs.Pieces.{writes_as}
use Rattle.out_areas.proofs.OutAreas.{fronts-same, grows_same, backs-same, writes_then}
use Rattle.steps.proofs.StepVerdicts.{refused_as, accepted-as}

-- ---- what is written

pub add-reals-then :
    (b : Bytes) (w : Written) (qs : List Rational) (q : Rational) →
    add_reals b w (qs ++ q ∷ []) ≡ add_real b (add_reals b w qs) q
unfolding add_reals
add-reals-then b w [] q = refl
add-reals-then b w (x ∷ qs) q = add-reals-then b (add_real b w x) qs q

-- ---- every byte that is left

-- what lies in the areas with the counts r, and behind them what was there
areas-left : (a r : Bytes) {n : ℕ} {x : Bytes} → take n r ≡ x → n ≡ length x → drop n r ≡ drop n a → r ≡ over x a
unfolding over
areas-left a r {n} {x} front size back =
    sym (take-append-drop n r) ∙ ap₂ (λ (y z : Bytes). y ++ z) front (back ∙ ap (λ k. drop k a) size)

module _ {b o t o' t' : Bytes} {out : Out} {s : Writing} (h : Lies b o' t' out s) (backs : Backs out o o' t t') where
  pub counts_leave : (r : Result (ℕ × Out)) → Counts r s → Leaves o t o' t' r s
  counts_leave r counts =
      let tail = h.stored.tail_size ∙ sym (tail_bytes-length s.done.tail) in
      record {
        run = areas-left o o' h.stored.run h.stored.run_size backs.run;
        tail = areas-left t t' h.stored.tail tail backs.tail;
        counts = counts;
      }

  pub refused-leaves : (r : Refusal) → Leaves o t o' t' (Err r) s
  refused-leaves r = counts_leave (Err r) tt

  pub accepted-leaves : (n : ℕ) → Leaves o t o' t' (Ok (n, out)) s
  accepted-leaves n = counts_leave (Ok (n, out)) (rw (← h.stored.run_size, ← h.stored.tail_size, ← h.full))

pub more-reals-then :
    (f : Written → Bool) (b : Bytes) (qs : List Rational) (q : Rational) (s : Writing) →
    more_reals f b (qs ++ q ∷ []) s ≡ more_real f b q (more_reals f b qs s)
unfolding more_reals
more-reals-then f b [] q s = refl
more-reals-then f b (x ∷ qs) q s = more-reals-then f b qs q (more_real f b x s)

-- ---- the loop

-- from the out areas o and t with the counts out; now they are o' and t' with the counts r
pub record TracedSoFar
    (g : Given) (v : ℕ) (o t : Bytes) (out : Out) (w : Bytes) (p : by_value.Progress) (done : ℕ) (o' t' : Bytes)
    (r : Out) : Type 0 where
  pub trace : List Rational
  pub far : PartSoFar g v trace w p done
  pub writes :
      Writes g.book o t out o' t' r (λ x. add_reals g.book x trace)
      (more_reals (fits g.book (length o) (length t)) g.book trace)

-- what is promised of the answer r, with the work area w and the out areas o' and t'
abbrev Promised : Given → ℕ → Bytes → Bytes → Out → Bytes → Bytes → Bytes → Result (ℕ × Out) → Type 0
Promised g v o t out w o' t' r =
    SteppedLeft g.book o t out o' t' r (λ x. x)
    (more_reals (fits g.book (length o) (length t)) g.book (numbers_of g v)) (traced (partial_of g v))
    × (w ≡ g.work)

refused-traced : (r : Refusal) (d : Result Progress) → Err r ≡ visits_of d → traced d ≡ Err r
refused-traced r d e = ends _ (refused_as (λ p. p.visits) d e)

pub traced-unread :
    (g : Given) (v : ℕ) {r : Refusal} → ((n : ℕ) → Err r ≡ are_numbers n g.book g.args) → (o t : Bytes) (out : Out) →
    Promised g v o t out g.work o t (Err r)
unfolding more_reals
traced-unread g v {r} r-is o t out =
    let none : numbers_of g v ≡ [] = numbers-unread _ _ _ v r (unread _ (r-is g.limit)) in (
      record {
        fronts = fronts-same;
        is = λ x h. refused-traced r (partial_of g v) (part-unread g v r-is).0;
        left = λ s h.
            subst
            (λ qs. Leaves o t o t (Err r) (more_reals (fits g.book (length o) (length t)) g.book qs s))
            (sym none) (refused-leaves h backs-same r);
      },
      refl,
    )

pub traced-begin :
    (g : Given) (v : ℕ) → AllNumbers g.limit g.book g.args → Ready g.book g.work → Inside g.book g.literals →
    length g.literals ≤ max_run_bytes → {s : Sum} → s ≡ nothing → (o t : Bytes) (out : Out) →
    TracedSoFar g v o t out g.work (record { operator = Equals; acc = s; visits = v }) 0 o t out
unfolding add_reals more_reals
traced-begin g v numbers ready named small none o t out =
    record {
      trace = [];
      far = part-begin g v numbers ready named small none;
      writes =
          record {
            fronts = fronts-same;
            grows = grows_same;
            backs = backs-same;
            run_length = refl;
            tail_length = refl;
            holds = λ x h. h;
            lies = λ s h. h;
          };
    }

module _
    {g : Given} {v : ℕ} {o t : Bytes} {out : Out} {w : Bytes} {p : by_value.Progress} {done : ℕ} {o' t' : Bytes}
    {written : Out} (so : TracedSoFar g v o t out w p done o' t' written) where
  -- the numbers of the loop are those up to its end or its refusal
  lies-numbers :
      Ended g v so.trace → (s : Writing) → Lies g.book o t out s →
      Lies g.book o' t' written (more_reals (fits g.book (length o) (length t)) g.book (numbers_of g v) s)
  lies-numbers ended s h =
      subst (λ qs. Lies g.book o' t' written (more_reals (fits g.book (length o) (length t)) g.book qs s))
      (sym (numbers-ended ended)) (so.writes.lies s h)

  -- it ends with a refusal, of a literal or in the last line
  ends-refused :
      Ended g v so.trace → {w' : Bytes} {r : Refusal} → Judged g v w' (Err r) →
      Promised g v o t out w' o' t' (Err r)
  ends-refused ended {r = r} judged = (
    record {
      fronts = so.writes.fronts;
      is = λ x h. refused-traced r (partial_of g v) judged.0;
      left = λ s h. refused-leaves (lies-numbers ended s h) so.writes.backs r;
    },
    judged.1,
  )

  module _ {w' : Bytes} where
    pub traced-refused : {r : Refusal} → Rested g w p done w' (Err r) → Promised g v o t out w' o' t' (Err r)
    traced-refused rested = ends-refused (refused_end so.far rested) (part-refused so.far rested)

    -- the area was cleared, and the last line answered
    module _
        {q : by_value.Progress} (rested : Rested g w p done w' (Ok (folded.Done q))) {w'' : Bytes}
        (clear : w'' ≡ with_area 0 (blanked q.acc.len (area_of 0 w')) w') where
      pub traced-wrong : {r : Refusal} → Err r ≡ contradicts q → Promised g v o t out w'' o' t' (Err r)
      traced-wrong e = ends-refused (done_end so.far rested) (part-done so.far rested e clear)

      pub traced-done : {n : ℕ} → Ok n ≡ contradicts q → Promised g v o t out w'' o' t' (Ok (n, written))
      traced-done {n} e =
          let ended = done_end so.far rested in
          let judged = part-done so.far rested e clear in
          let a = accepted-as (λ d. d.visits) (partial_of g v) judged.0 in
          let same : a.0.trace ≡ so.trace = at_ok (ended-trace ended) a.1.0 in (
            record {
              fronts = so.writes.fronts;
              is = λ x h. (
                accepted a.0.visits a.0.trace,
                (
                  next _ a.1.0,
                  (
                    a.1.1,
                    subst (λ qs. Holds g.book o' t' written (add_reals g.book x qs)) (sym same) (so.writes.holds x h),
                  ),
                ),
              );
              left = λ s h. accepted-leaves (lies-numbers ended s h) so.writes.backs n;
            },
            judged.1,
          )

    -- a number was inferred, and was written
    pub traced-again :
        {q : by_value.Progress} {n : Rational} {k : ℕ} → Rested g w p done w' (Ok (folded.Inferred q n k)) →
        {o'' t'' : Bytes} {grown : Out} →
        Writes g.book o' t' written o'' t'' grown (λ x. add_real g.book x n)
        (more_real (fits g.book (length o') (length t')) g.book n) →
        TracedSoFar g v o t out w' q (done + k) o'' t'' grown
    traced-again {n = n} rested added =
        record {
          trace = so.trace ++ n ∷ [];
          far = part-again so.far rested;
          writes =
              writes_as (writes_then so.writes added)
              (λ x h. sym (add-reals-then g.book x so.trace n))
              (λ s h.
              let all = more_reals (fits g.book (length o) (length t)) g.book so.trace s in
              ap₂ (λ i j. more_real (fits g.book i j) g.book n all) so.writes.run_length so.writes.tail_length
              ∙ sym (more-reals-then _ g.book so.trace n s));
        }
