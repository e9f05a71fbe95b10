-- The loop of `la_generic_partial`: the fold goes on from each number that is inferred, until all literals are done.
--     PartSoFar, part-begin, part_length, part-few, rest_folds, part-less, part-fits       the loop
--     Rested, folded_rest, part_clear, part-refused, part-done, inferred-proper, part-more,
--     part-again       one turn of it
--     refused_end, done_end       where it ends
use mathlib.Core.Path.{◌≡◌, refl, sym, ap, subst, ◌∙◌}
use mathlib.Core.List.{List, [], ◌∷◌, ◌++◌, append-nil}
use Rattle.std.specs.Prelude.{Option, Some, None}
use Prim.Native.Nat.{ℕ, ◌+◌, ◌*◌, ◌-◌, ◌/◌, ◌≤◌, ◌<◌}
use native.Mathlib.Omega.{arith}
use borrow.Author.Rules.{Fits-under}
use mir.Syntax.{w64}
use mir.Val.{Fits}
use lib.IntN.{pos}
use lib.ListN.{length, drop, length-drop, drop_of_length-le}
use lib.Seq.{drop-drop}
use Rattle.numbers.specs.Rational.{Rational, Proper}
use Rattle.numbers.specs.Bytes.{Bytes}
use Rattle.terms.specs.Operator.{Equals}
use Rattle.terms.specs.Format.{max_run_bytes}
use Rattle.rules.specs.Refusal.{Result}
use Rattle.rules.specs.declared.refusal.Refusal.{Refusal}
use Rattle.std.specs.Prelude.{Ok, Err}
use Rattle.process_disequality.specs.ProcessDisequality.{Progress}
use Rattle.linear_arithmetic.specs.LinearArithmetic.{read_args}
use Rattle.rules.specs.Shapes.{Clause}
use Rattle.index_map.specs.Memory.Answers.{nothing}
use Rattle.linear_comb.specs.Memory.WorkArea.{Sum, area_of, with_area, Area}
use Rattle.index_map.specs.Memory.Entries.{slots, stored, entries_of, blanked}
use Rattle.rules.specs.Memory.Parts.{Ready, numbers_in, terms_in, Inside}
use Rattle.process_disequality.specs.Memory.ProcessSteps.{progress_of, progress_with, Folding}
use Rattle.linear_arithmetic.specs.Memory.LinearSteps.{visits_of, fold_some, AllNumbers, fold_read, FoldedLeft}
use Rattle.linear_arithmetic.specs.Memory.LinearSteps.{contradicts}
use Rattle.linear_arithmetic.specs.declared.linear_arithmetic.Folded.{Folded}
use Rattle.linear_arithmetic.specs.declared.linear_arithmetic.Folded.TheVariants as folded
use Rattle.process_disequality.specs.declared.process_disequality.Progress as by_value
use Rattle.index_map.proofs.CheckedNumbers.{whole-proper}
use Rattle.index_map.proofs.StoredEntries.{kept_small}
use Rattle.rules.proofs.Results.{next, ends, stops}
use Rattle.linear_comb.proofs.AreaSteps.{kept-sum}
use Rattle.rules.proofs.RunParts.{length-numbers_in, length-terms_in, terms_in-drop, inside-drop}
use Rattle.linear_arithmetic.proofs.ReadParts.{read_args-drop}
use Rattle.linear_arithmetic.proofs.FoldedSteps.{later, fold_end, end_later, end_later_lem, GoesOn, Goes, some-goes}
use Rattle.linear_arithmetic.proofs.FoldedAreas.{Given, limits_of, clause_of, between-only, Reached, reached-begin}
use Rattle.linear_arithmetic.proofs.FoldedAreas.{reached-length, reached-only, reached-again}
use Rattle.linear_arithmetic.proofs.Emptied.{ready-folding, emptied, cleared}
use Rattle.linear_arithmetic.proofs.PartialEnd.{last_line, end_of, Judged, Ended, partial_by}

-- ---- the loop

-- where it ends from where it stands, with t inferred
abbrev onward_with : Given → List Rational → Clause → List Rational → Progress → ℕ → Result (Progress × Option Refusal)
onward_with g t clause qs p k = Ok (fold_end (limits_of g) clause qs (later t p))

-- so many literals are done, from the empty sum to p with the bytes w, and t was inferred
pub record PartSoFar
    (g : Given) (v : ℕ) (t : List Rational) (w : Bytes) (p : by_value.Progress) (done : ℕ) : Type 0 where
  pub small : length g.literals ≤ max_run_bytes
  pub ready : Ready g.book g.work
  pub reached : Reached g (end_of g v) (onward_with g t) w p done

-- the rest of the literals was folded: the answer is r, and w' is left
pub record Rested
    (g : Given) (w : Bytes) (p : by_value.Progress) (done : ℕ) (w' : Bytes) (r : Result Folded) : Type 0 where
  pub part : Bytes
  pub part_is : part ≡ drop (4 * done) g.literals
  pub given : Bytes
  pub given_is : given ≡ drop (4 * done) g.args
  pub fold :
      FoldedLeft g.book w w' (length (numbers_in part)) r
      (fold_read (limits_of g) (terms_in g.book part) (terms_in g.book given) (progress_of g.book w p))

-- k literals more
pub record More (g : Given) (done k : ℕ) : Type 0 where
  pub some : 0 < k
  pub within : done + k ≤ length g.literals / 4

pub folded_rest :
    {g : Given} {w w' part given : Bytes} {p : by_value.Progress} {done : ℕ} {r : Result Folded} →
    part ≡ drop (4 * done) g.literals → given ≡ drop (4 * done) g.args →
    FoldedLeft g.book w w' (length (numbers_in part)) r
    (fold_read (limits_of g) (terms_in g.book part) (terms_in g.book given) (progress_of g.book w p)) →
    Rested g w p done w' r
folded_rest {part = part} {given} part_is given_is fold =
    record { part = part; part_is = part_is; given = given; given_is = given_is; fold = fold }

pub part-begin :
    (g : Given) (v : ℕ) → AllNumbers g.limit g.book g.args → Ready g.book g.work →
    Inside g.book g.literals → length g.literals ≤ max_run_bytes → {s : Sum} → s ≡ nothing →
    PartSoFar g v [] g.work (record { operator = Equals; acc = s; visits = v }) 0
unfolding entries_of
part-begin g v numbers ready named small none =
    rw none
    record {
      small = small;
      ready = ready;
      reached =
          reached-begin (ready-folding ready _ refl (whole-proper (pos 0) (omega arith))) named numbers
          (λ qs all. next _ all);
    }

module _
    {g : Given} {v : ℕ} {t : List Rational} {w : Bytes} {p : by_value.Progress} {done : ℕ}
    (far : PartSoFar g v t w p done) where
  pub part_length : length w ≡ length g.work
  part_length = reached-length far.reached

  pub part-few : done ≤ 65536
  part-few = omega (arith, far.reached.inside, far.small)

  abbrev numbers : List Rational
  numbers = far.reached.numbers

  -- the arguments that are left
  read_on :
      {given : Bytes} → given ≡ drop (4 * done) g.args →
      read_args (limits_of g) (terms_in g.book given) ≡ Ok (drop done numbers)
  read_on e =
      ap (λ z. read_args (limits_of g) (terms_in g.book z)) e
      ∙ ap (read_args (limits_of g)) (terms_in-drop g.book g.args done)
      ∙ read_args-drop (limits_of g) (terms_in g.book g.args) done numbers far.reached.all

  -- the rest of the literals can be folded
  pub rest_folds :
      {part given : Bytes} → part ≡ drop (4 * done) g.literals → given ≡ drop (4 * done) g.args →
      (Folding g.book w p × Inside g.book part) × AllNumbers g.limit g.book given
  rest_folds part_is given_is = (
    (far.reached.folding, rw part_is (inside-drop g.book g.literals done far.reached.named)),
    next _ (read_on given_is),
  )

  pub part-less :
      (k : ℕ) → More g done k → length g.literals / 4 - (done + k) < length g.literals / 4 - done
  part-less k more = omega (arith, more.some, more.within)

  pub part-fits : (k : ℕ) → More g done k → Fits w64 (done + k)
  part-fits k more = Fits-under w64 (done + k) 65536 (omega (arith, more.within, far.small)) tt

  -- the literals that are left, and the fold of them
  abbrev clause : Clause
  clause = drop done (clause_of g)

  abbrev P : Progress
  P = progress_of g.book w p

  abbrev rest_fold : Result (Progress × ℕ)
  rest_fold = fold_some (limits_of g) clause (drop done numbers) P 0

  goes : {d : Result (Progress × ℕ)} → rest_fold ≡ d → Goes (limits_of g) clause (drop done numbers) P 0 d
  goes e = subst (Goes (limits_of g) clause (drop done numbers) P 0) e (some-goes (limits_of g) clause _ P 0)

  -- where the rest ends, the whole does
  whole-ends :
      {e : Progress × Option Refusal} → fold_end (limits_of g) clause (drop done numbers) P ≡ e →
      end_of g v ≡ Ok (end_later t e)
  whole-ends h = far.reached.left ∙ ap Ok (end_later_lem (limits_of g) t clause _ P ∙ ap (end_later t) h)

  module _ {w' : Bytes} {r : Result Folded} (rested : Rested g w p done w' r) where
    clause_is : terms_in g.book rested.part ≡ clause
    clause_is = ap (terms_in g.book) rested.part_is ∙ terms_in-drop g.book g.literals done

    rest-fold :
        fold_read (limits_of g) (terms_in g.book rested.part) (terms_in g.book rested.given) P ≡ rest_fold
    unfolding fold_read
    rest-fold =
        next _ (read_on rested.given_is) ∙ ap (λ z. fold_some (limits_of g) z (drop done numbers) P 0) clause_is

    rest-left : FoldedLeft g.book w w' (length (numbers_in rested.part)) r rest_fold
    rest-left = subst (FoldedLeft g.book w w' (length (numbers_in rested.part)) r) rest-fold rested.fold

  -- ---- it is refused

  module _ {w' : Bytes} {r : Refusal} (rested : Rested g w p done w' (Err r)) where
    pub refused_end : Ended g v t
    refused_end =
        let halt = goes (rest-left rested).is.0 in
        record {
          last = later t halt.last;
          stop = Some r;
          is = whole-ends halt.is;
          trace = ap (λ u. t ++ u) halt.same ∙ append-nil t;
        }

    pub part-refused : Judged g v w' (Err r)
    part-refused =
        let left = rest-left rested in (
          stops _ (sym (partial_by g v (whole-ends (goes left.is.0).is) ∙ ends _ refl)),
          emptied far.ready {j = 0} (omega arith) (reached-only far.reached left.only)
              (left.held.bytes ∙ ap (stored slots) left.is.1),
        )

  -- ---- all are done

  module _ {w' : Bytes} {q : by_value.Progress} (rested : Rested g w p done w' (Ok (folded.Done q))) where
    -- the area can be cleared
    pub part_clear : Area 0 w' × (q.acc.len ≤ 4096)
    part_clear =
        let left = rest-left rested in
        let sum = kept-sum left.held left.is.1 in
        let size = (between-only far.reached.folding.between left.only).size in
        (record { size = size; among = omega arith }, omega (arith, kept_small sum.kept))

    all_done : end_of g v ≡ Ok (later t (progress_with q (rest-left rested).map []), None)
    unfolding fold_end
    all_done =
        let on = goes (rest-left rested).is.0 in
        let nothing : drop on.steps clause ≡ [] =
        drop_of_length-le clause {i = on.steps}
        (omega (
          arith,
          on.counted,
          ap length (clause_is rested),
          length-terms_in g.book rested.part,
          length-numbers_in rested.part,
        ))
        in
        let last = progress_with q (rest-left rested).map [] in
        whole-ends (on.on ∙ ap (λ z. fold_end (limits_of g) z (drop on.steps (drop done numbers)) last) nothing)

    pub done_end : Ended g v t
    done_end =
        record {
          last = later t (progress_with q (rest-left rested).map []);
          stop = None;
          is = all_done;
          trace = append-nil t;
        }

    -- the area was cleared, and the answer is a
    pub part-done :
        {a : Result ℕ} → a ≡ contradicts q → {w'' : Bytes} → w'' ≡ with_area 0 (blanked q.acc.len (area_of 0 w')) w' →
        Judged g v w'' a
    part-done a-is clear =
        let left = rest-left rested in (
          a-is ∙ last_line q left.map t left.is.1 ∙ sym (ap visits_of (partial_by g v all_done ∙ next _ refl)),
          cleared far.ready {j = 0} (omega arith) (reached-only far.reached left.only) left.held q.acc.len
              left.is.1.size clear,
        )

  -- ---- a number was inferred

  module _
      {w' : Bytes} {q : by_value.Progress} {x : Rational} {k : ℕ}
      (rested : Rested g w p done w' (Ok (folded.Inferred q x k))) where
    on : GoesOn (limits_of g) clause (drop done numbers) P 0 (progress_with q (rest-left rested).map (x ∷ [])) k
    on = goes (rest-left rested).is.0

    pub inferred-proper : Proper x
    inferred-proper = (rest-left rested).is.1.1

    -- at least one literal was done
    pub part-more : More g done k
    part-more =
        let some = on.some (λ same. omega (arith, ap length same)) in
        record {
          some = omega (arith, on.counted);
          within =
              omega (
                arith,
                on.counted,
                on.inside,
                far.reached.inside,
                length-drop done (clause_of g),
                length-terms_in g.book g.literals,
              );
        }

    -- the fold goes on with x behind what was inferred before
    further :
        onward_with g t clause (drop done numbers) P done ≡
        onward_with g (t ++ x ∷ []) (drop (done + k) (clause_of g)) (drop (done + k) numbers)
        (progress_with q (rest-left rested).map []) (done + k)
    further =
        let steps : on.steps ≡ k = omega (arith, on.counted) in
        ap Ok
        (end_later_lem (limits_of g) t clause _ P ∙ ap (end_later t) on.on
        ∙ sym (end_later_lem (limits_of g) t _ _ (progress_with q (rest-left rested).map (x ∷ [])))
        ∙ rw (steps, drop-drop k done (clause_of g), drop-drop k done numbers, append-nil (t ++ x ∷ [])))

    pub part-again : PartSoFar g v (t ++ x ∷ []) w' q (done + k)
    part-again =
        let left = rest-left rested in
        record {
          small = far.small;
          ready = far.ready;
          reached = reached-again far.reached left.held left.only left.is.1.0 part-more.within further;
        }
