-- `process_disequality`: the literal's disequality is made in area 1, and `accumulate` takes it over from there.
use Rattle.numbers.specs.Rational.{Rational}
use Rattle.std.specs.Prelude.{Option}
use Rattle.std.specs.Prelude.{Err}
use mathlib.Core.Path.{◌≡◌, refl, sym, subst, ap₂, ◌∙◌}
use mathlib.Core.List.{[]}
use Prim.Native.Nat.{ℕ}
use native.Mathlib.Omega.{arith}
use Rattle.numbers.specs.Bytes.{Bytes}
use Rattle.terms.specs.Term.{Term}
use Rattle.terms.specs.Book.{count, SortsBelow}
use Rattle.index_map.proofs.StoredEntries.{held-length}
use Rattle.rules.specs.Refusal.{Result}
use Rattle.std.specs.Prelude.{Ok}
use Rattle.rules.specs.declared.refusal.Refusal.{Refusal}
use Rattle.rules.specs.Limits.{limited}
use Rattle.index_map.specs.Memory.Entries.{blanked, Held}
use Rattle.disequality.specs.Disequality.{disequality, disequality_of}
use Rattle.process_disequality.specs.ProcessDisequality.{Progress, progress, process_disequality}
use Rattle.linear_comb.specs.Memory.WorkArea.{Sum, comb_of, area_of, with_area, Apart, KeptSum}
use Rattle.process_disequality.specs.Memory.ProcessSteps.{progress_of, accumulated_of, AccumulatedLeft}
use Rattle.process_disequality.specs.Memory.ProcessSteps.{Processed, ProcessedIs, ProcessedLeft, Folding}
use Rattle.disequality.specs.Memory.DisequalitySteps.{Between, LiteralLeft}
use Rattle.disequality.specs.declared.disequality.Disequality as literal-value
use Rattle.process_disequality.specs.declared.process_disequality.Progress as by_value
use Rattle.linear_comb.proofs.Areas.{empty-length, empty-held, within-sorts}
use Rattle.rules.proofs.Results.{next, ends}
use Rattle.linear_comb.proofs.AreaSteps.{kept-sum, sum_comb, two-areas, Both, both-then, both-apart, in_second}
use Rattle.linear_comb.proofs.AreaSteps.{both_read, both_first}
use Rattle.process_disequality.proofs.LiteralAreas.{emptied-after}
use Rattle.process_disequality.proofs.LiteralSums.{processed_in_two}

pub both-areas : {b w : Bytes} → Between b w → Apart 0 1 w
both-areas f = two-areas f.size (omega arith) (omega arith) (λ z. omega arith)

-- what `accumulate` takes over: the sum so far and the literal, kept in areas 0 and 1
pub record Handed (b w : Bytes) (acc s : Sum) : Type 0 where
  pub apart : Apart 0 1 w
  pub sorts : SortsBelow (count b) b w
  pub sum : KeptSum b (area_of 0 w) acc
  pub literal : KeptSum b (area_of 1 w) s

module _
    (b w : Bytes) (l : ℕ) (p : by_value.Progress) (phi : Term) (arg : Option Rational) (folding : Folding b w p)
  where
    abbrev Next : Result Progress
    Next = process_disequality (limited l) (progress_of b w p) phi arg

    apart : Apart 0 1 w
    apart = both-areas folding.between

    pub literal-refused :
        {w₁ w' : Bytes} {r : Refusal} → LiteralLeft b w w₁ (Err r) (disequality_of (limited l) phi p.visits) →
        w' ≡ with_area 1 (blanked 0 (area_of 1 w₁)) (with_area 0 (blanked p.acc.len (area_of 0 w₁)) w₁) →
        ProcessedLeft b w w' (Err r) Next
    literal-refused {w₁} left f =
        let empty = subst (Held b (area_of 1 w₁)) left.is.1 left.held in
        let there = emptied-after apart left.only empty folding.acc.kept f in
        record {
          map = [];
          held = empty-held there.first;
          only = both_first apart there (sym folding.between.left);
          is = (processed_in_two (limited l) (progress_of b w p) phi arg ∙ ends _ left.is.0, refl);
        }

    module _
        {w₁ : Bytes} {q : literal-value.Disequality}
        (left : LiteralLeft b w w₁ (Ok q) (disequality_of (limited l) phi p.visits)) where
      literal_now : Both 0 1 w (area_of 0 w) (area_of 1 w₁) w₁
      literal_now = in_second apart left.only

      pub handed : Handed b w₁ p.acc q.sum
      handed =
          record {
            apart = both-apart apart literal_now;
            sorts = within-sorts literal_now.within folding.between.sorts;
            sum = subst (λ x. KeptSum b x p.acc) (sym literal_now.first) folding.acc;
            literal = kept-sum left.held left.is.1;
          }

      abbrev Rest : Result Progress
      Rest =
          accumulated_of (limited l) (progress_of b w₁ p)
          (disequality q.operator (comb_of b (area_of 1 w₁) q.sum) q.visits) arg

      next_is : Next ≡ Rest
      next_is =
          processed_in_two (limited l) (progress_of b w p) phi arg
          ∙ next _ left.is.0
          ∙ ap₂
          (λ x s. accumulated_of (limited l) (progress p.operator (comb_of b x p.acc) [] p.visits)
          (disequality q.operator s q.visits) arg)
          (sym literal_now.first) (sym (sum_comb left.held left.is.1))

      pub literal-accumulated :
          {w' : Bytes} {r : Processed} → AccumulatedLeft b w₁ w' r Rest → ProcessedLeft b w w' r Next
      literal-accumulated {w'} {r} h =
          record {
            map = h.map;
            held = h.held;
            only =
                both_first apart
                (both-then literal_now
                (both_read (both-apart apart literal_now) (held-length h.held) empty-length h.only))
                (sym folding.between.left);
            is = subst (ProcessedIs r h.map) (sym next_is) h.is;
          }
