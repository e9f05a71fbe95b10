-- A literal's two sides in their areas: what `negate_disequality` and `disequality_of` leave there. Each call changes
-- one of the two areas, so both are followed together. Each way of returning has its lemma, from what the calls before
-- it have promised.
use Rattle.std.specs.Prelude.{Err}
use mathlib.Core.Path.{◌≡◌, refl, sym, subst, ◌∙◌}
use mathlib.Core.List.{[]}
use Prim.Native.Nat.{ℕ}
use native.Mathlib.Omega.{arith}
use lib.ListN.{length}
use Rattle.numbers.specs.Bytes.{Bytes}
use Rattle.terms.specs.Term.{Term, Terms}
use Rattle.terms.specs.Book.{tree}
use Rattle.terms.specs.Format.{work_bytes}
use Rattle.rules.specs.Refusal.{Result, ◌>>=◌, or_else}
use Rattle.std.specs.Prelude.{Ok}
use Rattle.rules.specs.declared.refusal.Refusal.{Refusal}
use Rattle.rules.specs.declared.refusal.Refusal.TheVariants.{InvalidDisequalityOp}
use Rattle.rules.specs.Limits.{Limits}
use Rattle.linear_walk.specs.LinearTerms.{from_term}
use Rattle.index_map.specs.Memory.Entries.{slots, stored, blanked, Held, Kept}
use Rattle.disequality.specs.Disequality.{inner, two_sides, Disequality, negate_disequality, disequality_of}
use Rattle.linear_walk.specs.Memory.Walks.{Walks}
use Rattle.linear_comb.specs.Memory.WorkArea.{comb_of, KeptSum, Apart, area_of, with_area, OnlyArea}
use Rattle.disequality.specs.Memory.DisequalitySteps.{Between, relation_of, RelationIs, SidesLeft}
use Rattle.disequality.specs.Memory.DisequalitySteps.{LiteralIs, LiteralLeft, subtracted, SubtractedLeft}
use Rattle.index_map.specs.declared.combination.Walked.{Walked}
use Rattle.disequality.specs.declared.disequality.Sides.{Sides}
use Rattle.disequality.specs.declared.disequality.Disequality as by_value
use Rattle.rules.proofs.Results.{bind-same, bind_assoc}
use Rattle.index_map.proofs.StoredEntries.{held-length}
use Rattle.linear_comb.proofs.Areas.{empty-length, empty-held}
use Rattle.linear_comb.proofs.AreaSteps.{kept-sum, sum_comb, emptied-held, emptied-only, two-areas, Both}
use Rattle.linear_comb.proofs.AreaSteps.{both-then, both_none, both-apart, then_first, then_second}
use Rattle.linear_comb.proofs.AreaSteps.{in_first, both_read, both_first, both-only}

-- ---- both areas

pub in_both : {w : Bytes} → length w ≡ work_bytes → Apart 1 2 w
in_both size = two-areas size (omega arith) (omega arith) (λ e. omega arith)

-- ---- negate_disequality

-- along the relation and the two walks
sides_of : (l : Limits) (phi : Term) (n : ℕ) →
    negate_disequality l phi n ≡ (do
      (o, a, b) ← relation_of phi
      s1 ← from_term l a n
      s2 ← from_term l b s1.visits
      Ok (o, s1.sum, s2.sum, s2.visits))
unfolding negate_disequality relation_of ◌>>=◌
sides_of l phi n =
    let args : Result (ℕ × Terms) = or_else (inner phi) InvalidDisequalityOp in
    bind-same args (λ x. sym (bind_assoc (two_sides x.1) _ _)) ∙ sym (bind_assoc args _ _)

-- the areas are empty before
module _ {b w : Bytes} (between : Between b w) where
  pub between-both : Apart 1 2 w
  between-both = in_both between.size

  pub right-empty : {w₁ : Bytes} → OnlyArea 1 w w₁ → Held b (area_of 2 w₁) []
  right-empty only₁ = empty-held ((in_first between-both only₁).second ∙ between.right)

  module _ (l : Limits) (phi : Term) (n : ℕ) where
    pub no_relation : {r : Refusal} → relation_of phi ≡ Err r → SidesLeft b w w (Err r) (negate_disequality l phi n)
    unfolding ◌>>=◌
    no_relation why =
        record {
          left = [];
          right = [];
          held-left = empty-held between.left;
          held-right = empty-held between.right;
          only = both-only between-both (both_none between-both);
          is = (rw (sides_of, why), (refl, refl));
        }

    module _
        {o x y : ℕ} {w₁ : Bytes} (found : RelationIs b (Ok (o, x, y)) (relation_of phi)) (only₁ : OnlyArea 1 w w₁) where
      one : Both 1 2 w (area_of 1 w₁) (area_of 2 w) w₁
      one = in_first between-both only₁

      pub left-refused :
          {r : Refusal} → Walks b (area_of 1 w₁) (Err r) (from_term l (tree b x) n) →
          SidesLeft b w w₁ (Err r) (negate_disequality l phi n)
      unfolding ◌>>=◌
      left-refused why =
          record {
            left = why.map;
            right = [];
            held-left = why.held;
            held-right = right-empty only₁;
            only = both-only between-both one;
            is = (rw (sides_of, found.0, why.is.0), (why.is.1, refl));
          }

      module _
          {u : Walked} {w₂ : Bytes} (left : Walks b (area_of 1 w₁) (Ok u) (from_term l (tree b x) n))
          (only₂ : OnlyArea 2 w₁ w₂) where
        two : Both 1 2 w (area_of 1 w₁) (area_of 2 w₂) w₂
        two = then_second between-both one only₂

        left-still : Held b (area_of 1 w₂) left.map
        left-still = rw two.first left.held

        left-kept : Kept b (area_of 1 w₂) u.sum.len
        left-kept = (kept-sum left-still left.is.1).kept

        pub right-refused :
            {r : Refusal} {w₃ : Bytes} → Walks b (area_of 2 w₂) (Err r) (from_term l (tree b y) u.visits) →
            w₃ ≡ with_area 1 (blanked u.sum.len (area_of 1 w₂)) w₂ →
            SidesLeft b w w₃ (Err r) (negate_disequality l phi n)
        unfolding ◌>>=◌
        right-refused why clear =
            let now = (both-apart between-both two).first in
            let last = then_first between-both two (emptied-only now left-kept clear) in
            record {
              left = [];
              right = why.map;
              held-left = emptied-held now left-kept clear;
              held-right = rw last.second why.held;
              only = both-only between-both last;
              is = (rw (sides_of, found.0, left.is.0, why.is.0), (refl, why.is.1));
            }

        pub both-sides :
            {v : Walked} → Walks b (area_of 2 w₂) (Ok v) (from_term l (tree b y) u.visits) →
            SidesLeft b w w₂ (Ok (record { operator = o; left = u.sum; right = v.sum; visits = v.visits }))
            (negate_disequality l phi n)
        unfolding ◌>>=◌
        both-sides right =
            record {
              left = left.map;
              right = right.map;
              held-left = left-still;
              held-right = right.held;
              only = both-only between-both two;
              is = (rw (sides_of, found.0, left.is.0, right.is.0), (left.is.1, right.is.1));
            }

-- ---- disequality_of

difference_of_lem : (l : Limits) (phi : Term) (n : ℕ) →
    disequality_of l phi n ≡ (do
      (o, s, t, v) ← negate_disequality l phi n
      subtracted l o s t v)
unfolding disequality_of subtracted ◌>>=◌
difference_of_lem l phi n = refl

module _ {b w w₁ : Bytes} (between : Between b w) (l : Limits) (phi : Term) (n : ℕ) where
  filled :
      {r : Result Sides} → SidesLeft b w w₁ r (negate_disequality l phi n) →
      Both 1 2 w (area_of 1 w₁) (area_of 2 w₁) w₁
  filled found =
      both_read (between-both between) (held-length found.held-left) (held-length found.held-right) found.only

  pub sides-refused :
      {r : Refusal} → SidesLeft b w w₁ (Err r) (negate_disequality l phi n) →
      LiteralLeft b w w₁ (Err r) (disequality_of l phi n)
  unfolding ◌>>=◌
  sides-refused why =
      let gone : area_of 2 w₁ ≡ stored slots [] = rw (← why.is.1.1) why.held-right.bytes in
      record {
        map = why.left;
        held = why.held-left;
        only = both_first (between-both between) (filled why) (gone ∙ sym between.right);
        is = (rw (difference_of_lem, why.is.0), why.is.1.0);
      }

  module _ {s : Sides} (found : SidesLeft b w w₁ (Ok s) (negate_disequality l phi n)) where
    pub sides_apart : Apart 1 2 w₁
    sides_apart = both-apart (between-both between) (filled found)

    pub left-side : KeptSum b (area_of 1 w₁) s.left
    left-side = kept-sum found.held-left found.is.1.0

    pub right_side : KeptSum b (area_of 2 w₁) s.right
    right_side = kept-sum found.held-right found.is.1.1

    abbrev difference : Result Disequality
    difference =
        subtracted l s.operator (comb_of b (area_of 1 w₁) s.left) (comb_of b (area_of 2 w₁) s.right) s.visits

    difference_is : disequality_of l phi n ≡ difference
    unfolding ◌>>=◌
    difference_is =
        rw (
          difference_of_lem,
          found.is.0,
          sum_comb found.held-left found.is.1.0,
          sum_comb found.held-right found.is.1.1,
        )

    pub literal-left :
        {w₂ : Bytes} {e : Result by_value.Disequality} → SubtractedLeft b w₁ w₂ e difference →
        LiteralLeft b w w₂ e (disequality_of l phi n)
    literal-left {e = e} last =
        let emptied = both_read sides_apart (held-length last.held) empty-length last.only in
        record {
          map = last.map;
          held = last.held;
          only = both_first (between-both between) (both-then (filled found) emptied) (sym between.right);
          is = subst (LiteralIs e last.map) (sym difference_is) last.is;
        }
