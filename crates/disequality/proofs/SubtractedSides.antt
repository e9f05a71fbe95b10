-- The difference of a literal's two sides: what `turned` and `subtracted` leave in the area of the left side, and that
-- the other is emptied. Each way of returning has its lemma, from what the calls before it have promised.
use Rattle.std.specs.Prelude.{Err}
use Rattle.index_map.specs.Memory.Answers.{Has}
use mathlib.Core.Path.{◌≡◌, refl, sym, ap, ◌∙◌}
use mathlib.Core.Logic.{◌≢◌}
use mathlib.Core.List.{[], ◌∷◌}
use Prim.Native.Nat.{ℕ, suc}
use borrow.Author.Tests.{ne_eqb}
use lib.ListN.{length}
use Rattle.numbers.specs.Rational.{Rational, Makes, neg_q}
use Rattle.numbers.specs.Bytes.{Bytes}
use Rattle.terms.specs.Operator.{LessThan, LessEq, GreaterThan, GreaterEq}
use Rattle.terms.specs.Term.{Term}
use Rattle.numbers.specs.Choice.{when◌then◌else◌}
use Rattle.numbers.proofs.Ranges.{proper-neg}
use Rattle.rules.specs.Refusal.{Result, ◌>>=◌}
use Rattle.std.specs.Prelude.{Ok}
use Rattle.rules.specs.declared.refusal.Refusal.{Refusal}
use Rattle.rules.specs.Limits.{Limits}
use Rattle.index_map.specs.IndexMap.{Map, combination, neg_all, neg, sub}
use Rattle.linear_comb.specs.LinearComb.{LinearComb}
use Rattle.index_map.specs.Memory.Entries.{terms, slots, stored, entries_of, blanked, Held}
use Rattle.disequality.specs.Disequality.{turned, Disequality}
use Rattle.linear_comb.specs.Memory.WorkArea.{Sum, comb_of, KeptSum, negated, Combines, Area, Apart, area_of, with_area}
use Rattle.linear_comb.specs.Memory.WorkArea.{OnlyArea}
use Rattle.disequality.specs.Memory.DisequalitySteps.{LiteralLeft, subtracted, SubtractedLeft}
use Rattle.disequality.specs.declared.disequality.Disequality as by_value
use Rattle.index_map.proofs.StoredEntries.{kept-entries}
use Rattle.linear_comb.proofs.Areas.{only_none}
use Rattle.linear_comb.proofs.AreaSteps.{kept-sum, sum_comb, Both, then_first, second_emptied, in_first, both-written}

-- ---- turned

neg-length : (m : Map Term) → length (neg_all m) ≡ length m
unfolding neg_all
neg-length [] = refl
neg-length (e ∷ m) = ap suc (neg-length m)

-- an operator and a combination by value, and the visits
abbrev is_now : ℕ → Sum → ℕ → Result by_value.Disequality
is_now o s n = Ok (record { operator = o; sum = s; visits = n })

module _ {b w : Bytes} {s : Sum} (a : Area 1 w) (kept : KeptSum b (area_of 1 w) s) (o n : ℕ) where
  pub as_it_is :
      o ≢ LessThan → o ≢ LessEq →
      LiteralLeft b w w (is_now o s n) (Ok (turned o (comb_of b (area_of 1 w) s) n))
  unfolding turned when◌then◌else◌
  as_it_is not-less not-less-eq =
      record {
        map = kept.kept.map;
        held = kept.kept.held;
        only = only_none a;
        is = (
          rw (turned, ne_eqb o LessThan not-less, ne_eqb o LessEq not-less-eq, kept-entries kept.kept),
          record { size = kept.kept.size; proper = kept.proper },
        );
      }

  module _
      {w' : Bytes} {r : Sum} (is : r ≡ negated s) (only : OnlyArea 1 w w')
      (held : Held b (area_of 1 w') (neg_all (entries_of b (area_of 1 w) s.len))) where
    has : Has r (neg_all (entries_of b (area_of 1 w) s.len))
    has =
        rw is
        record {
          size = kept.kept.size ∙ ap length (sym (kept-entries kept.kept)) ∙ sym (neg-length _);
          proper = proper-neg kept.proper;
        }

    pub from_less :
        o ≡ LessThan → LiteralLeft b w w' (is_now GreaterThan r n) (Ok (turned o (comb_of b (area_of 1 w) s) n))
    unfolding turned when◌then◌else◌ neg
    from_less less = record { map = _; held = held; only = only; is = (rw (turned, less, is), has) }

    pub from_less-eq :
        o ≡ LessEq → LiteralLeft b w w' (is_now GreaterEq r n) (Ok (turned o (comb_of b (area_of 1 w) s) n))
    unfolding turned when◌then◌else◌ neg
    from_less-eq less = record { map = _; held = held; only = only; is = (rw (turned, less, is), has) }

-- ---- subtracted

module _
    {b w w₁ w₂ : Bytes} {s t : Sum} (a : Apart 1 2 w) (left : KeptSum b (area_of 1 w) s)
    (right : KeptSum b (area_of 2 w) t) (only₁ : OnlyArea 1 w w₁)
    (clear : w₂ ≡ with_area 2 (blanked t.len (area_of 2 w₁)) w₁) where
  so_far : Both 1 2 w (area_of 1 w₁) (stored slots []) w₂
  so_far = second_emptied a (in_first a only₁) right.kept clear

  module _ (o n : ℕ) (l : Limits) where
    abbrev difference : Result LinearComb
    difference = sub terms l (comb_of b (area_of 1 w) s) (comb_of b (area_of 2 w) t)

    abbrev result : Result Disequality
    result = subtracted l o (comb_of b (area_of 1 w) s) (comb_of b (area_of 2 w) t) n

    pub out_of_range :
        {r : Refusal} → Combines b (area_of 1 w₁) (Err r) difference → SubtractedLeft b w w₂ (Err r) result
    unfolding subtracted ◌>>=◌
    out_of_range out =
        record {
          map = out.map;
          held = rw so_far.first out.held;
          only = both-written a so_far;
          is = (rw (subtracted, out.is.0), out.is.1);
        }

    -- the constant on the right
    module _
        {d : Sum} (sum : Combines b (area_of 1 w₁) (Ok d) difference) {q : Rational}
        (turn : Makes q (neg_q d.constant)) where
      abbrev over : Sum
      over = record { len = d.len; constant = q }

      over-held : Held b (area_of 1 w₂) sum.map
      over-held = rw so_far.first sum.held

      over-has : Has over sum.map
      over-has = record { size = sum.is.1.size; proper = turn.proper }

      over_is : combination sum.map (neg_q d.constant) ≡ comb_of b (area_of 1 w₂) over
      over_is = ap (combination sum.map) (sym turn.is) ∙ sym (sum_comb over-held over-has)

      pub subtracted-left :
          {w₃ : Bytes} {e : by_value.Disequality} →
          (KeptSum b (area_of 1 w₂) over →
          LiteralLeft b w₂ w₃ (Ok e) (Ok (turned o (comb_of b (area_of 1 w₂) over) n))) →
          SubtractedLeft b w w₃ (Ok e) result
      unfolding subtracted ◌>>=◌
      subtracted-left turning =
          let last = turning (kept-sum over-held over-has) in
          record {
            map = last.map;
            held = last.held;
            only = both-written a (then_first a so_far last.only);
            is = (rw (subtracted, sum.is.0) (ap (λ x. Ok (turned o x n)) over_is ∙ last.is.0), last.is.1);
          }
