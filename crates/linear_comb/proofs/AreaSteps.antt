-- What the steps of a rule leave of the work area: bytes that hold a map are cleared, an area is given other bytes or
-- is emptied, and the other areas stay; and a sum by value is kept with the entries that an area holds.
--     held-length, kept-cleared, blanked-empty       the bytes of an area
--     kept-sum, sum-entries, sum_comb       a sum by value
--     only-area, given-area, given-only       an area is given bytes
--     emptied-held, emptied-only       an area is emptied of what it kept
--     two-areas, same-apart, Both, both_none, both-apart       two areas are given bytes
--     both-then, then_first, then_second, second_emptied, in_first, in_second, both_read       one after the other
--     both_first, both-written, both-only       what this says of all bytes
use Rattle.index_map.specs.Memory.Answers.{comb_with, Has}
use mathlib.Core.Path.{◌≡◌, refl, sym, ap, subst, ◌∙◌}
use mathlib.Core.List.{[]}
use mathlib.Core.Logic.{◌≢◌}
use Prim.Native.Nat.{ℕ, ◌<◌}
use lib.ListN.{length}
use Rattle.numbers.specs.Bytes.{Bytes}
use Rattle.terms.specs.Term.{Term}
use Rattle.terms.specs.Format.{work_bytes}
use Rattle.index_map.specs.IndexMap.{Map, combination}
use Rattle.linear_comb.specs.Memory.WorkArea.{sum_bytes, Sum, comb_of, KeptSum}
use Rattle.linear_comb.specs.Memory.WorkArea.{Area, Apart, area_of, with_area, OnlyArea}
use Rattle.index_map.specs.Memory.Entries.{slots, stored, entries_of, blanked, Held, Kept}
use Rattle.index_map.proofs.StoredEntries.{kept-entries, clear_all}
use Rattle.linear_comb.proofs.Areas.{empty-length, empty-held, area-length, with_length, area_with, Within}
use Rattle.linear_comb.proofs.Areas.{within_none, within-turned, within-then, within_first, same-within}
use Rattle.linear_comb.proofs.Areas.{within-only, only-other, only-within}

-- ---- the bytes of an area

module _ {b x : Bytes} {n : ℕ} (kept : Kept b x n) where
  pub kept-cleared : {y : Bytes} → y ≡ blanked n x → Held b y []
  kept-cleared e = rw (e, kept.size) (clear_all kept.map kept.held)

  pub blanked-empty : blanked n x ≡ stored slots []
  blanked-empty = (kept-cleared refl).bytes

-- ---- a sum by value, with the entries of its area

module _ {b w : Bytes} {m : Map Term} {s : Sum} (held : Held b w m) (has : Has s m) where
  abbrev pub kept-sum : KeptSum b w s
  kept-sum = record { kept = record { map = m; held = held; size = has.size }; proper = has.proper }

  pub sum-entries : entries_of b w s.len ≡ m
  sum-entries = kept-entries kept-sum.kept

  pub sum_comb : comb_of b w s ≡ comb_with s m
  sum_comb = ap (λ e. combination e s.constant) sum-entries

-- ---- area j alone has changed

pub only-area :
    {j : ℕ} {w w' : Bytes} → Area j w → length (area_of j w') ≡ sum_bytes → OnlyArea j w w' → Area j w'
only-area {j} {w} {w'} a long only =
    record { size = ap length only ∙ with_length a (area_of j w') long; among = a.among }

-- it is given bytes
module _
    {j : ℕ} {w w' : Bytes} (a : Area j w) (x : Bytes) (long : length x ≡ sum_bytes) (is : w' ≡ with_area j x w) where
  pub given-area : area_of j w' ≡ x
  given-area = ap (area_of j) is ∙ area_with a x long

  pub given-only : OnlyArea j w w'
  given-only = is ∙ ap (λ y. with_area j y w) (sym given-area)

-- it is emptied
module _
    {j : ℕ} {b w : Bytes} {n : ℕ} {w' : Bytes} (a : Area j w) (kept : Kept b (area_of j w) n)
    (is : w' ≡ with_area j (blanked n (area_of j w)) w) where
  emptied_is : w' ≡ with_area j (stored slots []) w
  emptied_is = is ∙ ap (λ y. with_area j y w) (blanked-empty kept)

  pub emptied-held : Held b (area_of j w') []
  emptied-held = empty-held (given-area a (stored slots []) empty-length emptied_is)

  pub emptied-only : OnlyArea j w w'
  emptied-only = given-only a (stored slots []) empty-length emptied_is

-- ---- areas i and j have changed

pub two-areas : {i j : ℕ} {w : Bytes} → length w ≡ work_bytes → i < 3 → j < 3 → i ≢ j → Apart i j w
two-areas size first second apart =
    record {
      first = record { size = size; among = first };
      second = record { size = size; among = second };
      apart = apart;
    }

pub same-apart : {i j : ℕ} {w w' : Bytes} → Apart i j w → length w' ≡ length w → Apart i j w'
same-apart a e = two-areas (e ∙ a.first.size) a.first.among a.second.among a.apart

-- w' is w with x in area i and y in area j
pub record Both (i j : ℕ) (w x y w' : Bytes) : Type 0 where
  pub within : Within i j w w'
  pub first : area_of i w' ≡ x
  pub second : area_of j w' ≡ y

pub both-then :
    {i j : ℕ} {w x y w' x' y' w'' : Bytes} → Both i j w x y w' → Both i j w' x' y' w'' → Both i j w x' y' w''
both-then p q = record { within = within-then p.within q.within; first = q.first; second = q.second }

module _ {i j : ℕ} {w : Bytes} (a : Apart i j w) where
  pub both_none : Both i j w (area_of i w) (area_of j w) w
  both_none = record { within = within_none a.first.size; first = refl; second = refl }

  module _ {x y w' : Bytes} (p : Both i j w x y w') where
    pub both-apart : Apart i j w'
    both-apart = same-apart a (p.within.size ∙ sym a.first.size)

    pub then_first : {w'' : Bytes} → OnlyArea i w' w'' → Both i j w (area_of i w'') y w''
    then_first only =
        record {
          within = within-then p.within (within-only both-apart.first only);
          first = refl;
          second = only-other both-apart.first only a.second.among (λ e. a.apart (sym e)) ∙ p.second;
        }

    pub then_second : {w'' : Bytes} → OnlyArea j w' w'' → Both i j w x (area_of j w'') w''
    then_second only =
        record {
          within = within-then p.within (within-turned (within-only both-apart.second only));
          first = only-other both-apart.second only a.first.among a.apart ∙ p.first;
          second = refl;
        }

    pub second_emptied :
        {b w'' : Bytes} {n : ℕ} → Kept b y n → w'' ≡ with_area j (blanked n (area_of j w')) w' →
        Both i j w x (stored slots []) w''
    second_emptied {b} {n = n} kept is =
        let still : Kept b (area_of j w') n = subst (λ z. Kept b z n) (sym p.second) kept in
        let last = then_second (emptied-only both-apart.second still is) in
        record {
          within = last.within;
          first = last.first;
          second = (emptied-held both-apart.second still is).bytes;
        }

    -- area j is as it was
    pub both_first : y ≡ area_of j w → OnlyArea i w w'
    both_first same = only-within a.first (within_first p.within (p.second ∙ same))

  pub in_first : {w' : Bytes} → OnlyArea i w w' → Both i j w (area_of i w') (area_of j w) w'
  in_first only = then_first both_none only

  pub in_second : {w' : Bytes} → OnlyArea j w w' → Both i j w (area_of i w) (area_of j w') w'
  in_second only = then_second both_none only

  pub both_read :
      {x y w' : Bytes} → length x ≡ sum_bytes → length y ≡ sum_bytes → w' ≡ with_area j y (with_area i x w) →
      Both i j w x y w'
  both_read {x} {y} long-x long-y is =
      let one = in_first (given-only a.first x long-x refl) in
      let u = (both-apart one).second in
      let two = then_second one (given-only u y long-y is) in
      record {
        within = two.within;
        first = two.first ∙ area_with a.first x long-x;
        second = given-area u y long-y is;
      }

  module _ {x y w' : Bytes} (p : Both i j w x y w') where
    pub both-written : w' ≡ with_area j y (with_area i (area_of i w') w)
    both-written =
        let now = both-apart p in
        let q = both_read (area-length now.first) (sym (ap length p.second) ∙ area-length now.second) refl in
        same-within p.within q.within (sym q.first) (p.second ∙ sym q.second)

    pub both-only : w' ≡ with_area j (area_of j w') (with_area i (area_of i w') w)
    both-only = both-written ∙ ap (λ z. with_area j z (with_area i (area_of i w') w)) (sym p.second)
