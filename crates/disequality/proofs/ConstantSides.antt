-- A relation whose right side is a number: the walk of that side makes one visit and no entry, and subtracting it
-- changes the constant alone.
--     constant-walk       the walk of a number
--     proper-step       the number that the code has for a step
--     no_walk, constant-walks       what `constant_side` answers
--     none_held, none_comb       a sum of no entries
--     bounded_out, bounded-left       what `bounded` leaves in areas 1 and 2
use Rattle.std.specs.Prelude.{Err}
use mathlib.Core.Path.{◌≡◌, refl, sym, ap, subst, ◌∙◌}
use mathlib.Core.Bool.{true}
use mathlib.Core.List.{[]}
use Prim.Native.Nat.{ℕ, suc, ◌+◌, ◌<◌}
use native.Mathlib.Numerals.{add-one}
use native.Mathlib.Omega.{arith}
use borrow.Author.Tests.{le-leb}
use lib.IntN.{pos}
use Rattle.numbers.specs.Rational.{Rational, Proper, Makes, Gives, whole, add_q, neg_q, checked}
use Rattle.numbers.specs.Bytes.{Bytes}
use Rattle.terms.specs.Term.{Term, unary, binary}
use Rattle.terms.specs.Term.Term.{integer, rational, bitvector, atom, op}
use Rattle.terms.specs.Readers.{as_number, quotient_of, as_unsigned_fraction, as_fraction}
use Rattle.index_map.specs.Memory.StoredMaps as maps
use Rattle.rules.specs.Refusal.{Result, ◌>>=◌, assert}
use Rattle.std.specs.Prelude.{Ok}
use Rattle.rules.specs.declared.refusal.Refusal.{Refusal}
use Rattle.rules.specs.declared.refusal.Refusal.TheVariants.{NumberRange}
use Rattle.rules.specs.Limits.{Limits, limited, times, fraction_of}
use Rattle.index_map.specs.IndexMap.{combination, new, Walked, walked, visit, add_constant, sub}
use Rattle.linear_walk.specs.LinearTerms.{add_term, add_leaf, from_term}
use Rattle.disequality.specs.Disequality.{turned}
use Rattle.linear_walk.specs.Memory.Walks.{Walks}
use Rattle.linear_comb.specs.Memory.WorkArea.{Sum, comb_of, KeptSum, Apart, area_of, with_area, OnlyArea}
use Rattle.index_map.specs.Memory.Entries.{entries_of, blanked, Held}
use Rattle.disequality.specs.Memory.DisequalitySteps.{constant_side, subtracted, SubtractedLeft, LiteralLeft}
use Rattle.disequality.specs.declared.disequality.Disequality as by_value
use Rattle.index_map.proofs.StoredEntries.{kept-entries, kept_small}
use Rattle.linear_comb.proofs.Areas.{only_none}
use Rattle.linear_comb.proofs.AreaSteps.{in_first, both-apart}
use Rattle.work_area.proofs.InsertLoops.{InsertedAll, inserting_none, inserting_done}
use Rattle.work_area.proofs.AreaSums.{Added, added-sum, added_out}
use Rattle.disequality.proofs.SubtractedSides.{out_of_range, subtracted-left}
use Rattle.numbers.specs.Rational.{Checked}
use Rattle.std.specs.Prelude.{None, Some}

-- ---- the walk of a number

-- after its visit
abbrev Reads : Limits → Rational → Rational → Walked Term → Result (Walked Term)
Reads l q coeff w = times l q coeff >>= λ c. add_constant l c w

number-walk :
    (t : Term) {q : Rational} → as_number t ≡ Ok q → (l : Limits) (coeff : Rational) (w : Walked Term) →
    add_term t l coeff w ≡ (visit l w >>= Reads l q coeff)
unfolding add_term add_leaf fraction_of as_fraction as_unsigned_fraction quotient_of unary binary as_number ◌>>=◌
number-walk (integer i v) {q} e l coeff w =
    let is : whole v ≡ q = cc in
    ap (λ (p : Rational). visit l w >>= Reads l p coeff) is
number-walk (rational i p) {q} e l coeff w =
    let is : p ≡ q = cc in
    ap (λ (p : Rational). visit l w >>= Reads l p coeff) is
number-walk (bitvector i v n) e l coeff w = cc
number-walk (atom i s n) e l coeff w = cc
number-walk (op i o ts) e l coeff w = cc

pub constant-walk :
    (t : Term) {q : Rational} → as_number t ≡ Ok q → (limit v : ℕ) → v < limit →
    from_term (limited limit) t v ≡ constant_side (limited limit) q (v + 1)
unfolding from_term constant_side visit assert ◌>>=◌
constant-walk t e limit v h =
    let yes = le-leb (suc v) limit (omega arith) in
    number-walk t e (limited limit) (whole (pos 1)) (walked new v) ∙ rw (yes, add-one)

pub proper-step : {step one : Rational} → one ≡ step → Proper step → Proper one
proper-step e = subst Proper (sym e)

-- ---- an area without entries

module _ {b w : Bytes} (held : Held b w []) where
  plain : {d : Rational} → Proper d → KeptSum b w (record { len = 0; constant = d })
  plain p = record { kept = record { map = []; held = held; size = refl }; proper = p }

  pub no_walk : {r : Refusal} {d : Result (Walked Term)} → Err r ≡ d → Walks b w (Err r) d
  no_walk e = record { map = []; held = held; is = (sym e, refl) }

  pub constant-walks :
      {k : Rational} {v : ℕ} {d : Result (Walked Term)} → Proper k → Ok (walked (combination [] k) v) ≡ d →
      Walks b w (Ok (record { sum = record { len = 0; constant = k }; visits = v })) d
  constant-walks p e = record { map = []; held = held; is = (sym e, record { size = refl; proper = p }) }

-- ---- bounded

module _ {b w : Bytes} {t : Sum} (kept : KeptSum b w t) (none : t.len ≡ 0) where
  pub none_held : Held b w []
  unfolding entries_of
  none_held = subst (Held b w) (sym (kept-entries kept.kept) ∙ ap (entries_of b w) none) kept.kept.held

  pub none_comb : comb_of b w t ≡ combination [] t.constant
  unfolding entries_of
  none_comb = ap (λ n. combination (entries_of b w n) t.constant) none

-- the right side has the constant d, whose negation is v
module _
    {b w : Bytes} {s : Sum} (apart : Apart 1 2 w) (left : KeptSum b (area_of 1 w) s) (held : Held b (area_of 2 w) [])
    {d : Rational} (proper : Proper d) {v : Rational} (v-is : v ≡ neg_q d) {r : Checked}
    (sum : Gives r (checked (add_q s.constant v))) (o n l : ℕ) where
  abbrev right : Sum
  right = record { len = 0; constant = d }

  right_kept : KeptSum b (area_of 2 w) right
  right_kept = plain held proper

  none_inserted : InsertedAll w 1 s.len 2 0 true w (Ok s.len)
  none_inserted =
      inserting_done {turned = true} (inserting_none apart (kept_small left.kept) (omega arith)) (omega arith)

  -- area 2 is empty already
  stays : {w' : Bytes} → OnlyArea 1 w w' → w' ≡ with_area 2 (blanked 0 (area_of 2 w')) w'
  unfolding maps.blanked
  stays only = only_none (both-apart apart (in_first apart only)).second

  pub bounded_out :
      {w' : Bytes} → r ≡ None → w' ≡ with_area 1 (blanked s.len (area_of 1 w)) w →
      SubtractedLeft b w w' (Err NumberRange)
      (subtracted (limited l) o (comb_of b (area_of 1 w) s) (combination [] d) n)
  unfolding entries_of sub
  bounded_out {w'} e clear =
      let added : Added w 1 s 2 right true w' (Err NumberRange) =
      added_out w 1 s 2 right true w none_inserted v v-is r sum apart.first refl e w' clear in
      out_of_range apart left right_kept added.0 (stays added.0) o n (limited l)
      (added.1 b left right_kept l)

  -- q is the constant on the right
  pub bounded-left :
      {c q : Rational} {w' : Bytes} {e : by_value.Disequality} → r ≡ Some c → Makes q (neg_q c) →
      (KeptSum b (area_of 1 w) (record { len = s.len; constant = q }) →
      LiteralLeft b w w' (Ok e)
      (Ok (turned o (comb_of b (area_of 1 w) (record { len = s.len; constant = q })) n))) →
      SubtractedLeft b w w' (Ok e)
      (subtracted (limited l) o (comb_of b (area_of 1 w) s) (combination [] d) n)
  unfolding entries_of sub
  bounded-left {c} value turn turning =
      let same = only_none apart.first in
      let added : Added w 1 s 2 right true w (Ok (record { len = s.len; constant = c })) =
      added-sum w 1 s 2 right true w none_inserted v v-is r sum c value in
      subtracted-left apart left right_kept same (stays same) o n (limited l) (added.1 b left right_kept l) turn
      turning
