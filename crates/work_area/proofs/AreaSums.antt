-- What `add_signed` makes of its calls: the entries are inserted into area `to`, then the constants are added; where
-- their sum leaves the range, the area is emptied.
use Rattle.rules.specs.declared.refusal.Refusal.{Refusal}
use Rattle.rules.specs.declared.refusal.Refusal.TheVariants.{NumberRange}
use Rattle.std.specs.Prelude.{Err, Ok, None, Some}
use mathlib.Core.Path.{◌≡◌, refl, sym, ◌∙◌}
use mathlib.Core.Bool.{Bool, true, false}
use mathlib.Core.List.{[]}
use Prim.Native.Nat.{ℕ}
use lib.ListN.{length}
use Rattle.numbers.specs.Rational.{Rational, Gives, add_q, checked, Checked}
use Rattle.numbers.specs.Bytes.{Bytes}
use Rattle.terms.specs.Term.{Term}
use Rattle.rules.specs.Refusal.{Result, ◌>>=◌}
use Rattle.rules.specs.Limits.{limited, plus}
use Rattle.index_map.specs.IndexMap.{Map, combination, insert_all, add, neg}
use Rattle.linear_comb.specs.LinearComb.{LinearComb}
use Rattle.index_map.specs.Memory.Entries.{terms, Inserts, blanked}
use Rattle.linear_comb.specs.Memory.WorkArea.{Sum, comb_of, KeptSum, Combines, Area, area_of, with_area, OnlyArea}
use Rattle.linear_comb.specs.Memory.WorkArea.{sum_bytes, signed_all, signed_q, signed_comb}
use Rattle.index_map.proofs.CheckedNumbers.{plus-value, plus_out}
use Rattle.index_map.proofs.NumberedKeys.{length-blanked}
use Rattle.index_map.proofs.StoredEntries.{clear_all}
use Rattle.linear_comb.proofs.Areas.{area-length, only_then}
use Rattle.linear_comb.proofs.AreaSteps.{given-area, given-only}
use Rattle.work_area.proofs.InsertLoops.{InsertedAll}

-- ---- the definition: the entries, then the constant

abbrev Then : ℕ → Rational → Rational → Map Term → Result LinearComb
Then l c d m = plus (limited l) c d >>= λ q. Ok (combination m q)

add_parts :
    (t : Bool) (l : ℕ) (m r : Map Term) (c d : Rational) →
    add terms (limited l) (combination m c) (signed_comb t (combination r d))
    ≡ (insert_all terms (limited l) m (signed_all t r) >>= Then l c (signed_q t d))
unfolding add neg
add_parts true l m r c d = refl
add_parts false l m r c d = refl

-- x has the bytes once the entries' insertion has answered d
module _ {bk x : Bytes} {d : Result (Map Term)} (l : ℕ) (c e : Rational) where
  sums-refused : {r : Refusal} → Inserts bk x (Err r) d → Combines bk x (Err r) (d >>= Then l c e)
  unfolding ◌>>=◌
  sums-refused i = record { map = i.map; held = i.held; is = (rw i.is.0, i.is.1) }

  module _ {n : ℕ} (i : Inserts bk x (Ok n) d) (r : Checked) (made : Gives r (checked (add_q c e))) where
    sums_out : r ≡ None → Combines bk (blanked n x) (Err NumberRange) (d >>= Then l c e)
    unfolding ◌>>=◌
    sums_out out =
        record {
          map = [];
          held = rw i.is.1 (clear_all i.map i.held);
          is = (rw (i.is.0, plus_out l c e (sym made.is ∙ out)), refl);
        }

    sums-sum :
        (q : Rational) → r ≡ Some q →
        Combines bk x (Ok (record { len = n; constant = q })) (d >>= Then l c e)
    unfolding ◌>>=◌
    sums-sum q value =
        record {
          map = i.map;
          held = i.held;
          is = (
            rw (i.is.0, plus-value l c e q (sym made.is ∙ value)),
            record { size = i.is.1; proper = made.proper q value },
          );
        }

-- ---- the answers

-- what the answer r says, with the bytes w that are left
abbrev pub Added : Bytes → ℕ → Sum → ℕ → Sum → Bool → Bytes → Result Sum → Type 0
Added w₀ to a from b turned w r =
    OnlyArea to w₀ w
    × ((bk : Bytes) → KeptSum bk (area_of to w₀) a → KeptSum bk (area_of from w₀) b → (l : ℕ) →
    Combines bk (area_of to w) r
    (add terms (limited l) (comb_of bk (area_of to w₀) a) (signed_comb turned (comb_of bk (area_of from w₀) b))))

-- the entries' insertion leaves the bytes w
module _ (w₀ : Bytes) (to : ℕ) (a : Sum) (from : ℕ) (b : Sum) (turned : Bool) (w : Bytes) where
  pub added-refused :
      {r : Refusal} → InsertedAll w₀ to a.len from b.len turned w (Err r) → Added w₀ to a from b turned w (Err r)
  added-refused all = (
    all.0.1,
    λ bk kept kept' l. rw (add_parts turned l) (sums-refused l _ _ (all.1 bk kept.kept kept'.kept l)),
  )

  -- v is b's constant
  module _
      {len : ℕ}
      (all : InsertedAll w₀ to a.len from b.len turned w (Ok len))
      (v : Rational)
      (is-v : v ≡ signed_q turned b.constant)
      (s : Checked)
      (made : Gives s (checked (add_q a.constant v))) where
    pub added-sum :
        (q : Rational) → s ≡ Some q →
        Added w₀ to a from b turned w (Ok (record { len = len; constant = q }))
    added-sum q value = (
      all.0.1,
      λ bk kept kept' l.
          rw (add_parts turned l)
          (sums-sum l _ _ (all.1 bk kept.kept kept'.kept l) s (rw is-v at made) q value),
    )

    pub added_out :
        Area to w₀ → length w ≡ length w₀ → s ≡ None → (w' : Bytes) →
        w' ≡ with_area to (blanked len (area_of to w)) w → Added w₀ to a from b turned w' (Err NumberRange)
    added_out area size out w' is =
        let area-w : Area to w = record { size = size ∙ area.size; among = area.among } in
        let long : length (blanked len (area_of to w)) ≡ sum_bytes =
        length-blanked len (area_of to w) ∙ area-length area-w in
        let empty : area_of to w' ≡ blanked len (area_of to w) = given-area area-w _ long is in (
          only_then area all.0.1 (given-only area-w _ long is),
          λ bk kept kept' l.
              rw (empty, add_parts turned l)
              (sums_out l _ _ (all.1 bk kept.kept kept'.kept l) s (rw is-v at made) out),
        )
