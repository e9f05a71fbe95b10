-- `all_int` tests the atoms of an area's entries in order: an atom's sort is read at its record's byte.
use mathlib.Core.Path.{◌≡◌, sym, ◌∙◌, ap}
use mathlib.Core.Bool.{Bool}
use Prim.Native.Nat.{ℕ, zero, suc, ◌+◌, ◌*◌, ◌<◌}
use native.Mathlib.Omega.{arith}
use lib.Dec.{eqb}
use lib.ListN.{get_or, drop}
use Rattle.std.specs.List.{list_all, range_with_len}
use Rattle.numbers.specs.Bytes.{Bytes, le}
use Rattle.terms.specs.Term.{sort, sort_code}
use Rattle.terms.specs.Book.{count, SortsBelow}
use Rattle.linear_comb.specs.LinearComb.{all_int}
use Rattle.index_map.specs.Memory.Entries.{entries_of, Kept}
use Rattle.linear_comb.proofs.EntryPlaces.{kept_at, all_behind}

-- w's first bytes are sorts, x are the bytes of an area: whether the atom of entry k is Int
abbrev pub int_at : Bytes → Bytes → ℕ → Bool
int_at w x k = eqb (get_or w (le 2 x (10 * k)) 0) 2

module _ {b w x : Bytes} {n : ℕ} (sorts : SortsBelow (count b) b w) (kept : Kept b x n) where
  int_from :
      (r k : ℕ) → k + r ≡ n → list_all (int_at w x) (range_with_len k r) ≡ all_int (drop k (entries_of b x n))
  unfolding all_int
  int_from zero k h = rw (all_behind {k = k} kept (omega arith))
  int_from (suc r) k h =
      let below : k < n = omega arith in
      let at = kept_at kept k below in
      let code : get_or w (le 2 x (10 * k)) 0 ≡ sort_code (sort at.entry.0) =
      ap (λ z. get_or w z 0) at.key ∙ sorts.held _ at.inside ∙ ap (λ t. sort_code (sort t)) (sym at.term) in
      rw (at.here, code, int_from r (k + 1) (omega arith))

  pub int_all : list_all (int_at w x) (range_with_len 0 n) ≡ all_int (entries_of b x n)
  int_all = int_from n 0 (omega arith)
