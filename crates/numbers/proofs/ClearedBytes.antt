-- Zeros from a byte on.
--     ClearedTo, cleared_none, cleared_more, cleared_all       byte by byte
--     cleared_rest, cleared_nothing       at once, as the function `clear_from` leaves them
--     cleared-zeros       all of an area
use mathlib.Core.Path.{◌≡◌, refl, sym, ap, ◌∙◌}
use mathlib.Core.List.{◌++◌, append-nil}
use Prim.Native.Nat.{ℕ, ◌+◌, ◌-◌, ◌≤◌, ◌<◌}
use native.Mathlib.Nat.{sub-zero}
use native.Mathlib.Omega.{arith}
use borrow.Author.Fill.{fill_more}
use borrow.Rule.Slice.PartMut.{put_mid}
use lib.ListN.{length, take, drop, set, replicate, length-drop, length-set, take-append-drop, drop_of_length-le}
use lib.Seq.{take_all, drop-drop, take-set-le, drop-set-add}
use Rattle.numbers.specs.Bytes.{Bytes, zeroed_from}

-- ---- zeros from a byte on

-- w is d with zeros from byte n to byte k
pub record ClearedTo (n : ℕ) (d w : Bytes) (k : ℕ) : Type 0 where
  pub done : ℕ
  pub place : k ≡ n + done
  pub most : done ≤ length d - n
  pub size : length w ≡ length d
  pub front : take n w ≡ take n d
  pub back : drop n w ≡ replicate done 0 ++ drop done (drop n d)

module _ {n : ℕ} {d : Bytes} where
  pub cleared_none : ClearedTo n d d n
  cleared_none =
      record { done = 0; place = omega arith; most = omega arith; size = refl; front = refl; back = refl }

  module _ {w : Bytes} {k : ℕ} (c : ClearedTo n d w k) where
    pub cleared_more : k < length d → ClearedTo n d (set w k 0) (k + 1)
    cleared_more h =
        let i = c.done in
        let room : i < length (drop n d) = omega (arith, length-drop n d, c.place) in
        record {
          done = i + 1;
          place = omega (arith, c.place);
          most = omega (arith, c.place);
          size = length-set w k 0 ∙ c.size;
          front = take-set-le n w k 0 (omega (arith, c.place)) ∙ c.front;
          back =
              ap (λ j. drop n (set w j 0)) c.place ∙ drop-set-add n w i 0
              ∙ ap (λ (x : Bytes). set x i 0) c.back
              ∙ fill_more i 0 (drop n d) room;
        }

    pub cleared_all : length d ≤ k → w ≡ zeroed_from n d
    unfolding zeroed_from
    cleared_all h =
        let all : c.done ≡ length d - n = omega (arith, c.place, c.most) in
        let past : length (drop n d) ≤ c.done = omega (arith, length-drop n d) in
        sym (take-append-drop n w)
        ∙ rw (c.front, c.back, drop_of_length-le (drop n d) past, append-nil {A = ℕ} (replicate c.done 0), all)

-- zeros in the place of what stands behind n bytes, as the function `clear_from` writes them
module _ (n : ℕ) (d : Bytes) where
  pub cleared_rest : {w : Bytes} → w ≡ replicate (length d - n) 0 → n ≤ length d → put_mid n (length d - n) d w ≡ zeroed_from n d
  unfolding zeroed_from
  cleared_rest e h =
      let past : length d ≤ n + (length d - n) = omega arith in
      rw (e, drop-drop, drop_of_length-le d past, append-nil {A = ℕ} (replicate (length d - n) 0)) refl

  -- and where no more than n bytes are there, nothing changes
  pub cleared_nothing : length d ≤ n → d ≡ zeroed_from n d
  unfolding zeroed_from
  cleared_nothing h =
      let none : length d - n ≡ 0 = omega arith in
      rw (none, take_all n d h, append-nil {A = ℕ} d) refl

-- all of an area of n bytes
pub cleared-zeros : (w : Bytes) {w' : Bytes} {n : ℕ} → w' ≡ zeroed_from 0 w → length w ≡ n → w' ≡ replicate n 0
unfolding zeroed_from
cleared-zeros w e size = e ∙ rw (sub-zero (length w), size)
