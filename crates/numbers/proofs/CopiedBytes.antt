-- A loop that copies bytes into others: `Copied` is its invariant, and `front-more`, `front_all` and `front_rest` are
-- its laws where the bytes are copied to the front.
use mathlib.Core.Path.{◌≡◌, refl, ap, ◌∙◌}
use mathlib.Core.List.{append-nil}
use Prim.Native.Nat.{ℕ, ◌+◌, ◌≤◌, ◌<◌}
use native.Mathlib.Numerals.{add-one}
use native.Mathlib.Nat.{zero-add}
use native.Mathlib.Omega.{arith}
use lib.ListN.{length, get_or, take, drop, set, length-set, drop_of_length-le}
use lib.Seq.{paste, paste-zero, paste-suc, drop-paste}
use Rattle.numbers.specs.Bytes.{Bytes}

-- w is d with i of the n bytes of s at a
pub record Copied (n : ℕ) (d : Bytes) (a : ℕ) (s w : Bytes) (i : ℕ) : Type 0 where
  pub most : i ≤ n
  pub size : length w ≡ length d
  pub is : w ≡ paste d a s i

module _ {n : ℕ} {d : Bytes} {a : ℕ} {s : Bytes} where
  pub copied_none : Copied n d a s d 0
  copied_none = record { most = omega arith; size = refl; is = paste-zero d a s }

  module _ {w : Bytes} {i : ℕ} (c : Copied n d a s w i) where
    pub copied_more :
        a + n ≤ length d → n ≤ length s → i < n → {x : ℕ} → x ≡ get_or s i 0 → Copied n d a s (set w (a + i) x) (i + 1)
    copied_more room enough h {x} same =
        record {
          most = omega arith;
          size = length-set w (a + i) x ∙ c.size;
          is = rw (add-one i, same, c.is) (paste-suc d a s i 0 (omega arith) (omega arith));
        }

    pub copied_all : n ≤ i → w ≡ paste d a s n
    copied_all h = let all : i ≡ n = omega (arith, c.most) in c.is ∙ ap (paste d a s) all

-- at the front
module _ {n : ℕ} {d s w : Bytes} {i : ℕ} (c : Copied n d 0 s w i) where
  pub front-more :
      n ≤ length d → n ≤ length s → i < n → {x : ℕ} → x ≡ get_or s i 0 → Copied n d 0 s (set w i x) (i + 1)
  front-more room enough h same = rw (zero-add i) at (copied_more c (omega arith) enough h same)

  -- over all bytes
  pub front_all : length d ≡ n → n ≤ i → w ≡ take n s
  front_all size h =
      let short : length d ≤ 0 + n = omega arith in
      copied_all c h ∙ rw (drop_of_length-le d short) (append-nil (take n s))

  -- the bytes behind those that are copied stand as they were
  pub front_rest : n ≤ length s → drop i w ≡ drop i d
  front_rest enough =
      rw (zero-add i) at (ap (drop (0 + i)) c.is ∙ drop-paste d 0 s i (omega arith) (omega (arith, c.most)))
