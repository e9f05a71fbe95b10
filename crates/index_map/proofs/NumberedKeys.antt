-- A record number in two bytes as an encoding of terms, and what its writes keep.
use mathlib.Core.Path.{◌≡◌, refl, ◌∙◌}
use mathlib.Core.Bool.{Bool, true, false}
use Prim.Native.Nat.{ℕ, zero, suc, ◌+◌, ◌*◌, ◌≤◌, ◌<◌}
use native.Mathlib.Nat.{add-zero}
use native.Mathlib.Omega.{arith}
use borrow.Author.Tests.{eqb-true, leb-true, leb-false}
use lib.Dec.{leb}
use lib.ListN.{length, get_or, drop, length-drop}
use lib.Seq.{get_or-drop}
use Rattle.numbers.specs.Rational.{Rational}
use Rattle.numbers.specs.Bytes.{Bytes, digits, le, put, bytes_of}
use Rattle.numbers.proofs.LittleEndian.{le-inside, le-outside, length-put}
use Rattle.numbers.proofs.StoredNumbers.{length-put_number}
use Rattle.index_map.specs.Memory.StoredMaps as maps
use Rattle.index_map.specs.Memory.Entries.{sums, put_entry, blanked}
use Rattle.rules.specs.Memory.Parts.{blank}
use Rattle.index_map.proofs.EntryBytes.{Coded}
use Rattle.index_map.proofs.NumberBytes.{length-bytes_of, put_at, le_at}

abbrev pub Small : ℕ → Type 0
Small i = i < 65536

pub numbers : Coded sums Small
unfolding bytes_of
numbers =
    record {
      long = λ {c} h. length-bytes_of 2 c;
      writes = λ {c} h f x r long. put_at 2 c f x r long;
      reads = λ {c} h f r. le_at 2 c f r h;
      equal = λ {c} {d} e. eqb-true c d e;
      blank = omega arith;
      zeros = refl;
    }

-- a key at i is the first behind i bytes
pub key-drop : (w : Bytes) (i : ℕ) → le 2 (drop i w) 0 ≡ le 2 w i
unfolding digits
key-drop w i = go (leb (i + 2) (length w)) refl
  where
    go : (t : Bool) → leb (i + 2) (length w) ≡ t → le 2 (drop i w) 0 ≡ le 2 w i
    go true e =
        let room : i + 2 ≤ length w = leb-true (i + 2) (length w) e in
        let short : 0 + 2 ≤ length (drop i w) = rw length-drop (omega arith) in
        let first : get_or (drop i w) 0 0 ≡ get_or w i 0 = rw (get_or-drop i w 0 0, add-zero i) in
        rw (le-inside 2 (drop i w) 0 short, le-inside 2 w i room, digits, first, get_or-drop i w 1 0)
    go false e =
        let room : length w < i + 2 = leb-false (i + 2) (length w) e in
        let short : length (drop i w) < 0 + 2 = rw length-drop (omega arith) in
        rw (le-outside 2 (drop i w) 0 short, le-outside 2 w i room)

length-put_entry : (w : Bytes) (k key : ℕ) (q : Rational) → length (put_entry w k key q) ≡ length w
unfolding maps.put_entry
length-put_entry w k key q =
    length-put_number q (put 2 key w (10 * k)) (10 * k + 2) ∙ length-put 2 key w (10 * k)

pub length-blanked : (k : ℕ) (w : Bytes) → length (blanked k w) ≡ length w
unfolding maps.blanked
length-blanked zero w = refl
length-blanked (suc k) w = length-put_entry (blanked k w) k 0 blank ∙ length-blanked k w
