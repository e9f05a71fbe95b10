-- `join`: book and tail one behind the other.
--     has_room, joined_by, joined-room, joined_none       by whether there is room for them
--     end-room, end_none, area-holds       where they end
use mathlib.Core.Path.{◌≡◌, sym, ap, ap₂, ◌∙◌}
use mathlib.Core.Bool.{Bool, true, false}
use mathlib.Core.List.{[], ◌++◌}
use Prim.Native.Nat.{ℕ, ◌+◌, ◌-◌, ◌≤◌}
use native.Mathlib.Nat.{zero-add}
use native.Mathlib.Omega.{arith}
use borrow.Author.Tests.{leb-true}
use lib.Dec.{leb}
use lib.ListN.{length, take, replicate, length-append}
use lib.Seq.{paste}
use Rattle.numbers.specs.Bytes.{Bytes, zeroed_from}
use Rattle.marking.specs.Answers.{area}
use Rattle.again.specs.Again.{joined_book}
use Rattle.out_areas.proofs.Pieces.{put-length, put_front}

-- ---- book and tail one behind the other

module _ (book tail joined : Bytes) where
  abbrev size : ℕ
  size = length book + length tail

  -- what `join` answers and leaves
  abbrev Joined : Bool → Bytes → Type 0
  Joined r left = (r ≡ leb size (length joined)) × (left ≡ area (length joined) (joined_book (length joined) book tail))

  -- by the test of the room
  abbrev joined_by : Bool → Bytes
  joined_by t = elim t [ true ↦ book ++ tail | false ↦ [] ]

  pub joined_by_lem : {t : Bool} → leb size (length joined) ≡ t → joined_book (length joined) book tail ≡ joined_by t
  unfolding joined_book
  joined_by_lem e = ap joined_by e

  pub has_room : {r : Bool} → r ≡ leb size (length joined) → r ≡ true → size ≤ length joined
  has_room r-is taken = leb-true size (length joined) (sym r-is ∙ taken)

  pub joined-room :
      {r : Bool} → r ≡ leb size (length joined) → r ≡ true → (one two left : Bytes) →
      one ≡ paste joined 0 book (length book) → two ≡ paste one (length book) tail (length tail) →
      left ≡ zeroed_from size two → Joined true left
  unfolding zeroed_from area
  joined-room {r} r-is taken one two left one-is two_is left_is =
      let e : leb size (length joined) ≡ true = sym r-is ∙ taken in
      let h : size ≤ length joined = has_room r-is taken in
      let long : length one ≡ length joined =
      ap length one-is ∙ put-length joined 0 book (omega arith)
      in
      let long' : length two ≡ length joined =
      ap length two_is ∙ put-length one (length book) tail (omega (arith, long)) ∙ long
      in
      let front : take (length book) one ≡ book =
      ap₂ take (sym (zero-add (length book))) one-is ∙ put_front joined 0 book (omega arith)
      in
      let both-are : take size two ≡ book ++ tail =
      ap (take size) two_is ∙ put_front one (length book) tail (omega (arith, long)) ∙ ap (λ z. z ++ tail) front
      in (
        sym e,
        left_is ∙ rw (joined_by_lem e, both-are, long', length-append book tail),
      )

  pub joined_none :
      {r : Bool} → r ≡ leb size (length joined) → r ≡ false → (left : Bytes) → left ≡ zeroed_from 0 joined →
      Joined false left
  unfolding zeroed_from area
  joined_none {r} r-is fails left left_is =
      let e : leb size (length joined) ≡ false = sym r-is ∙ fails in
      (sym e, left_is ∙ rw (joined_by_lem e))

  -- where the joined book ends
  pub end-room :
      {r : Bool} → r ≡ leb size (length joined) → r ≡ true → {end : ℕ} → end ≡ size →
      end ≡ length (joined_book (length joined) book tail)
  end-room r-is taken e = e ∙ sym (ap length (joined_by_lem (sym r-is ∙ taken)) ∙ length-append book tail)

  pub end_none :
      {r : Bool} → r ≡ leb size (length joined) → r ≡ false → {end : ℕ} → end ≡ 0 →
      end ≡ length (joined_book (length joined) book tail)
  end_none r-is fails e = e ∙ sym (ap length (joined_by_lem (sym r-is ∙ fails)))

-- what is written to an area is not longer than it
pub area-holds : (n : ℕ) (b : Bytes) {end : ℕ} {left : Bytes} → end ≡ length b → left ≡ area n b → end ≤ length left
unfolding area
area-holds n b e left_is = omega (arith, e, ap length left_is, length-append b (replicate (n - length b) 0))
