-- Reading a book with its index (`record_read`, `read_records`, `read_book` of src/book.rt).
--   Indexing: the loop over the records, which is `Reading` of BookReading with the index beside the sorts.
--   left-odd, left-many, left-refused, left-done: the loop's answers, with the index still there.
--   left-cleared: once the index is emptied, the book is read as `BookDone` says.
use mathlib.Core.Path.{◌≡◌, refl, sym, ◌∙◌}
use mathlib.Core.Bool.{Bool, true, false}
use mathlib.Core.Logic.{◌≢◌, ◌⊎◌, inl, inr}
use Prim.Native.Nat.{ℕ, zero, suc, ◌+◌, ◌/◌, ◌%◌, ◌≤◌, ◌<◌}
use native.Mathlib.Omega.{arith}
use borrow.Author.Tests.{eqb-true, eqb-false, ltb-true, ltb-false}
use lib.Dec.{eqb, ltb}
use lib.ListN.{length, get_or, set, length-set}
use lib.Seq.{ext_get_or, get_or-set_same, get_or-set_other}
use Rattle.numbers.specs.Bytes.{Bytes}
use Rattle.terms.specs.Book.{refused_at, record_read, read_book, records_read, put_sorts, BookDone}
use Rattle.book.specs.Memory.RecordIndex.{Indexed, Unused, Beside, BookLeft}
use Rattle.terms.specs.declared.reading.BookRefusal.{BookRefusal}
use Rattle.terms.specs.declared.reading.BookRefusal.TheVariants.{BookSize}
use Rattle.book.proofs.RecordChains.{beside_same, indexed_elsewhere, indexed_none}
use Rattle.book.proofs.BookReading.{Reading, length-put_sorts, put-sort, reading_none, reading-more}
use Rattle.book.proofs.BookReading.{reading-refused, reading-done, refused-whole, refused-count}
use Rattle.terms.specs.Book.{BookRead, RecordRead}
use Rattle.std.specs.Prelude.{Ok, Err}

-- ---- the loop

-- record i of n is next: w has the sorts of those before it, and their index
pub record Indexing (b w₀ : Bytes) (n : ℕ) (w : Bytes) (i : ℕ) : Type 0 where
  pub reading : Reading b w₀ n i
  pub beside : Beside w (put_sorts i b w₀)
  pub indexed : Indexed i b w

pub indexing_none : (b w : Bytes) (n : ℕ) → 8192 ≤ length w → Unused w → Indexing b w n w 0
unfolding put_sorts
indexing_none b w n room unused =
    record {
      reading = reading_none b w n;
      beside = beside_same w;
      indexed = indexed_none b w room unused;
    }

module _ (b w₀ : Bytes) (n : ℕ) (w : Bytes) (i : ℕ) (indexing : Indexing b w₀ n w i) where
  pub indexing_length : length w ≡ length w₀
  indexing_length = indexing.beside.long ∙ length-put_sorts i b w₀

  -- a sort lies beside the index
  pub indexed-sorted : (s : ℕ) → i < 2048 → Indexed i b (set w i s)
  indexed-sorted s h =
      indexed_elsewhere i b w (set w i s) (length-set w i s)
      (λ j p q. get_or-set_other w i j s 0 (λ e. omega arith))
      indexing.indexed

  pub indexing_more :
      i < n → (s : ℕ) (r : RecordRead) → r ≡ record_read b i → r ≡ Ok s →
      (w' : Bytes) → Indexed (i + 1) b w' → Beside w' (set w i s) → Indexing b w₀ n w' (i + 1)
  indexing_more h s r is sorted w' indexed beside =
      let v : Bytes = put_sorts i b w₀ in
      let wide : 8192 ≤ length w₀ = omega (arith, indexing_length, indexing.indexed.room) in
      let room : i < length w₀ = omega (arith, wide, indexing.indexed.few) in
      record {
        reading = reading-more b w₀ i s r is sorted n indexing.reading h room;
        beside =
            rw (← put-sort b w₀ i s r is sorted)
            (record {
              long = beside.long ∙ length-set w i s ∙ indexing.beside.long ∙ sym (length-set v i s);
              same = λ j apart. beside.same j apart ∙ same j apart (eqb j i) refl;
            });
        indexed = indexed;
      }
    where
      same :
          (j : ℕ) → (j < 2048) ⊎ (8192 ≤ j) → (t : Bool) → eqb j i ≡ t →
          get_or (set w i s) j 0 ≡ get_or (set (put_sorts i b w₀) i s) j 0
      same j apart true e =
          let inside : i < length w = omega (arith, indexing.indexed.room, indexing.indexed.few) in
          rw (eqb-true j i e)
          (get_or-set_same w i s 0 inside
          ∙ sym (get_or-set_same (put_sorts i b w₀) i s 0 (omega (arith, inside, indexing.beside.long))))
      same j apart false e =
          let other : j ≢ i = eqb-false j i e in
          get_or-set_other w i j s 0 other ∙ indexing.beside.same j apart
          ∙ sym (get_or-set_other (put_sorts i b w₀) i j s 0 other)

-- ---- the answers

left-size : (b w : Bytes) → refused_at BookSize 0 ≡ read_book b → BookLeft b w w (refused_at BookSize 0)
unfolding put_sorts
left-size b w is = record { is = is; few = omega arith; sorts = beside_same w }

pub left-odd : (b w : Bytes) → (length b % 32 ≡ 0 → ⊥) → BookLeft b w w (refused_at BookSize 0)
left-odd b w h = left-size b w (refused-whole b h)

pub left-many : (b w : Bytes) → 2048 < length b / 32 → BookLeft b w w (refused_at BookSize 0)
left-many b w h = left-size b w (refused-count b h)

module _ (b w₀ w : Bytes) (i : ℕ) (whole : length b % 32 ≡ 0) (few : length b / 32 ≤ 2048)
    (indexing : Indexing b w₀ (length b / 32) w i)
  where
    pub left-refused :
        i < length b / 32 → (k : BookRefusal) (r : RecordRead) → r ≡ record_read b i → r ≡ Err k →
        BookLeft b w₀ w (refused_at k i)
    left-refused h k r is refused =
        record {
          is = reading-refused b w₀ i whole few indexing.reading h k r is refused;
          few = omega arith;
          sorts = indexing.beside;
        }

    pub left-done : length b / 32 ≤ i → BookLeft b w₀ w (Ok (length b / 32))
    left-done h =
        let all : i ≡ length b / 32 = omega (arith, indexing.reading.inside) in
        record {
          is = reading-done b w₀ i whole few indexing.reading h;
          few = few;
          sorts = rw all at indexing.beside;
        }

-- bytes past the sorts are not written
past-sorts : (n : ℕ) (b w : Bytes) (j : ℕ) → n ≤ j → get_or (put_sorts n b w) j 0 ≡ get_or w j 0
unfolding put_sorts
past-sorts zero b w j h = refl
past-sorts (suc n) b w j h =
    get_or-set_other (put_sorts n b w) n j _ 0 (λ e. omega arith) ∙ past-sorts n b w j (omega arith)

-- once the index is emptied, the sorts alone are left
pub left-cleared :
    (b w₀ w w' : Bytes) (r : BookRead) → Unused w₀ → BookLeft b w₀ w r → Unused w' × Beside w' w → BookDone b w₀ w' r
left-cleared b w₀ w w' r unused left cleared =
    record {
      is = left.is;
      sorts =
          ext_get_or 0 w' v (cleared.1.long ∙ left.sorts.long)
          (λ j h. go j (ltb j 2048) (ltb j 8192) refl refl);
    }
  where
    v : Bytes
    v = put_sorts (records_read r) b w₀

    beside : (j : ℕ) → (j < 2048) ⊎ (8192 ≤ j) → get_or w' j 0 ≡ get_or v j 0
    beside j apart = cleared.1.same j apart ∙ left.sorts.same j apart

    go : (j : ℕ) (s t : Bool) → ltb j 2048 ≡ s → ltb j 8192 ≡ t → get_or w' j 0 ≡ get_or v j 0
    go j true t p q = beside j (inl (ltb-true j 2048 p))
    go j false false p q = beside j (inr (ltb-false j 8192 q))
    go j false true p q =
        let from : 2048 ≤ j = ltb-false j 2048 p in
        let to : j < 8192 = ltb-true j 8192 q in
        cleared.0.zero j from to
        ∙ sym (past-sorts (records_read r) b w₀ j (omega (arith, left.few)) ∙ unused.zero j from to)
