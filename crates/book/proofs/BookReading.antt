-- Reading a record and reading a book: the code's steps are those of `record_read` and `read_records`, and the bytes that
-- are written hold the sorts of the records read (`Reading`).
use mathlib.Core.Path.{◌≡◌, refl, sym, ◌∙◌, ap}
use mathlib.Core.Bool.{Bool, true, false, cond, and-false}
use mathlib.Core.Logic.{◌≢◌}
use Prim.Native.Nat.{ℕ, zero, suc, ◌+◌, ◌-◌, ◌/◌, ◌%◌, ◌≤◌, ◌<◌}
use native.Mathlib.Numerals.{add-one}
use native.Mathlib.Omega.{arith}
use borrow.Author.Tests.{le-leb, lt-leb, eq-eqb, ne_eqb, eqb-true, eqb-false}
use lib.Dec.{eqb}
use lib.ListN.{length, get_or, set, length-set}
use lib.Seq.{get_or-set_same, get_or-set_other}
use Rattle.numbers.specs.Bytes.{Bytes}
use Rattle.terms.specs.Term.{sort, sort_code}
use Rattle.terms.specs.Book.{refused_at, record_of, tree, layout_ok, sort_ok, stands, record_read, read_records, read_book}
use Rattle.terms.specs.Book.{put_sorts, SortsBelow}
use Rattle.book.specs.Memory.Sorting.{sorting}
use Rattle.terms.specs.declared.reading.BookRefusal.{BookRefusal}
use Rattle.terms.specs.declared.reading.BookRefusal.TheVariants.{BookSize, RecordLayout, SortBroken, RecordRepeated}
use Rattle.book.proofs.RecordSorts.{verdict, sorting-tree}
use Rattle.std.specs.Prelude.{Option, Some, None, Ok, Err}
use Rattle.terms.specs.Book.{RecordRead}

-- ---- a record

-- what is found, by the layout, the sorts, an equal record, and the sort
found : Bool → Bool → Bool → ℕ → RecordRead
found l s e n =
    elim l [
      | false ↦ Err RecordLayout
      | true ↦
          elim s [
            | false ↦ Err SortBroken
            | true ↦ elim e [ true ↦ Err RecordRepeated | false ↦ Ok n ]
          ]
    ]

record_found :
    (b : Bytes) (i : ℕ) →
    record_read b i ≡
    found (layout_ok i (record_of b i)) (sort_ok (tree b i)) (stands i b (record_of b i)) (sort_code (sort (tree b i)))
unfolding record_read found
record_found b i = refl

found-equal : (e : Bool) (n : ℕ) → cond e (Err RecordRepeated) (Ok n) ≡ found true true e n
unfolding found
found-equal true n = refl
found-equal false n = refl

-- a record that has a sort passed the three tests
found-sorted :
    (l s e : Bool) (m n : ℕ) → found l s e m ≡ Ok n → (l ≡ true) × (s ≡ true) × (e ≡ false) × (n ≡ m)
unfolding found
found-sorted false s e m n h = (cc, cc, cc, cc)
found-sorted true false e m n h = (refl, cc, cc, cc)
found-sorted true true true m n h = (refl, refl, cc, cc)
found-sorted true true false m n h = (refl, refl, refl, cc)

pub record_sorted :
    (b : Bytes) (i n : ℕ) → record_read b i ≡ Ok n →
    (layout_ok i (record_of b i) ≡ true) × (sort_ok (tree b i) ≡ true) × (stands i b (record_of b i) ≡ false)
    × (n ≡ sort_code (sort (tree b i)))
record_sorted b i n h = found-sorted _ _ _ _ n (sym (record_found b i) ∙ h)

told : (t : Bool) (m n : ℕ) → Some n ≡ cond t (Some m) None → (t ≡ true) × (n ≡ m)
told true m n h = (refl, cc)
told false m n h = (cc, cc)

broken : (t : Bool) (m : ℕ) → None ≡ cond t (Some m) None → t ≡ false
broken true m h = cc
broken false m h = refl

-- what the code knows of record i once it has looked at the layout and has the sort s
pub record Judged (b : Bytes) (i : ℕ) (s : Option ℕ) : Type 0 where
  pub layout : layout_ok i (record_of b i) ≡ true
  pub sorts : s ≡ verdict (tree b i)

-- r has the record's bytes, and l says whether its layout is right
module _ (b : Bytes) (i : ℕ) (r : Bytes) (is : r ≡ record_of b i) (l : Bool) (layout : l ≡ layout_ok i r) where
  pub judged : (w : Bytes) → SortsBelow i b w → l ≡ true → (s : Option ℕ) → s ≡ sorting i w r → Judged b i s
  judged w below ok s sorts =
      let right : layout_ok i (record_of b i) ≡ true = cc in
      record { layout = right; sorts = sorts ∙ ap (sorting i w) is ∙ sorting-tree b i w below right }

  pub refused-layout : l ≡ false → Err RecordLayout ≡ record_read b i
  unfolding found
  refused-layout bad =
      let wrong : layout_ok i (record_of b i) ≡ false = cc in
      rw (record_found b i, wrong)

module _ (b : Bytes) (i : ℕ) (s : Option ℕ) (judge : Judged b i s) where
  pub refused-sort : s ≡ None → Err SortBroken ≡ record_read b i
  unfolding found
  refused-sort h =
      let wrong : sort_ok (tree b i) ≡ false = broken _ _ (sym h ∙ judge.sorts) in
      rw (record_found b i, judge.layout, wrong)

  -- e says whether an equal record stands before
  pub sorted-once :
      (n : ℕ) → s ≡ Some n → (e : Bool) → e ≡ stands i b (record_of b i) → (t : Bool) → e ≡ t →
      cond t (Err RecordRepeated) (Ok n) ≡ record_read b i
  sorted-once n of e standing t h =
      let known = told (sort_ok (tree b i)) (sort_code (sort (tree b i))) n (sym of ∙ judge.sorts) in
      let stood : stands i b (record_of b i) ≡ t = cc in
      rw (record_found b i, judge.layout, known.0, stood, known.1) (found-equal t _)

-- ---- the bytes of the sorts

pub length-put_sorts : (n : ℕ) (b w : Bytes) → length (put_sorts n b w) ≡ length w
unfolding put_sorts
length-put_sorts zero b w = refl
length-put_sorts (suc n) b w = length-set (put_sorts n b w) n _ ∙ length-put_sorts n b w

sorts-below_none : (b w : Bytes) → SortsBelow 0 b w
sorts-below_none b w = record { laid = λ j h. absurd (omega arith); held = λ j h. absurd (omega arith) }

-- what holds below i and at i holds below i + 1
below_next : (P : ℕ → Type 0) (i : ℕ) → ((j : ℕ) → j < i → P j) → P i → (j : ℕ) → j < i + 1 → P j
below_next P i below here j h = go (eqb j i) refl
  where
    go : (t : Bool) → eqb j i ≡ t → P j
    go true e = rw (eqb-true j i e) here
    go false e = let other : j ≢ i = eqb-false j i e in below j (omega arith)

sorts-below-more :
    (b w : Bytes) (i n : ℕ) → i < length w → SortsBelow i b w → record_read b i ≡ Ok n →
    SortsBelow (i + 1) b (set w i n)
sorts-below-more b w i n h below e =
    let known = record_sorted b i n e in
    record {
      laid = below_next _ i below.laid known.0;
      held =
          below_next (λ j. get_or (set w i n) j 0 ≡ sort_code (sort (tree b j))) i
          (λ j l. get_or-set_other w i j n 0 (λ q. omega arith) ∙ below.held j l)
          (get_or-set_same w i n 0 h ∙ known.3);
    }

-- ---- the book

read_more :
    (b : Bytes) (m i n : ℕ) → record_read b i ≡ Ok n → read_records (suc m) b i ≡ read_records m b (i + 1)
unfolding read_records
read_more b m i n e = rw (e, read_records)

read-refused :
    (b : Bytes) (m i : ℕ) (k : BookRefusal) → record_read b i ≡ Err k → read_records (suc m) b i ≡ refused_at k i
unfolding read_records
read-refused b m i k e = rw (e, read_records)

one_less : (n i : ℕ) → i < n → n - i ≡ suc (n - (i + 1))
one_less n i h = omega arith

-- record i of n is next, and the sorts of those before it are put into the bytes w
pub record Reading (b w : Bytes) (n i : ℕ) : Type 0 where
  pub inside : i ≤ n
  pub below : SortsBelow i b (put_sorts i b w)
  pub left : read_records n b 0 ≡ read_records (n - i) b i

pub reading_none : (b w : Bytes) (n : ℕ) → Reading b w n 0
reading_none b w n =
    let all : n - 0 ≡ n = omega arith in
    record { inside = omega arith; below = sorts-below_none b (put_sorts 0 b w); left = rw all }

-- record i is read, and s is its sort
module _ (b w : Bytes) (i s : ℕ) (r : RecordRead) (is : r ≡ record_read b i) (sorted : r ≡ Ok s) where
  pub put-sort : set (put_sorts i b w) i s ≡ put_sorts (i + 1) b w
  unfolding put_sorts
  put-sort = rw add-one (ap (set (put_sorts i b w) i) (record_sorted b i s (sym is ∙ sorted)).3)

  pub reading-more : (n : ℕ) → Reading b w n i → i < n → i < length w → Reading b w n (i + 1)
  reading-more n reading h room =
      let e : record_read b i ≡ Ok s = sym is ∙ sorted in
      let v : Bytes = put_sorts i b w in
      record {
        inside = omega arith;
        below = rw (← put-sort) (sorts-below-more b v i s (rw (length-put_sorts i b w) room) reading.below e);
        left = reading.left ∙ ap (λ m. read_records m b i) (one_less n i h) ∙ read_more b (n - (i + 1)) i s e;
      }

-- ---- the answers

sized : (b : Bytes) → length b % 32 ≡ 0 → length b / 32 ≤ 2048 → read_book b ≡ read_records (length b / 32) b 0
unfolding read_book
sized b whole few = rw (eq-eqb _ _ whole, le-leb _ _ few, read_book)

pub refused-whole : (b : Bytes) → (length b % 32 ≡ 0 → ⊥) → refused_at BookSize 0 ≡ read_book b
unfolding read_book
refused-whole b h = rw (ne_eqb _ _ h, read_book)

pub refused-count : (b : Bytes) → 2048 < length b / 32 → refused_at BookSize 0 ≡ read_book b
unfolding read_book
refused-count b h = rw (lt-leb _ _ h, and-false (eqb (length b % 32) 0), read_book)

module _ (b w : Bytes) (i : ℕ) (whole : length b % 32 ≡ 0) (few : length b / 32 ≤ 2048)
    (reading : Reading b w (length b / 32) i)
  where
    pub reading-refused :
        i < length b / 32 → (k : BookRefusal) (r : RecordRead) → r ≡ record_read b i → r ≡ Err k →
        refused_at k i ≡ read_book b
    reading-refused h k r is refused =
        sym
        (sized b whole few ∙ reading.left ∙ ap (λ m. read_records m b i) (one_less _ i h)
        ∙ read-refused b _ i k (sym is ∙ refused))

    pub reading-done : length b / 32 ≤ i → Ok (length b / 32) ≡ read_book b
    unfolding read_records
    reading-done h =
        let all : i ≡ length b / 32 = omega (arith, reading.inside) in
        let none : length b / 32 - i ≡ 0 = omega arith in
        sym (sized b whole few ∙ reading.left ∙ ap (λ m. read_records m b i) none ∙ ap Ok all)
