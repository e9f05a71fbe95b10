-- A book that is read without a refusal: each of its records was read (`accepted-count`), so each passed the three tests
-- of a record: its layout, its sort, and that it stands nowhere before (`accepted`, and of the first two alone
-- `accepted-layout` and `accepted-sort`).
use mathlib.Core.Path.{◌≡◌, refl, subst}
use mathlib.Core.Bool.{Bool, true, false}
use mathlib.Core.Logic.{⊎_elim}
use Prim.Native.Nat.{ℕ, zero, suc, ◌+◌, ◌/◌, ◌%◌, ◌≤◌, ◌<◌}
use native.Mathlib.Nat.{eq-or-lt_of_le}
use native.Mathlib.Omega.{arith}
use borrow.Author.Tests.{leb-true}
use lib.Dec.{leb, eqb}
use lib.ListN.{length}
use Rattle.numbers.specs.Bytes.{Bytes}
use Rattle.terms.specs.Book.{BookRead, refused_at, count, size_ok, record_of, tree, layout_ok, sort_ok, stands, record_read, read_records, read_book}
use Rattle.terms.specs.Format.{max_records}
use Rattle.terms.specs.declared.reading.BookRefusal.{BookRefusal}
use Rattle.terms.specs.declared.reading.BookRefusal.TheVariants.{BookSize}
use Rattle.numbers.proofs.Truths.{both}
use Rattle.book.proofs.BookReading.{record_sorted}
use Rattle.std.specs.Prelude.{Ok, Err}
use Rattle.terms.specs.Book.{RecordRead}

-- record i passed the tests of a record
pub record Accepted (b : Bytes) (i : ℕ) : Type 0 where
  pub layout : layout_ok i (record_of b i) ≡ true
  pub sorted : sort_ok (tree b i) ≡ true
  pub new : stands i b (record_of b i) ≡ false

record_accepted : (b : Bytes) (i s : ℕ) → record_read b i ≡ Ok s → Accepted b i
record_accepted b i s e =
    let p = record_sorted b i s e in
    record { layout = p.0; sorted = p.1; new = p.2 }

not-refused : {A : Type 0} {c : BookRefusal} {i m : ℕ} → refused_at c i ≡ Ok m → A
not-refused e = let z : ◌≡◌ {A = ℕ} 0 1 = cc in absurd (omega arith)

-- the records from i on, n of them
record Read (n : ℕ) (b : Bytes) (i m : ℕ) : Type 0 where
  all : m ≡ i + n
  each : (j : ℕ) → i ≤ j → j < m → Accepted b j

records-read : (n : ℕ) (b : Bytes) (i m : ℕ) → read_records n b i ≡ Ok m → Read n b i m
unfolding read_records
records-read zero b i m e =
    let h : i ≡ m = cc in
    record { all = omega arith; each = λ j l k. absurd (omega arith) }
records-read (suc n) b i m e = go (record_read b i) refl e (records-read n b (i + 1) m)
  where
    go :
        (r : RecordRead) → record_read b i ≡ r →
        ◌≡◌ {A = BookRead} (elim r [ Ok s ↦ read_records n b (i + 1) | Err c ↦ refused_at c i ]) (Ok m) →
        (read_records n b (i + 1) ≡ Ok m → Read n b (i + 1) m) → Read (suc n) b i m
    go (Ok s) p e rest =
        record {
          all = omega (arith, (rest e).all);
          each =
              λ j l k.
              ⊎_elim
              (λ q. subst (Accepted b) q (record_accepted b i s p))
              (λ q. (rest e).each j (omega arith) k)
              (eq-or-lt_of_le l);
        }
    go (Err c) p e rest = not-refused e

-- ---- the book

module _ (b : Bytes) (n : ℕ) (e : read_book b ≡ Ok n) where
  read : (size_ok b ≡ true) × Read (length b / 32) b 0 n
  unfolding read_book
  read = go (size_ok b) refl e
    where
      go :
          (t : Bool) → size_ok b ≡ t →
          ◌≡◌ {A = BookRead} (elim t [ true ↦ read_records (length b / 32) b 0 | false ↦ refused_at BookSize 0 ]) (Ok n) →
          (size_ok b ≡ true) × Read (length b / 32) b 0 n
      go true p e = (p, records-read (length b / 32) b 0 n e)
      go false p e = not-refused e

  pub accepted-count : n ≡ count b
  accepted-count =
      let sized = both (eqb (length b % 32) 0) (leb (length b / 32) max_records) read.0 in
      omega (arith, read.1.all, leb-true (length b / 32) max_records sized.1)

  pub accepted : (i : ℕ) → i < n → Accepted b i
  accepted i h = read.1.each i (omega arith) h

  pub accepted-layout : (i : ℕ) → i < n → layout_ok i (record_of b i) ≡ true
  accepted-layout i h = (accepted i h).layout

  pub accepted-sort : (i : ℕ) → i < n → sort_ok (tree b i) ≡ true
  accepted-sort i h = (accepted i h).sorted
