-- The work area after the book was read: the sorts of its records, and zeros.
use mathlib.Core.Path.{◌≡◌, refl, sym, ap, ◌∙◌}
use mathlib.Core.Bool.{Bool, true, false}
use mathlib.Core.Logic.{◌≢◌}
use mathlib.Core.List.{[], ◌∷◌}
use Prim.Native.Nat.{ℕ, zero, suc, ◌+◌, ◌≤◌, ◌<◌}
use native.Mathlib.Omega.{arith}
use borrow.Author.Tests.{eqb-true, eqb-false}
use lib.Dec.{eqb}
use lib.ListN.{length, get_or, set, drop, replicate, length-replicate}
use lib.Seq.{get_or-set_same, get_or-set_other}
use Rattle.numbers.specs.Bytes.{Bytes}
use Rattle.terms.specs.Term.{sort, sort_code}
use Rattle.terms.specs.Book.{count, tree, read_book, put_sorts, records_read, BookDone}
use Rattle.book.proofs.BookReading.{length-put_sorts}
use Rattle.book.proofs.Accepted.{accepted-count, accepted-layout}
use Rattle.rules.specs.Memory.Parts.{Ready}
use Rattle.terms.specs.Book.{BookRead}
use Rattle.std.specs.Prelude.{Ok}

-- a byte that was written is a sort
sort-written : (n : ℕ) (b w : Bytes) (j : ℕ) → n ≤ length w → j < n → get_or (put_sorts n b w) j 0 ≡ sort_code (sort (tree b j))
unfolding put_sorts
sort-written zero b w j room h = absurd (omega arith)
sort-written (suc n) b w j room h = go (eqb j n) refl (sort-written n b w j)
  where
    long : n < length (put_sorts n b w)
    long = omega (arith, length-put_sorts n b w)

    go :
        (t : Bool) → eqb j n ≡ t → (n ≤ length w → j < n → get_or (put_sorts n b w) j 0 ≡ sort_code (sort (tree b j))) →
        get_or (set (put_sorts n b w) n (sort_code (sort (tree b n)))) j 0 ≡ sort_code (sort (tree b j))
    go true e before =
        rw (eqb-true j n e) (get_or-set_same (put_sorts n b w) n (sort_code (sort (tree b n))) 0 long)
    go false e before =
        let other : j ≢ n = eqb-false j n e in
        get_or-set_other (put_sorts n b w) n j (sort_code (sort (tree b n))) 0 other ∙ before (omega arith) (omega arith)

-- what stands behind is not written
drop-set-front : (w : Bytes) (i k x : ℕ) → i < k → drop k (set w i x) ≡ drop k w
drop-set-front [] i k x h = refl
drop-set-front (y ∷ w) i zero x h = absurd (omega arith)
drop-set-front (y ∷ w) zero (suc k) x h = refl
drop-set-front (y ∷ w) (suc i) (suc k) x h = drop-set-front w i k x (omega arith)

behind-sorts : (n k : ℕ) (b w : Bytes) → n ≤ k → drop k (put_sorts n b w) ≡ drop k w
unfolding put_sorts
behind-sorts zero k b w h = refl
behind-sorts (suc n) k b w h = drop-set-front (put_sorts n b w) n k _ (omega arith) ∙ behind-sorts n k b w (omega arith)

drop-replicate : (k n x : ℕ) → drop k (replicate (k + n) x) ≡ replicate n x
drop-replicate zero n x = rw (zero-plus n)
  where
    zero-plus : (m : ℕ) → 0 + m ≡ m
    zero-plus m = omega arith
drop-replicate (suc k) n x = ap (λ m. drop (suc k) (replicate m x)) (suc-plus k n) ∙ drop-replicate k n x
  where
    suc-plus : (m l : ℕ) → suc m + l ≡ suc (m + l)
    suc-plus m l = omega arith

pub prepared :
    (b w : Bytes) (r : BookRead) (n : ℕ) → BookDone b (replicate 65536 0) w r → r ≡ Ok n → Ready b w
prepared b w r n done e =
    let read : read_book b ≡ Ok n = sym done.is ∙ e in
    let all : n ≡ count b = accepted-count b n read in
    let few : n ≤ 2048 = omega arith in
    let bytes : w ≡ put_sorts n b (replicate 65536 0) = done.sorts ∙ ap (λ x. put_sorts (records_read x) b (replicate 65536 0)) e in
    let long : length {A = ℕ} (replicate 65536 0) ≡ 65536 = length-replicate {A = ℕ} 65536 0 in
    record {
      sorts = record {
        laid = λ j h. accepted-layout b n read j (omega arith);
        held = λ j h. rw bytes (sort-written n b (replicate 65536 0) j (omega arith) (omega arith));
      };
      size = rw bytes (length-put_sorts n b (replicate 65536 0) ∙ long);
      zeros = rw bytes (behind-sorts n 2048 b (replicate 65536 0) few ∙ drop-replicate 2048 63488 0);
    }
