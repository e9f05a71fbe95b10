-- Rows of records of one mark: how they are written, read and tested.
--     number_bytes, marked       a row as bytes, and the records that it is read as (`recs-numbers`)
--     Elsewhere, parted       a row is parted from what follows it, where that has another mark in front
--     all_right, right-numbers       the tests of refusal 7 pass, and what they say of the row's numbers
--     numbers-back, terms-back       the row's content comes back
--     every-term, in_book, literal       what the tests say of the terms of a row that is read
use mathlib.Core.Path.{◌≡◌, refl, sym, ◌∙◌, ap, subst}
use mathlib.Core.Bool.{Bool, true, false, ◌&&◌}
use mathlib.Core.List.{List, [], ◌∷◌, ◌++◌}
use Prim.Native.Nat.{ℕ, suc, ◌+◌, ◌*◌, ◌/◌, ◌%◌, ◌<◌}
use native.Mathlib.Omega.{arith}
use borrow.Author.Tests.{eq-eqb, ltb-true}
use lib.Dec.{eqb, ltb}
use lib.ListN.{length}
use Rattle.numbers.specs.Bytes.{Bytes, bytes_of}
use Rattle.terms.specs.Term.{Term, record_number, sort, same_sort}
use Rattle.terms.specs.Term.Sort.{bool}
use Rattle.terms.specs.Book.{count, tree}
use Rattle.numbers.proofs.Truths.{both}
use Rattle.terms.proofs.NumberedNodes.{record_number-tree}
use Rattle.book.proofs.BookTerms.{OfBook}
use Rattle.runs.specs.Run.{Rec, P, rec, recs, leading, after, all_right, numbers_of, terms_of, Every, record_bytes}
use Rattle.runs.specs.Run.{premise_bytes, term_bytes, end, also}

-- ---- records of one mark, as bytes and as they are read

unfoldable pub number_bytes : ℕ → List ℕ → Bytes
number_bytes m [] = []
number_bytes m (n ∷ ns) = record_bytes m 0 n ++ number_bytes m ns

unfoldable pub marked : ℕ → List ℕ → List Rec
marked m [] = []
marked m (n ∷ ns) = rec m 0 n ∷ marked m ns

unfoldable pub record_numbers : List Term → List ℕ
record_numbers [] = []
record_numbers (t ∷ ts) = record_number t ∷ record_numbers ts

pub premises-are-numbers : (ps : List ℕ) → premise_bytes ps ≡ number_bytes P ps
unfolding premise_bytes number_bytes
premises-are-numbers [] = refl
premises-are-numbers (p ∷ ps) = ap (λ r. record_bytes P 0 p ++ r) (premises-are-numbers ps)

pub terms-are-numbers : (m : ℕ) (ts : List Term) → term_bytes m ts ≡ number_bytes m (record_numbers ts)
unfolding term_bytes number_bytes record_numbers
terms-are-numbers m [] = refl
terms-are-numbers m (t ∷ ts) = ap (λ r. record_bytes m 0 (record_number t) ++ r) (terms-are-numbers m ts)

pub length-number_bytes : (m : ℕ) (ns : List ℕ) → length (number_bytes m ns) ≡ 4 * length ns
unfolding number_bytes bytes_of
length-number_bytes m [] = refl
length-number_bytes m (n ∷ ns) = let h = length-number_bytes m ns in omega arith

-- ---- the records of a row

abbrev pub Small : ℕ → Type 0
Small n = n < 65536

pub recs_record : (m x n : ℕ) (r : Bytes) → Small n → recs (record_bytes m x n ++ r) ≡ rec m x n ∷ recs r
unfolding recs bytes_of
recs_record m x n r h =
    let e : n % 256 + 256 * (n / 256 % 256) ≡ n = omega arith in ap (λ k. rec m x k ∷ recs r) e

pub recs-numbers :
    (m : ℕ) {ns : List ℕ} → Every Small ns → (r : Bytes) →
    recs (number_bytes m ns ++ r) ≡ marked m ns ++ recs r
unfolding number_bytes marked bytes_of
recs-numbers m end r = refl
recs-numbers m (also {x = n} {xs = ns} h hs) r =
    recs_record m 0 n (number_bytes m ns ++ r) h ∙ ap (λ rs. rec m 0 n ∷ rs) (recs-numbers m hs r)

-- ---- a row and what follows it

-- no record of mark m stands in front
unfoldable pub Elsewhere : ℕ → List Rec → Type 0
Elsewhere m [] = Unit {0}
Elsewhere m (r ∷ rs) = eqb r.mark m ≡ false

pub elsewhere_marked :
    (m n : ℕ) (ns : List ℕ) (rs : List Rec) → eqb m n ≡ false → Elsewhere n rs →
    Elsewhere n (marked m ns ++ rs)
unfolding marked Elsewhere
elsewhere_marked m n [] rs e h = h
elsewhere_marked m n (x ∷ ns) rs e h = e

leading-marked :
    (m : ℕ) (ns : List ℕ) (rs : List Rec) → Elsewhere m rs → leading m (marked m ns ++ rs) ≡ marked m ns
unfolding leading marked Elsewhere
leading-marked m [] [] h = refl
leading-marked m [] (r ∷ rs) h = rw (h, leading)
leading-marked m (n ∷ ns) rs h =
    rw (eq-eqb m m refl, leading) (ap (λ l. rec m 0 n ∷ l) (leading-marked m ns rs h))

after-marked : (m : ℕ) (ns : List ℕ) (rs : List Rec) → Elsewhere m rs → after m (marked m ns ++ rs) ≡ rs
unfolding after marked Elsewhere
after-marked m [] [] h = refl
after-marked m [] (r ∷ rs) h = rw (h, after)
after-marked m (n ∷ ns) rs h = rw (eq-eqb m m refl, after) (after-marked m ns rs h)

pub parted :
    (m : ℕ) (ns : List ℕ) (rs : List Rec) → Elsewhere m rs →
    (leading m (marked m ns ++ rs) ≡ marked m ns) × (after m (marked m ns ++ rs) ≡ rs)
parted m ns rs h = (leading-marked m ns rs h, after-marked m ns rs h)

-- ---- the numbers of a row

pub every-number :
    {Q : Term → Type 0} (R : ℕ → Type 0) → ((t : Term) → Q t → R (record_number t)) → (ts : List Term) →
    Every Q ts → Every R (record_numbers ts)
unfolding record_numbers
every-number R f [] end = end
every-number R f (t ∷ ts) (also h hs) = also (f t h) (every-number R f ts hs)

pub all_right_lem :
    (p : ℕ → Bool) (m : ℕ) (ns : List ℕ) → Every (λ n. p n ≡ true) ns → all_right p (marked m ns) ≡ true
unfolding all_right marked
all_right_lem p m [] end = refl
all_right_lem p m (n ∷ ns) (also h hs) = rw (h, all_right_lem p m ns hs)

-- what follows from the test of a row's numbers holds of each
pub right-numbers :
    {p : ℕ → Bool} (Q : ℕ → Type 0) → ((i : ℕ) → p i ≡ true → Q i) → (rs : List Rec) → all_right p rs ≡ true →
    Every Q (numbers_of rs)
unfolding all_right numbers_of
right-numbers Q f [] e = end
right-numbers {p} Q f (r ∷ rs) e =
    let x = both (eqb r.byte 0 && p r.number) (all_right p rs) e in
    also (f r.number (both (eqb r.byte 0) (p r.number) x.0).1) (right-numbers Q f rs x.1)

pub numbers-back : (m : ℕ) (ns : List ℕ) → numbers_of (marked m ns) ≡ ns
unfolding numbers_of marked
numbers-back m [] = refl
numbers-back m (n ∷ ns) = ap (λ l. n ∷ l) (numbers-back m ns)

pub length_marked : (m : ℕ) (ts : List Term) → length (marked m (record_numbers ts)) ≡ length ts
unfolding marked record_numbers
length_marked m [] = refl
length_marked m (t ∷ ts) = ap suc (length_marked m ts)

-- ---- the terms of a row

abbrev pub InBook : Bytes → Term → Type 0
InBook b = OfBook b (count b)

abbrev pub Literal : Bytes → Term → Type 0
Literal b t = InBook b t × (same_sort (sort t) bool ≡ true)

-- the test of a C record's number
abbrev pub is_literal : Bytes → ℕ → Bool
is_literal b c = ltb c (count b) && same_sort (sort (tree b c)) bool

module _ (b : Bytes) where
  number_of : (t : Term) (h : InBook b t) → record_number t ≡ h.number
  number_of t h = ap record_number h.is ∙ record_number-tree b h.number

  pub number-inside : (t : Term) → InBook b t → record_number t < count b
  number-inside t h = subst (λ n. n < count b) (sym (number_of t h)) h.inside

  pub tree_of_number : (t : Term) → InBook b t → tree b (record_number t) ≡ t
  tree_of_number t h = ap (tree b) (number_of t h) ∙ sym h.is

  pub terms-back :
      (m : ℕ) (ts : List Term) → Every (InBook b) ts → terms_of b (marked m (record_numbers ts)) ≡ ts
  unfolding terms_of marked record_numbers
  terms-back m [] end = refl
  terms-back m (t ∷ ts) (also h hs) = rw (tree_of_number t h, terms-back m ts hs)

  pub every-term :
      {Q : Term → Type 0} (rs : List Rec) → Every (λ i. Q (tree b i)) (numbers_of rs) → Every Q (terms_of b rs)
  unfolding numbers_of terms_of
  every-term [] end = end
  every-term (r ∷ rs) (also h hs) = also h (every-term rs hs)

  pub length-terms : (rs : List Rec) → length (terms_of b rs) ≡ length rs
  unfolding terms_of
  length-terms [] = refl
  length-terms (r ∷ rs) = ap suc (length-terms rs)

  pub in_book : (i : ℕ) → ltb i (count b) ≡ true → InBook b (tree b i)
  in_book i e = record { number = i; inside = ltb-true i (count b) e; is = refl }

  pub literal : (i : ℕ) → is_literal b i ≡ true → Literal b (tree b i)
  literal i e = let x = both (ltb i (count b)) _ e in (in_book i x.0, x.1)
