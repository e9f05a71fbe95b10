-- A book with real constants behind it, as elaboration writes its tail, reads as the book with these
-- constants: `tail-read`, `tail-count`, `tail-old` (the book's terms stay) and `tail-new` (the constants
-- follow). One constant is appended at a time. The earlier records pass their tests as before, since appended
-- bytes change nothing that these look at. The new one passes its own: no earlier one is the same constant.
use mathlib.Core.Path.{◌≡◌, refl, sym, ap, ap₂, ◌∙◌, subst}
use mathlib.Core.Bool.{Bool, true, false}
use mathlib.Core.List.{List, [], ◌∷◌, ◌++◌, append_assoc, append-nil}
use mathlib.Core.Logic.{⊎_elim}
use Prim.Native.Nat.{ℕ, zero, suc, ◌+◌, ◌*◌, ◌/◌, ◌%◌, ◌≤◌, ◌<◌}
use native.Mathlib.Nat.{add-zero, zero-add, eq-or-lt_of_le, le_of_suc-le-suc}
use native.Mathlib.Omega.{arith}
use borrow.Author.Tests.{le-leb, eq-eqb, leb-true, eqb-true}
use lib.Dec.{leb, eqb}
use lib.ListN.{length, get_or, take, length-append}
use lib.Seq.{take_all, drop_at}
use Rattle.numbers.specs.Rational.{Rational, eq_q}
use Rattle.numbers.specs.Bytes.{Bytes, same_bytes}
use Rattle.terms.specs.Term.{sort, sort_code}
use Rattle.terms.specs.Term.Term.{rational}
use Rattle.terms.specs.Book.{BookRead, refused_at, count, record_of, tree, stands, record_read, read_records, read_book, size_ok}
use Rattle.terms.specs.Format.{max_records}
use Rattle.terms.specs.declared.reading.BookRefusal.TheVariants.{BookSize}
use Rattle.numbers.proofs.Truths.{both, never}
use Rattle.numbers.proofs.Rationals.{eq_q-eq, eq_q-refl}
use Rattle.terms.proofs.Trees.{record_of-inside, record_of_append, tree_append}
use Rattle.book.proofs.Accepted.{Accepted, accepted, accepted-count}
use Rattle.out_areas.specs.Farkas.{real_record, tail_bytes, is_real}
use Rattle.runs.specs.Run.{end, also, Every}
use Rattle.out_areas.proofs.Everywhere.{every-both}
use Rattle.out_areas.proofs.RealRecord.{Storable, Lacks, length-real, real-tree, real-new, real-layout}
use Rattle.std.specs.Prelude.{Ok}

-- ---- a book that is read

-- a record that passes its tests has a sort
accepted-sorted : (c : Bytes) (i : ℕ) → Accepted c i → record_read c i ≡ Ok (sort_code (sort (tree c i)))
unfolding record_read
accepted-sorted c i a = rw (a.layout, a.sorted, a.new, record_read)

records-accepted :
    (n : ℕ) (c : Bytes) (i : ℕ) → ((j : ℕ) → j < i + n → Accepted c j) → read_records n c i ≡ Ok (i + n)
unfolding read_records
records-accepted zero c i each = ap Ok (sym (add-zero i))
records-accepted (suc n) c i each =
    let next : i + 1 + n ≡ i + suc n = omega arith in
    rw (accepted-sorted c i (each i (omega arith)), read_records)
    (records-accepted n c (i + 1) (λ j h. each j (omega arith)) ∙ ap Ok next)

book-accepted :
    (c : Bytes) (n : ℕ) → length c ≡ 32 * n → n ≤ max_records → ((j : ℕ) → j < n → Accepted c j) →
    read_book c ≡ Ok n
unfolding read_book
book-accepted c n long few each =
    let whole : length c % 32 ≡ 0 = omega arith in
    let all : length c / 32 ≡ n = omega arith in
    rw (eq-eqb (length c % 32) 0 whole, le-leb (length c / 32) max_records (omega arith), read_book)
    (ap (λ (m : ℕ). read_records m c 0) all
    ∙ records-accepted n c 0 (λ j h. each j (omega arith))
    ∙ ap Ok (zero-add n))

module _ (b : Bytes) (n : ℕ) (e : read_book b ≡ Ok n) where
  read-sized : size_ok b ≡ true
  unfolding read_book
  read-sized = go (size_ok b) e
    where
      go :
          (t : Bool) →
          ◌≡◌ {A = BookRead} (elim t [ true ↦ read_records (length b / 32) b 0 | false ↦ refused_at BookSize 0 ]) (Ok n) →
          t ≡ true
      go true p = refl
      go false p = cc

  pub read_length : length b ≡ 32 * n
  read_length =
      let tests = both (eqb (length b % 32) 0) (leb (length b / 32) max_records) read-sized in
      let whole : length b % 32 ≡ 0 = eqb-true (length b % 32) 0 tests.0 in
      let few : length b / 32 ≤ max_records = leb-true (length b / 32) max_records tests.1 in
      omega (arith, accepted-count b n e)

-- ---- bytes that are appended leave the records accepted

module _ (b t : Bytes) where
  stands_append : (r : Bytes) (n : ℕ) → n ≤ count b → stands n (b ++ t) r ≡ stands n b r
  unfolding stands
  stands_append r zero h = refl
  stands_append r (suc n) h =
      ap₂ (λ (s : Bool) (x : Bytes). elim s [ true ↦ true | false ↦ same_bytes x r ])
      (stands_append r n (omega arith))
      (record_of_append b t n (omega arith))

  accepted_append : (i : ℕ) → i < count b → Accepted b i → Accepted (b ++ t) i
  accepted_append i h a =
      record {
        layout = rw (record_of_append b t i h) a.layout;
        sorted = rw (tree_append b t i h) a.sorted;
        new = rw (record_of_append b t i h) (stands_append (record_of b i) i (omega arith) ∙ a.new);
      }

-- ---- one constant behind the book

last_or_earlier :
    (P : ℕ → Type 0) (n : ℕ) → ((j : ℕ) → j < n → P j) → P n → (j : ℕ) → j < suc n → P j
last_or_earlier P n earlier last j h =
    ⊎_elim (λ e. subst P (sym e) last) (earlier j) (eq-or-lt_of_le (le_of_suc-le-suc h))

module _ (b : Bytes) (n : ℕ) (e : read_book b ≡ Ok n) where
  old-tree : (t : Bytes) (i : ℕ) → i < n → tree (b ++ t) i ≡ tree b i
  old-tree t i h = tree_append b t i (omega (arith, accepted-count b n e))

  module _ (q : Rational) (s : Storable q) (room : n < max_records) where
    abbrev longer : Bytes
    longer = b ++ real_record q

    longer-length : length longer ≡ 32 * suc n
    longer-length = omega (arith, length-append b (real_record q), length-real q, read_length b n e)

    last_record : record_of longer n ≡ real_record q
    last_record =
        record_of-inside longer n (omega (arith, longer-length))
        ∙ ap (take 32) (drop_at b (real_record q) (32 * n) (read_length b n e))
        ∙ take_all 32 (real_record q) (omega (arith, length-real q))

    last-tree : tree longer n ≡ rational n q
    last-tree = real-tree q s.proper longer n last_record

    last-accepted : Lacks b n q → Accepted longer n
    last-accepted lacks =
        record {
          layout = rw last_record (real-layout q s n);
          sorted = rw last-tree;
          new =
              rw last_record
              (stands_append b (real_record q) (real_record q) n (omega (arith, accepted-count b n e))
              ∙ real-new q s.proper b n lacks);
        }

    one_read : Lacks b n q → read_book longer ≡ Ok (suc n)
    one_read lacks =
        book-accepted longer (suc n) longer-length (omega arith)
        (last_or_earlier (Accepted longer) n old (last-accepted lacks))
      where
        old : (j : ℕ) → j < n → Accepted longer j
        old j h =
            accepted_append b (real_record q) j (omega (arith, accepted-count b n e)) (accepted b n e j h)

    -- it is no constant that differs from q
    one_lacks : (r : Rational) → eq_q q r ≡ false → Lacks b n r → Lacks longer (suc n) r
    one_lacks r differ lacks =
        last_or_earlier (λ i. is_real r (tree longer i) ≡ false) n
        (λ i h. rw (old-tree (real_record q) i h) (lacks i h))
        (rw last-tree (unequal (eq_q r q) refl))
      where
        unequal : (t : Bool) → eq_q r q ≡ t → t ≡ false
        unequal false p = refl
        unequal true p = never (sym differ ∙ ap (eq_q q) (eq_q-eq r q p) ∙ eq_q-refl q)

-- ---- the whole tail

-- no number equals a later one
pub data Differ : List Rational → Type 0 where
  none : Differ []
  one : {q : Rational} {qs : List Rational} → Every (λ r. eq_q q r ≡ false) qs → Differ qs → Differ (q ∷ qs)

-- what the book needs of a tail of constants that elaboration writes behind it
pub record TailOf (b : Bytes) (n : ℕ) (qs : List Rational) : Type 0 where
  pub storable : Every Storable qs
  pub lacks : Every (Lacks b n) qs
  pub differ : Differ qs
  pub room : n + length qs ≤ max_records

-- c reads as n records and the constants qs
record Followed (c : Bytes) (n : ℕ) (qs : List Rational) : Type 0 where
  read : read_book c ≡ Ok (n + length qs)
  new : (k : ℕ) → k < length qs → (d : Rational) → tree c (n + k) ≡ rational (n + k) (get_or qs k d)

none_followed : (c : Bytes) (n : ℕ) → read_book c ≡ Ok n → Followed c n []
none_followed c n e = record { read = e ∙ ap Ok (sym (add-zero n)); new = λ k h d. absurd (omega arith) }

one_followed :
    (c : Bytes) (n : ℕ) (q : Rational) (qs : List Rational) → tree c n ≡ rational n q →
    Followed c (suc n) qs → Followed c n (q ∷ qs)
one_followed c n q qs here f =
    let all : suc n + length qs ≡ n + suc (length qs) = omega arith in
    record { read = f.read ∙ ap Ok all; new = new }
  where
    new :
        (k : ℕ) → k < suc (length qs) → (d : Rational) →
        tree c (n + k) ≡ rational (n + k) (get_or (q ∷ qs) k d)
    new zero h d = rw add-zero here
    new (suc k) h d =
        let place : suc n + k ≡ n + suc k = omega arith in
        rw (← place) (f.new k (omega arith) d)

followed :
    (qs : List Rational) (b : Bytes) (n : ℕ) → read_book b ≡ Ok n → Every Storable qs →
    Every (Lacks b n) qs → Differ qs → n + length qs ≤ max_records → Followed (b ++ tail_bytes qs) n qs
unfolding tail_bytes
followed [] b n e end end none room = rw append-nil (none_followed b n e)
followed (q ∷ qs) b n e (also s ss) (also l ls) (one d ds) room =
    let c : Bytes = b ++ real_record q in
    let few : n < max_records = omega arith in
    let read : read_book c ≡ Ok (suc n) = one_read b n e q s few l in
    let rest : Followed (c ++ tail_bytes qs) (suc n) qs =
    followed qs c (suc n) read ss (every-both (one_lacks b n e q s few) qs d ls) ds (omega arith) in
    let here : tree (c ++ tail_bytes qs) n ≡ rational n q =
    old-tree c (suc n) read (tail_bytes qs) n (omega arith) ∙ last-tree b n e q s few in
    subst (λ (x : Bytes). Followed x n (q ∷ qs)) (append_assoc b (real_record q) (tail_bytes qs))
    (one_followed (c ++ tail_bytes qs) n q qs here rest)

module _ (b : Bytes) (n : ℕ) (e : read_book b ≡ Ok n) (qs : List Rational) (t : TailOf b n qs) where
  behind : Followed (b ++ tail_bytes qs) n qs
  behind = followed qs b n e t.storable t.lacks t.differ t.room

  pub tail-read : read_book (b ++ tail_bytes qs) ≡ Ok (n + length qs)
  tail-read = behind.read

  pub tail-count : count (b ++ tail_bytes qs) ≡ n + length qs
  tail-count = sym (accepted-count (b ++ tail_bytes qs) (n + length qs) tail-read)

  pub tail-old : (i : ℕ) → i < n → tree (b ++ tail_bytes qs) i ≡ tree b i
  tail-old = old-tree b n e (tail_bytes qs)

  pub tail-new :
      (k : ℕ) → k < length qs → (d : Rational) →
      tree (b ++ tail_bytes qs) (n + k) ≡ rational (n + k) (get_or qs k d)
  tail-new = behind.new
