-- Real constants, as elaboration looks for them in the book and in a tail.
--     is_real, other-kind, no_number       the function `is_real_lem`
--     FirstReal, first_real       the function `find_real`
--     found-real       the record that is found is the constant, and is among those that were searched
--     FoundAt, first_in_tail, tail_bound       the function `place_in`
use mathlib.Core.Path.{◌≡◌, refl, sym, ap, subst, ◌∙◌}
use mathlib.Core.Bool.{Bool, true, false}
use mathlib.Core.List.{List, [], ◌∷◌, ◌++◌}
use Rattle.std.specs.Prelude.{Option, Some, None, MatchOption, IfSome}
use Rattle.std.proofs.Common.{inl, inr}
use Rattle.std.proofs.lemmas.Bool.{cases_lt}
use Prim.Native.Nat.{ℕ, zero, suc, ◌+◌, ◌*◌, ◌/◌, ◌≤◌, ◌<◌}
use native.Mathlib.Omega.{arith}
use lib.IntN.{pos}
use lib.ListN.{length, get_or, take, drop}
use lib.Seq.{take_at, drop-append-add}
use Rattle.numbers.specs.Rational.{Rational, whole, Proper, eq_q}
use Rattle.numbers.specs.Bytes.{Bytes}
use Rattle.terms.specs.Term.{Term, Terms}
use Rattle.terms.specs.Term.Term.{integer, rational, bitvector, atom, op}
use Rattle.terms.specs.Book.{count, record_of, rational_of, kind, tree}
use Rattle.terms.specs.Readers.{as_number, Finds}
use Rattle.numbers.proofs.Truths.{never}
use Rattle.terms.proofs.Trees.{record_of-inside}
use Rattle.terms.proofs.RecordReadings.{Node, record_node}
use Rattle.terms.proofs.RecordReadings.Node.{an_integer, a_rational, a_bitvector, an_operation, an_atom}
use Rattle.out_areas.specs.Farkas.{real_record, is_real, find_real, place_in, tail_bytes, place_or}
use Rattle.runs.specs.Run.{Every}
use Rattle.out_areas.proofs.Everywhere.{every_at}
use Rattle.out_areas.proofs.RealRecord.{tail_bytes-length, length-real, real_of}
use Rattle.terms.specs.Readers.{Reading}
use Rattle.std.specs.Prelude.{Ok}

-- ---- the function `is_real_lem`

-- a term that is read as a number from a record of kind 2
value-node :
    {i : ℕ} {r : Bytes} {ts : Terms} {t : Term} (q v : Rational) → Node i r ts t → kind r ≡ 2 →
    as_number t ≡ Ok v → eq_q q v ≡ is_real q t
unfolding as_number
value-node q v (an_integer k t) two e = absurd (omega (arith, k, two))
value-node q v (a_rational k t) two e = cc
value-node q v (a_bitvector k t) two e = absurd (omega (arith, k, two))
value-node q v (an_operation k) two e = absurd (omega (arith, k, two))
value-node q v (an_atom f g h l) two e = cc

other-node :
    {i : ℕ} {r : Bytes} {ts : Terms} {t : Term} (q : Rational) → Node i r ts t → (kind r ≡ 2 → ⊥) →
    false ≡ is_real q t
other-node q (an_integer k t) other = refl
other-node q (a_rational k t) other = absurd (other k)
other-node q (a_bitvector k t) other = refl
other-node q (an_operation k) other = refl
other-node q (an_atom f g h l) other = refl

-- a reading that is no number is that of no real constant
unread :
    (q : Rational) (t : Term) (r : Reading) → ((v : Rational) → r ≡ Ok v → ⊥) → r ≡ as_number t → false ≡ is_real q t
unfolding as_number
unread q (integer i v) r h e = refl
unread q (rational i v) r h e = absurd (h v e)
unread q (bitvector i v w) r h e = refl
unread q (atom i s n) r h e = refl
unread q (op i o ts) r h e = refl

module _ (b : Bytes) (i : ℕ) (q : Rational) where
  module _ {r : Bytes} {k : ℕ} (r-is : r ≡ record_of b i) (k-is : k ≡ get_or r 0 0) where
    pub is_real_lem :
        k ≡ 2 → {a : Reading} → Finds a (as_number (tree b i)) → {v : Rational} → a ≡ Ok v → {t : Bool} →
        t ≡ eq_q q v → t ≡ is_real q (tree b i)
    is_real_lem two found {v} a-is t-is =
        t-is ∙ value-node q v (record_node b i r-is) (sym k-is ∙ two) (sym found.is ∙ a-is)

    pub other-kind : (k ≡ 2 → ⊥) → false ≡ is_real q (tree b i)
    other-kind other = other-node q (record_node b i r-is) (λ e. other (k-is ∙ e))

  pub no_number :
      {a : Reading} → Finds a (as_number (tree b i)) → ((v : Rational) → a ≡ Ok v → ⊥) →
      false ≡ is_real q (tree b i)
  no_number {a} found h = unread q (tree b i) a h found.is

-- ---- the function `find_real`

-- the first of the records from i to before e that is the constant, if one is
abbrev pub FirstReal : ℕ → Bytes → Rational → ℕ → Option ℕ → Type 0
FirstReal e b q i r =
    MatchOption r ((k : ℕ) → i ≤ k → k < e → is_real q (tree b k) ≡ false)
    (λ j.
    (i ≤ j) × (j < e) × (is_real q (tree b j) ≡ true)
    × ((k : ℕ) → i ≤ k → k < j → is_real q (tree b k) ≡ false))

pub first_real :
    (n : ℕ) (b : Bytes) (q : Rational) (i : ℕ) {e : ℕ} (r : Option ℕ) → e ≡ i + n → FirstReal e b q i r →
    r ≡ find_real n b q i
unfolding find_real
first_real zero b q i None all h = refl
first_real zero b q i (Some j) all h = absurd (omega (arith, all, h.0, h.1))
first_real (suc n) b q i {e} r all h =
    go (λ r. first_real n b q (suc i) r (omega (arith, all))) (is_real q (tree b i)) refl r h
  where
    go :
        ((r : Option ℕ) → FirstReal e b q (suc i) r → r ≡ find_real n b q (suc i)) → (t : Bool) →
        is_real q (tree b i) ≡ t → (r : Option ℕ) → FirstReal e b q i r →
        r ≡ elim t [ true ↦ Some i | false ↦ find_real n b q (suc i) ]
    go rest true is None h = never (sym (h i (omega arith) (omega (arith, all))) ∙ is)
    go rest true is (Some j) h = elim (cases_lt i j) [
      | inl l ↦ never (sym (h.3 i (omega arith) l) ∙ is)
      | inr l ↦ let same : j ≡ i = omega (arith, l, h.0) in ap Some same
    ]
    go rest false is None h = rest None (λ k l m. h k (omega arith) m)
    go rest false is (Some j) h = elim (cases_lt i j) [
      | inl l ↦ rest (Some j) (l, h.1, h.2, λ k m o. h.3 k (omega arith) o)
      | inr l ↦
          let same : j ≡ i = omega (arith, l, h.0) in
          never (sym is ∙ ap (λ k. is_real q (tree b k)) (sym same) ∙ h.2)
    ]

pub found-real :
    (k : ℕ) (b : Bytes) (q : Rational) (i j : ℕ) → find_real k b q i ≡ Some j →
    (j < i + k) × (is_real q (tree b j) ≡ true)
unfolding find_real
found-real zero b q i j e = let z : ◌≡◌ {A = ℕ} 0 1 = cc in absurd (omega arith)
found-real (suc k) b q i j e = go (is_real q (tree b i)) refl e (found-real k b q (suc i) j)
  where
    go :
        (t : Bool) → is_real q (tree b i) ≡ t →
        ◌≡◌ {A = Option ℕ} (elim t [ true ↦ Some i | false ↦ find_real k b q (suc i) ]) (Some j) →
        (find_real k b q (suc i) ≡ Some j → (j < suc i + k) × (is_real q (tree b j) ≡ true)) →
        (j < i + suc k) × (is_real q (tree b j) ≡ true)
    go true f e rest = let h : i ≡ j = cc in (omega (arith, h), subst (λ x. is_real q (tree b x) ≡ true) h f)
    go false f e rest = let h = rest e in (omega (arith, h.0), h.1)

-- ---- the function `place_in`

-- record k of a tail
tail_record :
    (qs : List Rational) (k : ℕ) (d : Rational) → k < length qs →
    take 32 (drop (32 * k) (tail_bytes qs)) ≡ real_record (get_or qs k d)
unfolding tail_bytes
tail_record [] k d h = absurd (omega (arith, h))
tail_record (q ∷ qs) zero d h = take_at (real_record q) (tail_bytes qs) 32 (length-real q)
tail_record (q ∷ qs) (suc k) d h =
    let place : 32 * suc k ≡ length (real_record q) + 32 * k = omega (arith, length-real q) in
    ap (λ n. take 32 (drop n (real_record q ++ tail_bytes qs))) place
    ∙ ap (take 32) (drop-append-add (real_record q) (tail_bytes qs) (32 * k))
    ∙ tail_record qs k d (omega (arith, h))

-- the number in record k of a tail
tail_number :
    (qs : List Rational) (tail : Bytes) (k : ℕ) (d : Rational) → Every Proper qs → tail ≡ tail_bytes qs →
    length qs ≤ 2048 → k < length qs →
    rational_of (record_of tail k) ≡ get_or qs k d
tail_number qs tail k d proper e few h =
    ap rational_of
    (record_of-inside tail k (omega (arith, h, few, ap length e, tail_bytes-length qs))
    ∙ ap (λ l. take 32 (drop (32 * k) l)) e ∙ tail_record qs k d h)
    ∙ real_of (get_or qs k d) (every_at qs d proper k h)

-- the first constant that is q, or their number
first_place :
    (qs : List Rational) (q d : Rational) (i : ℕ) → i ≤ length qs →
    ((j : ℕ) → j < i → eq_q (get_or qs j d) q ≡ false) → (i < length qs → eq_q (get_or qs i d) q ≡ true) →
    i ≡ place_in qs q
unfolding place_in
first_place [] q d i h before here = omega arith
first_place (r ∷ qs) q d zero h before here = rw (here (omega arith), place_in) refl
first_place (r ∷ qs) q d (suc i) h before here =
    rw (before 0 (omega arith), place_in)
    (ap suc
    (first_place qs q d i (omega (arith, h)) (λ j l. before (suc j) (omega arith)) (λ l. here (omega (arith, l)))))

-- what a search among the records of a tail finds
abbrev pub FoundAt : Bytes → Rational → Option ℕ → Type 0
FoundAt tail q r =
    MatchOption r ((k : ℕ) → 0 ≤ k → k < count tail → eq_q (rational_of (record_of tail k)) q ≡ false)
    (λ i.
    (0 ≤ i) × (i < count tail) × (eq_q (rational_of (record_of tail i)) q ≡ true)
    × ((k : ℕ) → 0 ≤ k → k < i → eq_q (rational_of (record_of tail k)) q ≡ false))

pub first_in_tail :
    (tail : Bytes) (q : Rational) (r : Option ℕ) → FoundAt tail q r → (qs : List Rational) → Every Proper qs →
    tail ≡ tail_bytes qs → length qs ≤ 2048 → place_or r (length qs) ≡ place_in qs q
first_in_tail tail q r found qs proper e few = go r found
  where
    d : Rational
    d = whole (pos 0)

    all : count tail ≡ length qs
    all = omega (arith, few, ap length e, tail_bytes-length qs)

    test : (k : ℕ) → k < length qs → eq_q (rational_of (record_of tail k)) q ≡ eq_q (get_or qs k d) q
    test k h = ap (λ x. eq_q x q) (tail_number qs tail k d proper e few h)

    go : (r : Option ℕ) → FoundAt tail q r → place_or r (length qs) ≡ place_in qs q
    go None f =
        first_place qs q d (length qs) (omega arith)
        (λ j l. sym (test j l) ∙ f j (omega arith) (omega (arith, l, all))) (λ l. absurd (omega (arith, l)))
    go (Some i) f =
        first_place qs q d i (omega (arith, f.1, all))
        (λ j l. sym (test j (omega (arith, l, f.1, all))) ∙ f.3 j (omega arith) l) (λ l. sym (test i l) ∙ f.2)

pub tail_bound : (tail : Bytes) (q : Rational) (r : Option ℕ) → FoundAt tail q r → IfSome r (λ k. k < length tail / 32)
tail_bound tail q None f = tt
tail_bound tail q (Some i) f = omega (arith, f.1)
