-- The record of a real constant, as elaboration writes it, reads back as its number (`real_of`): two's complement in
-- eight bytes holds each part of a number in range. So it has the layout of a real constant (`real-layout`), its term is
-- that constant (`real-tree`), and its bytes stand nowhere in a book that lacks the constant (`real-new`), since an
-- earlier record of the same bytes would be the same constant. The records of a tail have 32 bytes each
-- (`tail_bytes-length`).
use mathlib.Core.Path.{◌≡◌, refl, sym, ap, ap₂, ◌∙◌}
use mathlib.Core.Bool.{true, false, ◌&&◌}
use mathlib.Core.List.{List, [], ◌∷◌, ◌++◌}
use Prim.Native.Nat.{ℕ, zero, suc, ◌+◌, ◌*◌, ◌/◌, ◌%◌, ◌^◌, ◌≤◌, ◌<◌}
use native.Mathlib.Nat.{pow-succ'}
use native.Mathlib.Omega.{arith}
use borrow.Author.Tests.{eq-eqb}
use lib.Dec.{eqb}
use lib.IntN.{ℤ, pos, negsuc, nat_abs}
use lib.ListN.{length, replicate}
use lib.Signed.{mag, lt_z}
use Rattle.numbers.specs.Rational.{Rational, Lowest, Proper, gcd, limit}
use Rattle.numbers.specs.Bytes.{Bytes, le, digits, signed, complement, bytes_of}
use Rattle.numbers.specs.Choice.{when◌then◌else◌}
use Rattle.terms.specs.Term.Term.{rational}
use Rattle.terms.specs.Book.{record_of, kind, field1, field2, rational_of, is_number, tree, all_zero, unused, layout_ok, stands}
use Rattle.numbers.proofs.Truths.{never, T_true}
use Rattle.numbers.proofs.Rationals.{eq_q-refl}
use Rattle.numbers.proofs.Ranges.{in_range_of_sizes}
use Rattle.numbers.proofs.LittleEndian.{le-inside, le-add, le_cons}
use Rattle.numbers.proofs.TwosComplement.{complement-below, signed-complement}
use Rattle.terms.proofs.Trees.{tree-node}
use Rattle.numbers.proofs.SameBytes.{same_bytes-false}
use Rattle.terms.proofs.Nodes.{node-rational}
use Rattle.out_areas.specs.Farkas.{real_record, is_real, tail_bytes}

-- ---- the bytes of a number

low_byte : (x : ℕ) (t : Bytes) → le 1 (x ∷ t) 0 ≡ x
unfolding digits
low_byte x t = le-inside 1 (x ∷ t) 0 (omega arith) ∙ omega arith

length-bytes_of : (n v : ℕ) (t : Bytes) → length (bytes_of n v ++ t) ≡ n + length t
unfolding bytes_of
length-bytes_of zero v t = omega arith
length-bytes_of (suc n) v t = omega (arith, length-bytes_of n (v / 256) t)

le-bytes_of : (n v : ℕ) (t : Bytes) → v < 256 ^ n → le n (bytes_of n v ++ t) 0 ≡ v
unfolding bytes_of digits
le-bytes_of zero v t h = le-inside 0 t 0 (omega arith) ∙ omega arith
le-bytes_of (suc n) v t h =
    let rest : Bytes = bytes_of n (v / 256) ++ t in
    let below : v < 256 * 256 ^ n = rw (← pow-succ' 256 n) h in
    let split : le (1 + n) (v % 256 ∷ rest) 0 ≡ le 1 (v % 256 ∷ rest) 0 + 256 ^ 1 * le n (v % 256 ∷ rest) 1 =
    le-add 1 n (v % 256 ∷ rest) 0 (omega (arith, length-bytes_of n (v / 256) t)) in
    let high : le n (v % 256 ∷ rest) 1 ≡ v / 256 =
    le_cons n (v % 256) rest 0 ∙ le-bytes_of n (v / 256) t (omega arith) in
    let one : 1 + n ≡ suc n = omega arith in
    rw one at split ∙ omega (arith, low_byte (v % 256) rest)

le-past-bytes_of : (m n v : ℕ) (t : Bytes) → le n (bytes_of m v ++ t) m ≡ le n t 0
unfolding bytes_of
le-past-bytes_of zero n v t = refl
le-past-bytes_of (suc m) n v t =
    le_cons n (v % 256) (bytes_of m (v / 256) ++ t) m ∙ le-past-bytes_of m n (v / 256) t

-- ---- the record of a constant

-- a constant that a record can hold: in lowest terms and in document 01's range
pub record Storable (q : Rational) : Type 0 where
  pub lowest : Lowest q
  pub proper : Proper q

-- none of the first n records is the constant q
abbrev pub Lacks : Bytes → ℕ → Rational → Type 0
Lacks b n q = (i : ℕ) → i < n → is_real q (tree b i) ≡ false

part-back : (z : ℤ) → nat_abs z ≤ limit → signed 8 (complement 8 z) ≡ z
part-back z h = signed-complement 8 z (small z h)
  where
    small : (z : ℤ) → nat_abs z ≤ limit → mag z < 256 ^ 8 / 2
    small (pos n) h = omega arith
    small (negsuc n) h = omega arith

module _ (q : Rational) where
  pub length-real : length (real_record q) ≡ 32
  unfolding real_record bytes_of
  length-real = refl

  real-kind : kind (real_record q) ≡ 2
  unfolding real_record
  real-kind = refl

  -- what follows the numerator
  den_bytes : Bytes
  den_bytes = bytes_of 8 (complement 8 q.den) ++ replicate 12 0

  past_head :
      (i : ℕ) →
      le 8 (real_record q) (suc (suc (suc (suc i)))) ≡ le 8 (bytes_of 8 (complement 8 q.num) ++ den_bytes) i
  unfolding real_record den_bytes
  past_head i = le_cons 8 2 _ _ ∙ le_cons 8 0 _ _ ∙ le_cons 8 0 _ _ ∙ le_cons 8 0 _ _

  real-field1 : field1 (real_record q) ≡ complement 8 q.num
  real-field1 = past_head 0 ∙ le-bytes_of 8 (complement 8 q.num) den_bytes (complement-below 8 q.num)

  real-field2 : field2 (real_record q) ≡ complement 8 q.den
  unfolding den_bytes
  real-field2 =
      past_head 8
      ∙ le-past-bytes_of 8 8 (complement 8 q.num) den_bytes
      ∙ le-bytes_of 8 (complement 8 q.den) (replicate 12 0) (complement-below 8 q.den)

  real-unused : (unused 3 (real_record q) 1 ≡ true) × (unused 12 (real_record q) 20 ≡ true)
  unfolding real_record bytes_of all_zero
  real-unused = (refl, refl)

  module _ (p : Proper q) where
    pub real_of : rational_of (real_record q) ≡ q
    real_of =
        ap₂ (λ (n d : ℤ). record { num = n; den = d })
        (ap (signed 8) real-field1 ∙ part-back q.num p.numerator)
        (ap (signed 8) real-field2 ∙ part-back q.den p.denominator)

    real_is_number : is_number (rational_of (real_record q)) ≡ true
    real_is_number =
        ap is_number real_of
        ∙ ap₂ ◌&&◌
        (in_range_of_sizes q p.numerator p.denominator)
        (T_true (lt_z (pos 0) q.den) p.positive.lt)

    pub real-tree : (c : Bytes) (i : ℕ) → record_of c i ≡ real_record q → tree c i ≡ rational i q
    real-tree c i e =
        tree-node c i
        ∙ node-rational i (record_of c i) _ (rw e real-kind) (rw e real_is_number)
        ∙ ap (λ (r : Bytes). rational i (rational_of r)) e
        ∙ ap (rational i) real_of

    -- no record of a book that lacks the constant has its bytes
    pub real-new : (c : Bytes) (n : ℕ) → Lacks c n q → stands n c (real_record q) ≡ false
    unfolding stands
    real-new c zero lacks = refl
    real-new c (suc n) lacks =
        rw (real-new c n (λ i h. lacks i (omega arith)), stands)
        (same_bytes-false (record_of c n) (real_record q) other)
      where
        other : record_of c n ≡ real_record q → ⊥
        other e = never (sym (lacks n (omega arith)) ∙ ap (is_real q) (real-tree c n e) ∙ eq_q-refl q)

  pub real-layout : Storable q → (i : ℕ) → layout_ok i (real_record q) ≡ true
  unfolding layout_ok when◌then◌else◌
  real-layout s i =
      rw (real-kind, real-unused.0, real-unused.1, real_is_number s.proper)
      (ap (λ (x : Rational). eqb (gcd (nat_abs x.num) (nat_abs x.den)) 1) (real_of s.proper)
      ∙ eq-eqb _ 1 s.lowest.coprime)

-- ---- the records of a tail

pub tail_bytes-length : (qs : List Rational) → length (tail_bytes qs) ≡ 32 * length qs
unfolding tail_bytes real_record bytes_of
tail_bytes-length [] = refl
tail_bytes-length (q ∷ qs) = omega (arith, tail_bytes-length qs)
