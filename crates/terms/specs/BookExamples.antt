-- A book of twenty records with every kind of record: its sorts, what the readers find, and values under an assignment,
-- worked out by the checker. Then books that are refused, one for each half sentence of document 01's 'The book of
-- terms'.
use Rattle.std.specs.Prelude.{◌≡◌, refl, Bool, true, false, ◌&&◌, cond, List, [], ◌∷◌, ◌++◌, ℕ, zero, suc, ◌+◌, eqb}
use Rattle.std.specs.Prelude.{ℤ, pos, negsuc, length, replicate, set}
use Rattle.std.specs.Prelude.{Some}
use Rattle.std.proofs.Common.{zero-lt-suc}
use Rattle.numbers.specs.Pair.{pair, eq_p}
use Rattle.numbers.specs.Rational.{frac, whole, gcd, gcd_within, lowest, div_q, neg_q, is_zero, is_integer, in_range}
use Rattle.numbers.specs.Rational as Rational
use Rattle.numbers.specs.Bytes.{Bytes, le, digits, put, put_digits, signed, complement}
use Rattle.terms.specs.Operator.{Not, And, Equals, LessThan, Add, Sub, IntDiv, RealDiv, ToReal, BvAdd, BvNeg}
use Rattle.terms.specs.Term.{sort, sorts, sort_code, takes, gives, all, unary, binary}
use Rattle.numbers.specs.Choice.{when◌then◌else◌}
use Rattle.terms.specs.Book.{record_of, numbers, arguments, node, forest, tree_within, tree, all_zero, count_ok}
use Rattle.terms.specs.Book.{all_below, layout_ok, stands, record_read, read_records, read_book, refusal_of}
use Rattle.numbers.specs.Bytes.{same_bytes}
use Rattle.terms.specs.Book.{records_read}
use Rattle.terms.specs.Readers.{as_number, as_signed_number, quotient_of, as_unsigned_fraction, as_fraction}
use Rattle.terms.specs.Readers.{as_bitvector}
use Rattle.terms.specs.Readers.{remove_negation, bounded, ranged}
use Rattle.terms.specs.Smtlib.{Assignment, as_pair, value, meaning, every, any, chain, fold_left, sum_z, product_z}
use Rattle.terms.specs.Smtlib.{divs_even}
use Rattle.terms.specs.Book.{BookRead}
use Rattle.std.specs.Prelude.{Ok, Err}
use Rattle.terms.specs.Readers.{Reading}
use Rattle.terms.specs.declared.term.NotRead.TheVariants.{NotNumber}

-- ---- records from their parts

unfoldable pub blank : ℕ → Bytes
blank k = set (replicate 32 0) 0 k

unfoldable pub integer_record : ℤ → Bytes
integer_record z = put 8 (complement 8 z) (blank 1) 4

unfoldable pub real_record : ℤ → ℤ → Bytes
real_record n d = put 8 (complement 8 d) (put 8 (complement 8 n) (blank 2) 4) 12

unfoldable pub vector_record : ℕ → ℕ → Bytes
vector_record v w = put 8 w (put 8 v (blank 3) 4) 12

-- sort, name, width
unfoldable pub atom_record : ℕ → ℕ → ℕ → Bytes
atom_record s n w = put 8 w (put 8 n (set (blank 4) 3 s) 4) 12

unfoldable pub put_args : List ℕ → Bytes → ℕ → Bytes
put_args [] r k = r
put_args (a ∷ l) r k = put_args l (put 2 a r k) (k + 2)

unfoldable pub operation_record : ℕ → List ℕ → Bytes
operation_record o args = put_args args (set (set (blank 5) 1 o) 2 (length args)) 4

unfoldable pub joined : List Bytes → Bytes
joined [] = []
joined (r ∷ rs) = r ++ joined rs

-- ---- the book

book : Bytes
book =
    joined
    (atom_record 2 7 0  -- 0: x
    ∷ atom_record 3 8 0  -- 1: u
    ∷ atom_record 1 9 0  -- 2: p
    ∷ atom_record 4 10 8  -- 3: v
    ∷ integer_record (pos 3)  -- 4
    ∷ integer_record (negsuc 6)  -- 5: -7
    ∷ real_record (pos 1) (pos 2)  -- 6
    ∷ vector_record 128 8  -- 7
    ∷ operation_record Add (0 ∷ 4 ∷ [])  -- 8: (+ x 3)
    ∷ operation_record LessThan (8 ∷ 1 ∷ [])  -- 9: (< (+ x 3) u)
    ∷ operation_record Not (9 ∷ [])  -- 10
    ∷ operation_record Sub (4 ∷ [])  -- 11: (- 3)
    ∷ operation_record RealDiv (11 ∷ 6 ∷ [])  -- 12: (/ (- 3) 1/2)
    ∷ operation_record BvAdd (3 ∷ 7 ∷ [])  -- 13: (bvadd v #x80)
    ∷ operation_record Equals (0 ∷ 1 ∷ [])  -- 14: (= x u)
    ∷ operation_record And (2 ∷ 14 ∷ [])  -- 15: (and p (= x u))
    ∷ operation_record IntDiv (5 ∷ 4 ∷ [])  -- 16: (div (- 7) 3)
    ∷ operation_record Sub (11 ∷ [])  -- 17: (- (- 3))
    ∷ operation_record RealDiv (0 ∷ 11 ∷ [])  -- 18: (/ x (- 3))
    ∷ operation_record IntDiv (0 ∷ 4 ∷ [])  -- 19: (div x 3)
    ∷ [])

-- one name that opens all that computing with a book goes through
unfoldable pub reads : Unit {0}
unfolding blank integer_record real_record vector_record atom_record put_args operation_record joined put put_digits
    complement le digits signed in_range gcd gcd_within lowest div_q neg_q is_zero is_integer record_of numbers
    arguments node forest tree_within tree all_zero count_ok all_below layout_ok same_bytes stands record_read
    read_records read_book sort sorts takes gives all when◌then◌else◌ unary binary as_number as_signed_number
    quotient_of as_unsigned_fraction as_fraction as_bitvector remove_negation bounded
reads = tt

unfoldable sorts_of : ℕ → Bytes → ℕ → List ℕ
sorts_of zero b i = []
sorts_of (suc n) b i = sort_code (sort (tree b i)) ∷ sorts_of n b (suc i)

it_is_a_book : read_book book ≡ Ok 20
unfolding reads book
it_is_a_book = refl

its_sorts : sorts_of 20 book 0 ≡ 2 ∷ 3 ∷ 1 ∷ 11 ∷ 2 ∷ 2 ∷ 3 ∷ 11 ∷ 2 ∷ 1 ∷ 1 ∷ 2 ∷ 3 ∷ 11 ∷ 1 ∷ 1 ∷ 2 ∷ 2 ∷ 3 ∷ 2 ∷ []
unfolding reads book sorts_of
its_sorts = refl

-- ---- the readers: (- 3) and the fractions are read, (- (- 3)) and what holds an atom are not

reading : ℕ → Reading
unfolding reads
reading i = as_fraction ranged (tree book i)

abbrev readings : List ℕ → List Reading
readings [] = []
readings (i ∷ l) = reading i ∷ readings l

what_is_read :
    readings (4 ∷ 5 ∷ 6 ∷ 7 ∷ 11 ∷ 12 ∷ 16 ∷ 17 ∷ 18 ∷ [])
    ≡ Ok (whole (pos 3)) ∷ Ok (whole (negsuc 6)) ∷ Ok (frac (pos 1) (pos 2)) ∷ Err NotNumber
    ∷ Ok (whole (negsuc 2)) ∷ Ok (whole (negsuc 5)) ∷ Ok (frac (negsuc 6) (pos 3)) ∷ Err NotNumber ∷ Err NotNumber ∷ []
unfolding reads book reading
what_is_read = refl

bits-are-read : as_bitvector (tree book 7) ≡ Some (128, 8)
unfolding reads book
bits-are-read = refl

negation_is_removed : remove_negation (tree book 10) ≡ Some (tree book 9)
unfolding reads book
negation_is_removed = refl

-- ---- values: x is 5, u is 17/2, p is true, v is 200, and (div x 3) is given 1

ρ : Assignment
ρ =
    record {
      truths = λ i. true;
      integers = λ i. cond (eqb i 0) (pos 5) (pos 1);
      reals = λ i. pair (pos 17) 2 (zero-lt-suc 1);
      vectors = λ i. 200;
    }

-- a record and its value n / (1 + d), as a number
abbrev Row : Type 0
Row = ℕ × ℤ × ℕ

abbrev agrees : Row → Bool
agrees x = eq_p (as_pair (value ρ (tree book x.0))) (pair x.1 (suc x.2) (zero-lt-suc x.2))

abbrev all_agree : List Row → Bool
all_agree [] = true
all_agree (x ∷ l) = agrees x && all_agree l

its_values : List Row
its_values =
    (8, pos 8, 0)  -- 5 + 3
    ∷ (9, pos 1, 0)  -- 8 < 17/2
    ∷ (10, pos 0, 0)
    ∷ (11, negsuc 2, 0)
    ∷ (12, negsuc 5, 0)  -- -3 over 1/2
    ∷ (13, pos 72, 0)  -- 200 + 128 modulo 256
    ∷ (14, pos 0, 0)  -- 5 is not 17/2
    ∷ (15, pos 0, 0)
    ∷ (16, negsuc 6, 2)  -- the exact quotient, -7/3
    ∷ (17, pos 3, 0)
    ∷ (18, negsuc 4, 2)  -- 5 over -3
    ∷ (19, pos 1, 0)  -- as given
    ∷ []

values_agree : all_agree its_values ≡ true
unfolding reads book its_values ρ value meaning every any chain fold_left sum_z product_z Rational.value
values_agree = refl

-- -7 over 3 does not come out even
uneven : divs_even (tree book 16) ≡ false
unfolding reads book divs_even
uneven = refl

-- ---- refusals: a book of records, document 01's number and the record that is refused, or how many there are

abbrev Case : Type 0
Case = List Bytes × ℕ × ℕ

abbrev answers : BookRead → ℕ → ℕ → Bool
answers r c i = eqb (refusal_of r) c && eqb (records_read r) i

abbrev all_answer : List Case → Bool
all_answer [] = true
all_answer (x ∷ l) = answers (read_book (joined x.0)) x.1 x.2 && all_answer l

x : Bytes
x = atom_record 2 0 0

p : Bytes
p = atom_record 1 0 0

u : Bytes
u = atom_record 3 0 0

cases : List Case
unfolding reads x p u
cases =
    -- an empty book is one, a record that is not whole is 2
    ([], 0, 0)
    ∷ ((0 ∷ []) ∷ [], 2, 0)
    ∷ (x ∷ (0 ∷ []) ∷ [], 2, 0)
    -- kinds
    ∷ (blank 0 ∷ [], 3, 0)
    ∷ (blank 6 ∷ [], 3, 0)
    -- integers: the range, and unused bytes
    ∷ (integer_record (pos 2147483647) ∷ [], 0, 1)
    ∷ (integer_record (pos 2147483648) ∷ [], 3, 0)
    ∷ (integer_record (negsuc 2147483646) ∷ [], 0, 1)
    ∷ (integer_record (negsuc 2147483647) ∷ [], 3, 0)
    ∷ (set (integer_record (pos 1)) 1 1 ∷ [], 3, 0)
    ∷ (set (integer_record (pos 1)) 12 1 ∷ [], 3, 0)
    ∷ (set (integer_record (pos 1)) 31 1 ∷ [], 3, 0)
    -- reals: lowest terms, a denominator from 1 to 2147483647
    ∷ (real_record (pos 1) (pos 2) ∷ [], 0, 1)
    ∷ (real_record (pos 2) (pos 4) ∷ [], 3, 0)
    ∷ (real_record (pos 0) (pos 2) ∷ [], 3, 0)
    ∷ (real_record (pos 1) (pos 0) ∷ [], 3, 0)
    ∷ (real_record (pos 1) (negsuc 1) ∷ [], 3, 0)
    ∷ (real_record (pos 1) (pos 2147483648) ∷ [], 3, 0)
    ∷ (set (real_record (pos 1) (pos 2)) 20 1 ∷ [], 3, 0)
    -- bit-vectors: widths 1 to 30, a value below 2^width
    ∷ (vector_record 255 8 ∷ [], 0, 1)
    ∷ (vector_record 256 8 ∷ [], 3, 0)
    ∷ (vector_record 0 0 ∷ [], 3, 0)
    ∷ (vector_record 0 31 ∷ [], 3, 0)
    ∷ (vector_record 18446744073709551615 8 ∷ [], 3, 0)
    -- atoms: sorts 1 to 4, a width for sort 4 alone
    ∷ (atom_record 0 0 0 ∷ [], 3, 0)
    ∷ (atom_record 5 0 0 ∷ [], 3, 0)
    ∷ (atom_record 2 0 8 ∷ [], 3, 0)
    ∷ (atom_record 4 0 0 ∷ [], 3, 0)
    ∷ (atom_record 4 18446744073709551615 30 ∷ [], 0, 1)
    -- operations: operators 1 to 18, their counts, arguments before the record, unused bytes
    ∷ (x ∷ operation_record 0 (0 ∷ 0 ∷ []) ∷ [], 3, 1)
    ∷ (x ∷ operation_record 19 (0 ∷ 0 ∷ []) ∷ [], 3, 1)
    ∷ (p ∷ operation_record Not (0 ∷ 0 ∷ []) ∷ [], 3, 1)
    ∷ (x ∷ operation_record ToReal (0 ∷ 0 ∷ []) ∷ [], 3, 1)
    ∷ (x ∷ operation_record IntDiv (0 ∷ []) ∷ [], 3, 1)
    ∷ (x ∷ operation_record RealDiv (0 ∷ 0 ∷ 0 ∷ []) ∷ [], 3, 1)
    ∷ (x ∷ operation_record Sub [] ∷ [], 3, 1)
    ∷ (x ∷ operation_record Sub (0 ∷ []) ∷ [], 0, 2)
    ∷ (x ∷ operation_record Add (0 ∷ []) ∷ [], 3, 1)
    ∷ (x ∷ operation_record Add (replicate 14 0) ∷ [], 0, 2)
    ∷ (x ∷ set (operation_record Add (replicate 14 0)) 2 15 ∷ [], 3, 1)
    ∷ (x ∷ operation_record Add (0 ∷ 1 ∷ []) ∷ [], 3, 1)
    ∷ (x ∷ operation_record Add (0 ∷ 2 ∷ []) ∷ [], 3, 1)
    ∷ (x ∷ set (operation_record Add (0 ∷ 0 ∷ [])) 3 2 ∷ [], 3, 1)
    ∷ (x ∷ set (operation_record Add (0 ∷ 0 ∷ [])) 8 1 ∷ [], 3, 1)
    -- sorts
    ∷ (p ∷ x ∷ operation_record Add (0 ∷ 1 ∷ []) ∷ [], 4, 2)
    ∷ (x ∷ operation_record Not (0 ∷ []) ∷ [], 4, 1)
    ∷ (p ∷ x ∷ operation_record Equals (0 ∷ 1 ∷ []) ∷ [], 4, 2)
    ∷ (x ∷ u ∷ operation_record Equals (0 ∷ 1 ∷ []) ∷ [], 0, 3)
    ∷ (x ∷ u ∷ operation_record IntDiv (0 ∷ 1 ∷ []) ∷ [], 4, 2)
    ∷ (x ∷ u ∷ operation_record RealDiv (0 ∷ 1 ∷ []) ∷ [], 0, 3)
    ∷ (vector_record 0 8 ∷ vector_record 0 4 ∷ operation_record Equals (0 ∷ 1 ∷ []) ∷ [], 4, 2)
    ∷ (vector_record 0 8 ∷ vector_record 0 4 ∷ operation_record BvAdd (0 ∷ 1 ∷ []) ∷ [], 4, 2)
    ∷ (vector_record 0 8 ∷ operation_record LessThan (0 ∷ 0 ∷ []) ∷ [], 4, 1)
    ∷ (x ∷ operation_record BvNeg (0 ∷ []) ∷ [], 4, 1)
    -- equality; and of two refusals of one record the lower, of two records the first
    ∷ (integer_record (pos 1) ∷ integer_record (pos 1) ∷ [], 5, 1)
    ∷ (x ∷ p ∷ x ∷ blank 6 ∷ [], 5, 2)
    ∷ (p ∷ operation_record Add (0 ∷ 0 ∷ []) ∷ blank 6 ∷ [], 4, 1)
    ∷ []

refusals : all_answer cases ≡ true
unfolding reads cases
refusals = refl
