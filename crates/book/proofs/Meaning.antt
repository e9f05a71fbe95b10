-- The value of a well_formed term is of the term's sort (`value_of_sort`), where each div of two numbers comes out even. Every
-- operator gives a value of the right kind; an Int is whole since sums, differences and products of whole numbers are, and a
-- bit-vector is taken modulo 2^width.
use mathlib.Core.Path.{◌≡◌, refl, subst}
use mathlib.Core.Bool.{Bool, true, false, ◌&&◌}
use mathlib.Core.List.{List, [], ◌∷◌}
use Rattle.std.specs.Prelude.{Option, Some, None}
use Prim.Native.Nat.{ℕ, ◌+◌, ◌^◌, ◌<◌}
use native.Mathlib.Nat.{mod-lt}
use native.Mathlib.Omega.{arith}
use borrow.Author.Tests.{eqb-true}
use lib.IntN.{ℤ}
use lib.Pow.{pow_pos}
use Rattle.numbers.specs.Bytes.{Bytes}
use Rattle.numbers.specs.Pair.{Pair, add_p, mul_p, div_p}
use Rattle.numbers.specs.Rational as Rational
use Rattle.numbers.specs.Rational.{is_integer, div_q, modulo}
use Rattle.terms.specs.Operator.{IntDiv}
use Rattle.terms.specs.Term.{Sort, Term, Terms, sort, sorts, same_sort, is_bits, all, first, takes, gives, unary, binary}
use Rattle.numbers.specs.Choice.{when◌then◌else◌}
use Rattle.terms.specs.Term.Sort.{bool, int, real, bits}
use Rattle.terms.specs.Term.Term.{integer, rational, bitvector, atom, op}
use Rattle.terms.specs.Term.Terms.{nil, ◌▹◌}
use Rattle.terms.specs.Readers.{unbounded, as_number, as_signed_number, quotient_of, as_unsigned_fraction, as_fraction}
use Rattle.terms.specs.Book.{tree, read_book}
use Rattle.terms.specs.Smtlib.{Meant, truth, number, vector, Assignment, given, as_pair, OfSort, width_of, reduce}
use Rattle.terms.specs.Smtlib.{minus, first_of, sum_z, product_z, difference_z, opposite_z, div_m, divisor, real_div_m}
use Rattle.terms.specs.Smtlib.{meaning, value, values, even, even_div, divs_even, all_divs_even}
use Rattle.numbers.proofs.Rationals.{whole-value, is_integer-whole}
use Rattle.numbers.proofs.Truths.{both, never}
use Rattle.numbers.proofs.Modulo.{modulo_lt, two_pow_pos}
use Rattle.book.proofs.WellFormed.{WellFormed, AllWellFormed, Operation, well_formed}
use Rattle.terms.proofs.Readings.{Quotient, quotient, not-number}
use Rattle.terms.proofs.Operators.{by_operator}
use Rattle.terms.proofs.Whole.{Whole, AllWhole, whole_sum, whole-product, whole-minus}
use Rattle.std.specs.Prelude.{Ok, Err}
use Rattle.terms.specs.Readers.{Reading}
use Rattle.terms.specs.declared.term.NotRead.TheVariants.{NotNumber, OutOfRange}

-- ---- values of Int arguments are whole

abbrev pub AllOfSort : List Sort → List Meant → Type 0
AllOfSort [] [] = Unit {0}
AllOfSort [] (v ∷ vs) = ⊥
AllOfSort (s ∷ ss) [] = ⊥
AllOfSort (s ∷ ss) (v ∷ vs) = OfSort s v × AllOfSort ss vs

is_int : (s : Sort) → same_sort int s ≡ true → s ≡ int
is_int bool e = cc
is_int int e = refl
is_int real e = cc
is_int (bits w) e = absurd (omega (arith, eqb-true 2 (3 + w) e))

whole_of_int : (v : Meant) → OfSort int v → Whole (as_pair v)
whole_of_int (truth t) h = absurd h
whole_of_int (number p) h = h
whole_of_int (vector n) h = absurd h

all_whole : (ss : List Sort) (vs : List Meant) → AllOfSort ss vs → all (same_sort int) ss ≡ true → AllWhole vs
unfolding all
all_whole [] [] h e = tt
all_whole [] (v ∷ vs) h e = absurd h
all_whole (s ∷ ss) [] h e = absurd h
all_whole (s ∷ ss) (v ∷ vs) h e =
    let k = both (same_sort int s) (all (same_sort int) ss) e in
    (whole_of_int v (subst (λ (s : Sort). OfSort s v) (is_int s k.0) h.0), all_whole ss vs h.1 k.1)

-- a number is of sort Int where all arguments are and then it is whole, and else of sort Real
number_of_sort : (t : Bool) (p : Pair) → (t ≡ true → Whole p) → OfSort (when t then int else real) (number p)
unfolding when◌then◌else◌
number_of_sort true p h = h refl
number_of_sort false p h = tt

-- ---- bit-vectors

vector_of_sort :
    (ts : Terms) (z : ℤ) → is_bits (first (sorts ts)) ≡ true →
    OfSort (first (sorts ts)) (vector (modulo z (2 ^ width_of ts)))
unfolding sorts
vector_of_sort nil z e = never e
vector_of_sort (t ▹ ts) z e = go (sort t) e
  where
    go :
        (s : Sort) → is_bits s ≡ true →
        OfSort s (vector (modulo z (2 ^ (elim s as (λ x. ℕ) [ bool ↦ 0 | int ↦ 0 | real ↦ 0 | bits w ↦ w ]))))
    go bool e = never e
    go int e = never e
    go real e = never e
    go (bits w) e = modulo_lt (2 ^ w) (two_pow_pos w) z

-- ---- div

div-whole :
    (a b : Term) (q : Rational.Rational) → Quotient a b q →
    even (as_signed_number a) (as_signed_number b) ≡ true → Whole (Rational.value q)
div-whole a b q h e =
    let even : is_integer (div_q h.dividend h.divisor) ≡ true = rw (h.above, h.below, h.nonzero) at e in
    let same = is_integer-whole q (rw h.is at even) in
    (q.num, rw same (whole-value q.num))

div-reading-whole :
    (i : ℕ) (ts : Terms) (q : Rational.Rational) → as_fraction unbounded (op i IntDiv ts) ≡ Ok q →
    even_div IntDiv ts ≡ true → Whole (Rational.value q)
unfolding as_fraction as_unsigned_fraction quotient_of unary binary as_number
div-reading-whole i nil q f e = not-number f
div-reading-whole i (a ▹ nil) q f e = not-number f
div-reading-whole i (a ▹ b ▹ nil) q f e = div-whole a b q (quotient a b q f) e
div-reading-whole i (a ▹ b ▹ c ▹ ts) q f e = not-number f

div_of_sort :
    (ρ : Assignment) (i : ℕ) (ts : Terms) → even_div IntDiv ts ≡ true → OfSort int (div_m ρ i ts (values ρ ts))
div_of_sort ρ i ts e = go (as_fraction unbounded (op i IntDiv ts)) refl
  where
    go :
        (r : Reading) → as_fraction unbounded (op i IntDiv ts) ≡ r →
        OfSort int (elim r as (λ x. Meant) [ Ok q ↦ number (Rational.value q) | Err NotNumber ↦ given ρ i int | Err OutOfRange ↦ given ρ i int ])
    go (Ok q) f = div-reading-whole i ts q f e
    go (Err NotNumber) f = (ρ.integers i, refl)
    go (Err OutOfRange) f = (ρ.integers i, refl)

real-div_of_sort : (ρ : Assignment) (i : ℕ) (ts : Terms) → OfSort real (real_div_m ρ i ts (values ρ ts))
real-div_of_sort ρ i ts = go (divisor ts)
  where
    go :
        (o : Option Rational.Rational) →
        OfSort real (elim o as (λ x. Meant) [ Some q ↦ number (div_p (as_pair (first_of (values ρ ts))) (Rational.value q)) | None ↦ given ρ i real ])
    go (Some q) = tt
    go None = tt

-- ---- every operator

operation_of_sort :
    (ρ : Assignment) (i : ℕ) (ts : Terms) → AllOfSort (sorts ts) (values ρ ts) → (o : ℕ) →
    Operation o (sorts ts) → even_div o ts ≡ true →
    OfSort (gives o (sorts ts)) (meaning o ρ i ts (values ρ ts))
unfolding gives takes meaning when◌then◌else◌
operation_of_sort ρ i ts h o w =
    by_operator (λ o. takes o (sorts ts) ≡ true → even_div o ts ≡ true → OfSort (gives o (sorts ts)) (meaning o ρ i ts (values ρ ts))) o w.least w.most
    (λ t e. tt) (λ t e. tt) (λ t e. tt) (λ t e. tt) (λ t e. tt) (λ t e. tt) (λ t e. tt) (λ t e. tt)
    (λ t e. arithmetic (reduce add_p vs) (whole_sum vs)) (λ t e. arithmetic (minus vs) (whole-minus vs)) (λ t e. arithmetic (reduce mul_p vs) (whole-product vs))
    (λ t e. div_of_sort ρ i ts e) (λ t e. real-div_of_sort ρ i ts) (λ t e. tt)
    (λ t e. vectors (sum_z vs) t) (λ t e. vectors (difference_z vs) t) (λ t e. vectors (opposite_z vs) t) (λ t e. vectors (product_z vs) t) w.sorted
  where
    vs : List Meant
    vs = values ρ ts

    arithmetic :
        (p : Pair) → (AllWhole (values ρ ts) → Whole p) →
        OfSort (when all (same_sort int) (sorts ts) then int else real) (number p)
    arithmetic p f = number_of_sort (all (same_sort int) (sorts ts)) p (λ e. f (all_whole (sorts ts) (values ρ ts) h e))

    vectors :
        (z : ℤ) → (is_bits (first (sorts ts)) && all (same_sort (first (sorts ts))) (sorts ts)) ≡ true →
        OfSort (first (sorts ts)) (vector (modulo z (2 ^ width_of ts)))
    vectors z t = vector_of_sort ts z (both (is_bits (first (sorts ts))) _ t).0

-- ---- every term

atom_of_sort : (ρ : Assignment) (i : ℕ) (s : Sort) → OfSort s (given ρ i s)
atom_of_sort ρ i bool = tt
atom_of_sort ρ i int = (ρ.integers i, refl)
atom_of_sort ρ i real = tt
atom_of_sort ρ i (bits w) = mod-lt (ρ.vectors i) (pow_pos w)

mutual
  unfolding WellFormed divs_even sort value

  pub value_of_sort :
      (t : Term) → WellFormed t → divs_even t ≡ true → (ρ : Assignment) → OfSort (sort t) (value ρ t)
  value_of_sort (integer i v) w e ρ = (v, refl)
  value_of_sort (rational i q) w e ρ = tt
  value_of_sort (bitvector i v n) w e ρ = w.below
  value_of_sort (atom i s n) w e ρ = atom_of_sort ρ i s
  value_of_sort (op i o ts) (w, ws) e ρ =
      let h = both (even_div o ts) (all_divs_even ts) e in
      operation_of_sort ρ i ts (values_of_sort ts ws h.1 ρ) o w h.0

  pub values_of_sort :
      (ts : Terms) → AllWellFormed ts → all_divs_even ts ≡ true → (ρ : Assignment) →
      AllOfSort (sorts ts) (values ρ ts)
  values_of_sort nil w e ρ = tt
  values_of_sort (t ▹ ts) (w, ws) e ρ =
      let h = both (divs_even t) (all_divs_even ts) e in
      (value_of_sort t w h.0 ρ, values_of_sort ts ws h.1 ρ)

-- every term of a book that is read without a refusal
pub record_of_sort :
    (b : Bytes) (n : ℕ) → read_book b ≡ Ok n → (i : ℕ) → i < n → divs_even (tree b i) ≡ true →
    (ρ : Assignment) → OfSort (sort (tree b i)) (value ρ (tree b i))
record_of_sort b n r i h = value_of_sort (tree b i) (well_formed b n r i h)
