-- The Rust's readers of terms, src/ast/term.rs. A quotient can leave the range of numbers, so `as_fraction` is read
-- under a bound: document 01's, or none, which is the Rust.
use Rattle.std.specs.Prelude.{◌≡◌, Bool, true, false, ◌&&◌, cond, ℕ, ◌/◌, ◌<◌, leb, eqb, nat_abs, length}
use Rattle.std.specs.Prelude.{Option, Some, None}
use Rattle.numbers.specs.Rational.{Rational, whole, div_q, neg_q, is_zero, limit, Proper}
use Rattle.terms.specs.Format.{operation_kind}
use Rattle.terms.specs.Operator.{Not, Sub, IntDiv, RealDiv}
use Rattle.terms.specs.Term.{Term, Terms, unary, binary}
use Rattle.terms.specs.Term.Term.{integer, rational, bitvector, atom, op}
use Rattle.terms.specs.Term.Terms.{nil}
use Rattle.numbers.specs.Bytes.{Bytes}
use Rattle.terms.specs.Book.{record_of, kind, operator, numbers, arg_bytes, arguments, forest, tree, height}
use Rattle.std.specs.Prelude.{Result, Ok, Err}
use Rattle.terms.specs.declared.term.NotRead.{NotRead}
use Rattle.terms.specs.declared.term.NotRead.TheVariants.{NotNumber, OutOfRange}

-- ---- the range of numbers

pub data Bound : Type 0 where
  unbounded : Bound
  at_most : ℕ → Bound

abbrev pub within : Bound → ℕ → Bool
within unbounded n = true
within (at_most m) n = leb n m

-- document 01's range
abbrev pub ranged : Bound
ranged = at_most limit

-- what a reader finds in a term: a number, or why there is none
abbrev pub Reading : Type 0
Reading = Result Rational NotRead

-- a number, or refusal 11
unfoldable pub bounded : Bound → Rational → Reading
bounded l q = cond (within l (nat_abs q.num) && within l (nat_abs q.den)) (Ok q) (Err OutOfRange)

-- ---- the readers

unfoldable pub as_number : Term → Reading
as_number (integer i v) = Ok (whole v)
as_number (rational i q) = Ok q
as_number (bitvector i v w) = Err NotNumber
as_number (atom i s n) = Err NotNumber
as_number (op i o ts) = Err NotNumber

-- `map(|r| -r)`; a number in range has its negation in range
abbrev pub negated : Reading → Reading
negated (Ok q) = Ok (neg_q q)
negated (Err e) = Err e

unfoldable pub as_signed_number : Term → Reading
as_signed_number t = elim (unary Sub t) [ Some x ↦ negated (as_number x) | None ↦ as_number t ]

-- (div a b) or (/ a b)
unfoldable pub quotient_of : Term → Option (Term × Term)
quotient_of t = elim (binary IntDiv t) [ Some p ↦ Some p | None ↦ binary RealDiv t ]

-- a over a divisor that is read already; a signed number is never out of range
abbrev pub over : Bound → Reading → Rational → Reading
over l (Ok n) d = bounded l (div_q n d)
over l (Err NotNumber) d = Err NotNumber
over l (Err OutOfRange) d = Err NotNumber

-- a divisor 0 is not read
abbrev pub divided : Bound → Term → Reading → Reading
divided l a (Ok d) = elim (is_zero d) [ true ↦ Err NotNumber | false ↦ over l (as_signed_number a) d ]
divided l a (Err NotNumber) = Err NotNumber
divided l a (Err OutOfRange) = Err NotNumber

unfoldable pub as_unsigned_fraction : Bound → Term → Reading
as_unsigned_fraction l t = elim (quotient_of t) [ Some p ↦ divided l p.0 (as_signed_number p.1) | None ↦ as_number t ]

unfoldable pub as_fraction : Bound → Term → Reading
as_fraction l t = elim (unary Sub t) [ Some x ↦ negated (as_unsigned_fraction l x) | None ↦ as_unsigned_fraction l t ]

-- value and width
unfoldable pub as_bitvector : Term → Option (ℕ × ℕ)
as_bitvector (integer i v) = None
as_bitvector (rational i q) = None
as_bitvector (bitvector i v w) = Some (v, w)
as_bitvector (atom i s n) = None
as_bitvector (op i o ts) = None

-- operator and arguments; 0 is no operator
unfoldable pub as_op : Term → Option (ℕ × Terms)
as_op (integer i v) = None
as_op (rational i q) = None
as_op (bitvector i v w) = None
as_op (atom i s n) = None
as_op (op i o ts) = Some (o, ts)

abbrev pub operator_of : Term → ℕ
operator_of t = elim (as_op t) [ Some p ↦ p.0 | None ↦ 0 ]

abbrev pub arguments_of : Term → Terms
arguments_of t = elim (as_op t) [ Some p ↦ p.1 | None ↦ nil ]

-- x of (not x)
unfoldable pub remove_negation : Term → Option Term
remove_negation t = unary Not t

-- ---- what the code's readers promise

-- Document 01's number for each case, where a number is asked for: 25 is `ExpectedAnyNumber`, 11 'number range', 0 no
-- refusal. A rule that does not ask for one takes a term that is no number for an atom.
abbrev pub reading_refusal : Reading → ℕ
reading_refusal (Ok q) = 0
reading_refusal (Err NotNumber) = 25
reading_refusal (Err OutOfRange) = 11

-- r is the definition's reading, with its number
pub record Finds (r a : Reading) : Type 0 where
  pub is : r ≡ a
  pub number : reading_refusal r ≡ reading_refusal a
  pub proper : (q : Rational) → r ≡ Ok q → Proper q

-- likewise where a bit-vector is asked for: 41 is `ExpectedBitvector`
abbrev pub vector_refusal : Option (ℕ × ℕ) → ℕ
vector_refusal (Some (v, w)) = 0
vector_refusal None = 41

pub record FindsVector (r a : Option (ℕ × ℕ)) : Type 0 where
  pub is : r ≡ a
  pub number : vector_refusal r ≡ vector_refusal a

-- the part of a book that holds the arguments of record i
pub record ArgumentPart (b : Bytes) (i : ℕ) (part : Bytes) : Type 0 where
  -- its bytes: those of the record from byte 4 on, two for each argument; none where the record is no operation or is
  -- not there
  pub is : part ≡ arg_bytes (record_of b i)
  -- the terms that they stand for
  pub terms : forest (tree b) (arguments i (numbers part)) ≡ arguments_of (tree b i)

-- the part of record r that holds the n arguments of operator o; none where the record is no such operation
abbrev pub operands : Bytes → ℕ → ℕ → Option Bytes
operands r o n =
    cond (eqb (kind r) operation_kind && (eqb o (operator r) && eqb (length (arg_bytes r) / 2) n))
    (Some (arg_bytes r)) None

-- The terms that record numbers stand for. None is no refusal: what a rule makes of a term of another form is the
-- rule's own (`TermOfWrongForm` and others).
abbrev pub found : Bytes → Option ℕ → Option Term
found b (Some x) = Some (tree b x)
found b None = None

abbrev pub found_two : Bytes → Option (ℕ × ℕ) → Option (Term × Term)
found_two b (Some (x, y)) = Some (tree b x, tree b y)
found_two b None = None

-- r stands for the definition's term, which lies deeper
pub record Child (b : Bytes) (i : ℕ) (r : Option ℕ) (t : Option Term) : Type 0 where
  pub is : found b r ≡ t
  pub deeper : (x : ℕ) → r ≡ Some x → height x < height i

pub record Children (b : Bytes) (i : ℕ) (r : Option (ℕ × ℕ)) (t : Option (Term × Term)) : Type 0 where
  pub is : found_two b r ≡ t
  pub deeper : (x y : ℕ) → r ≡ Some (x, y) → (height x < height i) × (height y < height i)
