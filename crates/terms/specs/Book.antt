-- The book of terms (document 01's word): records of 32 bytes, numbered from 0. What a record's bytes say, the term
-- below a record, and refusals 2 to 5 in document 01's order. Everything is defined for all bytes. A record that is
-- not there, or whose bytes make no constant and no operation, is an atom; an argument number that is not smaller
-- than its record's own is not followed.
use Rattle.std.specs.Prelude.{◌≡◌, Bool, true, false, ◌&&◌, ◌||◌, cond, List, [], ◌∷◌, ℕ, zero, suc, ◌+◌, ◌*◌, ◌-◌}
use Rattle.std.specs.Prelude.{◌/◌, ◌%◌, ◌^◌, ◌<◌, min, leb, ltb, eqb, pos, nat_abs, length, get_or, set, take, drop}
use Rattle.std.specs.Int.Signed.{lt_z}
use Rattle.numbers.specs.Rational.{Rational, frac, whole, gcd, in_range}
use Rattle.numbers.specs.Bytes.{Bytes, same_bytes, le, signed}
use Rattle.terms.specs.Format.{record_bytes, max_records, max_args, max_width, bool_sort, int_sort, real_sort}
use Rattle.terms.specs.Format.{bits_sort}
use Rattle.terms.specs.Format.{first_at, second_at, fields_end, args_at}
use Rattle.terms.specs.Format.{integer_kind, real_kind, vector_kind, atom_kind, operation_kind}
use Rattle.terms.specs.Operator.{Not, Sub, IntDiv, RealDiv, ToReal, BvSub, BvNeg, BvMul}
use Rattle.terms.specs.Term.{Sort, Term, Terms, sort, sorts, sort_code, takes}
use Rattle.numbers.specs.Choice.{when◌then◌else◌}
use Rattle.terms.specs.Term.Sort.{bool, int, real, bits}
use Rattle.terms.specs.Term.Term.{integer, rational, bitvector, atom, op}
use Rattle.terms.specs.Term.Terms.{nil, ◌▹◌}
use Rattle.terms.specs.declared.reading.BookRefusal.{BookRefusal}
use Rattle.terms.specs.declared.reading.BookRefusal.TheVariants.{BookSize, RecordLayout, SortBroken}
use Rattle.terms.specs.declared.reading.BookRefusal.TheVariants.{RecordRepeated}
use Rattle.terms.specs.declared.reading.BookError.{BookError}
use Rattle.std.specs.Prelude.{Result, Ok, Err}

-- ---- a record's fields

-- how many records are there
abbrev pub count : Bytes → ℕ
count b = min (length b / record_bytes) max_records

-- the bytes of a record; none where there is no such record
unfoldable pub record_of : Bytes → ℕ → Bytes
record_of b i = cond (ltb i (count b)) (take record_bytes (drop (record_bytes * i) b)) []

abbrev pub kind : Bytes → ℕ
kind r = get_or r 0 0

abbrev pub operator : Bytes → ℕ
operator r = get_or r 1 0

abbrev pub arg_count : Bytes → ℕ
arg_count r = get_or r 2 0

abbrev pub sort_byte : Bytes → ℕ
sort_byte r = get_or r 3 0

-- the two fields of eight bytes: a value, numerator or name, and a denominator or width
abbrev pub field1 : Bytes → ℕ
field1 r = le 8 r first_at

abbrev pub field2 : Bytes → ℕ
field2 r = le 8 r second_at

abbrev pub integer_of : Bytes → Rational
integer_of r = whole (signed 8 (field1 r))

abbrev pub rational_of : Bytes → Rational
rational_of r = frac (signed 8 (field1 r)) (signed 8 (field2 r))

-- in range with a denominator of at least 1; lowest terms are part of the layout alone
abbrev pub is_number : Rational → Bool
is_number q = in_range q && lt_z (pos 0) q.den

abbrev pub is_width : ℕ → Bool
is_width w = leb 1 w && leb w max_width

abbrev pub is_vector : Bytes → Bool
is_vector r = is_width (field2 r) && ltb (field1 r) (2 ^ field2 r)

abbrev pub atom_sort : Bytes → Sort
atom_sort r =
    when eqb (sort_byte r) int_sort then int else
    when eqb (sort_byte r) real_sort then real else
    when eqb (sort_byte r) bits_sort then bits (field2 r) else
    bool

-- two bytes a number
unfoldable pub numbers : Bytes → List ℕ
numbers [] = []
numbers (x ∷ []) = []
numbers (x ∷ y ∷ l) = (x + 256 * y) ∷ numbers l

-- the part of a record that holds its arguments
abbrev pub arg_bytes : Bytes → Bytes
arg_bytes r = cond (eqb (kind r) operation_kind) (take (2 * arg_count r) (drop args_at r)) []

-- ---- the term below a record

-- the number of no record
abbrev pub nothing : ℕ
nothing = 65535

-- an argument of record i
abbrev pub earlier : ℕ → ℕ → ℕ
earlier i a = cond (ltb a i) a nothing

-- argument k, from the part of record i that holds them
unfoldable pub argument_at : Bytes → ℕ → ℕ → ℕ
argument_at args k i = earlier i (get_or (numbers args) k nothing)

unfoldable pub arguments : ℕ → List ℕ → List ℕ
arguments i [] = []
arguments i (a ∷ l) = earlier i a ∷ arguments i l

-- record i with bytes r and arguments ts
unfoldable pub node : ℕ → Bytes → Terms → Term
node i r ts =
    when eqb (kind r) integer_kind && is_number (integer_of r) then integer i (signed 8 (field1 r)) else
    when eqb (kind r) real_kind && is_number (rational_of r) then rational i (rational_of r) else
    when eqb (kind r) vector_kind && is_vector r then bitvector i (field1 r) (field2 r) else
    when eqb (kind r) operation_kind then op i (operator r) ts else
    atom i (atom_sort r) (field1 r)

unfoldable pub forest : (ℕ → Term) → List ℕ → Terms
forest f [] = nil
forest f (a ∷ l) = f a ▹ forest f l

-- the first argument bounds the depth; a record's number and one more is enough, since arguments are smaller
unfoldable pub tree_within : ℕ → Bytes → ℕ → Term
tree_within zero b i = node i [] nil
tree_within (suc k) b i =
    node i (record_of b i) (forest (tree_within k b) (arguments i (numbers (arg_bytes (record_of b i)))))

unfoldable pub tree : Bytes → ℕ → Term
tree b i = tree_within (suc i) b i

-- what falls from a record to its arguments; that of no record is 0
abbrev pub height : ℕ → ℕ
height i = cond (ltb i max_records) (suc i) 0

-- ---- refusal 3: the layout of a record

unfoldable pub all_zero : Bytes → Bool
all_zero [] = true
all_zero (x ∷ l) = eqb x 0 && all_zero l

-- the n bytes at k are unused
abbrev pub unused : ℕ → Bytes → ℕ → Bool
unused n r k = all_zero (take n (drop k r))

-- how many arguments an operator takes
unfoldable pub count_ok : ℕ → ℕ → Bool
count_ok o n =
    when eqb o Not || (eqb o ToReal || eqb o BvNeg) then eqb n 1 else
    when eqb o IntDiv || (eqb o RealDiv || eqb o BvSub) then eqb n 2 else
    leb n max_args && leb (when eqb o Sub then 1 else 2) n

-- each argument is an earlier record
unfoldable pub all_below : ℕ → List ℕ → Bool
all_below i [] = true
all_below i (a ∷ l) = ltb a i && all_below i l

abbrev pub integer_ok : Bytes → Bool
integer_ok r = unused 3 r 1 && (unused (record_bytes - second_at) r second_at && is_number (integer_of r))

abbrev pub real_ok : Bytes → Bool
real_ok r =
    unused 3 r 1
    && (unused (record_bytes - fields_end) r fields_end
    && (is_number (rational_of r) && eqb (gcd (nat_abs (rational_of r).num) (nat_abs (rational_of r).den)) 1))

abbrev pub vector_ok : Bytes → Bool
vector_ok r = unused 3 r 1 && (unused (record_bytes - fields_end) r fields_end && is_vector r)

abbrev pub atom_ok : Bytes → Bool
atom_ok r =
    unused 2 r 1
    && (unused (record_bytes - fields_end) r fields_end
    && cond (eqb (sort_byte r) bits_sort) (is_width (field2 r))
    (leb bool_sort (sort_byte r) && (leb (sort_byte r) real_sort && eqb (field2 r) 0)))

-- an operation's arguments are as many as its operator takes, and earlier records
abbrev pub arguments_ok : ℕ → Bytes → Bool
arguments_ok i r =
    count_ok (operator r) (arg_count r)
    && (eqb (sort_byte r) 0
    && (unused (record_bytes - args_at - 2 * arg_count r) r (args_at + 2 * arg_count r)
    && all_below i (numbers (arg_bytes r))))

abbrev pub operation_ok : ℕ → Bytes → Bool
operation_ok i r = leb Not (operator r) && (leb (operator r) BvMul && arguments_ok i r)

unfoldable pub layout_ok : ℕ → Bytes → Bool
layout_ok i r =
    when eqb (kind r) integer_kind then integer_ok r else
    when eqb (kind r) real_kind then real_ok r else
    when eqb (kind r) vector_kind then vector_ok r else
    when eqb (kind r) atom_kind then atom_ok r else
    when eqb (kind r) operation_kind then operation_ok i r else
    false

-- ---- refusal 4: sorts

abbrev pub sort_ok : Term → Bool
sort_ok (integer i v) = true
sort_ok (rational i q) = true
sort_ok (bitvector i v w) = true
sort_ok (atom i s n) = true
sort_ok (op i o ts) = takes o (sorts ts)

-- ---- refusal 5: equality

-- whether one of the first n records has the bytes r
unfoldable pub stands : ℕ → Bytes → Bytes → Bool
stands zero b r = false
stands (suc n) b r = elim (stands n b r) [ true ↦ true | false ↦ same_bytes (record_of b n) r ]

-- ---- the book

-- what reading a book finds: so many records, or why it is refused
abbrev pub BookRead : Type 0
BookRead = Result ℕ BookError

-- record i is refused
abbrev pub refused_at : BookRefusal → ℕ → BookRead
refused_at c i = Err (record { refusal = c; at = i })

-- and a record: its sort as one number
abbrev pub RecordRead : Type 0
RecordRead = Result ℕ BookRefusal

-- refusal 3, 4 or 5, or the record's sort
unfoldable pub record_read : Bytes → ℕ → RecordRead
record_read b i =
    elim (layout_ok i (record_of b i)) [
      | false ↦ Err RecordLayout
      | true ↦
          elim (sort_ok (tree b i)) [
            | false ↦ Err SortBroken
            | true ↦
                elim (stands i b (record_of b i)) [
                  | true ↦ Err RecordRepeated
                  | false ↦ Ok (sort_code (sort (tree b i)))
                ]
          ]
    ]

-- n records are left, from record i on
unfoldable pub read_records : ℕ → Bytes → ℕ → BookRead
read_records zero b i = Ok i
read_records (suc n) b i = elim (record_read b i) [ Ok s ↦ read_records n b (i + 1) | Err c ↦ refused_at c i ]

-- whole records, and not too many
abbrev pub size_ok : Bytes → Bool
size_ok b = eqb (length b % 32) 0 && leb (length b / 32) max_records

unfoldable pub read_book : Bytes → BookRead
read_book b = elim (size_ok b) [ true ↦ read_records (length b / 32) b 0 | false ↦ refused_at BookSize 0 ]

-- document 01's number of a refusal
abbrev pub book_number : BookRefusal → ℕ
book_number BookSize = 2
book_number RecordLayout = 3
book_number SortBroken = 4
book_number RecordRepeated = 5

-- the same for each case of `BookRead`; 0 is no refusal
abbrev pub refusal_of : BookRead → ℕ
refusal_of (Ok n) = 0
refusal_of (Err e) = book_number e.refusal

-- ---- what reading leaves in memory: the sorts of the records that were read, a byte each

abbrev pub records_read : BookRead → ℕ
records_read (Ok n) = n
records_read (Err e) = e.at

unfoldable pub put_sorts : ℕ → Bytes → Bytes → Bytes
put_sorts zero b w = w
put_sorts (suc n) b w = set (put_sorts n b w) n (sort_code (sort (tree b n)))

-- the records before i are laid out as terms, and w holds their sorts
pub record SortsBelow (i : ℕ) (b w : Bytes) : Type 0 where
  pub laid : (j : ℕ) → j < i → layout_ok j (record_of b j) ≡ true
  pub held : (j : ℕ) → j < i → get_or w j 0 ≡ sort_code (sort (tree b j))

pub record BookDone (b w w' : Bytes) (r : BookRead) : Type 0 where
  pub is : r ≡ read_book b
  pub sorts : w' ≡ put_sorts (records_read r) b w
