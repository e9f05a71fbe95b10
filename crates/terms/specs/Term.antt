-- Terms: the tree below a record of the book, each node with its record number. The Rust has `Rc<Term>`, and two terms
-- are equal where they are the same allocation; here they are equal where their record numbers are.
use Rattle.std.specs.Prelude.{Bool, true, false, ◌&&◌, ◌||◌, cond, List, [], ◌∷◌, ℕ, ◌+◌, leb, eqb, ℤ}
use Rattle.std.specs.Prelude.{Option, Some, None}
use Rattle.numbers.specs.Rational.{Rational}
use Rattle.terms.specs.Format.{bool_sort, int_sort, real_sort, bits_code}
use Rattle.terms.specs.Operator.{GreaterEq, Mult, IntDiv, ToReal, Equals, Or}
use Rattle.numbers.specs.Choice.{when◌then◌else◌}

pub data Sort : Type 0 where
  bool int real : Sort
  -- a bit-vector of so many bits
  bits : ℕ → Sort

mutual
  pub data Term : Type 0 where
    integer : ℕ → ℤ → Term
    rational : ℕ → Rational → Term
    -- value and width
    bitvector : ℕ → ℕ → ℕ → Term
    -- sort and name; it also stands for any term that is none of the others
    atom : ℕ → Sort → ℕ → Term
    -- operator and arguments
    op : ℕ → ℕ → Terms → Term

  pub data Terms : Type 0 where
    nil : Terms
    ◌▹◌ : Term → Terms → Terms

infixr 40 ◌▹◌
abbrev pub record_number : Term → ℕ
record_number (integer i v) = i
record_number (rational i q) = i
record_number (bitvector i v w) = i
record_number (atom i s n) = i
record_number (op i o ts) = i

abbrev pub same : Term → Term → Bool
same s t = eqb (record_number s) (record_number t)

-- ---- sorts

-- a sort as one number: 1 Bool, 2 Int, 3 Real, and 3 + w for a bit-vector of w bits
abbrev pub sort_code : Sort → ℕ
sort_code bool = bool_sort
sort_code int = int_sort
sort_code real = real_sort
sort_code (bits w) = bits_code + w

abbrev pub same_sort : Sort → Sort → Bool
same_sort s t = eqb (sort_code s) (sort_code t)

abbrev pub is_numeric : Sort → Bool
is_numeric bool = false
is_numeric int = true
is_numeric real = true
is_numeric (bits w) = false

abbrev pub is_bits : Sort → Bool
is_bits bool = false
is_bits int = false
is_bits real = false
is_bits (bits w) = true

unfoldable pub all : (Sort → Bool) → List Sort → Bool
all p [] = true
all p (s ∷ ss) = p s && all p ss

abbrev pub first : List Sort → Sort
first [] = bool
first (s ∷ ss) = s

-- whether an operator takes arguments of these sorts
unfoldable pub takes : ℕ → List Sort → Bool
takes o ss =
    when leb o Or then all (same_sort bool) ss else
    when eqb o Equals then all (same_sort (first ss)) ss || all is_numeric ss else
    when leb o Mult then all is_numeric ss else
    when eqb o IntDiv then all (same_sort int) ss else
    when leb o ToReal then all is_numeric ss else
    is_bits (first ss) && all (same_sort (first ss)) ss

-- the sort that it gives
unfoldable pub gives : ℕ → List Sort → Sort
gives o ss =
    when leb o GreaterEq then bool else
    when leb o Mult then (when all (same_sort int) ss then int else real) else
    when eqb o IntDiv then int else
    when leb o ToReal then real else
    first ss

unfoldable mutual
  pub sort : Term → Sort
  sort (integer i v) = int
  sort (rational i q) = real
  sort (bitvector i v w) = bits w
  sort (atom i s n) = s
  sort (op i o ts) = gives o (sorts ts)

  pub sorts : Terms → List Sort
  sorts nil = []
  sorts (t ▹ ts) = sort t ∷ sorts ts

-- ---- the arguments of an operation, by their count: what `match_term!` asks

abbrev pub args_of : ℕ → Term → Option Terms
args_of o (integer i v) = None
args_of o (rational i q) = None
args_of o (bitvector i v w) = None
args_of o (atom i s n) = None
args_of o (op i p ts) = cond (eqb o p) (Some ts) None

abbrev pub one? : Terms → Option Term
one? nil = None
one? (a ▹ nil) = Some a
one? (a ▹ b ▹ ts) = None

abbrev pub two? : Terms → Option (Term × Term)
two? nil = None
two? (a ▹ nil) = None
two? (a ▹ b ▹ nil) = Some (a, b)
two? (a ▹ b ▹ c ▹ ts) = None

-- (o a)
unfoldable pub unary : ℕ → Term → Option Term
unary o t = elim (args_of o t) [ Some ts ↦ one? ts | None ↦ None ]

-- (o a b)
unfoldable pub binary : ℕ → Term → Option (Term × Term)
binary o t = elim (args_of o t) [ Some ts ↦ two? ts | None ↦ None ]
