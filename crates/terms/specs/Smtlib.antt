-- What a term means: document 01's 'Meaning', from SMT-LIB's theories Core, Ints, Reals and FixedSizeBitVectors.
-- Numbers are pairs of any size, compared by cross products.
use Rattle.std.specs.Prelude.{Bool, true, false, not, ◌&&◌, ◌||◌, cond, List, [], ◌∷◌, ℕ, ◌%◌, ◌^◌, ◌<◌, eqb, ℤ, pos}
use Rattle.std.specs.Prelude.{neg_ℤ, ◌+ℤ◌, ◌*ℤ◌}
use Rattle.std.specs.Prelude.{Option, Some, None}
use Rattle.numbers.specs.Pair.{Pair, whole_p, add_p, mul_p, neg_p, div_p, eq_p, less_p, less_eq_p, ◌≈◌}
use Rattle.numbers.specs.Rational as Rational
use Rattle.numbers.specs.Rational.{is_zero, is_integer, div_q, modulo}
use Rattle.terms.specs.Operator.{Not, And, Or, Equals, LessThan, LessEq, GreaterThan, GreaterEq, Add, Sub, Mult}
use Rattle.terms.specs.Operator.{IntDiv, RealDiv, ToReal, BvAdd, BvSub, BvNeg}
use Rattle.terms.specs.Term.{Sort, Term, Terms, sort, binary}
use Rattle.numbers.specs.Choice.{when◌then◌else◌}
use Rattle.terms.specs.Term.Sort.{bool, int, real, bits}
use Rattle.terms.specs.Term.Term.{integer, rational, bitvector, atom, op}
use Rattle.terms.specs.Term.Terms.{nil, ◌▹◌}
use Rattle.terms.specs.Readers.{unbounded, as_signed_number, as_fraction}
use Rattle.terms.specs.Readers.{Reading}
use Rattle.std.specs.Prelude.{Ok, Err}
use Rattle.terms.specs.declared.term.NotRead.TheVariants.{NotNumber, OutOfRange}

-- ---- values

pub data Meant : Type 0 where
  truth : Bool → Meant
  -- an Int or a Real
  number : Pair → Meant
  -- a bit-vector, as the natural number that it stands for
  vector : ℕ → Meant

-- as a number, Bool is 0 or 1 and a bit-vector its unsigned value
abbrev pub as_pair : Meant → Pair
as_pair (truth true) = whole_p (pos 1)
as_pair (truth false) = whole_p (pos 0)
as_pair (number p) = p
as_pair (vector n) = whole_p (pos n)

-- only a Bool is ever asked this
abbrev pub is_true : Meant → Bool
is_true (truth t) = t
is_true (number p) = false
is_true (vector n) = false

-- An assignment of the right sorts: for each record number a value of each sort, and the sort of the term says which
-- one counts. A bit-vector's is taken modulo 2^width, so that every number below 2^width can be given and no other.
pub record Assignment : Type 0 where
  pub truths : ℕ → Bool
  pub integers : ℕ → ℤ
  pub reals : ℕ → Pair
  pub vectors : ℕ → ℕ

abbrev pub given : Assignment → ℕ → Sort → Meant
given ρ i bool = truth (ρ.truths i)
given ρ i int = number (whole_p (ρ.integers i))
given ρ i real = number (ρ.reals i)
given ρ i (bits w) = vector (ρ.vectors i % 2 ^ w)

-- a value is of a sort: an Int is whole, a bit-vector is below 2^width
abbrev pub OfSort : Sort → Meant → Type 0
OfSort bool (truth t) = Unit {0}
OfSort bool (number p) = ⊥
OfSort bool (vector n) = ⊥
OfSort int (truth t) = ⊥
OfSort int (number p) = (z : ℤ) × (p ≈ whole_p z)
OfSort int (vector n) = ⊥
OfSort real (truth t) = ⊥
OfSort real (number p) = Unit {0}
OfSort real (vector n) = ⊥
OfSort (bits w) (truth t) = ⊥
OfSort (bits w) (number p) = ⊥
OfSort (bits w) (vector n) = n < 2 ^ w

-- ---- lists of values

unfoldable pub every : (Meant → Bool) → List Meant → Bool
every p [] = true
every p (v ∷ vs) = p v && every p vs

unfoldable pub any : (Meant → Bool) → List Meant → Bool
any p [] = false
any p (v ∷ vs) = p v || any p vs

-- the one argument of not, to_real and bvneg, and the dividend of /
abbrev pub first_of : List Meant → Meant
first_of [] = truth false
first_of (v ∷ vs) = v

-- a relation holds between neighbours
unfoldable pub chain : (Pair → Pair → Bool) → List Meant → Bool
chain r [] = true
chain r (u ∷ []) = true
chain r (u ∷ v ∷ vs) = r (as_pair u) (as_pair v) && chain r (v ∷ vs)

-- left associative
unfoldable pub fold_left : (Pair → Pair → Pair) → Pair → List Meant → Pair
fold_left f a [] = a
fold_left f a (v ∷ vs) = fold_left f (f a (as_pair v)) vs

abbrev pub reduce : (Pair → Pair → Pair) → List Meant → Pair
reduce f [] = whole_p (pos 0)
reduce f (v ∷ vs) = fold_left f (as_pair v) vs

abbrev pub sub_p : Pair → Pair → Pair
sub_p a b = add_p a (neg_p b)

-- with one argument the opposite, with more the first less each of the others
abbrev pub minus : List Meant → Pair
minus [] = whole_p (pos 0)
minus (v ∷ []) = neg_p (as_pair v)
minus (v ∷ w ∷ vs) = fold_left sub_p (as_pair v) (w ∷ vs)

-- ---- bit-vectors: natural numbers modulo 2^width

abbrev pub width_of : Terms → ℕ
width_of nil = 0
width_of (t ▹ ts) = elim (sort t) [ bool ↦ 0 | int ↦ 0 | real ↦ 0 | bits w ↦ w ]

abbrev pub as_vector : Meant → ℤ
as_vector (truth t) = pos 0
as_vector (number p) = pos 0
as_vector (vector n) = pos n

unfoldable pub sum_z : List Meant → ℤ
sum_z [] = pos 0
sum_z (v ∷ vs) = as_vector v +ℤ sum_z vs

unfoldable pub product_z : List Meant → ℤ
product_z [] = pos 1
product_z (v ∷ vs) = as_vector v *ℤ product_z vs

-- the first less the others
abbrev pub difference_z : List Meant → ℤ
difference_z [] = pos 0
difference_z (v ∷ vs) = as_vector v +ℤ neg_ℤ (sum_z vs)

-- ---- the operators: the meaning of (o ts) with number i, from the values of ts

abbrev pub Meaning : Type 0
Meaning = Assignment → ℕ → Terms → List Meant → Meant

-- Core: negation, conjunction, disjunction
abbrev pub not_m : Meaning
not_m ρ i ts vs = truth (not (is_true (first_of vs)))

abbrev pub and_m : Meaning
and_m ρ i ts vs = truth (every is_true vs)

abbrev pub or_m : Meaning
or_m ρ i ts vs = truth (any is_true vs)

-- Core's = , and <, <=, >, >= of Ints and Reals, are chainable
abbrev pub chain_m : (Pair → Pair → Bool) → Meaning
chain_m r ρ i ts vs = truth (chain r vs)

-- Ints and Reals: sum and product are left associative; the difference is too, and has a form of one argument
abbrev pub add_m : Meaning
add_m ρ i ts vs = number (reduce add_p vs)

abbrev pub sub_m : Meaning
sub_m ρ i ts vs = number (minus vs)

abbrev pub mul_m : Meaning
mul_m ρ i ts vs = number (reduce mul_p vs)

-- Ints: div. One that `as_fraction` reads is the exact quotient (SMT-LIB rounds: docs/DIFFERENCES.md); any other has a
-- value of its own.
abbrev pub div_m : Meaning
div_m ρ i ts vs =
    elim (as_fraction unbounded (op i IntDiv ts)) [
      | Ok q ↦ number (Rational.value q)
      | Err NotNumber ↦ given ρ i int
      | Err OutOfRange ↦ given ρ i int
    ]

-- the second argument as a number that is not 0
abbrev pub divisor : Terms → Option Rational.Rational
divisor nil = None
divisor (a ▹ nil) = None
divisor (a ▹ b ▹ ts) =
    elim (as_fraction unbounded b) [
      | Ok q ↦ cond (is_zero q) None (Some q)
      | Err NotNumber ↦ None
      | Err OutOfRange ↦ None
    ]

-- Reals: / by a number that is not 0 is the quotient; by anything else it has a value of its own
abbrev pub real_div_m : Meaning
real_div_m ρ i ts vs =
    elim (divisor ts) [ Some q ↦ number (div_p (as_pair (first_of vs)) (Rational.value q)) | None ↦ given ρ i real ]

-- Reals_Ints: to_real is the same number
abbrev pub to_real_m : Meaning
to_real_m ρ i ts vs = number (as_pair (first_of vs))

-- FixedSizeBitVectors: the operation on the natural numbers, modulo 2^width
abbrev pub vector_m : (List Meant → ℤ) → Meaning
vector_m f ρ i ts vs = vector (modulo (f vs) (2 ^ width_of ts))

-- bvneg x is 2^width - x
abbrev pub opposite_z : List Meant → ℤ
opposite_z vs = neg_ℤ (as_vector (first_of vs))

unfoldable pub meaning : ℕ → Meaning
meaning o =
    when eqb o Not then not_m else
    when eqb o And then and_m else
    when eqb o Or then or_m else
    when eqb o Equals then chain_m eq_p else
    when eqb o LessThan then chain_m less_p else
    when eqb o LessEq then chain_m less_eq_p else
    when eqb o GreaterThan then chain_m (λ a b. less_p b a) else
    when eqb o GreaterEq then chain_m (λ a b. less_eq_p b a) else
    when eqb o Add then add_m else
    when eqb o Sub then sub_m else
    when eqb o Mult then mul_m else
    when eqb o IntDiv then div_m else
    when eqb o RealDiv then real_div_m else
    when eqb o ToReal then to_real_m else
    when eqb o BvAdd then vector_m sum_z else
    when eqb o BvSub then vector_m difference_z else
    when eqb o BvNeg then vector_m opposite_z else
    vector_m product_z

-- ---- terms and clauses

unfoldable mutual
  pub value : Assignment → Term → Meant
  value ρ (integer i v) = number (whole_p v)
  value ρ (rational i q) = number (Rational.value q)
  value ρ (bitvector i v w) = vector v
  value ρ (atom i s n) = given ρ i s
  value ρ (op i o ts) = meaning o ρ i ts (values ρ ts)

  pub values : Assignment → Terms → List Meant
  values ρ nil = []
  values ρ (t ▹ ts) = value ρ t ∷ values ρ ts

-- a clause has a true literal
unfoldable pub holds : Assignment → List Term → Bool
holds ρ [] = false
holds ρ (t ∷ ts) = is_true (value ρ t) || holds ρ ts

-- ---- the premise on div: each div of two written numbers with a nonzero divisor comes out even

abbrev pub even : Reading → Reading → Bool
even (Ok n) (Ok d) = is_zero d || is_integer (div_q n d)
even (Ok n) (Err NotNumber) = true
even (Ok n) (Err OutOfRange) = true
even (Err NotNumber) d = true
even (Err OutOfRange) d = true

abbrev pub even_div : ℕ → Terms → Bool
even_div o ts =
    elim (binary IntDiv (op 0 o ts)) [ Some p ↦ even (as_signed_number p.0) (as_signed_number p.1) | None ↦ true ]

unfoldable mutual
  pub divs_even : Term → Bool
  divs_even (integer i v) = true
  divs_even (rational i q) = true
  divs_even (bitvector i v w) = true
  divs_even (atom i s n) = true
  divs_even (op i o ts) = even_div o ts && all_divs_even ts

  pub all_divs_even : Terms → Bool
  all_divs_even nil = true
  all_divs_even (t ▹ ts) = divs_even t && all_divs_even ts
