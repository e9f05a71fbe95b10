-- What terms are, as the Alethe specification speaks of them, by form alone: shapes, written numbers, linear sums,
-- and products written out. Nothing here follows the Rust. Where Carcara parts from the specification's words, a
-- departure says so: it has a name, and specs/Alethe a constructor for it.
use Rattle.std.specs.Prelude.{◌≡◌, Bool, true, false, ◌&&◌, ◌||◌, List, [], ◌∷◌, ◌++◌, ◌⊎◌, ℕ, eqb, ℤ, pos, negsuc}
use Rattle.numbers.specs.Rational as Rational
use Rattle.numbers.specs.Rational.{Rational, add_q, mul_q, div_q, neg_q, is_zero}
use Rattle.terms.specs.Operator.{Not, Equals, LessThan, LessEq, GreaterThan, GreaterEq, Add, Sub, Mult, IntDiv}
use Rattle.terms.specs.Operator.{RealDiv}
use Rattle.terms.specs.Operator.{ToReal, BvAdd, BvSub, BvNeg, BvMul}
use Rattle.terms.specs.Term.{Term, Terms, sort, same_sort, record_number, same}
use Rattle.terms.specs.Term.Sort.{int}
use Rattle.terms.specs.Term.Term.{integer, rational, bitvector, op}
use Rattle.terms.specs.Term.Terms.{nil, ◌▹◌}

-- ---- Carcara's departures from the specification's words

pub data Departure : Type 0 where
  -- la_generic, step 4: > is raised by the greatest common divisor
  divisor : Departure
  -- step 4: >= stays where d is not whole, if a · d is
  whole_product : Departure
  -- step 4: >= is raised where d is whole, if a · d is not (K10)
  fractional_product : Departure
  -- step 5: > times 0 is >=
  argument_zero : Departure
  -- step 6: the sum is > if one is >
  join : Departure
  -- bounded_farkas: arguments behind those of the last literal (K7)
  surplus_arguments : Departure
  -- a literal or an equation between terms that are no numbers
  other_sort : Departure
  -- la_tautology: a bound that is no number
  any_bound : Departure
  -- poly_simp_rel: to_real over a difference
  real_difference : Departure

abbrev pub Departures : Type 1
Departures = Departure → Type 0

-- the specification's words
abbrev pub words : Departures
words d = ⊥

-- every departure
abbrev pub carcara : Departures
carcara d = Unit {0}

-- ---- shapes: (o a), (o a b), (o a b c), whatever their record numbers

pub data Is (o : ℕ) (ts : Terms) : Term → Type 0 where
  is : (i : ℕ) → Is o ts (op i o ts)

abbrev pub Is1 : ℕ → Term → Term → Type 0
Is1 o a = Is o (a ▹ nil)

abbrev pub Is2 : ℕ → Term → Term → Term → Type 0
Is2 o a b = Is o (a ▹ b ▹ nil)

abbrev pub Is3 : ℕ → Term → Term → Term → Term → Type 0
Is3 o a b c = Is o (a ▹ b ▹ c ▹ nil)

-- (not (o a b))
pub record IsNot2 (o : ℕ) (a b phi : Term) : Type 0 where
  pub body : Term
  pub relation : Is2 o a b body
  pub negation : Is1 Not body phi

pub data IsRelation : ℕ → Type 0 where
  equals : IsRelation Equals
  less_than : IsRelation LessThan
  less_eq : IsRelation LessEq
  greater_than : IsRelation GreaterThan
  greater_eq : IsRelation GreaterEq

-- ---- written numbers: a constant, a quotient of two signed constants, or a minus before either

pub data Constant : Term → Rational → Type 0 where
  whole : (i : ℕ) (z : ℤ) → Constant (integer i z) (Rational.whole z)
  fraction : (i : ℕ) (q : Rational) → Constant (rational i q) q

pub data Signed : Term → Rational → Type 0 where
  plain : {t : Term} {q : Rational} → Constant t q → Signed t q
  minus : {t u : Term} {q : Rational} → Is1 Sub t u → Constant t q → Signed u (neg_q q)

pub data IsDivision : ℕ → Type 0 where
  div : IsDivision IntDiv
  slash : IsDivision RealDiv

pub data Unsigned : Term → Rational → Type 0 where
  constant : {t : Term} {q : Rational} → Constant t q → Unsigned t q
  quotient :
      {o : ℕ} {a b t : Term} {p q : Rational} → IsDivision o → Is2 o a b t → Signed a p → Signed b q →
      is_zero q ≡ false → Unsigned t (div_q p q)

pub data Written : Term → Rational → Type 0 where
  plain : {t : Term} {q : Rational} → Unsigned t q → Written t q
  minus : {t u : Term} {q : Rational} → Is1 Sub t u → Unsigned t q → Written u (neg_q q)

-- ---- linear sums: Σ c t + d, one entry for each place where an atom stands

abbrev pub Entries : Type 0
Entries = List (Rational × Term)

pub record Sum : Type 0 where
  pub terms : Entries
  pub constant : Rational

abbrev pub sum_of : Entries → Rational → Sum
sum_of es d = record { terms = es; constant = d }

abbrev pub plus : Sum → Sum → Sum
plus s r = sum_of (s.terms ++ r.terms) (add_q s.constant r.constant)

unfoldable pub times_each : Rational → Entries → Entries
times_each q [] = []
times_each q (e ∷ es) = (mul_q q e.0, e.1) ∷ times_each q es

abbrev pub times : Rational → Sum → Sum
times q s = sum_of (times_each q s.terms) (mul_q q s.constant)

abbrev pub nought : Rational
nought = Rational.whole (pos 0)

abbrev pub one : Rational
one = Rational.whole (pos 1)

abbrev pub minus_one : Rational
minus_one = Rational.whole (negsuc 0)

-- what is neither a number nor a sum, a difference, a minus or a product of two by a number
pub record Atom (t : Term) : Type 0 where
  pub no_number : (q : Rational) → Written t q → ⊥
  pub not_sum : (ts : Terms) → Is Add ts t → ⊥
  pub not_difference : (ts : Terms) → Is Sub ts t → ⊥
  pub not_product : (a b : Term) (q : Rational) → Is2 Mult a b t → Written a q ⊎ Written b q → ⊥

mutual
  pub data Linear : Term → Sum → Type 0 where
    number : {t : Term} {q : Rational} → Written t q → Linear t (sum_of [] q)
    atom : {t : Term} → Atom t → Linear t (sum_of ((one, t) ∷ []) nought)
    sum : {ts : Terms} {t : Term} {s : Sum} → Is Add ts t → LinearAll ts s → Linear t s
    minus : {t u : Term} {s : Sum} → Is1 Sub t u → Linear t s → Linear u (times minus_one s)
    difference :
        {t u v : Term} {ts : Terms} {s r : Sum} → Is Sub (t ▹ u ▹ ts) v → Linear t s → LinearAll (u ▹ ts) r →
        Linear v (plus s (times minus_one r))
    product_left :
        {a b t : Term} {q : Rational} {s : Sum} → Is2 Mult a b t → Written a q → Linear b s → Linear t (times q s)
    product_right :
        {a b t : Term} {q : Rational} {s : Sum} → Is2 Mult a b t → Written b q → Linear a s → Linear t (times q s)

  pub data LinearAll : Terms → Sum → Type 0 where
    none : LinearAll nil (sum_of [] nought)
    next : {t : Term} {ts : Terms} {s r : Sum} → Linear t s → LinearAll ts r → LinearAll (t ▹ ts) (plus s r)

-- what the coefficients of an atom add up to; atoms are equal by record number
unfoldable pub coefficient_of : ℕ → Entries → Rational
coefficient_of i [] = nought
coefficient_of i (e ∷ es) = elim (eqb (record_number e.1) i) [
  | true ↦ add_q e.0 (coefficient_of i es)
  | false ↦ coefficient_of i es
]

-- the coefficients of each atom add up to 0
abbrev pub Cancels : Entries → Type 0
Cancels es = (i : ℕ) → is_zero (coefficient_of i es) ≡ true

-- the atoms of the second list that the first does not cancel are of sort Int
unfoldable pub all_int_in : Entries → Entries → Bool
all_int_in es [] = true
all_int_in es (e ∷ r) = (is_zero (coefficient_of (record_number e.1) es) || same_sort (sort e.1) int) && all_int_in es r

-- ---- products written out

-- a term written out: a coefficient and the atoms that are multiplied, one entry for each product that arises
abbrev pub Products : Type 0
Products = List (Rational × List Term)

unfoldable pub scale_each : Rational → Products → Products
scale_each q [] = []
scale_each q (e ∷ m) = (mul_q q e.0, e.1) ∷ scale_each q m

unfoldable pub times_one : Rational → List Term → Products → Products
times_one q ts [] = []
times_one q ts (e ∷ m) = (mul_q q e.0, ts ++ e.1) ∷ times_one q ts m

unfoldable pub multiply : Products → Products → Products
multiply [] n = []
multiply (e ∷ m) n = times_one e.0 e.1 n ++ multiply m n

pub data IsSum : ℕ → Type 0 where
  add : IsSum Add
  bvadd : IsSum BvAdd

pub data IsMinus : ℕ → Type 0 where
  sub : IsMinus Sub
  bvneg : IsMinus BvNeg

pub data IsDifference : ℕ → Type 0 where
  sub : IsDifference Sub
  bvsub : IsDifference BvSub

pub data IsProduct : ℕ → Type 0 where
  mult : IsProduct Mult
  bvmul : IsProduct BvMul

-- none of the forms below
pub record Indivisible (t : Term) : Type 0 where
  pub no_number : (q : Rational) → Written t q → ⊥
  pub not_vector : (i v w : ℕ) → t ≡ bitvector i v w → ⊥
  pub not_sum : (o : ℕ) (ts : Terms) → IsSum o → Is o ts t → ⊥
  pub not_real : (ts : Terms) → Is ToReal ts t → ⊥
  pub not_minus : (o : ℕ) (ts : Terms) → IsMinus o → Is o ts t → ⊥
  pub not_difference : (o : ℕ) (ts : Terms) → IsDifference o → Is o ts t → ⊥
  pub not_product : (o : ℕ) (ts : Terms) → IsProduct o → Is o ts t → ⊥
  pub not_quotient : (a b : Term) (q : Rational) → Is2 RealDiv a b t → Written b q → is_zero q ≡ false → ⊥

mutual
  pub data Expands : Term → Products → Type 0 where
    number : {t : Term} {q : Rational} → Written t q → Expands t ((q, []) ∷ [])
    vector : (i v w : ℕ) → Expands (bitvector i v w) ((Rational.whole (pos v), []) ∷ [])
    atom : {t : Term} → Indivisible t → Expands t ((one, t ∷ []) ∷ [])
    sum : {o : ℕ} {ts : Terms} {t : Term} {m : Products} → IsSum o → Is o ts t → ExpandsAll ts m → Expands t m
    real : {t u : Term} {m : Products} → Is1 ToReal t u → Expands t m → Expands u m
    minus :
        {o : ℕ} {t u : Term} {m : Products} → IsMinus o → Is1 o t u → Expands t m →
        Expands u (scale_each minus_one m)
    difference :
        {o : ℕ} {t u v : Term} {ts : Terms} {m n : Products} → IsDifference o → Is o (t ▹ u ▹ ts) v → Expands t m →
        ExpandsAll (u ▹ ts) n → Expands v (m ++ scale_each minus_one n)
    product : {o : ℕ} {ts : Terms} {t : Term} {m : Products} → IsProduct o → Is o ts t → Factors ts m → Expands t m
    quotient :
        {a b t : Term} {q : Rational} {m : Products} → Is2 RealDiv a b t → Written b q → is_zero q ≡ false →
        Expands a m → Expands t (scale_each (div_q one q) m)

  pub data ExpandsAll : Terms → Products → Type 0 where
    none : ExpandsAll nil []
    next : {t : Term} {ts : Terms} {m n : Products} → Expands t m → ExpandsAll ts n → ExpandsAll (t ▹ ts) (m ++ n)

  pub data Factors : Terms → Products → Type 0 where
    no_factor : Factors nil ((one, []) ∷ [])
    factor : {t : Term} {ts : Terms} {m n : Products} → Expands t m → Factors ts n → Factors (t ▹ ts) (multiply m n)

-- whether an atom stands in a product, and the product without it
unfoldable pub without : Term → List Term → List Term
without t [] = []
without t (u ∷ ts) = elim (same t u) [ true ↦ ts | false ↦ u ∷ without t ts ]

unfoldable pub occurs : Term → List Term → Bool
occurs t [] = false
occurs t (u ∷ ts) = same t u || occurs t ts

-- the same atoms, each as often, in any order
unfoldable pub same_atoms : List Term → List Term → Bool
same_atoms [] [] = true
same_atoms [] (u ∷ us) = false
same_atoms (t ∷ ts) us = occurs t us && same_atoms ts (without t us)

-- what the coefficients of a monomial add up to
unfoldable pub coefficient_in : List Term → Products → Rational
coefficient_in ts [] = nought
coefficient_in ts (e ∷ m) = elim (same_atoms e.1 ts) [
  | true ↦ add_q e.0 (coefficient_in ts m)
  | false ↦ coefficient_in ts m
]
