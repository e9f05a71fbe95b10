-- The arithmetic rules as the Alethe specification words them: what a step of each rule claims of its clause, by the
-- form of its terms alone. Nothing here follows the Rust. A rule takes the departures that are granted as a parameter
-- (`by`): with none (`words`) it is the specification's own text; with all (`carcara`) every step that Carcara accepts
-- meets it, and Carcara refuses no other that does but for the differences in AletheDifferences. docs/DIFFERENCES.md
-- has the smallest input of each.
use Rattle.std.specs.Prelude.{◌≡◌, Bool, true, false, ◌||◌, not, List, [], ◌∷◌, ◌++◌, ◌⊎◌, ℕ, ◌≤◌, ◌%◌, ◌^◌, T, ℤ}
use Rattle.std.specs.Prelude.{pos, ◌*ℤ◌}
use Rattle.numbers.specs.Rational.{Rational, whole, add_q, mul_q, neg_q, abs_q, floor_q, modulo, is_integer, is_zero}
use Rattle.numbers.specs.Rational.{is_positive, less_q, less_eq_q}
use Rattle.terms.specs.Operator.{Not, And, Or, Equals, LessThan, LessEq, GreaterThan, GreaterEq, Sub, Mult}
use Rattle.terms.specs.Operator.{ToReal, BvSub, BvMul}
use Rattle.terms.specs.Term.{Term, Terms, sort, is_numeric}
use Rattle.terms.specs.Term.Sort.{bool, bits}
use Rattle.terms.specs.Term.Term.{bitvector}
use Rattle.terms.specs.Term.Terms.{nil, ◌▹◌}
use Rattle.terms.specs.Smtlib.{Assignment, holds}
pub use Rattle.alethe.specs.AletheTerms.{Departure, Departures, words, carcara, Is, is, Is1, Is2, Is3}
pub use Rattle.alethe.specs.AletheTerms.{IsNot2, IsRelation, equals, less_than, less_eq, greater_than}
pub use Rattle.alethe.specs.AletheTerms.{greater_eq, Written}
use Rattle.alethe.specs.AletheTerms.{Entries, Sum, Linear, times_each, nought, one, minus_one, coefficient_of}
use Rattle.alethe.specs.AletheTerms.{Cancels, all_int_in, Products, Expands, coefficient_in}

abbrev pub Clause : Type 0
Clause = List Term

-- a clause holds in every model
abbrev pub Valid : Clause → Type 0
Valid c = (ρ : Assignment) → T (holds ρ c)

-- ---- la_rw_eq: (= (= t u) (and (<= t u) (<= u t)))

pub record LaRwEq (phi : Term) : Type 0 where
  pub t : Term
  pub u : Term
  pub left : Term
  pub right : Term
  pub first : Term
  pub second : Term
  pub equality : Is2 Equals t u left
  pub below : Is2 LessEq t u first
  pub above : Is2 LessEq u t second
  pub conjunction : Is2 And first second right
  pub conclusion : Is2 Equals left right phi

-- ---- la_disequality: (or (= t1 t2) (not (<= t1 t2)) (not (<= t2 t1)))

pub record LaDisequality (phi : Term) : Type 0 where
  pub t1 : Term
  pub t2 : Term
  pub first : Term
  pub second : Term
  pub third : Term
  pub equality : Is2 Equals t1 t2 first
  pub not_below : IsNot2 LessEq t1 t2 second
  pub not_above : IsNot2 LessEq t2 t1 third
  pub conclusion : Is3 Or first second third phi

-- ---- la_totality: (or (<= t1 t2) (<= t2 t1))

pub record LaTotality (phi : Term) : Type 0 where
  pub t1 : Term
  pub t2 : Term
  pub first : Term
  pub second : Term
  pub below : Is2 LessEq t1 t2 first
  pub above : Is2 LessEq t2 t1 second
  pub conclusion : Is2 Or first second phi

-- ---- la_generic

-- s ⋈ d, with ⋈ one of =, >=, >
pub data Relation : Type 0 where
  eq ge gt : Relation

pub record Constraint : Type 0 where
  pub terms : Entries
  pub relation : Relation
  pub bound : Rational

abbrev pub constraint : Entries → Relation → Rational → Constraint
constraint es r d = record { terms = es; relation = r; bound = d }

-- steps 1 and 2: the literal is the opposite of (o ts), as its negation or as the opposite relation; a positive
-- equality is neither
pub data Turns : ℕ → ℕ → Type 0 where
  less : Turns LessThan GreaterEq
  greater : Turns GreaterThan LessEq
  less_equal : Turns LessEq GreaterThan
  greater_equal : Turns GreaterEq LessThan

pub data Opposite (ts : Terms) (phi : Term) (o : ℕ) : Type 0 where
  negation : (body : Term) → IsRelation o → Is o ts body → Is1 Not body phi → Opposite ts phi o
  turned : (p : ℕ) → Turns p o → Is p ts phi → Opposite ts phi o

-- (o a b) is x ⋈ y: < and <= are turned round
pub data Oriented (a b : Term) : ℕ → Relation → Term → Term → Type 0 where
  as-equals : Oriented a b Equals eq a b
  as-greater : Oriented a b GreaterThan gt a b
  as-greater_eq : Oriented a b GreaterEq ge a b
  turned-less : Oriented a b LessThan gt b a
  turned-less_eq : Oriented a b LessEq ge b a

pub data Numbers (by : Departures) (a b : Term) : Type 0 where
  numbers : is_numeric (sort a) ≡ true → is_numeric (sort b) ≡ true → Numbers by a b
  other_sort : by Departure.other_sort → Numbers by a b

-- step 3: with the constants apart, x is Σ c t + d1 and y is Σ c' t' + d2, and the literal becomes Σ c t - Σ c' t' ⋈
-- d2 - d1
pub record States (by : Departures) (phi : Term) (k : Constraint) : Type 0 where
  pub o : ℕ
  pub a : Term
  pub b : Term
  pub x : Term
  pub y : Term
  pub left : Sum
  pub right : Sum
  pub opposite : Opposite (a ▹ b ▹ nil) phi o
  pub sorts : Numbers by a b
  pub oriented : Oriented a b o k.relation x y
  pub left_sum : Linear x left
  pub right_sum : Linear y right
  pub terms : k.terms ≡ left.terms ++ times_each minus_one right.terms
  pub bound : k.bound ≡ add_q right.constant (neg_q left.constant)

-- every coefficient, and the bound rounded down, is a whole multiple of g
pub record Common (g : ℕ) (k : Constraint) : Type 0 where
  pub coefficients : (i : ℕ) → (z : ℤ) × (coefficient_of i k.terms ≡ whole (z *ℤ pos g))
  pub bound : (z : ℤ) × (floor_q k.bound ≡ whole (z *ℤ pos g))

abbrev pub all_int : Constraint → Bool
all_int k = all_int_in k.terms k.terms

-- s >= ⌊d⌋ + n
abbrev pub raised_by : ℕ → Constraint → Constraint
raised_by n k = constraint k.terms ge (add_q (floor_q k.bound) (whole (pos n)))

-- whether a · d is whole
abbrev pub whole_times : Rational → Constraint → Bool
whole_times a k = is_integer (mul_q k.bound a)

-- step 4, the table: if all atoms are of sort Int, s > d becomes s >= d + 1 where d is whole, s >= ⌊d⌋ + 1 where it
-- is not; s >= d stays where d is whole, and becomes s >= ⌊d⌋ + 1 where it is not. A departure that accepts more
-- stands beside the table's rows; the one that refuses what a row accepts (whole_product) takes its place.
pub data Strengthens (by : Departures) (a : Rational) (k : Constraint) : Constraint → Type 0 where
  not_all_int : all_int k ≡ false → Strengthens by a k k
  equality : k.relation ≡ eq → Strengthens by a k k
  greater_whole :
      all_int k ≡ true → k.relation ≡ gt → is_integer k.bound ≡ true →
      Strengthens by a k (constraint k.terms ge (add_q k.bound one))
  greater_fraction :
      all_int k ≡ true → k.relation ≡ gt → is_integer k.bound ≡ false → Strengthens by a k (raised_by 1 k)
  at_least_whole : all_int k ≡ true → k.relation ≡ ge → is_integer k.bound ≡ true → Strengthens by a k k
  at_least_fraction :
      all_int k ≡ true → k.relation ≡ ge → is_integer k.bound ≡ false →
      (by Departure.whole_product → whole_times a k ≡ false) → Strengthens by a k (raised_by 1 k)
  -- where a · d is whole and, if no atom is left, d is positive
  divisor :
      by Departure.divisor → all_int k ≡ true → k.relation ≡ gt → whole_times a k ≡ true →
      (Cancels k.terms → is_positive k.bound ≡ true) → (g : ℕ) → 1 ≤ g → Common g k →
      ((h : ℕ) → Common h k → h ≤ g) → Strengthens by a k (raised_by g k)
  whole_product :
      by Departure.whole_product → all_int k ≡ true → k.relation ≡ ge → whole_times a k ≡ true → Strengthens by a k k
  fractional_product :
      by Departure.fractional_product → all_int k ≡ true → k.relation ≡ ge → whole_times a k ≡ false →
      Strengthens by a k (raised_by 1 k)

-- step 5: both sides times a for =, times |a| otherwise
abbrev pub factor : Relation → Rational → Rational
factor eq a = a
factor ge a = abs_q a
factor gt a = abs_q a

-- the relation stays. The words keep > under the argument 0 too, which is unsound; Carcara does not
pub data ScaledRelation (by : Departures) (a : Rational) : Relation → Relation → Type 0 where
  stays : (r : Relation) → (by Departure.argument_zero → r ≡ gt → is_zero a ≡ false) → ScaledRelation by a r r
  argument_zero : by Departure.argument_zero → is_zero a ≡ true → ScaledRelation by a gt ge

-- one literal with its argument
pub record Line (by : Departures) (phi : Term) (a : Rational) (k : Constraint) : Type 0 where
  pub negated : Constraint
  pub strong : Constraint
  pub states : States by phi negated
  pub strengthens : Strengthens by a negated strong
  pub relation : ScaledRelation by a strong.relation k.relation
  pub terms : k.terms ≡ times_each (factor strong.relation a) strong.terms
  pub bound : k.bound ≡ mul_q (factor strong.relation a) strong.bound

pub data Lines (by : Departures) : Clause → List Rational → List Constraint → Type 0 where
  end : Lines by [] [] []
  line :
      {phi : Term} {a : Rational} {k : Constraint} {c : Clause} {as' : List Rational} {ks : List Constraint} →
      Line by phi a k → Lines by c as' ks → Lines by (phi ∷ c) (a ∷ as') (k ∷ ks)

-- step 6: all are added up
unfoldable pub all_terms : List Constraint → Entries
all_terms [] = []
all_terms (k ∷ ks) = k.terms ++ all_terms ks

unfoldable pub sum_bound : List Constraint → Rational
sum_bound [] = nought
sum_bound (k ∷ ks) = add_q k.bound (sum_bound ks)

-- of two: = if both are =, > if both are = or >, >= otherwise
abbrev pub weaker : Relation → Relation → Relation
weaker eq r = r
weaker ge r = ge
weaker gt eq = gt
weaker gt ge = ge
weaker gt gt = gt

-- > if one is >, else >= if one is >=
abbrev pub stronger : Relation → Relation → Relation
stronger eq r = r
stronger ge eq = ge
stronger ge ge = ge
stronger ge gt = gt
stronger gt r = gt

unfoldable pub joined : (Relation → Relation → Relation) → List Constraint → Relation
joined f [] = eq
joined f (k ∷ ks) = f k.relation (joined f ks)

pub data Joins (by : Departures) (ks : List Constraint) : Relation → Type 0 where
  as_worded : Joins by ks (joined weaker ks)
  join : by Departure.join → Joins by ks (joined stronger ks)

-- 0 ⋈ d is false
unfoldable pub contradicts : Relation → Rational → Bool
contradicts eq d = not (is_zero d)
contradicts ge d = is_positive d
contradicts gt d = is_positive d || is_zero d

pub record LaGeneric (by : Departures) (c : Clause) (as' : List Rational) : Type 0 where
  pub constraints : List Constraint
  pub lines : Lines by c as' constraints
  pub cancels : Cancels (all_terms constraints)
  pub relation : Relation
  pub joins : Joins by constraints relation
  pub contradiction : contradicts relation (sum_bound constraints) ≡ true

-- a step's arguments are numbers
pub data Arguments : List Term → List Rational → Type 0 where
  end : Arguments [] []
  argument :
      {a : Term} {q : Rational} {args : List Term} {qs : List Rational} → Written a q → Arguments args qs →
      Arguments (a ∷ args) (q ∷ qs)

-- bounded_farkas is Carcara's: la_generic with the numbers that were inferred behind the arguments that are given
pub data BoundedFarkas (by : Departures) (c : Clause) (args : List Term) (inferred : List Rational) : Type 0 where
  completed :
      (qs : List Rational) → Arguments args qs → LaGeneric by c (qs ++ inferred) → BoundedFarkas by c args inferred
  surplus_arguments :
      by Departure.surplus_arguments → (qs surplus : List Rational) → Arguments args (qs ++ surplus) → inferred ≡ [] →
      LaGeneric by c qs → BoundedFarkas by c args inferred

-- ---- la_tautology: a comparison that steps 1 to 3 refute, or (or phi1 phi2) in one of five forms with numbers d1, d2

pub data Bound (by : Departures) (d : Term) : Type 0 where
  number : (q : Rational) → Written d q → Bound by d
  any_bound : by Departure.any_bound → Bound by d

pub data BoundsForm (by : Departures) (phi1 phi2 : Term) : Type 0 where
  below :
      (s d1 d2 : Term) (q1 q2 : Rational) → IsNot2 LessEq s d1 phi1 → Is2 LessEq s d2 phi2 →
      Written d1 q1 → Written d2 q2 → T (less_eq_q q1 q2) → BoundsForm by phi1 phi2
  below_or_not : (s d : Term) → Is2 LessEq s d phi1 → IsNot2 LessEq s d phi2 → Bound by d → BoundsForm by phi1 phi2
  above :
      (s d1 d2 : Term) (q1 q2 : Rational) → IsNot2 GreaterEq s d1 phi1 → Is2 GreaterEq s d2 phi2 →
      Written d1 q1 → Written d2 q2 → T (less_eq_q q2 q1) → BoundsForm by phi1 phi2
  above_or_not :
      (s d : Term) → Is2 GreaterEq s d phi1 → IsNot2 GreaterEq s d phi2 → Bound by d → BoundsForm by phi1 phi2
  apart :
      (s d1 d2 : Term) (q1 q2 : Rational) → IsNot2 LessEq s d1 phi1 → IsNot2 GreaterEq s d2 phi2 →
      Written d1 q1 → Written d2 q2 → T (less_q q1 q2) → BoundsForm by phi1 phi2

pub data LaTautology (by : Departures) (phi : Term) : Type 0 where
  comparison :
      (k : Constraint) → States by phi k → Cancels k.terms → contradicts k.relation k.bound ≡ true →
      LaTautology by phi
  bounds : (phi1 phi2 : Term) → Is2 Or phi1 phi2 phi → BoundsForm by phi1 phi2 → LaTautology by phi

-- ---- poly_simp: (= t s), where t and s are one polynomial over the integers, the reals, or modulo 2^width

pub data SamePolynomial (by : Departures) (t s : Term) (m n : Products) : Type 0 where
  numbers :
      is_numeric (sort t) ≡ true → is_numeric (sort s) ≡ true →
      ((ts : List Term) → coefficient_in ts m ≡ coefficient_in ts n) → SamePolynomial by t s m n
  -- modulo 2^width; the coefficients are whole
  vectors :
      (w : ℕ) → sort t ≡ bits w → sort s ≡ bits w →
      ((ts : List Term) → modulo (coefficient_in ts m).num (2 ^ w) ≡ modulo (coefficient_in ts n).num (2 ^ w)) →
      SamePolynomial by t s m n
  other_sort :
      by Departure.other_sort → sort t ≡ bool → ((ts : List Term) → coefficient_in ts m ≡ coefficient_in ts n) →
      SamePolynomial by t s m n

pub record PolySimp (by : Departures) (phi : Term) : Type 0 where
  pub t : Term
  pub s : Term
  pub left : Products
  pub right : Products
  pub conclusion : Is2 Equals t s phi
  pub left_side : Expands t left
  pub right_side : Expands s right
  pub same : SamePolynomial by t s left right

-- ---- poly_simp_rel: from (= (* c1 (- x1 x2)) (* c2 (- y1 y2))) follows (= (o x1 x2) (o y1 y2))

pub data Difference (by : Departures) (x y : Term) : Term → Type 0 where
  plain : {d : Term} → Is2 Sub x y d → Difference by x y d
  real_difference : by Departure.real_difference → {d e : Term} → Is2 Sub x y d → Is1 ToReal d e → Difference by x y e

-- numbers that are not zero, of one sign unless the relation is equality
pub record ScaledNumbers (by : Departures) (o : ℕ) (premise : Term) (x1 x2 y1 y2 : Term) : Type 0 where
  pub c1 : Term
  pub c2 : Term
  pub dx : Term
  pub dy : Term
  pub left : Term
  pub right : Term
  pub q1 : Rational
  pub q2 : Rational
  pub first : Written c1 q1
  pub second : Written c2 q2
  pub first_nonzero : is_zero q1 ≡ false
  pub second_nonzero : is_zero q2 ≡ false
  pub same_sign : (o ≡ Equals) ⊎ (is_positive q1 ≡ is_positive q2)
  pub left_difference : Difference by x1 x2 dx
  pub right_difference : Difference by y1 y2 dy
  pub left_product : Is2 Mult c1 dx left
  pub right_product : Is2 Mult c2 dy right
  pub equation : Is2 Equals left right premise

-- bit-vectors: odd constants, and the relation is equality
pub record ScaledVectors (o : ℕ) (premise : Term) (x1 x2 y1 y2 : Term) : Type 0 where
  pub dx : Term
  pub dy : Term
  pub left : Term
  pub right : Term
  pub i1 : ℕ
  pub i2 : ℕ
  pub n1 : ℕ
  pub n2 : ℕ
  pub w1 : ℕ
  pub w2 : ℕ
  pub first_odd : n1 % 2 ≡ 1
  pub second_odd : n2 % 2 ≡ 1
  pub relation : o ≡ Equals
  pub left_difference : Is2 BvSub x1 x2 dx
  pub right_difference : Is2 BvSub y1 y2 dy
  pub left_product : Is2 BvMul (bitvector i1 n1 w1) dx left
  pub right_product : Is2 BvMul (bitvector i2 n2 w2) dy right
  pub equation : Is2 Equals left right premise

pub record PolySimpRel (by : Departures) (premise phi : Term) : Type 0 where
  pub o : ℕ
  pub relation : IsRelation o
  pub x1 : Term
  pub x2 : Term
  pub y1 : Term
  pub y2 : Term
  pub left : Term
  pub right : Term
  pub premise_form : ScaledNumbers by o premise x1 x2 y1 y2 ⊎ ScaledVectors o premise x1 x2 y1 y2
  pub left_side : Is2 o x1 x2 left
  pub right_side : Is2 o y1 y2 right
  pub conclusion : Is2 Equals left right phi

-- ---- what la_generic's soundness asks: where all atoms are Int, whole coefficients, and a whole argument too where
-- ---- `fractional_product` is granted

abbrev pub WholeLine : Departures → Term → Rational → Type 0
WholeLine by phi a =
    (k : Constraint) → States by phi k → all_int k ≡ true →
    ((i : ℕ) → is_integer (coefficient_of i k.terms) ≡ true) × (by Departure.fractional_product → is_integer a ≡ true)

pub data WholeLines (by : Departures) : Clause → List Rational → Type 0 where
  end : WholeLines by [] []
  also :
      {phi : Term} {a : Rational} {c : Clause} {as' : List Rational} → WholeLine by phi a → WholeLines by c as' →
      WholeLines by (phi ∷ c) (a ∷ as')
