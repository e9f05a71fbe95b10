-- Closed steps that hold the Alethe side in place: terms of one book, each with its record number, and clauses with
-- arguments made of them. proofs/AletheExamples shows which of them the specification's words accept,
-- proofs/AletheRefusals and AletheNearMisses which they must not, proofs/AletheDepartures which a departure decides.
use Rattle.std.specs.Prelude.{List, [], ◌∷◌, ℕ, pos, negsuc}
use Rattle.numbers.specs.Rational.{frac, gcd_within, gcd, lowest, mul_q, div_q, add_q, neg_q, abs_q, floor_q}
use Rattle.numbers.specs.Rational.{is_integer}
use Rattle.numbers.specs.Rational.{is_zero, is_positive, less_q, less_eq_q}
use Rattle.terms.specs.Operator.{Not, And, Or, Equals, LessThan, LessEq, GreaterThan, GreaterEq, Add, Sub, Mult}
use Rattle.terms.specs.Operator.{RealDiv, ToReal, BvAdd, BvSub, BvMul}
use Rattle.terms.specs.Term.{Term, all, gives, sort}
use Rattle.numbers.specs.Choice.{when◌then◌else◌}
use Rattle.terms.specs.Term.Sort.{bool, int, real, bits}
use Rattle.terms.specs.Term.Term.{integer, rational, bitvector, atom, op}
use Rattle.terms.specs.Term.Terms.{nil, ◌▹◌}
use Rattle.alethe.specs.AletheTerms.{times_each, coefficient_of, all_int_in, scale_each, times_one, multiply, without}
use Rattle.alethe.specs.AletheTerms.{occurs, same_atoms, coefficient_in}
use Rattle.alethe.specs.Alethe.{Clause, all_terms, sum_bound, joined, contradicts}

-- (o a b) as record i
abbrev pub two : ℕ → ℕ → Term → Term → Term
two i o a b = op i o (a ▹ b ▹ nil)

-- (not t)
abbrev pub opposite : ℕ → Term → Term
opposite i t = op i Not (t ▹ nil)

-- (not (o a b)) as records i and j
abbrev pub not_two : ℕ → ℕ → ℕ → Term → Term → Term
not_two i j o a b = opposite i (two j o a b)

-- ---- atoms and constants

abbrev pub x : Term
x = atom 0 int 0

abbrev pub y : Term
y = atom 1 int 1

abbrev pub z : Term
z = atom 2 int 2

-- (f a) and (f b), which are atoms to the rules
abbrev pub fa : Term
fa = atom 3 int 3

abbrev pub fb : Term
fb = atom 4 int 4

abbrev pub u : Term
u = atom 5 real 5

abbrev pub p : Term
p = atom 6 bool 6

abbrev pub v : Term
v = atom 7 (bits 8) 7

abbrev pub zero : Term
zero = integer 8 (pos 0)

abbrev pub one : Term
one = integer 9 (pos 1)

abbrev pub twice : Term
twice = integer 10 (pos 2)

abbrev pub three : Term
three = integer 11 (pos 3)

abbrev pub five : Term
five = integer 12 (pos 5)

abbrev pub minus_one : Term
minus_one = integer 13 (negsuc 0)

abbrev pub half : Term
half = rational 14 (frac (pos 1) (pos 2))

-- #x80 and #x00
abbrev pub x80 : Term
x80 = bitvector 15 128 8

abbrev pub x00 : Term
x00 = bitvector 16 0 8

abbrev pub w : Term
w = atom 17 (bits 8) 17

-- ---- la_generic: a clause and its arguments

-- K1, over integers: (not (< x 3)), (not (> x 2))
abbrev pub between : Clause
between = not_two 21 20 LessThan x three ∷ not_two 23 22 GreaterThan x twice ∷ []

abbrev pub ones : List Term
ones = one ∷ one ∷ []

-- the specification's example: (not (> (f a) (f b))), (not (= (f a) (f b)))
abbrev pub functions : Clause
functions = not_two 25 24 GreaterThan fa fb ∷ not_two 27 26 Equals fa fb ∷ []

abbrev pub one_and_minus_one : List Term
one_and_minus_one = one ∷ minus_one ∷ []

-- an integer is not 1/2, with arguments that make the bound whole: (not (>= x 1/2)), (not (<= x 1/2))
abbrev pub halves : Clause
halves = not_two 29 28 GreaterEq x half ∷ not_two 31 30 LessEq x half ∷ []

abbrev pub twos : List Term
twos = twice ∷ twice ∷ []

-- over reals: (not (<= u 1)), (not (>= u 2))
abbrev pub reals : Clause
reals = not_two 33 32 LessEq u one ∷ not_two 35 34 GreaterEq u twice ∷ []

-- the sum of > and >=: (not (> u 0)), (not (<= u 0))
abbrev pub joint : Clause
joint = not_two 37 36 GreaterThan u zero ∷ not_two 39 38 LessEq u zero ∷ []

-- K10, which is not valid: (not (>= x 1)), (not (<= x 1)) with 1/2 and 1/2
abbrev pub at_one : Clause
at_one = not_two 41 40 GreaterEq x one ∷ not_two 43 42 LessEq x one ∷ []

abbrev pub half_and_half : List Term
half_and_half = half ∷ half ∷ []

-- arguments of the wrong sign: (not (= x 1)), (not (<= x 0)) with -1 and 1
abbrev pub wrong_sign : Clause
wrong_sign = not_two 45 44 Equals x one ∷ not_two 47 46 LessEq x zero ∷ []

abbrev pub minus_one_and_one : List Term
minus_one_and_one = minus_one ∷ one ∷ []

-- products of atoms are atoms: (not (< (* x y) (* y x)))
abbrev pub xy : Term
xy = two 48 Mult x y

abbrev pub yx : Term
yx = two 49 Mult y x

abbrev pub nonlinear : Clause
nonlinear = not_two 51 50 LessThan xy yx ∷ []

-- one argument too many
abbrev pub three_ones : List Term
three_ones = one ∷ one ∷ one ∷ []

-- no literals: (= x 1), and (< x y z)
abbrev pub positive_equality : Term
positive_equality = two 44 Equals x one

abbrev pub chained : Term
chained = op 52 LessThan (x ▹ y ▹ z ▹ nil)

-- raised by the greatest common divisor: (not (> (* 2 x) 0)), (not (<= (* 2 x) 1))
abbrev pub twice_x : Term
twice_x = two 71 Mult twice x

abbrev pub doubled : Clause
doubled = not_two 91 90 GreaterThan twice_x zero ∷ not_two 93 92 LessEq twice_x one ∷ []

-- > times 0, which is not valid: (not (> u 0)) with 0
abbrev pub positive : Clause
positive = not_two 37 36 GreaterThan u zero ∷ []

-- no numbers: (not (= p p)), (not (= 0 5))
abbrev pub zero_is_not_five : Term
zero_is_not_five = not_two 97 96 Equals zero five

abbrev pub truths : Clause
truths = not_two 95 94 Equals p p ∷ zero_is_not_five ∷ []

-- ---- la_tautology

-- K8: (not (= 5 0))
abbrev pub five_is_not_zero : Term
five_is_not_zero = not_two 54 53 Equals five zero

-- (<= 1 2)
abbrev pub one_below_two : Term
one_below_two = two 55 LessEq one twice

-- (<= x 1), (<= x 2)
abbrev pub below_one : Term
below_one = two 42 LessEq x one

abbrev pub below_two : Term
below_two = two 56 LessEq x twice

-- (or (not (<= x 1)) (<= x 2))
abbrev pub bounds : Term
bounds = two 57 Or (opposite 43 below_one) below_two

-- (or (<= x 1) (not (<= x 1)))
abbrev pub either : Term
either = two 58 Or below_one (opposite 43 below_one)

-- (or (<= x 1) (<= x 2))
abbrev pub unbounded : Term
unbounded = two 59 Or below_one below_two

-- a bound that is no number: (or (<= x y) (not (<= x y)))
abbrev pub either_of_two : Term
either_of_two = two 98 Or (two 61 LessEq x y) (not_two 65 61 LessEq x y)

-- a bound that is a quotient: (or (not (<= x (/ 1 2))) (<= x 1))
abbrev pub one_half : Term
one_half = two 99 RealDiv one twice

abbrev pub above_half : Term
above_half = not_two 101 100 LessEq x one_half

abbrev pub half_bound : Term
half_bound = two 102 Or above_half below_one

-- the bounds the wrong way round: (or (not (<= x 2)) (<= x 1))
abbrev pub swapped : Term
swapped = two 104 Or (opposite 103 below_two) below_one

-- the bounds not apart: (or (not (<= x 2)) (not (>= x 2)))
abbrev pub touching : Term
touching = two 107 Or (opposite 103 below_two) (not_two 106 105 GreaterEq x twice)

-- ---- la_rw_eq, la_disequality, la_totality

abbrev pub x_is_y : Term
x_is_y = two 60 Equals x y

abbrev pub x_below_y : Term
x_below_y = two 61 LessEq x y

abbrev pub y_below_x : Term
y_below_x = two 62 LessEq y x

-- (= (= x y) (and (<= x y) (<= y x)))
abbrev pub rewritten : Term
rewritten = two 64 Equals x_is_y (two 63 And x_below_y y_below_x)

-- (or (= x y) (not (<= x y)) (not (<= y x)))
abbrev pub disequality : Term
disequality = op 67 Or (x_is_y ▹ opposite 65 x_below_y ▹ opposite 66 y_below_x ▹ nil)

-- (or (<= x y) (<= y x))
abbrev pub total : Term
total = two 68 Or x_below_y y_below_x

-- ---- poly_simp

-- (= (* 2 (+ x y)) (+ (* 2 x) (* 2 y)))
abbrev pub distributed : Term
distributed =
    two 74 Equals (two 70 Mult twice (two 69 Add x y)) (two 73 Add (two 71 Mult twice x) (two 72 Mult twice y))

-- K9: (= (bvmul #x80 (bvadd v v)) #x00)
abbrev pub vanishing : Term
vanishing = two 77 Equals (two 76 BvMul x80 (two 75 BvAdd v v)) x00

-- (= (not (not p)) p)
abbrev pub double_negation : Term
double_negation = two 80 Equals (opposite 79 (opposite 78 p)) p

-- (= (* x x) x)
abbrev pub squared : Term
squared = two 82 Equals (two 81 Mult x x) x

-- (= p p)
abbrev pub itself : Term
itself = two 94 Equals p p

-- (= (+ x y) (- x y))
abbrev pub sum_is_difference : Term
sum_is_difference = two 108 Equals (two 69 Add x y) (two 83 Sub x y)

-- (= (/ x 2) (* 2 x))
abbrev pub half_is_double : Term
half_is_double = two 110 Equals (two 109 RealDiv x twice) twice_x

-- ---- poly_simp_rel: from (= (* 2 (- x y)) (* 3 (- (f a) (f b)))) follows (= (<= x y) (<= (f a) (f b)))

abbrev pub multiples : Term
multiples = two 87 Equals (two 84 Mult twice (two 83 Sub x y)) (two 86 Mult three (two 85 Sub fa fb))

abbrev pub related : Term
related = two 89 Equals x_below_y (two 88 LessEq fa fb)

-- to_real over a difference: from (= (* 1 (to_real (- x y))) (* 1 (- x y))) follows (= (< x y) (< x y))
abbrev pub x_minus_y : Term
x_minus_y = two 83 Sub x y

abbrev pub real_multiples : Term
real_multiples = two 114 Equals (two 112 Mult one (op 111 ToReal (x_minus_y ▹ nil))) (two 113 Mult one x_minus_y)

abbrev pub x_less_y : Term
x_less_y = two 115 LessThan x y

abbrev pub less_is_less : Term
less_is_less = two 116 Equals x_less_y x_less_y

-- the constant 0: from (= (* 0 (- x y)) (* 3 (- (f a) (f b))))
abbrev pub zero_multiple : Term
zero_multiple = two 118 Equals (two 117 Mult zero x_minus_y) (two 86 Mult three (two 85 Sub fa fb))

-- constants of two signs: from (= (* -1 (- x y)) (* 3 (- (f a) (f b)))) would follow (= (< x y) (< (f a) (f b)))
abbrev pub two_signs : Term
two_signs = two 120 Equals (two 119 Mult minus_one x_minus_y) (two 86 Mult three (two 85 Sub fa fb))

abbrev pub fa_less_fb : Term
fa_less_fb = two 121 LessThan fa fb

abbrev pub related_less : Term
related_less = two 122 Equals x_less_y fa_less_fb

-- an even constant: from (= (bvmul #x80 (bvsub v w)) (bvmul #x80 (bvsub v v))) would follow (= (= v w) (= v v))
abbrev pub even_multiples : Term
even_multiples =
    two 127 Equals (two 124 BvMul x80 (two 123 BvSub v w)) (two 126 BvMul x80 (two 125 BvSub v v))

abbrev pub equal_vectors : Term
equal_vectors = two 130 Equals (two 128 Equals v w) (two 129 Equals v v)

-- two relations: (= (<= x y) (< (f a) (f b)))
abbrev pub mixed : Term
mixed = two 131 Equals x_below_y fa_less_fb

-- ---- one name that opens all that the Alethe side's tests go through: a closed example says `unfolding alethe`

unfoldable pub alethe : Unit {0}
unfolding gcd_within gcd lowest mul_q div_q add_q neg_q abs_q floor_q is_integer is_zero is_positive less_q less_eq_q
    when◌then◌else◌ all gives sort times_each coefficient_of all_int_in scale_each times_one multiply without occurs
    same_atoms coefficient_in all_terms sum_bound joined contradicts
alethe = tt
