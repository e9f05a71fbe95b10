-- What each operator means, on closed terms under one assignment: for every operator a case of each answer, chains of
-- three that are broken at each pair, both truth values of an atom, and the edges of each sort. The values are worked
-- out from SMT-LIB's theories and document 01's 'Meaning'.
use Rattle.std.specs.Prelude.{◌≡◌, refl, Bool, true, false, ◌&&◌, cond, List, [], ◌∷◌, ℕ, suc, eqb, ℤ, pos, negsuc}
use Rattle.std.proofs.Common.{zero-lt-suc}
use Rattle.numbers.specs.Pair.{pair, eq_p}
use Rattle.numbers.specs.Rational as Rational
use Rattle.numbers.specs.Rational.{frac}
use Rattle.terms.specs.Operator.{Not, And, Or, Equals, LessThan, LessEq, GreaterThan, GreaterEq, Add, Sub, Mult}
use Rattle.terms.specs.Operator.{IntDiv, RealDiv, ToReal, BvAdd, BvSub, BvNeg, BvMul}
use Rattle.terms.specs.Term.{Term, Terms}
use Rattle.terms.specs.Term.Sort.{bool, int, real, bits}
use Rattle.terms.specs.Term.Term.{integer, rational, bitvector, atom, op}
use Rattle.terms.specs.Term.Terms.{nil, ◌▹◌}
use Rattle.terms.specs.Smtlib.{Assignment, as_pair, value, meaning, every, any, chain, fold_left, sum_z}
use Rattle.terms.specs.Smtlib.{product_z, holds, divs_even}
use Rattle.terms.specs.BookExamples.{reads}

-- ---- the terms: x is 5, u is 17/2, s is -1/2, p is true, q is false, v has 8 bits and is 200, b has one bit and is 1

x : Term
x = atom 0 int 0

u : Term
u = atom 1 real 0

s : Term
s = atom 2 real 1

p : Term
p = atom 3 bool 0

q : Term
q = atom 4 bool 1

v : Term
v = atom 5 (bits 8) 0

b : Term
b = atom 6 (bits 1) 0

-- a number far outside the checker's range
large : Term
large = atom 7 int 1

-- record numbers of constants do not matter to a value
abbrev n : ℕ → Term
n k = integer 100 (pos k)

abbrev minus : ℕ → Term
minus k = integer 100 (negsuc k)

half : Term
half = rational 101 (frac (pos 1) (pos 2))

third : Term
third = rational 102 (frac (pos 1) (pos 3))

abbrev byte : ℕ → Term
byte k = bitvector 103 k 8

-- an operation is record 50 where its value is its own
infix 30 ◌of◌
abbrev ◌of◌ : ℕ → Terms → Term
o of ts = op 50 o ts

ρ : Assignment
ρ =
    record {
      truths = λ i. eqb i 3;
      integers = λ i. cond (eqb i 0) (pos 5) (cond (eqb i 7) (pos 100000000000000000000) (negsuc 8));
      reals = λ i.
          cond (eqb i 1) (pair (pos 17) 2 (zero-lt-suc 1))
          (cond (eqb i 2) (pair (negsuc 0) 2 (zero-lt-suc 1)) (pair (pos 7) 4 (zero-lt-suc 3)));
      vectors = λ i. cond (eqb i 5) 456 3;
    }

-- ---- values: a term and its value n / (1 + d), as a number; a Bool is 0 or 1

abbrev Row : Type 0
Row = Term × ℤ × ℕ

abbrev agrees : Row → Bool
agrees r = eq_p (as_pair (value ρ r.0)) (pair r.1 (suc r.2) (zero-lt-suc r.2))

abbrev all_agree : List Row → Bool
all_agree [] = true
all_agree (r ∷ l) = agrees r && all_agree l

abbrev yes : Term → Row
yes t = (t, pos 1, 0)

abbrev no : Term → Row
no t = (t, pos 0, 0)

its_values : List Row
its_values =
    -- atoms, and the edges of the sorts: integers and reals of any size and sign, a bit-vector below 2^width
    yes p
    ∷ no q
    ∷ (x, pos 5, 0)
    ∷ (large, pos 100000000000000000000, 0)
    ∷ (u, pos 17, 1)
    ∷ (s, negsuc 0, 1)
    ∷ (v, pos 200, 0)
    ∷ (b, pos 1, 0)
    ∷ (n 0, pos 0, 0)
    ∷ (minus 2147483646, negsuc 2147483646, 0)
    ∷ (half, pos 1, 1)
    ∷ (byte 255, pos 255, 0)
    -- not, and, or
    ∷ no (Not of (p ▹ nil))
    ∷ yes (Not of (q ▹ nil))
    ∷ yes (And of (p ▹ p ▹ p ▹ nil))
    ∷ no (And of (q ▹ p ▹ p ▹ nil))
    ∷ no (And of (p ▹ q ▹ p ▹ nil))
    ∷ no (And of (p ▹ p ▹ q ▹ nil))
    ∷ no (Or of (q ▹ q ▹ q ▹ nil))
    ∷ yes (Or of (p ▹ q ▹ q ▹ nil))
    ∷ yes (Or of (q ▹ p ▹ q ▹ nil))
    ∷ yes (Or of (q ▹ q ▹ p ▹ nil))
    -- =, of every sort, of Int and Real mixed, and as a chain
    ∷ yes (Equals of (x ▹ n 5 ▹ nil))
    ∷ no (Equals of (x ▹ n 4 ▹ nil))
    ∷ yes (Equals of (p ▹ p ▹ nil))
    ∷ no (Equals of (p ▹ q ▹ nil))
    ∷ yes (Equals of (v ▹ byte 200 ▹ nil))
    ∷ no (Equals of (v ▹ byte 199 ▹ nil))
    ∷ yes (Equals of ((RealDiv of (n 10 ▹ n 2 ▹ nil)) ▹ x ▹ nil))
    ∷ no (Equals of (x ▹ u ▹ nil))
    ∷ yes (Equals of (n 1 ▹ n 1 ▹ n 1 ▹ nil))
    ∷ no (Equals of (n 1 ▹ n 2 ▹ n 2 ▹ nil))
    ∷ no (Equals of (n 1 ▹ n 1 ▹ n 2 ▹ nil))
    ∷ no (Equals of (n 1 ▹ n 2 ▹ n 1 ▹ nil))
    -- <, <=, >, >=
    ∷ yes (LessThan of (x ▹ u ▹ nil))
    ∷ no (LessThan of (n 1 ▹ n 1 ▹ nil))
    ∷ no (LessThan of (n 2 ▹ n 1 ▹ nil))
    ∷ yes (LessThan of (third ▹ half ▹ nil))
    ∷ yes (LessThan of (s ▹ third ▹ nil))
    ∷ yes (LessThan of (n 1 ▹ n 2 ▹ n 3 ▹ nil))
    ∷ no (LessThan of (n 1 ▹ n 1 ▹ n 2 ▹ nil))
    ∷ no (LessThan of (n 1 ▹ n 2 ▹ n 2 ▹ nil))
    ∷ yes (LessEq of (n 1 ▹ n 1 ▹ nil))
    ∷ no (LessEq of (n 2 ▹ n 1 ▹ nil))
    ∷ yes (LessEq of (n 1 ▹ n 2 ▹ n 2 ▹ nil))
    ∷ no (LessEq of (n 2 ▹ n 1 ▹ n 2 ▹ nil))
    ∷ no (LessEq of (n 1 ▹ n 2 ▹ n 1 ▹ nil))
    ∷ yes (GreaterThan of (n 2 ▹ n 1 ▹ nil))
    ∷ no (GreaterThan of (n 1 ▹ n 1 ▹ nil))
    ∷ no (GreaterThan of (n 1 ▹ n 2 ▹ nil))
    ∷ yes (GreaterThan of (n 3 ▹ n 2 ▹ n 1 ▹ nil))
    ∷ no (GreaterThan of (n 3 ▹ n 3 ▹ n 1 ▹ nil))
    ∷ no (GreaterThan of (n 3 ▹ n 1 ▹ n 1 ▹ nil))
    ∷ yes (GreaterEq of (n 1 ▹ n 1 ▹ nil))
    ∷ no (GreaterEq of (n 1 ▹ n 2 ▹ nil))
    ∷ yes (GreaterEq of (n 2 ▹ n 1 ▹ n 1 ▹ nil))
    ∷ no (GreaterEq of (n 1 ▹ n 2 ▹ n 1 ▹ nil))
    ∷ no (GreaterEq of (n 2 ▹ n 1 ▹ n 2 ▹ nil))
    -- +, -, *
    ∷ (Add of (n 1 ▹ x ▹ half ▹ nil), pos 13, 1)
    ∷ (Sub of (n 3 ▹ nil), negsuc 2, 0)
    ∷ (Sub of (n 1 ▹ n 2 ▹ n 3 ▹ nil), negsuc 3, 0)
    ∷ (Mult of (n 2 ▹ s ▹ n 3 ▹ nil), negsuc 2, 0)
    ∷ (Mult of (n 0 ▹ large ▹ nil), pos 0, 0)
    -- div: the exact quotient of two written numbers, a value of its own otherwise
    ∷ (IntDiv of (n 6 ▹ n 3 ▹ nil), pos 2, 0)
    ∷ (IntDiv of (n 7 ▹ minus 1 ▹ nil), negsuc 6, 1)
    ∷ (IntDiv of (n 7 ▹ n 0 ▹ nil), negsuc 8, 0)
    ∷ (IntDiv of (x ▹ n 2 ▹ nil), negsuc 8, 0)
    ∷ (IntDiv of (n 6 ▹ x ▹ nil), negsuc 8, 0)
    -- /: the quotient by a written number that is not 0, a value of its own otherwise
    ∷ (RealDiv of (n 3 ▹ n 2 ▹ nil), pos 3, 1)
    ∷ (RealDiv of (x ▹ minus 1 ▹ nil), negsuc 4, 1)
    ∷ (RealDiv of (u ▹ third ▹ nil), pos 51, 1)
    ∷ (RealDiv of (u ▹ n 0 ▹ nil), pos 7, 3)
    ∷ (RealDiv of (n 3 ▹ x ▹ nil), pos 7, 3)
    -- to_real
    ∷ (ToReal of (x ▹ nil), pos 5, 0)
    ∷ (ToReal of (s ▹ nil), negsuc 0, 1)
    -- bit-vectors, modulo 2^width
    ∷ (BvAdd of (v ▹ byte 55 ▹ nil), pos 255, 0)
    ∷ (BvAdd of (v ▹ byte 55 ▹ byte 1 ▹ nil), pos 0, 0)
    ∷ (BvAdd of (b ▹ b ▹ nil), pos 0, 0)
    ∷ (BvAdd of (bitvector 104 1073741823 30 ▹ bitvector 105 2 30 ▹ nil), pos 1, 0)
    ∷ (BvSub of (v ▹ byte 200 ▹ nil), pos 0, 0)
    ∷ (BvSub of (byte 1 ▹ byte 2 ▹ nil), pos 255, 0)
    ∷ (BvNeg of (byte 0 ▹ nil), pos 0, 0)
    ∷ (BvNeg of (byte 1 ▹ nil), pos 255, 0)
    ∷ (BvMul of (byte 16 ▹ byte 15 ▹ nil), pos 240, 0)
    ∷ (BvMul of (byte 16 ▹ byte 15 ▹ byte 2 ▹ nil), pos 224, 0)
    ∷ []

values_agree : all_agree its_values ≡ true
unfolding reads its_values x u s p q v b large half third ρ value meaning every any chain fold_left sum_z product_z
    Rational.value
values_agree = refl

-- ---- clauses: a true literal makes a clause true, wherever it stands; the empty clause is false

abbrev Clauses : Type 0
Clauses = List (List Term × Bool)

abbrev same : Bool → Bool → Bool
same true c = c
same false true = false
same false false = true

abbrev all_hold : Clauses → Bool
all_hold [] = true
all_hold (c ∷ cs) = same (holds ρ c.0) c.1 && all_hold cs

its_clauses : Clauses
its_clauses =
    ([], false)
    ∷ (q ∷ [], false)
    ∷ (p ∷ [], true)
    ∷ (q ∷ q ∷ p ∷ [], true)
    ∷ (p ∷ q ∷ [], true)
    ∷ (q ∷ q ∷ [], false)
    ∷ []

clauses_hold : all_hold its_clauses ≡ true
unfolding its_clauses p q ρ value holds
clauses_hold = refl

-- ---- the premise on div, worked out by hand: only a div of two written numbers with a nonzero divisor can break it

abbrev all_even_as : List (Term × Bool) → Bool
all_even_as [] = true
all_even_as (t ∷ ts) = same (divs_even t.0) t.1 && all_even_as ts

uneven : Term
uneven = IntDiv of (n 7 ▹ n 2 ▹ nil)

its_divs : List (Term × Bool)
its_divs =
    (x, true)
    ∷ (p, true)
    ∷ (n 7, true)
    ∷ (half, true)
    ∷ (byte 1, true)
    ∷ (IntDiv of (n 6 ▹ n 2 ▹ nil), true)
    ∷ (uneven, false)
    ∷ (IntDiv of (n 7 ▹ n 0 ▹ nil), true)
    ∷ (IntDiv of (x ▹ n 2 ▹ nil), true)
    ∷ (IntDiv of (n 7 ▹ x ▹ nil), true)
    ∷ (IntDiv of (x ▹ x ▹ nil), true)
    ∷ (IntDiv of ((Sub of (n 7 ▹ nil)) ▹ n 2 ▹ nil), false)
    ∷ (IntDiv of ((Sub of (n 6 ▹ nil)) ▹ (Sub of (n 2 ▹ nil)) ▹ nil), true)
    -- of a quotient, which is no signed constant
    ∷ (IntDiv of ((IntDiv of (n 6 ▹ n 2 ▹ nil)) ▹ n 2 ▹ nil), true)
    -- / need not come out even
    ∷ (RealDiv of (n 7 ▹ n 2 ▹ nil), true)
    -- below other operators, at each place
    ∷ (Add of (uneven ▹ x ▹ nil), false)
    ∷ (Add of (x ▹ uneven ▹ nil), false)
    ∷ (Not of ((Equals of (x ▹ (Mult of (n 2 ▹ uneven ▹ nil)) ▹ nil)) ▹ nil), false)
    ∷ (Not of ((Equals of (x ▹ (Mult of (n 2 ▹ x ▹ nil)) ▹ nil)) ▹ nil), true)
    ∷ []

divs_even-as-said : all_even_as its_divs ≡ true
unfolding reads its_divs uneven x p half divs_even
divs_even-as-said = refl
