-- Written by tools/marked.py from tools/marked.txt: do not edit.
-- Which of demand 3's premises each accepted step of K1 to K12 meets, one accepted step of each rule, and others that
-- tell a stronger or a weaker premise from the right one: even divs, whole numbers, no surplus arguments. Worked out by
-- hand.
use Rattle.std.specs.Prelude.{◌≡◌, refl, true, false, List, [], ◌∷◌, pos}
use Rattle.terms.specs.Operator.{Not, And, Or, Equals, LessThan, LessEq, GreaterThan, GreaterEq}
use Rattle.terms.specs.Operator.{Add, Sub, Mult, IntDiv, RealDiv, BvAdd, BvMul}
use Rattle.terms.specs.BookExamples.{integer_record, real_record, vector_record, atom_record, operation_record}
use Rattle.marked.specs.Cases.{step_records, marks}
use Rattle.elaborate.specs.PremiseTests.{Tested, tested, all_tested, tests}

cases : List Tested
unfolding marks
cases =
    -- ---- K1 to K12
    -- K1: rule 5, (not (< x 3)) (not (> x 2)), arguments 1 1
    tested
    (atom_record 2 0 0 ∷ integer_record (pos 3) ∷ operation_record LessThan (0 ∷ 1 ∷ [])
    ∷ operation_record Not (2 ∷ []) ∷ integer_record (pos 2) ∷ operation_record GreaterThan (0 ∷ 4 ∷ [])
    ∷ operation_record Not (5 ∷ []) ∷ integer_record (pos 1) ∷ [])
    (step_records 5 [] (3 ∷ 6 ∷ []) (7 ∷ 7 ∷ []) ∷ []) ((true, true, true) ∷ [])
    -- K4: rule 6, (not (<= x 3)) (not (>= x 4)), arguments 1
    ∷ tested
    (atom_record 2 0 0 ∷ integer_record (pos 3) ∷ operation_record LessEq (0 ∷ 1 ∷ [])
    ∷ operation_record Not (2 ∷ []) ∷ integer_record (pos 4) ∷ operation_record GreaterEq (0 ∷ 4 ∷ [])
    ∷ operation_record Not (5 ∷ []) ∷ integer_record (pos 1) ∷ [])
    (step_records 6 [] (3 ∷ 6 ∷ []) (7 ∷ []) ∷ []) ((true, true, true) ∷ [])
    -- K7, rule 6: rule 6, (not (< x 3)) (not (> x 2)), arguments 1 1 1
    ∷ tested
    (atom_record 2 0 0 ∷ integer_record (pos 3) ∷ operation_record LessThan (0 ∷ 1 ∷ [])
    ∷ operation_record Not (2 ∷ []) ∷ integer_record (pos 2) ∷ operation_record GreaterThan (0 ∷ 4 ∷ [])
    ∷ operation_record Not (5 ∷ []) ∷ integer_record (pos 1) ∷ [])
    (step_records 6 [] (3 ∷ 6 ∷ []) (7 ∷ 7 ∷ 7 ∷ []) ∷ []) ((true, true, false) ∷ [])
    -- K8, sides exchanged: rule 4, (not (= 0 5))
    ∷ tested
    (integer_record (pos 0) ∷ integer_record (pos 5) ∷ operation_record Equals (0 ∷ 1 ∷ [])
    ∷ operation_record Not (2 ∷ []) ∷ [])
    (step_records 4 [] (3 ∷ []) [] ∷ []) ((true, true, true) ∷ [])
    -- K9, sides exchanged: rule 7, (= #x00 (bvmul #x80 (bvadd v v)))
    ∷ tested
    (vector_record 0 8 ∷ vector_record 128 8 ∷ atom_record 4 5 8 ∷ operation_record BvAdd (2 ∷ 2 ∷ [])
    ∷ operation_record BvMul (1 ∷ 3 ∷ []) ∷ operation_record Equals (0 ∷ 4 ∷ []) ∷ [])
    (step_records 7 [] (5 ∷ []) [] ∷ []) ((true, true, true) ∷ [])
    -- K10: rule 5, (not (>= x 1)) (not (<= x 1)), arguments 1/2 1/2
    ∷ tested
    (atom_record 2 0 0 ∷ integer_record (pos 1) ∷ operation_record GreaterEq (0 ∷ 1 ∷ [])
    ∷ operation_record Not (2 ∷ []) ∷ operation_record LessEq (0 ∷ 1 ∷ []) ∷ operation_record Not (4 ∷ [])
    ∷ real_record (pos 1) (pos 2) ∷ [])
    (step_records 5 [] (3 ∷ 5 ∷ []) (6 ∷ 6 ∷ []) ∷ []) ((true, false, true) ∷ [])
    -- K11: rule 4, (not (<= (div 7 2) 3))
    ∷ tested
    (integer_record (pos 7) ∷ integer_record (pos 2) ∷ operation_record IntDiv (0 ∷ 1 ∷ [])
    ∷ integer_record (pos 3) ∷ operation_record LessEq (2 ∷ 3 ∷ []) ∷ operation_record Not (4 ∷ []) ∷ [])
    (step_records 4 [] (5 ∷ []) [] ∷ []) ((false, true, true) ∷ [])
    -- ---- Rules 1 to 4
    -- rule 1: rule 1, (= (= x y) (and (<= x y) (<= y x)))
    ∷ tested
    (atom_record 2 0 0 ∷ atom_record 2 1 0 ∷ operation_record Equals (0 ∷ 1 ∷ [])
    ∷ operation_record LessEq (0 ∷ 1 ∷ []) ∷ operation_record LessEq (1 ∷ 0 ∷ [])
    ∷ operation_record And (3 ∷ 4 ∷ []) ∷ operation_record Equals (2 ∷ 5 ∷ []) ∷ [])
    (step_records 1 [] (6 ∷ []) [] ∷ []) ((true, true, true) ∷ [])
    -- rule 2: rule 2, (or (= x y) (not (<= x y)) (not (<= y x)))
    ∷ tested
    (atom_record 2 0 0 ∷ atom_record 2 1 0 ∷ operation_record Equals (0 ∷ 1 ∷ [])
    ∷ operation_record LessEq (0 ∷ 1 ∷ []) ∷ operation_record Not (3 ∷ [])
    ∷ operation_record LessEq (1 ∷ 0 ∷ []) ∷ operation_record Not (5 ∷ [])
    ∷ operation_record Or (2 ∷ 4 ∷ 6 ∷ []) ∷ [])
    (step_records 2 [] (7 ∷ []) [] ∷ []) ((true, true, true) ∷ [])
    -- rule 3: rule 3, (or (<= x y) (<= y x))
    ∷ tested
    (atom_record 2 0 0 ∷ atom_record 2 1 0 ∷ operation_record LessEq (0 ∷ 1 ∷ [])
    ∷ operation_record LessEq (1 ∷ 0 ∷ []) ∷ operation_record Or (2 ∷ 3 ∷ []) ∷ [])
    (step_records 3 [] (4 ∷ []) [] ∷ []) ((true, true, true) ∷ [])
    -- rule 4, first form: rule 4, (or (not (<= x 1)) (<= x 2))
    ∷ tested
    (atom_record 2 0 0 ∷ integer_record (pos 1) ∷ operation_record LessEq (0 ∷ 1 ∷ [])
    ∷ operation_record Not (2 ∷ []) ∷ integer_record (pos 2) ∷ operation_record LessEq (0 ∷ 4 ∷ [])
    ∷ operation_record Or (3 ∷ 5 ∷ []) ∷ [])
    (step_records 4 [] (6 ∷ []) [] ∷ []) ((true, true, true) ∷ [])
    -- ---- Rules 5 and 6, and elaboration
    -- (* 0 u) does not forbid strengthening: rule 5, (not (< (+ x (* 0 u)) 3)) (not (> x 2)), arguments 1 1
    ∷ tested
    (atom_record 2 0 0 ∷ integer_record (pos 0) ∷ atom_record 3 4 0 ∷ operation_record Mult (1 ∷ 2 ∷ [])
    ∷ operation_record Add (0 ∷ 3 ∷ []) ∷ integer_record (pos 3) ∷ operation_record LessThan (4 ∷ 5 ∷ [])
    ∷ operation_record Not (6 ∷ []) ∷ integer_record (pos 2) ∷ operation_record GreaterThan (0 ∷ 8 ∷ [])
    ∷ operation_record Not (9 ∷ []) ∷ integer_record (pos 1) ∷ [])
    (step_records 5 [] (7 ∷ 10 ∷ []) (11 ∷ 11 ∷ []) ∷ []) ((true, true, true) ∷ [])
    -- surplus arguments: rule 6, (not (= 0 5)), arguments 1 1
    ∷ tested
    (integer_record (pos 0) ∷ integer_record (pos 5) ∷ operation_record Equals (0 ∷ 1 ∷ [])
    ∷ operation_record Not (2 ∷ []) ∷ integer_record (pos 1) ∷ [])
    (step_records 6 [] (3 ∷ []) (4 ∷ 4 ∷ []) ∷ []) ((true, true, false) ∷ [])
    -- div through an atom: rule 5, (not (> (* (div 7 2) x x) 3)) (not (< (* (div 7 2) x x) 4)), arguments 1 1
    ∷ tested
    (integer_record (pos 7) ∷ integer_record (pos 2) ∷ operation_record IntDiv (0 ∷ 1 ∷ [])
    ∷ atom_record 2 0 0 ∷ operation_record Mult (2 ∷ 3 ∷ 3 ∷ []) ∷ integer_record (pos 3)
    ∷ operation_record GreaterThan (4 ∷ 5 ∷ []) ∷ operation_record Not (6 ∷ []) ∷ integer_record (pos 4)
    ∷ operation_record LessThan (4 ∷ 8 ∷ []) ∷ operation_record Not (9 ∷ []) ∷ integer_record (pos 1) ∷ [])
    (step_records 5 [] (7 ∷ 10 ∷ []) (11 ∷ 11 ∷ []) ∷ []) ((false, true, true) ∷ [])
    -- Bool atoms: rule 5, (not (= p q)) (not (= q p)) (not (= 0 5)), arguments 1 1 1
    ∷ tested
    (atom_record 1 8 0 ∷ atom_record 1 9 0 ∷ operation_record Equals (0 ∷ 1 ∷ [])
    ∷ operation_record Not (2 ∷ []) ∷ operation_record Equals (1 ∷ 0 ∷ []) ∷ operation_record Not (4 ∷ [])
    ∷ integer_record (pos 0) ∷ integer_record (pos 5) ∷ operation_record Equals (6 ∷ 7 ∷ [])
    ∷ operation_record Not (8 ∷ []) ∷ integer_record (pos 1) ∷ [])
    (step_records 5 [] (3 ∷ 5 ∷ 9 ∷ []) (10 ∷ 10 ∷ 10 ∷ []) ∷ []) ((true, true, true) ∷ [])
    -- bit-vector atoms: rule 5, (not (= v #x01)) (not (= #x01 v)) (not (= 0 5)), arguments 1 1 1
    ∷ tested
    (atom_record 4 5 8 ∷ vector_record 1 8 ∷ operation_record Equals (0 ∷ 1 ∷ [])
    ∷ operation_record Not (2 ∷ []) ∷ operation_record Equals (1 ∷ 0 ∷ []) ∷ operation_record Not (4 ∷ [])
    ∷ integer_record (pos 0) ∷ integer_record (pos 5) ∷ operation_record Equals (6 ∷ 7 ∷ [])
    ∷ operation_record Not (8 ∷ []) ∷ integer_record (pos 1) ∷ [])
    (step_records 5 [] (3 ∷ 5 ∷ 9 ∷ []) (10 ∷ 10 ∷ 10 ∷ []) ∷ []) ((true, true, true) ∷ [])
    -- ---- Rules 7 and 8
    -- rule 7: rule 7, (= (* (+ x y) (- x y)) (- (* x x) (* y y)))
    ∷ tested
    (atom_record 2 0 0 ∷ atom_record 2 1 0 ∷ operation_record Add (0 ∷ 1 ∷ [])
    ∷ operation_record Sub (0 ∷ 1 ∷ []) ∷ operation_record Mult (2 ∷ 3 ∷ [])
    ∷ operation_record Mult (0 ∷ 0 ∷ []) ∷ operation_record Mult (1 ∷ 1 ∷ [])
    ∷ operation_record Sub (5 ∷ 6 ∷ []) ∷ operation_record Equals (4 ∷ 7 ∷ []) ∷ [])
    (step_records 7 [] (8 ∷ []) [] ∷ []) ((true, true, true) ∷ [])
    -- rule 8: rule 0, (= (* 2 (- x y)) (* 3 (- x y))); rule 8, (= (< x y) (< x y)), premises 0
    ∷ tested
    (integer_record (pos 2) ∷ atom_record 2 0 0 ∷ atom_record 2 1 0 ∷ operation_record Sub (1 ∷ 2 ∷ [])
    ∷ operation_record Mult (0 ∷ 3 ∷ []) ∷ integer_record (pos 3) ∷ operation_record Mult (5 ∷ 3 ∷ [])
    ∷ operation_record Equals (4 ∷ 6 ∷ []) ∷ operation_record LessThan (1 ∷ 2 ∷ [])
    ∷ operation_record Equals (8 ∷ 8 ∷ []) ∷ [])
    (step_records 0 [] (7 ∷ []) [] ∷ step_records 8 (0 ∷ []) (9 ∷ []) [] ∷ [])
    ((true, true, true) ∷ (true, true, true) ∷ [])
    -- ---- Demand 3's premises
    -- a div whose dividend is no number is an atom: rule 5, (not (< (div x 2) 3)) (not (> (div x 2) 2)),
    -- arguments 1 1
    ∷ tested
    (atom_record 2 0 0 ∷ integer_record (pos 2) ∷ operation_record IntDiv (0 ∷ 1 ∷ [])
    ∷ integer_record (pos 3) ∷ operation_record LessThan (2 ∷ 3 ∷ []) ∷ operation_record Not (4 ∷ [])
    ∷ operation_record GreaterThan (2 ∷ 1 ∷ []) ∷ operation_record Not (6 ∷ []) ∷ integer_record (pos 1) ∷ [])
    (step_records 5 [] (5 ∷ 7 ∷ []) (8 ∷ 8 ∷ []) ∷ []) ((true, true, true) ∷ [])
    -- a div whose divisor is no number is an atom: rule 5, (not (< (div 3 x) 3)) (not (> (div 3 x) 2)),
    -- arguments 1 1
    ∷ tested
    (integer_record (pos 3) ∷ atom_record 2 0 0 ∷ operation_record IntDiv (0 ∷ 1 ∷ [])
    ∷ operation_record LessThan (2 ∷ 0 ∷ []) ∷ operation_record Not (3 ∷ []) ∷ integer_record (pos 2)
    ∷ operation_record GreaterThan (2 ∷ 5 ∷ []) ∷ operation_record Not (6 ∷ []) ∷ integer_record (pos 1) ∷ [])
    (step_records 5 [] (4 ∷ 7 ∷ []) (8 ∷ 8 ∷ []) ∷ []) ((true, true, true) ∷ [])
    -- a div by 0 is an atom: rule 5, (not (< (div 3 0) 3)) (not (> (div 3 0) 2)), arguments 1 1
    ∷ tested
    (integer_record (pos 3) ∷ integer_record (pos 0) ∷ operation_record IntDiv (0 ∷ 1 ∷ [])
    ∷ operation_record LessThan (2 ∷ 0 ∷ []) ∷ operation_record Not (3 ∷ []) ∷ integer_record (pos 2)
    ∷ operation_record GreaterThan (2 ∷ 5 ∷ []) ∷ operation_record Not (6 ∷ []) ∷ integer_record (pos 1) ∷ [])
    (step_records 5 [] (4 ∷ 7 ∷ []) (8 ∷ 8 ∷ []) ∷ []) ((true, true, true) ∷ [])
    -- a div that comes out even: rule 5, (not (< (+ x (div 6 2)) 6)) (not (> x 2)), arguments 1 1
    ∷ tested
    (atom_record 2 0 0 ∷ integer_record (pos 6) ∷ integer_record (pos 2)
    ∷ operation_record IntDiv (1 ∷ 2 ∷ []) ∷ operation_record Add (0 ∷ 3 ∷ [])
    ∷ operation_record LessThan (4 ∷ 1 ∷ []) ∷ operation_record Not (5 ∷ [])
    ∷ operation_record GreaterThan (0 ∷ 2 ∷ []) ∷ operation_record Not (7 ∷ []) ∷ integer_record (pos 1) ∷ [])
    (step_records 5 [] (6 ∷ 8 ∷ []) (9 ∷ 9 ∷ []) ∷ []) ((true, true, true) ∷ [])
    -- a div in an argument that does not come out even: rule 5, (not (<= u 1)) (not (>= u 2)), arguments (div
    -- 7 2) (div 7 2)
    ∷ tested
    (atom_record 3 4 0 ∷ integer_record (pos 1) ∷ operation_record LessEq (0 ∷ 1 ∷ [])
    ∷ operation_record Not (2 ∷ []) ∷ integer_record (pos 2) ∷ operation_record GreaterEq (0 ∷ 4 ∷ [])
    ∷ operation_record Not (5 ∷ []) ∷ integer_record (pos 7) ∷ operation_record IntDiv (7 ∷ 4 ∷ []) ∷ [])
    (step_records 5 [] (3 ∷ 6 ∷ []) (8 ∷ 8 ∷ []) ∷ []) ((false, true, true) ∷ [])
    -- / in an argument need not come out even: rule 5, (not (<= u 1)) (not (>= u 2)), arguments (/ 7 2) (/ 7
    -- 2)
    ∷ tested
    (atom_record 3 4 0 ∷ integer_record (pos 1) ∷ operation_record LessEq (0 ∷ 1 ∷ [])
    ∷ operation_record Not (2 ∷ []) ∷ integer_record (pos 2) ∷ operation_record GreaterEq (0 ∷ 4 ∷ [])
    ∷ operation_record Not (5 ∷ []) ∷ integer_record (pos 7) ∷ operation_record RealDiv (7 ∷ 4 ∷ []) ∷ [])
    (step_records 5 [] (3 ∷ 6 ∷ []) (8 ∷ 8 ∷ []) ∷ []) ((true, true, true) ∷ [])
    -- a fractional coefficient of an Int atom: rule 5, (not (> (* 1/2 x) 0)) (not (< (* 1/2 x) 1)), arguments
    -- 1 1
    ∷ tested
    (real_record (pos 1) (pos 2) ∷ atom_record 2 0 0 ∷ operation_record Mult (0 ∷ 1 ∷ [])
    ∷ integer_record (pos 0) ∷ operation_record GreaterThan (2 ∷ 3 ∷ []) ∷ operation_record Not (4 ∷ [])
    ∷ integer_record (pos 1) ∷ operation_record LessThan (2 ∷ 6 ∷ []) ∷ operation_record Not (7 ∷ []) ∷ [])
    (step_records 5 [] (5 ∷ 8 ∷ []) (6 ∷ 6 ∷ []) ∷ []) ((true, false, true) ∷ [])
    -- fractional coefficients and arguments with a Real atom: rule 5, (not (<= (* 1/2 u) 1)) (not (>= (* 1/2
    -- u) 2)), arguments 1/2 1/2
    ∷ tested
    (real_record (pos 1) (pos 2) ∷ atom_record 3 4 0 ∷ operation_record Mult (0 ∷ 1 ∷ [])
    ∷ integer_record (pos 1) ∷ operation_record LessEq (2 ∷ 3 ∷ []) ∷ operation_record Not (4 ∷ [])
    ∷ integer_record (pos 2) ∷ operation_record GreaterEq (2 ∷ 6 ∷ []) ∷ operation_record Not (7 ∷ []) ∷ [])
    (step_records 5 [] (5 ∷ 8 ∷ []) (0 ∷ 0 ∷ []) ∷ []) ((true, true, true) ∷ [])
    -- a Real atom that is left beside an Int one: rule 5, (not (>= (+ x u) 1)) (not (<= (+ x u) 0)),
    -- arguments 1/2 1/2
    ∷ tested
    (atom_record 2 0 0 ∷ atom_record 3 4 0 ∷ operation_record Add (0 ∷ 1 ∷ []) ∷ integer_record (pos 1)
    ∷ operation_record GreaterEq (2 ∷ 3 ∷ []) ∷ operation_record Not (4 ∷ []) ∷ integer_record (pos 0)
    ∷ operation_record LessEq (2 ∷ 6 ∷ []) ∷ operation_record Not (7 ∷ []) ∷ real_record (pos 1) (pos 2) ∷ [])
    (step_records 5 [] (5 ∷ 8 ∷ []) (9 ∷ 9 ∷ []) ∷ []) ((true, true, true) ∷ [])
    -- a Real atom that cancels: rule 5, (not (>= (+ x u) (+ u 1))) (not (<= x 1)), arguments 1/2 1/2
    ∷ tested
    (atom_record 2 0 0 ∷ atom_record 3 4 0 ∷ operation_record Add (0 ∷ 1 ∷ []) ∷ integer_record (pos 1)
    ∷ operation_record Add (1 ∷ 3 ∷ []) ∷ operation_record GreaterEq (2 ∷ 4 ∷ [])
    ∷ operation_record Not (5 ∷ []) ∷ operation_record LessEq (0 ∷ 3 ∷ []) ∷ operation_record Not (7 ∷ [])
    ∷ real_record (pos 1) (pos 2) ∷ [])
    (step_records 5 [] (6 ∷ 8 ∷ []) (9 ∷ 9 ∷ []) ∷ []) ((true, false, true) ∷ [])
    -- a fractional argument of an equality of Ints: rule 5, (not (= x 1)) (not (= x 2)), arguments 1/2 (-
    -- 1/2)
    ∷ tested
    (atom_record 2 0 0 ∷ integer_record (pos 1) ∷ operation_record Equals (0 ∷ 1 ∷ [])
    ∷ operation_record Not (2 ∷ []) ∷ integer_record (pos 2) ∷ operation_record Equals (0 ∷ 4 ∷ [])
    ∷ operation_record Not (5 ∷ []) ∷ real_record (pos 1) (pos 2) ∷ operation_record Sub (7 ∷ []) ∷ [])
    (step_records 5 [] (3 ∷ 6 ∷ []) (7 ∷ 8 ∷ []) ∷ []) ((true, false, true) ∷ [])
    -- a fractional argument that is inferred: rule 6, (not (<= x 3)) (not (>= (* 2 x) 8)), arguments 1
    ∷ tested
    (atom_record 2 0 0 ∷ integer_record (pos 3) ∷ operation_record LessEq (0 ∷ 1 ∷ [])
    ∷ operation_record Not (2 ∷ []) ∷ integer_record (pos 2) ∷ operation_record Mult (4 ∷ 0 ∷ [])
    ∷ integer_record (pos 8) ∷ operation_record GreaterEq (5 ∷ 6 ∷ []) ∷ operation_record Not (7 ∷ [])
    ∷ integer_record (pos 1) ∷ [])
    (step_records 6 [] (3 ∷ 8 ∷ []) (9 ∷ []) ∷ []) ((true, false, true) ∷ [])
    ∷ []

all_tested_lem : all_tested cases ≡ true
unfolding marks tests cases
all_tested_lem = refl
