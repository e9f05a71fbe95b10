-- Written by tools/marked.py from tools/marked.txt: do not edit.
-- Document 01's examples K1 to K12, the inputs of its table of verdicts, and the places where document 01 and
-- the Rust are easy to misread, as one table that the checker computes. Expected answers come from document 01
-- and from the Rust's own answers.
use Rattle.std.specs.Prelude.{◌≡◌, refl, true, List, [], ◌∷◌, pos, negsuc, replicate}
use Rattle.terms.specs.Operator.{Not, And, Or, Equals, LessThan, LessEq, GreaterThan, GreaterEq}
use Rattle.terms.specs.Operator.{Add, Sub, Mult, IntDiv, RealDiv, ToReal, BvAdd, BvSub, BvNeg, BvMul}
use Rattle.terms.specs.BookExamples.{blank, integer_record, real_record, vector_record, atom_record, operation_record}
use Rattle.marked.specs.Cases.{Case, marked, usual, answers, run_record, step_records, all_marked, marks}

cases : List Case
unfolding marks
cases =
    -- ---- K1 to K12
    -- K1: rule 5, (not (< x 3)) (not (> x 2)), arguments 1 1
    marked
    (atom_record 2 0 0 ∷ integer_record (pos 3) ∷ operation_record LessThan (0 ∷ 1 ∷ [])
    ∷ operation_record Not (2 ∷ []) ∷ integer_record (pos 2) ∷ operation_record GreaterThan (0 ∷ 4 ∷ [])
    ∷ operation_record Not (5 ∷ []) ∷ integer_record (pos 1) ∷ [])
    (step_records 5 [] (3 ∷ 6 ∷ []) (7 ∷ 7 ∷ []) ∷ []) usual
    (answers 0 1 4 (step_records 5 [] (3 ∷ 6 ∷ []) (7 ∷ 7 ∷ []) ∷ []) [])
    -- K2: rule 5, (not (< u 3)) (not (> u 2)), arguments 1 1
    ∷ marked
    (atom_record 3 4 0 ∷ integer_record (pos 3) ∷ operation_record LessThan (0 ∷ 1 ∷ [])
    ∷ operation_record Not (2 ∷ []) ∷ integer_record (pos 2) ∷ operation_record GreaterThan (0 ∷ 4 ∷ [])
    ∷ operation_record Not (5 ∷ []) ∷ integer_record (pos 1) ∷ [])
    (step_records 5 [] (3 ∷ 6 ∷ []) (7 ∷ 7 ∷ []) ∷ []) usual (answers 30 0 0 [] [])
    -- K3: rule 5
    ∷ marked [] (step_records 5 [] [] [] ∷ []) usual (answers 30 0 0 [] [])
    -- K4: rule 6, (not (<= x 3)) (not (>= x 4)), arguments 1
    ∷ marked
    (atom_record 2 0 0 ∷ integer_record (pos 3) ∷ operation_record LessEq (0 ∷ 1 ∷ [])
    ∷ operation_record Not (2 ∷ []) ∷ integer_record (pos 4) ∷ operation_record GreaterEq (0 ∷ 4 ∷ [])
    ∷ operation_record Not (5 ∷ []) ∷ integer_record (pos 1) ∷ [])
    (step_records 6 [] (3 ∷ 6 ∷ []) (7 ∷ []) ∷ []) usual
    (answers 0 1 4 (step_records 5 [] (3 ∷ 6 ∷ []) (7 ∷ 8 ∷ []) ∷ []) (real_record (pos 1) (pos 1) ∷ []))
    -- K5: rule 6, (not (<= x 3)) (not (>= x 4))
    ∷ marked
    (atom_record 2 0 0 ∷ integer_record (pos 3) ∷ operation_record LessEq (0 ∷ 1 ∷ [])
    ∷ operation_record Not (2 ∷ []) ∷ integer_record (pos 4) ∷ operation_record GreaterEq (0 ∷ 4 ∷ [])
    ∷ operation_record Not (5 ∷ []) ∷ [])
    (step_records 6 [] (3 ∷ 6 ∷ []) [] ∷ []) usual (answers 29 0 0 [] [])
    -- K6: rule 6, (not (<= (+ x y) 3))
    ∷ marked
    (atom_record 2 0 0 ∷ atom_record 2 1 0 ∷ operation_record Add (0 ∷ 1 ∷ []) ∷ integer_record (pos 3)
    ∷ operation_record LessEq (2 ∷ 3 ∷ []) ∷ operation_record Not (4 ∷ []) ∷ [])
    (step_records 6 [] (5 ∷ []) [] ∷ []) usual (answers 28 0 0 [] [])
    -- K7, rule 5: rule 5, (not (< x 3)) (not (> x 2)), arguments 1 1 1
    ∷ marked
    (atom_record 2 0 0 ∷ integer_record (pos 3) ∷ operation_record LessThan (0 ∷ 1 ∷ [])
    ∷ operation_record Not (2 ∷ []) ∷ integer_record (pos 2) ∷ operation_record GreaterThan (0 ∷ 4 ∷ [])
    ∷ operation_record Not (5 ∷ []) ∷ integer_record (pos 1) ∷ [])
    (step_records 5 [] (3 ∷ 6 ∷ []) (7 ∷ 7 ∷ 7 ∷ []) ∷ []) usual (answers 20 0 0 [] [])
    -- K7, rule 6: rule 6, (not (< x 3)) (not (> x 2)), arguments 1 1 1
    ∷ marked
    (atom_record 2 0 0 ∷ integer_record (pos 3) ∷ operation_record LessThan (0 ∷ 1 ∷ [])
    ∷ operation_record Not (2 ∷ []) ∷ integer_record (pos 2) ∷ operation_record GreaterThan (0 ∷ 4 ∷ [])
    ∷ operation_record Not (5 ∷ []) ∷ integer_record (pos 1) ∷ [])
    (step_records 6 [] (3 ∷ 6 ∷ []) (7 ∷ 7 ∷ 7 ∷ []) ∷ []) usual
    (answers 0 1 4 (step_records 5 [] (3 ∷ 6 ∷ []) (7 ∷ 7 ∷ 7 ∷ []) ∷ []) [])
    -- K8: rule 4, (not (= 5 0))
    ∷ marked
    (integer_record (pos 5) ∷ integer_record (pos 0) ∷ operation_record Equals (0 ∷ 1 ∷ [])
    ∷ operation_record Not (2 ∷ []) ∷ [])
    (step_records 4 [] (3 ∷ []) [] ∷ []) usual (answers 32 0 0 [] [])
    -- K8, sides exchanged: rule 4, (not (= 0 5))
    ∷ marked
    (integer_record (pos 0) ∷ integer_record (pos 5) ∷ operation_record Equals (0 ∷ 1 ∷ [])
    ∷ operation_record Not (2 ∷ []) ∷ [])
    (step_records 4 [] (3 ∷ []) [] ∷ []) usual (answers 0 1 2 (step_records 4 [] (3 ∷ []) [] ∷ []) [])
    -- K9: rule 7, (= (bvmul #x80 (bvadd v v)) #x00)
    ∷ marked
    (vector_record 128 8 ∷ atom_record 4 5 8 ∷ operation_record BvAdd (1 ∷ 1 ∷ [])
    ∷ operation_record BvMul (0 ∷ 2 ∷ []) ∷ vector_record 0 8 ∷ operation_record Equals (3 ∷ 4 ∷ []) ∷ [])
    (step_records 7 [] (5 ∷ []) [] ∷ []) usual (answers 36 0 0 [] [])
    -- K9, sides exchanged: rule 7, (= #x00 (bvmul #x80 (bvadd v v)))
    ∷ marked
    (vector_record 0 8 ∷ vector_record 128 8 ∷ atom_record 4 5 8 ∷ operation_record BvAdd (2 ∷ 2 ∷ [])
    ∷ operation_record BvMul (1 ∷ 3 ∷ []) ∷ operation_record Equals (0 ∷ 4 ∷ []) ∷ [])
    (step_records 7 [] (5 ∷ []) [] ∷ []) usual (answers 0 1 6 (step_records 7 [] (5 ∷ []) [] ∷ []) [])
    -- K10: rule 5, (not (>= x 1)) (not (<= x 1)), arguments 1/2 1/2
    ∷ marked
    (atom_record 2 0 0 ∷ integer_record (pos 1) ∷ operation_record GreaterEq (0 ∷ 1 ∷ [])
    ∷ operation_record Not (2 ∷ []) ∷ operation_record LessEq (0 ∷ 1 ∷ []) ∷ operation_record Not (4 ∷ [])
    ∷ real_record (pos 1) (pos 2) ∷ [])
    (step_records 5 [] (3 ∷ 5 ∷ []) (6 ∷ 6 ∷ []) ∷ []) usual
    (answers 0 1 4 (step_records 5 [] (3 ∷ 5 ∷ []) (6 ∷ 6 ∷ []) ∷ []) [])
    -- K11: rule 4, (not (<= (div 7 2) 3))
    ∷ marked
    (integer_record (pos 7) ∷ integer_record (pos 2) ∷ operation_record IntDiv (0 ∷ 1 ∷ [])
    ∷ integer_record (pos 3) ∷ operation_record LessEq (2 ∷ 3 ∷ []) ∷ operation_record Not (4 ∷ []) ∷ [])
    (step_records 4 [] (5 ∷ []) [] ∷ []) usual (answers 0 1 2 (step_records 4 [] (5 ∷ []) [] ∷ []) [])
    -- K12: rule 4, (< (+ (* 2147483647 u) u) 0)
    ∷ marked
    (integer_record (pos 2147483647) ∷ atom_record 3 4 0 ∷ operation_record Mult (0 ∷ 1 ∷ [])
    ∷ operation_record Add (2 ∷ 1 ∷ []) ∷ integer_record (pos 0) ∷ operation_record LessThan (3 ∷ 4 ∷ [])
    ∷ [])
    (step_records 4 [] (5 ∷ []) [] ∷ []) usual (answers 11 0 0 [] [])
    -- K12, one less: rule 4, (< (+ (* 2147483646 u) u) 0)
    ∷ marked
    (integer_record (pos 2147483646) ∷ atom_record 3 4 0 ∷ operation_record Mult (0 ∷ 1 ∷ [])
    ∷ operation_record Add (2 ∷ 1 ∷ []) ∷ integer_record (pos 0) ∷ operation_record LessThan (3 ∷ 4 ∷ [])
    ∷ [])
    (step_records 4 [] (5 ∷ []) [] ∷ []) usual (answers 32 0 0 [] [])
    -- ---- Refusals 1 to 8, and their order
    -- 1, limit 0: rule 5, (not (< x 3)) (not (> x 2)), arguments 1 1; limit 0
    ∷ marked
    (atom_record 2 0 0 ∷ integer_record (pos 3) ∷ operation_record LessThan (0 ∷ 1 ∷ [])
    ∷ operation_record Not (2 ∷ []) ∷ integer_record (pos 2) ∷ operation_record GreaterThan (0 ∷ 4 ∷ [])
    ∷ operation_record Not (5 ∷ []) ∷ integer_record (pos 1) ∷ [])
    (step_records 5 [] (3 ∷ 6 ∷ []) (7 ∷ 7 ∷ []) ∷ []) (0, 65536, 1000, 1000) (answers 1 0 0 [] [])
    -- 1, limit too large: rule 5, (not (< x 3)) (not (> x 2)), arguments 1 1; limit 1000001
    ∷ marked
    (atom_record 2 0 0 ∷ integer_record (pos 3) ∷ operation_record LessThan (0 ∷ 1 ∷ [])
    ∷ operation_record Not (2 ∷ []) ∷ integer_record (pos 2) ∷ operation_record GreaterThan (0 ∷ 4 ∷ [])
    ∷ operation_record Not (5 ∷ []) ∷ integer_record (pos 1) ∷ [])
    (step_records 5 [] (3 ∷ 6 ∷ []) (7 ∷ 7 ∷ []) ∷ []) (1000001, 65536, 1000, 1000) (answers 1 0 0 [] [])
    -- the largest limit: rule 5, (not (< x 3)) (not (> x 2)), arguments 1 1; limit 1000000
    ∷ marked
    (atom_record 2 0 0 ∷ integer_record (pos 3) ∷ operation_record LessThan (0 ∷ 1 ∷ [])
    ∷ operation_record Not (2 ∷ []) ∷ integer_record (pos 2) ∷ operation_record GreaterThan (0 ∷ 4 ∷ [])
    ∷ operation_record Not (5 ∷ []) ∷ integer_record (pos 1) ∷ [])
    (step_records 5 [] (3 ∷ 6 ∷ []) (7 ∷ 7 ∷ []) ∷ []) (1000000, 65536, 1000, 1000)
    (answers 0 1 4 (step_records 5 [] (3 ∷ 6 ∷ []) (7 ∷ 7 ∷ []) ∷ []) [])
    -- 1, work area too short: rule 5, (not (< x 3)) (not (> x 2)), arguments 1 1; work 65535
    ∷ marked
    (atom_record 2 0 0 ∷ integer_record (pos 3) ∷ operation_record LessThan (0 ∷ 1 ∷ [])
    ∷ operation_record Not (2 ∷ []) ∷ integer_record (pos 2) ∷ operation_record GreaterThan (0 ∷ 4 ∷ [])
    ∷ operation_record Not (5 ∷ []) ∷ integer_record (pos 1) ∷ [])
    (step_records 5 [] (3 ∷ 6 ∷ []) (7 ∷ 7 ∷ []) ∷ []) (1000, 65535, 1000, 1000) (answers 1 0 0 [] [])
    -- 1, work area too long: rule 5, (not (< x 3)) (not (> x 2)), arguments 1 1; work 65537
    ∷ marked
    (atom_record 2 0 0 ∷ integer_record (pos 3) ∷ operation_record LessThan (0 ∷ 1 ∷ [])
    ∷ operation_record Not (2 ∷ []) ∷ integer_record (pos 2) ∷ operation_record GreaterThan (0 ∷ 4 ∷ [])
    ∷ operation_record Not (5 ∷ []) ∷ integer_record (pos 1) ∷ [])
    (step_records 5 [] (3 ∷ 6 ∷ []) (7 ∷ 7 ∷ []) ∷ []) (1000, 65537, 1000, 1000) (answers 1 0 0 [] [])
    -- 1 before 2: book bytes 33; limit 0
    ∷ marked (replicate 33 0 ∷ []) [] (0, 65536, 1000, 1000) (answers 1 0 0 [] [])
    -- 2: book bytes 33
    ∷ marked (replicate 33 0 ∷ []) [] usual (answers 2 0 0 [] [])
    -- 2, above 2,048 records: book bytes 65568
    ∷ marked (replicate 65568 0 ∷ []) [] usual (answers 2 0 0 [] [])
    -- 2 before 3 and 6: book kind 6; book bytes 1; run bytes 5
    ∷ marked (blank 6 ∷ replicate 1 0 ∷ []) (replicate 5 0 ∷ []) usual (answers 2 0 0 [] [])
    -- 3: book kind 6
    ∷ marked (blank 6 ∷ []) [] usual (answers 3 0 0 [] [])
    -- 3, a negative bit-vector: book vector 18446744073709551615 8
    ∷ marked (vector_record 18446744073709551615 8 ∷ []) [] usual (answers 3 0 0 [] [])
    -- 3, a forward reference: book x; book operation 9 0 1
    ∷ marked (atom_record 2 0 0 ∷ operation_record Add (0 ∷ 1 ∷ []) ∷ []) [] usual (answers 3 0 0 [] [])
    -- 3, an unknown operator: book x; book operation 19 0 0
    ∷ marked (atom_record 2 0 0 ∷ operation_record 19 (0 ∷ 0 ∷ []) ∷ []) [] usual (answers 3 0 0 [] [])
    -- 3, a wrong count: book p; book operation 1 0 0
    ∷ marked (atom_record 1 8 0 ∷ operation_record Not (0 ∷ 0 ∷ []) ∷ []) [] usual (answers 3 0 0 [] [])
    -- 4: book (+ p 1)
    ∷ marked
    (atom_record 1 8 0 ∷ integer_record (pos 1) ∷ operation_record Add (0 ∷ 1 ∷ []) ∷ [])
    [] usual (answers 4 0 0 [] [])
    -- 4, two widths: book (= v n)
    ∷ marked
    (atom_record 4 5 8 ∷ atom_record 4 7 4 ∷ operation_record Equals (0 ∷ 1 ∷ []) ∷ [])
    [] usual (answers 4 0 0 [] [])
    -- 4 before a later 3: book (+ p p); book kind 6
    ∷ marked
    (atom_record 1 8 0 ∷ operation_record Add (0 ∷ 0 ∷ []) ∷ blank 6 ∷ [])
    [] usual (answers 4 0 0 [] [])
    -- 5: book integer 1; book integer 1
    ∷ marked (integer_record (pos 1) ∷ integer_record (pos 1) ∷ []) [] usual (answers 5 0 0 [] [])
    -- 5 before a later 3: book integer 1; book integer 1; book kind 6
    ∷ marked (integer_record (pos 1) ∷ integer_record (pos 1) ∷ blank 6 ∷ []) [] usual (answers 5 0 0 [] [])
    -- 3 before 6: book kind 6; run bytes 5
    ∷ marked (blank 6 ∷ []) (replicate 5 0 ∷ []) usual (answers 3 0 0 [] [])
    -- an empty run
    ∷ marked [] [] usual (answers 0 0 0 [] [])
    -- 6: run bytes 5
    ∷ marked [] (replicate 5 0 ∷ []) usual (answers 6 0 0 [] [])
    -- 6, above 4,096 records: run bytes 16388
    ∷ marked [] (replicate 16388 0 ∷ []) usual (answers 6 0 0 [] [])
    -- 4,096 records that are none: run bytes 16384
    ∷ marked [] (replicate 16384 0 ∷ []) usual (answers 7 0 0 [] [])
    -- 6 before 7: book p; run C 0 0; run bytes 1
    ∷ marked (atom_record 1 8 0 ∷ []) (run_record 67 0 0 ∷ replicate 1 0 ∷ []) usual (answers 6 0 0 [] [])
    -- 7, first mark C: book p; run C 0 0
    ∷ marked (atom_record 1 8 0 ∷ []) (run_record 67 0 0 ∷ []) usual (answers 7 0 0 [] [])
    -- 7, an unknown mark: run D 0 0
    ∷ marked [] (run_record 68 0 0 ∷ []) usual (answers 7 0 0 [] [])
    -- 7, an unknown rule: run S 9 0
    ∷ marked [] (run_record 83 9 0 ∷ []) usual (answers 7 0 0 [] [])
    -- 7, a number beside S: run S 5 1
    ∷ marked [] (run_record 83 5 1 ∷ []) usual (answers 7 0 0 [] [])
    -- 7, a byte beside C: book p; run S 5 0; run C 1 0
    ∷ marked (atom_record 1 8 0 ∷ []) (run_record 83 5 0 ∷ run_record 67 1 0 ∷ []) usual (answers 7 0 0 [] [])
    -- 7, a step that names itself: book p; run S 5 0; run P 0 0
    ∷ marked (atom_record 1 8 0 ∷ []) (run_record 83 5 0 ∷ run_record 80 0 0 ∷ []) usual (answers 7 0 0 [] [])
    -- 7, a C that names nothing: book p; run S 5 0; run C 0 1
    ∷ marked (atom_record 1 8 0 ∷ []) (run_record 83 5 0 ∷ run_record 67 0 1 ∷ []) usual (answers 7 0 0 [] [])
    -- 7, a C that is not Bool: book x; run S 5 0; run C 0 0
    ∷ marked (atom_record 2 0 0 ∷ []) (run_record 83 5 0 ∷ run_record 67 0 0 ∷ []) usual (answers 7 0 0 [] [])
    -- 7, an A that names nothing: book p; run S 5 0; run A 0 1
    ∷ marked (atom_record 1 8 0 ∷ []) (run_record 83 5 0 ∷ run_record 65 0 1 ∷ []) usual (answers 7 0 0 [] [])
    -- 7, C behind A: book p; run S 5 0; run A 0 0; run C 0 0
    ∷ marked
    (atom_record 1 8 0 ∷ [])
    (run_record 83 5 0 ∷ run_record 65 0 0 ∷ run_record 67 0 0 ∷ []) usual (answers 7 0 0 [] [])
    -- 7, P behind C: book p; run S 0 0; run C 0 0; run S 5 0; run C 0 0; run P 0 0
    ∷ marked
    (atom_record 1 8 0 ∷ [])
    (run_record 83 0 0 ∷ run_record 67 0 0 ∷ run_record 83 5 0 ∷ run_record 67 0 0 ∷ run_record 80 0 0 ∷ [])
    usual (answers 7 0 0 [] [])
    -- 7, an assume of two literals: rule 0, p q
    ∷ marked
    (atom_record 1 8 0 ∷ atom_record 1 9 0 ∷ [])
    (step_records 0 [] (0 ∷ 1 ∷ []) [] ∷ []) usual (answers 7 0 0 [] [])
    -- 7, an assume of none: rule 0
    ∷ marked [] (step_records 0 [] [] [] ∷ []) usual (answers 7 0 0 [] [])
    -- 7, an assume with an argument: rule 0, p, arguments 1
    ∷ marked
    (atom_record 1 8 0 ∷ integer_record (pos 1) ∷ [])
    (step_records 0 [] (0 ∷ []) (1 ∷ []) ∷ []) usual (answers 7 0 0 [] [])
    -- 7, an assume with a premise: rule 0, p; rule 0, q, premises 0
    ∷ marked
    (atom_record 1 8 0 ∷ atom_record 1 9 0 ∷ [])
    (step_records 0 [] (0 ∷ []) [] ∷ step_records 0 (0 ∷ []) (1 ∷ []) [] ∷ []) usual (answers 7 0 0 [] [])
    -- 7 behind a step that would be accepted: rule 5, (not (< x 3)) (not (> x 2)), arguments 1 1; run S 9 0
    ∷ marked
    (atom_record 2 0 0 ∷ integer_record (pos 3) ∷ operation_record LessThan (0 ∷ 1 ∷ [])
    ∷ operation_record Not (2 ∷ []) ∷ integer_record (pos 2) ∷ operation_record GreaterThan (0 ∷ 4 ∷ [])
    ∷ operation_record Not (5 ∷ []) ∷ integer_record (pos 1) ∷ [])
    (step_records 5 [] (3 ∷ 6 ∷ []) (7 ∷ 7 ∷ []) ∷ run_record 83 9 0 ∷ []) usual (answers 7 0 0 [] [])
    -- 7 behind a step that would be refused: rule 5, (not (< u 3)) (not (> u 2)), arguments 1 1; run S 9 0
    ∷ marked
    (atom_record 3 4 0 ∷ integer_record (pos 3) ∷ operation_record LessThan (0 ∷ 1 ∷ [])
    ∷ operation_record Not (2 ∷ []) ∷ integer_record (pos 2) ∷ operation_record GreaterThan (0 ∷ 4 ∷ [])
    ∷ operation_record Not (5 ∷ []) ∷ integer_record (pos 1) ∷ [])
    (step_records 5 [] (3 ∷ 6 ∷ []) (7 ∷ 7 ∷ []) ∷ run_record 83 9 0 ∷ []) usual (answers 7 0 0 [] [])
    -- 8: rule 6, (not (<= x 3)) (not (>= x 4)), arguments 1; out areas 1000 0
    ∷ marked
    (atom_record 2 0 0 ∷ integer_record (pos 3) ∷ operation_record LessEq (0 ∷ 1 ∷ [])
    ∷ operation_record Not (2 ∷ []) ∷ integer_record (pos 4) ∷ operation_record GreaterEq (0 ∷ 4 ∷ [])
    ∷ operation_record Not (5 ∷ []) ∷ integer_record (pos 1) ∷ [])
    (step_records 6 [] (3 ∷ 6 ∷ []) (7 ∷ []) ∷ []) (1000, 65536, 1000, 0) (answers 8 1 4 [] [])
    -- areas that are just large enough: rule 6, (not (<= x 3)) (not (>= x 4)), arguments 1; out areas 20 32
    ∷ marked
    (atom_record 2 0 0 ∷ integer_record (pos 3) ∷ operation_record LessEq (0 ∷ 1 ∷ [])
    ∷ operation_record Not (2 ∷ []) ∷ integer_record (pos 4) ∷ operation_record GreaterEq (0 ∷ 4 ∷ [])
    ∷ operation_record Not (5 ∷ []) ∷ integer_record (pos 1) ∷ [])
    (step_records 6 [] (3 ∷ 6 ∷ []) (7 ∷ []) ∷ []) (1000, 65536, 20, 32)
    (answers 0 1 4 (step_records 5 [] (3 ∷ 6 ∷ []) (7 ∷ 8 ∷ []) ∷ []) (real_record (pos 1) (pos 1) ∷ []))
    -- 8, tail one byte short: rule 6, (not (<= x 3)) (not (>= x 4)), arguments 1; out areas 20 31
    ∷ marked
    (atom_record 2 0 0 ∷ integer_record (pos 3) ∷ operation_record LessEq (0 ∷ 1 ∷ [])
    ∷ operation_record Not (2 ∷ []) ∷ integer_record (pos 4) ∷ operation_record GreaterEq (0 ∷ 4 ∷ [])
    ∷ operation_record Not (5 ∷ []) ∷ integer_record (pos 1) ∷ [])
    (step_records 6 [] (3 ∷ 6 ∷ []) (7 ∷ []) ∷ []) (1000, 65536, 20, 31) (answers 8 1 4 [] [])
    -- 8, out run one byte short: rule 6, (not (<= x 3)) (not (>= x 4)), arguments 1; out areas 19 32
    ∷ marked
    (atom_record 2 0 0 ∷ integer_record (pos 3) ∷ operation_record LessEq (0 ∷ 1 ∷ [])
    ∷ operation_record Not (2 ∷ []) ∷ integer_record (pos 4) ∷ operation_record GreaterEq (0 ∷ 4 ∷ [])
    ∷ operation_record Not (5 ∷ []) ∷ integer_record (pos 1) ∷ [])
    (step_records 6 [] (3 ∷ 6 ∷ []) (7 ∷ []) ∷ []) (1000, 65536, 19, 32) (answers 8 1 4 [] [])
    -- 30 with nothing accepted and no areas: rule 5, (not (< u 3)) (not (> u 2)), arguments 1 1; out areas 0
    -- 0
    ∷ marked
    (atom_record 3 4 0 ∷ integer_record (pos 3) ∷ operation_record LessThan (0 ∷ 1 ∷ [])
    ∷ operation_record Not (2 ∷ []) ∷ integer_record (pos 2) ∷ operation_record GreaterThan (0 ∷ 4 ∷ [])
    ∷ operation_record Not (5 ∷ []) ∷ integer_record (pos 1) ∷ [])
    (step_records 5 [] (3 ∷ 6 ∷ []) (7 ∷ 7 ∷ []) ∷ []) (1000, 65536, 0, 0) (answers 30 0 0 [] [])
    -- 30 behind an accepted step, which is written: rule 6, (not (<= x 3)) (not (>= x 4)), arguments 1; rule
    -- 5, (not (< u 3)) (not (> u 2)), arguments 1 1
    ∷ marked
    (atom_record 2 0 0 ∷ integer_record (pos 3) ∷ operation_record LessEq (0 ∷ 1 ∷ [])
    ∷ operation_record Not (2 ∷ []) ∷ integer_record (pos 4) ∷ operation_record GreaterEq (0 ∷ 4 ∷ [])
    ∷ operation_record Not (5 ∷ []) ∷ integer_record (pos 1) ∷ atom_record 3 4 0
    ∷ operation_record LessThan (8 ∷ 1 ∷ []) ∷ operation_record Not (9 ∷ []) ∷ integer_record (pos 2)
    ∷ operation_record GreaterThan (8 ∷ 11 ∷ []) ∷ operation_record Not (12 ∷ []) ∷ [])
    (step_records 6 [] (3 ∷ 6 ∷ []) (7 ∷ []) ∷ step_records 5 [] (10 ∷ 13 ∷ []) (7 ∷ 7 ∷ []) ∷ []) usual
    (answers 30 1 4 (step_records 5 [] (3 ∷ 6 ∷ []) (7 ∷ 14 ∷ []) ∷ []) (real_record (pos 1) (pos 1) ∷ []))
    -- 8 in place of 30: rule 6, (not (<= x 3)) (not (>= x 4)), arguments 1; rule 5, (not (< u 3)) (not (> u
    -- 2)), arguments 1 1; out areas 1000 0
    ∷ marked
    (atom_record 2 0 0 ∷ integer_record (pos 3) ∷ operation_record LessEq (0 ∷ 1 ∷ [])
    ∷ operation_record Not (2 ∷ []) ∷ integer_record (pos 4) ∷ operation_record GreaterEq (0 ∷ 4 ∷ [])
    ∷ operation_record Not (5 ∷ []) ∷ integer_record (pos 1) ∷ atom_record 3 4 0
    ∷ operation_record LessThan (8 ∷ 1 ∷ []) ∷ operation_record Not (9 ∷ []) ∷ integer_record (pos 2)
    ∷ operation_record GreaterThan (8 ∷ 11 ∷ []) ∷ operation_record Not (12 ∷ []) ∷ [])
    (step_records 6 [] (3 ∷ 6 ∷ []) (7 ∷ []) ∷ step_records 5 [] (10 ∷ 13 ∷ []) (7 ∷ 7 ∷ []) ∷ [])
    (1000, 65536, 1000, 0) (answers 8 1 4 [] [])
    -- 8 in place of 10: rule 6, (not (<= x 3)) (not (>= x 4)), arguments 1; rule 5, (not (< x 3)) (not (> x
    -- 2)), arguments 1 1; limit 7; out areas 1000 0
    ∷ marked
    (atom_record 2 0 0 ∷ integer_record (pos 3) ∷ operation_record LessEq (0 ∷ 1 ∷ [])
    ∷ operation_record Not (2 ∷ []) ∷ integer_record (pos 4) ∷ operation_record GreaterEq (0 ∷ 4 ∷ [])
    ∷ operation_record Not (5 ∷ []) ∷ integer_record (pos 1) ∷ operation_record LessThan (0 ∷ 1 ∷ [])
    ∷ operation_record Not (8 ∷ []) ∷ integer_record (pos 2) ∷ operation_record GreaterThan (0 ∷ 10 ∷ [])
    ∷ operation_record Not (11 ∷ []) ∷ [])
    (step_records 6 [] (3 ∷ 6 ∷ []) (7 ∷ []) ∷ step_records 5 [] (9 ∷ 12 ∷ []) (7 ∷ 7 ∷ []) ∷ [])
    (7, 65536, 1000, 0) (answers 8 1 4 [] [])
    -- ---- Visits, numbers and polynomial sizes: 10 to 12
    -- 10: rule 5, (not (< x 3)) (not (> x 2)), arguments 1 1; limit 3
    ∷ marked
    (atom_record 2 0 0 ∷ integer_record (pos 3) ∷ operation_record LessThan (0 ∷ 1 ∷ [])
    ∷ operation_record Not (2 ∷ []) ∷ integer_record (pos 2) ∷ operation_record GreaterThan (0 ∷ 4 ∷ [])
    ∷ operation_record Not (5 ∷ []) ∷ integer_record (pos 1) ∷ [])
    (step_records 5 [] (3 ∷ 6 ∷ []) (7 ∷ 7 ∷ []) ∷ []) (3, 65536, 1000, 1000) (answers 10 0 0 [] [])
    -- a limit that is just enough: rule 5, (not (< x 3)) (not (> x 2)), arguments 1 1; limit 4
    ∷ marked
    (atom_record 2 0 0 ∷ integer_record (pos 3) ∷ operation_record LessThan (0 ∷ 1 ∷ [])
    ∷ operation_record Not (2 ∷ []) ∷ integer_record (pos 2) ∷ operation_record GreaterThan (0 ∷ 4 ∷ [])
    ∷ operation_record Not (5 ∷ []) ∷ integer_record (pos 1) ∷ [])
    (step_records 5 [] (3 ∷ 6 ∷ []) (7 ∷ 7 ∷ []) ∷ []) (4, 65536, 1000, 1000)
    (answers 0 1 4 (step_records 5 [] (3 ∷ 6 ∷ []) (7 ∷ 7 ∷ []) ∷ []) [])
    -- 10 in the second step: rule 5, (not (< x 3)) (not (> x 2)), arguments 1 1; rule 5, (not (> x 2)) (not
    -- (< x 3)), arguments 1 1; limit 7
    ∷ marked
    (atom_record 2 0 0 ∷ integer_record (pos 3) ∷ operation_record LessThan (0 ∷ 1 ∷ [])
    ∷ operation_record Not (2 ∷ []) ∷ integer_record (pos 2) ∷ operation_record GreaterThan (0 ∷ 4 ∷ [])
    ∷ operation_record Not (5 ∷ []) ∷ integer_record (pos 1) ∷ [])
    (step_records 5 [] (3 ∷ 6 ∷ []) (7 ∷ 7 ∷ []) ∷ step_records 5 [] (6 ∷ 3 ∷ []) (7 ∷ 7 ∷ []) ∷ [])
    (7, 65536, 1000, 1000) (answers 10 1 4 (step_records 5 [] (3 ∷ 6 ∷ []) (7 ∷ 7 ∷ []) ∷ []) [])
    -- two steps within the limit: rule 5, (not (< x 3)) (not (> x 2)), arguments 1 1; rule 5, (not (> x 2))
    -- (not (< x 3)), arguments 1 1; limit 8
    ∷ marked
    (atom_record 2 0 0 ∷ integer_record (pos 3) ∷ operation_record LessThan (0 ∷ 1 ∷ [])
    ∷ operation_record Not (2 ∷ []) ∷ integer_record (pos 2) ∷ operation_record GreaterThan (0 ∷ 4 ∷ [])
    ∷ operation_record Not (5 ∷ []) ∷ integer_record (pos 1) ∷ [])
    (step_records 5 [] (3 ∷ 6 ∷ []) (7 ∷ 7 ∷ []) ∷ step_records 5 [] (6 ∷ 3 ∷ []) (7 ∷ 7 ∷ []) ∷ [])
    (8, 65536, 1000, 1000) (answers 0 2 8 (step_records 5 [] (3 ∷ 6 ∷ []) (7 ∷ 7 ∷ [])
    ∷ step_records 5 [] (6 ∷ 3 ∷ []) (7 ∷ 7 ∷ []) ∷ []) [])
    -- both factors are read before either is used: rule 4, (< (* 2 (/ 1/2147483647 2)) 0); limit 1
    ∷ marked
    (integer_record (pos 2) ∷ real_record (pos 1) (pos 2147483647) ∷ operation_record RealDiv (1 ∷ 0 ∷ [])
    ∷ operation_record Mult (0 ∷ 2 ∷ []) ∷ integer_record (pos 0) ∷ operation_record LessThan (3 ∷ 4 ∷ [])
    ∷ [])
    (step_records 4 [] (5 ∷ []) [] ∷ []) (1, 65536, 1000, 1000) (answers 11 0 0 [] [])
    -- an argument that is no number, then one out of range: rule 5, (not (< x 3)) (not (> x 2)), arguments x
    -- (/ 1/2147483647 2)
    ∷ marked
    (atom_record 2 0 0 ∷ integer_record (pos 3) ∷ operation_record LessThan (0 ∷ 1 ∷ [])
    ∷ operation_record Not (2 ∷ []) ∷ integer_record (pos 2) ∷ operation_record GreaterThan (0 ∷ 4 ∷ [])
    ∷ operation_record Not (5 ∷ []) ∷ real_record (pos 1) (pos 2147483647)
    ∷ operation_record RealDiv (7 ∷ 4 ∷ []) ∷ [])
    (step_records 5 [] (3 ∷ 6 ∷ []) (0 ∷ 8 ∷ []) ∷ []) usual (answers 25 0 0 [] [])
    -- an argument out of range, then one that is no number: rule 5, (not (< x 3)) (not (> x 2)), arguments (/
    -- 1/2147483647 2) x
    ∷ marked
    (atom_record 2 0 0 ∷ integer_record (pos 3) ∷ operation_record LessThan (0 ∷ 1 ∷ [])
    ∷ operation_record Not (2 ∷ []) ∷ integer_record (pos 2) ∷ operation_record GreaterThan (0 ∷ 4 ∷ [])
    ∷ operation_record Not (5 ∷ []) ∷ real_record (pos 1) (pos 2147483647)
    ∷ operation_record RealDiv (7 ∷ 4 ∷ []) ∷ [])
    (step_records 5 [] (3 ∷ 6 ∷ []) (8 ∷ 0 ∷ []) ∷ []) usual (answers 11 0 0 [] [])
    -- a surplus argument that is no number: rule 6, (not (< x 3)) (not (> x 2)), arguments 1 1 x
    ∷ marked
    (atom_record 2 0 0 ∷ integer_record (pos 3) ∷ operation_record LessThan (0 ∷ 1 ∷ [])
    ∷ operation_record Not (2 ∷ []) ∷ integer_record (pos 2) ∷ operation_record GreaterThan (0 ∷ 4 ∷ [])
    ∷ operation_record Not (5 ∷ []) ∷ integer_record (pos 1) ∷ [])
    (step_records 6 [] (3 ∷ 6 ∷ []) (7 ∷ 7 ∷ 0 ∷ []) ∷ []) usual (answers 25 0 0 [] [])
    -- a number out of range inside an atom is not read: rule 5, (not (< (* t u (/ 1/2147483647 2)) 3)) (not
    -- (>= (* t u (/ 1/2147483647 2)) 3)), arguments 1 1
    ∷ marked
    (atom_record 3 3 0 ∷ atom_record 3 4 0 ∷ real_record (pos 1) (pos 2147483647) ∷ integer_record (pos 2)
    ∷ operation_record RealDiv (2 ∷ 3 ∷ []) ∷ operation_record Mult (0 ∷ 1 ∷ 4 ∷ []) ∷ integer_record (pos 3)
    ∷ operation_record LessThan (5 ∷ 6 ∷ []) ∷ operation_record Not (7 ∷ [])
    ∷ operation_record GreaterEq (5 ∷ 6 ∷ []) ∷ operation_record Not (9 ∷ []) ∷ integer_record (pos 1) ∷ [])
    (step_records 5 [] (8 ∷ 10 ∷ []) (11 ∷ 11 ∷ []) ∷ []) usual
    (answers 0 1 4 (step_records 5 [] (8 ∷ 10 ∷ []) (11 ∷ 11 ∷ []) ∷ []) [])
    -- strengthening under argument 0: rule 5, (not (> x 2147483647)), arguments 0
    ∷ marked
    (atom_record 2 0 0 ∷ integer_record (pos 2147483647) ∷ operation_record GreaterThan (0 ∷ 1 ∷ [])
    ∷ operation_record Not (2 ∷ []) ∷ integer_record (pos 0) ∷ [])
    (step_records 5 [] (3 ∷ []) (4 ∷ []) ∷ []) usual (answers 11 0 0 [] [])
    -- the product inside strengthen is not ranged: rule 5, (not (>= x 2147483647/1073741824)) (not (<= x 1)),
    -- arguments 3 3
    ∷ marked
    (atom_record 2 0 0 ∷ real_record (pos 2147483647) (pos 1073741824)
    ∷ operation_record GreaterEq (0 ∷ 1 ∷ []) ∷ operation_record Not (2 ∷ []) ∷ integer_record (pos 1)
    ∷ operation_record LessEq (0 ∷ 4 ∷ []) ∷ operation_record Not (5 ∷ []) ∷ integer_record (pos 3) ∷ [])
    (step_records 5 [] (3 ∷ 6 ∷ []) (7 ∷ 7 ∷ []) ∷ []) usual
    (answers 0 1 4 (step_records 5 [] (3 ∷ 6 ∷ []) (7 ∷ 7 ∷ []) ∷ []) [])
    -- 12, nine atoms: rule 7, (= (* x x x x x x x x x) x)
    ∷ marked
    (atom_record 2 0 0 ∷ operation_record Mult (0 ∷ 0 ∷ 0 ∷ 0 ∷ 0 ∷ 0 ∷ 0 ∷ 0 ∷ 0 ∷ [])
    ∷ operation_record Equals (1 ∷ 0 ∷ []) ∷ [])
    (step_records 7 [] (2 ∷ []) [] ∷ []) usual (answers 12 0 0 [] [])
    -- eight atoms: rule 7, (= (* x x x x x x x x) (* x x x x x x x x))
    ∷ marked
    (atom_record 2 0 0 ∷ operation_record Mult (0 ∷ 0 ∷ 0 ∷ 0 ∷ 0 ∷ 0 ∷ 0 ∷ 0 ∷ [])
    ∷ operation_record Equals (1 ∷ 1 ∷ []) ∷ [])
    (step_records 7 [] (2 ∷ []) [] ∷ []) usual (answers 0 1 18 (step_records 7 [] (2 ∷ []) [] ∷ []) [])
    -- 12, nine products deep: rule 7, (= (* 1 (* 1 (* 1 (* 1 (* 1 (* 1 (* 1 (* 1 (* 1 x))))))))) x)
    ∷ marked
    (integer_record (pos 1) ∷ atom_record 2 0 0 ∷ operation_record Mult (0 ∷ 1 ∷ [])
    ∷ operation_record Mult (0 ∷ 2 ∷ []) ∷ operation_record Mult (0 ∷ 3 ∷ [])
    ∷ operation_record Mult (0 ∷ 4 ∷ []) ∷ operation_record Mult (0 ∷ 5 ∷ [])
    ∷ operation_record Mult (0 ∷ 6 ∷ []) ∷ operation_record Mult (0 ∷ 7 ∷ [])
    ∷ operation_record Mult (0 ∷ 8 ∷ []) ∷ operation_record Mult (0 ∷ 9 ∷ [])
    ∷ operation_record Equals (10 ∷ 1 ∷ []) ∷ [])
    (step_records 7 [] (11 ∷ []) [] ∷ []) usual (answers 12 0 0 [] [])
    -- the visit comes before the depth: rule 7, (= (* 1 (* 1 (* 1 (* 1 (* 1 (* 1 (* 1 (* 1 (* 1 x)))))))))
    -- x); limit 16
    ∷ marked
    (integer_record (pos 1) ∷ atom_record 2 0 0 ∷ operation_record Mult (0 ∷ 1 ∷ [])
    ∷ operation_record Mult (0 ∷ 2 ∷ []) ∷ operation_record Mult (0 ∷ 3 ∷ [])
    ∷ operation_record Mult (0 ∷ 4 ∷ []) ∷ operation_record Mult (0 ∷ 5 ∷ [])
    ∷ operation_record Mult (0 ∷ 6 ∷ []) ∷ operation_record Mult (0 ∷ 7 ∷ [])
    ∷ operation_record Mult (0 ∷ 8 ∷ []) ∷ operation_record Mult (0 ∷ 9 ∷ [])
    ∷ operation_record Equals (10 ∷ 1 ∷ []) ∷ [])
    (step_records 7 [] (11 ∷ []) [] ∷ []) (16, 65536, 1000, 1000) (answers 10 0 0 [] [])
    -- the depth comes before the factors: rule 7, (= (* 1 (* 1 (* 1 (* 1 (* 1 (* 1 (* 1 (* 1 (* 1 x)))))))))
    -- x); limit 17
    ∷ marked
    (integer_record (pos 1) ∷ atom_record 2 0 0 ∷ operation_record Mult (0 ∷ 1 ∷ [])
    ∷ operation_record Mult (0 ∷ 2 ∷ []) ∷ operation_record Mult (0 ∷ 3 ∷ [])
    ∷ operation_record Mult (0 ∷ 4 ∷ []) ∷ operation_record Mult (0 ∷ 5 ∷ [])
    ∷ operation_record Mult (0 ∷ 6 ∷ []) ∷ operation_record Mult (0 ∷ 7 ∷ [])
    ∷ operation_record Mult (0 ∷ 8 ∷ []) ∷ operation_record Mult (0 ∷ 9 ∷ [])
    ∷ operation_record Equals (10 ∷ 1 ∷ []) ∷ [])
    (step_records 7 [] (11 ∷ []) [] ∷ []) (17, 65536, 1000, 1000) (answers 12 0 0 [] [])
    -- eight products deep: rule 7, (= (* 1 (* 1 (* 1 (* 1 (* 1 (* 1 (* 1 (* 1 x)))))))) x)
    ∷ marked
    (integer_record (pos 1) ∷ atom_record 2 0 0 ∷ operation_record Mult (0 ∷ 1 ∷ [])
    ∷ operation_record Mult (0 ∷ 2 ∷ []) ∷ operation_record Mult (0 ∷ 3 ∷ [])
    ∷ operation_record Mult (0 ∷ 4 ∷ []) ∷ operation_record Mult (0 ∷ 5 ∷ [])
    ∷ operation_record Mult (0 ∷ 6 ∷ []) ∷ operation_record Mult (0 ∷ 7 ∷ [])
    ∷ operation_record Mult (0 ∷ 8 ∷ []) ∷ operation_record Equals (9 ∷ 1 ∷ []) ∷ [])
    (step_records 7 [] (10 ∷ []) [] ∷ []) usual (answers 0 1 18 (step_records 7 [] (10 ∷ []) [] ∷ []) [])
    -- 12, 66 monomials: rule 7, (= (* (+ a0 a1 a2 a3 a4 a5 a6 a7 b0 b1 b2) (+ a0 a1 a2 a3 a4 a5 a6 a7 b0 b1
    -- b2)) x)
    ∷ marked
    (atom_record 2 10 0 ∷ atom_record 2 11 0 ∷ atom_record 2 12 0 ∷ atom_record 2 13 0 ∷ atom_record 2 14 0
    ∷ atom_record 2 15 0 ∷ atom_record 2 16 0 ∷ atom_record 2 17 0 ∷ atom_record 2 18 0 ∷ atom_record 2 19 0
    ∷ atom_record 2 20 0 ∷ operation_record Add (0 ∷ 1 ∷ 2 ∷ 3 ∷ 4 ∷ 5 ∷ 6 ∷ 7 ∷ 8 ∷ 9 ∷ 10 ∷ [])
    ∷ operation_record Mult (11 ∷ 11 ∷ []) ∷ atom_record 2 0 0 ∷ operation_record Equals (12 ∷ 13 ∷ []) ∷ [])
    (step_records 7 [] (14 ∷ []) [] ∷ []) usual (answers 12 0 0 [] [])
    -- 64 monomials: rule 7, (= (* (+ a0 a1 a2 a3 a4 a5 a6 a7) (+ b0 b1 b2 b3 b4 b5 b6 b7)) (* (+ b0 b1 b2 b3
    -- b4 b5 b6 b7) (+ a0 a1 a2 a3 a4 a5 a6 a7)))
    ∷ marked
    (atom_record 2 10 0 ∷ atom_record 2 11 0 ∷ atom_record 2 12 0 ∷ atom_record 2 13 0 ∷ atom_record 2 14 0
    ∷ atom_record 2 15 0 ∷ atom_record 2 16 0 ∷ atom_record 2 17 0
    ∷ operation_record Add (0 ∷ 1 ∷ 2 ∷ 3 ∷ 4 ∷ 5 ∷ 6 ∷ 7 ∷ []) ∷ atom_record 2 18 0 ∷ atom_record 2 19 0
    ∷ atom_record 2 20 0 ∷ atom_record 2 21 0 ∷ atom_record 2 22 0 ∷ atom_record 2 23 0 ∷ atom_record 2 24 0
    ∷ atom_record 2 25 0 ∷ operation_record Add (9 ∷ 10 ∷ 11 ∷ 12 ∷ 13 ∷ 14 ∷ 15 ∷ 16 ∷ [])
    ∷ operation_record Mult (8 ∷ 17 ∷ []) ∷ operation_record Mult (17 ∷ 8 ∷ [])
    ∷ operation_record Equals (18 ∷ 19 ∷ []) ∷ [])
    (step_records 7 [] (20 ∷ []) [] ∷ []) usual (answers 0 1 38 (step_records 7 [] (20 ∷ []) [] ∷ []) [])
    -- the last subtraction enters monomials too: rule 7, (= (* (+ a0 a1 a2 a3 a4 a5 a6 a7) (+ b0 b1 b2 b3 b4
    -- b5 b6 b7)) x)
    ∷ marked
    (atom_record 2 10 0 ∷ atom_record 2 11 0 ∷ atom_record 2 12 0 ∷ atom_record 2 13 0 ∷ atom_record 2 14 0
    ∷ atom_record 2 15 0 ∷ atom_record 2 16 0 ∷ atom_record 2 17 0
    ∷ operation_record Add (0 ∷ 1 ∷ 2 ∷ 3 ∷ 4 ∷ 5 ∷ 6 ∷ 7 ∷ []) ∷ atom_record 2 18 0 ∷ atom_record 2 19 0
    ∷ atom_record 2 20 0 ∷ atom_record 2 21 0 ∷ atom_record 2 22 0 ∷ atom_record 2 23 0 ∷ atom_record 2 24 0
    ∷ atom_record 2 25 0 ∷ operation_record Add (9 ∷ 10 ∷ 11 ∷ 12 ∷ 13 ∷ 14 ∷ 15 ∷ 16 ∷ [])
    ∷ operation_record Mult (8 ∷ 17 ∷ []) ∷ atom_record 2 0 0 ∷ operation_record Equals (18 ∷ 19 ∷ []) ∷ [])
    (step_records 7 [] (20 ∷ []) [] ∷ []) usual (answers 12 0 0 [] [])
    -- a product out of range before the 65th monomial: rule 7, (= (* (+ a0 a1 a2 a3 a4 a5 a6 (* 2147483647
    -- a7)) (+ b0 (* 2 b1) b2 b3 b4 b5 b6 b7 1)) x)
    ∷ marked
    (atom_record 2 10 0 ∷ atom_record 2 11 0 ∷ atom_record 2 12 0 ∷ atom_record 2 13 0 ∷ atom_record 2 14 0
    ∷ atom_record 2 15 0 ∷ atom_record 2 16 0 ∷ integer_record (pos 2147483647) ∷ atom_record 2 17 0
    ∷ operation_record Mult (7 ∷ 8 ∷ []) ∷ operation_record Add (0 ∷ 1 ∷ 2 ∷ 3 ∷ 4 ∷ 5 ∷ 6 ∷ 9 ∷ [])
    ∷ atom_record 2 18 0 ∷ integer_record (pos 2) ∷ atom_record 2 19 0 ∷ operation_record Mult (12 ∷ 13 ∷ [])
    ∷ atom_record 2 20 0 ∷ atom_record 2 21 0 ∷ atom_record 2 22 0 ∷ atom_record 2 23 0 ∷ atom_record 2 24 0
    ∷ atom_record 2 25 0 ∷ integer_record (pos 1)
    ∷ operation_record Add (11 ∷ 14 ∷ 15 ∷ 16 ∷ 17 ∷ 18 ∷ 19 ∷ 20 ∷ 21 ∷ [])
    ∷ operation_record Mult (10 ∷ 22 ∷ []) ∷ atom_record 2 0 0 ∷ operation_record Equals (23 ∷ 24 ∷ []) ∷ [])
    (step_records 7 [] (25 ∷ []) [] ∷ []) usual (answers 11 0 0 [] [])
    -- the 65th monomial: rule 7, (= (* (+ a0 a1 a2 a3 a4 a5 a6 (* 2147483647 a7)) (+ b0 b1 b2 b3 b4 b5 b6 b7
    -- 1)) x)
    ∷ marked
    (atom_record 2 10 0 ∷ atom_record 2 11 0 ∷ atom_record 2 12 0 ∷ atom_record 2 13 0 ∷ atom_record 2 14 0
    ∷ atom_record 2 15 0 ∷ atom_record 2 16 0 ∷ integer_record (pos 2147483647) ∷ atom_record 2 17 0
    ∷ operation_record Mult (7 ∷ 8 ∷ []) ∷ operation_record Add (0 ∷ 1 ∷ 2 ∷ 3 ∷ 4 ∷ 5 ∷ 6 ∷ 9 ∷ [])
    ∷ atom_record 2 18 0 ∷ atom_record 2 19 0 ∷ atom_record 2 20 0 ∷ atom_record 2 21 0 ∷ atom_record 2 22 0
    ∷ atom_record 2 23 0 ∷ atom_record 2 24 0 ∷ atom_record 2 25 0 ∷ integer_record (pos 1)
    ∷ operation_record Add (11 ∷ 12 ∷ 13 ∷ 14 ∷ 15 ∷ 16 ∷ 17 ∷ 18 ∷ 19 ∷ [])
    ∷ operation_record Mult (10 ∷ 20 ∷ []) ∷ atom_record 2 0 0 ∷ operation_record Equals (21 ∷ 22 ∷ []) ∷ [])
    (step_records 7 [] (23 ∷ []) [] ∷ []) usual (answers 12 0 0 [] [])
    -- the length comes before the coefficient: rule 7, (= (* (* 2147483647 x x x x) (* 2 y y y y y)) x)
    ∷ marked
    (integer_record (pos 2147483647) ∷ atom_record 2 0 0 ∷ operation_record Mult (0 ∷ 1 ∷ 1 ∷ 1 ∷ 1 ∷ [])
    ∷ integer_record (pos 2) ∷ atom_record 2 1 0 ∷ operation_record Mult (3 ∷ 4 ∷ 4 ∷ 4 ∷ 4 ∷ 4 ∷ [])
    ∷ operation_record Mult (2 ∷ 5 ∷ []) ∷ operation_record Equals (6 ∷ 1 ∷ []) ∷ [])
    (step_records 7 [] (7 ∷ []) [] ∷ []) usual (answers 12 0 0 [] [])
    -- a coefficient out of range at eight atoms: rule 7, (= (* (* 2147483647 x x x x) (* 2 y y y y)) x)
    ∷ marked
    (integer_record (pos 2147483647) ∷ atom_record 2 0 0 ∷ operation_record Mult (0 ∷ 1 ∷ 1 ∷ 1 ∷ 1 ∷ [])
    ∷ integer_record (pos 2) ∷ atom_record 2 1 0 ∷ operation_record Mult (3 ∷ 4 ∷ 4 ∷ 4 ∷ 4 ∷ [])
    ∷ operation_record Mult (2 ∷ 5 ∷ []) ∷ operation_record Equals (6 ∷ 1 ∷ []) ∷ [])
    (step_records 7 [] (7 ∷ []) [] ∷ []) usual (answers 11 0 0 [] [])
    -- a sum out of range: rule 7, (= (+ (* 2147483647 x) x) x)
    ∷ marked
    (integer_record (pos 2147483647) ∷ atom_record 2 0 0 ∷ operation_record Mult (0 ∷ 1 ∷ [])
    ∷ operation_record Add (2 ∷ 1 ∷ []) ∷ operation_record Equals (3 ∷ 1 ∷ []) ∷ [])
    (step_records 7 [] (4 ∷ []) [] ∷ []) usual (answers 11 0 0 [] [])
    -- the first two factors are multiplied before the third is walked: rule 7, (= (* (* 2147483647 x) 2 y)
    -- x); limit 5
    ∷ marked
    (integer_record (pos 2147483647) ∷ atom_record 2 0 0 ∷ operation_record Mult (0 ∷ 1 ∷ [])
    ∷ integer_record (pos 2) ∷ atom_record 2 1 0 ∷ operation_record Mult (2 ∷ 3 ∷ 4 ∷ [])
    ∷ operation_record Equals (5 ∷ 1 ∷ []) ∷ [])
    (step_records 7 [] (6 ∷ []) [] ∷ []) (5, 65536, 1000, 1000) (answers 11 0 0 [] [])
    -- the second factor is walked before the product: rule 7, (= (* (* 2147483647 x) 2 y) x); limit 4
    ∷ marked
    (integer_record (pos 2147483647) ∷ atom_record 2 0 0 ∷ operation_record Mult (0 ∷ 1 ∷ [])
    ∷ integer_record (pos 2) ∷ atom_record 2 1 0 ∷ operation_record Mult (2 ∷ 3 ∷ 4 ∷ [])
    ∷ operation_record Equals (5 ∷ 1 ∷ []) ∷ [])
    (step_records 7 [] (6 ∷ []) [] ∷ []) (4, 65536, 1000, 1000) (answers 10 0 0 [] [])
    -- a removal moves the last monomial into the gap: rule 7, (= (* (+ x y z (* y z) (- x)) (+ (* 2147483647
    -- y) z (- 1))) (* (+ x y z (* y z) (- x)) (+ (* 2147483647 y) z (- 1))))
    ∷ marked
    (atom_record 2 0 0 ∷ atom_record 2 1 0 ∷ atom_record 2 2 0 ∷ operation_record Mult (1 ∷ 2 ∷ [])
    ∷ operation_record Sub (0 ∷ []) ∷ operation_record Add (0 ∷ 1 ∷ 2 ∷ 3 ∷ 4 ∷ [])
    ∷ integer_record (pos 2147483647) ∷ operation_record Mult (6 ∷ 1 ∷ []) ∷ integer_record (pos 1)
    ∷ operation_record Sub (8 ∷ []) ∷ operation_record Add (7 ∷ 2 ∷ 9 ∷ [])
    ∷ operation_record Mult (5 ∷ 10 ∷ []) ∷ operation_record Equals (11 ∷ 11 ∷ []) ∷ [])
    (step_records 7 [] (12 ∷ []) [] ∷ []) usual (answers 0 1 34 (step_records 7 [] (12 ∷ []) [] ∷ []) [])
    -- the same sum with nothing removed: rule 7, (= (* (+ y z (* y z)) (+ (* 2147483647 y) z (- 1))) x)
    ∷ marked
    (atom_record 2 1 0 ∷ atom_record 2 2 0 ∷ operation_record Mult (0 ∷ 1 ∷ [])
    ∷ operation_record Add (0 ∷ 1 ∷ 2 ∷ []) ∷ integer_record (pos 2147483647)
    ∷ operation_record Mult (4 ∷ 0 ∷ []) ∷ integer_record (pos 1) ∷ operation_record Sub (6 ∷ [])
    ∷ operation_record Add (5 ∷ 1 ∷ 7 ∷ []) ∷ operation_record Mult (3 ∷ 8 ∷ []) ∷ atom_record 2 0 0
    ∷ operation_record Equals (9 ∷ 10 ∷ []) ∷ [])
    (step_records 7 [] (11 ∷ []) [] ∷ []) usual (answers 11 0 0 [] [])
    -- ---- Refusals 20 to 42
    -- 21: rule 8, (= (< x y) (< x y))
    ∷ marked
    (atom_record 2 0 0 ∷ atom_record 2 1 0 ∷ operation_record LessThan (0 ∷ 1 ∷ [])
    ∷ operation_record Equals (2 ∷ 2 ∷ []) ∷ [])
    (step_records 8 [] (3 ∷ []) [] ∷ []) usual (answers 21 0 0 [] [])
    -- 22: rule 3, (or (<= x y) (<= y x)) (or (<= x y) (<= y x))
    ∷ marked
    (atom_record 2 0 0 ∷ atom_record 2 1 0 ∷ operation_record LessEq (0 ∷ 1 ∷ [])
    ∷ operation_record LessEq (1 ∷ 0 ∷ []) ∷ operation_record Or (2 ∷ 3 ∷ []) ∷ [])
    (step_records 3 [] (4 ∷ 4 ∷ []) [] ∷ []) usual (answers 22 0 0 [] [])
    -- 23: rule 5, (not (< x 3)) (not (> x 2)), arguments 1 1; rule 8, (= (< x y) (< x y)), premises 0
    ∷ marked
    (atom_record 2 0 0 ∷ integer_record (pos 3) ∷ operation_record LessThan (0 ∷ 1 ∷ [])
    ∷ operation_record Not (2 ∷ []) ∷ integer_record (pos 2) ∷ operation_record GreaterThan (0 ∷ 4 ∷ [])
    ∷ operation_record Not (5 ∷ []) ∷ integer_record (pos 1) ∷ atom_record 2 1 0
    ∷ operation_record LessThan (0 ∷ 8 ∷ []) ∷ operation_record Equals (9 ∷ 9 ∷ []) ∷ [])
    (step_records 5 [] (3 ∷ 6 ∷ []) (7 ∷ 7 ∷ []) ∷ step_records 8 (0 ∷ []) (10 ∷ []) [] ∷ []) usual
    (answers 23 1 4 (step_records 5 [] (3 ∷ 6 ∷ []) (7 ∷ 7 ∷ []) ∷ []) [])
    -- 24: rule 3, (= x y)
    ∷ marked
    (atom_record 2 0 0 ∷ atom_record 2 1 0 ∷ operation_record Equals (0 ∷ 1 ∷ []) ∷ [])
    (step_records 3 [] (2 ∷ []) [] ∷ []) usual (answers 24 0 0 [] [])
    -- 25: rule 5, (not (< x 3)) (not (> x 2)), arguments 1 x
    ∷ marked
    (atom_record 2 0 0 ∷ integer_record (pos 3) ∷ operation_record LessThan (0 ∷ 1 ∷ [])
    ∷ operation_record Not (2 ∷ []) ∷ integer_record (pos 2) ∷ operation_record GreaterThan (0 ∷ 4 ∷ [])
    ∷ operation_record Not (5 ∷ []) ∷ integer_record (pos 1) ∷ [])
    (step_records 5 [] (3 ∷ 6 ∷ []) (7 ∷ 0 ∷ []) ∷ []) usual (answers 25 0 0 [] [])
    -- 26: rule 6, (= x y)
    ∷ marked
    (atom_record 2 0 0 ∷ atom_record 2 1 0 ∷ operation_record Equals (0 ∷ 1 ∷ []) ∷ [])
    (step_records 6 [] (2 ∷ []) [] ∷ []) usual (answers 26 0 0 [] [])
    -- 27: rule 6, (< x y z)
    ∷ marked
    (atom_record 2 0 0 ∷ atom_record 2 1 0 ∷ atom_record 2 2 0 ∷ operation_record LessThan (0 ∷ 1 ∷ 2 ∷ [])
    ∷ [])
    (step_records 6 [] (3 ∷ []) [] ∷ []) usual (answers 27 0 0 [] [])
    -- 31: rule 4, (or (<= x 1) (<= x 2))
    ∷ marked
    (atom_record 2 0 0 ∷ integer_record (pos 1) ∷ operation_record LessEq (0 ∷ 1 ∷ [])
    ∷ integer_record (pos 2) ∷ operation_record LessEq (0 ∷ 3 ∷ []) ∷ operation_record Or (2 ∷ 4 ∷ []) ∷ [])
    (step_records 4 [] (5 ∷ []) [] ∷ []) usual (answers 31 0 0 [] [])
    -- 33: rule 4, (or (not (<= x 1)) (<= y 2))
    ∷ marked
    (atom_record 2 0 0 ∷ integer_record (pos 1) ∷ operation_record LessEq (0 ∷ 1 ∷ [])
    ∷ operation_record Not (2 ∷ []) ∷ atom_record 2 1 0 ∷ integer_record (pos 2)
    ∷ operation_record LessEq (4 ∷ 5 ∷ []) ∷ operation_record Or (3 ∷ 6 ∷ []) ∷ [])
    (step_records 4 [] (7 ∷ []) [] ∷ []) usual (answers 33 0 0 [] [])
    -- 34: rule 4, (or (not (<= x 2)) (not (>= x 2)))
    ∷ marked
    (atom_record 2 0 0 ∷ integer_record (pos 2) ∷ operation_record LessEq (0 ∷ 1 ∷ [])
    ∷ operation_record Not (2 ∷ []) ∷ operation_record GreaterEq (0 ∷ 1 ∷ []) ∷ operation_record Not (4 ∷ [])
    ∷ operation_record Or (3 ∷ 5 ∷ []) ∷ [])
    (step_records 4 [] (6 ∷ []) [] ∷ []) usual (answers 34 0 0 [] [])
    -- 35: rule 4, (or (not (<= x 2)) (<= x 1))
    ∷ marked
    (atom_record 2 0 0 ∷ integer_record (pos 2) ∷ operation_record LessEq (0 ∷ 1 ∷ [])
    ∷ operation_record Not (2 ∷ []) ∷ integer_record (pos 1) ∷ operation_record LessEq (0 ∷ 4 ∷ [])
    ∷ operation_record Or (3 ∷ 5 ∷ []) ∷ [])
    (step_records 4 [] (6 ∷ []) [] ∷ []) usual (answers 35 0 0 [] [])
    -- 37: rule 0, (= (* 0 (- x y)) (* 1 (- x y))); rule 8, (= (< x y) (< x y)), premises 0
    ∷ marked
    (integer_record (pos 0) ∷ atom_record 2 0 0 ∷ atom_record 2 1 0 ∷ operation_record Sub (1 ∷ 2 ∷ [])
    ∷ operation_record Mult (0 ∷ 3 ∷ []) ∷ integer_record (pos 1) ∷ operation_record Mult (5 ∷ 3 ∷ [])
    ∷ operation_record Equals (4 ∷ 6 ∷ []) ∷ operation_record LessThan (1 ∷ 2 ∷ [])
    ∷ operation_record Equals (8 ∷ 8 ∷ []) ∷ [])
    (step_records 0 [] (7 ∷ []) [] ∷ step_records 8 (0 ∷ []) (9 ∷ []) [] ∷ []) usual
    (answers 37 1 0 (step_records 0 [] (7 ∷ []) [] ∷ []) [])
    -- 38: rule 0, (= (* 1 (- x y)) (* (- 1) (- x y))); rule 8, (= (< x y) (< x y)), premises 0
    ∷ marked
    (integer_record (pos 1) ∷ atom_record 2 0 0 ∷ atom_record 2 1 0 ∷ operation_record Sub (1 ∷ 2 ∷ [])
    ∷ operation_record Mult (0 ∷ 3 ∷ []) ∷ operation_record Sub (0 ∷ []) ∷ operation_record Mult (5 ∷ 3 ∷ [])
    ∷ operation_record Equals (4 ∷ 6 ∷ []) ∷ operation_record LessThan (1 ∷ 2 ∷ [])
    ∷ operation_record Equals (8 ∷ 8 ∷ []) ∷ [])
    (step_records 0 [] (7 ∷ []) [] ∷ step_records 8 (0 ∷ []) (9 ∷ []) [] ∷ []) usual
    (answers 38 1 0 (step_records 0 [] (7 ∷ []) [] ∷ []) [])
    -- 39: rule 0, (= (bvmul #x02 (bvsub v w)) (bvmul #x01 (bvsub v w))); rule 8, (= (= v w) (= v w)),
    -- premises 0
    ∷ marked
    (vector_record 2 8 ∷ atom_record 4 5 8 ∷ atom_record 4 6 8 ∷ operation_record BvSub (1 ∷ 2 ∷ [])
    ∷ operation_record BvMul (0 ∷ 3 ∷ []) ∷ vector_record 1 8 ∷ operation_record BvMul (5 ∷ 3 ∷ [])
    ∷ operation_record Equals (4 ∷ 6 ∷ []) ∷ operation_record Equals (1 ∷ 2 ∷ [])
    ∷ operation_record Equals (8 ∷ 8 ∷ []) ∷ [])
    (step_records 0 [] (7 ∷ []) [] ∷ step_records 8 (0 ∷ []) (9 ∷ []) [] ∷ []) usual
    (answers 39 1 0 (step_records 0 [] (7 ∷ []) [] ∷ []) [])
    -- 40: rule 0, (= (* 1 (- x y)) (* 2 (- x y))); rule 8, (= (< x y) (<= x y)), premises 0
    ∷ marked
    (integer_record (pos 1) ∷ atom_record 2 0 0 ∷ atom_record 2 1 0 ∷ operation_record Sub (1 ∷ 2 ∷ [])
    ∷ operation_record Mult (0 ∷ 3 ∷ []) ∷ integer_record (pos 2) ∷ operation_record Mult (5 ∷ 3 ∷ [])
    ∷ operation_record Equals (4 ∷ 6 ∷ []) ∷ operation_record LessThan (1 ∷ 2 ∷ [])
    ∷ operation_record LessEq (1 ∷ 2 ∷ []) ∷ operation_record Equals (8 ∷ 9 ∷ []) ∷ [])
    (step_records 0 [] (7 ∷ []) [] ∷ step_records 8 (0 ∷ []) (10 ∷ []) [] ∷ []) usual
    (answers 40 1 0 (step_records 0 [] (7 ∷ []) [] ∷ []) [])
    -- 41: rule 0, (= (bvmul w (bvsub v w)) (bvmul #x01 (bvsub v w))); rule 8, (= (= v w) (= v w)), premises 0
    ∷ marked
    (atom_record 4 6 8 ∷ atom_record 4 5 8 ∷ operation_record BvSub (1 ∷ 0 ∷ [])
    ∷ operation_record BvMul (0 ∷ 2 ∷ []) ∷ vector_record 1 8 ∷ operation_record BvMul (4 ∷ 2 ∷ [])
    ∷ operation_record Equals (3 ∷ 5 ∷ []) ∷ operation_record Equals (1 ∷ 0 ∷ [])
    ∷ operation_record Equals (7 ∷ 7 ∷ []) ∷ [])
    (step_records 0 [] (6 ∷ []) [] ∷ step_records 8 (0 ∷ []) (8 ∷ []) [] ∷ []) usual
    (answers 41 1 0 (step_records 0 [] (6 ∷ []) [] ∷ []) [])
    -- 42: rule 0, (= (* 1 (- x y)) (* 2 (- x y))); rule 8, (= p q), premises 0
    ∷ marked
    (integer_record (pos 1) ∷ atom_record 2 0 0 ∷ atom_record 2 1 0 ∷ operation_record Sub (1 ∷ 2 ∷ [])
    ∷ operation_record Mult (0 ∷ 3 ∷ []) ∷ integer_record (pos 2) ∷ operation_record Mult (5 ∷ 3 ∷ [])
    ∷ operation_record Equals (4 ∷ 6 ∷ []) ∷ atom_record 1 8 0 ∷ atom_record 1 9 0
    ∷ operation_record Equals (8 ∷ 9 ∷ []) ∷ [])
    (step_records 0 [] (7 ∷ []) [] ∷ step_records 8 (0 ∷ []) (10 ∷ []) [] ∷ []) usual
    (answers 42 1 0 (step_records 0 [] (7 ∷ []) [] ∷ []) [])
    -- ---- Rules 1 to 4
    -- rule 1: rule 1, (= (= x y) (and (<= x y) (<= y x)))
    ∷ marked
    (atom_record 2 0 0 ∷ atom_record 2 1 0 ∷ operation_record Equals (0 ∷ 1 ∷ [])
    ∷ operation_record LessEq (0 ∷ 1 ∷ []) ∷ operation_record LessEq (1 ∷ 0 ∷ [])
    ∷ operation_record And (3 ∷ 4 ∷ []) ∷ operation_record Equals (2 ∷ 5 ∷ []) ∷ [])
    (step_records 1 [] (6 ∷ []) [] ∷ []) usual (answers 0 1 0 (step_records 1 [] (6 ∷ []) [] ∷ []) [])
    -- rule 1, the second bound not turned: rule 1, (= (= x y) (and (<= x y) (<= x y)))
    ∷ marked
    (atom_record 2 0 0 ∷ atom_record 2 1 0 ∷ operation_record Equals (0 ∷ 1 ∷ [])
    ∷ operation_record LessEq (0 ∷ 1 ∷ []) ∷ operation_record And (3 ∷ 3 ∷ [])
    ∷ operation_record Equals (2 ∷ 4 ∷ []) ∷ [])
    (step_records 1 [] (5 ∷ []) [] ∷ []) usual (answers 24 0 0 [] [])
    -- rule 2: rule 2, (or (= x y) (not (<= x y)) (not (<= y x)))
    ∷ marked
    (atom_record 2 0 0 ∷ atom_record 2 1 0 ∷ operation_record Equals (0 ∷ 1 ∷ [])
    ∷ operation_record LessEq (0 ∷ 1 ∷ []) ∷ operation_record Not (3 ∷ [])
    ∷ operation_record LessEq (1 ∷ 0 ∷ []) ∷ operation_record Not (5 ∷ [])
    ∷ operation_record Or (2 ∷ 4 ∷ 6 ∷ []) ∷ [])
    (step_records 2 [] (7 ∷ []) [] ∷ []) usual (answers 0 1 0 (step_records 2 [] (7 ∷ []) [] ∷ []) [])
    -- rule 2, the first bound turned: rule 2, (or (= x y) (not (<= y x)) (not (<= y x)))
    ∷ marked
    (atom_record 2 0 0 ∷ atom_record 2 1 0 ∷ operation_record Equals (0 ∷ 1 ∷ [])
    ∷ operation_record LessEq (1 ∷ 0 ∷ []) ∷ operation_record Not (3 ∷ [])
    ∷ operation_record Or (2 ∷ 4 ∷ 4 ∷ []) ∷ [])
    (step_records 2 [] (5 ∷ []) [] ∷ []) usual (answers 24 0 0 [] [])
    -- rule 3: rule 3, (or (<= x y) (<= y x))
    ∷ marked
    (atom_record 2 0 0 ∷ atom_record 2 1 0 ∷ operation_record LessEq (0 ∷ 1 ∷ [])
    ∷ operation_record LessEq (1 ∷ 0 ∷ []) ∷ operation_record Or (2 ∷ 3 ∷ []) ∷ [])
    (step_records 3 [] (4 ∷ []) [] ∷ []) usual (answers 0 1 0 (step_records 3 [] (4 ∷ []) [] ∷ []) [])
    -- rule 3, the second bound not turned: rule 3, (or (<= x y) (<= x y))
    ∷ marked
    (atom_record 2 0 0 ∷ atom_record 2 1 0 ∷ operation_record LessEq (0 ∷ 1 ∷ [])
    ∷ operation_record Or (2 ∷ 2 ∷ []) ∷ [])
    (step_records 3 [] (3 ∷ []) [] ∷ []) usual (answers 24 0 0 [] [])
    -- rule 3 takes no notice of arguments and premises: rule 0, p; rule 3, (or (<= x y) (<= y x)), arguments
    -- x 1, premises 0
    ∷ marked
    (atom_record 1 8 0 ∷ atom_record 2 0 0 ∷ atom_record 2 1 0 ∷ operation_record LessEq (1 ∷ 2 ∷ [])
    ∷ operation_record LessEq (2 ∷ 1 ∷ []) ∷ operation_record Or (3 ∷ 4 ∷ []) ∷ integer_record (pos 1) ∷ [])
    (step_records 0 [] (0 ∷ []) [] ∷ step_records 3 (0 ∷ []) (5 ∷ []) (1 ∷ 6 ∷ []) ∷ []) usual
    (answers 0 2 0 (step_records 0 [] (0 ∷ []) [] ∷ step_records 3 (0 ∷ []) (5 ∷ []) (1 ∷ 6 ∷ []) ∷ []) [])
    -- rule 4, first form: rule 4, (or (not (<= x 1)) (<= x 2))
    ∷ marked
    (atom_record 2 0 0 ∷ integer_record (pos 1) ∷ operation_record LessEq (0 ∷ 1 ∷ [])
    ∷ operation_record Not (2 ∷ []) ∷ integer_record (pos 2) ∷ operation_record LessEq (0 ∷ 4 ∷ [])
    ∷ operation_record Or (3 ∷ 5 ∷ []) ∷ [])
    (step_records 4 [] (6 ∷ []) [] ∷ []) usual (answers 0 1 0 (step_records 4 [] (6 ∷ []) [] ∷ []) [])
    -- rule 4, second form: rule 4, (or (<= x 1) (not (<= x 1)))
    ∷ marked
    (atom_record 2 0 0 ∷ integer_record (pos 1) ∷ operation_record LessEq (0 ∷ 1 ∷ [])
    ∷ operation_record Not (2 ∷ []) ∷ operation_record Or (2 ∷ 3 ∷ []) ∷ [])
    (step_records 4 [] (4 ∷ []) [] ∷ []) usual (answers 0 1 0 (step_records 4 [] (4 ∷ []) [] ∷ []) [])
    -- rule 4, second form, another bound: rule 4, (or (<= x 2) (not (<= x 1)))
    ∷ marked
    (atom_record 2 0 0 ∷ integer_record (pos 2) ∷ operation_record LessEq (0 ∷ 1 ∷ [])
    ∷ integer_record (pos 1) ∷ operation_record LessEq (0 ∷ 3 ∷ []) ∷ operation_record Not (4 ∷ [])
    ∷ operation_record Or (2 ∷ 5 ∷ []) ∷ [])
    (step_records 4 [] (6 ∷ []) [] ∷ []) usual (answers 33 0 0 [] [])
    -- rule 4, third form: rule 4, (or (not (>= x 2)) (>= x 1))
    ∷ marked
    (atom_record 2 0 0 ∷ integer_record (pos 2) ∷ operation_record GreaterEq (0 ∷ 1 ∷ [])
    ∷ operation_record Not (2 ∷ []) ∷ integer_record (pos 1) ∷ operation_record GreaterEq (0 ∷ 4 ∷ [])
    ∷ operation_record Or (3 ∷ 5 ∷ []) ∷ [])
    (step_records 4 [] (6 ∷ []) [] ∷ []) usual (answers 0 1 0 (step_records 4 [] (6 ∷ []) [] ∷ []) [])
    -- rule 4, third form, bounds exchanged: rule 4, (or (not (>= x 1)) (>= x 2))
    ∷ marked
    (atom_record 2 0 0 ∷ integer_record (pos 1) ∷ operation_record GreaterEq (0 ∷ 1 ∷ [])
    ∷ operation_record Not (2 ∷ []) ∷ integer_record (pos 2) ∷ operation_record GreaterEq (0 ∷ 4 ∷ [])
    ∷ operation_record Or (3 ∷ 5 ∷ []) ∷ [])
    (step_records 4 [] (6 ∷ []) [] ∷ []) usual (answers 35 0 0 [] [])
    -- rule 4, fourth form: rule 4, (or (>= x 1) (not (>= x 1)))
    ∷ marked
    (atom_record 2 0 0 ∷ integer_record (pos 1) ∷ operation_record GreaterEq (0 ∷ 1 ∷ [])
    ∷ operation_record Not (2 ∷ []) ∷ operation_record Or (2 ∷ 3 ∷ []) ∷ [])
    (step_records 4 [] (4 ∷ []) [] ∷ []) usual (answers 0 1 0 (step_records 4 [] (4 ∷ []) [] ∷ []) [])
    -- rule 4, fifth form: rule 4, (or (not (<= x 1)) (not (>= x 2)))
    ∷ marked
    (atom_record 2 0 0 ∷ integer_record (pos 1) ∷ operation_record LessEq (0 ∷ 1 ∷ [])
    ∷ operation_record Not (2 ∷ []) ∷ integer_record (pos 2) ∷ operation_record GreaterEq (0 ∷ 4 ∷ [])
    ∷ operation_record Not (5 ∷ []) ∷ operation_record Or (3 ∷ 6 ∷ []) ∷ [])
    (step_records 4 [] (7 ∷ []) [] ∷ []) usual (answers 0 1 0 (step_records 4 [] (7 ∷ []) [] ∷ []) [])
    -- rule 4, or of three: rule 4, (or (<= x 1) (<= x 2) (<= x 3))
    ∷ marked
    (atom_record 2 0 0 ∷ integer_record (pos 1) ∷ operation_record LessEq (0 ∷ 1 ∷ [])
    ∷ integer_record (pos 2) ∷ operation_record LessEq (0 ∷ 3 ∷ []) ∷ integer_record (pos 3)
    ∷ operation_record LessEq (0 ∷ 5 ∷ []) ∷ operation_record Or (2 ∷ 4 ∷ 6 ∷ []) ∷ [])
    (step_records 4 [] (7 ∷ []) [] ∷ []) usual (answers 26 0 0 [] [])
    -- rule 4, a bound is a signed number: rule 4, (or (not (<= x (/ 1 2))) (<= x 1))
    ∷ marked
    (atom_record 2 0 0 ∷ integer_record (pos 1) ∷ integer_record (pos 2)
    ∷ operation_record RealDiv (1 ∷ 2 ∷ []) ∷ operation_record LessEq (0 ∷ 3 ∷ [])
    ∷ operation_record Not (4 ∷ []) ∷ operation_record LessEq (0 ∷ 1 ∷ []) ∷ operation_record Or (5 ∷ 6 ∷ [])
    ∷ [])
    (step_records 4 [] (7 ∷ []) [] ∷ []) usual (answers 25 0 0 [] [])
    -- rule 4, > between equal numbers: rule 4, (not (> 0 0))
    ∷ marked
    (integer_record (pos 0) ∷ operation_record GreaterThan (0 ∷ 0 ∷ []) ∷ operation_record Not (1 ∷ []) ∷ [])
    (step_records 4 [] (2 ∷ []) [] ∷ []) usual (answers 0 1 2 (step_records 4 [] (2 ∷ []) [] ∷ []) [])
    -- rule 4, >= between equal numbers: rule 4, (not (>= 0 0))
    ∷ marked
    (integer_record (pos 0) ∷ operation_record GreaterEq (0 ∷ 0 ∷ []) ∷ operation_record Not (1 ∷ []) ∷ [])
    (step_records 4 [] (2 ∷ []) [] ∷ []) usual (answers 32 0 0 [] [])
    -- (- 5 2 1) is 2, not less: rule 4, (not (< (- 5 2 1) 2))
    ∷ marked
    (integer_record (pos 5) ∷ integer_record (pos 2) ∷ integer_record (pos 1)
    ∷ operation_record Sub (0 ∷ 1 ∷ 2 ∷ []) ∷ operation_record LessThan (3 ∷ 1 ∷ [])
    ∷ operation_record Not (4 ∷ []) ∷ [])
    (step_records 4 [] (5 ∷ []) [] ∷ []) usual (answers 0 1 5 (step_records 4 [] (5 ∷ []) [] ∷ []) [])
    -- (- 5 2 1) is 2, not more: rule 4, (not (< (- 5 2 1) 3))
    ∷ marked
    (integer_record (pos 5) ∷ integer_record (pos 2) ∷ integer_record (pos 1)
    ∷ operation_record Sub (0 ∷ 1 ∷ 2 ∷ []) ∷ integer_record (pos 3) ∷ operation_record LessThan (3 ∷ 4 ∷ [])
    ∷ operation_record Not (5 ∷ []) ∷ [])
    (step_records 4 [] (6 ∷ []) [] ∷ []) usual (answers 32 0 0 [] [])
    -- (* 0 x) leaves nothing: rule 4, (not (= (* 0 x) 5))
    ∷ marked
    (integer_record (pos 0) ∷ atom_record 2 0 0 ∷ operation_record Mult (0 ∷ 1 ∷ []) ∷ integer_record (pos 5)
    ∷ operation_record Equals (2 ∷ 3 ∷ []) ∷ operation_record Not (4 ∷ []) ∷ [])
    (step_records 4 [] (5 ∷ []) [] ∷ []) usual (answers 0 1 3 (step_records 4 [] (5 ∷ []) [] ∷ []) [])
    -- (/ 1 2) costs one visit in a linear combination: rule 4, (not (= 0 (/ 1 2)))
    ∷ marked
    (integer_record (pos 0) ∷ integer_record (pos 1) ∷ integer_record (pos 2)
    ∷ operation_record RealDiv (1 ∷ 2 ∷ []) ∷ operation_record Equals (0 ∷ 3 ∷ [])
    ∷ operation_record Not (4 ∷ []) ∷ [])
    (step_records 4 [] (5 ∷ []) [] ∷ []) usual (answers 0 1 2 (step_records 4 [] (5 ∷ []) [] ∷ []) [])
    -- (- 3) costs two: rule 4, (not (= (- 3) 5))
    ∷ marked
    (integer_record (pos 3) ∷ operation_record Sub (0 ∷ []) ∷ integer_record (pos 5)
    ∷ operation_record Equals (1 ∷ 2 ∷ []) ∷ operation_record Not (3 ∷ []) ∷ [])
    (step_records 4 [] (4 ∷ []) [] ∷ []) usual (answers 0 1 3 (step_records 4 [] (4 ∷ []) [] ∷ []) [])
    -- (- (- 3)) in a sum: rule 4, (not (= 0 (- (- 3))))
    ∷ marked
    (integer_record (pos 0) ∷ integer_record (pos 3) ∷ operation_record Sub (1 ∷ [])
    ∷ operation_record Sub (2 ∷ []) ∷ operation_record Equals (0 ∷ 3 ∷ []) ∷ operation_record Not (4 ∷ [])
    ∷ [])
    (step_records 4 [] (5 ∷ []) [] ∷ []) usual (answers 0 1 4 (step_records 4 [] (5 ∷ []) [] ∷ []) [])
    -- ---- Rules 5 and 6, and elaboration
    -- (* 0 x) beside an atom: rule 6, (not (<= (+ (* 0 x) y) 3))
    ∷ marked
    (integer_record (pos 0) ∷ atom_record 2 0 0 ∷ operation_record Mult (0 ∷ 1 ∷ []) ∷ atom_record 2 1 0
    ∷ operation_record Add (2 ∷ 3 ∷ []) ∷ integer_record (pos 3) ∷ operation_record LessEq (4 ∷ 5 ∷ [])
    ∷ operation_record Not (6 ∷ []) ∷ [])
    (step_records 6 [] (7 ∷ []) [] ∷ []) usual (answers 29 0 0 [] [])
    -- (* 0 u) does not forbid strengthening: rule 5, (not (< (+ x (* 0 u)) 3)) (not (> x 2)), arguments 1 1
    ∷ marked
    (atom_record 2 0 0 ∷ integer_record (pos 0) ∷ atom_record 3 4 0 ∷ operation_record Mult (1 ∷ 2 ∷ [])
    ∷ operation_record Add (0 ∷ 3 ∷ []) ∷ integer_record (pos 3) ∷ operation_record LessThan (4 ∷ 5 ∷ [])
    ∷ operation_record Not (6 ∷ []) ∷ integer_record (pos 2) ∷ operation_record GreaterThan (0 ∷ 8 ∷ [])
    ∷ operation_record Not (9 ∷ []) ∷ integer_record (pos 1) ∷ [])
    (step_records 5 [] (7 ∷ 10 ∷ []) (11 ∷ 11 ∷ []) ∷ []) usual
    (answers 0 1 7 (step_records 5 [] (7 ∷ 10 ∷ []) (11 ∷ 11 ∷ []) ∷ []) [])
    -- surplus arguments: rule 6, (not (= 0 5)), arguments 1 1
    ∷ marked
    (integer_record (pos 0) ∷ integer_record (pos 5) ∷ operation_record Equals (0 ∷ 1 ∷ [])
    ∷ operation_record Not (2 ∷ []) ∷ integer_record (pos 1) ∷ [])
    (step_records 6 [] (3 ∷ []) (4 ∷ 4 ∷ []) ∷ []) usual
    (answers 0 1 2 (step_records 5 [] (3 ∷ []) (4 ∷ 4 ∷ []) ∷ []) [])
    -- surplus arguments, elaborated: rule 5, (not (= 0 5)), arguments 1 1
    ∷ marked
    (integer_record (pos 0) ∷ integer_record (pos 5) ∷ operation_record Equals (0 ∷ 1 ∷ [])
    ∷ operation_record Not (2 ∷ []) ∷ integer_record (pos 1) ∷ [])
    (step_records 5 [] (3 ∷ []) (4 ∷ 4 ∷ []) ∷ []) usual (answers 20 0 0 [] [])
    -- div through an atom: rule 5, (not (> (* (div 7 2) x x) 3)) (not (< (* (div 7 2) x x) 4)), arguments 1 1
    ∷ marked
    (integer_record (pos 7) ∷ integer_record (pos 2) ∷ operation_record IntDiv (0 ∷ 1 ∷ [])
    ∷ atom_record 2 0 0 ∷ operation_record Mult (2 ∷ 3 ∷ 3 ∷ []) ∷ integer_record (pos 3)
    ∷ operation_record GreaterThan (4 ∷ 5 ∷ []) ∷ operation_record Not (6 ∷ []) ∷ integer_record (pos 4)
    ∷ operation_record LessThan (4 ∷ 8 ∷ []) ∷ operation_record Not (9 ∷ []) ∷ integer_record (pos 1) ∷ [])
    (step_records 5 [] (7 ∷ 10 ∷ []) (11 ∷ 11 ∷ []) ∷ []) usual
    (answers 0 1 4 (step_records 5 [] (7 ∷ 10 ∷ []) (11 ∷ 11 ∷ []) ∷ []) [])
    -- Bool atoms: rule 5, (not (= p q)) (not (= q p)) (not (= 0 5)), arguments 1 1 1
    ∷ marked
    (atom_record 1 8 0 ∷ atom_record 1 9 0 ∷ operation_record Equals (0 ∷ 1 ∷ [])
    ∷ operation_record Not (2 ∷ []) ∷ operation_record Equals (1 ∷ 0 ∷ []) ∷ operation_record Not (4 ∷ [])
    ∷ integer_record (pos 0) ∷ integer_record (pos 5) ∷ operation_record Equals (6 ∷ 7 ∷ [])
    ∷ operation_record Not (8 ∷ []) ∷ integer_record (pos 1) ∷ [])
    (step_records 5 [] (3 ∷ 5 ∷ 9 ∷ []) (10 ∷ 10 ∷ 10 ∷ []) ∷ []) usual
    (answers 0 1 6 (step_records 5 [] (3 ∷ 5 ∷ 9 ∷ []) (10 ∷ 10 ∷ 10 ∷ []) ∷ []) [])
    -- bit-vector atoms: rule 5, (not (= v #x01)) (not (= #x01 v)) (not (= 0 5)), arguments 1 1 1
    ∷ marked
    (atom_record 4 5 8 ∷ vector_record 1 8 ∷ operation_record Equals (0 ∷ 1 ∷ [])
    ∷ operation_record Not (2 ∷ []) ∷ operation_record Equals (1 ∷ 0 ∷ []) ∷ operation_record Not (4 ∷ [])
    ∷ integer_record (pos 0) ∷ integer_record (pos 5) ∷ operation_record Equals (6 ∷ 7 ∷ [])
    ∷ operation_record Not (8 ∷ []) ∷ integer_record (pos 1) ∷ [])
    (step_records 5 [] (3 ∷ 5 ∷ 9 ∷ []) (10 ∷ 10 ∷ 10 ∷ []) ∷ []) usual
    (answers 0 1 6 (step_records 5 [] (3 ∷ 5 ∷ 9 ∷ []) (10 ∷ 10 ∷ 10 ∷ []) ∷ []) [])
    -- the Alethe specification's example, x for (f a) and y for (f b): rule 5, (not (> x y)) (not (= x y)),
    -- arguments 1 (- 1)
    ∷ marked
    (atom_record 2 0 0 ∷ atom_record 2 1 0 ∷ operation_record GreaterThan (0 ∷ 1 ∷ [])
    ∷ operation_record Not (2 ∷ []) ∷ operation_record Equals (0 ∷ 1 ∷ []) ∷ operation_record Not (4 ∷ [])
    ∷ integer_record (pos 1) ∷ operation_record Sub (6 ∷ []) ∷ [])
    (step_records 5 [] (3 ∷ 5 ∷ []) (6 ∷ 7 ∷ []) ∷ []) usual
    (answers 0 1 4 (step_records 5 [] (3 ∷ 5 ∷ []) (6 ∷ 7 ∷ []) ∷ []) [])
    -- strengthening by the greatest common divisor, the example in the Rust's `strengthen`: rule 5, (not (<=
    -- (- 1) x)) (not (<= (- 1) (+ x y))) (<= (- 2) (* 2 x)) (not (<= y 1)), arguments 1 1 1 1
    ∷ marked
    (integer_record (pos 1) ∷ operation_record Sub (0 ∷ []) ∷ atom_record 2 0 0
    ∷ operation_record LessEq (1 ∷ 2 ∷ []) ∷ operation_record Not (3 ∷ []) ∷ atom_record 2 1 0
    ∷ operation_record Add (2 ∷ 5 ∷ []) ∷ operation_record LessEq (1 ∷ 6 ∷ []) ∷ operation_record Not (7 ∷ [])
    ∷ integer_record (pos 2) ∷ operation_record Sub (9 ∷ []) ∷ operation_record Mult (9 ∷ 2 ∷ [])
    ∷ operation_record LessEq (10 ∷ 11 ∷ []) ∷ operation_record LessEq (5 ∷ 0 ∷ [])
    ∷ operation_record Not (13 ∷ []) ∷ [])
    (step_records 5 [] (4 ∷ 8 ∷ 12 ∷ 14 ∷ []) (0 ∷ 0 ∷ 0 ∷ 0 ∷ []) ∷ []) usual
    (answers 0 1 14 (step_records 5 [] (4 ∷ 8 ∷ 12 ∷ 14 ∷ []) (0 ∷ 0 ∷ 0 ∷ 0 ∷ []) ∷ []) [])
    -- a fraction under >= is raised for Ints: rule 5, (not (>= x 1/2)) (not (< x 1)), arguments 1 1
    ∷ marked
    (atom_record 2 0 0 ∷ real_record (pos 1) (pos 2) ∷ operation_record GreaterEq (0 ∷ 1 ∷ [])
    ∷ operation_record Not (2 ∷ []) ∷ integer_record (pos 1) ∷ operation_record LessThan (0 ∷ 4 ∷ [])
    ∷ operation_record Not (5 ∷ []) ∷ [])
    (step_records 5 [] (3 ∷ 6 ∷ []) (4 ∷ 4 ∷ []) ∷ []) usual
    (answers 0 1 4 (step_records 5 [] (3 ∷ 6 ∷ []) (4 ∷ 4 ∷ []) ∷ []) [])
    -- a fraction under >= stands for Reals: rule 5, (not (>= u 1/2)) (not (< u 1)), arguments 1 1
    ∷ marked
    (atom_record 3 4 0 ∷ real_record (pos 1) (pos 2) ∷ operation_record GreaterEq (0 ∷ 1 ∷ [])
    ∷ operation_record Not (2 ∷ []) ∷ integer_record (pos 1) ∷ operation_record LessThan (0 ∷ 4 ∷ [])
    ∷ operation_record Not (5 ∷ []) ∷ [])
    (step_records 5 [] (3 ∷ 6 ∷ []) (4 ∷ 4 ∷ []) ∷ []) usual (answers 30 0 0 [] [])
    -- a fraction below 0 is rounded down: rule 5, (not (>= x -1/2)) (not (<= x 0)), arguments 1 1
    ∷ marked
    (atom_record 2 0 0 ∷ real_record (negsuc 0) (pos 2) ∷ operation_record GreaterEq (0 ∷ 1 ∷ [])
    ∷ operation_record Not (2 ∷ []) ∷ integer_record (pos 0) ∷ operation_record LessEq (0 ∷ 4 ∷ [])
    ∷ operation_record Not (5 ∷ []) ∷ integer_record (pos 1) ∷ [])
    (step_records 5 [] (3 ∷ 6 ∷ []) (7 ∷ 7 ∷ []) ∷ []) usual (answers 30 0 0 [] [])
    -- > with argument 0 is only >=: rule 5, (not (> u 1)), arguments 0
    ∷ marked
    (atom_record 3 4 0 ∷ integer_record (pos 1) ∷ operation_record GreaterThan (0 ∷ 1 ∷ [])
    ∷ operation_record Not (2 ∷ []) ∷ integer_record (pos 0) ∷ [])
    (step_records 5 [] (3 ∷ []) (4 ∷ []) ∷ []) usual (answers 30 0 0 [] [])
    -- the absolute value of an argument: rule 5, (not (< x 3)) (not (> x 2)), arguments (- 1) -1/1
    ∷ marked
    (atom_record 2 0 0 ∷ integer_record (pos 3) ∷ operation_record LessThan (0 ∷ 1 ∷ [])
    ∷ operation_record Not (2 ∷ []) ∷ integer_record (pos 2) ∷ operation_record GreaterThan (0 ∷ 4 ∷ [])
    ∷ operation_record Not (5 ∷ []) ∷ integer_record (pos 1) ∷ operation_record Sub (7 ∷ [])
    ∷ real_record (negsuc 0) (pos 1) ∷ [])
    (step_records 5 [] (3 ∷ 6 ∷ []) (8 ∷ 9 ∷ []) ∷ []) usual
    (answers 0 1 4 (step_records 5 [] (3 ∷ 6 ∷ []) (8 ∷ 9 ∷ []) ∷ []) [])
    -- the sign of an argument counts for =: rule 5, (not (= x 3)) (not (= x 4)), arguments 1 1
    ∷ marked
    (atom_record 2 0 0 ∷ integer_record (pos 3) ∷ operation_record Equals (0 ∷ 1 ∷ [])
    ∷ operation_record Not (2 ∷ []) ∷ integer_record (pos 4) ∷ operation_record Equals (0 ∷ 4 ∷ [])
    ∷ operation_record Not (5 ∷ []) ∷ integer_record (pos 1) ∷ [])
    (step_records 5 [] (3 ∷ 6 ∷ []) (7 ∷ 7 ∷ []) ∷ []) usual (answers 30 0 0 [] [])
    -- = with arguments of two signs: rule 5, (not (= x 3)) (not (= x 4)), arguments 2 (- 2)
    ∷ marked
    (atom_record 2 0 0 ∷ integer_record (pos 3) ∷ operation_record Equals (0 ∷ 1 ∷ [])
    ∷ operation_record Not (2 ∷ []) ∷ integer_record (pos 4) ∷ operation_record Equals (0 ∷ 4 ∷ [])
    ∷ operation_record Not (5 ∷ []) ∷ integer_record (pos 2) ∷ operation_record Sub (7 ∷ []) ∷ [])
    (step_records 5 [] (3 ∷ 6 ∷ []) (7 ∷ 8 ∷ []) ∷ []) usual
    (answers 0 1 4 (step_records 5 [] (3 ∷ 6 ∷ []) (7 ∷ 8 ∷ []) ∷ []) [])
    -- literals that are not negated: rule 5, (>= u 3) (< u 3), arguments 1 1
    ∷ marked
    (atom_record 3 4 0 ∷ integer_record (pos 3) ∷ operation_record GreaterEq (0 ∷ 1 ∷ [])
    ∷ operation_record LessThan (0 ∷ 1 ∷ []) ∷ integer_record (pos 1) ∷ [])
    (step_records 5 [] (2 ∷ 3 ∷ []) (4 ∷ 4 ∷ []) ∷ []) usual
    (answers 0 1 4 (step_records 5 [] (2 ∷ 3 ∷ []) (4 ∷ 4 ∷ []) ∷ []) [])
    -- the negations of < and > are not strict: rule 5, (< u 3) (> u 3), arguments 1 1
    ∷ marked
    (atom_record 3 4 0 ∷ integer_record (pos 3) ∷ operation_record LessThan (0 ∷ 1 ∷ [])
    ∷ operation_record GreaterThan (0 ∷ 1 ∷ []) ∷ integer_record (pos 1) ∷ [])
    (step_records 5 [] (2 ∷ 3 ∷ []) (4 ∷ 4 ∷ []) ∷ []) usual (answers 30 0 0 [] [])
    -- to_real is an atom of its own: rule 5, (not (<= (to_real x) 3)) (not (>= x 4)), arguments 1 1
    ∷ marked
    (atom_record 2 0 0 ∷ operation_record ToReal (0 ∷ []) ∷ integer_record (pos 3)
    ∷ operation_record LessEq (1 ∷ 2 ∷ []) ∷ operation_record Not (3 ∷ []) ∷ integer_record (pos 4)
    ∷ operation_record GreaterEq (0 ∷ 5 ∷ []) ∷ operation_record Not (6 ∷ []) ∷ integer_record (pos 1) ∷ [])
    (step_records 5 [] (4 ∷ 7 ∷ []) (8 ∷ 8 ∷ []) ∷ []) usual (answers 30 0 0 [] [])
    -- a product of two atoms is an atom: rule 5, (not (<= (* x y) 3)) (not (>= (* x y) 4)), arguments 1 1
    ∷ marked
    (atom_record 2 0 0 ∷ atom_record 2 1 0 ∷ operation_record Mult (0 ∷ 1 ∷ []) ∷ integer_record (pos 3)
    ∷ operation_record LessEq (2 ∷ 3 ∷ []) ∷ operation_record Not (4 ∷ []) ∷ integer_record (pos 4)
    ∷ operation_record GreaterEq (2 ∷ 6 ∷ []) ∷ operation_record Not (7 ∷ []) ∷ integer_record (pos 1) ∷ [])
    (step_records 5 [] (5 ∷ 8 ∷ []) (9 ∷ 9 ∷ []) ∷ []) usual
    (answers 0 1 4 (step_records 5 [] (5 ∷ 8 ∷ []) (9 ∷ 9 ∷ []) ∷ []) [])
    -- the divisor starts with the constant, its sign kept: rule 5, (not (< (- 5) 0)) (not (>= 0 3)),
    -- arguments 1 1
    ∷ marked
    (integer_record (pos 5) ∷ operation_record Sub (0 ∷ []) ∷ integer_record (pos 0)
    ∷ operation_record LessThan (1 ∷ 2 ∷ []) ∷ operation_record Not (3 ∷ []) ∷ integer_record (pos 3)
    ∷ operation_record GreaterEq (2 ∷ 5 ∷ []) ∷ operation_record Not (6 ∷ []) ∷ integer_record (pos 1) ∷ [])
    (step_records 5 [] (4 ∷ 7 ∷ []) (8 ∷ 8 ∷ []) ∷ []) usual (answers 30 0 0 [] [])
    -- two negations: rule 5, (not (not (< x y))), arguments 1
    ∷ marked
    (atom_record 2 0 0 ∷ atom_record 2 1 0 ∷ operation_record LessThan (0 ∷ 1 ∷ [])
    ∷ operation_record Not (2 ∷ []) ∷ operation_record Not (3 ∷ []) ∷ integer_record (pos 1) ∷ [])
    (step_records 5 [] (4 ∷ []) (5 ∷ []) ∷ []) usual (answers 26 0 0 [] [])
    -- (- (- 3)) as an argument: rule 5, (not (= 0 5)), arguments (- (- 3))
    ∷ marked
    (integer_record (pos 0) ∷ integer_record (pos 5) ∷ operation_record Equals (0 ∷ 1 ∷ [])
    ∷ operation_record Not (2 ∷ []) ∷ integer_record (pos 3) ∷ operation_record Sub (4 ∷ [])
    ∷ operation_record Sub (5 ∷ []) ∷ [])
    (step_records 5 [] (3 ∷ []) (6 ∷ []) ∷ []) usual (answers 25 0 0 [] [])
    -- a refused step infers nothing: rule 6, (not (<= x 3)) (not (>= x 2)), arguments 1; out areas 1000 0
    ∷ marked
    (atom_record 2 0 0 ∷ integer_record (pos 3) ∷ operation_record LessEq (0 ∷ 1 ∷ [])
    ∷ operation_record Not (2 ∷ []) ∷ integer_record (pos 2) ∷ operation_record GreaterEq (0 ∷ 4 ∷ [])
    ∷ operation_record Not (5 ∷ []) ∷ integer_record (pos 1) ∷ [])
    (step_records 6 [] (3 ∷ 6 ∷ []) (7 ∷ []) ∷ []) (1000, 65536, 1000, 0) (answers 30 0 0 [] [])
    -- K4, elaborated: rule 5, (not (<= x 3)) (not (>= x 4)), arguments 1 1/1
    ∷ marked
    (atom_record 2 0 0 ∷ integer_record (pos 3) ∷ operation_record LessEq (0 ∷ 1 ∷ [])
    ∷ operation_record Not (2 ∷ []) ∷ integer_record (pos 4) ∷ operation_record GreaterEq (0 ∷ 4 ∷ [])
    ∷ operation_record Not (5 ∷ []) ∷ integer_record (pos 1) ∷ real_record (pos 1) (pos 1) ∷ [])
    (step_records 5 [] (3 ∷ 6 ∷ []) (7 ∷ 8 ∷ []) ∷ []) usual
    (answers 0 1 4 (step_records 5 [] (3 ∷ 6 ∷ []) (7 ∷ 8 ∷ []) ∷ []) [])
    -- an inferred number that the book has: rule 6, (not (<= x 3)) (not (>= x 4)), arguments 1/1; out areas
    -- 1000 0
    ∷ marked
    (atom_record 2 0 0 ∷ integer_record (pos 3) ∷ operation_record LessEq (0 ∷ 1 ∷ [])
    ∷ operation_record Not (2 ∷ []) ∷ integer_record (pos 4) ∷ operation_record GreaterEq (0 ∷ 4 ∷ [])
    ∷ operation_record Not (5 ∷ []) ∷ real_record (pos 1) (pos 1) ∷ [])
    (step_records 6 [] (3 ∷ 6 ∷ []) (7 ∷ []) ∷ []) (1000, 65536, 1000, 0)
    (answers 0 1 4 (step_records 5 [] (3 ∷ 6 ∷ []) (7 ∷ 7 ∷ []) ∷ []) [])
    -- an inferred number below 0: rule 6, (not (= x 3)) (not (= x 4)), arguments 1
    ∷ marked
    (atom_record 2 0 0 ∷ integer_record (pos 3) ∷ operation_record Equals (0 ∷ 1 ∷ [])
    ∷ operation_record Not (2 ∷ []) ∷ integer_record (pos 4) ∷ operation_record Equals (0 ∷ 4 ∷ [])
    ∷ operation_record Not (5 ∷ []) ∷ integer_record (pos 1) ∷ [])
    (step_records 6 [] (3 ∷ 6 ∷ []) (7 ∷ []) ∷ []) usual
    (answers 0 1 4 (step_records 5 [] (3 ∷ 6 ∷ []) (7 ∷ 8 ∷ []) ∷ []) (real_record (negsuc 0) (pos 1) ∷ []))
    -- three steps, two constants in the tail: rule 6, (not (<= x 3)) (not (>= x 4)), arguments 1; rule 6,
    -- (not (<= x 3)) (not (>= (* 2 x) 8)), arguments 1; rule 0, p; rule 6, (not (<= x 3)) (not (>= x 4)),
    -- arguments 1
    ∷ marked
    (atom_record 2 0 0 ∷ integer_record (pos 3) ∷ operation_record LessEq (0 ∷ 1 ∷ [])
    ∷ operation_record Not (2 ∷ []) ∷ integer_record (pos 4) ∷ operation_record GreaterEq (0 ∷ 4 ∷ [])
    ∷ operation_record Not (5 ∷ []) ∷ integer_record (pos 1) ∷ integer_record (pos 2)
    ∷ operation_record Mult (8 ∷ 0 ∷ []) ∷ integer_record (pos 8) ∷ operation_record GreaterEq (9 ∷ 10 ∷ [])
    ∷ operation_record Not (11 ∷ []) ∷ atom_record 1 8 0 ∷ [])
    (step_records 6 [] (3 ∷ 6 ∷ []) (7 ∷ []) ∷ step_records 6 [] (3 ∷ 12 ∷ []) (7 ∷ [])
    ∷ step_records 0 [] (13 ∷ []) [] ∷ step_records 6 [] (3 ∷ 6 ∷ []) (7 ∷ []) ∷ []) usual
    (answers 0 4 13 (step_records 5 [] (3 ∷ 6 ∷ []) (7 ∷ 14 ∷ [])
    ∷ step_records 5 [] (3 ∷ 12 ∷ []) (7 ∷ 15 ∷ []) ∷ step_records 0 [] (13 ∷ []) []
    ∷ step_records 5 [] (3 ∷ 6 ∷ []) (7 ∷ 14 ∷ []) ∷ []) (real_record (pos 1) (pos 1)
    ∷ real_record (pos 1) (pos 2) ∷ []))
    -- ---- Rules 7 and 8
    -- rule 7: rule 7, (= (* (+ x y) (- x y)) (- (* x x) (* y y)))
    ∷ marked
    (atom_record 2 0 0 ∷ atom_record 2 1 0 ∷ operation_record Add (0 ∷ 1 ∷ [])
    ∷ operation_record Sub (0 ∷ 1 ∷ []) ∷ operation_record Mult (2 ∷ 3 ∷ [])
    ∷ operation_record Mult (0 ∷ 0 ∷ []) ∷ operation_record Mult (1 ∷ 1 ∷ [])
    ∷ operation_record Sub (5 ∷ 6 ∷ []) ∷ operation_record Equals (4 ∷ 7 ∷ []) ∷ [])
    (step_records 7 [] (8 ∷ []) [] ∷ []) usual (answers 0 1 14 (step_records 7 [] (8 ∷ []) [] ∷ []) [])
    -- entries that become 0 stay: rule 7, (= (bvmul #x80 (bvadd v v)) (bvmul #x80 (bvadd v v)))
    ∷ marked
    (vector_record 128 8 ∷ atom_record 4 5 8 ∷ operation_record BvAdd (1 ∷ 1 ∷ [])
    ∷ operation_record BvMul (0 ∷ 2 ∷ []) ∷ operation_record Equals (3 ∷ 3 ∷ []) ∷ [])
    (step_records 7 [] (4 ∷ []) [] ∷ []) usual (answers 36 0 0 [] [])
    -- bvneg and bvsub: rule 7, (= (bvsub v w) (bvadd v (bvneg w)))
    ∷ marked
    (atom_record 4 5 8 ∷ atom_record 4 6 8 ∷ operation_record BvSub (0 ∷ 1 ∷ [])
    ∷ operation_record BvNeg (1 ∷ []) ∷ operation_record BvAdd (0 ∷ 3 ∷ [])
    ∷ operation_record Equals (2 ∷ 4 ∷ []) ∷ [])
    (step_records 7 [] (5 ∷ []) [] ∷ []) usual (answers 0 1 7 (step_records 7 [] (5 ∷ []) [] ∷ []) [])
    -- bvneg, modulo 256: rule 7, (= (bvneg v) (bvmul #xff v))
    ∷ marked
    (atom_record 4 5 8 ∷ operation_record BvNeg (0 ∷ []) ∷ vector_record 255 8
    ∷ operation_record BvMul (2 ∷ 0 ∷ []) ∷ operation_record Equals (1 ∷ 3 ∷ []) ∷ [])
    (step_records 7 [] (4 ∷ []) [] ∷ []) usual (answers 0 1 5 (step_records 7 [] (4 ∷ []) [] ∷ []) [])
    -- to_real in a polynomial: rule 7, (= (to_real x) x)
    ∷ marked
    (atom_record 2 0 0 ∷ operation_record ToReal (0 ∷ []) ∷ operation_record Equals (1 ∷ 0 ∷ []) ∷ [])
    (step_records 7 [] (2 ∷ []) [] ∷ []) usual (answers 0 1 3 (step_records 7 [] (2 ∷ []) [] ∷ []) [])
    -- / by a number: rule 7, (= (/ (* 2 u) 4) (* 1/2 u))
    ∷ marked
    (integer_record (pos 2) ∷ atom_record 3 4 0 ∷ operation_record Mult (0 ∷ 1 ∷ []) ∷ integer_record (pos 4)
    ∷ operation_record RealDiv (2 ∷ 3 ∷ []) ∷ real_record (pos 1) (pos 2) ∷ operation_record Mult (5 ∷ 1 ∷ [])
    ∷ operation_record Equals (4 ∷ 6 ∷ []) ∷ [])
    (step_records 7 [] (7 ∷ []) [] ∷ []) usual (answers 0 1 7 (step_records 7 [] (7 ∷ []) [] ∷ []) [])
    -- / by 0 is an atom: rule 7, (= (* 2 (/ u 0)) (+ (/ u 0) (/ u 0)))
    ∷ marked
    (integer_record (pos 2) ∷ atom_record 3 4 0 ∷ integer_record (pos 0)
    ∷ operation_record RealDiv (1 ∷ 2 ∷ []) ∷ operation_record Mult (0 ∷ 3 ∷ [])
    ∷ operation_record Add (3 ∷ 3 ∷ []) ∷ operation_record Equals (4 ∷ 5 ∷ []) ∷ [])
    (step_records 7 [] (6 ∷ []) [] ∷ []) usual (answers 0 1 6 (step_records 7 [] (6 ∷ []) [] ∷ []) [])
    -- (/ 1 2) costs two visits in a polynomial: rule 7, (= (/ 1 2) 1/2)
    ∷ marked
    (integer_record (pos 1) ∷ integer_record (pos 2) ∷ operation_record RealDiv (0 ∷ 1 ∷ [])
    ∷ real_record (pos 1) (pos 2) ∷ operation_record Equals (2 ∷ 3 ∷ []) ∷ [])
    (step_records 7 [] (4 ∷ []) [] ∷ []) usual (answers 0 1 3 (step_records 7 [] (4 ∷ []) [] ∷ []) [])
    -- (- 3) costs two in a polynomial: rule 7, (= (- 3) -3)
    ∷ marked
    (integer_record (pos 3) ∷ operation_record Sub (0 ∷ []) ∷ integer_record (negsuc 2)
    ∷ operation_record Equals (1 ∷ 2 ∷ []) ∷ [])
    (step_records 7 [] (3 ∷ []) [] ∷ []) usual (answers 0 1 3 (step_records 7 [] (3 ∷ []) [] ∷ []) [])
    -- rule 8: rule 0, (= (* 2 (- x y)) (* 3 (- x y))); rule 8, (= (< x y) (< x y)), premises 0
    ∷ marked
    (integer_record (pos 2) ∷ atom_record 2 0 0 ∷ atom_record 2 1 0 ∷ operation_record Sub (1 ∷ 2 ∷ [])
    ∷ operation_record Mult (0 ∷ 3 ∷ []) ∷ integer_record (pos 3) ∷ operation_record Mult (5 ∷ 3 ∷ [])
    ∷ operation_record Equals (4 ∷ 6 ∷ []) ∷ operation_record LessThan (1 ∷ 2 ∷ [])
    ∷ operation_record Equals (8 ∷ 8 ∷ []) ∷ [])
    (step_records 0 [] (7 ∷ []) [] ∷ step_records 8 (0 ∷ []) (9 ∷ []) [] ∷ []) usual
    (answers 0 2 0 (step_records 0 [] (7 ∷ []) [] ∷ step_records 8 (0 ∷ []) (9 ∷ []) [] ∷ []) [])
    -- rule 8, to_real and a fraction: rule 0, (= (* 2/1 (to_real (- x y))) (* (/ 1 3) (- t u))); rule 8, (=
    -- (>= x y) (>= t u)), premises 0
    ∷ marked
    (real_record (pos 2) (pos 1) ∷ atom_record 2 0 0 ∷ atom_record 2 1 0 ∷ operation_record Sub (1 ∷ 2 ∷ [])
    ∷ operation_record ToReal (3 ∷ []) ∷ operation_record Mult (0 ∷ 4 ∷ []) ∷ integer_record (pos 1)
    ∷ integer_record (pos 3) ∷ operation_record RealDiv (6 ∷ 7 ∷ []) ∷ atom_record 3 3 0 ∷ atom_record 3 4 0
    ∷ operation_record Sub (9 ∷ 10 ∷ []) ∷ operation_record Mult (8 ∷ 11 ∷ [])
    ∷ operation_record Equals (5 ∷ 12 ∷ []) ∷ operation_record GreaterEq (1 ∷ 2 ∷ [])
    ∷ operation_record GreaterEq (9 ∷ 10 ∷ []) ∷ operation_record Equals (14 ∷ 15 ∷ []) ∷ [])
    (step_records 0 [] (13 ∷ []) [] ∷ step_records 8 (0 ∷ []) (16 ∷ []) [] ∷ []) usual
    (answers 0 2 0 (step_records 0 [] (13 ∷ []) [] ∷ step_records 8 (0 ∷ []) (16 ∷ []) [] ∷ []) [])
    -- rule 8, bit-vectors: rule 0, (= (bvmul #x03 (bvsub v w)) (bvmul #x05 (bvsub v w))); rule 8, (= (= v w)
    -- (= v w)), premises 0
    ∷ marked
    (vector_record 3 8 ∷ atom_record 4 5 8 ∷ atom_record 4 6 8 ∷ operation_record BvSub (1 ∷ 2 ∷ [])
    ∷ operation_record BvMul (0 ∷ 3 ∷ []) ∷ vector_record 5 8 ∷ operation_record BvMul (5 ∷ 3 ∷ [])
    ∷ operation_record Equals (4 ∷ 6 ∷ []) ∷ operation_record Equals (1 ∷ 2 ∷ [])
    ∷ operation_record Equals (8 ∷ 8 ∷ []) ∷ [])
    (step_records 0 [] (7 ∷ []) [] ∷ step_records 8 (0 ∷ []) (9 ∷ []) [] ∷ []) usual
    (answers 0 2 0 (step_records 0 [] (7 ∷ []) [] ∷ step_records 8 (0 ∷ []) (9 ∷ []) [] ∷ []) [])
    -- rule 8, signs do not matter for =: rule 0, (= (* 1 (- x y)) (* (- 1) (- x y))); rule 8, (= (= x y) (= x
    -- y)), premises 0
    ∷ marked
    (integer_record (pos 1) ∷ atom_record 2 0 0 ∷ atom_record 2 1 0 ∷ operation_record Sub (1 ∷ 2 ∷ [])
    ∷ operation_record Mult (0 ∷ 3 ∷ []) ∷ operation_record Sub (0 ∷ []) ∷ operation_record Mult (5 ∷ 3 ∷ [])
    ∷ operation_record Equals (4 ∷ 6 ∷ []) ∷ operation_record Equals (1 ∷ 2 ∷ [])
    ∷ operation_record Equals (8 ∷ 8 ∷ []) ∷ [])
    (step_records 0 [] (7 ∷ []) [] ∷ step_records 8 (0 ∷ []) (9 ∷ []) [] ∷ []) usual
    (answers 0 2 0 (step_records 0 [] (7 ∷ []) [] ∷ step_records 8 (0 ∷ []) (9 ∷ []) [] ∷ []) [])
    -- 21 before 22: rule 8, p q
    ∷ marked
    (atom_record 1 8 0 ∷ atom_record 1 9 0 ∷ [])
    (step_records 8 [] (0 ∷ 1 ∷ []) [] ∷ []) usual (answers 21 0 0 [] [])
    -- 22 before 23: rule 5, (not (< x 3)) (not (> x 2)), arguments 1 1; rule 8, p q, premises 0
    ∷ marked
    (atom_record 2 0 0 ∷ integer_record (pos 3) ∷ operation_record LessThan (0 ∷ 1 ∷ [])
    ∷ operation_record Not (2 ∷ []) ∷ integer_record (pos 2) ∷ operation_record GreaterThan (0 ∷ 4 ∷ [])
    ∷ operation_record Not (5 ∷ []) ∷ integer_record (pos 1) ∷ atom_record 1 8 0 ∷ atom_record 1 9 0 ∷ [])
    (step_records 5 [] (3 ∷ 6 ∷ []) (7 ∷ 7 ∷ []) ∷ step_records 8 (0 ∷ []) (8 ∷ 9 ∷ []) [] ∷ []) usual
    (answers 22 1 4 (step_records 5 [] (3 ∷ 6 ∷ []) (7 ∷ 7 ∷ []) ∷ []) [])
    -- 23 before 24: rule 5, (not (< x 3)) (not (> x 2)), arguments 1 1; rule 8, p, premises 0
    ∷ marked
    (atom_record 2 0 0 ∷ integer_record (pos 3) ∷ operation_record LessThan (0 ∷ 1 ∷ [])
    ∷ operation_record Not (2 ∷ []) ∷ integer_record (pos 2) ∷ operation_record GreaterThan (0 ∷ 4 ∷ [])
    ∷ operation_record Not (5 ∷ []) ∷ integer_record (pos 1) ∷ atom_record 1 8 0 ∷ [])
    (step_records 5 [] (3 ∷ 6 ∷ []) (7 ∷ 7 ∷ []) ∷ step_records 8 (0 ∷ []) (8 ∷ []) [] ∷ []) usual
    (answers 23 1 4 (step_records 5 [] (3 ∷ 6 ∷ []) (7 ∷ 7 ∷ []) ∷ []) [])
    -- the premise's form: rule 0, (= x y); rule 8, (= (< x y) (< x y)), premises 0
    ∷ marked
    (atom_record 2 0 0 ∷ atom_record 2 1 0 ∷ operation_record Equals (0 ∷ 1 ∷ [])
    ∷ operation_record LessThan (0 ∷ 1 ∷ []) ∷ operation_record Equals (3 ∷ 3 ∷ []) ∷ [])
    (step_records 0 [] (2 ∷ []) [] ∷ step_records 8 (0 ∷ []) (4 ∷ []) [] ∷ []) usual
    (answers 24 1 0 (step_records 0 [] (2 ∷ []) [] ∷ []) [])
    -- c1 is no number, c2 is out of range: rule 0, (= (* x (- x y)) (* (/ 1/2147483647 2) (- x y))); rule 8,
    -- (= (< x y) (< x y)), premises 0
    ∷ marked
    (atom_record 2 0 0 ∷ atom_record 2 1 0 ∷ operation_record Sub (0 ∷ 1 ∷ [])
    ∷ operation_record Mult (0 ∷ 2 ∷ []) ∷ real_record (pos 1) (pos 2147483647) ∷ integer_record (pos 2)
    ∷ operation_record RealDiv (4 ∷ 5 ∷ []) ∷ operation_record Mult (6 ∷ 2 ∷ [])
    ∷ operation_record Equals (3 ∷ 7 ∷ []) ∷ operation_record LessThan (0 ∷ 1 ∷ [])
    ∷ operation_record Equals (9 ∷ 9 ∷ []) ∷ [])
    (step_records 0 [] (8 ∷ []) [] ∷ step_records 8 (0 ∷ []) (10 ∷ []) [] ∷ []) usual
    (answers 25 1 0 (step_records 0 [] (8 ∷ []) [] ∷ []) [])
    -- c1 is out of range, c2 is no number: rule 0, (= (* (/ 1/2147483647 2) (- x y)) (* x (- x y))); rule 8,
    -- (= (< x y) (< x y)), premises 0
    ∷ marked
    (real_record (pos 1) (pos 2147483647) ∷ integer_record (pos 2) ∷ operation_record RealDiv (0 ∷ 1 ∷ [])
    ∷ atom_record 2 0 0 ∷ atom_record 2 1 0 ∷ operation_record Sub (3 ∷ 4 ∷ [])
    ∷ operation_record Mult (2 ∷ 5 ∷ []) ∷ operation_record Mult (3 ∷ 5 ∷ [])
    ∷ operation_record Equals (6 ∷ 7 ∷ []) ∷ operation_record LessThan (3 ∷ 4 ∷ [])
    ∷ operation_record Equals (9 ∷ 9 ∷ []) ∷ [])
    (step_records 0 [] (8 ∷ []) [] ∷ step_records 8 (0 ∷ []) (10 ∷ []) [] ∷ []) usual
    (answers 11 1 0 (step_records 0 [] (8 ∷ []) [] ∷ []) [])
    -- 25 for c2 before 37 for c1: rule 0, (= (* 0 (- x y)) (* x (- x y))); rule 8, (= (< x y) (< x y)),
    -- premises 0
    ∷ marked
    (integer_record (pos 0) ∷ atom_record 2 0 0 ∷ atom_record 2 1 0 ∷ operation_record Sub (1 ∷ 2 ∷ [])
    ∷ operation_record Mult (0 ∷ 3 ∷ []) ∷ operation_record Mult (1 ∷ 3 ∷ [])
    ∷ operation_record Equals (4 ∷ 5 ∷ []) ∷ operation_record LessThan (1 ∷ 2 ∷ [])
    ∷ operation_record Equals (7 ∷ 7 ∷ []) ∷ [])
    (step_records 0 [] (6 ∷ []) [] ∷ step_records 8 (0 ∷ []) (8 ∷ []) [] ∷ []) usual
    (answers 25 1 0 (step_records 0 [] (6 ∷ []) [] ∷ []) [])
    -- 37 before the conclusion's form: rule 0, (= (* 1 (- x y)) (* 0 (- x y))); rule 8, p, premises 0
    ∷ marked
    (integer_record (pos 1) ∷ atom_record 2 0 0 ∷ atom_record 2 1 0 ∷ operation_record Sub (1 ∷ 2 ∷ [])
    ∷ operation_record Mult (0 ∷ 3 ∷ []) ∷ integer_record (pos 0) ∷ operation_record Mult (5 ∷ 3 ∷ [])
    ∷ operation_record Equals (4 ∷ 6 ∷ []) ∷ atom_record 1 8 0 ∷ [])
    (step_records 0 [] (7 ∷ []) [] ∷ step_records 8 (0 ∷ []) (8 ∷ []) [] ∷ []) usual
    (answers 37 1 0 (step_records 0 [] (7 ∷ []) [] ∷ []) [])
    -- the conclusion's form: rule 0, (= (* 1 (- x y)) (* 2 (- x y))); rule 8, p, premises 0
    ∷ marked
    (integer_record (pos 1) ∷ atom_record 2 0 0 ∷ atom_record 2 1 0 ∷ operation_record Sub (1 ∷ 2 ∷ [])
    ∷ operation_record Mult (0 ∷ 3 ∷ []) ∷ integer_record (pos 2) ∷ operation_record Mult (5 ∷ 3 ∷ [])
    ∷ operation_record Equals (4 ∷ 6 ∷ []) ∷ atom_record 1 8 0 ∷ [])
    (step_records 0 [] (7 ∷ []) [] ∷ step_records 8 (0 ∷ []) (8 ∷ []) [] ∷ []) usual
    (answers 24 1 0 (step_records 0 [] (7 ∷ []) [] ∷ []) [])
    -- 42 on the left: rule 0, (= (* 1 (- x y)) (* 2 (- x y))); rule 8, (= p (< x y)), premises 0
    ∷ marked
    (integer_record (pos 1) ∷ atom_record 2 0 0 ∷ atom_record 2 1 0 ∷ operation_record Sub (1 ∷ 2 ∷ [])
    ∷ operation_record Mult (0 ∷ 3 ∷ []) ∷ integer_record (pos 2) ∷ operation_record Mult (5 ∷ 3 ∷ [])
    ∷ operation_record Equals (4 ∷ 6 ∷ []) ∷ atom_record 1 8 0 ∷ operation_record LessThan (1 ∷ 2 ∷ [])
    ∷ operation_record Equals (8 ∷ 9 ∷ []) ∷ [])
    (step_records 0 [] (7 ∷ []) [] ∷ step_records 8 (0 ∷ []) (10 ∷ []) [] ∷ []) usual
    (answers 42 1 0 (step_records 0 [] (7 ∷ []) [] ∷ []) [])
    -- 42 on the right before 40: rule 0, (= (* 1 (- x y)) (* 2 (- x y))); rule 8, (= (not p) q), premises 0
    ∷ marked
    (integer_record (pos 1) ∷ atom_record 2 0 0 ∷ atom_record 2 1 0 ∷ operation_record Sub (1 ∷ 2 ∷ [])
    ∷ operation_record Mult (0 ∷ 3 ∷ []) ∷ integer_record (pos 2) ∷ operation_record Mult (5 ∷ 3 ∷ [])
    ∷ operation_record Equals (4 ∷ 6 ∷ []) ∷ atom_record 1 8 0 ∷ operation_record Not (8 ∷ [])
    ∷ atom_record 1 9 0 ∷ operation_record Equals (9 ∷ 10 ∷ []) ∷ [])
    (step_records 0 [] (7 ∷ []) [] ∷ step_records 8 (0 ∷ []) (11 ∷ []) [] ∷ []) usual
    (answers 42 1 0 (step_records 0 [] (7 ∷ []) [] ∷ []) [])
    -- 40, no relation: rule 0, (= (* 1 (- x y)) (* 2 (- x y))); rule 8, (= (not p) (not p)), premises 0
    ∷ marked
    (integer_record (pos 1) ∷ atom_record 2 0 0 ∷ atom_record 2 1 0 ∷ operation_record Sub (1 ∷ 2 ∷ [])
    ∷ operation_record Mult (0 ∷ 3 ∷ []) ∷ integer_record (pos 2) ∷ operation_record Mult (5 ∷ 3 ∷ [])
    ∷ operation_record Equals (4 ∷ 6 ∷ []) ∷ atom_record 1 8 0 ∷ operation_record Not (8 ∷ [])
    ∷ operation_record Equals (9 ∷ 9 ∷ []) ∷ [])
    (step_records 0 [] (7 ∷ []) [] ∷ step_records 8 (0 ∷ []) (10 ∷ []) [] ∷ []) usual
    (answers 40 1 0 (step_records 0 [] (7 ∷ []) [] ∷ []) [])
    -- 40, three arguments: rule 0, (= (* 1 (- x y)) (* 2 (- x y))); rule 8, (= (< x y z) (< x y z)), premises
    -- 0
    ∷ marked
    (integer_record (pos 1) ∷ atom_record 2 0 0 ∷ atom_record 2 1 0 ∷ operation_record Sub (1 ∷ 2 ∷ [])
    ∷ operation_record Mult (0 ∷ 3 ∷ []) ∷ integer_record (pos 2) ∷ operation_record Mult (5 ∷ 3 ∷ [])
    ∷ operation_record Equals (4 ∷ 6 ∷ []) ∷ atom_record 2 2 0 ∷ operation_record LessThan (1 ∷ 2 ∷ 8 ∷ [])
    ∷ operation_record Equals (9 ∷ 9 ∷ []) ∷ [])
    (step_records 0 [] (7 ∷ []) [] ∷ step_records 8 (0 ∷ []) (10 ∷ []) [] ∷ []) usual
    (answers 40 1 0 (step_records 0 [] (7 ∷ []) [] ∷ []) [])
    -- 40 before 38: rule 0, (= (* 1 (- x y)) (* (- 1) (- x y))); rule 8, (= (< x y) (<= x y)), premises 0
    ∷ marked
    (integer_record (pos 1) ∷ atom_record 2 0 0 ∷ atom_record 2 1 0 ∷ operation_record Sub (1 ∷ 2 ∷ [])
    ∷ operation_record Mult (0 ∷ 3 ∷ []) ∷ operation_record Sub (0 ∷ []) ∷ operation_record Mult (5 ∷ 3 ∷ [])
    ∷ operation_record Equals (4 ∷ 6 ∷ []) ∷ operation_record LessThan (1 ∷ 2 ∷ [])
    ∷ operation_record LessEq (1 ∷ 2 ∷ []) ∷ operation_record Equals (8 ∷ 9 ∷ []) ∷ [])
    (step_records 0 [] (7 ∷ []) [] ∷ step_records 8 (0 ∷ []) (10 ∷ []) [] ∷ []) usual
    (answers 40 1 0 (step_records 0 [] (7 ∷ []) [] ∷ []) [])
    -- 38 before 33: rule 0, (= (* 1 (- x y)) (* (- 1) (- x y))); rule 8, (= (< y x) (< y x)), premises 0
    ∷ marked
    (integer_record (pos 1) ∷ atom_record 2 0 0 ∷ atom_record 2 1 0 ∷ operation_record Sub (1 ∷ 2 ∷ [])
    ∷ operation_record Mult (0 ∷ 3 ∷ []) ∷ operation_record Sub (0 ∷ []) ∷ operation_record Mult (5 ∷ 3 ∷ [])
    ∷ operation_record Equals (4 ∷ 6 ∷ []) ∷ operation_record LessThan (2 ∷ 1 ∷ [])
    ∷ operation_record Equals (8 ∷ 8 ∷ []) ∷ [])
    (step_records 0 [] (7 ∷ []) [] ∷ step_records 8 (0 ∷ []) (9 ∷ []) [] ∷ []) usual
    (answers 38 1 0 (step_records 0 [] (7 ∷ []) [] ∷ []) [])
    -- 33 in rule 8, the first term: rule 0, (= (* 1 (- x y)) (* 2 (- x z))); rule 8, (= (< z y) (< x z)),
    -- premises 0
    ∷ marked
    (integer_record (pos 1) ∷ atom_record 2 0 0 ∷ atom_record 2 1 0 ∷ operation_record Sub (1 ∷ 2 ∷ [])
    ∷ operation_record Mult (0 ∷ 3 ∷ []) ∷ integer_record (pos 2) ∷ atom_record 2 2 0
    ∷ operation_record Sub (1 ∷ 6 ∷ []) ∷ operation_record Mult (5 ∷ 7 ∷ [])
    ∷ operation_record Equals (4 ∷ 8 ∷ []) ∷ operation_record LessThan (6 ∷ 2 ∷ [])
    ∷ operation_record LessThan (1 ∷ 6 ∷ []) ∷ operation_record Equals (10 ∷ 11 ∷ []) ∷ [])
    (step_records 0 [] (9 ∷ []) [] ∷ step_records 8 (0 ∷ []) (12 ∷ []) [] ∷ []) usual
    (answers 33 1 0 (step_records 0 [] (9 ∷ []) [] ∷ []) [])
    -- 33 in rule 8, the second term: rule 0, (= (* 1 (- x y)) (* 2 (- x z))); rule 8, (= (< x z) (< x z)),
    -- premises 0
    ∷ marked
    (integer_record (pos 1) ∷ atom_record 2 0 0 ∷ atom_record 2 1 0 ∷ operation_record Sub (1 ∷ 2 ∷ [])
    ∷ operation_record Mult (0 ∷ 3 ∷ []) ∷ integer_record (pos 2) ∷ atom_record 2 2 0
    ∷ operation_record Sub (1 ∷ 6 ∷ []) ∷ operation_record Mult (5 ∷ 7 ∷ [])
    ∷ operation_record Equals (4 ∷ 8 ∷ []) ∷ operation_record LessThan (1 ∷ 6 ∷ [])
    ∷ operation_record Equals (10 ∷ 10 ∷ []) ∷ [])
    (step_records 0 [] (9 ∷ []) [] ∷ step_records 8 (0 ∷ []) (11 ∷ []) [] ∷ []) usual
    (answers 33 1 0 (step_records 0 [] (9 ∷ []) [] ∷ []) [])
    -- 33 in rule 8, the third term: rule 0, (= (* 1 (- x y)) (* 2 (- x z))); rule 8, (= (< x y) (< y z)),
    -- premises 0
    ∷ marked
    (integer_record (pos 1) ∷ atom_record 2 0 0 ∷ atom_record 2 1 0 ∷ operation_record Sub (1 ∷ 2 ∷ [])
    ∷ operation_record Mult (0 ∷ 3 ∷ []) ∷ integer_record (pos 2) ∷ atom_record 2 2 0
    ∷ operation_record Sub (1 ∷ 6 ∷ []) ∷ operation_record Mult (5 ∷ 7 ∷ [])
    ∷ operation_record Equals (4 ∷ 8 ∷ []) ∷ operation_record LessThan (1 ∷ 2 ∷ [])
    ∷ operation_record LessThan (2 ∷ 6 ∷ []) ∷ operation_record Equals (10 ∷ 11 ∷ []) ∷ [])
    (step_records 0 [] (9 ∷ []) [] ∷ step_records 8 (0 ∷ []) (12 ∷ []) [] ∷ []) usual
    (answers 33 1 0 (step_records 0 [] (9 ∷ []) [] ∷ []) [])
    -- 33 in rule 8, the last term: rule 0, (= (* 1 (- x y)) (* 2 (- x z))); rule 8, (= (< x y) (< x y)),
    -- premises 0
    ∷ marked
    (integer_record (pos 1) ∷ atom_record 2 0 0 ∷ atom_record 2 1 0 ∷ operation_record Sub (1 ∷ 2 ∷ [])
    ∷ operation_record Mult (0 ∷ 3 ∷ []) ∷ integer_record (pos 2) ∷ atom_record 2 2 0
    ∷ operation_record Sub (1 ∷ 6 ∷ []) ∷ operation_record Mult (5 ∷ 7 ∷ [])
    ∷ operation_record Equals (4 ∷ 8 ∷ []) ∷ operation_record LessThan (1 ∷ 2 ∷ [])
    ∷ operation_record Equals (10 ∷ 10 ∷ []) ∷ [])
    (step_records 0 [] (9 ∷ []) [] ∷ step_records 8 (0 ∷ []) (11 ∷ []) [] ∷ []) usual
    (answers 33 1 0 (step_records 0 [] (9 ∷ []) [] ∷ []) [])
    -- 39 for c1 before 41 for c2: rule 0, (= (bvmul #x02 (bvsub v w)) (bvmul w (bvsub v w))); rule 8, p,
    -- premises 0
    ∷ marked
    (vector_record 2 8 ∷ atom_record 4 5 8 ∷ atom_record 4 6 8 ∷ operation_record BvSub (1 ∷ 2 ∷ [])
    ∷ operation_record BvMul (0 ∷ 3 ∷ []) ∷ operation_record BvMul (2 ∷ 3 ∷ [])
    ∷ operation_record Equals (4 ∷ 5 ∷ []) ∷ atom_record 1 8 0 ∷ [])
    (step_records 0 [] (6 ∷ []) [] ∷ step_records 8 (0 ∷ []) (7 ∷ []) [] ∷ []) usual
    (answers 39 1 0 (step_records 0 [] (6 ∷ []) [] ∷ []) [])
    -- 41 for c1 before 39 for c2: rule 0, (= (bvmul w (bvsub v w)) (bvmul #x02 (bvsub v w))); rule 8, p,
    -- premises 0
    ∷ marked
    (atom_record 4 6 8 ∷ atom_record 4 5 8 ∷ operation_record BvSub (1 ∷ 0 ∷ [])
    ∷ operation_record BvMul (0 ∷ 2 ∷ []) ∷ vector_record 2 8 ∷ operation_record BvMul (4 ∷ 2 ∷ [])
    ∷ operation_record Equals (3 ∷ 5 ∷ []) ∷ atom_record 1 8 0 ∷ [])
    (step_records 0 [] (6 ∷ []) [] ∷ step_records 8 (0 ∷ []) (7 ∷ []) [] ∷ []) usual
    (answers 41 1 0 (step_records 0 [] (6 ∷ []) [] ∷ []) [])
    -- 39 for c2 before the conclusion's form: rule 0, (= (bvmul #x01 (bvsub v w)) (bvmul #x02 (bvsub v w)));
    -- rule 8, p, premises 0
    ∷ marked
    (vector_record 1 8 ∷ atom_record 4 5 8 ∷ atom_record 4 6 8 ∷ operation_record BvSub (1 ∷ 2 ∷ [])
    ∷ operation_record BvMul (0 ∷ 3 ∷ []) ∷ vector_record 2 8 ∷ operation_record BvMul (5 ∷ 3 ∷ [])
    ∷ operation_record Equals (4 ∷ 6 ∷ []) ∷ atom_record 1 8 0 ∷ [])
    (step_records 0 [] (7 ∷ []) [] ∷ step_records 8 (0 ∷ []) (8 ∷ []) [] ∷ []) usual
    (answers 39 1 0 (step_records 0 [] (7 ∷ []) [] ∷ []) [])
    -- bit-vectors, a conclusion of another form: rule 0, (= (bvmul #x01 (bvsub v w)) (bvmul #x03 (bvsub v
    -- w))); rule 8, (= (= v w) p), premises 0
    ∷ marked
    (vector_record 1 8 ∷ atom_record 4 5 8 ∷ atom_record 4 6 8 ∷ operation_record BvSub (1 ∷ 2 ∷ [])
    ∷ operation_record BvMul (0 ∷ 3 ∷ []) ∷ vector_record 3 8 ∷ operation_record BvMul (5 ∷ 3 ∷ [])
    ∷ operation_record Equals (4 ∷ 6 ∷ []) ∷ operation_record Equals (1 ∷ 2 ∷ []) ∷ atom_record 1 8 0
    ∷ operation_record Equals (8 ∷ 9 ∷ []) ∷ [])
    (step_records 0 [] (7 ∷ []) [] ∷ step_records 8 (0 ∷ []) (10 ∷ []) [] ∷ []) usual
    (answers 24 1 0 (step_records 0 [] (7 ∷ []) [] ∷ []) [])
    -- bit-vectors, 33: rule 0, (= (bvmul #x01 (bvsub v w)) (bvmul #x03 (bvsub v w))); rule 8, (= (= v w) (= w
    -- v)), premises 0
    ∷ marked
    (vector_record 1 8 ∷ atom_record 4 5 8 ∷ atom_record 4 6 8 ∷ operation_record BvSub (1 ∷ 2 ∷ [])
    ∷ operation_record BvMul (0 ∷ 3 ∷ []) ∷ vector_record 3 8 ∷ operation_record BvMul (5 ∷ 3 ∷ [])
    ∷ operation_record Equals (4 ∷ 6 ∷ []) ∷ operation_record Equals (1 ∷ 2 ∷ [])
    ∷ operation_record Equals (2 ∷ 1 ∷ []) ∷ operation_record Equals (8 ∷ 9 ∷ []) ∷ [])
    (step_records 0 [] (7 ∷ []) [] ∷ step_records 8 (0 ∷ []) (10 ∷ []) [] ∷ []) usual
    (answers 33 1 0 (step_records 0 [] (7 ∷ []) [] ∷ []) [])
    -- ---- Demand 3's premises
    -- a div whose dividend is no number is an atom: rule 5, (not (< (div x 2) 3)) (not (> (div x 2) 2)),
    -- arguments 1 1
    ∷ marked
    (atom_record 2 0 0 ∷ integer_record (pos 2) ∷ operation_record IntDiv (0 ∷ 1 ∷ [])
    ∷ integer_record (pos 3) ∷ operation_record LessThan (2 ∷ 3 ∷ []) ∷ operation_record Not (4 ∷ [])
    ∷ operation_record GreaterThan (2 ∷ 1 ∷ []) ∷ operation_record Not (6 ∷ []) ∷ integer_record (pos 1) ∷ [])
    (step_records 5 [] (5 ∷ 7 ∷ []) (8 ∷ 8 ∷ []) ∷ []) usual
    (answers 0 1 4 (step_records 5 [] (5 ∷ 7 ∷ []) (8 ∷ 8 ∷ []) ∷ []) [])
    -- a div whose divisor is no number is an atom: rule 5, (not (< (div 3 x) 3)) (not (> (div 3 x) 2)),
    -- arguments 1 1
    ∷ marked
    (integer_record (pos 3) ∷ atom_record 2 0 0 ∷ operation_record IntDiv (0 ∷ 1 ∷ [])
    ∷ operation_record LessThan (2 ∷ 0 ∷ []) ∷ operation_record Not (3 ∷ []) ∷ integer_record (pos 2)
    ∷ operation_record GreaterThan (2 ∷ 5 ∷ []) ∷ operation_record Not (6 ∷ []) ∷ integer_record (pos 1) ∷ [])
    (step_records 5 [] (4 ∷ 7 ∷ []) (8 ∷ 8 ∷ []) ∷ []) usual
    (answers 0 1 4 (step_records 5 [] (4 ∷ 7 ∷ []) (8 ∷ 8 ∷ []) ∷ []) [])
    -- a div by 0 is an atom: rule 5, (not (< (div 3 0) 3)) (not (> (div 3 0) 2)), arguments 1 1
    ∷ marked
    (integer_record (pos 3) ∷ integer_record (pos 0) ∷ operation_record IntDiv (0 ∷ 1 ∷ [])
    ∷ operation_record LessThan (2 ∷ 0 ∷ []) ∷ operation_record Not (3 ∷ []) ∷ integer_record (pos 2)
    ∷ operation_record GreaterThan (2 ∷ 5 ∷ []) ∷ operation_record Not (6 ∷ []) ∷ integer_record (pos 1) ∷ [])
    (step_records 5 [] (4 ∷ 7 ∷ []) (8 ∷ 8 ∷ []) ∷ []) usual
    (answers 0 1 4 (step_records 5 [] (4 ∷ 7 ∷ []) (8 ∷ 8 ∷ []) ∷ []) [])
    -- a div that comes out even: rule 5, (not (< (+ x (div 6 2)) 6)) (not (> x 2)), arguments 1 1
    ∷ marked
    (atom_record 2 0 0 ∷ integer_record (pos 6) ∷ integer_record (pos 2)
    ∷ operation_record IntDiv (1 ∷ 2 ∷ []) ∷ operation_record Add (0 ∷ 3 ∷ [])
    ∷ operation_record LessThan (4 ∷ 1 ∷ []) ∷ operation_record Not (5 ∷ [])
    ∷ operation_record GreaterThan (0 ∷ 2 ∷ []) ∷ operation_record Not (7 ∷ []) ∷ integer_record (pos 1) ∷ [])
    (step_records 5 [] (6 ∷ 8 ∷ []) (9 ∷ 9 ∷ []) ∷ []) usual
    (answers 0 1 6 (step_records 5 [] (6 ∷ 8 ∷ []) (9 ∷ 9 ∷ []) ∷ []) [])
    -- a div in an argument that does not come out even: rule 5, (not (<= u 1)) (not (>= u 2)), arguments (div
    -- 7 2) (div 7 2)
    ∷ marked
    (atom_record 3 4 0 ∷ integer_record (pos 1) ∷ operation_record LessEq (0 ∷ 1 ∷ [])
    ∷ operation_record Not (2 ∷ []) ∷ integer_record (pos 2) ∷ operation_record GreaterEq (0 ∷ 4 ∷ [])
    ∷ operation_record Not (5 ∷ []) ∷ integer_record (pos 7) ∷ operation_record IntDiv (7 ∷ 4 ∷ []) ∷ [])
    (step_records 5 [] (3 ∷ 6 ∷ []) (8 ∷ 8 ∷ []) ∷ []) usual
    (answers 0 1 4 (step_records 5 [] (3 ∷ 6 ∷ []) (8 ∷ 8 ∷ []) ∷ []) [])
    -- / in an argument need not come out even: rule 5, (not (<= u 1)) (not (>= u 2)), arguments (/ 7 2) (/ 7
    -- 2)
    ∷ marked
    (atom_record 3 4 0 ∷ integer_record (pos 1) ∷ operation_record LessEq (0 ∷ 1 ∷ [])
    ∷ operation_record Not (2 ∷ []) ∷ integer_record (pos 2) ∷ operation_record GreaterEq (0 ∷ 4 ∷ [])
    ∷ operation_record Not (5 ∷ []) ∷ integer_record (pos 7) ∷ operation_record RealDiv (7 ∷ 4 ∷ []) ∷ [])
    (step_records 5 [] (3 ∷ 6 ∷ []) (8 ∷ 8 ∷ []) ∷ []) usual
    (answers 0 1 4 (step_records 5 [] (3 ∷ 6 ∷ []) (8 ∷ 8 ∷ []) ∷ []) [])
    -- a fractional coefficient of an Int atom: rule 5, (not (> (* 1/2 x) 0)) (not (< (* 1/2 x) 1)), arguments
    -- 1 1
    ∷ marked
    (real_record (pos 1) (pos 2) ∷ atom_record 2 0 0 ∷ operation_record Mult (0 ∷ 1 ∷ [])
    ∷ integer_record (pos 0) ∷ operation_record GreaterThan (2 ∷ 3 ∷ []) ∷ operation_record Not (4 ∷ [])
    ∷ integer_record (pos 1) ∷ operation_record LessThan (2 ∷ 6 ∷ []) ∷ operation_record Not (7 ∷ []) ∷ [])
    (step_records 5 [] (5 ∷ 8 ∷ []) (6 ∷ 6 ∷ []) ∷ []) usual
    (answers 0 1 6 (step_records 5 [] (5 ∷ 8 ∷ []) (6 ∷ 6 ∷ []) ∷ []) [])
    -- fractional coefficients and arguments with a Real atom: rule 5, (not (<= (* 1/2 u) 1)) (not (>= (* 1/2
    -- u) 2)), arguments 1/2 1/2
    ∷ marked
    (real_record (pos 1) (pos 2) ∷ atom_record 3 4 0 ∷ operation_record Mult (0 ∷ 1 ∷ [])
    ∷ integer_record (pos 1) ∷ operation_record LessEq (2 ∷ 3 ∷ []) ∷ operation_record Not (4 ∷ [])
    ∷ integer_record (pos 2) ∷ operation_record GreaterEq (2 ∷ 6 ∷ []) ∷ operation_record Not (7 ∷ []) ∷ [])
    (step_records 5 [] (5 ∷ 8 ∷ []) (0 ∷ 0 ∷ []) ∷ []) usual
    (answers 0 1 6 (step_records 5 [] (5 ∷ 8 ∷ []) (0 ∷ 0 ∷ []) ∷ []) [])
    -- a Real atom that is left beside an Int one: rule 5, (not (>= (+ x u) 1)) (not (<= (+ x u) 0)),
    -- arguments 1/2 1/2
    ∷ marked
    (atom_record 2 0 0 ∷ atom_record 3 4 0 ∷ operation_record Add (0 ∷ 1 ∷ []) ∷ integer_record (pos 1)
    ∷ operation_record GreaterEq (2 ∷ 3 ∷ []) ∷ operation_record Not (4 ∷ []) ∷ integer_record (pos 0)
    ∷ operation_record LessEq (2 ∷ 6 ∷ []) ∷ operation_record Not (7 ∷ []) ∷ real_record (pos 1) (pos 2) ∷ [])
    (step_records 5 [] (5 ∷ 8 ∷ []) (9 ∷ 9 ∷ []) ∷ []) usual
    (answers 0 1 8 (step_records 5 [] (5 ∷ 8 ∷ []) (9 ∷ 9 ∷ []) ∷ []) [])
    -- a Real atom that cancels: rule 5, (not (>= (+ x u) (+ u 1))) (not (<= x 1)), arguments 1/2 1/2
    ∷ marked
    (atom_record 2 0 0 ∷ atom_record 3 4 0 ∷ operation_record Add (0 ∷ 1 ∷ []) ∷ integer_record (pos 1)
    ∷ operation_record Add (1 ∷ 3 ∷ []) ∷ operation_record GreaterEq (2 ∷ 4 ∷ [])
    ∷ operation_record Not (5 ∷ []) ∷ operation_record LessEq (0 ∷ 3 ∷ []) ∷ operation_record Not (7 ∷ [])
    ∷ real_record (pos 1) (pos 2) ∷ [])
    (step_records 5 [] (6 ∷ 8 ∷ []) (9 ∷ 9 ∷ []) ∷ []) usual
    (answers 0 1 8 (step_records 5 [] (6 ∷ 8 ∷ []) (9 ∷ 9 ∷ []) ∷ []) [])
    -- a fractional argument of an equality of Ints: rule 5, (not (= x 1)) (not (= x 2)), arguments 1/2 (-
    -- 1/2)
    ∷ marked
    (atom_record 2 0 0 ∷ integer_record (pos 1) ∷ operation_record Equals (0 ∷ 1 ∷ [])
    ∷ operation_record Not (2 ∷ []) ∷ integer_record (pos 2) ∷ operation_record Equals (0 ∷ 4 ∷ [])
    ∷ operation_record Not (5 ∷ []) ∷ real_record (pos 1) (pos 2) ∷ operation_record Sub (7 ∷ []) ∷ [])
    (step_records 5 [] (3 ∷ 6 ∷ []) (7 ∷ 8 ∷ []) ∷ []) usual
    (answers 0 1 4 (step_records 5 [] (3 ∷ 6 ∷ []) (7 ∷ 8 ∷ []) ∷ []) [])
    -- a fractional argument that is inferred: rule 6, (not (<= x 3)) (not (>= (* 2 x) 8)), arguments 1
    ∷ marked
    (atom_record 2 0 0 ∷ integer_record (pos 3) ∷ operation_record LessEq (0 ∷ 1 ∷ [])
    ∷ operation_record Not (2 ∷ []) ∷ integer_record (pos 2) ∷ operation_record Mult (4 ∷ 0 ∷ [])
    ∷ integer_record (pos 8) ∷ operation_record GreaterEq (5 ∷ 6 ∷ []) ∷ operation_record Not (7 ∷ [])
    ∷ integer_record (pos 1) ∷ [])
    (step_records 6 [] (3 ∷ 8 ∷ []) (9 ∷ []) ∷ []) usual
    (answers 0 1 5 (step_records 5 [] (3 ∷ 8 ∷ []) (9 ∷ 10 ∷ []) ∷ []) (real_record (pos 1) (pos 2) ∷ []))
    ∷ []

all_marked_lem : all_marked cases ≡ true
unfolding marks cases
all_marked_lem = refl
