-- Demand 3's premises cannot be left out: the accepted steps K10 and K11 each break one of them, and their clauses
-- are not true. K10's is false at x = 1, K11's in SMT-LIB's Ints. MarkedPremises has which premises they break.
use Rattle.runs.specs.declared.verdict.Verdict.TheVariants.{AllAccepted}
use Rattle.std.specs.Prelude.{◌≡◌, refl, Bool, true, false, ◌&&◌, List, [], ◌∷◌, ℤ, pos, nat_abs, ◌+ℤ◌, ◌*ℤ◌}
use Rattle.std.specs.Int.Signed.{le_z, lt_z}
use Rattle.numbers.specs.Pair.{whole_p, eq_z}
use Rattle.numbers.specs.Bytes.{Bytes}
use Rattle.terms.specs.Operator.{Not, LessEq, GreaterEq, IntDiv}
use Rattle.terms.specs.Term.{Term}
use Rattle.terms.specs.Term.Term.{integer, op}
use Rattle.terms.specs.Term.Terms.{nil, ◌▹◌}
use Rattle.terms.specs.Smtlib.{Assignment, value, meaning, chain, holds}
use Rattle.terms.specs.BookExamples.{joined, integer_record, real_record, atom_record, operation_record}
use Rattle.rules.specs.Limits.{limited}
use Rattle.runs.specs.Run.{steps_of}
use Rattle.marking.specs.Check.{mark}
use Rattle.marked.specs.Cases.{step_records, marks}
use Rattle.elaborate.specs.Statements.{clauses}

-- ---- K10: rule 5, (not (>= x 1)) (not (<= x 1)), arguments 1/2 1/2

ten_book : Bytes
ten_book =
    joined
    (atom_record 2 0 0  -- 0: x
    ∷ integer_record (pos 1)
    ∷ operation_record GreaterEq (0 ∷ 1 ∷ [])
    ∷ operation_record Not (2 ∷ [])
    ∷ operation_record LessEq (0 ∷ 1 ∷ [])
    ∷ operation_record Not (4 ∷ [])
    ∷ real_record (pos 1) (pos 2)
    ∷ [])

ten_run : Bytes
ten_run = step_records 5 [] (3 ∷ 5 ∷ []) (6 ∷ 6 ∷ [])

-- x is 1
ρ : Assignment
ρ = record { truths = λ i. false; integers = λ i. pos 1; reals = λ i. whole_p (pos 0); vectors = λ i. 0 }

abbrev all_hold : List (List Term) → List Bool
all_hold [] = []
all_hold (c ∷ cs) = holds ρ c ∷ all_hold cs

ten-accepted : (mark (limited 1000) ten_book ten_run).verdict ≡ AllAccepted
unfolding marks ten_book ten_run
ten-accepted = refl

ten-false : all_hold (clauses (steps_of ten_book ten_run)) ≡ false ∷ []
unfolding marks ten_book ten_run ρ value meaning chain holds
ten-false = refl

-- ---- K11: rule 4, (not (<= (div 7 2) 3))

eleven_book : Bytes
eleven_book =
    joined
    (integer_record (pos 7)
    ∷ integer_record (pos 2)
    ∷ operation_record IntDiv (0 ∷ 1 ∷ [])
    ∷ integer_record (pos 3)
    ∷ operation_record LessEq (2 ∷ 3 ∷ [])
    ∷ operation_record Not (4 ∷ [])
    ∷ [])

eleven_run : Bytes
eleven_run = step_records 4 [] (5 ∷ []) []

eleven-accepted : (mark (limited 1000) eleven_book eleven_run).verdict ≡ AllAccepted
unfolding marks eleven_book eleven_run
eleven-accepted = refl

-- Ints: m = n q + r with 0 <= r < |n|, and q is the value of (div m n)
abbrev is_div : ℤ → ℤ → ℤ → ℤ → Bool
is_div m n q r = eq_z m (n *ℤ q +ℤ r) && (le_z (pos 0) r && lt_z r (pos (nat_abs n)))

seven-over-two : is_div (pos 7) (pos 2) (pos 3) (pos 1) ≡ true
seven-over-two = refl

-- with that value for the div, the literal is (not (<= 3 3))
eleven-false : holds ρ (op 5 Not (op 4 LessEq (integer 2 (pos 3) ▹ integer 3 (pos 3) ▹ nil) ▹ nil) ∷ []) ≡ false
unfolding marks ρ value meaning chain holds
eleven-false = refl
