-- The elaboration of one step, src/elaborator/local/farkas.rs: its records with rule 6 turned to 5, and the numbers
-- that it inferred appended as A records of real constants. A constant that neither the book nor the tail has is added
-- to the tail.
use Rattle.runs.specs.declared.rule.Rule.{Rule}
use Rattle.runs.specs.declared.rule.Rule.TheVariants.{PolySimpRel, PolySimp, BoundedFarkas, LaGeneric, LaTautology}
use Rattle.runs.specs.declared.rule.Rule.TheVariants.{LaTotality, LaDisequality, LaRwEq, Assume}
use Rattle.std.specs.Prelude.{Bool, true, false, ◌&&◌, List, [], ◌∷◌, ◌++◌, ℕ, zero, suc, ◌+◌, ◌*◌, ◌/◌, leb, ltb}
use Rattle.std.specs.Prelude.{length, replicate}
use Rattle.std.specs.Prelude.{Option, Some, None}
use Rattle.numbers.specs.Rational.{Rational, eq_q}
use Rattle.numbers.specs.Bytes.{Bytes, bytes_of, complement}
use Rattle.terms.specs.Term.{Term}
use Rattle.terms.specs.Term.Term.{integer, rational, bitvector, atom, op}
use Rattle.terms.specs.Format as format
use Rattle.terms.specs.Book.{count, tree}
use Rattle.terms.specs.Format.{max_run_records, run_record_bytes}
use Rattle.runs.specs.Rule.{rule_number}
use Rattle.runs.specs.Run.{Step, S, C, A, record_bytes, premise_bytes, term_bytes}

-- ---- constants

unfoldable pub real_record : Rational → Bytes
real_record q =
    format.real_kind ∷ 0 ∷ 0 ∷ 0
    ∷ (bytes_of 8 (complement 8 q.num) ++ (bytes_of 8 (complement 8 q.den) ++ replicate 12 0))

abbrev pub is_real : Rational → Term → Bool
is_real q (integer i v) = false
is_real q (rational i r) = eq_q q r
is_real q (bitvector i v w) = false
is_real q (atom i s n) = false
is_real q (op i o ts) = false

-- the record of a real constant among n, from record i on
unfoldable pub find_real : ℕ → Bytes → Rational → ℕ → Option ℕ
find_real zero book q i = None
find_real (suc n) book q i = elim (is_real q (tree book i)) [ true ↦ Some i | false ↦ find_real n book q (suc i) ]

-- the place that was found, or n
abbrev pub place_or : Option ℕ → ℕ → ℕ
place_or (Some i) n = i
place_or None n = n

-- the place of a number in the tail, or the tail's length
unfoldable pub place_in : List Rational → Rational → ℕ
place_in [] q = 0
place_in (r ∷ tail) q = elim (eq_q r q) [ true ↦ 0 | false ↦ suc (place_in tail q) ]

-- ---- what is written: the run's bytes, and the tail's constants

pub record Written : Type 0 where
  pub run : Bytes
  pub tail : List Rational

abbrev pub written : Bytes → List Rational → Written
written r t = record { run = r; tail = t }

abbrev pub with_tail : List Rational → Rational → List Rational
with_tail tail q = elim (ltb (place_in tail q) (length tail)) [ true ↦ tail | false ↦ tail ++ q ∷ [] ]

-- an inferred number as an argument
unfoldable pub add_real : Bytes → Written → Rational → Written
add_real book w q = elim (find_real (count book) book q 0) [
  | Some i ↦ written (w.run ++ record_bytes A 0 i) w.tail
  | None ↦ written (w.run ++ record_bytes A 0 (count book + place_in w.tail q)) (with_tail w.tail q)
]

unfoldable pub add_reals : Bytes → Written → List Rational → Written
add_reals book w [] = w
add_reals book w (q ∷ qs) = add_reals book (add_real book w q) qs

-- bounded_farkas becomes la_generic
abbrev pub elaborated_rule : Rule → Rule
elaborated_rule Assume = Assume
elaborated_rule LaRwEq = LaRwEq
elaborated_rule LaDisequality = LaDisequality
elaborated_rule LaTotality = LaTotality
elaborated_rule LaTautology = LaTautology
elaborated_rule LaGeneric = LaGeneric
elaborated_rule BoundedFarkas = LaGeneric
elaborated_rule PolySimp = PolySimp
elaborated_rule PolySimpRel = PolySimpRel

unfoldable pub step_bytes : Step → Bytes
step_bytes s =
    record_bytes S (rule_number (elaborated_rule s.rule)) 0
    ++ (premise_bytes s.premises ++ (term_bytes C s.clause ++ term_bytes A s.args))

unfoldable pub tail_bytes : List Rational → Bytes
tail_bytes [] = []
tail_bytes (q ∷ qs) = real_record q ++ tail_bytes qs

-- refusal 8: what is written goes into both areas, and into document 01's limits
unfoldable pub fits : Bytes → ℕ → ℕ → Written → Bool
fits book out_run out_tail w =
    (leb (length w.run) out_run && leb (format.record_bytes * length w.tail) out_tail)
    && (leb (count book + length w.tail) format.max_records && leb (length w.run / run_record_bytes) max_run_records)
