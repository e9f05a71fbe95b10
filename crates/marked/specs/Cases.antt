-- A case of the table in Marked: a book and a run from their records, what is lent, and the answer that is expected.
-- And one name that opens all that computing with a run goes through: a closed example says `unfolding marks`.
use Rattle.std.specs.Prelude.{Bool, true, false, ◌&&◌, List, [], ◌∷◌, ◌++◌, ℕ, ◌/◌, ◌%◌, eqb}
use Rattle.numbers.specs.Bytes.{Bytes, bytes_of, same_bytes}
use Rattle.terms.specs.BookExamples.{joined}
use Rattle.alethe_examples.specs.Computes.{rules}
use Rattle.runs.specs.Verdict.{verdict_number}
use Rattle.runs.specs.Rule.{with_number, rule_of}
use Rattle.runs.specs.Run.{head_rule, S, P, C, A, recs, leading, after, all_right, numbers_of, terms_of, read_step}
use Rattle.runs.specs.Run.{read_steps, read_run, premise_bytes, term_bytes}
use Rattle.steps.specs.CheckStep.{check_rule, clauses_of, check_step}
use Rattle.marking.specs.Check.{turn, turns, check_steps, mark_run, mark, check}
use Rattle.out_areas.specs.Farkas as Farkas
use Rattle.elaborate.specs.Elaborate.{Answer, add_steps, elaborated, elaborate_under, elaborate}
use Rattle.out_areas.specs.Farkas.{find_real, place_in, add_real, add_reals, step_bytes, tail_bytes, fits}

-- ---- runs from their parts

unfoldable pub run_record : ℕ → ℕ → ℕ → Bytes
run_record mark byte n = mark ∷ byte ∷ (n % 256) ∷ (n / 256) ∷ []

unfoldable pub run_records : ℕ → List ℕ → Bytes
run_records mark [] = []
run_records mark (n ∷ ns) = run_record mark 0 n ++ run_records mark ns

-- rule, premises, literals, arguments
unfoldable pub step_records : ℕ → List ℕ → List ℕ → List ℕ → Bytes
step_records rule ps cs as' = run_record S rule 0 ++ (run_records P ps ++ (run_records C cs ++ run_records A as'))

-- ---- a case: the book, the run, limit and lengths of the work area and the two out areas, the answer

-- verdict, accepted steps, visits, and what is written to the out areas
abbrev pub Expected : Type 0
Expected = ℕ × ℕ × ℕ × Bytes × Bytes

abbrev pub Case : Type 0
Case = List Bytes × List Bytes × (ℕ × ℕ × ℕ × ℕ) × Expected

abbrev pub usual : ℕ × ℕ × ℕ × ℕ
usual = (1000, 65536, 1000, 1000)

abbrev pub marked : List Bytes → List Bytes → ℕ × ℕ × ℕ × ℕ → Expected → Case
marked book run lent a = (book, run, lent, a)

-- the same by the records that are written
abbrev pub answers : ℕ → ℕ → ℕ → List Bytes → List Bytes → Expected
answers v s n run tail = (v, s, n, joined run, joined tail)

abbrev pub same_answer : Answer → Expected → Bool
same_answer a (v, s, n, run, tail) =
    eqb (verdict_number a.verdict) v
    && (eqb a.steps s && (eqb a.visits n && (same_bytes a.run run && same_bytes a.tail tail)))

abbrev pub is_marked : Case → Bool
is_marked (book, run, (limit, work, out_run, out_tail), a) =
    same_answer (elaborate (joined book) (joined run) limit work out_run out_tail) a

unfoldable pub all_marked : List Case → Bool
all_marked [] = true
all_marked (c ∷ cs) = elim (is_marked c) [ true ↦ all_marked cs | false ↦ false ]

-- ---- computing

unfoldable pub marks : Unit {0}
unfolding rules recs leading after all_right numbers_of terms_of with_number rule_of head_rule read_step read_steps
    read_run clauses_of check_rule check_step turn turns check_steps mark_run mark check bytes_of Farkas.real_record
    find_real place_in add_real add_reals premise_bytes term_bytes step_bytes add_steps tail_bytes fits elaborated
    elaborate_under elaborate run_record run_records step_records all_marked
marks = tt
