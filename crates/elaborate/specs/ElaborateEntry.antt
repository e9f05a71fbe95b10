-- What the entry points `elaborate` and `written` promise, a record for each: what is answered, and every byte that
-- was lent, equated with definitions. A name with a prime is what lies in a lent area when the function returns.
use Rattle.runs.specs.declared.verdict.Verdict.{Verdict}
use Rattle.std.specs.Prelude.{◌≡◌, not, ℕ, ◌+◌, ◌*◌, ◌≤◌, T, length}
use Rattle.numbers.specs.Bytes.{Bytes}
use Rattle.terms.specs.Format.{record_bytes, max_records}
use Rattle.rules.specs.Limits.{limited}
use Rattle.runs.specs.Verdict.{is_lent}
use Rattle.marking.specs.Check.{mark}
use Rattle.elaborate.specs.Elaborate.{Answer, answer, written_part}
use Rattle.elaborate.specs.LentMemory.{Memory, answer_to, elaborated_of, memory_after}
use Rattle.elaborate.specs.Statements.{KnownState, AllPremises, Elaboration}
use Rattle.elaborate.specs.declared.elaborate.Elaborated.{Elaborated}

-- ---- `elaborate`

-- what a caller finds: the numbers that are answered, and the written part of each out area
abbrev pub found_in : Verdict → Memory → Elaborated → Answer
found_in v m r =
    answer v r.steps r.visits (written_part m.out_run r.run) (written_part m.out_tail r.tail)

-- where demand 3 asks something: 'refusals 1 to 8 don't arise', and the premises hold of the accepted steps
pub record Demand3Applies (m : Memory) (limit : ℕ) : Type 0 where
  pub free : T (not (is_lent (answer_to m limit).verdict))
  pub premises : AllPremises (mark (limited limit) m.book m.run).steps

-- m is lent, m' what lies there afterwards
pub record ElaborateDone (m : Memory) (limit : ℕ) (m' : Memory) (r : Elaborated) : Type 0 where
  -- verdict, accepted steps, visits, and the bytes written to each out area
  pub answered : r ≡ elaborated_of (answer_to m limit)
  -- every lent byte
  pub left : m' ≡ memory_after m limit
  -- demand 1: these bytes are a known state
  pub known : KnownState m m' (answer_to m limit)
  -- book and tail are 2,048 records at most: 65,536 bytes have room for both
  pub room : T (not (is_lent (answer_to m limit).verdict)) → length m.book + r.tail ≤ record_bytes * max_records
  -- demand 3, of what is answered and written
  pub elaboration :
      Demand3Applies m limit →
      Elaboration m.book limit (length m.work) (length m.out_run) (length m.out_tail)
      (found_in (answer_to m limit).verdict m' r)

-- ---- `written`

pub record WrittenDone (out_run : Bytes) (bytes : ℕ) (out_run' r : Bytes) : Type 0 where
  -- 'the written part of the out run, given its byte count; a count above the area or not a multiple of 4 shows an
  -- empty part'
  pub answered : r ≡ written_part out_run bytes
  pub same : out_run' ≡ out_run
