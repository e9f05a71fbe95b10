-- A run in lent bytes. The records of a step lie one behind the other, and so do those with one mark: a step's
-- premises, literals and arguments are parts of the run, and so is what follows the step.
use Rattle.runs.specs.declared.rule.Rule.{Rule}
use Rattle.runs.specs.declared.verdict.LentRefusal.{LentRefusal}
use Rattle.runs.specs.declared.rule.Rule.TheVariants.{Assume}
use Rattle.std.specs.Prelude.{◌≡◌, Bool, ◌&&◌, List, ℕ, zero, suc, ◌*◌, ◌-◌, ◌<◌, ltb, length, get_or}
use Rattle.std.specs.Prelude.{take, drop}
use Rattle.std.specs.Prelude.{Some, None}
use Rattle.numbers.specs.Bytes.{Bytes, le}
use Rattle.terms.specs.Term.{sort, same_sort}
use Rattle.terms.specs.Term.Sort.{bool}
use Rattle.terms.specs.Book.{count, tree}
use Rattle.terms.specs.Format.{run_record_bytes}
use Rattle.std.specs.Prelude.{Result, Ok}
use Rattle.rules.specs.Refusal.{◌>>=◌}
use Rattle.rules.specs.Memory.Parts.{numbers_in, terms_in}
use Rattle.runs.specs.Rule.{rule_of}
use Rattle.runs.specs.Run.{Step, step, Rec, rec, P, C, A, recs, leading, all_right, read_step}
use Rattle.runs.specs.Run.{read_run}
use Rattle.runs.specs.declared.run.StepParts.{StepParts}

-- the records in front that have a mark, and what follows them
unfoldable pub leading_in : ℕ → Bytes → Bytes
leading_in m part = take (run_record_bytes * length (leading m (recs part))) part

unfoldable pub after_in : ℕ → Bytes → Bytes
after_in m part = drop (run_record_bytes * length (leading m (recs part))) part

-- ---- of a part that starts with the S record of a step

unfoldable pub premises_in : Bytes → Bytes
premises_in part = leading_in P (drop run_record_bytes part)

unfoldable pub clause_in : Bytes → Bytes
clause_in part = leading_in C (after_in P (drop run_record_bytes part))

unfoldable pub args_in : Bytes → Bytes
args_in part = leading_in A (after_in C (after_in P (drop run_record_bytes part)))

unfoldable pub next_in : Bytes → Bytes
next_in part = after_in A (after_in C (after_in P (drop run_record_bytes part)))

-- how many bytes the step has
unfoldable pub bytes_in : Bytes → ℕ
bytes_in part = length part - length (next_in part)

-- where its parts end
abbrev pub parts_in : Bytes → StepParts
parts_in part =
    record {
      premises = length part - length (after_in P (drop run_record_bytes part));
      clause = length part - length (after_in C (after_in P (drop run_record_bytes part)));
      args = bytes_in part;
    }

-- its first record
unfoldable pub head_in : Bytes → Rec
head_in part = rec (get_or part 0 0) (get_or part 1 0) (le 2 part 2)

-- reading it as step n
unfoldable pub read_in : Bytes → ℕ → Bytes → Result Step LentRefusal
read_in book n part =
    read_step book n (head_in part) (recs (premises_in part)) (recs (clause_in part)) (recs (args_in part))

-- what is asked of its P, C and A records
unfoldable pub parts_ok : Bytes → ℕ → Bytes → Bool
parts_ok book n part =
    all_right (λ p. ltb p n) (recs (premises_in part))
    && (all_right (λ c. ltb c (count book) && same_sort (sort (tree book c)) bool) (recs (clause_in part))
    && all_right (λ a. ltb a (count book)) (recs (args_in part)))

-- its rule
unfoldable pub rule_in : Bytes → Rule
rule_in part = elim (rule_of (head_in part).byte) [ Some r ↦ r | None ↦ Assume ]

-- the step, once it was read
unfoldable pub step_in : Bytes → Bytes → Step
step_in book part =
    step (rule_in part) (numbers_in (premises_in part)) (terms_in book (clause_in part)) (terms_in book (args_in part))

-- ---- of a whole run

-- whether it is refused
abbrev pub passed : {X : Type 0} → Result X LentRefusal → Result (Unit {0}) LentRefusal
passed r = r >>= λ x. Ok tt

-- from step k on
unfoldable pub step_from : ℕ → Bytes → Bytes
step_from zero run = run
step_from (suc k) run = next_in (step_from k run)

-- part is what is left of a run, which was read, from one of its steps on
pub record StandsIn (b run part : Bytes) : Type 0 where
  pub steps : List Step
  pub read : read_run b run ≡ Ok steps
  pub number : ℕ
  pub from : part ≡ step_from number run
  pub inside : number < length steps
