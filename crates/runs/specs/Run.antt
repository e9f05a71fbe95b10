-- A run (document 01's word): 4-byte records, a mark, a byte and a 16-bit number. S opens a step, its byte the rule;
-- then P, the number of an earlier step, C, a Bool term, and A, a term, in that order. Refusals 6 and 7.
use Rattle.runs.specs.declared.rule.Rule.{Rule}
use Rattle.runs.specs.declared.verdict.LentRefusal.{LentRefusal}
use Rattle.runs.specs.declared.verdict.LentRefusal.TheVariants.{RunRecord, RunSize}
use Rattle.runs.specs.declared.rule.Rule.TheVariants.{Assume}
use Rattle.std.specs.Prelude.{Bool, true, false, ◌&&◌, ◌||◌, not, List, [], ◌∷◌, ◌++◌, ℕ, zero, suc, ◌+◌, ◌*◌, ◌/◌}
use Rattle.std.specs.Prelude.{◌%◌, eqb, leb, ltb, length}
use Rattle.std.specs.Prelude.{Option, None}
use Rattle.numbers.specs.Bytes.{Bytes, bytes_of}
use Rattle.terms.specs.Term.{Term, sort, same_sort, record_number}
use Rattle.terms.specs.Term.Sort.{bool}
use Rattle.terms.specs.Book.{count, tree}
use Rattle.terms.specs.Format.{run_record_bytes, max_run_records}
use Rattle.rules.specs.Refusal.{◌>>=◌, assert, or_else}
use Rattle.std.specs.Prelude.{Result, Ok, Err}
use Rattle.runs.specs.Rule.{rule_of, is_rule}

pub record Step : Type 0 where
  pub rule : Rule
  pub premises : List ℕ
  pub clause : List Term
  pub args : List Term

abbrev pub step : Rule → List ℕ → List Term → List Term → Step
step r p c a = record { rule = r; premises = p; clause = c; args = a }

-- ---- records

pub record Rec : Type 0 where
  pub mark : ℕ
  pub byte : ℕ
  pub number : ℕ

abbrev pub rec : ℕ → ℕ → ℕ → Rec
rec m b n = record { mark = m; byte = b; number = n }

-- the marks in ASCII
abbrev pub S : ℕ
S = 83

abbrev pub P : ℕ
P = 80

abbrev pub C : ℕ
C = 67

abbrev pub A : ℕ
A = 65

unfoldable pub recs : Bytes → List Rec
recs [] = []
recs (m ∷ []) = []
recs (m ∷ b ∷ []) = []
recs (m ∷ b ∷ x ∷ []) = []
recs (m ∷ b ∷ x ∷ y ∷ r) = rec m b (x + 256 * y) ∷ recs r

-- the records in front that have a mark, and what follows them
unfoldable pub leading : ℕ → List Rec → List Rec
leading m [] = []
leading m (r ∷ rs) = elim (eqb r.mark m) [ true ↦ r ∷ leading m rs | false ↦ [] ]

unfoldable pub after : ℕ → List Rec → List Rec
after m [] = []
after m (r ∷ rs) = elim (eqb r.mark m) [ true ↦ after m rs | false ↦ r ∷ rs ]

-- ---- refusal 7

-- each record is right: its byte is 0 and its number passes a test
unfoldable pub all_right : (ℕ → Bool) → List Rec → Bool
all_right p [] = true
all_right p (r ∷ rs) = (eqb r.byte 0 && p r.number) && all_right p rs

unfoldable pub numbers_of : List Rec → List ℕ
numbers_of [] = []
numbers_of (r ∷ rs) = r.number ∷ numbers_of rs

unfoldable pub terms_of : Bytes → List Rec → List Term
terms_of book [] = []
terms_of book (r ∷ rs) = tree book r.number ∷ terms_of book rs

-- an assume has one C and nothing else
abbrev pub is_empty : {X : Type 0} → List X → Bool
is_empty [] = true
is_empty (x ∷ xs) = false

abbrev pub shape_ok : Rule → List Rec → List Rec → List Rec → Bool
shape_ok rule ps cs as' = not (is_rule Assume rule) || (is_empty ps && (eqb (length cs) 1 && is_empty as'))

-- an S record with the number of a rule
unfoldable pub head_rule : Rec → Option Rule
head_rule s = elim (eqb s.mark S && eqb s.number 0) [ true ↦ rule_of s.byte | false ↦ None ]

-- step n: an S record and what stands behind it, up to the next that is not in order
unfoldable pub read_step : Bytes → ℕ → Rec → List Rec → List Rec → List Rec → Result Step LentRefusal
read_step book n s ps cs as' = do
  rule ← or_else (head_rule s) RunRecord
  _ ← assert (all_right (λ p. ltb p n) ps) RunRecord
  _ ← assert (all_right (λ c. ltb c (count book) && same_sort (sort (tree book c)) bool) cs) RunRecord
  _ ← assert (all_right (λ a. ltb a (count book)) as') RunRecord
  _ ← assert (shape_ok rule ps cs as') RunRecord
  Ok (step rule (numbers_of ps) (terms_of book cs) (terms_of book as'))

-- at most k steps are left; each takes a record at least
unfoldable pub read_steps : ℕ → Bytes → ℕ → List Rec → Result (List Step) LentRefusal
read_steps zero book n [] = Ok []
read_steps zero book n (r ∷ rs) = Err RunRecord
read_steps (suc k) book n [] = Ok []
read_steps (suc k) book n (r ∷ rs) = do
  let cs = after P rs
  let as' = after C cs
  s ← read_step book n r (leading P rs) (leading C cs) (leading A as')
  ss ← read_steps k book (suc n) (after A as')
  Ok (s ∷ ss)

-- ---- refusal 6, then 7

unfoldable pub read_run : Bytes → Bytes → Result (List Step) LentRefusal
read_run book run = do
  _ ← assert (eqb (length run % run_record_bytes) 0 && leb (length run / run_record_bytes) max_run_records) RunSize
  read_steps (length run / run_record_bytes) book 0 (recs run)

-- P holds of each element
pub data Every {X : Type 0} (P : X → Type 0) : List X → Type 0 where
  end : Every P []
  also : {x : X} {xs : List X} → P x → Every P xs → Every P (x ∷ xs)

-- the steps of a run over a book
abbrev pub steps_of : Bytes → Bytes → List Step
steps_of book run = elim (read_run book run) [ Ok ss ↦ ss | Err r ↦ [] ]

abbrev pub record_bytes : ℕ → ℕ → ℕ → Bytes
record_bytes mark byte n = mark ∷ byte ∷ bytes_of 2 n

unfoldable pub premise_bytes : List ℕ → Bytes
premise_bytes [] = []
premise_bytes (p ∷ ps) = record_bytes P 0 p ++ premise_bytes ps

unfoldable pub term_bytes : ℕ → List Term → Bytes
term_bytes m [] = []
term_bytes m (t ∷ ts) = record_bytes m 0 (record_number t) ++ term_bytes m ts
