-- The three demands, as statements over the definitions, for all bytes, lengths, limits and lent memory. Each part is
-- commented with the sentence that it renders; what they say of one call is in Statements. Nothing is proved here:
-- proofs/Memory proves demand 1 and that the trace makes no difference, proofs/Meeting demand 2, proofs/Elaboration
-- demand 3 and its two halves, the second marking and the truth of the clauses. Only proofs import this module.
use Rattle.runs.specs.declared.rule.Rule.{Rule}
use Rattle.runs.specs.declared.verdict.Verdict.TheVariants.{Lent}
use Rattle.runs.specs.declared.verdict.LentRefusal.TheVariants.{NoRoom}
use Rattle.runs.specs.declared.rule.Rule.TheVariants.{PolySimpRel, PolySimp, BoundedFarkas, LaGeneric, LaTautology}
use Rattle.runs.specs.declared.rule.Rule.TheVariants.{LaTotality, LaDisequality, LaRwEq, Assume}
use Rattle.std.specs.Prelude.{◌≡◌, not, List, [], ◌∷◌, ◌⊎◌, ℕ, T, length, get_or}
use Rattle.numbers.specs.Rational.{Rational}
use Rattle.numbers.specs.Bytes.{Bytes}
use Rattle.terms.specs.Term.{Term}
use Rattle.std.specs.Prelude.{Ok}
use Rattle.rules.specs.Limits.{the_rust, limited}
use Rattle.rules.specs.Shapes.{Clause}
use Rattle.alethe.specs.Alethe as Alethe
use Rattle.alethe.specs.AletheDifferences.{NegativeEquality, QuotientBound, VanishingMonomial, WholeBounds}
use Rattle.alethe.specs.AletheDifferences.{NoZeroArgument}
use Rattle.runs.specs.Verdict.{is_lent, is_of_rule, is_lent_or_limit}
use Rattle.runs.specs.Run.{Step, step, steps_of, Every}
use Rattle.steps.specs.CheckStep.{clauses_of}
use Rattle.marking.specs.Check.{Marking, mark, check}
use Rattle.elaborate.specs.Elaborate.{elaborate_under, elaborate}
use Rattle.elaborate.specs.LentMemory.{Memory, answer_to, memory_after}
use Rattle.elaborate.specs.Statements.{KnownState, MeaningPremises, NoSurplus, AllPremises, written_steps}
use Rattle.elaborate.specs.Statements.{AcceptedAgain, EveryClauseTrue, Elaboration}

-- ---- demand 1: memory

-- That every entry point finishes and puts no condition on its caller is the code's proof; that it refuses by
-- document 01's table is its contract, which equates the answer with `elaborate` and `check`.
pub record Demand1 : Type 0 where
  -- 'For all bytes, lengths and limits the lent memory comes back in a known state: book and run unchanged, work area
  -- all zero, each out area its answer and then zeros, or only zeros on refusals 1 to 8'
  pub memory : (m : Memory) (limit : ℕ) → KnownState m (memory_after m limit) (answer_to m limit)

-- ---- trace on and off

-- `elaborate` marks with the trace on, `check` with it off
abbrev pub check_of : Memory → ℕ → Marking
check_of m limit = check m.book m.run limit (length m.work)

-- the two give one verdict and one count
pub record TraceOnAndOff (m : Memory) (limit : ℕ) : Type 0 where
  -- one verdict, but that '8 is tested after the marking and replaces the run's verdict'
  pub verdict :
      ((answer_to m limit).verdict ≡ Lent NoRoom → ⊥) → (answer_to m limit).verdict ≡ (check_of m limit).verdict
  -- 'accepted steps and visits stay in the answer', under refusal 8 too
  pub steps : (answer_to m limit).steps ≡ length (check_of m limit).steps
  pub visits : (answer_to m limit).visits ≡ (check_of m limit).visits
  -- refusal 8 does not arise where nothing was accepted: so 1 to 7 come before it
  pub nothing_fits : (check_of m limit).steps ≡ [] → (answer_to m limit).verdict ≡ (check_of m limit).verdict

-- for all lent memory and limits
abbrev pub TraceMakesNoDifference : Type 0
TraceMakesNoDifference = (m : Memory) (limit : ℕ) → TraceOnAndOff m limit

-- ---- demand 2: the Rust's answers

-- a clause of one literal, of which P holds
pub record OneLiteral (P : Term → Type 0) (c : Clause) : Type 0 where
  pub literal : Term
  pub alone : c ≡ literal ∷ []
  pub says : P literal

-- what a rule asks, as the Alethe specification words it or by one of the departures that are granted: of the clauses
-- of the steps that it names, its clause, its arguments, and the numbers that were inferred
abbrev pub MeetsRule : Rule → Alethe.Departures → List Clause → Clause → List Term → List Rational → Type 0
MeetsRule Assume by premises c args inferred = Unit {0}
MeetsRule LaRwEq by premises c args inferred = OneLiteral Alethe.LaRwEq c
MeetsRule LaDisequality by premises c args inferred = OneLiteral Alethe.LaDisequality c
MeetsRule LaTotality by premises c args inferred = OneLiteral Alethe.LaTotality c
MeetsRule LaTautology by premises c args inferred = OneLiteral (Alethe.LaTautology by) c
MeetsRule LaGeneric by premises c args inferred =
    (qs : List Rational) × (Alethe.Arguments args qs × Alethe.LaGeneric by c qs)
MeetsRule BoundedFarkas by premises c args inferred = Alethe.BoundedFarkas by c args inferred
MeetsRule PolySimp by premises c args inferred = OneLiteral (Alethe.PolySimp by) c
MeetsRule PolySimpRel by premises c args inferred =
    (premise : Term) × ((premises ≡ (premise ∷ []) ∷ []) × OneLiteral (Alethe.PolySimpRel by premise) c)

-- a step meets its rule; run has the clauses of the steps before it
abbrev pub Meets : Alethe.Departures → List Step → Step → List Rational → Type 0
Meets by run s inferred = MeetsRule s.rule by (clauses_of run s.premises) s.clause s.args inferred

-- 'On every book and run that refusals 1 to 12 don't stop, each verdict, inferred coefficient and elaborated step
-- equals the Rust's'
abbrev pub TheRustsAnswers : Type 0
TheRustsAnswers =
    (book run : Bytes) (limit work out_run out_tail : ℕ) →
    T (not (is_lent_or_limit (elaborate book run limit work out_run out_tail).verdict)) →
    elaborate book run limit work out_run out_tail ≡ elaborate_under the_rust book run out_run out_tail

-- with the trace off: verdict, accepted steps, their visits and inferred numbers
abbrev pub TheRustsMarking : Type 0
TheRustsMarking =
    (book run : Bytes) (limit work : ℕ) →
    T (not (is_lent_or_limit (check book run limit work).verdict)) → check book run limit work ≡ mark the_rust book run

-- 'and meets definitions written from the Alethe specification and SMT-LIB's theories': every accepted step does, by
-- the specification's words or by a departure that has a name
abbrev pub MeetsAlethe : Type 0
MeetsAlethe =
    (book run : Bytes) (limit : ℕ) →
    Every (λ x. Meets Alethe.carcara (steps_of book run) x.0 x.1) (mark (limited limit) book run).steps

-- ---- and the other way round: refusals meet them too

-- the step at which a run stops
abbrev pub stops_at : Bytes → Bytes → ℕ → Step
stops_at book run limit =
    get_or (steps_of book run) (length (mark (limited limit) book run).steps) (step Assume [] [] [])

-- where Carcara refuses what the words accept, by the rule and the clause
pub data Differs (by : Alethe.Departures) : Rule → Clause → Type 0 where
  negative_equality : (phi : Term) → NegativeEquality by phi → Differs by LaTautology (phi ∷ [])
  quotient_bound : (phi : Term) → QuotientBound phi → Differs by LaTautology (phi ∷ [])
  vanishing_monomial : (phi : Term) → VanishingMonomial by phi → Differs by PolySimp (phi ∷ [])

-- where Carcara can be held against the words
pub record Comparable (by : Alethe.Departures) (r : Rule) (c : Clause) (args : List Term) : Type 0 where
  -- rule 6 is not in the specification
  pub specified : r ≡ BoundedFarkas → ⊥
  -- of rule 5 every bound after step 3 is whole and no > literal has argument 0, unless Carcara's own reading of these
  -- is granted
  pub whole : r ≡ LaGeneric → by Alethe.Departure.whole_product ⊎ WholeBounds by c
  pub nonzero :
      r ≡ LaGeneric → (qs : List Rational) → Alethe.Arguments args qs →
      by Alethe.Departure.argument_zero ⊎ NoZeroArgument by c qs

-- a step that meets its rule, by the words or whatever departures are granted, is not refused 20 to 42, but for the
-- differences named above
abbrev pub WordsAccepted : Type 1
WordsAccepted =
    (by : Alethe.Departures) (book run : Bytes) (limit : ℕ) →
    T (is_of_rule (mark (limited limit) book run).verdict) →
    let s : Step = stops_at book run limit in
    Meets by (steps_of book run) s [] → Comparable by s.rule s.clause s.args → Differs by s.rule s.clause

pub record Demand2 : Type 1 where
  pub the_rust : TheRustsAnswers
  pub marking : TheRustsMarking
  pub alethe : MeetsAlethe
  pub words : WordsAccepted

-- ---- demand 3: elaboration

-- Each of the following is 'for every book, run, limit and lent memory on which refusals 1 to 8 don't arise, wherever
-- the run stops'.

-- what was written, 'marked once more under the same limit', is 'accepted whole with nothing inferred', 'and its own
-- elaboration is the same run with an empty tail'; this needs no more than that 'no bounded_farkas step has more
-- arguments than literals'
abbrev pub SecondMarking : Type 0
SecondMarking =
    (book run : Bytes) (limit work out_run out_tail : ℕ) →
    T (not (is_lent (elaborate book run limit work out_run out_tail).verdict)) →
    Every (λ x. NoSurplus x.0) (mark (limited limit) book run).steps →
    AcceptedAgain book limit work out_run out_tail (elaborate book run limit work out_run out_tail)

-- 'Under every assignment of the right sorts that makes the assumed clauses true, every clause in it has a true
-- literal'; this needs no more than the premises on meaning: that divs come out even, and that the numbers of literals
-- whose atoms are all Int are whole
abbrev pub ClausesTrue : Type 0
ClausesTrue =
    (book run : Bytes) (limit work out_run out_tail : ℕ) →
    T (not (is_lent (elaborate book run limit work out_run out_tail).verdict)) →
    Every (λ x. MeaningPremises x.0 x.1) (mark (limited limit) book run).steps →
    (steps : List Step) → written_steps book (elaborate book run limit work out_run out_tail) ≡ Ok steps →
    EveryClauseTrue steps

-- both, where all premises hold
abbrev pub Demand3 : Type 0
Demand3 =
    (book run : Bytes) (limit work out_run out_tail : ℕ) →
    T (not (is_lent (elaborate book run limit work out_run out_tail).verdict)) →
    AllPremises (mark (limited limit) book run).steps →
    Elaboration book limit work out_run out_tail (elaborate book run limit work out_run out_tail)
