-- What the demands say of one call: of the lent memory, of the premises on the accepted steps, and of the elaboration.
-- Each part is commented with the sentence that it renders. Contracts cite these statements; Demands makes them of all
-- calls.
use Rattle.runs.specs.declared.verdict.LentRefusal.{LentRefusal}
use Rattle.runs.specs.declared.verdict.Verdict.TheVariants.{AllAccepted}
use Rattle.runs.specs.declared.rule.Rule.TheVariants.{BoundedFarkas, LaGeneric, Assume}
use Rattle.std.specs.Prelude.{◌≡◌, ◌&&◌, ◌||◌, List, [], ◌∷◌, ◌++◌, ℕ, ◌-◌, ◌≤◌, T, length, replicate}
use Rattle.numbers.specs.Rational.{Rational}
use Rattle.numbers.specs.Bytes.{Bytes}
use Rattle.terms.specs.Smtlib.{Assignment, holds}
use Rattle.std.specs.Prelude.{Result, Ok}
use Rattle.rules.specs.Shapes.{Clause}
use Rattle.linear_theory.specs.Premises.{all_even, whole_literals}
use Rattle.runs.specs.Verdict.{is_lent}
use Rattle.runs.specs.Rule.{is_rule}
use Rattle.runs.specs.Run.{Step, read_run, Every}
use Rattle.marking.specs.Answers.{area, zeros}
use Rattle.elaborate.specs.Elaborate.{Answer, answer, elaborate, written_part}
use Rattle.elaborate.specs.LentMemory.{Memory}

-- ---- demand 1: memory

-- 'a known state': m is lent, `after` what lies there afterwards, and a the answer
pub record KnownState (m after : Memory) (a : Answer) : Type 0 where
  -- 'book and run unchanged'
  pub book : after.book ≡ m.book
  pub run : after.run ≡ m.run
  -- 'work area all zero'
  pub work : after.work ≡ zeros m.work
  -- 'each out area its answer and then zeros', and as long as it was
  pub out_run : after.out_run ≡ a.run ++ replicate (length m.out_run - length a.run) 0
  pub out_tail : after.out_tail ≡ a.tail ++ replicate (length m.out_tail - length a.tail) 0
  pub run_length : length after.out_run ≡ length m.out_run
  pub tail_length : length after.out_tail ≡ length m.out_tail
  -- 'or only zeros on refusals 1 to 8'
  pub refused_run : T (is_lent a.verdict) → after.out_run ≡ zeros m.out_run
  pub refused_tail : T (is_lent a.verdict) → after.out_tail ≡ zeros m.out_tail

-- ---- demand 3's premises on the accepted steps

-- what the truth of its clause needs
pub record MeaningPremises (s : Step) (inferred : List Rational) : Type 0 where
  -- 'each div of two written numbers with a nonzero divisor comes out even'
  pub even_divs : T (all_even s.clause && all_even s.args)
  -- 'in la_generic and bounded_farkas each literal whose atoms, after cancelling, are all Int has whole coefficients
  -- and a whole argument, given or inferred'
  pub whole :
      T (is_rule LaGeneric s.rule || is_rule BoundedFarkas s.rule) →
      T (whole_literals s.clause s.args inferred)

-- what its second marking needs: 'no bounded_farkas step has more arguments than literals'
abbrev pub NoSurplus : Step → Type 0
NoSurplus s = s.rule ≡ BoundedFarkas → length s.args ≤ length s.clause

pub record Premises (s : Step) (inferred : List Rational) : Type 0 where
  pub meaning : MeaningPremises s inferred
  pub no_surplus : NoSurplus s

abbrev pub AllPremises : List (Step × List Rational) → Type 0
AllPremises = Every (λ x. Premises x.0 x.1)

-- ---- demand 3: elaboration

abbrev pub clauses : List Step → List Clause
clauses [] = []
clauses (s ∷ ss) = s.clause ∷ clauses ss

-- 'the assumed clauses are those of the accepted assume steps'
abbrev pub AssumedTrue : Assignment → List Step → Type 0
AssumedTrue ρ = Every (λ s. s.rule ≡ Assume → T (holds ρ s.clause))

-- the steps that an answer wrote: 'book, then tail, is the elaborated run's book'
abbrev pub written_steps : Bytes → Answer → Result (List Step) LentRefusal
written_steps book a = read_run (book ++ a.tail) a.run

-- the second marking of what an answer wrote
pub record AcceptedAgain (book : Bytes) (limit work out_run out_tail : ℕ) (a : Answer) : Type 0 where
  -- 'marked once more under the same limit' over book and tail, with areas as large and of any content: 'accepted
  -- whole with nothing inferred: verdict 0, exactly the accepted steps and visits of the first marking', 'and its own
  -- elaboration is the same run with an empty tail'
  pub again :
      elaborate (book ++ a.tail) (written_part (area out_run a.run) (length a.run)) limit work out_run out_tail
      ≡ answer AllAccepted a.steps a.visits a.run []
  -- its steps
  pub steps : List Step
  pub read : written_steps book a ≡ Ok steps
  pub count : length steps ≡ a.steps
  -- 'it holds no rule 6'
  pub no_rule6 : Every (λ s. s.rule ≡ BoundedFarkas → ⊥) steps

-- 'Under every assignment of the right sorts that makes the assumed clauses true, every clause in it has a true
-- literal'
abbrev pub EveryClauseTrue : List Step → Type 0
EveryClauseTrue steps = (ρ : Assignment) → AssumedTrue ρ steps → Every (λ c. T (holds ρ c)) (clauses steps)

pub record Elaboration (book : Bytes) (limit work out_run out_tail : ℕ) (a : Answer) : Type 0 where
  pub marked : AcceptedAgain book limit work out_run out_tail a
  pub truth : EveryClauseTrue marked.steps
