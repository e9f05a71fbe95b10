-- Under every assignment that makes the assumed clauses true, the clause of every accepted step has a true literal,
-- where demand 3's premises on meaning hold (`accepted-true`). A step that meets its rule is true where the clauses
-- that it names are, as its rule's laws say, and it names earlier steps alone, since refusal 7 tests that.
use Rattle.runs.specs.declared.rule.Rule.TheVariants.{Assume}
use mathlib.Core.Path.{◌≡◌, refl, sym, ◌∙◌, ap, subst}
use mathlib.Core.List.{List, [], ◌∷◌, ◌++◌, append_assoc}
use Prim.Native.Nat.{ℕ, suc, ◌<◌}
use native.Mathlib.Omega.{arith}
use lib.Dec.{T}
use lib.ListN.{length, length-append, get_or, get_or-append}
use Rattle.numbers.specs.Rational.{Rational}
use Rattle.numbers.specs.Bytes.{Bytes}
use Rattle.terms.specs.Smtlib.{Assignment, holds}
use Rattle.book.proofs.BookTerms.{OfBook}
use Rattle.rules.specs.Limits.{Limits, limited}
use Rattle.rules.specs.Shapes.{Clause}
use Rattle.alethe.specs.Alethe.{carcara}
use Rattle.linear_theory.proofs.Arguments.{EachLowest}
use Rattle.runs.specs.Run.{Step, Every, steps_of, end, also}
use Rattle.steps.specs.CheckStep.{clauses_of}
use Rattle.marking.specs.Check.{Marking, mark}
use Rattle.marking.proofs.Turns.{Marks, ends, stops, goes_on}
use Rattle.elaborate.specs.Statements.{MeaningPremises}
use Rattle.elaborate.specs.Demands.{Meets}
use Rattle.elaborate.proofs.EachRule.{laws}
use Rattle.out_areas.proofs.Everywhere.{every-both, every_append, every_at}
use Rattle.elaborate.proofs.Meeting.{meets-alethe}
use Rattle.out_areas.proofs.RealRecord.{Storable}
use Rattle.elaborate.proofs.RunTerms.{Ordered, one, StepOf, no_such_step}
use Rattle.elaborate.proofs.Storing.{steps-stored}
use Rattle.elaborate.proofs.Unrefused.{Ran, Reads, mark_steps, steps-marked, mark_is, reads, listed, ran_of_book}
use Rattle.elaborate.proofs.Unrefused.{ran_ordered, known_in}
use Rattle.elaborate.proofs.Unrefused.Reads.{not-read, is_read}

-- the clauses of the accepted steps, under an assignment
abbrev pub AssumedTrue : Assignment → List (Step × List Rational) → Type 0
AssumedTrue ρ = Every (λ x. x.0.rule ≡ Assume → T (holds ρ x.0.clause))

abbrev pub AllTrue : Assignment → List (Step × List Rational) → Type 0
AllTrue ρ = Every (λ x. T (holds ρ x.0.clause))

-- what is known of an accepted step: it meets its rule, what it infers can be stored, the premises on its meaning hold
record Sound (run : List Step) (s : Step) (inferred : List Rational) : Type 0 where
  meets : Meets carcara run s inferred
  stored : Every Storable inferred
  meaning : MeaningPremises s inferred

lowest_of : (qs : List Rational) → Every Storable qs → EachLowest qs
lowest_of [] end = tt
lowest_of (q ∷ qs) (also h hs) = (h.lowest, lowest_of qs hs)

one_longer : (before : List Step) (s : Step) → suc (length before) ≡ length (before ++ s ∷ [])
one_longer before s = let e = length-append before (s ∷ []) in omega (arith, e)

-- ---- the steps in turn

module _ {book run : Bytes} (x : Ran book run) (ρ : Assignment) where
  abbrev True : Clause → Type 0
  True c = T (holds ρ c)

  abbrev Known : Step → Type 0
  Known = StepOf (OfBook book x.records)

  step-true :
      (s : Step) (inferred : List Rational) → Known s → Sound x.steps s inferred →
      (s.rule ≡ Assume → True s.clause) → Every True (clauses_of x.steps s.premises) → True s.clause
  step-true s inferred h g a ps =
      (laws s.rule _ s.clause s.args).sound (known_in x s h) inferred (lowest_of inferred g.stored)
      record { even_divs = g.meaning.even_divs; whole = g.meaning.whole } g.meets ρ a ps

  -- earlier steps are true
  earlier-true :
      (before : List Step) → Every (λ s. True s.clause) before → (rest : List Step) → x.steps ≡ before ++ rest →
      (ps : List ℕ) → Every (λ p. p < length before) ps → Every True (clauses_of x.steps ps)
  unfolding clauses_of
  earlier-true before h rest e [] g = end
  earlier-true before h rest e (p ∷ ps) (also g gs) =
      let d = no_such_step in
      let f : get_or x.steps p d ≡ get_or before p d = ap (λ r. get_or r p d) e ∙ get_or-append before rest d p g in
      also (subst (λ s. True s.clause) (sym f) (every_at before d h p g)) (earlier-true before h rest e ps gs)

  -- the accepted steps are true where they are sound and the assumed ones are true
  abbrev Follow : Marking → Type 0
  Follow m =
      Every (λ y. Sound x.steps y.0 y.1) m.steps → AssumedTrue ρ m.steps → AllTrue ρ m.steps

  steps-true :
      {l : Limits} {ss : List Step} {n : ℕ} {m : Marking} → Marks l x.steps ss n m → (before : List Step) →
      Every (λ s. True s.clause) before → x.steps ≡ before ++ ss → Ordered (length before) ss → Every Known ss →
      Follow m
  steps-true ends before h e o hs ms fs = end
  steps-true (stops y) before h e o hs ms fs = end
  steps-true (goes_on {s = s} {ss = ss} {a = a} y rest) before h e (one ps o) (also g hs) (also m ms) (also f fs) =
      let t = step-true s a.inferred g m f (earlier-true before h (s ∷ ss) e s.premises ps) in
      also t
      (steps-true rest (before ++ s ∷ []) (every_append before (s ∷ []) h (also t end))
      (e ∙ sym (append_assoc before (s ∷ []) ss)) (subst (λ k. Ordered k ss) (one_longer before s) o) hs ms fs)

-- ---- a run

module _ (book run : Bytes) (limit : ℕ) (ρ : Assignment) where
  abbrev Implies : List Step → Marking → Type 0
  Implies ss m =
      Every (λ x. Meets carcara ss x.0 x.1) m.steps → Every (λ x. MeaningPremises x.0 x.1) m.steps →
      AssumedTrue ρ m.steps → AllTrue ρ m.steps

  run-true : (x : Ran book run) → Implies x.steps (mark_steps (limited limit) x.steps)
  run-true x ms gs fs =
      steps-true x ρ (steps-marked (limited limit) x.steps) [] end refl (ran_ordered x) (ran_of_book x)
      (every-both {Q = λ y. Every Storable y.1 × MeaningPremises y.0 y.1}
      (λ y m k. record { meets = m; stored = k.0; meaning = k.1 }) _ ms
      (every-both (λ y h g. (h, g)) _ (steps-stored limit x) gs))
      fs

  accepted : Reads book run → Implies (steps_of book run) (mark (limited limit) book run)
  accepted (not-read r e) = rw (e (limited limit)) (λ ms gs fs. end)
  accepted (is_read x) = rw (listed x, mark_is x (limited limit)) (run-true x)

  pub accepted-true :
      Every (λ x. MeaningPremises x.0 x.1) (mark (limited limit) book run).steps →
      AssumedTrue ρ (mark (limited limit) book run).steps → AllTrue ρ (mark (limited limit) book run).steps
  accepted-true = accepted (reads book run) (meets-alethe book run limit)
