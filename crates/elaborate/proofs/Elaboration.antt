-- Demand 3 (`demand3`), from its two halves. The elaboration of the accepted steps is accepted whole when it is
-- marked again, infers nothing and is its own elaboration, where no bounded_farkas step has surplus arguments
-- (`second_marking`). And every clause in it is true where the assumed ones are, under the premises on meaning
-- (`clauses-true`).
use Rattle.runs.specs.declared.rule.Rule.{Rule}
use Rattle.runs.specs.declared.verdict.Verdict.TheVariants.{AllAccepted}
use Rattle.runs.specs.declared.rule.Rule.TheVariants.{BoundedFarkas, Assume}
use mathlib.Core.Path.{◌≡◌, refl, sym, ◌∙◌, ap, subst}
use mathlib.Core.Bool.{Bool, true, false, ◌&&◌}
use mathlib.Core.List.{List, [], ◌∷◌, ◌++◌, append_assoc, append-nil}
use Prim.Native.Nat.{ℕ, suc, ◌+◌, ◌-◌, ◌/◌, ◌%◌, ◌≤◌}
use native.Mathlib.Omega.{arith}
use borrow.Author.Tests.{le-leb, eq-eqb}
use lib.Dec.{T, eqb, leb}
use lib.ListN.{length, length-append, take, replicate}
use lib.Seq.{take-append_seam}
use Rattle.numbers.specs.Rational.{Rational}
use Rattle.numbers.specs.Bytes.{Bytes}
use Rattle.numbers.proofs.Truths.{never}
use Rattle.terms.specs.Smtlib.{Assignment, holds}
use Rattle.terms.specs.Book.{count}
use Rattle.book.proofs.Accepted.{accepted-count}
use Rattle.terms.specs.Format.{max_run_records}
use Rattle.std.specs.Prelude.{Ok}
use Rattle.rules.specs.Limits.{Limits, limited}
use Rattle.rules.proofs.Yields.{at_ok}
use Rattle.runs.specs.Rule.{is_rule}
use Rattle.runs.specs.Run.{Step, read_run, Every, end, also}
use Rattle.marking.specs.Check.{Marking, marking, mark}
use Rattle.elaborate.specs.Elaborate.{Answer, answer, add_steps, elaborate, written_part}
use Rattle.out_areas.specs.Farkas.{Written, written, add_reals, fits, tail_bytes, elaborated_rule, step_bytes}
use Rattle.marking.specs.Answers.{area}
use Rattle.elaborate.specs.Statements.{MeaningPremises, NoSurplus, written_steps, AcceptedAgain, clauses}
use Rattle.elaborate.specs.Statements.{EveryClauseTrue}
use Rattle.elaborate.specs.Demands.{SecondMarking, ClausesTrue, Demand3}
use Rattle.elaborate.proofs.EachRule.{laws}
use Rattle.out_areas.proofs.OutAreas.{Fit, fit_of, fits_of}
use Rattle.elaborate.proofs.WrittenRuns.{plain_bytes, run_bytes, AllWritable, whole_run, run-read-back}
use Rattle.elaborate.proofs.WrittenRuns.{read-writable}
use Rattle.elaborate.proofs.WrittenSteps.{elaborated_steps, steps_grow}
use Rattle.elaborate.proofs.SecondMarking.{untraced, marked-again}
use Rattle.elaborate.proofs.Truth.{AssumedTrue, AllTrue, accepted-true}
use Rattle.out_areas.proofs.RealRecord.{Lacks}
use Rattle.elaborate.proofs.TailBook.{TailOf, tail-read, tail-count}
use Rattle.elaborate.proofs.WrittenTail.{GoodTail, steps-good, no_tail-good}
use Rattle.elaborate.proofs.Storing.{steps-stored, assumes_infer_nothing}
use Rattle.elaborate.proofs.ElaboratedSteps.{Placed, steps-placed, elaborated-writable}
use Rattle.out_areas.proofs.Everywhere.{every-weaker}
use Rattle.elaborate.proofs.Unrefused.{Ran, mark_steps, steps-marked, mark_is, ran_ordered, Marked, answered}
use Rattle.elaborate.proofs.Unrefused.{unrefused, answer_is}

-- ---- the elaborated steps

module _ (b : Bytes) (t : List Rational) where
  -- what holds of the rule of every elaborated step
  every-elaborated :
      (P : Rule → Type 0) → ((r : Rule) → P (elaborated_rule r)) → (xs : List (Step × List Rational)) →
      Every (λ s. P s.rule) (elaborated_steps b t xs)
  unfolding elaborated_steps
  every-elaborated P h [] = end
  every-elaborated P h ((s, qs) ∷ xs) = also (h s.rule) (every-elaborated P h xs)

  elaborated-count : (xs : List (Step × List Rational)) → length (elaborated_steps b t xs) ≡ length xs
  unfolding elaborated_steps
  elaborated-count [] = refl
  elaborated-count (x ∷ xs) = ap suc (elaborated-count xs)

  -- ---- truth

  assumed-back :
      (ρ : Assignment) (xs : List (Step × List Rational)) →
      Every (λ s. s.rule ≡ Assume → T (holds ρ s.clause)) (elaborated_steps b t xs) →
      Every (λ x. x.0.rule ≡ Assume → T (holds ρ x.0.clause)) xs
  unfolding elaborated_steps
  assumed-back ρ [] h = end
  assumed-back ρ ((s, qs) ∷ xs) (also h hs) = also (λ e. h (ap elaborated_rule e)) (assumed-back ρ xs hs)

  elaborated-true :
      (ρ : Assignment) (xs : List (Step × List Rational)) → Every (λ x. T (holds ρ x.0.clause)) xs →
      Every (λ c. T (holds ρ c)) (clauses (elaborated_steps b t xs))
  unfolding elaborated_steps
  elaborated-true ρ [] h = end
  elaborated-true ρ ((s, qs) ∷ xs) (also h hs) = also h (elaborated-true ρ xs hs)

-- ---- steps that infer nothing and whose rule stays are written as they are

abbrev Stays : Rule → Type 0
Stays r = elaborated_rule r ≡ r

plain_step : (s : Step) → Stays s.rule → step_bytes s ≡ plain_bytes s
unfolding step_bytes plain_bytes
plain_step s h = rw h

untraced-written :
    (b : Bytes) (es : List Step) → Every (λ s. Stays s.rule) es → (w : Written) →
    add_steps b w (untraced es) ≡ written (w.run ++ run_bytes es) w.tail
unfolding add_steps add_reals run_bytes
untraced-written b [] h w = ap (λ r. written r w.tail) (sym (append-nil w.run))
untraced-written b (e ∷ es) (also h hs) w =
    untraced-written b es hs (written (w.run ++ step_bytes e) w.tail)
    ∙ ap (λ r. written r w.tail)
    (append_assoc w.run (step_bytes e) (run_bytes es) ∙ ap (λ r. w.run ++ (r ++ run_bytes es)) (plain_step e h))

-- ---- the written part of the out run

pub part-written : (n : ℕ) (r : Bytes) → length r % 4 ≡ 0 → written_part (area n r) (length r) ≡ r
unfolding written_part area
part-written n r h =
    let z : Bytes = replicate (n - length r) 0 in
    let e : (leb (length r) (length (r ++ z)) && eqb (length r % 4) 0) ≡ true =
    rw (le-leb (length r) (length (r ++ z)) (omega (arith, length-append r z))) (eq-eqb (length r % 4) 0 h) in
    ap (λ (t : Bool). elim t as (λ x. Bytes) [ true ↦ take (length r) (r ++ z) | false ↦ [] ]) e ∙ take-append_seam r z

untraced-length : (es : List Step) → length (untraced es) ≡ length es
untraced-length [] = refl
untraced-length (e ∷ es) = ap suc (untraced-length es)

-- ---- one run

module _ (book run : Bytes) (limit work out_run out_tail : ℕ) (m : Marked book run limit work out_run out_tail) where
  abbrev l : Limits
  l = limited limit

  abbrev x : Ran book run
  x = m.ran

  abbrev c : Marking
  c = mark_steps l x.steps

  abbrev w : Written
  w = add_steps book (written [] []) c.steps

  abbrev es : List Step
  es = elaborated_steps book w.tail c.steps

  abbrev b' : Bytes
  b' = book ++ tail_bytes w.tail

  good : GoodTail book w.tail
  good = steps-good book c.steps (written [] []) (steps-stored limit x) (no_tail-good book)

  fitting : Fit book out_run out_tail w
  fitting = fit_of m.fit

  counted : x.records ≡ count book
  counted = accepted-count book x.records x.read

  tail_of : TailOf book x.records w.tail
  tail_of =
      record {
        storable = good.storable;
        lacks = subst (λ n. Every (Lacks book n) w.tail) (sym counted) good.lacks;
        differ = good.differ;
        room = omega (arith, counted, fitting.book);
      }

  run_is : w.run ≡ run_bytes es
  run_is =
      (steps_grow book c.steps (written [] [])).run []
      ∙ ap (λ t. run_bytes (elaborated_steps book t c.steps)) (append-nil w.tail)

  placed : Every (λ x. Every (Placed book w.tail) x.1) c.steps
  placed =
      subst (λ t. Every (λ x. Every (Placed book t) x.1) c.steps) (append-nil w.tail)
      (steps-placed book c.steps (written [] []) [])

  writable : AllWritable b' 0 es
  writable =
      elaborated-writable book x.records x.read w.tail tail_of
      (steps-marked l x.steps)
      (at_ok (read-writable book run) x.ran) placed (assumes_infer_nothing limit x)

  read_back : read_run b' (run_bytes es) ≡ Ok es
  read_back = run-read-back b' es writable (subst (λ r. length r / 4 ≤ max_run_records) run_is fitting.records)

  read-written : read_run b' w.run ≡ Ok es
  read-written = subst (λ r. read_run b' r ≡ Ok es) (sym run_is) read_back

  -- ---- the second marking

  module _ (g : Every (λ x. NoSurplus x.0) (mark l book run).steps) where
    no_surplus_lem : Every (λ x. NoSurplus x.0) c.steps
    no_surplus_lem = subst (λ (y : Marking). Every (λ z. NoSurplus z.0) y.steps) (mark_is x l) g

    remarked : mark_steps l es ≡ marking AllAccepted (untraced es) c.visits
    remarked = marked-again book w.tail l x.steps (ran_ordered x) no_surplus_lem

    fits-again : fits b' out_run out_tail (written (run_bytes es) []) ≡ true
    fits-again =
        let tails = tail-count book x.records x.read w.tail tail_of in
        fits_of
        record {
          run = subst (λ r. length r ≤ out_run) run_is fitting.run;
          tail = omega arith;
          book = omega (arith, tails, counted, fitting.book);
          records = subst (λ r. length r / 4 ≤ max_run_records) run_is fitting.records;
        }

    written-again : add_steps b' (written [] []) (untraced es) ≡ written (run_bytes es) []
    written-again =
        untraced-written b' es
        (every-elaborated book w.tail Stays (λ r. (laws r [] [] []).infers.stays) c.steps) (written [] [])

    second : Marked b' (run_bytes es) limit work out_run out_tail
    second =
        record {
          lent = m.lent;
          ran =
              record {
                records = x.records + length w.tail;
                steps = es;
                read = tail-read book x.records x.read w.tail tail_of;
                ran = read_back;
              };
          fit =
              ap (λ (x : Marking). fits b' out_run out_tail (add_steps b' (written [] []) x.steps)) remarked
              ∙ ap (fits b' out_run out_tail) written-again
              ∙ fits-again;
        }

    again :
        elaborate b' (run_bytes es) limit work out_run out_tail
        ≡ answer AllAccepted (length c.steps) c.visits (run_bytes es) []
    unfolding tail_bytes second
    again =
        answer_is second
        ∙ ap (answered b' out_run out_tail) remarked
        ∙ rw (written-again, untraced-length es, elaborated-count book w.tail c.steps)

    shown : written_part (area out_run w.run) (length w.run) ≡ run_bytes es
    shown =
        part-written out_run w.run (subst (λ r. length r % 4 ≡ 0) (sym run_is) (whole_run es))
        ∙ run_is

    elaboration-marked : AcceptedAgain book limit work out_run out_tail (elaborate book run limit work out_run out_tail)
    elaboration-marked =
        subst (AcceptedAgain book limit work out_run out_tail) (sym (answer_is m))
        record {
          again =
              ap (λ r. elaborate b' r limit work out_run out_tail) shown
              ∙ again
              ∙ ap (λ r. answer AllAccepted (length c.steps) c.visits r []) (sym run_is);
          steps = es;
          read = read-written;
          count = elaborated-count book w.tail c.steps;
          no_rule6 = every-elaborated book w.tail (λ r. r ≡ BoundedFarkas → ⊥)
              (λ r e. never (sym (laws r [] [] []).infers.not_farkas ∙ ap (is_rule BoundedFarkas) e)) c.steps;
        }

  -- ---- truth

  module _ (g : Every (λ x. MeaningPremises x.0 x.1) (mark l book run).steps) where
    steps-true : EveryClauseTrue es
    steps-true ρ a =
        let e = mark_is x l in
        elaborated-true book w.tail ρ c.steps
        (subst (λ (y : Marking). AllTrue ρ y.steps) e
        (accepted-true book run limit ρ g
        (subst (λ (y : Marking). AssumedTrue ρ y.steps) (sym e) (assumed-back book w.tail ρ c.steps a))))

    -- what is read of the answer are these steps
    elaboration-true :
        (ss : List Step) → written_steps book (elaborate book run limit work out_run out_tail) ≡ Ok ss → EveryClauseTrue ss
    elaboration-true ss e =
        let read = subst (λ (a : Answer). written_steps book a ≡ Ok ss) (answer_is m) e in
        let same : es ≡ ss = cc read-written in
        subst EveryClauseTrue same steps-true

-- ---- the demand

pub second_marking : SecondMarking
second_marking book run limit work out_run out_tail h =
    elaboration-marked book run limit work out_run out_tail (unrefused book run limit work out_run out_tail h)

pub clauses-true : ClausesTrue
clauses-true book run limit work out_run out_tail h =
    elaboration-true book run limit work out_run out_tail (unrefused book run limit work out_run out_tail h)

pub demand3 : Demand3
demand3 book run limit work out_run out_tail h g =
    let marked = second_marking book run limit work out_run out_tail h (every-weaker (λ x p. p.no_surplus) _ g) in
    record {
      marked = marked;
      truth =
          clauses-true book run limit work out_run out_tail h (every-weaker (λ x p. p.meaning) _ g) marked.steps
          marked.read;
    }
