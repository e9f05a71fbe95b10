-- `elaborate_step`: the step's own records are written first, then the step is checked.
--     six_stepped       rule 6: `bounded_farkas` goes on from there, with each number that it infers
--     other_refused, other_stepped       the other rules infer nothing, so what is written is the step
use Rattle.runs.specs.declared.rule.Rule.TheVariants.{BoundedFarkas}
use Rattle.rules.specs.Refusal.{Result}
use mathlib.Core.Path.{◌≡◌, refl, sym, ap, subst, ◌∙◌}
use mathlib.Core.Bool.{Bool, true, false}
use mathlib.Core.List.{List, [], ◌∷◌, ◌++◌}
use Prim.Native.Nat.{ℕ, ◌≤◌}
use native.Mathlib.Omega.{arith}
use lib.ListN.{length}
use Rattle.numbers.specs.Rational.{Rational}
use Rattle.numbers.specs.Bytes.{Bytes}
use Rattle.rules.specs.Limits.{limited}
use Rattle.linear_arithmetic.specs.LinearArithmetic.{la_generic_partial}
use Rattle.rules.specs.Memory.Parts.{terms_in}
use Rattle.rules.specs.declared.refusal.Refusal.{Refusal}
use Rattle.rules.proofs.Yields.{at_ok}
use Rattle.std.specs.Prelude.{Ok, Err}
use denote.Enum.Bare.{sameb}
use Rattle.runs.specs.contracts.rule.Rule.{the_type}
use Rattle.runs.specs.declared.rule.Rule.{Rule}
use Rattle.runs.specs.Rule.{is_rule}
use Rattle.runs.specs.Run.{Step}
use Rattle.steps.specs.CheckStep.{Accepted, traced, check_rule, check_step}
use Rattle.out_areas.specs.Farkas.{Written, add_reals, fits}
use Rattle.runs.specs.Memory.StepParts.{clause_in, args_in, rule_in, step_in}
use Rattle.runs.proofs.Rules.{same-rule}
use Rattle.out_areas.specs.Memory.OutAreas.{Holds, Writing, more, more_real, more_reals, Lies, WritesOne, with_step}
use Rattle.farkas.specs.Memory.FarkasSteps.{farkas_numbers, step_numbers, more_step, SteppedIs, over}
use Rattle.farkas.specs.Memory.FarkasSteps.{Leaves, SteppedLeft}
use Rattle.steps.specs.Memory.StepAnswers.{visits_after}
use Rattle.out_areas.specs.declared.out_areas.Out.{Out}
use Rattle.out_areas.proofs.OutAreas.{fronts-then, further}
use Rattle.out_areas.proofs.AddedReals.{real_runs}
use Rattle.farkas.proofs.NothingInferred.{infers-nothing}
use Rattle.farkas.proofs.TracedFold.{refused-leaves, accepted-leaves}
use Rattle.steps.proofs.StepVerdicts.{refused_as, accepted-as}

-- the run does not become shorter
reals_runs :
    (f : Written → Bool) (b : Bytes) (qs : List Rational) (s : Writing) →
    length s.done.run ≤ length (more_reals f b qs s).done.run
unfolding more_reals
reals_runs f b [] s = omega arith
reals_runs f b (q ∷ qs) s = omega (arith, real_runs b q f s, reals_runs f b qs (more_real f b q s))

-- the test of equality with the rule 6
farkas-by : (r : Rule) → sameb the_type r BoundedFarkas ≡ is_rule BoundedFarkas r
farkas-by BoundedFarkas = refl
farkas-by r = refl

pub is_farkas :
    (part : Bytes) {r : Rule} {t : Bool} → r ≡ rule_in part → t ≡ sameb the_type r BoundedFarkas →
    is_rule BoundedFarkas (rule_in part) ≡ t
is_farkas part {r} r-is e = ap (is_rule BoundedFarkas) (sym r-is) ∙ sym (e ∙ farkas-by r)

module _ (b part : Bytes) (run : List Step) (l v : ℕ) where
  module _ (six : is_rule BoundedFarkas (rule_in part) ≡ true) where
    six_rule : rule_in part ≡ BoundedFarkas
    six_rule = sym (same-rule BoundedFarkas (rule_in part) six)

    six_checks :
        check_step (limited l) run (step_in b part) v ≡
        traced (la_generic_partial (limited l) (terms_in b (clause_in part)) (terms_in b (args_in part)) v)
    unfolding check_step check_rule step_in
    six_checks = rw six_rule

    -- the numbers of the step
    six_numbers :
        step_numbers (limited l) (step_in b part) v ≡
        farkas_numbers (limited l) (terms_in b (clause_in part)) (terms_in b (args_in part)) v
    unfolding step_numbers step_in
    six_numbers = rw six_rule

  no_numbers : is_rule BoundedFarkas (rule_in part) ≡ false → step_numbers (limited l) (step_in b part) v ≡ []
  unfolding step_numbers step_in
  no_numbers other = rw (other, step_numbers)

  -- `add_step` left the out run o' with the counts longer
  module _
      {o t : Bytes} {out : Out} {o' : Bytes} {longer : Out}
      (added : WritesOne b o t out o' t longer (with_step (step_in b part))) where
    abbrev takes : Written → Bool
    takes = fits b (length o) (length t)

    abbrev begun : Writing → Writing
    begun = more takes (with_step (step_in b part))

    -- what the step leaves, with the numbers qs
    abbrev Left : Bytes → Bytes → Result (ℕ × Out) → List Rational → Writing → Type 0
    Left o'' t'' r qs s = Leaves o t o'' t'' r (more_reals takes b qs (begun s))

    left_six :
        {o'' t'' : Bytes} {r : Result (ℕ × Out)} (qs : List Rational) →
        ((s : Writing) → Lies b o' t longer s →
        Leaves o' t o'' t'' r (more_reals (fits b (length o') (length t)) b qs s)) →
        (s : Writing) → Lies b o t out s → Left o'' t'' r qs s
    unfolding over
    left_six {o''} {t''} {r} qs leaves s h =
        let lies = added.lies s h in
        let z : Writing = more_reals takes b qs (begun s) in
        let left : Leaves o' t o'' t'' r z =
        subst (λ n. Leaves o' t o'' t'' r (more_reals (fits b n (length t)) b qs (begun s))) added.run_length
        (leaves (begun s) lies)
        in
        let more : longer.run ≤ length z.done.run =
        omega (arith, lies.stored.run_size, reals_runs takes b qs (begun s))
        in
        record {
          run = left.run ∙ ap (λ y. z.done.run ++ y) (further o o' more added.backs.run);
          tail = left.tail;
          counts = left.counts;
        }

    pub six_stepped :
        is_rule BoundedFarkas (rule_in part) ≡ true → {literals args : Bytes} → literals ≡ clause_in part →
        args ≡ args_in part → {o'' t'' : Bytes} {r : Result (ℕ × Out)} →
        SteppedLeft b o' t longer o'' t'' r (λ w. w)
        (more_reals (fits b (length o') (length t)) b
        (farkas_numbers (limited l) (terms_in b literals) (terms_in b args) v))
        (traced (la_generic_partial (limited l) (terms_in b literals) (terms_in b args) v)) →
        SteppedLeft b o t out o'' t'' r (with_step (step_in b part))
        (more_step b (length o) (length t) (step_in b part) l v) (check_step (limited l) run (step_in b part) v)
    six_stepped six {literals} {args} c-is a-is {o''} {t''} {r} left =
        let same :
        traced (la_generic_partial (limited l) (terms_in b literals) (terms_in b args) v) ≡
        check_step (limited l) run (step_in b part) v =
        rw (c-is, a-is) (sym (six_checks six))
        in
        let numbers :
        farkas_numbers (limited l) (terms_in b literals) (terms_in b args) v ≡
        step_numbers (limited l) (step_in b part) v =
        rw (c-is, a-is) (sym (six_numbers six))
        in
        record {
          fronts = fronts-then added.fronts added.grows left.fronts;
          is = λ w h.
              subst (SteppedIs b o'' t'' r (with_step (step_in b part) w)) same
              (left.is (with_step (step_in b part) w) (added.holds w h));
          left = λ s h. subst (λ qs. Left o'' t'' r qs s) numbers (left_six _ left.left s h);
        }

    module _ (other : is_rule BoundedFarkas (rule_in part) ≡ false) where
      abbrev D : Result Accepted
      D = check_step (limited l) run (step_in b part) v

      -- nothing more is written
      other-left :
          {r : Result (ℕ × Out)} →
          ((s : Writing) → Lies b o' t longer s → Leaves o t o' t r s) → (s : Writing) → Lies b o t out s →
          Left o' t r (step_numbers (limited l) (step_in b part) v) s
      unfolding more_reals
      other-left {r} leaves s h =
          subst (λ qs. Left o' t r qs s) (sym (no_numbers other)) (leaves (begun s) (added.lies s h))

      pub other_refused :
          {r : Refusal} → Err r ≡ visits_after D →
          SteppedLeft b o t out o' t (Err r) (with_step (step_in b part))
          (more_step b (length o) (length t) (step_in b part) l v) D
      other_refused {r} e =
          record {
            fronts = added.fronts;
            is = λ w h. refused_as (λ a. a.visits) D e;
            left = other-left (λ s lies. refused-leaves lies added.backs r);
          }

      pub other_stepped :
          {n : ℕ} → Ok n ≡ visits_after D →
          SteppedLeft b o t out o' t (Ok (n, longer)) (with_step (step_in b part))
          (more_step b (length o) (length t) (step_in b part) l v) D
      unfolding add_reals step_in
      other_stepped {n} e =
          let a = accepted-as (λ a. a.visits) D e in
          let none = at_ok (infers-nothing (limited l) run (step_in b part) v other) a.1.0 in
          record {
            fronts = added.fronts;
            is = λ w h. (
              a.0,
              (
                a.1.0,
                (
                  a.1.1,
                  subst (λ qs. Holds b o' t longer (add_reals b (with_step (step_in b part) w) qs)) (sym none)
                      (added.holds w h),
                ),
              ),
            );
            left = other-left (λ s lies. accepted-leaves lies added.backs n);
          }
