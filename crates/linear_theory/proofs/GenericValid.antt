-- A clause that is a la_generic step in the wording of the Alethe specification, with argument 0 as Carcara has it
-- and whichever other departures, has a true literal under every assignment (`la_generic-valid`): if every literal
-- were false, the sum of the lines' constraints would hold, which 0 refutes. Demand 3's premise on whole numbers is
-- what it asks of the coefficients (`whole-lines`), so the steps of rules 5 and 6 that meet the specification are
-- true (`generic_step-valid`, `bounded_farkas_valid`).
use mathlib.Core.Path.{◌≡◌, refl, sym, ◌∙◌, ap, subst}
use mathlib.Core.Bool.{Bool, true, false}
use mathlib.Core.List.{List, [], ◌∷◌, ◌++◌, append-nil}
use Prim.Native.Nat.{ℕ}
use native.Mathlib.Omega.{arith}
use lib.Dec.{T}
use lib.ListN.{length}
use Rattle.numbers.specs.Rational.{Rational}
use Rattle.terms.specs.Term.{Term}
use Rattle.terms.specs.Smtlib.{Assignment, holds, divs_even}
use Rattle.numbers.proofs.Truths.{both}
use Rattle.numbers.proofs.Quotient.{ℚ}
use Rattle.book.proofs.BookTerms.{Closed, closed_and, even-below}
use Rattle.rules.specs.Limits.{the_rust}
use Rattle.linear_theory.specs.Premises.{all_even, whole_literal, whole_literals}
use Rattle.alethe.specs.AletheTerms.{Departure, Departures, carcara}
use Rattle.alethe.specs.Alethe as Alethe
use Rattle.alethe.specs.Alethe.{Clause, Valid, Relation, all_terms, sum_bound, LaGeneric, Arguments, BoundedFarkas}
use Rattle.alethe.specs.Alethe.{completed, surplus_arguments, WholeLine, WholeLines, also}
use Rattle.linear_theory.proofs.NormalForms.{normal-all_int, normal-whole}
use Rattle.linear_theory.proofs.Disequalities.{operator_of, states-agree, states-answered}
use Rattle.alethe.proofs.Signs.{nonneg_of_positive}
use Rattle.linear_theory.proofs.Says.{Says, of_nonneg, of_positive}
use Rattle.linear_theory.proofs.LiteralSteps.{literal-whole}
use Rattle.linear_theory.proofs.Arguments.{EachOf, EachLowest, whole_numbers, whole_numbers_lem, each-even}
use Rattle.linear_theory.proofs.Arguments.{arguments-lowest}
use Rattle.alethe.proofs.ConstraintLaws.{Fits, same, raised, joins-fit, lines-length}
use Rattle.linear_theory.proofs.AtZero.{refuted_at_zero}
use Rattle.linear_theory.proofs.LinesHold.{lines_hold}

-- ---- the relation of the sum

says-weaker : {r s : Relation} {x : ℚ} → Fits r s → Says (operator_of s) x → Says (operator_of r) x
says-weaker (same r) h = h
says-weaker raised (of_positive h) = of_nonneg (nonneg_of_positive _ h)

-- ---- numbers in lowest terms

append_lowest : (qs rs : List Rational) → EachLowest qs → EachLowest rs → EachLowest (qs ++ rs)
append_lowest [] rs ls ms = ms
append_lowest (q ∷ qs) rs (l, ls) ms = (l, append_lowest qs rs ls ms)

lowest-before : (qs rs : List Rational) → EachLowest (qs ++ rs) → EachLowest qs
lowest-before [] rs ls = tt
lowest-before (q ∷ qs) rs (l, ls) = (l, lowest-before qs rs ls)

-- ---- the theorem

module _ {P : Term → Type 0} (closed : Closed P) where
  module _ (even : (t : Term) → P t → divs_even t ≡ true) (by : Departures) (granted : by Departure.argument_zero) where
    not_all_false : (c : Clause) → EachOf P c → (qs : List Rational) → EachLowest qs → WholeLines by c qs →
        LaGeneric by c qs → (ρ : Assignment) → holds ρ c ≡ false → ⊥
    not_all_false c ps qs ls ws g ρ e =
        let ks = g.constraints in
        let h = lines_hold closed even ρ by granted ps ls ws g.lines e in
        refuted_at_zero closed (all_terms ks) h.entries g.cancels g.relation (sum_bound ks) h.lowest
        g.contradiction ρ (says-weaker (joins-fit g.joins) h.says)

module _ {P : Term → Type 0} (closed : Closed P) where
  pub la_generic-valid : (by : Departures) → by Departure.argument_zero → (c : Clause) → EachOf P c → all_even c ≡ true →
      (qs : List Rational) → EachLowest qs → WholeLines by c qs → LaGeneric by c qs → Valid c
  la_generic-valid by granted c ps even qs ls ws g ρ = go (holds ρ c) refl
    where
      go : (b : Bool) → holds ρ c ≡ b → T b
      go true e = tt
      go false e =
          not_all_false (closed_and closed even-below) (λ t k. k.1) by granted c (each-even P c ps even) qs ls ws g ρ e

  -- ---- the premise on whole numbers

  whole-line : (by : Departures) (phi : Term) → P phi → (a : Rational) → whole_literal phi a ≡ true → WholeLine by phi a
  whole-line by phi p a w k h i =
      let (d, answered) = states-answered closed phi p by k h 0 in
      let agrees = states-agree closed phi p by k h the_rust 0 d answered in
      let m = d.sum.entries in
      let whole =
      literal-whole the_rust phi 0 d answered a w
      (normal-all_int closed k.terms agrees.entries m agrees.normal ∙ i) in
      (normal-whole closed k.terms agrees.entries m agrees.normal whole.0, λ b. whole.1)

  -- the literals take the first of the numbers given and inferred
  whole-taken : (by : Departures) (c : Clause) → EachOf P c → (taken rest qs inferred : List Rational) →
      taken ++ rest ≡ qs ++ inferred → length taken ≡ length c → whole_numbers c qs inferred ≡ true →
      WholeLines by c taken
  unfolding whole_numbers
  whole-taken by [] ps [] rest qs inferred e n w = Alethe.end
  whole-taken by [] ps (a ∷ taken) rest qs inferred e n w = absurd (omega arith)
  whole-taken by (phi ∷ c) ps [] rest qs inferred e n w = absurd (omega arith)
  whole-taken by (phi ∷ c) (p, ps) (a ∷ taken) rest (q ∷ qs) inferred e n w =
      let b = both (whole_literal phi q) _ w in
      let same : q ≡ a = cc in
      also (subst (WholeLine by phi) same (whole-line by phi p q b.0))
      (whole-taken by c ps taken rest qs inferred (cc) (omega arith) b.1)
  whole-taken by (phi ∷ c) (p, ps) (a ∷ taken) rest [] (q ∷ inferred) e n w =
      let b = both (whole_literal phi q) _ w in
      let same : q ≡ a = cc in
      also (subst (WholeLine by phi) same (whole-line by phi p q b.0))
      (whole-taken by c ps taken rest [] inferred (cc) (omega arith) b.1)
  whole-taken by (phi ∷ c) ps (a ∷ taken) rest [] [] e n w = let z : ◌≡◌ {A = ℕ} 0 1 = cc in absurd (omega arith)

  pub whole-lines : (by : Departures) (c : Clause) → EachOf P c → (args : List Term) (qs : List Rational) →
      Arguments args qs → (inferred : List Rational) → whole_literals c args inferred ≡ true →
      (taken rest : List Rational) →
      taken ++ rest ≡ qs ++ inferred → length taken ≡ length c → WholeLines by c taken
  whole-lines by c ps args qs h inferred w taken rest e n =
      whole-taken by c ps taken rest qs inferred e n
      (sym (whole_numbers_lem c inferred h) ∙ w)

  -- ---- the steps of rules 5 and 6

  module _ (c : Clause) (ps : EachOf P c) (even : all_even c ≡ true) (args : List Term) (as-of-P : EachOf P args) where
    pub bounded_farkas_valid : (inferred : List Rational) → EachLowest inferred → whole_literals c args inferred ≡ true →
        BoundedFarkas carcara c args inferred → Valid c
    bounded_farkas_valid inferred ls w (completed qs h g) =
        la_generic-valid carcara tt c ps even (qs ++ inferred)
        (append_lowest qs inferred (arguments-lowest closed args as-of-P qs h) ls)
        (whole-lines carcara c ps args qs h inferred w (qs ++ inferred) [] (append-nil (qs ++ inferred))
        (lines-length g.lines))
        g
    bounded_farkas_valid inferred ls w (surplus_arguments b qs surplus h e g) =
        let all = qs ++ surplus in
        la_generic-valid carcara tt c ps even qs (lowest-before qs surplus (arguments-lowest closed args as-of-P all h))
        (whole-lines carcara c ps args all h inferred w qs surplus (sym (append-nil all) ∙ ap (◌++◌ all) (sym e))
        (lines-length g.lines))
        g

    -- there are as many arguments as literals, so none is inferred
    pub generic_step-valid : (inferred : List Rational) → whole_literals c args inferred ≡ true → (qs : List Rational) →
        Arguments args qs → LaGeneric carcara c qs → Valid c
    generic_step-valid inferred w qs h g =
        la_generic-valid carcara tt c ps even qs (arguments-lowest closed args as-of-P qs h)
        (whole-lines carcara c ps args qs h inferred w qs inferred refl (lines-length g.lines)) g
