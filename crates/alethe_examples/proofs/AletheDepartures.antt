-- Each departure from the specification's words decides a step: with it the step is accepted, without it refused,
-- whatever else is granted (`Admits`); the two by which Carcara refuses more go the other way round (`Forbids`). The
-- steps are the smallest inputs of docs/DIFFERENCES.md. Here are those of la_generic, in ShapeDepartures those of the
-- other rules. For `fractional_product` (K10: `at_one_accepted`, `at_one_refused`), `join` (`joint-accepted`,
-- `joint-refused`) and `surplus_arguments` (K7: `surplus-accepted`, `surplus-refused`), AletheExamples and AletheRefusals
-- have Carcara beside the words.
use mathlib.Core.Path.{◌≡◌, refl, sym, ◌∙◌, ap, ap₂, subst}
use mathlib.Core.Bool.{Bool, true, false}
use mathlib.Core.List.{List, [], ◌∷◌}
use mathlib.Core.Logic.{inl, inr}
use Prim.Native.Nat.{ℕ, ◌≤◌, ◌*◌, ◌∣◌}
use native.Mathlib.Nat.{le_of_dvd, dvd-mul_left, zero-lt-suc}
use native.Mathlib.Omega.{arith}
use lib.IntN.{ℤ, pos, nat_abs, ◌*ℤ◌}
use lib.Dec.{eqb}
use Rattle.numbers.specs.Pair.{whole_p}
use Rattle.numbers.specs.Rational as Rational
use Rattle.numbers.specs.Rational.{Rational}
use Rattle.terms.specs.Operator.{LessEq, GreaterThan, GreaterEq}
use Rattle.terms.specs.Term.Sort.{bool, int, real}
use Rattle.terms.specs.Smtlib.{Assignment, value, meaning, chain, holds}
use Rattle.numbers.proofs.Truths.{never}
use Rattle.numbers.proofs.Integers.{nat_abs_*ℤ}
use Rattle.alethe.specs.AletheTerms.{Departure, Departures, words, carcara, is, equals, less_eq, greater_than, greater_eq}
use Rattle.alethe.specs.AletheTerms.{sum_of, times, Linear}
use Rattle.alethe.specs.Alethe.{Valid, Constraint, Numbers, Common, Strengthens, ScaledRelation, Lines, Joins}
use Rattle.alethe.specs.Alethe.{LaGeneric, Arguments}
use Rattle.alethe.specs.AletheExamples as Step
use Rattle.alethe.specs.AletheExamples.{alethe}
use Rattle.alethe_examples.proofs.ExampleLaws.{atom_unwritten, constant-written, written-constant, Only, alone}
use Rattle.alethe_examples.proofs.ExampleLaws.{atom-only, constant-only, states, states-only, stated, all_zero_in}
use Rattle.alethe_examples.proofs.ExampleLaws.{line_of, Accepts, accepts}
use Rattle.alethe_examples.proofs.StepInversions.{one_line, two-lines}
use Rattle.alethe_examples.proofs.DepartureInversions.{reals-kept, at_least-kept, raised_by_one}
use Rattle.alethe_examples.proofs.DepartureInversions.{greater-weakened, line-left, at_least-left, not-refuted}
use Rattle.alethe_examples.proofs.DepartureInversions.{scaled-only, fraction-only, sides-are-numbers}
use Rattle.alethe_examples.proofs.AletheExamples.{an_atom, a_constant, half-written, both-arguments}
use Rattle.alethe_examples.proofs.AletheExamples.{ones-written}
use Rattle.alethe_examples.proofs.AletheRefusals.{Refuses, one_argument, two-arguments}

-- the departure accepts more
pub record Admits (d : Departure) (S : Departures → Type 0) : Type 1 where
  pub accepted : (by : Departures) → by d → S by
  pub refused : (by : Departures) → (by d → ⊥) → S by → ⊥

-- the departure refuses more
pub record Forbids (d : Departure) (S : Departures → Type 0) : Type 1 where
  pub accepted : (by : Departures) → (by d → ⊥) → S by
  pub refused : (by : Departures) → by d → S by → ⊥

-- so Carcara accepts what the words refuse
pub carcara-accepts : {d : Departure} {S : Departures → Type 0} → Admits d S → S carcara × (S words → ⊥)
carcara-accepts a = (a.accepted carcara tt, a.refused words λ d. d)

-- and refuses what the words accept
pub carcara-refuses : {d : Departure} {S : Departures → Type 0} → Forbids d S → S words × (S carcara → ⊥)
carcara-refuses f = (f.accepted words λ d. d, f.refused carcara tt)

-- ---- divisor: 2 x > 0 is raised to 2 x >= 2, without it to 2 x >= 1

twice_x_lem : Linear Step.twice_x (times (Rational.whole (pos 2)) (alone Step.x))
twice_x_lem = Linear.product_left (is 71) (constant-written 10 (pos 2)) (an_atom 0 int 0)

twice-x-only : Only Step.twice_x (times (Rational.whole (pos 2)) (alone Step.x))
twice-x-only = scaled-only 71 10 (pos 2) (atom_unwritten 0 int 0) (atom-only 0 int 0)

-- 2 x > 0
abbrev positive_double : Constraint
positive_double = stated GreaterThan (times (Rational.whole (pos 2)) (alone Step.x)) (sum_of [] (Rational.whole (pos 0)))

two_is_common : Common 2 positive_double
unfolding alethe
two_is_common = record { coefficients = λ i. go (eqb 0 i); bound = (pos 0, refl) }
  where
    go :
        (b : Bool) →
        (z : ℤ)
        × (elim b [ true ↦ Rational.whole (pos 2) | false ↦ Rational.whole (pos 0) ] ≡ Rational.whole (z *ℤ pos 2))
    go true = (pos 1, refl)
    go false = (pos 0, refl)

two_is_greatest : (h : ℕ) → Common h positive_double → h ≤ 2
unfolding alethe
two_is_greatest h c =
    let e = c.coefficients 0 in
    let f : 2 ≡ nat_abs e.0 * h = ap (λ (q : Rational). nat_abs q.num) e.1 ∙ nat_abs_*ℤ e.0 (pos h) in
    le_of_dvd (zero-lt-suc 1) (subst (λ (n : ℕ). h ∣ n) (sym f) (dvd-mul_left h (nat_abs e.0)))

doubled-accepted : (by : Departures) → by Departure.divisor → Accepts by Step.doubled Step.ones
unfolding alethe all_zero_in
doubled-accepted by d =
    accepts ones-written
    (Lines.line
    (line_of (states by 91 90 (Numbers.numbers refl refl) greater_than twice_x_lem (a_constant 8 (pos 0)))
    (Strengthens.divisor d refl refl refl (λ c. never (c 0)) 2 (omega arith) two_is_common two_is_greatest)
    (ScaledRelation.stays _ λ d e. refl))
    (Lines.line
    (line_of (states by 93 92 (Numbers.numbers refl refl) less_eq twice_x_lem (a_constant 9 (pos 1)))
    (Strengthens.at_least_whole refl refl refl) (ScaledRelation.stays _ λ d e. refl))
    Lines.end))
    refl Joins.as_worded refl

abbrev q1 : Rational
q1 = Rational.whole (pos 1)

abbrev q2 : Rational
q2 = Rational.whole (pos 2)

doubled-refused : (by : Departures) → (by Departure.divisor → ⊥) → Refuses by Step.doubled Step.ones
unfolding alethe
doubled-refused by n qs args h =
    let e = two-arguments (written-constant 9 (pos 1)) (written-constant 9 (pos 1)) args in
    let g : LaGeneric by Step.doubled (q1 ∷ q1 ∷ []) = rw e at h in
    let ls = two-lines g.lines in
    let es = states-only twice-x-only (constant-only 8 (pos 0)) by 91 90 GreaterThan _ ls.2.states in
    let et = states-only twice-x-only (constant-only 9 (pos 1)) by 93 92 LessEq _ ls.3.states in
    let ss = raised_by_one n refl refl refl (rw es at ls.2.strengthens) in
    let st = at_least-kept refl refl (inl refl) (rw et at ls.3.strengthens) in
    let s = at_least-left ls.2 ss refl in
    let t = at_least-left ls.3 st refl in
    not-refuted g.joins g.contradiction (ls.4 ∙ ap₂ (λ k l. k ∷ l ∷ []) s t) refl refl

pub divisor_admits : Admits Departure.divisor (λ by. Accepts by Step.doubled Step.ones)
divisor_admits =
    record { accepted = doubled-accepted; refused = λ by n a. doubled-refused by n a.0 a.1 a.2 }

-- ---- whole_product: 2 · 1/2 is whole, so x >= 1/2 and x <= 1/2 stay

abbrev half : Rational
half = Rational.frac (pos 1) (pos 2)

half-only : Only Step.half (sum_of [] half)
half-only = fraction-only 14 half

halves-refused : (by : Departures) → by Departure.whole_product → Refuses by Step.halves Step.twos
unfolding alethe
halves-refused by d qs args h =
    let e = two-arguments (written-constant 10 (pos 2)) (written-constant 10 (pos 2)) args in
    let g : LaGeneric by Step.halves (q2 ∷ q2 ∷ []) = rw e at h in
    let ls = two-lines g.lines in
    let es = states-only (atom-only 0 int 0) half-only by 29 28 GreaterEq _ ls.2.states in
    let et = states-only (atom-only 0 int 0) half-only by 31 30 LessEq _ ls.3.states in
    let ss = at_least-kept refl refl (inr d) (rw es at ls.2.strengthens) in
    let st = at_least-kept refl refl (inr d) (rw et at ls.3.strengthens) in
    let s = at_least-left ls.2 ss refl in
    let t = at_least-left ls.3 st refl in
    not-refuted g.joins g.contradiction (ls.4 ∙ ap₂ (λ k l. k ∷ l ∷ []) s t) refl refl

halves-accepted : (by : Departures) → (by Departure.whole_product → ⊥) → Accepts by Step.halves Step.twos
unfolding alethe all_zero_in
halves-accepted by n =
    accepts (both-arguments (constant-written 10 (pos 2)) (constant-written 10 (pos 2)))
    (Lines.line
    (line_of (states by 29 28 (Numbers.numbers refl refl) greater_eq (an_atom 0 int 0) (Linear.number half-written))
    (Strengthens.at_least_fraction refl refl refl λ d. absurd (n d)) (ScaledRelation.stays _ λ d e. refl))
    (Lines.line
    (line_of (states by 31 30 (Numbers.numbers refl refl) less_eq (an_atom 0 int 0) (Linear.number half-written))
    (Strengthens.at_least_fraction refl refl refl λ d. absurd (n d)) (ScaledRelation.stays _ λ d e. refl))
    Lines.end))
    refl Joins.as_worded refl

pub whole_product_forbids : Forbids Departure.whole_product (λ by. Accepts by Step.halves Step.twos)
whole_product_forbids =
    record { accepted = halves-accepted; refused = λ by d a. halves-refused by d a.0 a.1 a.2 }

-- ---- argument_zero: 0 u > 0 is false, 0 u >= 0 is not

positive-accepted : (by : Departures) → (by Departure.argument_zero → ⊥) → Accepts by Step.positive (Step.zero ∷ [])
unfolding alethe all_zero_in
positive-accepted by n =
    accepts (Arguments.argument (constant-written 8 (pos 0)) Arguments.end)
    (Lines.line
    (line_of (states by 37 36 (Numbers.numbers refl refl) greater_than (an_atom 5 real 5) (a_constant 8 (pos 0)))
    (Strengthens.not_all_int refl) (ScaledRelation.stays _ λ d e. absurd (n d)))
    Lines.end)
    refl Joins.as_worded refl

positive-refused : (by : Departures) → by Departure.argument_zero → Refuses by Step.positive (Step.zero ∷ [])
unfolding alethe
positive-refused by d qs args h =
    let e = one_argument (written-constant 8 (pos 0)) args in
    let g : LaGeneric by Step.positive (Rational.whole (pos 0) ∷ []) = rw e at h in
    let ls = one_line g.lines in
    let es = states-only (atom-only 5 real 5) (constant-only 8 (pos 0)) by 37 36 GreaterThan _ ls.1.states in
    let ss = reals-kept refl (rw es at ls.1.strengthens) in
    let r = greater-weakened d refl (ap (λ (m : Constraint). m.relation) ss) ls.1.relation in
    let s = line-left ls.1 ss r in
    not-refuted g.joins g.contradiction (ls.2 ∙ ap (λ (k : Constraint). k ∷ []) s) refl refl

pub argument_zero_forbids : Forbids Departure.argument_zero (λ by. Accepts by Step.positive (Step.zero ∷ []))
argument_zero_forbids =
    record { accepted = positive-accepted; refused = λ by d a. positive-refused by d a.0 a.1 a.2 }

-- every atom is 1, or true
abbrev at_ones : Assignment
at_ones = record { truths = λ i. true; integers = λ i. pos 1; reals = λ i. whole_p (pos 1); vectors = λ i. 1 }

-- here the words are unsound: u = 1 makes the clause false
pub positive_is_not-valid : Valid Step.positive → ⊥
unfolding alethe value meaning chain holds
positive_is_not-valid h = h at_ones

-- ---- other_sort: p = p adds nothing to 0 = 5

truths-accepted : (by : Departures) → by Departure.other_sort → Accepts by Step.truths Step.ones
unfolding alethe all_zero_in
truths-accepted by d =
    accepts ones-written
    (Lines.line
    (line_of (states by 95 94 (Numbers.other_sort d) equals (an_atom 6 bool 6) (an_atom 6 bool 6))
    (Strengthens.equality refl) (ScaledRelation.stays _ λ d e. refl))
    (Lines.line
    (line_of (states by 97 96 (Numbers.numbers refl refl) equals (a_constant 8 (pos 0)) (a_constant 12 (pos 5)))
    (Strengthens.equality refl) (ScaledRelation.stays _ λ d e. refl))
    Lines.end))
    refl Joins.as_worded refl

truths-refused : (by : Departures) → (by Departure.other_sort → ⊥) → Refuses by Step.truths Step.ones
unfolding alethe
truths-refused by n qs args h = go h.lines
  where
    go : {qs : List Rational} {ks : List Constraint} → Lines by Step.truths qs ks → ⊥
    go (Lines.line l ls) = never (sides-are-numbers n l.states)

pub other_sort_admits : Admits Departure.other_sort (λ by. Accepts by Step.truths Step.ones)
other_sort_admits =
    record { accepted = truths-accepted; refused = λ by n a. truths-refused by n a.0 a.1 a.2 }
