-- Demand 3's premises as tests that compute, on an accepted step and the numbers that it inferred, and a case of the
-- table in MarkedPremises: a book, a run, and for each accepted step which premises it meets. proofs/TestedPremises
-- shows that the tests are the premises.
use Rattle.runs.specs.declared.rule.Rule.TheVariants.{BoundedFarkas, LaGeneric}
use Rattle.std.specs.Prelude.{Bool, true, false, ◌&&◌, ◌||◌, not, List, [], ◌∷◌, leb, length}
use Rattle.numbers.specs.Rational.{Rational}
use Rattle.numbers.specs.Bytes.{Bytes}
use Rattle.terms.specs.BookExamples.{joined}
use Rattle.terms.specs.Smtlib.{divs_even}
use Rattle.rules.specs.Limits.{limited}
use Rattle.linear_theory.specs.Premises.{all_even, whole_coefficients, whole_literal, whole_given, whole_literals}
use Rattle.runs.specs.Rule.{is_rule}
use Rattle.runs.specs.Run.{Step}
use Rattle.marking.specs.Check.{mark}

-- even divs, whole numbers, no surplus arguments
abbrev pub Tests : Type 0
Tests = Bool × Bool × Bool

unfoldable pub premises_met : Step → List Rational → Tests
premises_met s inferred = (
  all_even s.clause && all_even s.args,
  not (is_rule LaGeneric s.rule || is_rule BoundedFarkas s.rule) || whole_literals s.clause s.args inferred,
  not (is_rule BoundedFarkas s.rule) || leb (length s.args) (length s.clause),
)

-- ---- a case of the table

abbrev pub Tested : Type 0
Tested = List Bytes × List Bytes × List Tests

abbrev pub tested : List Bytes → List Bytes → List Tests → Tested
tested book run ts = (book, run, ts)

abbrev same : Bool → Bool → Bool
same true b = b
same false b = not b

abbrev same_tests : Tests → Tests → Bool
same_tests (a, b, c) (x, y, z) = same a x && (same b y && same c z)

unfoldable pub all_met : List (Step × List Rational) → List Tests → Bool
all_met [] [] = true
all_met [] (t ∷ ts) = false
all_met (s ∷ ss) [] = false
all_met (s ∷ ss) (t ∷ ts) = same_tests (premises_met s.0 s.1) t && all_met ss ts

unfoldable pub all_tested : List Tested → Bool
all_tested [] = true
all_tested ((book, run, ts) ∷ cs) = all_met (mark (limited 1000) (joined book) (joined run)).steps ts && all_tested cs

-- one name that opens all that computing the tests goes through, beside `marks` of Cases
unfoldable pub tests : Unit {0}
unfolding premises_met all_met all_tested divs_even all_even whole_coefficients whole_literal whole_given
    whole_literals
tests = tt
