-- Where Carcara refuses what the Alethe specification's words accept, by name, and what la_generic's words need for
-- Carcara to accept them. docs/DIFFERENCES.md has the smallest input of each.
use Rattle.std.specs.Prelude.{◌≡◌, true, false, List, [], ◌∷◌, ℕ, ◌^◌}
use Rattle.numbers.specs.Rational.{Rational, is_integer, is_zero, is_positive, modulo}
use Rattle.terms.specs.Operator.{LessEq, GreaterEq, Or}
use Rattle.terms.specs.Term.{Term, sort}
use Rattle.terms.specs.Term.Sort.{bits}
use Rattle.alethe.specs.AletheTerms.{Departures, Is2, IsNot2, Signed, Cancels, coefficient_in}
use Rattle.alethe.specs.Alethe.{Clause, Constraint, States, PolySimp}
use Rattle.alethe.specs.Alethe.Relation.{eq, gt}

-- ---- la_tautology

-- K8: an equality of numbers is refuted only where the right side is the greater one
pub record NegativeEquality (by : Departures) (phi : Term) : Type 0 where
  pub negated : Constraint
  pub states : States by phi negated
  pub equality : negated.relation ≡ eq
  pub cancels : Cancels negated.terms
  pub negative : is_positive negated.bound ≡ false

-- the bounds of two literals (or phi1 phi2)
pub data BoundIn (d : Term) (phi1 phi2 : Term) : Type 0 where
  below : (s : Term) → Is2 LessEq s d phi2 → BoundIn d phi1 phi2
  above : (s : Term) → Is2 GreaterEq s d phi2 → BoundIn d phi1 phi2
  not_below : (s : Term) → IsNot2 LessEq s d phi1 → BoundIn d phi1 phi2
  not_above : (s : Term) → IsNot2 GreaterEq s d phi1 → BoundIn d phi1 phi2
  not_above_second : (s : Term) → IsNot2 GreaterEq s d phi2 → BoundIn d phi1 phi2

-- a bound that is a quotient: Carcara reads signed constants there
pub record QuotientBound (phi : Term) : Type 0 where
  pub phi1 : Term
  pub phi2 : Term
  pub bound : Term
  pub disjunction : Is2 Or phi1 phi2 phi
  pub inside : BoundIn bound phi1 phi2
  pub unsigned : (q : Rational) → Signed bound q → ⊥

-- ---- poly_simp

-- K9: a monomial on the left has a coefficient that is not 0, and is 0 modulo 2^width
pub record VanishingMonomial (by : Departures) (phi : Term) : Type 0 where
  pub simplified : PolySimp by phi
  pub width : ℕ
  pub vectors : sort simplified.t ≡ bits width
  pub monomial : List Term
  pub some : is_zero (coefficient_in monomial simplified.left) ≡ false
  pub vanishes : modulo (coefficient_in monomial simplified.left).num (2 ^ width) ≡ 0

-- ---- la_generic

-- every bound after step 3 is whole
pub data WholeBounds (by : Departures) : Clause → Type 0 where
  end : WholeBounds by []
  also :
      {phi : Term} {c : Clause} → ((k : Constraint) → States by phi k → is_integer k.bound ≡ true) →
      WholeBounds by c → WholeBounds by (phi ∷ c)

-- no > literal has argument 0
pub data NoZeroArgument (by : Departures) : Clause → List Rational → Type 0 where
  end : NoZeroArgument by [] []
  also :
      {phi : Term} {a : Rational} {c : Clause} {as' : List Rational} →
      ((k : Constraint) → States by phi k → k.relation ≡ gt → is_zero a ≡ false) → NoZeroArgument by c as' →
      NoZeroArgument by (phi ∷ c) (a ∷ as')
