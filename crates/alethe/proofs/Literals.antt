-- What the shapes of the rules mean: a relation of two terms is a test on their values, and not, and, or are those of Bool.
use mathlib.Core.Path.{◌≡◌, refl, ◌∙◌, ap}
use mathlib.Core.Bool.{Bool, true, not, ◌&&◌, ◌||◌, and-true, or-false}
use mathlib.Core.List.{[], ◌∷◌}
use Prim.Native.Nat.{ℕ}
use Rattle.numbers.specs.Pair.{Pair, eq_p, less_p, less_eq_p}
use Rattle.terms.specs.Operator.{Not, And, Or}
use Rattle.terms.specs.Term.{Term}
use Rattle.numbers.specs.Choice.{when◌then◌else◌}
use Rattle.terms.specs.Smtlib.{truth, Assignment, as_pair, is_true, chain, every, any, meaning, value, holds}
use Rattle.alethe.specs.Alethe.{Valid, Is1, Is2, Is3, is, IsNot2, IsRelation, equals, less_than, less_eq}
use Rattle.alethe.specs.Alethe.{greater_than, greater_eq}

-- the test of a relation
abbrev pub test : {o : ℕ} → IsRelation o → Pair → Pair → Bool
test equals a b = eq_p a b
test less_than a b = less_p a b
test less_eq a b = less_eq_p a b
test greater_than a b = less_p b a
test greater_eq a b = less_eq_p b a

module _ (ρ : Assignment) where
  -- the number that a term means
  abbrev pub at : Term → Pair
  at t = as_pair (value ρ t)

  -- whether a term is true
  abbrev pub says : Term → Bool
  says t = is_true (value ρ t)

  pub relation-value :
      {o : ℕ} (r : IsRelation o) {a b t : Term} → Is2 o a b t → value ρ t ≡ truth (test r (at a) (at b))
  unfolding value meaning when◌then◌else◌ chain
  relation-value equals {a} {b} (is i) = ap truth (and-true _)
  relation-value less_than {a} {b} (is i) = ap truth (and-true _)
  relation-value less_eq {a} {b} (is i) = ap truth (and-true _)
  relation-value greater_than {a} {b} (is i) = ap truth (and-true _)
  relation-value greater_eq {a} {b} (is i) = ap truth (and-true _)

  pub not-value : {a t : Term} → Is1 Not a t → value ρ t ≡ truth (not (says a))
  unfolding value meaning when◌then◌else◌
  not-value (is i) = refl

  pub and_value : {a b t : Term} → Is2 And a b t → value ρ t ≡ truth (says a && says b)
  unfolding value meaning when◌then◌else◌ every
  and_value {a} {b} (is i) = ap (λ (x : Bool). truth (says a && x)) (and-true (says b))

  pub or_value : {a b t : Term} → Is2 Or a b t → value ρ t ≡ truth (says a || says b)
  unfolding value meaning when◌then◌else◌ any
  or_value {a} {b} (is i) = ap (λ (x : Bool). truth (says a || x)) (or-false (says b))

  pub or3_value : {a b c t : Term} → Is3 Or a b c t → value ρ t ≡ truth (says a || (says b || says c))
  unfolding value meaning when◌then◌else◌ any
  or3_value {a} {b} {c} (is i) = ap (λ (x : Bool). truth (says a || (says b || x))) (or-false (says c))

  pub relation-says : {o : ℕ} (r : IsRelation o) {a b t : Term} → Is2 o a b t → says t ≡ test r (at a) (at b)
  relation-says r h = ap is_true (relation-value r h)

  pub negated-says :
      {o : ℕ} (r : IsRelation o) {a b t : Term} → IsNot2 o a b t → says t ≡ not (test r (at a) (at b))
  negated-says r h = ap is_true (not-value h.negation) ∙ ap not (relation-says r h.relation)

-- a clause of one literal
pub valid-literal : (t : Term) → ((ρ : Assignment) → says ρ t ≡ true) → Valid (t ∷ [])
unfolding holds
valid-literal t h ρ = rw (h ρ) tt
