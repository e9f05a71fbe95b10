-- What holds in each case of the linear walk holds of the choice: by the arm of a term, and by which factor of
-- a product is a number. Of one choice (`by_arm`, `by_factors_lem`), and of two by one case (`at_arm_lem`, `at_factors`).
use Rattle.numbers.specs.Rational.{Rational}
use Rattle.linear_walk.specs.LinearTerms.{Arm, Factors}
use Rattle.linear_walk.specs.LinearTerms.Arm.{sum, negation, difference, product, leaf}
use Rattle.linear_walk.specs.LinearTerms.Factors.{first_is, second_is, neither_is}

module _ {X : Type 0} (R : X → Type 0) where
  pub by_arm :
      {a b c d e : X} (k : Arm) → R a → R b → R c → R d → R e →
      R (elim k as (λ z. X) [ sum ↦ a | negation ↦ b | difference ↦ c | product ↦ d | leaf ↦ e ])
  by_arm sum p q r s t = p
  by_arm negation p q r s t = q
  by_arm difference p q r s t = r
  by_arm product p q r s t = s
  by_arm leaf p q r s t = t

  pub by_factors_lem :
      {f g : Rational → X} {y : X} (k : Factors) → ((q : Rational) → R (f q)) → ((q : Rational) → R (g q)) → R y →
      R (elim k as (λ z. X) [ first_is q ↦ f q | second_is q ↦ g q | neither_is ↦ y ])
  by_factors_lem (first_is q) p r s = p q
  by_factors_lem (second_is q) p r s = r q
  by_factors_lem neither_is p r s = s

module _ {X Y : Type 0} (R : X → Y → Type 0) where
  pub at_arm_lem :
      {a b c d e : X} {a' b' c' d' e' : Y} (k : Arm) → R a a' → R b b' → R c c' → R d d' → R e e' →
      R (elim k as (λ z. X) [ sum ↦ a | negation ↦ b | difference ↦ c | product ↦ d | leaf ↦ e ])
      (elim k as (λ z. Y) [ sum ↦ a' | negation ↦ b' | difference ↦ c' | product ↦ d' | leaf ↦ e' ])
  at_arm_lem sum p q r s t = p
  at_arm_lem negation p q r s t = q
  at_arm_lem difference p q r s t = r
  at_arm_lem product p q r s t = s
  at_arm_lem leaf p q r s t = t

  pub at_factors :
      {f g : Rational → X} {f' g' : Rational → Y} {y : X} {y' : Y} (k : Factors) → ((q : Rational) → R (f q) (f' q)) →
      ((q : Rational) → R (g q) (g' q)) → R y y' →
      R (elim k as (λ z. X) [ first_is q ↦ f q | second_is q ↦ g q | neither_is ↦ y ])
      (elim k as (λ z. Y) [ first_is q ↦ f' q | second_is q ↦ g' q | neither_is ↦ y' ])
  at_factors (first_is q) p r s = p q
  at_factors (second_is q) p r s = r q
  at_factors neither_is p r s = s
