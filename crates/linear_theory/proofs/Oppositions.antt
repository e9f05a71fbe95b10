-- What `negate_disequality` finds of a literal before it looks at the two sides (`inner`): an operator and arguments of which the
-- literal is the opposite. Either the literal is a negated relation, or a relation whose opposite is one too.
--     inner-opposite       what `inner` finds is such an opposite
--     opposite-says       the literal is true where the relation is false
use mathlib.Core.Path.{◌≡◌, refl, ◌∙◌, subst}
use mathlib.Core.Bool.{Bool, true, false, not}
use Rattle.std.specs.Prelude.{Option, Some, None}
use Prim.Native.Nat.{ℕ}
use borrow.Author.Tests.{eqb-true}
use lib.Dec.{eqb}
use Rattle.terms.specs.Operator.{Not, LessThan, LessEq, GreaterThan, GreaterEq}
use Rattle.terms.specs.Term.{Term, Terms}
use Rattle.numbers.specs.Choice.{when◌then◌else◌}
use Rattle.terms.specs.Term.Terms.{nil, ◌▹◌}
use Rattle.terms.specs.Readers.{as_op, remove_negation}
use Rattle.terms.specs.Smtlib.{Assignment}
use Rattle.terms.proofs.Readings.{by_option}
use Rattle.book.proofs.BookTerms.{Each, Closed}
use Rattle.disequality.specs.Disequality.{negate_operator, negated_op, inner}
use Rattle.rules.specs.Shapes.{is_relation}
use Rattle.alethe.specs.Alethe.{IsRelation, less_than, less_eq, greater_than, greater_eq, Turns, Opposite}
use Rattle.alethe.specs.Alethe.Turns.{less, greater, less_equal, greater_equal}
use Rattle.alethe.specs.Alethe.Opposite.{negation, turned}
use Rattle.rules_theory.proofs.Shapes.{found, unary-found, nothing-found, as-op-shape, relation_of_lem}
use Rattle.numbers.proofs.Comparisons.{less_p-not, less_eq_p-not}
use Rattle.alethe.proofs.Literals.{test, at, says, relation-says, negated-says}

turns : (p o : ℕ) → negate_operator p ≡ Some o → Turns p o
unfolding negate_operator when◌then◌else◌
turns p o e = go (eqb p LessThan) (eqb p GreaterThan) (eqb p LessEq) (eqb p GreaterEq) refl refl refl refl e
  where
    go :
        (s t u v : Bool) → eqb p LessThan ≡ s → eqb p GreaterThan ≡ t → eqb p LessEq ≡ u →
        eqb p GreaterEq ≡ v →
        (when s then Some GreaterEq else when t then Some LessEq else when u then Some GreaterThan else when v then Some LessThan else None) ≡ Some o →
        Turns p o
    go true t u v es et eu ev e = let h : GreaterEq ≡ o = cc in rw (eqb-true p LessThan es, ← h) less
    go false true u v es et eu ev e = let h : LessEq ≡ o = cc in rw (eqb-true p GreaterThan et, ← h) greater
    go false false true v es et eu ev e = let h : GreaterThan ≡ o = cc in rw (eqb-true p LessEq eu, ← h) less_equal
    go false false false true es et eu ev e = let h : LessThan ≡ o = cc in rw (eqb-true p GreaterEq ev, ← h) greater_equal
    go false false false false es et eu ev e = nothing-found e

-- ---- literals

pub record Opposed (P : Term → Type 0) (phi : Term) (q : ℕ × Terms) : Type 0 where
  pub literal : Opposite q.1 phi q.0
  pub inside : Each P q.1

module _ {P : Term → Type 0} (closed : Closed P) (phi : Term) (p : P phi) (q : ℕ × Terms) where
  -- under a negation
  negated_opposed : (r : ℕ × Terms) → negated_op phi ≡ Some r → is_relation r.0 ≡ true → Opposed P phi r
  unfolding remove_negation
  negated_opposed r e i =
      by_option (remove_negation phi) as_op None (Some r)
      (λ u f g.
      let h = unary-found closed Not phi p u f in
      let k = found closed r.0 r.1 u h.inside.0 (as-op-shape u r g) in
      record { literal = negation u (relation_of_lem r.0 i) k.shape h.shape; inside = k.inside })
      (λ f. nothing-found) e

  turned_opposed :
      (r : ℕ × Terms) (o : ℕ) → as_op phi ≡ Some r → negate_operator r.0 ≡ Some o → Opposed P phi (o, r.1)
  turned_opposed r o e f =
      let k = found closed r.0 r.1 phi p (as-op-shape phi r e) in
      record { literal = turned r.0 (turns r.0 o f) k.shape; inside = k.inside }

  relation-only :
      (r : ℕ × Terms) → negated_op phi ≡ Some r → (t : Bool) → is_relation r.0 ≡ t →
      elim t as (λ z. Option (ℕ × Terms)) [ true ↦ Some r | false ↦ None ] ≡ Some q → Opposed P phi q
  relation-only r e true i f = let h : r ≡ q = cc in subst (Opposed P phi) h (negated_opposed r e i)
  relation-only r e false i f = nothing-found f

  pub inner-opposite : inner phi ≡ Some q → Opposed P phi q
  unfolding inner
  inner-opposite =
      by_option (negated_op phi) _ _ _ (λ r e. relation-only r e (is_relation r.0) refl)
      (λ e.
      by_option (as_op phi) _ _ _
      (λ r f.
      by_option (negate_operator r.0) _ _ _
      (λ o g h.
      let k : ◌≡◌ {A = ℕ × Terms} (o, r.1) q = cc in subst (Opposed P phi) k (turned_opposed r o f g))
      (λ g. nothing-found))
      (λ f. nothing-found))

-- ---- what a literal says

relation-turned : {p o : ℕ} → Turns p o → IsRelation o
relation-turned less = greater_eq
relation-turned greater = less_eq
relation-turned less_equal = greater_than
relation-turned greater_equal = less_than

pub opposite-relation : {ts : Terms} {phi : Term} {o : ℕ} → Opposite ts phi o → IsRelation o
opposite-relation (negation body r s n) = r
opposite-relation (turned p t s) = relation-turned t

pub opposite-says :
    (ρ : Assignment) {a b phi : Term} {o : ℕ} (h : Opposite (a ▹ b ▹ nil) phi o) →
    says ρ phi ≡ not (test (opposite-relation h) (at ρ a) (at ρ b))
unfolding opposite-relation relation-turned
opposite-says ρ (negation body r s n) = negated-says ρ r (record { body = body; relation = s; negation = n })
opposite-says ρ {a} {b} (turned p less s) = relation-says ρ less_than s ∙ less_p-not (at ρ b) (at ρ a)
opposite-says ρ {a} {b} (turned p greater s) = relation-says ρ greater_than s ∙ less_p-not (at ρ a) (at ρ b)
opposite-says ρ {a} {b} (turned p less_equal s) = relation-says ρ less_eq s ∙ less_eq_p-not (at ρ a) (at ρ b)
opposite-says ρ {a} {b} (turned p greater_equal s) = relation-says ρ greater_eq s ∙ less_eq_p-not (at ρ b) (at ρ a)
