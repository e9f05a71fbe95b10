-- poly_simp_rel: a step that is accepted has one literal and one premise of one literal
-- (`poly-simp_rel_literals`), and is one in the specification's wording (`poly-simp_rel_form`). The proof goes
-- along the rule's own steps; what is tested to be the same term is equal, since the terms are those of one book.
use mathlib.Core.Path.{◌≡◌, refl}
use mathlib.Core.Bool.{Bool, true, false, not, ◌&&◌, ◌||◌, beq}
use mathlib.Core.List.{List, [], ◌∷◌}
use mathlib.Core.Logic.{◌⊎◌, inl, inr}
use Prim.Native.Nat.{ℕ}
use native.Mathlib.Omega.{arith}
use borrow.Author.Tests.{eqb-true}
use lib.Dec.{eqb}
use Rattle.numbers.specs.Rational.{Rational, is_zero, is_positive}
use Rattle.terms.specs.Operator.{Equals, Sub, Mult, BvSub, BvMul}
use Rattle.terms.specs.Term.{Term}
use Rattle.terms.specs.Term.Terms.{nil, ◌▹◌}
use Rattle.numbers.proofs.Truths.{both, never}
use Rattle.book.proofs.BookTerms.{Closed}
use Rattle.rules.specs.Refusal.{◌>>=◌}
use Rattle.rules.specs.declared.refusal.Refusal.{Refusal}
use Rattle.std.specs.Prelude.{Ok, Err}
use Rattle.rules.specs.Limits.{Limits}
use Rattle.rules.specs.Shapes.{Clause, only_literal, is_relation}
use Rattle.polynomial_rel.specs.PolySimpRel.{Scaled, assert_sides, bitvector_case, number_case, poly_simp_rel}
use Rattle.alethe.specs.Alethe.{carcara, Is2, IsRelation, equals, Difference, ScaledNumbers, ScaledVectors, PolySimpRel}
use Rattle.rules.proofs.Yields.{Yields, at_ok, and_then, weaker, guarded}
use Rattle.rules_theory.proofs.Shapes.{Found, binary_err-found, relation_of_lem}
use Rattle.rules_theory.proofs.WrittenNumbers.{fraction-found}
use Rattle.polynomial_theory.proofs.RelationShapes.{or_next, operands-found, odd-found, Scales, inside_both}
use Rattle.polynomial_theory.proofs.RelationShapes.{operation-found, equated-found, scaled-found}
use Rattle.polynomial_theory.proofs.RelationShapes.{vector-parts, number-parts, sides-equal}

-- ---- one literal and one premise

pub record Literals (c : Clause) (ps : List Clause) : Type 0 where
  pub premise : Term
  pub phi : Term
  pub conclusion : c ≡ phi ∷ []
  pub premises : ps ≡ (premise ∷ []) ∷ []

pub refused_not_ok : {A X : Type 0} {r : Refusal} {a : A} → Err r ≡ Ok a → X
refused_not_ok e = let z : ◌≡◌ {A = ℕ} 0 1 = cc in absurd (omega arith)

pub poly-simp_rel_literals :
    (l : Limits) (c : Clause) (ps : List Clause) → poly_simp_rel l c ps ≡ Ok tt → Literals c ps
unfolding poly_simp_rel only_literal ◌>>=◌
poly-simp_rel_literals l c [] e = refused_not_ok e
poly-simp_rel_literals l [] (p ∷ []) e = refused_not_ok e
poly-simp_rel_literals l (phi ∷ []) ([] ∷ []) e = refused_not_ok e
poly-simp_rel_literals l (phi ∷ []) ((t ∷ []) ∷ []) e =
    record { premise = t; phi = phi; conclusion = refl; premises = refl }
poly-simp_rel_literals l (phi ∷ []) ((t ∷ u ∷ ts) ∷ []) e = refused_not_ok e
poly-simp_rel_literals l (s ∷ u ∷ ts) (p ∷ []) e = refused_not_ok e
poly-simp_rel_literals l c (p ∷ q ∷ ps) e = refused_not_ok e

-- ---- tests

nonzero : (q : Rational) → not (is_zero q) ≡ true → is_zero q ≡ false
nonzero q = go (is_zero q)
  where
    go : (t : Bool) → not t ≡ true → t ≡ false
    go true e = never e
    go false e = refl

same_sign_lem :
    (o : ℕ) (s t : Bool) → (eqb o Equals || beq s t) ≡ true → (o ≡ Equals) ⊎ (s ≡ t)
same_sign_lem o s t = go (eqb o Equals) s t refl
  where
    go : (z s t : Bool) → eqb o Equals ≡ z → (z || beq s t) ≡ true → (o ≡ Equals) ⊎ (s ≡ t)
    go true s t z e = inl (eqb-true o Equals z)
    go false true true z e = inr refl
    go false true false z e = never e
    go false false true z e = never e
    go false false false z e = inr refl

-- ---- the conclusion

module _ {P : Term → Type 0} (closed : Closed P) where
  -- what both cases end with: the conclusion compares the sides of the two differences
  compares :
      (o : ℕ) (premise phi : Term) (p : Scaled) (left right : Term) (x y : Term × Term) → IsRelation o →
      P p.1.0 × P p.1.1 → P p.3.0 × P p.3.1 →
      ScaledNumbers carcara o premise p.1.0 p.1.1 p.3.0 p.3.1
      ⊎ ScaledVectors o premise p.1.0 p.1.1 p.3.0 p.3.1 →
      Is2 Equals left right phi → Found P o (x.0 ▹ x.1 ▹ nil) left →
      Found P o (y.0 ▹ y.1 ▹ nil) right → Yields (λ u. PolySimpRel carcara premise phi) (assert_sides x y p)
  compares o premise phi p left right x y r px py form e f g =
      weaker
      (λ u h.
      record {
        o = o;
        relation = r;
        x1 = p.1.0;
        x2 = p.1.1;
        y1 = p.3.0;
        y2 = p.3.1;
        left = left;
        right = right;
        premise_form = form;
        left_side = rw (h.x1, h.x2) at f.shape;
        right_side = rw (h.y1, h.y2) at g.shape;
        conclusion = e;
      })
      (sides-equal closed x y p (inside_both f) (inside_both g) px py)

  -- ---- the two cases

  module _ (premise phi : Term) (q : P phi) where
    vector_case :
        (p : Scaled) → Scales P BvMul (Is2 BvSub) premise p →
        Yields (λ u. PolySimpRel carcara premise phi) (bitvector_case p phi)
    unfolding bitvector_case
    vector_case p s =
        and_then (odd-found p.0) λ u c1.
        and_then (odd-found p.2) λ u c2.
        and_then (equated-found closed Equals (omega arith) phi q) λ lr e.
        compares Equals premise phi p e.left e.right lr.0 lr.1 equals s.x.inside s.y.inside
        (inr
        (record {
          dx = s.dx;
          dy = s.dy;
          left = s.products.left;
          right = s.products.right;
          i1 = c1.i;
          i2 = c2.i;
          n1 = c1.n;
          n2 = c2.n;
          w1 = c1.w;
          w2 = c2.w;
          first_odd = c1.odd;
          second_odd = c2.odd;
          relation = refl;
          left_difference = s.x.shape;
          right_difference = s.y.shape;
          left_product = rw c1.is at s.products.first.shape;
          right_product = rw c2.is at s.products.second.shape;
          equation = s.products.equation;
        }))
        e.equation e.first e.second

    number_case_lem :
        (l : Limits) (p : Scaled) → Scales P Mult (Difference carcara) premise p →
        Yields (λ u. PolySimpRel carcara premise phi) (number_case l p phi)
    unfolding number_case
    number_case_lem l p s =
        and_then (fraction-found l p.0) λ q1 c1.
        and_then (fraction-found l p.2) λ q2 c2.
        guarded (not (is_zero q1)) _ λ z1 u.
        guarded (not (is_zero q2)) _ λ z2 u.
        and_then (binary_err-found closed Equals phi q) λ lr e.
        and_then (operation-found closed lr.0 e.inside.0) λ (o1, args1) f.
        and_then (operation-found closed lr.1 e.inside.1.0) λ (o2, args2) g.
        guarded (is_relation o1 && eqb o1 o2) _ λ k u.
        and_then (operands-found args1) λ x a.
        and_then (operands-found args2) λ y b.
        guarded (eqb o1 Equals || beq (is_positive q1) (is_positive q2)) _ λ sign u.
        let f : Found P o1 (x.0 ▹ x.1 ▹ nil) lr.0 = rw a at f in
        let k = both (is_relation o1) (eqb o1 o2) k in
        let g : Found P o1 (y.0 ▹ y.1 ▹ nil) lr.1 = rw (b, ← eqb-true o1 o2 k.1) at g in
        compares o1 premise phi p lr.0 lr.1 x y (relation_of_lem o1 k.0) s.x.inside s.y.inside
        (inl
        (record {
          c1 = p.0;
          c2 = p.2;
          dx = s.dx;
          dy = s.dy;
          left = s.products.left;
          right = s.products.right;
          q1 = q1;
          q2 = q2;
          first = c1;
          second = c2;
          first_nonzero = nonzero q1 z1;
          second_nonzero = nonzero q2 z2;
          same_sign = same_sign_lem o1 (is_positive q1) (is_positive q2) sign;
          left_difference = s.x.shape;
          right_difference = s.y.shape;
          left_product = s.products.first.shape;
          right_product = s.products.second.shape;
          equation = s.products.equation;
        }))
        e.shape f g

module _ {P : Term → Type 0} (closed : Closed P) (l : Limits) (premise phi : Term) (p : P premise) (q : P phi) where
  pub poly-simp_rel_form : poly_simp_rel l (phi ∷ []) ((premise ∷ []) ∷ []) ≡ Ok tt → PolySimpRel carcara premise phi
  unfolding poly_simp_rel only_literal ◌>>=◌
  poly-simp_rel_form =
      at_ok {P = λ u. PolySimpRel carcara premise phi}
      (or_next (scaled-found closed BvMul BvSub (Is2 BvSub) (omega arith) (vector-parts closed) premise p)
      (vector_case closed premise phi q)
      (and_then (scaled-found closed Mult Sub (Difference carcara) (omega arith) (number-parts closed) premise p)
      (number_case_lem closed premise phi q l)))
