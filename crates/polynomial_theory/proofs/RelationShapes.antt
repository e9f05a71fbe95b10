-- What the readers of poly_simp_rel find: the premise (= (o c1 dx) (o c2 dy)) with the differences dx and dy, odd
-- bit-vector constants, and the sides of the conclusion, which are those of the differences.
--     or_next       what is answered, or else what comes next
--     operands-found, odd-found, operation-found, equated-found, scaled-found       what each reader finds
--     vector-parts, number-parts       the differences
--     sides-equal       what `assert_sides` asserts
use mathlib.Core.Path.{◌≡◌, refl}
use Rattle.std.specs.Prelude.{Option, Some, None}
use Prim.Native.Nat.{ℕ, zero, suc, ◌%◌, ◌<◌}
use native.Mathlib.Omega.{arith}
use borrow.Author.Tests.{eqb-true}
use Rattle.terms.specs.Operator.{Equals, Sub, ToReal, BvSub}
use Rattle.numbers.specs.Choice.{when◌then◌else◌}
use Rattle.terms.specs.Term.{Term, Terms, unary, binary}
use Rattle.terms.specs.Term.Term.{integer, rational, bitvector, atom, op}
use Rattle.terms.specs.Term.Terms.{nil, ◌▹◌}
use Rattle.terms.specs.Readers.{as_bitvector, as_op}
use Rattle.book.proofs.BookTerms.{Closed}
use Rattle.rules.specs.Refusal.{Result, ◌>>=◌, or_else}
use Rattle.rules.specs.declared.refusal.Refusal.{Refusal}
use Rattle.std.specs.Prelude.{Ok, Err}
use Rattle.rules.specs.declared.refusal.Refusal.TheVariants.{TermOfWrongForm}
use Rattle.rules.specs.Limits.{bitvector_err, op_err}
use Rattle.rules.specs.Shapes.{Names, matches}
use Rattle.polynomial_rel.specs.PolySimpRel.{Scaled, equated_form, equated_in, equated, difference, scaled, assert_sides}
use Rattle.polynomial_rel.specs.PolySimpRel.{assert_odd, operands}
use Rattle.alethe.specs.Alethe.{Is, is, Is2, carcara, Difference}
use Rattle.alethe.specs.Alethe.Difference.{plain, real_difference}
use Rattle.rules.proofs.Yields.{Yields, gives, refuses, and_then, weaker}
use Rattle.rules_theory.proofs.Shapes.{Found, found, or_else_lem, asserted, unary-found, binary-found, equal-yields}
use Rattle.rules_theory.proofs.Shapes.{as-op-shape}
use Rattle.rules_theory.proofs.Forms.{Operation, form-found}
use Rattle.terms.proofs.Readings.{by_option}

-- ---- the steps

-- what is answered, or else what comes next
pub or_next :
    {A B : Type 0} {R : A → Type 0} {Q : B → Type 0} {x : Result A} {f : A → Result B} {y : Result B} →
    Yields R x → ((a : A) → R a → Yields Q (f a)) → Yields Q y →
    Yields {E = Refusal} Q (elim x as (λ z. Result B) [ Ok a ↦ f a | Err r ↦ y ])
or_next (gives {a} h) f g = f a h
or_next refuses f g = g

pub operands-found : (ts : Terms) → Yields (λ p. ts ≡ p.0 ▹ p.1 ▹ nil) (operands ts)
operands-found nil = refuses
operands-found (a ▹ nil) = refuses
operands-found (a ▹ b ▹ nil) = gives refl
operands-found (a ▹ b ▹ c ▹ ts) = refuses

-- t is a bit-vector constant of an odd value
pub record OddVector (t : Term) : Type 0 where
  pub i : ℕ
  pub n : ℕ
  pub w : ℕ
  pub odd : n % 2 ≡ 1
  pub is : t ≡ bitvector i n w

pub odd-found : (t : Term) → Yields (λ u. OddVector t) (assert_odd t)
unfolding bitvector_err as_bitvector ◌>>=◌
odd-found (integer i v) = refuses
odd-found (rational i q) = refuses
odd-found (bitvector i v n) =
    asserted _ _ λ e. record { i = i; n = v; w = n; odd = eqb-true (v % 2) 1 e; is = refl }
odd-found (atom i s n) = refuses
odd-found (op i o ts) = refuses

-- ---- shapes

-- t is (= (o a b) (o c d)) for the pairs of a and b, and of c and d, which are terms of P
pub record Equated (P : Term → Type 0) (o : ℕ) (t : Term) (q : (Term × Term) × (Term × Term)) : Type 0 where
  pub left : Term
  pub right : Term
  pub first : Found P o (q.0.0 ▹ q.0.1 ▹ nil) left
  pub second : Found P o (q.1.0 ▹ q.1.1 ▹ nil) right
  pub equation : Is2 Equals left right t

-- the sides of a difference
pub record Parts (P : Term → Type 0) (D : Term → Term → Term → Type 0) (t : Term) (q : Term × Term) : Type 0 where
  pub shape : D q.0 q.1 t
  pub inside : P q.0 × P q.1

-- t is (= (o c1 dx) (o c2 dy)), where D says which differences dx and dy are
pub record Scales (P : Term → Type 0) (o : ℕ) (D : Term → Term → Term → Type 0) (t : Term) (p : Scaled) : Type 0 where
  pub dx : Term
  pub dy : Term
  pub products : Equated P o t ((p.0, dx), (p.2, dy))
  pub x : Parts P D dx p.1
  pub y : Parts P D dy p.3

-- the sides of the conclusion are those of the differences
pub record Equal (l r : Term × Term) (p : Scaled) : Type 0 where
  pub x1 : l.0 ≡ p.1.0
  pub x2 : l.1 ≡ p.1.1
  pub y1 : r.0 ≡ p.3.0
  pub y2 : r.1 ≡ p.3.1

operation_is : (o : ℕ) → 0 < o → {ts : Terms} {t : Term} → Operation o ts t → Is o ts t
operation_is zero h e = absurd (omega arith)
operation_is (suc o) h e = e

-- the two arguments that are found are terms of P
pub inside_both :
    {P : Term → Type 0} {o : ℕ} {a b t : Term} → Found P o (a ▹ b ▹ nil) t → P a × P b
inside_both f = (f.inside.0, f.inside.1.0)

module _ {P : Term → Type 0} (closed : Closed P) where
  pub operation-found :
      (t : Term) → P t → Yields (λ r. Found P r.0 r.1 t) (op_err t)
  unfolding op_err
  operation-found t p = or_else_lem (as_op t) _ λ r e. found closed r.0 r.1 t p (as-op-shape t r e)

  found_of : {o : ℕ} {ts : Terms} {t : Term} → Is o ts t → P t → Found P o ts t
  found_of {o} {ts} (is i) p = record { shape = is i; inside = closed.below i o ts p }

  pub equated-found :
      (o : ℕ) → 0 < o → (t : Term) → P t → Yields (Equated P o t) (or_else (equated o t) TermOfWrongForm)
  unfolding equated or_else
  equated-found o h t p = go (matches (equated_form o) t) refl
    where
      go :
          (m : Option Names) → matches (equated_form o) t ≡ m →
          Yields (Equated P o t) (or_else (equated_in m) TermOfWrongForm)
      go (Some σ) e =
          let f = form-found closed (equated_form o) t σ p e in
          let equation : Is2 Equals (σ.at 1) (σ.at 2) t = rw f.whole at f.holds.0 in
          let inside = (found_of equation p).inside in
          gives (record {
            left = σ.at 1;
            right = σ.at 2;
            first = found_of (operation_is o h f.holds.1.0) inside.0;
            second = found_of (operation_is o h f.holds.1.1.0) inside.1.0;
            equation = equation;
          })
      go None e = refuses

  pub scaled-found :
      (o d : ℕ) (D : Term → Term → Term → Type 0) → 0 < o →
      ((t : Term) → P t → (q : Term × Term) → difference d t ≡ Some q → Parts P D t q) → (t : Term) → P t →
      Yields (Scales P o D t) (scaled o d t)
  unfolding scaled
  scaled-found o d D h reads t p =
      and_then (equated-found o h t p) λ q e.
      and_then (or_else_lem (difference d q.0.1) _ (reads q.0.1 e.first.inside.1.0)) λ x h.
      and_then (or_else_lem (difference d q.1.1) _ (reads q.1.1 e.second.inside.1.0)) λ y k.
      gives (record { dx = q.0.1; dy = q.1.1; products = e; x = h; y = k })

  module _ (t : Term) (p : P t) (q : Term × Term) where
    pub vector-parts : difference BvSub t ≡ Some q → Parts P (Is2 BvSub) t q
    unfolding difference when◌then◌else◌
    vector-parts e =
        let f = binary-found closed BvSub t p q e in
        record { shape = f.shape; inside = inside_both f }

    pub number-parts : difference Sub t ≡ Some q → Parts P (Difference carcara) t q
    unfolding difference when◌then◌else◌
    number-parts =
        by_option (unary ToReal t) (binary Sub) (binary Sub t) (Some q)
        (λ u e f.
        let g = unary-found closed ToReal t p u e in
        let h = binary-found closed Sub u g.inside.0 q f in
        record { shape = real_difference tt h.shape g.shape; inside = inside_both h })
        (λ e f.
        let h = binary-found closed Sub t p q f in
        record { shape = plain h.shape; inside = inside_both h })

  pub sides-equal :
      (l r : Term × Term) (p : Scaled) → P l.0 × P l.1 → P r.0 × P r.1 →
      P p.1.0 × P p.1.1 → P p.3.0 × P p.3.1 → Yields (λ u. Equal l r p) (assert_sides l r p)
  unfolding assert_sides
  sides-equal l r p pl pr px py =
      and_then (equal-yields closed l.0 p.1.0 pl.0 px.0) λ u a.
      and_then (equal-yields closed l.1 p.1.1 pl.1 px.1) λ u b.
      and_then (equal-yields closed r.0 p.3.0 pr.0 py.0) λ u c.
      weaker (λ u d. record { x1 = a; x2 = b; y1 = c; y2 = d })
      (equal-yields closed r.1 p.3.1 pr.1 py.1)
