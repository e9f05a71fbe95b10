-- The limits theorem for polynomials and rules 7 and 8: `poly_simp-limited` and `poly_simp_rel-limited`.
use mathlib.Core.Path.{refl}
use mathlib.Core.List.{List, [], ◌∷◌}
use Prim.Native.Nat.{ℕ, suc}
use lib.IntN.{pos}
use Rattle.numbers.specs.Rational.{Rational, whole, neg_q}
use Rattle.terms.specs.Term.{Term, Terms, sort}
use Rattle.terms.specs.Term.Term.{integer, rational, bitvector, atom, op}
use Rattle.terms.specs.Term.Terms.{nil, ◌▹◌}
use Rattle.terms.specs.Operator.{BvMul, BvSub}
use Rattle.terms.specs.Readers.{as_bitvector}
use Rattle.rules.specs.Refusal.{Result}
use Rattle.std.specs.Prelude.{Ok, Err}
use Rattle.rules.specs.Limits.{Limits, the_rust}
use Rattle.index_map.specs.IndexMap.{Map, Walked, walked, new, combination, insert}
use Rattle.rules.specs.Shapes.{Clause}
use Rattle.polynomial.specs.Polynomial.{Monomial, Polynomial, joined, monomials, mul_each, mul_left, insert_scaled, mul}
use Rattle.polynomial_walk.specs.PolynomialTerms.{Arm, arm_of, add_leaf, divisor_of, add_term, add_args, add_difference}
use Rattle.polynomial_walk.specs.PolynomialTerms.{add_first, first_factor, other_factors, from_term}
use Rattle.polynomial_rel.specs.PolySimpRel.{Scaled, scaled, number_case, poly_simp_rel}
use Rattle.poly_simp.specs.PolySimp.{reduced, poly_simp}
use Rattle.polynomial_walk.specs.PolynomialTerms.Arm.{sum, negation, difference, product, quotient, leaf}
use Rattle.rules_theory.proofs.Limited.{◌≼◌, bind, maybe, tested, fraction_of-limited, fraction_err-limited}
use Rattle.rules_theory.proofs.Limited.{times-limited, over-limited, insert-limited, sub-limited, visit-limited}
use Rattle.rules_theory.proofs.Limited.{add_entry-limited, add_constant-limited, add_product-limited, Unbounded}
use Rattle.rules_theory.proofs.Limited.◌≼◌.{equal}
use Rattle.rules_theory.proofs.Limited.IsLimit.{twelve}
use Rattle.std.specs.Prelude.{Option, Some, None}

-- ---- products

free : Unbounded monomials
free n = refl

module _ (l : Limits) where
  insert_monomial_limited : (m : Map Monomial) (key : Monomial) (v : Rational) →
      insert monomials l m key v ≼ insert monomials the_rust m key v
  insert_monomial_limited = insert-limited monomials free l

  mul_each-limited : (x : Monomial) (c : Rational) (r m : Map Monomial) →
      mul_each l x c r m ≼ mul_each the_rust x c r m
  unfolding mul_each
  mul_each-limited x c [] m = equal _
  mul_each-limited x c (e ∷ r) m =
      bind (tested _ _ refl twelve) λ u.
      bind (times-limited l c e.1) λ k.
      bind (insert_monomial_limited m (joined x e.0) k) λ m'. mul_each-limited x c r m'

  mul_left-limited : (p : Map Monomial) (q : Polynomial) (m : Map Monomial) →
      mul_left l p q m ≼ mul_left the_rust p q m
  unfolding mul_left
  mul_left-limited [] q m = equal _
  mul_left-limited (e ∷ r) q m =
      bind (mul_each-limited e.0 e.1 q.entries m) λ m1.
      bind (times-limited l e.1 q.constant) λ c.
      bind (insert_monomial_limited m1 e.0 c) λ m2. mul_left-limited r q m2

  insert_scaled-limited : (p : Map Monomial) (k : Rational) (m : Map Monomial) →
      insert_scaled l p k m ≼ insert_scaled the_rust p k m
  unfolding insert_scaled
  insert_scaled-limited [] k m = equal _
  insert_scaled-limited (e ∷ r) k m =
      bind (times-limited l e.1 k) λ c.
      bind (insert_monomial_limited m e.0 c) λ m'. insert_scaled-limited r k m'

  mul-limited : (p q : Polynomial) → mul l p q ≼ mul the_rust p q
  unfolding mul
  mul-limited p q =
      bind (mul_left-limited p.entries q []) λ m1.
      bind (insert_scaled-limited q.entries p.constant m1) λ m2.
      bind (times-limited l p.constant q.constant) λ c. equal _

-- ---- the walk

module _ {A : Type 0} where
  at_arm_lem : {a b c d e f a' b' c' d' e' f' : Result A} (k : Arm) → a ≼ a' → b ≼ b' → c ≼ c' → d ≼ d' → e ≼ e' →
      f ≼ f' →
      ◌≼◌ {A = A} (elim k [ sum ↦ a | negation ↦ b | difference ↦ c | product ↦ d | quotient ↦ e | leaf ↦ f ])
      (elim k [ sum ↦ a' | negation ↦ b' | difference ↦ c' | product ↦ d' | quotient ↦ e' | leaf ↦ f' ])
  at_arm_lem sum p q r s t u = p
  at_arm_lem negation p q r s t u = q
  at_arm_lem difference p q r s t u = r
  at_arm_lem product p q r s t u = s
  at_arm_lem quotient p q r s t u = t
  at_arm_lem leaf p q r s t u = u

  at_bits : {f f' : ℕ → ℕ → Result A} {y y' : Result A} (b : Option (ℕ × ℕ)) → ((v n : ℕ) → f v n ≼ f' v n) →
      y ≼ y' → ◌≼◌ {A = A} (elim b [ Some (v, n) ↦ f v n | None ↦ y ])
      (elim b [ Some (v, n) ↦ f' v n | None ↦ y' ])
  at_bits (Some (v, n)) p q = p v n
  at_bits None p q = q

  -- by an attempt, whose refusal does not matter
  at_attempt : {B : Type 0} {f f' : B → Result A} {y y' : Result A} (m : Result B) → ((b : B) → f b ≼ f' b) →
      y ≼ y' → ◌≼◌ {A = A} (elim m [ Ok b ↦ f b | Err r ↦ y ]) (elim m [ Ok b ↦ f' b | Err r ↦ y' ])
  at_attempt (Ok b) p q = p b
  at_attempt (Err r) p q = q

module _ (l : Limits) where
  add_leaf-limited : (t : Term) (c : Rational) (w : Walked Monomial) → add_leaf l t c w ≼ add_leaf the_rust t c w
  unfolding add_leaf
  add_leaf-limited t c w =
      bind (fraction_of-limited l t) λ f.
      maybe f (λ q. add_product-limited l q c w)
      (at_bits (as_bitvector t) (λ v n. add_product-limited l (whole (pos v)) c w)
      (add_entry-limited monomials free l (t ∷ []) c w))

  divisor_of-limited : (ts : Terms) → divisor_of l ts ≼ divisor_of the_rust ts
  unfolding divisor_of
  divisor_of-limited nil = equal _
  divisor_of-limited (a ▹ nil) = equal _
  divisor_of-limited (a ▹ b ▹ ts) = bind (fraction_of-limited l b) λ q. equal _

  mutual
    unfolding add_term

    add_term-limited : (t : Term) (d : ℕ) (c : Rational) (w : Walked Monomial) →
        add_term t l d c w ≼ add_term t the_rust d c w
    add_term-limited (integer i v) d c w = bind (visit-limited l w) (add_leaf-limited (integer i v) c)
    add_term-limited (rational i q) d c w = bind (visit-limited l w) (add_leaf-limited (rational i q) c)
    add_term-limited (bitvector i v n) d c w = bind (visit-limited l w) (add_leaf-limited (bitvector i v n) c)
    add_term-limited (atom i s n) d c w = bind (visit-limited l w) (add_leaf-limited (atom i s n) c)
    add_term-limited (op i o ts) d c w =
        bind (visit-limited l w) λ v.
        at_arm_lem (arm_of o ts)
        (add_args-limited ts d c v)
        (add_args-limited ts d (neg_q c) v)
        (add_difference-limited ts d c v)
        (bind (tested _ _ refl twelve) λ u.
        bind (first_factor-limited ts (suc d) v.visits) λ r.
        bind (insert_scaled-limited l r.sum.entries c v.sum.entries) λ m.
        bind (times-limited l c r.sum.constant) λ k.
        add_constant-limited l k (walked (combination m v.sum.constant) r.visits))
        (bind (divisor_of-limited ts) λ q.
        maybe q (λ r. bind (over-limited l c r) λ k. add_first-limited ts d k v)
        (add_leaf-limited (op i o ts) c v))
        (add_leaf-limited (op i o ts) c v)

    add_args-limited : (ts : Terms) (d : ℕ) (c : Rational) (w : Walked Monomial) →
        add_args ts l d c w ≼ add_args ts the_rust d c w
    add_args-limited nil d c w = equal _
    add_args-limited (t ▹ ts) d c w = bind (add_term-limited t d c w) λ v. add_args-limited ts d c v

    add_difference-limited : (ts : Terms) (d : ℕ) (c : Rational) (w : Walked Monomial) →
        add_difference ts l d c w ≼ add_difference ts the_rust d c w
    add_difference-limited nil d c w = equal _
    add_difference-limited (t ▹ ts) d c w = bind (add_term-limited t d c w) λ v. add_args-limited ts d (neg_q c) v

    add_first-limited : (ts : Terms) (d : ℕ) (c : Rational) (w : Walked Monomial) →
        add_first ts l d c w ≼ add_first ts the_rust d c w
    add_first-limited nil d c w = equal _
    add_first-limited (t ▹ ts) d c w = add_term-limited t d c w

    first_factor-limited : (ts : Terms) (d n : ℕ) → first_factor ts l d n ≼ first_factor ts the_rust d n
    first_factor-limited nil d n = equal _
    first_factor-limited (t ▹ ts) d n =
        bind (add_term-limited t d (whole (pos 1)) (walked new n)) λ p. other_factors-limited ts d p

    other_factors-limited : (ts : Terms) (d : ℕ) (p : Walked Monomial) →
        other_factors ts l d p ≼ other_factors ts the_rust d p
    other_factors-limited nil d p = equal _
    other_factors-limited (t ▹ ts) d p =
        bind (add_term-limited t d (whole (pos 1)) (walked new p.visits)) λ q.
        bind (mul-limited l p.sum q.sum) λ r. other_factors-limited ts d (walked r q.visits)

  from_term-limited : (t : Term) (n : ℕ) → from_term l t n ≼ from_term the_rust t n
  unfolding from_term
  from_term-limited t n = add_term-limited t 0 (whole (pos 1)) (walked new n)

  -- ---- the rules

  pub poly_simp-limited : (c : Clause) (n : ℕ) → poly_simp l c n ≼ poly_simp the_rust c n
  unfolding poly_simp
  poly_simp-limited c n =
      bind (equal _) λ phi.
      bind (equal _) λ (t, s).
      bind (from_term-limited t n) λ p.
      bind (from_term-limited s p.visits) λ q.
      bind (sub-limited monomials free l (reduced (sort t) p.sum) (reduced (sort t) q.sum)) λ d. equal _

  number_case-limited : (p : Scaled) (phi : Term) → number_case l p phi ≼ number_case the_rust p phi
  unfolding number_case
  number_case-limited p phi =
      bind (fraction_err-limited l p.0) λ c1. bind (fraction_err-limited l p.2) λ c2. equal _

  pub poly_simp_rel-limited : (c : Clause) (premises : List Clause) →
      poly_simp_rel l c premises ≼ poly_simp_rel the_rust c premises
  unfolding poly_simp_rel
  poly_simp_rel-limited c premises =
      bind (equal _) λ premise.
      bind (equal _) λ phi.
      bind (equal _) λ t.
      at_attempt (scaled BvMul BvSub t) (λ p. equal _)
      (bind (equal _) λ p. number_case-limited p phi)
