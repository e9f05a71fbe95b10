-- poly_simp_rel is sound (`poly-simp_rel_sound`): where the premise is true, so is the conclusion. Of numbers see
-- RelationNumbers. Of bit-vectors the premise says that c1 (x1 - x2) and c2 (y1 - y2) are congruent modulo 2 ^ w,
-- where the odd c1 and c2 are cancelled: the one difference is 0 where the other is, and bit-vectors that are
-- congruent are equal.
use mathlib.Core.Path.{◌≡◌, refl, sym, ◌∙◌, ap}
use mathlib.Core.Bool.{true, ◌&&◌}
use mathlib.Core.List.{[], ◌∷◌}
use mathlib.Core.Logic.{⊎_elim}
use Prim.Native.Nat.{ℕ, ◌%◌, ◌/◌, ◌^◌}
use native.Mathlib.Nat.{div-add-mod'}
use native.Mathlib.Omega.{arith}
use lib.IntN.{ℤ, pos, ◌-ℤ◌, ◌*ℤ◌}
use Rattle.numbers.specs.Pair.{whole_p, eq_p}
use Rattle.numbers.specs.Rational.{modulo}
use Rattle.terms.specs.Operator.{Equals, BvSub, BvMul}
use Rattle.terms.specs.Term.{Sort, Term, Terms, sort, sorts, same_sort, is_bits, all, first, takes, gives}
use Rattle.numbers.specs.Choice.{when◌then◌else◌}
use Rattle.terms.specs.Term.Sort.{bits}
use Rattle.terms.specs.Term.Term.{bitvector}
use Rattle.terms.specs.Term.Terms.{nil, ◌▹◌}
use Rattle.terms.specs.Smtlib.{Assignment, as_vector, is_true, truth, value, values, meaning, sum_z, product_z, width_of}
use Rattle.numbers.proofs.Integers.{◌⊕◌, ◌⊖◌, ◌⊗◌, neg, 𝟘, 𝟙, ◌≐◌, ◌·◌, ◌from◌, deriveℤ, solveℤ, *ℤ_idr}
use Rattle.numbers.proofs.Truths.{both, same_test}
use Rattle.numbers.proofs.Comparisons.{of_eq_p, eq_p-refl}
use Rattle.book.proofs.WellFormed.{WellFormed}
use Rattle.numbers.proofs.Modulo.{Cong, cong_refl, cong_sym, cong_trans, cong_of_eq, cong_mul, modulo_cong, two_pow_pos}
use Rattle.numbers.proofs.Modulo.{odd, odd_cancel_zero}
use Rattle.book.proofs.Vectors.{not_vector, by_vector-operator, width_is, width_positive, argument-sort, vector-value}
use Rattle.book.proofs.Vectors.{equal-vectors}
use Rattle.alethe.specs.Alethe.{Departures, Is2, is, IsRelation, equals, ScaledVectors, PolySimpRel}
use Rattle.alethe.proofs.Literals.{test, at, says, relation-value, relation-says}
use Rattle.rules_theory.proofs.Shapes.{arguments-formed}
use Rattle.polynomial_theory.proofs.PolynomialsEqual.{Sides, no_vectors, vectors, equation-sides}
use Rattle.polynomial_theory.proofs.RelationNumbers.{equation-true, equality-alike, numbers-alike}

-- ---- odd factors

odd_number : (n : ℕ) → n % 2 ≡ 1 → pos n ≡ odd (pos (n / 2))
odd_number n e = ap pos (omega (arith, div-add-mod' n 2, e))

-- where m (x - y) and n (u - v) are congruent and x is y, so are u and v
difference_follows :
    (w m n : ℕ) (x y u v : ℤ) → n % 2 ≡ 1 → Cong (2 ^ w) (pos m *ℤ (x -ℤ y)) (pos n *ℤ (u -ℤ v)) → x ≡ y →
    Cong (2 ^ w) u v
difference_follows w m n x y u v o c e =
    record {
      factor = d.factor;
      differ =
          deriveℤ (u ∷ v ∷ d.factor ∷ pos (2 ^ w) ∷ []) (λ u v k m. u ≐ v ⊕ k ⊗ m from 𝟙 · u ⊖ v ≐ 𝟘 ⊕ k ⊗ m) tt
          d.differ;
    }
  where
    nought : pos m *ℤ (x -ℤ y) ≡ pos 0
    nought = deriveℤ (pos m ∷ x ∷ y ∷ []) (λ m x y. m ⊗ (x ⊖ y) ≐ 𝟘 from m · x ≐ y) tt e

    d : Cong (2 ^ w) (u -ℤ v) (pos 0)
    d =
        odd_cancel_zero w (pos (n / 2)) (u -ℤ v)
        (cong_trans (cong_of_eq (ap (λ (k : ℤ). k *ℤ (u -ℤ v)) (sym (odd_number n o))))
        (cong_trans (cong_sym c) (cong_of_eq nought)))

-- ---- terms of sort bits w

record Sized (w : ℕ) (t : Term) : Type 0 where
  formed : WellFormed t
  sized : sort t ≡ bits w

module _ (w : ℕ) where
  -- both sides of an equation have one sort
  same_width : {t s e : Term} → Is2 Equals t s e → WellFormed e → sort t ≡ bits w → sort s ≡ bits w
  same_width {t} {s} (is i) f = go (equation-sides i t s f)
    where
      go : {a b : Sort} → Sides a b → a ≡ bits w → b ≡ bits w
      go (no_vectors ea eb) e = not_vector _ ea e
      go (vectors v p) e = e

  -- the arguments of an operation of sort bits w have its sort
  vector-arguments : {o : ℕ} {a b t : Term} → Is2 o a b t → Sized w t → Sized w a × Sized w b
  unfolding WellFormed sort sorts takes gives when◌then◌else◌ all
  vector-arguments {o} {a} {b} (is i) h =
      let k = by_vector-operator
      (λ o.
      takes o (sorts ts) ≡ true → gives o (sorts ts) ≡ bits w → (sort a ≡ bits w) × (sort b ≡ bits w))
      o ts h.formed.0 h.sized go go go go h.formed.0.sorted h.sized in
      (record { formed = h.formed.1.0; sized = k.0 }, record { formed = h.formed.1.1.0; sized = k.1 })
    where
      ts : Terms
      ts = a ▹ b ▹ nil

      go :
          (is_bits (sort a) && all (same_sort (sort a)) (sort a ∷ sort b ∷ [])) ≡ true → sort a ≡ bits w →
          (sort a ≡ bits w) × (sort b ≡ bits w)
      go t e =
          let k = both (same_sort (sort a) (sort a)) _ (both (is_bits (sort a)) _ t).1 in (
            e,
            argument-sort w (width_positive a h.formed.1.0 w e) (sort b)
                (rw e at (both (same_sort (sort a) (sort b)) true k.1).0),
          )

-- ---- values modulo 2 ^ w

module _ (w : ℕ) (ρ : Assignment) where
  -- the number that a bit-vector stands for
  abbrev bits_at : Term → ℤ
  bits_at t = as_vector (value ρ t)

  remainder_cong :
      (ts : Terms) (z : ℤ) → first (sorts ts) ≡ bits w → Cong (2 ^ w) (pos (modulo z (2 ^ width_of ts))) z
  remainder_cong ts z e = rw (width_is w ts e) (cong_sym (modulo_cong (2 ^ w) (two_pow_pos w) z))

  difference_cong :
      {x y d : Term} → Is2 BvSub x y d → Sized w d → Cong (2 ^ w) (bits_at d) (bits_at x -ℤ bits_at y)
  unfolding value values meaning when◌then◌else◌ sum_z sorts
  difference_cong {x} {y} (is i) h =
      cong_trans (remainder_cong (x ▹ y ▹ nil) _ (vector-arguments w {o = BvSub} (is i) h).0.sized)
      (cong_of_eq (solveℤ (bits_at x ∷ bits_at y ∷ []) (λ x y. x ⊕ neg (y ⊕ 𝟘) ≐ x ⊖ y) tt))

  product_cong : {c d t : Term} → Is2 BvMul c d t → Sized w t → Cong (2 ^ w) (bits_at t) (bits_at c *ℤ bits_at d)
  unfolding value values meaning when◌then◌else◌ product_z sorts
  product_cong {c} {d} (is i) h =
      cong_trans (remainder_cong (c ▹ d ▹ nil) _ (vector-arguments w {o = BvMul} (is i) h).0.sized)
      (cong_of_eq (solveℤ (bits_at c ∷ bits_at d ∷ []) (λ c d. c ⊗ (d ⊗ 𝟙) ≐ c ⊗ d) tt))

  -- (bvmul n (bvsub x y))
  multiple_cong :
      {x y d t : Term} {i n v : ℕ} → Is2 BvSub x y d → Is2 BvMul (bitvector i n v) d t → Sized w t →
      Cong (2 ^ w) (bits_at t) (pos n *ℤ (bits_at x -ℤ bits_at y))
  unfolding value
  multiple_cong {n = n} f g h =
      cong_trans (product_cong g h)
      (cong_mul (cong_refl (pos n)) (difference_cong f (vector-arguments w g h).1))

  -- an equation of bit-vectors is one of the numbers that they stand for
  equal-bits : {s t : Term} → Sized w s → Sized w t → eq_p (at ρ s) (at ρ t) ≡ true → bits_at s ≡ bits_at t
  equal-bits {s} {t} f g e =
      let x = vector-value s f.formed w f.sized ρ in
      let y = vector-value t g.formed w g.sized ρ in
      rw (x.is, y.is)
      (sym (*ℤ_idr (pos x.bits_of))
      ∙ of_eq_p (whole_p (pos x.bits_of)) (whole_p (pos y.bits_of)) (rw (x.is, y.is) at e)
      ∙ *ℤ_idr (pos y.bits_of))

  of_congruent :
      {s t : Term} → Sized w s → Sized w t → Cong (2 ^ w) (bits_at s) (bits_at t) →
      eq_p (at ρ s) (at ρ t) ≡ true
  of_congruent {s} {t} f g c =
      let x = vector-value s f.formed w f.sized ρ in
      let y = vector-value t g.formed w g.sized ρ in
      rw (equal-vectors w x y c) (eq_p-refl (at ρ t))

  -- where a multiple of x1 - x2 and an odd one of y1 - y2 are congruent and x1 is x2, y1 is y2
  vectors_follow :
      {x1 x2 y1 y2 : Term} (m n : ℕ) → Sized w x1 → Sized w x2 → Sized w y1 → Sized w y2 → n % 2 ≡ 1 →
      Cong (2 ^ w) (pos m *ℤ (bits_at x1 -ℤ bits_at x2)) (pos n *ℤ (bits_at y1 -ℤ bits_at y2)) →
      eq_p (at ρ x1) (at ρ x2) ≡ true → eq_p (at ρ y1) (at ρ y2) ≡ true
  vectors_follow {x1} {x2} {y1} {y2} m n sx1 sx2 sy1 sy2 o c e =
      of_congruent sy1 sy2
      (difference_follows w m n (bits_at x1) (bits_at x2) (bits_at y1) (bits_at y2) o c (equal-bits sx1 sx2 e))

module _ (ρ : Assignment) where
  vectors-alike :
      {o : ℕ} {premise x1 x2 y1 y2 : Term} → WellFormed premise → ScaledVectors o premise x1 x2 y1 y2 →
      says ρ premise ≡ true → eq_p (at ρ x1) (at ρ x2) ≡ eq_p (at ρ y1) (at ρ y2)
  unfolding WellFormed sort sorts gives when◌then◌else◌
  vectors-alike {x1 = x1} {x2} {y1} {y2} f s e =
      let ws = arguments-formed s.equation f in
      let w = s.w1 in
      let left : Sized w s.left = record { formed = ws.0; sized = product-sort s.left_product } in
      let right : Sized w s.right =
      record { formed = ws.1.0; sized = same_width w s.equation f left.sized } in
      let xs = vector-arguments w s.left_difference (vector-arguments w s.left_product left).1 in
      let ys = vector-arguments w s.right_difference (vector-arguments w s.right_product right).1 in
      let c = cong_trans (cong_sym (multiple_cong w ρ s.left_difference s.left_product left))
      (cong_trans (cong_of_eq (equal-bits w ρ left right (equation-true ρ s.equation e)))
      (multiple_cong w ρ s.right_difference s.right_product right)) in
      same_test (eq_p (at ρ x1) (at ρ x2)) (eq_p (at ρ y1) (at ρ y2))
      (vectors_follow w ρ s.n1 s.n2 xs.0 xs.1 ys.0 ys.1 s.second_odd c)
      (vectors_follow w ρ s.n2 s.n1 ys.0 ys.1 xs.0 xs.1 s.first_odd (cong_sym c))
    where
      product-sort : {i n w : ℕ} {d t : Term} → Is2 BvMul (bitvector i n w) d t → sort t ≡ bits w
      product-sort (is j) = refl

  -- ---- the rule

  -- two relations that say the same make a true equation
  conclusion-true :
      {o : ℕ} (r : IsRelation o) {phi left right x1 x2 y1 y2 : Term} → Is2 o x1 x2 left → Is2 o y1 y2 right →
      Is2 Equals left right phi → test r (at ρ x1) (at ρ x2) ≡ test r (at ρ y1) (at ρ y2) → says ρ phi ≡ true
  conclusion-true r {left = left} {right} a b c e =
      let same : value ρ left ≡ value ρ right = relation-value ρ r a ∙ ap truth e ∙ sym (relation-value ρ r b) in
      relation-says ρ equals c ∙ rw same (eq_p-refl (at ρ right))

  premise-alike :
      (by : Departures) {premise phi : Term} → WellFormed premise → (s : PolySimpRel by premise phi) →
      says ρ premise ≡ true →
      test s.relation (at ρ s.x1) (at ρ s.x2) ≡ test s.relation (at ρ s.y1) (at ρ s.y2)
  premise-alike by w s e =
      ⊎_elim (λ n. numbers-alike by ρ s.relation w n e)
      (λ v.
      equality-alike s.relation v.relation (at ρ s.x1) (at ρ s.x2) (at ρ s.y1) (at ρ s.y2)
      (vectors-alike w v e))
      s.premise_form

pub poly-simp_rel_sound :
    (by : Departures) {premise phi : Term} → WellFormed premise → PolySimpRel by premise phi → (ρ : Assignment) →
    is_true (value ρ premise) ≡ true → is_true (value ρ phi) ≡ true
poly-simp_rel_sound by w s ρ e =
    conclusion-true ρ s.relation s.left_side s.right_side s.conclusion (premise-alike ρ by w s e)
