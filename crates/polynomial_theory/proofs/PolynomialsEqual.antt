-- What `poly_simp` accepts is an equation of one polynomial (`poly-simp-form`): the difference of the reduced
-- polynomials has no entries and the constant 0, so they have equal coefficients, and those of the Rust's
-- polynomials are those of the terms' products. Such an equation is true (`poly-simp-valid`): what the products
-- amount to is the value of a term, over the rational numbers or modulo 2 ^ width.
use mathlib.Core.Path.{◌≡◌, refl, sym, ◌∙◌, ap, subst}
use mathlib.Core.Bool.{true, false}
use mathlib.Core.List.{List, [], ◌∷◌}
use Rattle.std.specs.Prelude.{Option, Some, None}
use Prim.Native.Nat.{ℕ, ◌^◌}
use native.Mathlib.Omega.{arith}
use lib.IntN.{pos, nat_abs}
use Rattle.numbers.specs.Pair.{◌≈◌}
use Rattle.numbers.specs.Rational.{Rational, Lowest, modulo}
use Rattle.terms.specs.Operator.{Equals}
use Rattle.terms.specs.Term.{Sort, Term, sort, is_numeric, is_bits, binary, record_number}
use Rattle.terms.specs.Term.Sort.{bool, int, real, bits}
use Rattle.terms.specs.Term.Terms.{nil, ◌▹◌}
use Rattle.terms.specs.Smtlib.{Assignment, Meant, as_pair, value}
use Rattle.numbers.proofs.Ring.{◌⊕◌, ◌⊖◌, neg, 𝟘, 𝟙, ◌≐◌, ◌·◌, ◌and◌, ◌from◌, derive}
use Rattle.numbers.proofs.Truths.{never}
use Rattle.numbers.proofs.Comparisons.{eq_p-true}
use Rattle.terms.proofs.Readings.{binary-shape}
use Rattle.book.proofs.BookTerms.{Closed}
use Rattle.numbers.proofs.Modulo.{two_pow_pos, cong_of_modulo-eq}
use Rattle.numbers.proofs.Quotient.{≈_of_mk-eq}
use Rattle.numbers.proofs.Residues.{residue-eq, cong_of_residue-eq}
use Rattle.book.proofs.Vectors.{width_positive, vector-value, equal-vectors}
use Rattle.rules.specs.Refusal.{Result, ◌>>=◌, assert, or_else}
use Rattle.rules.specs.declared.refusal.Refusal.TheVariants.{PolynomialsNotEqual, TermOfWrongForm}
use Rattle.std.specs.Prelude.{Ok}
use Rattle.rules.specs.Limits.{Limits}
use Rattle.index_map.specs.IndexMap.{Map, combination, sub}
use Rattle.rules.specs.Shapes.{only_literal}
use Rattle.polynomial.specs.Polynomial.{Polynomial, Monomial, monomials, is_nought}
use Rattle.polynomial_walk.specs.PolynomialTerms.{from_term}
use Rattle.poly_simp.specs.PolySimp.{reduced, poly_simp}
use Rattle.alethe.specs.AletheTerms.{Departures, carcara, Products, Expands, coefficient_in}
use Rattle.alethe.specs.Alethe.{SamePolynomial, PolySimp, Is2, is, Valid, equals}
pub use Rattle.alethe.proofs.EquationSides.{Sides, no_vectors, vectors, equation-sides}
use Rattle.alethe.proofs.EquationSides.{other-side, equation_numeric}
use Rattle.alethe.proofs.Literals.{at, relation-says, valid-literal}
use Rattle.rules.proofs.Yields.{Yields, gives, at_ok, and_then, guarded}
use Rattle.rules.proofs.Valuations.{rationals}
use Rattle.rules.proofs.WholeNumbers.{wholes}
use Rattle.rules_theory.proofs.IndexMaps.{Values, total, worth, Amounts, sub-amounts}
use Rattle.polynomial_theory.proofs.NumberReadings.{number_reading, number_no_vector}
use Rattle.polynomial_theory.proofs.VectorReadings.{vector_reading}
use Rattle.polynomial_theory.proofs.ProductRing.{product_ring, constants}
use Rattle.polynomial_theory.proofs.Expansions.{expands_comes}
use Rattle.polynomial_theory.proofs.WrittenOut.{expansion}
use Rattle.polynomial_theory.proofs.Coefficients.{coefficients-equal}
use Rattle.polynomial_theory.proofs.GroupedProducts.{amounts-equal}
use Rattle.polynomial_theory.proofs.NeatMaps.{yields, neat_keyed}
use Rattle.polynomial_theory.proofs.CollectedProducts.{products_of, products-apart, reduce, reduced-coefficient}
use Rattle.polynomial_theory.proofs.CollectedProducts.{reduced-good, reduced_keyed}
use Rattle.polynomial_theory.proofs.CollectedPolynomials.{polynomial_values, worth-amount, products-good, Collects}
use Rattle.polynomial_theory.proofs.CollectedPolynomials.{from_term-collects}

-- ---- what is accepted

-- what `poly_simp` does once it has the two sides
abbrev pub compared : Limits → Sort → Term → Term → ℕ → Result ℕ
compared l a t s n = do
  p ← from_term l t n
  q ← from_term l s p.visits
  d ← sub monomials l (reduced a p.sum) (reduced a q.sum)
  _ ← assert (is_nought d) PolynomialsNotEqual
  Ok q.visits

module _ {P : Term → Type 0} (closed : Closed P) where
  abbrev S : Values monomials
  S = polynomial_values closed

  nought-worth : (m : Map Monomial) (c : Rational) → Lowest c → is_nought (combination m c) ≡ true →
      worth S (combination m c) ≡ product_ring.ι (pos 0)
  unfolding total
  nought-worth [] c l e =
      derive product_ring (constants.number c ∷ []) (λ c. 𝟘 ⊕ c ≐ 𝟘 from 𝟙 · c ≐ 𝟘) tt (constants.number-zero c l e)
  nought-worth (x ∷ m) c l e = never e

  -- the coefficients of a reduced polynomial
  pub reduced-collects : {m : Products} (a : Sort) (p : Polynomial) → Collects closed m p → (ts : List Term) →
      coefficient_in ts (products_of (reduced a p)) ≡ reduce a (coefficient_in ts m)
  reduced-collects a p h ts =
      reduced-coefficient P a p (products-apart p h.full (neat_keyed h.full))
      (products-good closed p h.good) ts
      ∙ ap (reduce a) (sym (h.coefficients ts))

  same-coefficients : {m n : Products} (a : Sort) (p q d : Polynomial) → Collects closed m p → Collects closed n q →
      Amounts S d (product_ring.add (worth S (reduced a p)) (product_ring.neg (worth S (reduced a q)))) →
      is_nought d ≡ true →
      (ts : List Term) → reduce a (coefficient_in ts m) ≡ reduce a (coefficient_in ts n)
  same-coefficients a p q d h k c z ts =
      sym (reduced-collects a p h ts)
      ∙ coefficients-equal P (products_of (reduced a p)) (products_of (reduced a q))
      (products-good closed (reduced a p) (reduced-good P a p h.good))
      (products-good closed (reduced a q) (reduced-good P a q k.good))
      (sym (worth-amount closed (reduced a p) (reduced_keyed a p (neat_keyed h.full)))
      ∙ derive product_ring (worth S (reduced a p) ∷ worth S (reduced a q) ∷ worth S d ∷ [])
      (λ p q d. p ≐ q from 𝟙 · d ≐ 𝟘 and neg 𝟙 · d ≐ p ⊖ q) tt
      (nought-worth d.entries d.constant c.good.constant z) c.is
      ∙ worth-amount closed (reduced a q) (reduced_keyed a q (neat_keyed k.full))) ts
      ∙ reduced-collects a q k ts

  compared_same : (l : Limits) (a : Sort) {t s : Term} {m n : Products} → Expands t m → Expands s n → P t → P s →
      (k : ℕ) →
      Yields (λ v. (ts : List Term) → reduce a (coefficient_in ts m) ≡ reduce a (coefficient_in ts n))
      (compared l a t s k)
  compared_same l a ht hs pt ps k =
      and_then (yields (from_term-collects closed l ht pt k)) λ p h.
      and_then (yields (from_term-collects closed l hs ps p.visits)) λ q j.
      and_then
      (sub-amounts S l (reduced a p.sum) (reduced a q.sum) (reduced-good P a p.sum h.good)
      (reduced-good P a q.sum j.good)) λ d c.
      guarded (is_nought d) _ λ z u. gives (same-coefficients a p.sum q.sum d h j c z)

reduce-number : (a : Sort) → is_bits a ≡ false → (q : Rational) → reduce a q ≡ q
unfolding reduce
reduce-number bool e q = refl
reduce-number int e q = refl
reduce-number real e q = refl
reduce-number (bits w) e q = never (sym e)

reduce-vector : (w : ℕ) (p q : Rational) → reduce (bits w) p ≡ reduce (bits w) q →
    modulo p.num (2 ^ w) ≡ modulo q.num (2 ^ w)
unfolding reduce
reduce-vector w p q e = ap (λ (q : Rational). nat_abs q.num) e

module _ (t s : Term) (m n : Products)
    (e : (ts : List Term) → reduce (sort t) (coefficient_in ts m) ≡ reduce (sort t) (coefficient_in ts n)) where
  equal-numbers : is_bits (sort t) ≡ false → (ts : List Term) → coefficient_in ts m ≡ coefficient_in ts n
  equal-numbers b ts = sym (reduce-number (sort t) b _) ∙ e ts ∙ reduce-number (sort t) b _

  -- by the sorts of the two sides
  no_vectors-same : (a : Sort) → sort t ≡ a → is_bits a ≡ false →
      (is_numeric (sort t) ≡ true → is_numeric (sort s) ≡ true) →
      SamePolynomial carcara t s m n
  no_vectors-same bool p b k = SamePolynomial.other_sort tt p (equal-numbers (ap is_bits p))
  no_vectors-same int p b k = let i = ap is_numeric p in SamePolynomial.numbers i (k i) (equal-numbers (ap is_bits p))
  no_vectors-same real p b k = let i = ap is_numeric p in SamePolynomial.numbers i (k i) (equal-numbers (ap is_bits p))
  no_vectors-same (bits w) p b k = never (sym b)

  sides-same : {a b : Sort} → Sides a b → sort t ≡ a → sort s ≡ b →
      (is_numeric (sort t) ≡ true → is_numeric (sort s) ≡ true) →
      SamePolynomial carcara t s m n
  sides-same (no_vectors {a} ea eb) p q k = no_vectors-same a p ea k
  sides-same (vectors w l) p q k =
      SamePolynomial.vectors w p q λ ts.
      reduce-vector w _ _
      (subst (λ (a : Sort). reduce a (coefficient_in ts m) ≡ reduce a (coefficient_in ts n)) p (e ts))

module _ {P : Term → Type 0} (closed : Closed P) where
  pub poly-simp-form : (l : Limits) (phi : Term) → P phi → (n m : ℕ) → poly_simp l (phi ∷ []) n ≡ Ok m →
      PolySimp carcara phi
  unfolding poly_simp only_literal ◌>>=◌ or_else
  poly-simp-form l phi p n m = go (binary Equals phi) refl
    where
      go :
          (o : Option (Term × Term)) → binary Equals phi ≡ o →
          (or_else o TermOfWrongForm >>= λ (t, s). compared l (sort t) t s n) ≡ Ok m → PolySimp carcara phi
      go (Some (t, s)) b e =
          let i = record_number phi in
          let shape = binary-shape Equals phi (t, s) b in
          let q = subst P shape p in
          let formed = closed.formed _ q in
          let below = closed.below i Equals (t ▹ s ▹ nil) q in
          let x = expansion t (closed.formed t below.0) in
          let y = expansion s (closed.formed s below.1.0) in
          record {
            t = t;
            s = s;
            left = x.0;
            right = y.0;
            conclusion = subst (Is2 Equals t s) (sym shape) (is i);
            left_side = x.1;
            right_side = y.1;
            same =
                sides-same t s x.0 y.0
                (at_ok (compared_same closed l (sort t) x.1 y.1 below.0 below.1.0 n) e)
                (equation-sides i t s formed) refl refl (equation_numeric i t s formed);
          }
      go None b e = let z : ◌≡◌ {A = ℕ} 0 1 = cc in absurd (omega arith)

  -- ---- and it is true

  module _ {t s : Term} {m n : Products} (ht : Expands t m) (hs : Expands s n) (pt : P t) (ps : P s)
      (ρ : Assignment) where
    numbers-equal : is_bits (sort t) ≡ false → is_bits (sort s) ≡ false →
        ((ts : List Term) → coefficient_in ts m ≡ coefficient_in ts n) →
        as_pair (value ρ t) ≈ as_pair (value ρ s)
    numbers-equal bt bs e =
        let T = number_reading ρ closed in
        let x =
        expands_comes T (λ t f. closed.formed t f.of) T.value (λ t f h. refl) ht (record { of = pt; no_vector = bt }) in
        let y =
        expands_comes T (λ t f. closed.formed t f.of) T.value (λ t f h. refl) hs (record { of = ps; no_vector = bs }) in
        ≈_of_mk-eq (as_pair (value ρ t)) (as_pair (value ρ s))
        (sym x.is
        ∙ amounts-equal rationals T.Fits T.value T.respects m n x.good y.good
        (λ ts. ap rationals.number (e ts))
        ∙ y.is)

    vectors-equal : (w : ℕ) → sort t ≡ bits w → sort s ≡ bits w →
        ((ts : List Term) → modulo (coefficient_in ts m).num (2 ^ w) ≡ modulo (coefficient_in ts n).num (2 ^ w)) →
        as_pair (value ρ t) ≈ as_pair (value ρ s)
    vectors-equal w et es e =
        let T = vector_reading w ρ closed (width_positive t (closed.formed t pt) w et) in
        let x =
        expands_comes T (λ t f. closed.formed t f.of) T.value (λ t f h. refl) ht (record { of = pt; sized = et }) in
        let y =
        expands_comes T (λ t f. closed.formed t f.of) T.value (λ t f h. refl) hs (record { of = ps; sized = es }) in
        subst (λ (v : Meant). as_pair (value ρ t) ≈ as_pair v)
        (equal-vectors w (vector-value t (closed.formed t pt) w et ρ) (vector-value s (closed.formed s ps) w es ρ)
        (cong_of_residue-eq (2 ^ w) (two_pow_pos w)
        (sym x.is
        ∙ amounts-equal (wholes (2 ^ w)) T.Fits T.value T.respects m n x.good y.good
        (λ ts. residue-eq (2 ^ w) (cong_of_modulo-eq (2 ^ w) (two_pow_pos w) (e ts)))
        ∙ y.is)))
        refl

    same-value : (by : Departures) → Sides (sort t) (sort s) → SamePolynomial by t s m n →
        as_pair (value ρ t) ≈ as_pair (value ρ s)
    same-value by h (SamePolynomial.numbers a b e) =
        numbers-equal (number_no_vector (sort t) a) (number_no_vector (sort s) b) e
    same-value by h (SamePolynomial.vectors w a b e) = vectors-equal w a b e
    same-value by h (SamePolynomial.other_sort g a e) = numbers-equal (ap is_bits a) (other-side h (ap is_bits a)) e

  -- the two sides of an equation
  pub record Equated (t s : Term) : Type 0 where
    pub left : P t
    pub right : P s
    pub sorts : Sides (sort t) (sort s)

  pub equated : {t s phi : Term} → Is2 Equals t s phi → P phi → Equated t s
  equated {t} {s} (is i) p =
      let below = closed.below i Equals (t ▹ s ▹ nil) p in
      record { left = below.0; right = below.1.0; sorts = equation-sides i t s (closed.formed _ p) }

  pub poly-simp-valid : (by : Departures) → {phi : Term} → P phi → PolySimp by phi → Valid (phi ∷ [])
  poly-simp-valid by {phi} p h =
      let sides = equated h.conclusion p in
      valid-literal phi λ ρ.
      relation-says ρ equals h.conclusion
      ∙ eq_p-true (at ρ h.t) (at ρ h.s)
      (same-value h.left_side h.right_side sides.left sides.right ρ by sides.sorts h.same)
