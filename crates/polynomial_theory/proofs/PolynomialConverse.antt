-- The Rust accepts every equation of one polynomial, unless a monomial on the left vanishes modulo 2 ^ width
-- (`poly-simp-accepted`): without limits no step refuses, the reduced polynomials have equal coefficients, so their
-- difference has only coefficients 0; and it has none, since no entry of a neat map is 0. Under limits the refusals
-- are limits (`poly-simp-refused`).
use mathlib.Core.Path.{◌≡◌, refl, sym, ◌∙◌, ap, subst}
use mathlib.Core.Bool.{Bool, true, false}
use mathlib.Core.Logic.{◌⊎◌, inl, inr, ⊎_elim}
use mathlib.Core.List.{List, [], ◌∷◌}
use Prim.Native.Nat.{ℕ, ◌^◌}
use native.Mathlib.Omega.{arith}
use borrow.Author.Tests.{eqb-true}
use lib.IntN.{pos}
use Rattle.numbers.specs.Rational.{Rational, Lowest, whole, is_zero, modulo}
use Rattle.terms.specs.Operator.{Equals}
use Rattle.terms.specs.Term.{Sort, Term, sort, binary}
use Rattle.terms.specs.Term.Sort.{bool, int, real, bits}
use Rattle.numbers.proofs.Ring.{◌⊖◌, 𝟘, 𝟙, ◌≐◌, ◌·◌, ◌and◌, ◌from◌, derive}
use Rattle.numbers.proofs.Truths.{never}
use Rattle.book.proofs.BookTerms.{Closed}
use Rattle.rules.specs.Refusal.{Result, ◌>>=◌, assert, or_else}
use Rattle.rules.specs.declared.refusal.Refusal.{Refusal}
use Rattle.rules.specs.declared.refusal.Refusal.TheVariants.{PolynomialsNotEqual}
use Rattle.std.specs.Prelude.{Ok, Err}
use Rattle.rules.specs.Limits.{Limits, the_rust}
use Rattle.index_map.specs.IndexMap.{Map, combination, Walked}
use Rattle.rules.specs.Shapes.{only_literal}
use Rattle.polynomial.specs.Polynomial.{Polynomial, Monomial, monomials, is_nought}
use Rattle.polynomial_walk.specs.PolynomialTerms.{from_term}
use Rattle.poly_simp.specs.PolySimp.{modulo_all, reduced, poly_simp}
use Rattle.alethe.specs.AletheTerms.{Departures, Products, nought, same_atoms, coefficient_in}
use Rattle.alethe.specs.Alethe.{SamePolynomial, PolySimp, Is2, is}
use Rattle.alethe.specs.AletheDifferences.{VanishingMonomial}
use Rattle.rules_theory.proofs.Limited.{IsLimit, ◌≼◌}
use Rattle.polynomial_theory.proofs.LimitedPolynomial.{poly_simp-limited}
use Rattle.rules.proofs.Yields.{at_ok}
use Rattle.rules_theory.proofs.IndexMaps.{Values, worth, EntriesOf, CombinationOf, Amounts, sub-amounts}
use Rattle.polynomial_theory.proofs.MonomialLaws.{AllKnown}
use Rattle.polynomial_theory.proofs.ProductRing.{product_ring, constants}
use Rattle.polynomial_theory.proofs.Expansions.{amount}
use Rattle.polynomial_theory.proofs.Coefficients.{variable, coefficients-equal}
use Rattle.polynomial_theory.proofs.GroupedProducts.{amounts-equal}
use Rattle.polynomial_theory.proofs.SortedMonomials.{Proper, proper-some}
use Rattle.polynomial_theory.proofs.NeatMaps.{answer, Fresh, Keyed, neat_keyed, sub-neat}
use Rattle.polynomial_theory.proofs.NeatMaps.Neat.{empty, entry}
use Rattle.polynomial_theory.proofs.NeatPolynomials.{Full}
use Rattle.polynomial_theory.proofs.CollectedProducts.{entries_of, products_of, first_coefficient}
use Rattle.polynomial_theory.proofs.CollectedProducts.{later-coefficient, reduce, reduced-good, reduced_keyed}
use Rattle.polynomial_theory.proofs.CollectedProducts.{entries-other, keyed_other}
use Rattle.polynomial_theory.proofs.CollectedPolynomials.{polynomial_values, worth-amount, products-good}
use Rattle.polynomial_theory.proofs.CollectedPolynomials.{Collects, from_term-collects}
use Rattle.polynomial_theory.proofs.PolynomialsEqual.{compared, reduced-collects, equated}

-- ---- an entry that vanishes modulo n

pub record Vanishes (n : ℕ) (m : Map Monomial) : Type 0 where
  pub monomial : Monomial
  pub number : Rational
  pub proper : Proper monomial
  pub some : is_zero number ≡ false
  pub vanishes : modulo number.num n ≡ 0
  pub inside : (k : Monomial) → Fresh k m → same_atoms k monomial ≡ false
  pub is : coefficient_in monomial (entries_of m) ≡ number

modulo-fresh : (n : ℕ) (k : Monomial) (m : Map Monomial) → Fresh k m → Fresh k (modulo_all n m)
unfolding modulo_all
modulo-fresh n k [] h = tt
modulo-fresh n k (e ∷ m) h = (h.0, modulo-fresh n k m h.1)

module _ (P : Term → Type 0) (n : ℕ) where
  -- none does, or one is found
  search_vanishing : {m : Map Monomial} → Full m → EntriesOf (AllKnown P) Lowest m →
      Full (modulo_all n m) ⊎ Vanishes n m
  unfolding modulo_all entries_of is_zero
  search_vanishing empty g = inl empty
  search_vanishing (entry {e} {m} p z f h) (ge, g) =
      go (is_zero (whole (pos (modulo e.1.num n)))) refl (search_vanishing h g)
    where
      go : (b : Bool) → is_zero (whole (pos (modulo e.1.num n))) ≡ b → Full (modulo_all n m) ⊎ Vanishes n m →
          Full (modulo_all n (e ∷ m)) ⊎ Vanishes n (e ∷ m)
      go true t r =
          inr
          (record {
            monomial = e.0;
            number = e.1;
            proper = p;
            some = z;
            vanishes = eqb-true (modulo e.1.num n) 0 t;
            inside = λ k d. d.0;
            is = first_coefficient (e.1, e.0) (entries_of m) ge.good (entries-other e.0 m f);
          })
      go false t (inl r) = inl (entry p t (modulo-fresh n e.0 m f) r)
      go false t (inr v) =
          inr
          (record {
            monomial = v.monomial;
            number = v.number;
            proper = v.proper;
            some = v.some;
            vanishes = v.vanishes;
            inside = λ k d. v.inside k d.1;
            is = later-coefficient v.monomial (e.1, e.0) (entries_of m) (v.inside e.0 f) ∙ v.is;
          })

-- ---- coefficients 0 leave nothing

zero_of : {q : Rational} → q ≡ nought → is_zero q ≡ true
unfolding is_zero
zero_of e = ap is_zero e

module _ (P : Term → Type 0) (c : Rational) (lc : Lowest c) where
  no_constant : (m : Map Monomial) → Full m → coefficient_in [] ((c, []) ∷ entries_of m) ≡ nought → is_zero c ≡ true
  no_constant m f e = zero_of (sym (first_coefficient (c, []) (entries_of m) lc (keyed_other m (neat_keyed f))) ∙ e)

  nothing_left : {m : Map Monomial} → Full m → EntriesOf (AllKnown P) Lowest m →
      ((ts : List Term) → coefficient_in ts ((c, []) ∷ entries_of m) ≡ nought) → is_nought (combination m c) ≡ true
  unfolding entries_of
  nothing_left empty g e = no_constant [] empty (e [])
  nothing_left (entry {e = x} {m} p z f h) (gx, g) e =
      never
      (sym z
      ∙ zero_of
      (sym
      (later-coefficient x.0 (c, []) ((x.1, x.0) ∷ entries_of m) (proper-some x.0 p)
      ∙ first_coefficient (x.1, x.0) (entries_of m) gx.good (entries-other x.0 m f))
      ∙ e x.0))

-- ---- the run

goes_on : {A B : Type 0} {x : Result A} {a : A} (f : A → Result B) → x ≡ Ok a → (x >>= f) ≡ f a
unfolding ◌>>=◌
goes_on f e = ap (λ x. x >>= f) e

simp-compares : (l : Limits) {t s phi : Term} → Is2 Equals t s phi → (n : ℕ) →
    poly_simp l (phi ∷ []) n ≡ compared l (sort t) t s n
unfolding poly_simp only_literal ◌>>=◌ or_else binary
simp-compares l (is i) n = refl

same-reduced : {by : Departures} {t s : Term} {m n : Products} → SamePolynomial by t s m n → (ts : List Term) →
    reduce (sort t) (coefficient_in ts m) ≡ reduce (sort t) (coefficient_in ts n)
unfolding reduce
same-reduced {t = t} (SamePolynomial.numbers a b e) ts = ap (reduce (sort t)) (e ts)
same-reduced {t = t} {m = m} {n} (SamePolynomial.vectors w a b e) ts =
    subst (λ (s : Sort). reduce s (coefficient_in ts m) ≡ reduce s (coefficient_in ts n)) (sym a)
    (ap (λ (k : ℕ). whole (pos k)) (e ts))
same-reduced {t = t} (SamePolynomial.other_sort g a e) ts = ap (reduce (sort t)) (e ts)

-- ---- the rule

module _ {P : Term → Type 0} (closed : Closed P) where
  abbrev S : Values monomials
  S = polynomial_values closed

  -- equal coefficients leave a difference of nothing
  module _ (a b d : Polynomial) (ga : CombinationOf (AllKnown P) Lowest a) (gb : CombinationOf (AllKnown P) Lowest b)
      (ka : Keyed a.entries) (kb : Keyed b.entries) (fd : Full d.entries)
      (h : Amounts S d (product_ring.add (worth S a) (product_ring.neg (worth S b))))
      (e : (ts : List Term) → coefficient_in ts (products_of a) ≡ coefficient_in ts (products_of b)) where
    worth-nought : worth S d ≡ product_ring.ι (pos 0)
    worth-nought =
        derive product_ring (worth S a ∷ worth S b ∷ worth S d ∷ [])
        (λ a b d. d ≐ 𝟘 from 𝟙 · d ≐ a ⊖ b and 𝟙 · a ≐ b) tt h.is
        (worth-amount closed a ka
        ∙ amounts-equal constants P variable (λ s t p q k. ap variable (closed.known s t p q k))
        (products_of a) (products_of b) (products-good closed a ga) (products-good closed b gb) (λ ts. ap constants.number (e ts))
        ∙ sym (worth-amount closed b kb))

    difference-nought : is_nought d ≡ true
    unfolding amount coefficient_in
    difference-nought =
        nothing_left P d.constant h.good.constant fd h.good.entries
        (coefficients-equal P (products_of d) [] (products-good closed d h.good) tt
        (sym (worth-amount closed d (neat_keyed fd)) ∙ worth-nought))

  -- where no entry of the left polynomial vanishes
  accepted : (a : Sort) (t s : Term) (n : ℕ) (p q : Walked Monomial) {m k : Products} →
      from_term the_rust t n ≡ Ok p → from_term the_rust s p.visits ≡ Ok q →
      Collects closed m p.sum → Collects closed k q.sum →
      ((ts : List Term) → reduce a (coefficient_in ts m) ≡ reduce a (coefficient_in ts k)) →
      Full (reduced a p.sum).entries →
      compared the_rust a t s n ≡ Ok q.visits
  unfolding assert
  accepted a t s n p q ep eq h j e f =
      let kp = reduced_keyed a p.sum (neat_keyed h.full) in
      let kq = reduced_keyed a q.sum (neat_keyed j.full) in
      let gp = reduced-good P a p.sum h.good in
      let gq = reduced-good P a q.sum j.good in
      let d =
      answer (sub-neat (λ q. is_zero q ≡ false) (λ q z. z) the_rust (reduced a p.sum) (reduced a q.sum) f kq) in
      let w = at_ok (sub-amounts S the_rust (reduced a p.sum) (reduced a q.sum) gp gq) d.is in
      goes_on _ ep ∙ goes_on _ eq ∙ goes_on _ d.is
      ∙ goes_on _
      (ap (λ (b : Bool). assert b PolynomialsNotEqual)
      (difference-nought (reduced a p.sum) (reduced a q.sum) d.value gp gq kp kq d.holds w
      (λ ts. reduced-collects closed a p.sum h ts ∙ e ts ∙ sym (reduced-collects closed a q.sum j ts))))

  -- no entry vanishes, or one does
  search_reduced : (a : Sort) (p : Polynomial) → Full p.entries → CombinationOf (AllKnown P) Lowest p →
      Full (reduced a p).entries ⊎ ((w : ℕ) × (a ≡ bits w) × Vanishes (2 ^ w) p.entries)
  unfolding reduced
  search_reduced bool p f g = inl f
  search_reduced int p f g = inl f
  search_reduced real p f g = inl f
  search_reduced (bits w) p f g = ⊎_elim inl (λ v. inr (w, refl, v)) (search_vanishing P (2 ^ w) f g.entries)

  module _ (by : Departures) (phi : Term) (p : P phi) (h : PolySimp by phi) (n : ℕ) where
    vanishing : (q : Polynomial) → Collects closed h.left q → (w : ℕ) → sort h.t ≡ bits w →
        Vanishes (2 ^ w) q.entries → VanishingMonomial by phi
    vanishing q c w e v =
        let is : coefficient_in v.monomial h.left ≡ v.number =
        c.coefficients v.monomial
        ∙ later-coefficient v.monomial (q.constant, []) (entries_of q.entries)
        (proper-some v.monomial v.proper)
        ∙ v.is in
        record {
          simplified = h;
          width = w;
          vectors = e;
          monomial = v.monomial;
          some = ap is_zero is ∙ v.some;
          vanishes = ap (λ (q : Rational). modulo q.num (2 ^ w)) is ∙ v.vanishes;
        }

    pub poly-simp-accepted : ((m : ℕ) × (poly_simp the_rust (phi ∷ []) n ≡ Ok m)) ⊎ VanishingMonomial by phi
    poly-simp-accepted =
        let sides = equated closed h.conclusion p in
        let x = answer (from_term-collects closed the_rust h.left_side sides.left n) in
        let y = answer (from_term-collects closed the_rust h.right_side sides.right x.value.visits) in
        ⊎_elim
        (λ f.
        inl (
          y.value.visits,
          simp-compares the_rust h.conclusion n
              ∙ accepted (sort h.t) h.t h.s n x.value y.value x.is y.is x.holds y.holds
              (same-reduced h.same) f,
        ))
        (λ v. inr (vanishing x.value.sum x.holds v.0 v.1 v.2))
        (search_reduced (sort h.t) x.value.sum x.holds.full x.holds.good)

    -- under any limits
    pub poly-simp-refused : (l : Limits) (r : Refusal) → poly_simp l (phi ∷ []) n ≡ Err r →
        IsLimit r ⊎ VanishingMonomial by phi
    poly-simp-refused l r e = ⊎_elim (λ a. inl (limit (poly_simp-limited l (phi ∷ []) n) e a.1)) inr poly-simp-accepted
      where
        limit : {x y : Result ℕ} {m : ℕ} → x ≼ y → x ≡ Err r → y ≡ Ok m → IsLimit r
        limit (◌≼◌.equal x) e a = let z : ◌≡◌ {A = ℕ} 0 1 = cc in absurd (omega arith)
        limit (◌≼◌.stopped {r = q} i) e a = let k : q ≡ r = cc in subst IsLimit k i
