-- What `add_term` adds to a polynomial: the coefficient times the value of the term, in any ring and under
-- any limits, wherever it is not refused, if the operators that the walk goes into mean what it takes them
-- for (`TermReading`). By recursion over the term and its arguments (`add_term-adds`). So a polynomial that
-- is made from a term has its value (`from_term-amounts`).
use mathlib.Core.Path.{◌≡◌, refl, sym, ◌∙◌, ap, subst}
use mathlib.Core.Bool.{Bool, true, false}
use Rattle.std.specs.Prelude.{Option, Some, None}
use mathlib.Core.List.{[], ◌∷◌}
use Prim.Native.Nat.{ℕ, suc}
use lib.IntN.{pos}
use Rattle.numbers.specs.Rational.{Rational, whole, neg_q, is_zero}
use Rattle.terms.specs.Term.{Term, Terms}
use Rattle.terms.specs.Term.Term.{integer, rational, bitvector, atom, op}
use Rattle.terms.specs.Term.Terms.{nil, ◌▹◌}
use Rattle.terms.specs.Readers.{as_bitvector}
use Rattle.book.proofs.BookTerms.{Each}
use Rattle.numbers.proofs.Ring.{Ring, ◌⊕◌, ◌⊗◌, neg, 𝟘, 𝟙, ◌≐◌, ◌·◌, ◌and◌, ◌from◌, solve, derive}
use Rattle.rules.specs.Refusal.{Result, ◌>>=◌}
use Rattle.std.specs.Prelude.{Ok}
use Rattle.rules.specs.Limits.{Limits, times, over}
use Rattle.index_map.specs.IndexMap.{combination, new, Walked, walked, visit, add_entry, add_constant}
use Rattle.polynomial.specs.Polynomial.{Monomial, monomials, insert_scaled}
use Rattle.polynomial_walk.specs.PolynomialTerms.{arm_of, add_leaf, nonzero, divisor_of, add_term, add_args, add_difference}
use Rattle.polynomial_walk.specs.PolynomialTerms.{add_first, first_factor, other_factors, from_term}
use Rattle.rules.proofs.Yields.{Yields, gives, and_then, weaker, guarded, by_option, ReadAs, fraction-yields}
use Rattle.rules.proofs.Yields.{over-yields}
use Rattle.rules.proofs.Valuations.{Valuation, times-stands}
use Rattle.rules_theory.proofs.IndexMaps.{Values, worth, total, Amounts, new-amounts}
use Rattle.rules_theory.proofs.Walks.{Kept, Adds, adds_none, adds-as, in_turn, visited, add_entry-adds, add_constant-adds}
use Rattle.polynomial_theory.proofs.PolynomialCases.{by_vector, by_arm}
use Rattle.polynomial_theory.proofs.MonomialLaws.{monomial, atom-value}
use Rattle.polynomial_theory.proofs.PolynomialProducts.{monomial_values, insert_scaled_totals, mul-amounts}
use Rattle.polynomial_theory.proofs.TermReadings.{TermReading, First, DividedBy, sum_of, difference_of, factors_of}
use Rattle.polynomial_theory.proofs.TermReadings.{product_of, first_of, Quotient, Taken}

-- the arm of `add_term` for products: each monomial goes to the sum, times the coefficient, then the constant
abbrev add_product : Limits → Terms → ℕ → Rational → Walked Monomial → Result (Walked Monomial)
add_product l ts d c w = do
  r ← first_factor ts l d w.visits
  m ← insert_scaled l r.sum.entries c w.sum.entries
  k ← times l c r.sum.constant
  add_constant l k (walked (combination m w.sum.constant) r.visits)

module _ {R : Ring} {N : Valuation R} (T : TermReading N) where
  open R use {carrier, add as ◌+◌, mul as ◌*◌, neg as -◌, ι}
  open N use {number, Good}
  open T use {value, Fits}

  infixl 6 ◌+◌
  infixl 7 ◌*◌
  infix 8 -◌
  -- monomials of terms that fit
  abbrev pub term_values : Values monomials
  term_values = monomial_values N value Fits T.respects

  abbrev S : Values monomials
  S = term_values

  -- f adds its coefficient times x
  abbrev pub AddsTimes : carrier → (Rational → Walked Monomial → Result (Walked Monomial)) → Type 0
  AddsTimes x f =
      (c : Rational) (w : Walked Monomial) → Good c → Kept S w → Yields (Adds S w (number c * x)) (f c w)

  -- and so of what x is equal to
  times-as :
      {x y : carrier} {f : Rational → Walked Monomial → Result (Walked Monomial)} → x ≡ y → AddsTimes y f →
      AddsTimes x f
  times-as e h c w gc g = adds-as S (ap (λ (x : carrier). number c * x) (sym e)) (h c w gc g)

  module _ (l : Limits) where
    -- ---- the leaves

    constant-adds :
        (q : Rational) → Good q → AddsTimes (number q) (λ c w. times l q c >>= λ r. add_constant l r w)
    constant-adds q gq c w gc g =
        and_then (times-stands N l q c gq gc)
        (λ r h. adds-as S (h.is ∙ R.mul_comm (number q) (number c)) (add_constant-adds S l r w h.good g))

    entry-adds : (t : Term) → Fits t → AddsTimes (monomial R value (t ∷ [])) (add_entry monomials l (t ∷ []))
    entry-adds t f c w gc g = add_entry-adds S l (t ∷ []) c w (record { known = (f, tt); good = gc }) g

    vector-value : (t : Term) → Fits t → (v n : ℕ) → as_bitvector t ≡ Some (v, n) → value t ≡ number (whole (pos v))
    unfolding as_bitvector
    vector-value (integer i z) f v n e = cc
    vector-value (rational i q) f v n e = cc
    vector-value (bitvector i u m) f v n e =
        let same : ◌≡◌ {A = ℕ × ℕ} (u, m) (v, n) = cc in
        let h : u ≡ v = ap (λ (z : ℕ × ℕ). z.0) same in
        T.vector i u m f ∙ sym (N.number-whole (pos u)) ∙ ap (λ (v : ℕ). number (whole (pos v))) h
    vector-value (atom i s m) f v n e = cc
    vector-value (op i o ts) f v n e = cc

    leaf-adds : (t : Term) → Fits t → AddsTimes (value t) (add_leaf l t)
    unfolding add_leaf
    leaf-adds t f c w gc g =
        and_then (fraction-yields l t)
        (by_option (ReadAs t)
        (λ q r. let h = T.fraction t f q r in times-as h.1 (constant-adds q h.0) c w gc g)
        (λ r.
        by_vector (Yields _) (as_bitvector t)
        (λ v n e.
        times-as (vector-value t f v n e) (constant-adds (whole (pos v)) (N.good-whole (pos v))) c w gc g)
        (times-as (sym (atom-value R value t)) (entry-adds t f) c w gc g)))

    -- ---- what the functions of the walk do, by recursion

    record TermAdds (t : Term) : Type 0 where
      adds : Fits t → (d : ℕ) → AddsTimes (value t) (add_term t l d)

    record TermsAdd (ts : Terms) : Type 0 where
      args : Each Fits ts → (d : ℕ) → AddsTimes (sum_of R value ts) (add_args ts l d)
      rest : Each Fits ts → (d : ℕ) → AddsTimes (difference_of R value ts) (add_difference ts l d)
      first : First Fits ts → (d : ℕ) → AddsTimes (first_of R value ts) (add_first ts l d)
      factor :
          Each Fits ts → (d n : ℕ) →
          Yields (λ r. Amounts S r.sum (product_of R value ts)) (first_factor ts l d n)
      factors :
          Each Fits ts → (d : ℕ) (p : Walked Monomial) → Kept S p →
          Yields (λ r. Amounts S r.sum (worth S p.sum * factors_of R value ts)) (other_factors ts l d p)

    -- ---- an operation

    divisor-yields : (ts : Terms) → Yields (DividedBy ts) (divisor_of l ts)
    unfolding divisor_of
    divisor-yields nil = gives tt
    divisor-yields (a ▹ nil) = gives tt
    divisor-yields (a ▹ b ▹ ts) = and_then (fraction-yields l b) (λ q r. gives (read q r))
      where
        test :
            (q : Rational) → ReadAs b (Some q) → (z : Bool) → is_zero q ≡ z →
            DividedBy (a ▹ b ▹ ts) (elim z as (λ x. Option Rational) [ true ↦ None | false ↦ Some q ])
        test q r true e = tt
        test q r false e = (r, e)

        read : (q : Option Rational) → ReadAs b q → DividedBy (a ▹ b ▹ ts) (nonzero q)
        read (Some q) r = test q r (is_zero q) refl
        read None r = tt

    module _ (ts : Terms) (h : TermsAdd ts) where
      negation-adds : Each Fits ts → (d : ℕ) → AddsTimes (- sum_of R value ts) (λ c. add_args ts l d (neg_q c))
      negation-adds f d c w gc g =
          adds-as S
          (derive R (number (neg_q c) ∷ number c ∷ sum_of R value ts ∷ [])
          (λ n c s. n ⊗ s ≐ c ⊗ neg s from s · n ≐ neg c) tt (N.number-neg c gc))
          (h.args f d (neg_q c) w (N.good-neg c gc) g)

      product-adds : Each Fits ts → (d : ℕ) → AddsTimes (product_of R value ts) (add_product l ts d)
      product-adds f d c w gc g =
          and_then (h.factor f d w.visits)
          (λ r a.
          and_then
          (insert_scaled_totals N value Fits T.respects l r.sum.entries c w.sum.entries
          a.good.entries gc g.entries)
          (λ m t.
          and_then (times-stands N l c r.sum.constant gc a.good.constant)
          (λ k b.
          weaker
          (λ z j.
          record {
            good = j.good;
            is =
                derive R
                (number c ∷ product_of R value ts ∷ total S w.sum.entries ∷ number w.sum.constant
                ∷ total S r.sum.entries ∷ number r.sum.constant ∷ total S m ∷ number k
                ∷ worth S z.sum ∷ [])
                (λ c x w v r s m k z.
                z ≐ w ⊕ v ⊕ c ⊗ x
                from 𝟙 · z ≐ m ⊕ v ⊕ k and 𝟙 · m ≐ w ⊕ r ⊗ c and 𝟙 · k ≐ c ⊗ s and c · r ⊕ s ≐ x) tt
                j.is t.is b.is a.is;
          })
          (add_constant-adds S l k (walked (combination m w.sum.constant) r.visits) b.good
          (record { entries = t.good; constant = g.constant })))))

      -- the first argument, with the coefficient over the number that the second is
      quotient-adds :
          (x : carrier) → Quotient N value Fits ts x → (d : ℕ) (q : Rational) → DividedBy ts (Some q) →
          AddsTimes x (λ c w. over l c q >>= λ k. add_first ts l d k w)
      quotient-adds x p d q b c w gc g =
          and_then (over-yields l c q)
          (λ k e.
          adds-as S (rw e (p.is c q gc b))
          (h.first p.first d k w (subst Good (sym e) (p.good c q gc b)) g))

    operation-adds : (i o : ℕ) (ts : Terms) → TermsAdd ts → TermAdds (op i o ts)
    unfolding add_term
    operation-adds i o ts h = record {
      adds = λ f d c w gc g.
          visited S l w g
          (λ u k.
          by_arm (Yields _) (λ a. Taken N value Fits a ts (value (op i o ts))) (arm_of o ts) (T.operation i o ts f)
          (λ q. times-as q.1 (h.args q.0 d) c u gc k)
          (λ q. times-as q.1 (negation-adds ts h q.0 d) c u gc k)
          (λ q. times-as q.1 (h.rest q.0 d) c u gc k)
          (λ q. guarded _ _ (λ e v. times-as q.1 (product-adds ts h q.0 (suc d)) c u gc k))
          (λ q.
          and_then (divisor-yields ts)
          (by_option (DividedBy ts) (λ r b. quotient-adds ts h _ q d r b c u gc k)
          (λ b. leaf-adds (op i o ts) f c u gc k)))
          (λ q. leaf-adds (op i o ts) f c u gc k));
    }

    -- ---- the lists of arguments

    none_add : TermsAdd nil
    unfolding add_term sum_of difference_of factors_of product_of first_of
    none_add = record {
      args = λ f d. stays;
      rest = λ f d. stays;
      first = λ f d. stays;
      factor = λ f d n. gives (new-amounts S);
      factors = λ f d p g. gives (record { good = g; is = sym (R.mul-one (worth S p.sum)) });
    }
      where
        stays : AddsTimes (ι (pos 0)) (λ c. Ok)
        stays c w gc g = adds-as S (solve R (number c ∷ []) (λ c. 𝟘 ≐ c ⊗ 𝟘) tt) (gives (adds_none S w g))

    -- a factor is made on its own
    factor_is :
        (t : Term) → TermAdds t → Fits t → (d n : ℕ) →
        Yields (λ r. Amounts S r.sum (value t)) (add_term t l d (whole (pos 1)) (walked new n))
    factor_is t h f d n =
        weaker
        (λ r a.
        record {
          good = a.good;
          is =
              derive R (worth S r.sum ∷ worth S new ∷ number (whole (pos 1)) ∷ value t ∷ [])
              (λ r n c t. r ≐ t from 𝟙 · r ≐ n ⊕ c ⊗ t and 𝟙 · n ≐ 𝟘 and t · c ≐ 𝟙) tt
              a.is (new-amounts S).is (N.number-whole (pos 1));
        })
        (h.adds f d (whole (pos 1)) (walked new n) (N.good-whole (pos 1)) (new-amounts S).good)

    one_more-adds : (t : Term) (ts : Terms) → TermAdds t → TermsAdd ts → TermsAdd (t ▹ ts)
    unfolding add_term sum_of difference_of factors_of product_of first_of First
    one_more-adds t ts h hs = record {
      args = λ f d c w gc g.
          adds-as S
          (solve R (number c ∷ value t ∷ sum_of R value ts ∷ []) (λ c t s. c ⊗ t ⊕ c ⊗ s ≐ c ⊗ (t ⊕ s)) tt)
          (in_turn S (h.adds f.0 d c w gc g) (λ u k. hs.args f.1 d c u gc k));
      rest = λ f d c w gc g.
          adds-as S
          (solve R (number c ∷ value t ∷ sum_of R value ts ∷ [])
          (λ c t s. c ⊗ t ⊕ c ⊗ neg s ≐ c ⊗ (t ⊕ neg s)) tt)
          (in_turn S (h.adds f.0 d c w gc g) (λ u k. negation-adds ts hs f.1 d c u gc k));
      first = h.adds;
      factor = λ f d n.
          and_then (factor_is t h f.0 d n)
          (λ p a.
          weaker
          (λ r b.
          record { good = b.good; is = b.is ∙ ap (λ (x : carrier). x * factors_of R value ts) a.is })
          (hs.factors f.1 d p a.good));
      factors = λ f d p g.
          and_then (factor_is t h f.0 d p.visits)
          (λ q a.
          and_then (mul-amounts N value Fits T.respects l p.sum q.sum g a.good)
          (λ r b.
          weaker
          (λ z e.
          record {
            good = e.good;
            is =
                derive R
                (worth S p.sum ∷ worth S q.sum ∷ worth S r ∷ worth S z.sum ∷ value t
                ∷ factors_of R value ts ∷ [])
                (λ p q r z t s. z ≐ p ⊗ (t ⊗ s) from 𝟙 · z ≐ r ⊗ s and s · r ≐ p ⊗ q and p ⊗ s · q ≐ t) tt
                e.is b.is a.is;
          })
          (hs.factors f.1 d (walked r q.visits) b.good)));
    }

    -- ---- every term

    visited-leaf : (t : Term) → Fits t → AddsTimes (value t) (λ c w. visit l w >>= add_leaf l t c)
    visited-leaf t f c w gc g = visited S l w g (λ u k. leaf-adds t f c u gc k)

    mutual
      unfolding add_term

      term-adds : (t : Term) → TermAdds t
      term-adds (integer i v) = record { adds = λ f d. visited-leaf (integer i v) f }
      term-adds (rational i q) = record { adds = λ f d. visited-leaf (rational i q) f }
      term-adds (bitvector i v n) = record { adds = λ f d. visited-leaf (bitvector i v n) f }
      term-adds (atom i s n) = record { adds = λ f d. visited-leaf (atom i s n) f }
      term-adds (op i o ts) = operation-adds i o ts (terms-add ts)

      terms-add : (ts : Terms) → TermsAdd ts
      terms-add nil = none_add
      terms-add (t ▹ ts) = one_more-adds t ts (term-adds t) (terms-add ts)

    pub add_term-adds : (t : Term) → Fits t → (d : ℕ) → AddsTimes (value t) (add_term t l d)
    add_term-adds t = (term-adds t).adds

    pub from_term-amounts :
        (t : Term) → Fits t → (n : ℕ) → Yields (λ r. Amounts S r.sum (value t)) (from_term l t n)
    unfolding from_term
    from_term-amounts t f n = factor_is t (term-adds t) f 0 n
