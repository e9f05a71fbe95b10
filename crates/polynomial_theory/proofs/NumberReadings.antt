-- Terms that are no bit-vectors as rational numbers (`number_reading`): what `TermReading` asks holds of the
-- terms of one book. Each operator is looked at in turn; what it means is a sum, difference, product or
-- quotient of rational numbers. A Bool, which is 0 or 1, is only ever an atom.
use mathlib.Core.Path.{◌≡◌, refl, sym, ◌∙◌, ap}
use mathlib.Core.Bool.{true, false, ◌&&◌}
use mathlib.Core.List.{[], ◌∷◌}
use Rattle.std.specs.Prelude.{Some}
use Prim.Native.Nat.{ℕ, suc}
use native.Mathlib.Omega.{arith}
use borrow.Author.Tests.{eqb-true, ne_eqb}
use lib.IntN.{pos}
use lib.ListN.{length}
use Rattle.numbers.specs.Pair.{Pair, mul_p, inv_p}
use Rattle.numbers.specs.Rational as Rational
use Rattle.numbers.specs.Rational.{Rational, Lowest, div_q}
use Rattle.terms.specs.Operator.{Sub, RealDiv, ToReal}
use Rattle.terms.specs.Term.{Sort, Term, Terms, sort, sorts, same_sort, is_numeric, is_bits, all, first, takes, gives}
use Rattle.terms.specs.Term.{same}
use Rattle.numbers.specs.Choice.{when◌then◌else◌}
use Rattle.terms.specs.Term.Sort.{bool, int, real, bits}
use Rattle.terms.specs.Term.Term.{bitvector, op}
use Rattle.terms.specs.Term.Terms.{nil, ◌▹◌}
use Rattle.terms.specs.Readers.{unbounded, as_fraction}
use Rattle.terms.specs.Book.{count_ok}
use Rattle.terms.specs.Smtlib
use Rattle.terms.specs.Smtlib.{Assignment, as_pair, reduce, minus, meaning, value, values}
use Rattle.numbers.proofs.Ring.{◌⊗◌, neg, ◌≐◌, ◌·◌, ◌and◌, ◌from◌, derive}
use Rattle.numbers.proofs.Truths.{both, never}
use Rattle.book.proofs.WellFormed.{WellFormed, Operation}
use Rattle.terms.proofs.Operators.{by_operator}
use Rattle.numbers.proofs.Rationals.{div_value, div-lowest}
use Rattle.book.proofs.Fractions.{as_fraction-value, real-div-value}
use Rattle.book.proofs.BookTerms.{Each, Closed}
use Rattle.terms.proofs.Sums as Sums
use Rattle.terms.proofs.Sums.{meant, mk-sum, mk-product, mk-opposite, mk-difference}
use Rattle.numbers.proofs.Quotient.{ℚ, mk, ℚring, sum, product, opposite, mk-eq, mk-mul, mk-whole}
use Rattle.rules.specs.Shapes.{size}
use Rattle.polynomial_walk.specs.PolynomialTerms.{arm_of}
use Rattle.rules.proofs.Valuations.{rationals, numberℚ}
use Rattle.polynomial_theory.proofs.TermReadings.{TermReading, First, DividedBy, sum_of, difference_of, factors_of}
use Rattle.polynomial_theory.proofs.TermReadings.{product_of, first_of, Quotient, Taken}
use Rattle.std.specs.Prelude.{Ok}

-- a term of P of sort Int, Real or Bool
pub record NumberOf (P : Term → Type 0) (t : Term) : Type 0 where
  pub of : P t
  pub no_vector : is_bits (sort t) ≡ false

pub number_no_vector : (s : Sort) → is_numeric s ≡ true → is_bits s ≡ false
number_no_vector bool e = refl
number_no_vector int e = refl
number_no_vector real e = refl
number_no_vector (bits w) e = never e

module _ (ρ : Assignment) where
  abbrev pub meant_by : Term → ℚ
  meant_by t = meant (value ρ t)

  -- ---- sums and products over the arguments, and over their values

  sum_over : (ts : Terms) → Sums.sum_of (values ρ ts) ≡ sum_of ℚring meant_by ts
  unfolding values Sums.sum_of sum_of
  sum_over nil = refl
  sum_over (t ▹ ts) = ap (sum (meant_by t)) (sum_over ts)

  factors-over : (ts : Terms) → Sums.product_of (values ρ ts) ≡ factors_of ℚring meant_by ts
  unfolding values Sums.product_of factors_of
  factors-over nil = refl
  factors-over (t ▹ ts) = ap (product (meant_by t)) (factors-over ts)

  product-over : (ts : Terms) → mk (reduce mul_p (values ρ ts)) ≡ product_of ℚring meant_by ts
  unfolding values product_of factors_of
  product-over nil = mk-whole (pos 0)
  product-over (t ▹ ts) = mk-product (value ρ t) (values ρ ts) ∙ factors-over (t ▹ ts)

  module _ {P : Term → Type 0} (closed : Closed P) where
    abbrev Fits : Term → Type 0
    Fits = NumberOf P

    pub respects : (s t : Term) → Fits s → Fits t → same s t ≡ true → meant_by s ≡ meant_by t
    respects s t hs ht e = ap meant_by (closed.known s t hs.of ht.of e)

    all_fit : (ts : Terms) → Each P ts → all is_numeric (sorts ts) ≡ true → Each Fits ts
    unfolding sorts all
    all_fit nil h e = tt
    all_fit (t ▹ ts) (h, hs) e =
        let k = both (is_numeric (sort t)) (all is_numeric (sorts ts)) e in
        (record { of = h; no_vector = number_no_vector (sort t) k.0 }, all_fit ts hs k.1)

    -- ---- the operators

    abbrev TakenAs : ℕ → Terms → Pair → Type 0
    TakenAs o ts p = Taken rationals meant_by Fits (arm_of o ts) ts (mk p)

    minus-taken : (ts : Terms) → Each Fits ts → TakenAs Sub ts (minus (values ρ ts))
    unfolding arm_of when◌then◌else◌ values difference_of
    minus-taken nil h = (h, mk-whole (pos 0))
    minus-taken (t ▹ nil) h = (h, mk-opposite (value ρ t) ∙ ap opposite (sum_over (t ▹ nil)))
    minus-taken (t ▹ s ▹ ts) h =
        rw (ne_eqb (suc (suc (size ts))) 1 (omega arith)) (
          h,
          mk-difference (value ρ t) (value ρ s) (values ρ ts)
              ∙ ap (λ (x : ℚ). sum (meant_by t) (opposite x)) (sum_over (s ▹ ts)),
        )

    to_real-taken :
        (ts : Terms) → Each Fits ts → count_ok ToReal (length (sorts ts)) ≡ true →
        TakenAs ToReal ts (as_pair (Smtlib.first_of (values ρ ts)))
    unfolding arm_of when◌then◌else◌ values sum_of count_ok sorts
    to_real-taken nil h e = (h, mk-whole (pos 0))
    to_real-taken (t ▹ nil) h e = (h, sym (ℚring.add-zero (meant_by t)))
    to_real-taken (t ▹ s ▹ ts) h e = absurd (omega (arith, eqb-true (suc (suc (length (sorts ts)))) 1 e))

    -- a number over a number that a term is read as
    divided :
        (a b : Term) (i : ℕ) → Fits b → (c q : Rational) → Lowest c → DividedBy (a ▹ b ▹ nil) (Some q) →
        product (numberℚ (div_q c q)) (meant_by a) ≡ product (numberℚ c) (meant_by (op i RealDiv (a ▹ b ▹ nil)))
    divided a b i hb c q lc (r, z) =
        let lq = (as_fraction-value b (closed.formed b hb.of) q r ρ).1 in
        let v = Rational.value q in
        derive ℚring
        (numberℚ (div_q c q) ∷ numberℚ c ∷ mk (inv_p v) ∷ meant_by a ∷ meant_by (op i RealDiv (a ▹ b ▹ nil)) ∷ [])
        (λ d c j a x. d ⊗ a ≐ c ⊗ x from a · d ≐ c ⊗ j and neg c · x ≐ a ⊗ j) tt
        (mk-eq _ _ (div_value c q lc lq z) ∙ mk-mul (Rational.value c) (inv_p v))
        (ap meant (real-div-value ρ i a b q r z) ∙ mk-mul (as_pair (value ρ a)) (inv_p v))

    real-div-taken :
        (i : ℕ) (ts : Terms) → Each Fits ts → count_ok RealDiv (length (sorts ts)) ≡ true →
        Quotient rationals meant_by Fits ts (meant_by (op i RealDiv ts))
    unfolding count_ok when◌then◌else◌ sorts First first_of
    real-div-taken i nil h e = never e
    real-div-taken i (a ▹ nil) h e = never e
    real-div-taken i (a ▹ b ▹ nil) (ha, (hb, t)) e =
        record {
          first = ha;
          good = λ c q lc d.
              div-lowest c q lc (as_fraction-value b (closed.formed b hb.of) q d.0 ρ).1 d.1;
          is = divided a b i hb;
        }
    real-div-taken i (a ▹ b ▹ c ▹ ts) h e =
        absurd (omega (arith, eqb-true (suc (suc (suc (length (sorts ts))))) 2 e))

    operator-taken :
        (i o : ℕ) (ts : Terms) → Operation o (sorts ts) → (all is_numeric (sorts ts) ≡ true → Each Fits ts) →
        is_bits (gives o (sorts ts)) ≡ false →
        Taken rationals meant_by Fits (arm_of o ts) ts (meant_by (op i o ts))
    unfolding takes gives meaning value arm_of when◌then◌else◌
    operator-taken i o ts w fit =
        by_operator
        (λ o.
        takes o (sorts ts) ≡ true → count_ok o (length (sorts ts)) ≡ true → is_bits (gives o (sorts ts)) ≡ false →
        Taken rationals meant_by Fits (arm_of o ts) ts (meant_by (op i o ts)))
        o w.least w.most leaf leaf leaf leaf leaf leaf leaf leaf
        (λ t c n. (fit t, mk-sum (values ρ ts) ∙ sum_over ts)) (λ t c n. minus-taken ts (fit t))
        (λ t c n. (fit t, product-over ts)) leaf (λ t c n. real-div-taken i ts (fit t) c)
        (λ t c n. to_real-taken ts (fit t) c) vectors vectors vectors vectors w.sorted w.counted
      where
        leaf : {A B C : Type 0} → A → B → C → Unit {0}
        leaf t c n = tt

        -- an operator on bit-vectors gives one
        vectors :
            {A B : Type 0} →
            (is_bits (first (sorts ts)) && all (same_sort (first (sorts ts))) (sorts ts)) ≡ true → B →
            is_bits (first (sorts ts)) ≡ false → A
        vectors t c n = never (sym n ∙ (both (is_bits (first (sorts ts))) _ t).0)

    pub operation :
        (i o : ℕ) (ts : Terms) → Fits (op i o ts) →
        Taken rationals meant_by Fits (arm_of o ts) ts (meant_by (op i o ts))
    unfolding WellFormed sort
    operation i o ts h =
        operator-taken i o ts (closed.formed (op i o ts) h.of).0
        (all_fit ts (closed.below i o ts h.of)) h.no_vector

    pub fraction :
        (t : Term) → Fits t → (q : Rational) → as_fraction unbounded t ≡ Ok q →
        Lowest q × (meant_by t ≡ numberℚ q)
    fraction t h q e = let k = as_fraction-value t (closed.formed t h.of) q e ρ in (k.1, mk-eq _ _ k.0)

    pub vector : (i v n : ℕ) → Fits (bitvector i v n) → meant_by (bitvector i v n) ≡ ℚring.ι (pos v)
    unfolding sort
    vector i v n h = never (sym h.no_vector)

    abbrev pub number_reading : TermReading rationals
    number_reading = record {
      value = meant_by;
      Fits = NumberOf P;
      respects = respects;
      fraction = fraction;
      vector = vector;
      operation = operation;
    }
