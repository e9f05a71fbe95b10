-- What a term's products amount to: in any ring that terms are read in, the term's value (`expands_comes`), with
-- good coefficients and atoms that fit. By induction over the rules of `Expands`; each constructor is one of the
-- operators of the reading.
--     amount, Comes       the value of a list of products; it has a value and good coefficients
--     comes_append, comes-scale, comes-multiply       sums, multiples and products of lists
use mathlib.Core.Path.{◌≡◌, refl, sym, ◌∙◌, ap, ap₂}
use mathlib.Core.List.{List, [], ◌∷◌, ◌++◌}
use Rattle.std.specs.Prelude.{Some}
use Prim.Native.Nat.{ℕ, suc}
use native.Mathlib.Omega.{arith}
use borrow.Author.Tests.{ne_eqb}
use lib.IntN.{pos, negsuc}
use Rattle.numbers.specs.Rational.{Rational, whole, mul_q, div_q}
use Rattle.terms.specs.Operator.{Sub, Mult, RealDiv, BvMul}
use Rattle.terms.specs.Term.{Term, Terms, sorts}
use Rattle.numbers.specs.Choice.{when◌then◌else◌}
use Rattle.terms.specs.Term.Term.{integer, rational, bitvector, op}
use Rattle.terms.specs.Term.Terms.{nil, ◌▹◌}
use Rattle.terms.specs.Book.{count_ok}
use Rattle.numbers.proofs.Ring.{Ring, ◌⊕◌, ◌⊗◌, neg, 𝟘, 𝟙, lit, ◌≐◌, ◌·◌, ◌and◌, ◌from◌, solve, derive}
use Rattle.numbers.proofs.Truths.{never}
use Rattle.book.proofs.WellFormed.{WellFormed}
use Rattle.book.proofs.BookTerms.{Each}
use Rattle.rules.specs.Shapes.{size}
use Rattle.polynomial_walk.specs.PolynomialTerms.{arm_of}
use Rattle.alethe.specs.AletheTerms.{is, Products, scale_each, times_one, multiply, one, minus_one, IsSum, IsMinus}
use Rattle.alethe.specs.AletheTerms.{IsDifference, IsProduct, Indivisible, Expands, ExpandsAll, Factors}
use Rattle.alethe.specs.AletheTerms.Expands.{number, vector, atom, sum, real, minus, difference, product, quotient}
use Rattle.alethe.specs.AletheTerms.ExpandsAll.{none, next}
use Rattle.alethe.specs.AletheTerms.Factors.{no_factor, factor}
use Rattle.rules.proofs.Valuations.{Valuation}
use Rattle.rules_theory.proofs.IndexMaps.{EntryOf}
use Rattle.polynomial_theory.proofs.MonomialLaws.{AllKnown, monomial, atom-value}
use Rattle.polynomial_theory.proofs.TermReadings.{TermReading, sum_of, difference_of, factors_of, product_of}
use Rattle.polynomial_theory.proofs.TermReadings.{first_of, First, DividedBy}
use Rattle.rules_theory.proofs.WrittenNumbers.{written_read}

-- atoms of P with coefficients that are Q
abbrev pub ProductsOf : (Term → Type 0) → (Rational → Type 0) → Products → Type 0
ProductsOf P Q [] = Unit {0}
ProductsOf P Q (e ∷ m) = EntryOf (AllKnown P) Q e.1 e.0 × ProductsOf P Q m

module _ {R : Ring} (N : Valuation R) (v : Term → R.carrier) where
  unfoldable pub amount : Products → R.carrier
  amount [] = R.ι (pos 0)
  amount (e ∷ m) = R.add (R.mul (N.number e.0) (monomial R v e.1)) (amount m)

module _ {R : Ring} (N : Valuation R) (P : Term → Type 0) (v : Term → R.carrier) where
  open R use {carrier, add as ◌+◌, mul as ◌*◌, ι}

  infixl 6 ◌+◌
  infixl 7 ◌*◌
  abbrev amounts : Products → carrier
  amounts = amount N v

  pub record Comes (m : Products) (x : carrier) : Type 0 where
    pub good : ProductsOf P N.Good m
    pub is : amounts m ≡ x

  pub comes-as : {m : Products} {x y : carrier} → x ≡ y → Comes m x → Comes m y
  comes-as e h = record { good = h.good; is = h.is ∙ e }

  pub comes_none : Comes [] (ι (pos 0))
  unfolding amount
  comes_none = record { good = tt; is = refl }

  pub comes-number : (q : Rational) → N.Good q → Comes ((q, []) ∷ []) (N.number q)
  unfolding amount monomial
  comes-number q g =
      record {
        good = (record { known = tt; good = g }, tt);
        is = solve R (N.number q ∷ []) (λ q. q ⊗ 𝟙 ⊕ 𝟘 ≐ q) tt;
      }

  pub comes-atom : (t : Term) → P t → Comes ((one, t ∷ []) ∷ []) (v t)
  unfolding amount
  comes-atom t p =
      record {
        good = (record { known = (p, tt); good = N.good-whole (pos 1) }, tt);
        is =
            derive R (N.number one ∷ monomial R v (t ∷ []) ∷ v t ∷ [])
            (λ q m t. q ⊗ m ⊕ 𝟘 ≐ t from m · q ≐ 𝟙 and 𝟙 · m ≐ t) tt (N.number-whole (pos 1)) (atom-value R v t);
      }

  -- ---- sums

  good_append : (m n : Products) → ProductsOf P N.Good m → ProductsOf P N.Good n →
      ProductsOf P N.Good (m ++ n)
  good_append [] n g h = h
  good_append (e ∷ m) n (ge, g) h = (ge, good_append m n g h)

  amount_append : (m n : Products) → amounts (m ++ n) ≡ amounts m + amounts n
  unfolding amount
  amount_append [] n = solve R (amounts n ∷ []) (λ n. n ≐ 𝟘 ⊕ n) tt
  amount_append (e ∷ m) n =
      derive R ((N.number e.0 * monomial R v e.1) ∷ amounts (m ++ n) ∷ amounts m ∷ amounts n ∷ [])
      (λ e s m n. e ⊕ s ≐ e ⊕ m ⊕ n from 𝟙 · s ≐ m ⊕ n) tt (amount_append m n)

  pub comes_append : {m n : Products} {x y : carrier} → Comes m x → Comes n y → Comes (m ++ n) (x + y)
  comes_append {m} {n} h k =
      record { good = good_append m n h.good k.good; is = amount_append m n ∙ ap₂ ◌+◌ h.is k.is }

  -- ---- products

  known_append : (ts us : List Term) → AllKnown P ts → AllKnown P us → AllKnown P (ts ++ us)
  known_append [] us h k = k
  known_append (t ∷ ts) us (p, h) k = (p, known_append ts us h k)

  monomial_append : (ts us : List Term) → monomial R v (ts ++ us) ≡ monomial R v ts * monomial R v us
  unfolding monomial
  monomial_append [] us = solve R (monomial R v us ∷ []) (λ u. u ≐ 𝟙 ⊗ u) tt
  monomial_append (t ∷ ts) us =
      ap (◌*◌ (v t)) (monomial_append ts us) ∙ sym (R.mul_assoc (v t) (monomial R v ts) (monomial R v us))

  module _ (q : Rational) (gq : N.Good q) where
    times-comes : (ts : List Term) → AllKnown P ts → (n : Products) → ProductsOf P N.Good n →
        Comes (times_one q ts n) (N.number q * monomial R v ts * amounts n)
    unfolding times_one amount
    times-comes ts k [] g =
        comes-as (solve R (N.number q ∷ monomial R v ts ∷ []) (λ q t. 𝟘 ≐ q ⊗ t ⊗ 𝟘) tt) comes_none
    times-comes ts k (e ∷ n) (ge, g) =
        let h = times-comes ts k n g in
        record {
          good = (
            record { known = known_append ts e.1 k ge.known; good = N.good-mul q e.0 gq ge.good },
            h.good,
          );
          is =
              derive R
              (N.number q ∷ monomial R v ts ∷ N.number e.0 ∷ monomial R v e.1 ∷ N.number (mul_q q e.0)
              ∷ monomial R v (ts ++ e.1) ∷ amounts n ∷ amounts (times_one q ts n) ∷ [])
              (λ q t e u p j n s.
              p ⊗ j ⊕ s ≐ q ⊗ t ⊗ (e ⊗ u ⊕ n)
              from j · p ≐ q ⊗ e and q ⊗ e · j ≐ t ⊗ u and 𝟙 · s ≐ q ⊗ t ⊗ n) tt
              (N.number-mul q e.0 gq ge.good) (monomial_append ts e.1) h.is;
        }

    scale-times : (m : Products) → scale_each q m ≡ times_one q [] m
    unfolding scale_each times_one
    scale-times [] = refl
    scale-times (e ∷ m) = ap (◌∷◌ (mul_q q e.0, e.1)) (scale-times m)

    pub comes-scale : {m : Products} {x : carrier} → Comes m x → Comes (scale_each q m) (N.number q * x)
    unfolding monomial
    comes-scale {m} {x} h =
        rw (scale-times m)
        (comes-as
        (derive R (N.number q ∷ amounts m ∷ x ∷ []) (λ q m x. q ⊗ 𝟙 ⊗ m ≐ q ⊗ x from q · m ≐ x) tt h.is)
        (times-comes [] tt m h.good))

  multiply-comes : (m n : Products) → ProductsOf P N.Good m → ProductsOf P N.Good n →
      Comes (multiply m n) (amounts m * amounts n)
  unfolding multiply amount
  multiply-comes [] n g h = comes-as (solve R (amounts n ∷ []) (λ n. 𝟘 ≐ 𝟘 ⊗ n) tt) comes_none
  multiply-comes (e ∷ m) n (ge, g) h =
      comes-as
      (solve R ((N.number e.0 * monomial R v e.1) ∷ amounts m ∷ amounts n ∷ [])
      (λ e m n. e ⊗ n ⊕ m ⊗ n ≐ (e ⊕ m) ⊗ n) tt)
      (comes_append (times-comes e.0 ge.good e.1 ge.known n h) (multiply-comes m n g h))

  pub comes-multiply : {m n : Products} {x y : carrier} → Comes m x → Comes n y → Comes (multiply m n) (x * y)
  comes-multiply {m} {n} h k = comes-as (ap₂ ◌*◌ h.is k.is) (multiply-comes m n h.good k.good)

-- ---- terms

-- atoms have the value that v gives them
module _ {R : Ring} {N : Valuation R} (T : TermReading N) (formed : (t : Term) → T.Fits t → WellFormed t)
    (v : Term → R.carrier) (atoms : (t : Term) → T.Fits t → Indivisible t → T.value t ≡ v t) where
  open R use {carrier, add as ◌+◌, mul as ◌*◌, neg as -◌, ι}
  open T use {value, Fits}

  infixl 6 ◌+◌
  infixl 7 ◌*◌
  infix 8 -◌
  abbrev C : Products → carrier → Type 0
  C = Comes N Fits v

  -- minus one times
  opposite : {m : Products} {x : carrier} → C m x → C (scale_each minus_one m) (- x)
  opposite {m} {x} h =
      comes-as N Fits v
      (derive R (N.number minus_one ∷ x ∷ []) (λ q x. q ⊗ x ≐ neg x from x · q ≐ lit (negsuc 0)) tt
      (N.number-whole (negsuc 0)))
      (comes-scale N Fits v minus_one (N.good-whole (negsuc 0)) h)

  sum_of_lem : {o : ℕ} → IsSum o → (i : ℕ) (ts : Terms) → Fits (op i o ts) →
      Each Fits ts × (value (op i o ts) ≡ sum_of R value ts)
  unfolding arm_of when◌then◌else◌
  sum_of_lem IsSum.add i ts f = T.operation i _ ts f
  sum_of_lem IsSum.bvadd i ts f = T.operation i _ ts f

  minus_of : {o : ℕ} → IsMinus o → (i : ℕ) (t : Term) → Fits (op i o (t ▹ nil)) →
      Fits t × (value (op i o (t ▹ nil)) ≡ - value t)
  unfolding arm_of when◌then◌else◌ sum_of
  minus_of IsMinus.sub i t f =
      let h = T.operation i _ (t ▹ nil) f in (h.0.0, h.1 ∙ ap -◌ (R.add-zero (value t)))
  minus_of IsMinus.bvneg i t f =
      let h = T.operation i _ (t ▹ nil) f in (h.0.0, h.1 ∙ ap -◌ (R.add-zero (value t)))

  difference_of_lem : {o : ℕ} → IsDifference o → (i : ℕ) (t u : Term) (ts : Terms) → Fits (op i o (t ▹ u ▹ ts)) →
      Each Fits (t ▹ u ▹ ts) × (value (op i o (t ▹ u ▹ ts)) ≡ value t + - sum_of R value (u ▹ ts))
  unfolding arm_of when◌then◌else◌ difference_of
  difference_of_lem IsDifference.sub i t u ts f =
      rw (ne_eqb (suc (suc (size ts))) 1 (omega arith)) at (T.operation i Sub (t ▹ u ▹ ts) f)
  difference_of_lem IsDifference.bvsub i t u ts f = T.operation i _ (t ▹ u ▹ ts) f

  product_of_lem : {o : ℕ} → IsProduct o → (i : ℕ) (ts : Terms) → Fits (op i o ts) →
      Each Fits ts × (value (op i o ts) ≡ factors_of R value ts)
  unfolding arm_of when◌then◌else◌ product_of factors_of WellFormed count_ok sorts
  product_of_lem IsProduct.mult i nil f = never (formed (op i Mult nil) f).0.counted
  product_of_lem IsProduct.mult i (t ▹ ts) f = T.operation i _ (t ▹ ts) f
  product_of_lem IsProduct.bvmul i nil f = never (formed (op i BvMul nil) f).0.counted
  product_of_lem IsProduct.bvmul i (t ▹ ts) f = T.operation i _ (t ▹ ts) f

  -- ---- by recursion over the term and its arguments

  record TermComes (t : Term) : Type 0 where
    comes : {m : Products} → Expands t m → Fits t → C m (value t)

  abbrev ArgumentsCome : Term → Type 0
  ArgumentsCome (integer i n) = Unit {0}
  ArgumentsCome (rational i q) = Unit {0}
  ArgumentsCome (bitvector i n w) = Unit {0}
  ArgumentsCome (Term.atom i s n) = Unit {0}
  ArgumentsCome (op i o ts) = Each TermComes ts

  all_come : {ts : Terms} {m : Products} → ExpandsAll ts m → Each TermComes ts → Each Fits ts → C m (sum_of R value ts)
  unfolding sum_of
  all_come none c f = comes_none N Fits v
  all_come (next h hs) c f = comes_append N Fits v (c.0.comes h f.0) (all_come hs c.1 f.1)

  factors_come : {ts : Terms} {m : Products} → Factors ts m → Each TermComes ts → Each Fits ts →
      C m (factors_of R value ts)
  unfolding factors_of
  factors_come no_factor c f =
      comes-as N Fits v (N.number-whole (pos 1)) (comes-number N Fits v one (N.good-whole (pos 1)))
  factors_come (factor h hs) c f = comes-multiply N Fits v (c.0.comes h f.0) (factors_come hs c.1 f.1)

  one_step : {t : Term} {m : Products} → Expands t m → ArgumentsCome t → Fits t → C m (value t)
  unfolding sum_of arm_of when◌then◌else◌ first_of First
  one_step (number {t} {q} w) c f =
      let h = T.fraction t f q (written_read w) in comes-as N Fits v (sym h.1) (comes-number N Fits v q h.0)
  one_step (vector i n w) c f =
      comes-as N Fits v (N.number-whole (pos n) ∙ sym (T.vector i n w f))
      (comes-number N Fits v (whole (pos n)) (N.good-whole (pos n)))
  one_step (atom {t} a) c f = comes-as N Fits v (sym (atoms t f a)) (comes-atom N Fits v t f)
  one_step (sum {ts = ts} s (is i) h) c f =
      let k = sum_of_lem s i ts f in comes-as N Fits v (sym k.1) (all_come h c k.0)
  one_step (real {t} (is i) h) c f =
      let k = T.operation i _ (t ▹ nil) f in
      comes-as N Fits v (sym (k.1 ∙ R.add-zero (value t))) (c.0.comes h k.0.0)
  one_step (minus {t = t} s (is i) h) c f =
      let k = minus_of s i t f in comes-as N Fits v (sym k.1) (opposite (c.0.comes h k.0))
  one_step (difference {t = t} {u} {ts = ts} s (is i) h hs) c f =
      let k = difference_of_lem s i t u ts f in
      comes-as N Fits v (sym k.1)
      (comes_append N Fits v (c.0.comes h k.0.0) (opposite (all_come hs c.1 k.0.1)))
  one_step (product {ts = ts} s (is i) h) c f =
      let k = product_of_lem s i ts f in comes-as N Fits v (sym k.1) (factors_come h c k.0)
  one_step (quotient {a} {b} {q = q} (is i) w z h) c f =
      let k = T.operation i RealDiv (a ▹ b ▹ nil) f in
      let d : DividedBy (a ▹ b ▹ nil) (Some q) = (written_read w, z) in
      comes-as N Fits v
      (derive R (N.number (div_q one q) ∷ value a ∷ N.number one ∷ value (op i RealDiv (a ▹ b ▹ nil)) ∷ [])
      (λ d a c x. d ⊗ a ≐ x from 𝟙 · d ⊗ a ≐ c ⊗ x and x · c ≐ 𝟙) tt
      (k.is one q (N.good-whole (pos 1)) d) (N.number-whole (pos 1)))
      (comes-scale N Fits v (div_q one q) (k.good one q (N.good-whole (pos 1)) d) (c.0.comes h k.first))

  mutual
    term-comes : (t : Term) → TermComes t
    term-comes (integer i n) = record { comes = λ h f. one_step h tt f }
    term-comes (rational i q) = record { comes = λ h f. one_step h tt f }
    term-comes (bitvector i n w) = record { comes = λ h f. one_step h tt f }
    term-comes (Term.atom i s n) = record { comes = λ h f. one_step h tt f }
    term-comes (op i o ts) = record { comes = λ h f. one_step h (terms_come ts) f }

    terms_come : (ts : Terms) → Each TermComes ts
    terms_come nil = tt
    terms_come (t ▹ ts) = (term-comes t, terms_come ts)

  pub expands_comes : {t : Term} {m : Products} → Expands t m → Fits t → C m (value t)
  expands_comes {t} h f = (term-comes t).comes h f
