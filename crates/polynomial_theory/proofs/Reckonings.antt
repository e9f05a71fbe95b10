-- Terms reckoned in any ring where numbers can be divided, with a value for each atom (`reckon`): what the
-- operators make of their arguments, as the walk of polynomials takes them. This is a reading of terms
-- (`reckoning`), and a leaf has the value of an atom (`reckon-leaf`).
use mathlib.Core.Path.{◌≡◌, refl, sym, ◌∙◌, ap}
use mathlib.Core.Bool.{false}
use mathlib.Core.List.{[], ◌∷◌}
use Rattle.std.specs.Prelude.{Option, Some, None}
use Prim.Native.Nat.{ℕ}
use lib.IntN.{pos}
use Rattle.numbers.specs.Rational.{Rational, whole, div_q, neg_q, is_zero}
use Rattle.terms.specs.Operator.{Sub, IntDiv, RealDiv}
use Rattle.terms.specs.Term.{Term, Terms}
use Rattle.numbers.specs.Choice.{when◌then◌else◌}
use Rattle.terms.specs.Term.Term.{integer, rational, bitvector, atom, op}
use Rattle.terms.specs.Term.Terms.{nil, ◌▹◌}
use Rattle.terms.specs.Readers.{unbounded, as_fraction}
use Rattle.numbers.proofs.Ring.{Ring, ◌⊗◌, neg, 𝟙, ◌≐◌, ◌·◌, ◌and◌, ◌from◌, derive}
use Rattle.book.proofs.BookTerms.{Each, Closed}
use Rattle.polynomial_walk.specs.PolynomialTerms.{Arm, arm_of}
use Rattle.polynomial_walk.specs.PolynomialTerms.Arm.{sum, negation, difference, product, quotient, leaf}
use Rattle.alethe.specs.AletheTerms.{is, Constant, Signed, IsDivision, Unsigned, Written, one}
use Rattle.rules.proofs.Valuations.{Valuation, Division}
use Rattle.polynomial_theory.proofs.TermReadings.{TermReading, First, sum_of, difference_of, factors_of, product_of}
use Rattle.polynomial_theory.proofs.TermReadings.{first_of, Quotient, Taken}
use Rattle.rules_theory.proofs.WrittenNumbers.{written_read, read-written, signed-written}
use Rattle.polynomial_theory.proofs.LeafTerms.{first_divisor, divisor-read, second_divisor, Leaf}
use Rattle.terms.specs.Readers.{Reading}
use Rattle.std.specs.Prelude.{Ok, Err}
use Rattle.terms.specs.declared.term.NotRead.TheVariants.{NotNumber, OutOfRange}

module _ {R : Ring} (N : Valuation R) (x : Term → R.carrier) where
  open R use {carrier, add as ◌+◌, mul as ◌*◌, neg as -◌, ι}

  infixl 6 ◌+◌
  infixl 7 ◌*◌
  infix 8 -◌
  -- a number, or an atom
  unfoldable pub leaf_of : Reading → Term → carrier
  leaf_of (Ok q) t = N.number q
  leaf_of (Err NotNumber) t = x t
  leaf_of (Err OutOfRange) t = x t

  -- what an arm makes of the values of its arguments
  abbrev pub arm_value : Arm → carrier → carrier → carrier → carrier → carrier → carrier
  arm_value sum s d p q y = s
  arm_value negation s d p q y = - s
  arm_value difference s d p q y = d
  arm_value product s d p q y = p
  arm_value quotient s d p q y = q
  arm_value leaf s d p q y = y

  unfoldable mutual
    pub reckon : Term → carrier
    reckon (integer i z) = N.number (whole z)
    reckon (rational i q) = N.number q
    reckon (bitvector i v w) = N.number (whole (pos v))
    reckon (atom i s n) = x (atom i s n)
    reckon (op i o ts) =
        arm_value (arm_of o ts) (reckon_sum ts) (reckon_difference ts) (reckon_product ts)
        (reckon_quotient ts (leaf_of (as_fraction unbounded (op i o ts)) (op i o ts)))
        (leaf_of (as_fraction unbounded (op i o ts)) (op i o ts))

    pub reckon_sum : Terms → carrier
    reckon_sum nil = ι (pos 0)
    reckon_sum (t ▹ ts) = reckon t + reckon_sum ts

    pub reckon_difference : Terms → carrier
    reckon_difference nil = ι (pos 0)
    reckon_difference (t ▹ ts) = reckon t + - reckon_sum ts

    pub reckon_factors : Terms → carrier
    reckon_factors nil = ι (pos 1)
    reckon_factors (t ▹ ts) = reckon t * reckon_factors ts

    pub reckon_product : Terms → carrier
    reckon_product nil = ι (pos 0)
    reckon_product (t ▹ ts) = reckon t * reckon_factors ts

    -- the first over the second, where that is a number
    pub reckon_quotient : Terms → carrier → carrier
    reckon_quotient nil y = y
    reckon_quotient (t ▹ ts) y = elim (first_divisor ts) [ Some q ↦ N.number (div_q one q) * reckon t | None ↦ y ]

  sum_is : (ts : Terms) → reckon_sum ts ≡ sum_of R reckon ts
  unfolding reckon sum_of
  sum_is nil = refl
  sum_is (t ▹ ts) = ap (◌+◌ (reckon t)) (sum_is ts)

  difference_is : (ts : Terms) → reckon_difference ts ≡ difference_of R reckon ts
  unfolding reckon difference_of
  difference_is nil = refl
  difference_is (t ▹ ts) = ap (λ (y : carrier). reckon t + - y) (sum_is ts)

  factors-are : (ts : Terms) → reckon_factors ts ≡ factors_of R reckon ts
  unfolding reckon factors_of
  factors-are nil = refl
  factors-are (t ▹ ts) = ap (◌*◌ (reckon t)) (factors-are ts)

  product_is : (ts : Terms) → reckon_product ts ≡ product_of R reckon ts
  unfolding reckon product_of
  product_is nil = refl
  product_is (t ▹ ts) = ap (◌*◌ (reckon t)) (factors-are ts)

  module _ (D : Division N) {P : Term → Type 0} (closed : Closed P)
      (good : (t : Term) → P t → (q : Rational) → as_fraction unbounded t ≡ Ok q → N.Good q) where
    -- ---- quotients

    over_one : (c q : Rational) → N.Good c → N.Good q → is_zero q ≡ false → (a : carrier) →
        N.number (div_q c q) * a ≡ N.number c * (N.number (div_q one q) * a)
    over_one c q gc gq z a =
        derive R (N.number (div_q c q) ∷ N.number (div_q one q) ∷ N.number q ∷ N.number c ∷ N.number one ∷ a ∷ [])
        (λ d e q c o a.
        d ⊗ a ≐ c ⊗ (e ⊗ a) from e ⊗ a · d ⊗ q ≐ c and neg (d ⊗ a) · e ⊗ q ≐ o and neg (d ⊗ a) · o ≐ 𝟙) tt
        (D.number-div c q gc gq z) (D.number-div one q (N.good-whole (pos 1)) gq z) (N.number-whole (pos 1))

    quotient_is : (a b : Term) (ts : Terms) (q : Rational) → as_fraction unbounded b ≡ Ok q → is_zero q ≡ false →
        (y : carrier) →
        reckon_quotient (a ▹ b ▹ ts) y ≡ N.number (div_q one q) * reckon a
    unfolding reckon
    quotient_is a b ts q e z y =
        ap (λ (o : Option Rational). elim o as (λ p. carrier) [ Some q ↦ N.number (div_q one q) * reckon a | None ↦ y ])
        (divisor-read b ts q e z)

    quotient-taken : (ts : Terms) → Each P ts → (y : carrier) → Quotient N reckon P ts (reckon_quotient ts y)
    unfolding First first_of
    quotient-taken nil h y = record { first = tt; good = λ c q g d. absurd d; is = λ c q g d. absurd d }
    quotient-taken (a ▹ nil) h y = record { first = h.0; good = λ c q g d. absurd d; is = λ c q g d. absurd d }
    quotient-taken (a ▹ b ▹ ts) (p, (r, h)) y =
        record {
          first = p;
          good = λ c q g d. D.good-div c q g (good b r q d.0) d.1;
          is = λ c q g d.
              over_one c q g (good b r q d.0) d.1 (reckon a)
              ∙ ap (◌*◌ (N.number c)) (sym (quotient_is a b ts q d.0 d.1 y));
        }

    pub operation : (i o : ℕ) (ts : Terms) → P (op i o ts) → Taken N reckon P (arm_of o ts) ts (reckon (op i o ts))
    unfolding reckon
    operation i o ts p = go (arm_of o ts)
      where
        below : Each P ts
        below = closed.below i o ts p

        y : carrier
        y = leaf_of (as_fraction unbounded (op i o ts)) (op i o ts)

        go : (a : Arm) →
            Taken N reckon P a ts
            (arm_value a (reckon_sum ts) (reckon_difference ts) (reckon_product ts) (reckon_quotient ts y) y)
        go sum = (below, sum_is ts)
        go negation = (below, ap -◌ (sum_is ts))
        go difference = (below, difference_is ts)
        go product = (below, product_is ts)
        go quotient = quotient-taken ts below y
        go leaf = tt

    -- ---- written numbers

    constant_reckoned : {t : Term} {q : Rational} → Constant t q → reckon t ≡ N.number q
    unfolding reckon
    constant_reckoned (Constant.whole i z) = refl
    constant_reckoned (Constant.fraction i q) = refl

    negated : (i : ℕ) (t : Term) (q : Rational) → N.Good q → reckon t ≡ N.number q →
        reckon (op i Sub (t ▹ nil)) ≡ N.number (neg_q q)
    unfolding reckon arm_of when◌then◌else◌
    negated i t q g e = ap -◌ (R.add-zero (reckon t) ∙ e) ∙ sym (N.number-neg q g)

    signed_reckoned : {t : Term} {q : Rational} → Signed t q → P t → reckon t ≡ N.number q
    signed_reckoned (Signed.plain c) p = constant_reckoned c
    signed_reckoned (Signed.minus {t} {q = q} (is i) c) p =
        negated i t q (good t (closed.below i Sub (t ▹ nil) p).0 q (written_read (Written.plain (Unsigned.constant c))))
        (constant_reckoned c)

    unsigned_reckoned : {t : Term} {q : Rational} → Unsigned t q → P t → reckon t ≡ N.number q
    unfolding reckon arm_of when◌then◌else◌ leaf_of
    unsigned_reckoned (Unsigned.constant c) p = constant_reckoned c
    unsigned_reckoned (Unsigned.quotient {a = a} {b} IsDivision.div (is i) sa sb z) p =
        ap (λ (r : Reading). leaf_of r (op i IntDiv (a ▹ b ▹ nil)))
        (written_read (Written.plain (Unsigned.quotient IsDivision.div (is i) sa sb z)))
    unsigned_reckoned (Unsigned.quotient {a = a} {b} {p = c} {q} IsDivision.slash (is i) sa sb z) p =
        let below = closed.below i RealDiv (a ▹ b ▹ nil) p in
        let gc = good a below.0 c (written_read (signed-written sa)) in
        let gq = good b below.1.0 q (written_read (signed-written sb)) in
        quotient_is a b nil q (written_read (signed-written sb)) z _
        ∙ derive R
        (N.number (div_q c q) ∷ N.number (div_q one q) ∷ N.number q ∷ N.number c ∷ N.number one ∷ reckon a ∷ [])
        (λ d e q c o a.
        e ⊗ a ≐ d from neg e · d ⊗ q ≐ c and d · e ⊗ q ≐ o and d · o ≐ 𝟙 and e · a ≐ c) tt
        (D.number-div c q gc gq z) (D.number-div one q (N.good-whole (pos 1)) gq z) (N.number-whole (pos 1))
        (signed_reckoned sa below.0)

    pub written_reckoned : {t : Term} {q : Rational} → Written t q → P t → reckon t ≡ N.number q
    written_reckoned (Written.plain u) p = unsigned_reckoned u p
    written_reckoned (Written.minus {t} {q = q} (is i) u) p =
        let below = closed.below i Sub (t ▹ nil) p in
        negated i t q (good t below.0 q (written_read (Written.plain u))) (unsigned_reckoned u below.0)

    -- ---- the reading

    pub vector_is : (i v n : ℕ) → P (bitvector i v n) → reckon (bitvector i v n) ≡ ι (pos v)
    unfolding reckon
    vector_is i v n p = N.number-whole (pos v)

    abbrev pub reckoning : TermReading N
    reckoning = record {
      value = reckon;
      Fits = P;
      respects = λ s t p q e. ap reckon (closed.known s t p q e);
      fraction = λ t p q e. (good t p q e, written_reckoned (read-written t q e) p);
      vector = vector_is;
      operation = operation;
    }

  -- ---- leaves are atoms

  undivided : (ts : Terms) (y : carrier) → second_divisor ts ≡ None → reckon_quotient ts y ≡ y
  unfolding reckon second_divisor
  undivided nil y d = refl
  undivided (t ▹ ts) y d =
      ap (λ (o : Option Rational). elim o as (λ p. carrier) [ Some q ↦ N.number (div_q one q) * reckon t | None ↦ y ]) d

  pub reckon-leaf : {t : Term} → Leaf t → reckon t ≡ x t
  unfolding reckon leaf_of
  reckon-leaf (Leaf.atom i s n) = refl
  reckon-leaf (Leaf.leaf i o ts e r) =
      let y = leaf_of (as_fraction unbounded (op i o ts)) (op i o ts) in
      ap (λ (a : Arm). arm_value a (reckon_sum ts) (reckon_difference ts) (reckon_product ts) (reckon_quotient ts y) y) e
      ∙ ap (λ (r : Reading). leaf_of r (op i o ts)) r
  reckon-leaf (Leaf.quotient i o ts e d r) =
      let y = leaf_of (as_fraction unbounded (op i o ts)) (op i o ts) in
      ap (λ (a : Arm). arm_value a (reckon_sum ts) (reckon_difference ts) (reckon_product ts) (reckon_quotient ts y) y) e
      ∙ undivided ts y d ∙ ap (λ (r : Reading). leaf_of r (op i o ts)) r
