-- What a term that `as_fraction` reads means: the number read, under every assignment, in lowest terms (`as_fraction-value`).
-- A constant and its opposite mean themselves; a div means its reading by definition; a quotient of reals is divided by the
-- number that its divisor means.
use mathlib.Core.Path.{◌≡◌, refl, sym, ◌∙◌, ap, subst}
use mathlib.Core.Bool.{Bool, false, cond}
use mathlib.Core.Logic.{◌⊎◌, inl, inr, ⊎_elim}
use Rattle.std.specs.Prelude.{Option, Some, None}
use Prim.Native.Nat.{ℕ, ◌<◌}
use Rattle.numbers.specs.Bytes.{Bytes}
use Rattle.numbers.specs.Pair.{neg_p, inv_p, div_p, ◌≈◌}
use Rattle.numbers.specs.Rational as Rational
use Rattle.numbers.specs.Rational.{Rational, whole, div_q, neg_q, is_zero, Lowest}
use Rattle.terms.specs.Operator.{Sub, IntDiv, RealDiv}
use Rattle.terms.specs.Term.{Term, Terms, record_number, unary, binary}
use Rattle.numbers.specs.Choice.{when◌then◌else◌}
use Rattle.terms.specs.Term.Sort.{int, real}
use Rattle.terms.specs.Term.Term.{integer, rational, bitvector, atom, op}
use Rattle.terms.specs.Term.Terms.{nil, ◌▹◌}
use Rattle.terms.specs.Readers.{unbounded, ranged, as_number, negated, as_signed_number, quotient_of, divided}
use Rattle.terms.specs.Readers.{as_unsigned_fraction, as_fraction}
use Rattle.terms.specs.Book.{tree, read_book}
use Rattle.terms.specs.Smtlib.{Meant, number, Assignment, as_pair, given, value, meaning}
use Rattle.numbers.proofs.Pairs.{≈_trans, mul_resp, neg_resp}
use Rattle.numbers.proofs.LowestTerms.{whole_is_lowest}
use Rattle.numbers.proofs.Rationals.{whole-value, neg_value, neg-lowest, div_value, div-lowest}
use Rattle.terms.proofs.Readings.{by_option, not-number, out_of_range, unary-shape, binary-shape}
use Rattle.terms.proofs.Readings.{fraction-unbounded, Quotient, quotient, signed-fraction, div-reading}
use Rattle.book.proofs.WellFormed.{WellFormed, well_formed}
use Rattle.std.specs.Prelude.{Ok, Err}
use Rattle.terms.specs.Readers.{Reading}
use Rattle.terms.specs.declared.term.NotRead.TheVariants.{NotNumber, OutOfRange}

-- ---- what a reading says of the term

pub record Means (t : Term) (q : Rational) : Type 0 where
  pub lowest : Lowest q
  pub meant : (ρ : Assignment) → as_pair (value ρ t) ≈ Rational.value q

number_means : (t : Term) → WellFormed t → (q : Rational) → as_number t ≡ Ok q → Means t q
unfolding WellFormed as_number value
number_means (integer i v) w q e =
    let h : whole v ≡ q = cc in
    subst (Means (integer i v)) h (record { lowest = whole_is_lowest v; meant = λ ρ. sym (whole-value v) })
number_means (rational i p) w q e =
    let h : p ≡ q = cc in subst (Means (rational i p)) h (record { lowest = w; meant = λ ρ. refl })
number_means (bitvector i v n) w q e = not-number e
number_means (atom i s n) w q e = not-number e
number_means (op i o ts) w q e = not-number e

-- the opposite of what the one argument means
negation_means : (t x : Term) → unary Sub t ≡ Some x → (q : Rational) → Means x q → Means t (neg_q q)
unfolding value meaning when◌then◌else◌
negation_means t x u q m =
    subst (λ (t : Term). Means t (neg_q q)) (sym (unary-shape Sub t x u))
    (record {
      lowest = neg-lowest q m.lowest;
      meant = λ ρ.
          ≈_trans (neg_p (as_pair (value ρ x))) (neg_p (Rational.value q)) (Rational.value (neg_q q))
          (neg_resp (as_pair (value ρ x)) (Rational.value q) (m.meant ρ)) (sym (neg_value q m.lowest));
    })

argument : (o : ℕ) (t x : Term) → unary o t ≡ Some x → WellFormed t → WellFormed x
unfolding WellFormed
argument o t x u w = (subst WellFormed (unary-shape o t x u) w).1.0

operands :
    (o : ℕ) (t : Term) (p : Term × Term) → binary o t ≡ Some p → WellFormed t →
    WellFormed p.0 × WellFormed p.1
unfolding WellFormed
operands o t p u w = let h = (subst WellFormed (binary-shape o t p u) w).1 in (h.0, h.1.0)

module _ (t : Term) (w : WellFormed t) where
  negated_means :
      (x : Term) → unary Sub t ≡ Some x → (r : Reading) → ((q : Rational) → r ≡ Ok q → Means x q) →
      (q : Rational) → negated r ≡ Ok q → Means t q
  negated_means x u (Ok p) m q e =
      let h : neg_q p ≡ q = cc in subst (Means t) h (negation_means t x u p (m p refl))
  negated_means x u (Err NotNumber) m q e = not-number e
  negated_means x u (Err OutOfRange) m q e = out_of_range e

  signed_means : (q : Rational) → as_signed_number t ≡ Ok q → Means t q
  unfolding as_signed_number
  signed_means q =
      by_option (unary Sub t) _ _ _ (λ x u. negated_means x u (as_number x) (number_means x (argument Sub t x u w)) q)
      (λ u. number_means t w q)

-- ---- what a quotient means

pub int-div-value :
    (ρ : Assignment) (i : ℕ) (ts : Terms) (q : Rational) → as_fraction unbounded (op i IntDiv ts) ≡ Ok q →
    value ρ (op i IntDiv ts) ≡ number (Rational.value q)
unfolding value meaning when◌then◌else◌
int-div-value ρ i ts q =
    ap (λ (r : Reading). elim r as (λ x. Meant) [ Ok q ↦ number (Rational.value q) | Err NotNumber ↦ given ρ i int | Err OutOfRange ↦ given ρ i int ])

module _ (ρ : Assignment) (i : ℕ) (a b : Term) (d : Rational) where
  over-divisor : Option Rational → Meant
  over-divisor o = elim o [ Some q ↦ number (div_p (as_pair (value ρ a)) (Rational.value q)) | None ↦ given ρ i real ]

  pub real-div-value :
      as_fraction unbounded b ≡ Ok d → is_zero d ≡ false →
      value ρ (op i RealDiv (a ▹ b ▹ nil)) ≡ number (div_p (as_pair (value ρ a)) (Rational.value d))
  unfolding value meaning when◌then◌else◌ over-divisor
  real-div-value e z =
      ap (λ (r : Reading). over-divisor (elim r as (λ x. Option Rational) [ Ok q ↦ cond (is_zero q) None (Some q) | Err NotNumber ↦ None | Err OutOfRange ↦ None ])) e
      ∙ ap (λ (t : Bool). over-divisor (cond t None (Some d))) z

module _ (a b : Term) (wa : WellFormed a) (wb : WellFormed b) (q : Rational) (e : divided unbounded a (as_signed_number b) ≡ Ok q) where
  of : Quotient a b q
  of = quotient a b q e

  above_means : Means a of.dividend
  above_means = signed_means a wa of.dividend of.above

  below_means : Means b of.divisor
  below_means = signed_means b wb of.divisor of.below

  quotient-lowest : Lowest (div_q of.dividend of.divisor)
  quotient-lowest = div-lowest of.dividend of.divisor above_means.lowest below_means.lowest of.nonzero

  int-div_means : (i : ℕ) → Means (op i IntDiv (a ▹ b ▹ nil)) q
  int-div_means i =
      record {
        lowest = subst Lowest of.is quotient-lowest;
        meant = λ ρ. rw (int-div-value ρ i (a ▹ b ▹ nil) q (div-reading i a b ∙ e));
      }

  real-div_means : (i : ℕ) → Means (op i RealDiv (a ▹ b ▹ nil)) q
  real-div_means i =
      let n = of.dividend in
      let d = of.divisor in
      subst (Means (op i RealDiv (a ▹ b ▹ nil))) of.is
      (record {
        lowest = quotient-lowest;
        meant = λ ρ.
            let x = as_pair (value ρ a) in
            rw (real-div-value ρ i a b d (signed-fraction unbounded b d of.below) of.nonzero)
            (≈_trans (div_p x (Rational.value d)) (div_p (Rational.value n) (Rational.value d)) (Rational.value (div_q n d))
            (mul_resp x (Rational.value n) (inv_p (Rational.value d)) (inv_p (Rational.value d)) (above_means.meant ρ) refl)
            (sym (div_value n d above_means.lowest below_means.lowest of.nonzero)));
      })

-- ---- fractions

-- a quotient is a div or a /
quotient-cases :
    (t : Term) (p : Term × Term) → quotient_of t ≡ Some p →
    (binary IntDiv t ≡ Some p) ⊎ (binary RealDiv t ≡ Some p)
unfolding quotient_of
quotient-cases t p = by_option (binary IntDiv t) Some (binary RealDiv t) (Some p) (λ r u e. inl (u ∙ e)) (λ u e. inr e)

module _ (t : Term) (w : WellFormed t) (q : Rational) where
  quotient_means :
      (o : ℕ) (p : Term × Term) → binary o t ≡ Some p →
      (WellFormed p.0 → WellFormed p.1 → (i : ℕ) → Means (op i o (p.0 ▹ p.1 ▹ nil)) q) → Means t q
  quotient_means o p u m =
      let h = operands o t p u w in
      subst (λ (t : Term). Means t q) (sym (binary-shape o t p u)) (m h.0 h.1 (record_number t))

  unsigned_means : as_unsigned_fraction unbounded t ≡ Ok q → Means t q
  unfolding as_unsigned_fraction
  unsigned_means =
      by_option (quotient_of t) _ _ _
      (λ p u e.
      ⊎_elim (λ v. quotient_means IntDiv p v (λ a b. int-div_means p.0 p.1 a b q e))
      (λ v. quotient_means RealDiv p v (λ a b. real-div_means p.0 p.1 a b q e)) (quotient-cases t p u))
      (λ u. number_means t w q)

pub fraction_means : (t : Term) → WellFormed t → (q : Rational) → as_fraction unbounded t ≡ Ok q → Means t q
unfolding as_fraction
fraction_means t w q =
    by_option (unary Sub t) _ _ _
    (λ x u. negated_means t w x u (as_unsigned_fraction unbounded x) (unsigned_means x (argument Sub t x u w)) q)
    (λ u. unsigned_means t w q)

pub as_fraction-value :
    (t : Term) → WellFormed t → (q : Rational) → as_fraction unbounded t ≡ Ok q → (ρ : Assignment) →
    (as_pair (value ρ t) ≈ Rational.value q) × Lowest q
as_fraction-value t w q e ρ = let m = fraction_means t w q e in (m.meant ρ, m.lowest)

-- a record of a book that is read without a refusal, read in document 01's range
pub record_fraction-value :
    (b : Bytes) (n : ℕ) → read_book b ≡ Ok n → (i : ℕ) → i < n → (q : Rational) →
    as_fraction ranged (tree b i) ≡ Ok q → (ρ : Assignment) →
    (as_pair (value ρ (tree b i)) ≈ Rational.value q) × Lowest q
record_fraction-value b n r i h q e =
    as_fraction-value (tree b i) (well_formed b n r i h) q (fraction-unbounded ranged (tree b i) q e)
