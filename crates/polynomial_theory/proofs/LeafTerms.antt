-- The terms that a walk of polynomials leaves whole (`Leaf`): atoms, and operations that it does not go into, which
-- are no numbers. Indivisible terms are such (`indivisible_leaf`).
use mathlib.Core.Path.{◌≡◌, refl, ◌∙◌, ap}
use mathlib.Core.Bool.{Bool, true, false}
use Rattle.std.specs.Prelude.{Option, Some, None}
use Prim.Native.Nat.{ℕ, suc}
use native.Mathlib.Omega.{arith}
use borrow.Author.Tests.{eqb-true}
use lib.ListN.{length}
use Rattle.numbers.specs.Rational.{Rational, whole, is_zero}
use Rattle.terms.specs.Operator.{Add, Sub, Mult, RealDiv, BvAdd, BvSub, BvNeg, BvMul}
use Rattle.terms.specs.Term.{Sort, Term, Terms, sorts, unary}
use Rattle.numbers.specs.Choice.{when◌then◌else◌}
use Rattle.terms.specs.Term.Term.{integer, rational, bitvector, op}
use Rattle.terms.specs.Term.Terms.{nil, ◌▹◌}
use Rattle.terms.specs.Readers.{unbounded, bounded, negated, over, divided, as_number, as_signed_number, quotient_of}
use Rattle.terms.specs.Readers.{as_unsigned_fraction, as_fraction}
use Rattle.terms.specs.Book.{count_ok}
use Rattle.numbers.proofs.Truths.{never}
use Rattle.book.proofs.WellFormed.{WellFormed, Operation}
use Rattle.terms.proofs.Operators.{by_operator}
use Rattle.polynomial_walk.specs.PolynomialTerms.{Arm, arm_of}
use Rattle.alethe.specs.AletheTerms.{is, Constant, Unsigned, Written, IsSum, IsMinus, IsDifference, IsProduct}
use Rattle.alethe.specs.AletheTerms.{Indivisible}
use Rattle.rules_theory.proofs.WrittenNumbers.{read-written}
use Rattle.terms.specs.Readers.{Reading}
use Rattle.std.specs.Prelude.{Ok, Err}
use Rattle.terms.specs.declared.term.NotRead.TheVariants.{NotNumber, OutOfRange}

-- ---- without a bound no number is out of range

pub data InRange : Reading → Type 0 where
  read : (q : Rational) → InRange (Ok q)
  unread : InRange (Err NotNumber)

pub not-outside : {r : Reading} → InRange r → r ≡ Err OutOfRange → ⊥
not-outside (read q) e = let z : ◌≡◌ {A = ℕ} 0 1 = cc in omega arith
not-outside unread e = let z : ◌≡◌ {A = ℕ} 0 1 = cc in omega arith

negated-read : {r : Reading} → InRange r → InRange (negated r)
negated-read (read q) = read _
negated-read unread = unread

number_read : (t : Term) → InRange (as_number t)
unfolding as_number
number_read (integer i v) = read _
number_read (rational i q) = read _
number_read (bitvector i v n) = unread
number_read (Term.atom i s n) = unread
number_read (op i o ts) = unread

over-read : (r : Reading) (d : Rational) → InRange (over unbounded r d)
unfolding bounded
over-read (Ok n) d = read _
over-read (Err NotNumber) d = unread
over-read (Err OutOfRange) d = unread

divided-read : (a : Term) (r : Reading) → InRange (divided unbounded a r)
divided-read a (Ok d) = at (is_zero d)
  where
    at : (z : Bool) → InRange (elim z [ true ↦ Err NotNumber | false ↦ over unbounded (as_signed_number a) d ])
    at true = unread
    at false = over-read (as_signed_number a) d
divided-read a (Err NotNumber) = unread
divided-read a (Err OutOfRange) = unread

maybe-read : {A : Type 0} (o : Option A) {f : A → Reading} {y : Reading} → ((a : A) → InRange (f a)) → InRange y →
    InRange (elim o as (λ z. Reading) [ Some a ↦ f a | None ↦ y ])
maybe-read (Some a) p q = p a
maybe-read None p q = q

unsigned-read : (t : Term) → InRange (as_unsigned_fraction unbounded t)
unfolding as_unsigned_fraction
unsigned-read t = maybe-read (quotient_of t) (λ p. divided-read p.0 (as_signed_number p.1)) (number_read t)

pub fraction-read : (t : Term) → InRange (as_fraction unbounded t)
unfolding as_fraction
fraction-read t = maybe-read (unary Sub t) (λ x. negated-read (unsigned-read x)) (unsigned-read t)

pub unread-number : (t : Term) → ((q : Rational) → Written t q → ⊥) → as_fraction unbounded t ≡ Err NotNumber
unread-number t h = go (as_fraction unbounded t) refl (fraction-read t)
  where
    go : (r : Reading) → as_fraction unbounded t ≡ r → InRange r → r ≡ Err NotNumber
    go (Ok q) e k = absurd (h q (read-written t q e))
    go (Err NotNumber) e k = refl
    go (Err OutOfRange) e k = absurd (not-outside k refl)

-- ---- divisors

-- a number that is not 0
unfoldable pub divisor_in : Reading → Option Rational
divisor_in (Ok q) = elim (is_zero q) [ true ↦ None | false ↦ Some q ]
divisor_in (Err NotNumber) = None
divisor_in (Err OutOfRange) = None

unfoldable pub first_divisor : Terms → Option Rational
first_divisor nil = None
first_divisor (b ▹ ts) = divisor_in (as_fraction unbounded b)

pub divisor-read : (b : Term) (ts : Terms) (q : Rational) → as_fraction unbounded b ≡ Ok q → is_zero q ≡ false →
    first_divisor (b ▹ ts) ≡ Some q
unfolding first_divisor divisor_in
divisor-read b ts q e z =
    ap divisor_in e ∙ ap (λ (t : Bool). elim t as (λ x. Option Rational) [ true ↦ None | false ↦ Some q ]) z

unfoldable pub second_divisor : Terms → Option Rational
second_divisor nil = None
second_divisor (t ▹ ts) = first_divisor ts

pub no_divisor : (b : Term) (ts : Terms) → ((q : Rational) → as_fraction unbounded b ≡ Ok q → is_zero q ≡ true) →
    first_divisor (b ▹ ts) ≡ None
unfolding first_divisor divisor_in
no_divisor b ts h = go (as_fraction unbounded b) refl
  where
    go : (r : Reading) → as_fraction unbounded b ≡ r → divisor_in r ≡ None
    go (Ok q) e = ap (λ (t : Bool). elim t as (λ x. Option Rational) [ true ↦ None | false ↦ Some q ]) (h q e)
    go (Err NotNumber) e = refl
    go (Err OutOfRange) e = refl

-- ---- leaves

pub data Leaf : Term → Type 0 where
  atom : (i : ℕ) (s : Sort) (n : ℕ) → Leaf (Term.atom i s n)
  leaf : (i o : ℕ) (ts : Terms) → arm_of o ts ≡ Arm.leaf → as_fraction unbounded (op i o ts) ≡ Err NotNumber →
      Leaf (op i o ts)
  quotient :
      (i o : ℕ) (ts : Terms) → arm_of o ts ≡ Arm.quotient → second_divisor ts ≡ None →
      as_fraction unbounded (op i o ts) ≡ Err NotNumber →
      Leaf (op i o ts)

quotient-leaf : (i : ℕ) (ts : Terms) → count_ok RealDiv (length (sorts ts)) ≡ true → Indivisible (op i RealDiv ts) →
    Leaf (op i RealDiv ts)
unfolding arm_of second_divisor count_ok sorts when◌then◌else◌
quotient-leaf i nil c h = never c
quotient-leaf i (a ▹ nil) c h = never c
quotient-leaf i (a ▹ b ▹ nil) c h =
    quotient i RealDiv (a ▹ b ▹ nil) refl (no_divisor b nil λ q e. zero q e (is_zero q) refl)
    (unread-number _ h.no_number)
  where
    zero : (q : Rational) → as_fraction unbounded b ≡ Ok q → (z : Bool) → is_zero q ≡ z → z ≡ true
    zero q e true z = refl
    zero q e false z = absurd (h.not_quotient a b q (is i) (read-written b q e) z)
quotient-leaf i (a ▹ b ▹ e ▹ ts) c h = absurd (omega (arith, eqb-true (suc (suc (suc (length (sorts ts))))) 2 c))

operation-leaf : (i o : ℕ) (ts : Terms) → Operation o (sorts ts) → Indivisible (op i o ts) → Leaf (op i o ts)
unfolding arm_of when◌then◌else◌
operation-leaf i o ts w h =
    by_operator (λ o. count_ok o (length (sorts ts)) ≡ true → Indivisible (op i o ts) → Leaf (op i o ts))
    o w.least w.most (stays 1 refl) (stays 2 refl) (stays 3 refl) (stays 4 refl) (stays 5 refl) (stays 6 refl)
    (stays 7 refl) (stays 8 refl)
    (λ c h. absurd (h.not_sum Add ts IsSum.add (is i))) (λ c h. absurd (h.not_minus Sub ts IsMinus.sub (is i)))
    (λ c h. absurd (h.not_product Mult ts IsProduct.mult (is i))) (stays 12 refl) (quotient-leaf i ts)
    (λ c h. absurd (h.not_real ts (is i))) (λ c h. absurd (h.not_sum BvAdd ts IsSum.bvadd (is i)))
    (λ c h. absurd (h.not_difference BvSub ts IsDifference.bvsub (is i)))
    (λ c h. absurd (h.not_minus BvNeg ts IsMinus.bvneg (is i)))
    (λ c h. absurd (h.not_product BvMul ts IsProduct.bvmul (is i))) w.counted h
  where
    stays : {A : Type 0} (o : ℕ) → arm_of o ts ≡ Arm.leaf → A → Indivisible (op i o ts) → Leaf (op i o ts)
    stays o e c h = leaf i o ts e (unread-number (op i o ts) h.no_number)

pub indivisible_leaf : (t : Term) → WellFormed t → Indivisible t → Leaf t
unfolding WellFormed
indivisible_leaf (integer i z) w h =
    absurd (h.no_number (whole z) (Written.plain (Unsigned.constant (Constant.whole i z))))
indivisible_leaf (rational i q) w h =
    absurd (h.no_number q (Written.plain (Unsigned.constant (Constant.fraction i q))))
indivisible_leaf (bitvector i v n) w h = absurd (h.not_vector i v n refl)
indivisible_leaf (Term.atom i s n) w h = atom i s n
indivisible_leaf (op i o ts) w h = operation-leaf i o ts w.0 h
