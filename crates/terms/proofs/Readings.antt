-- Laws of the readers alone. An operation that `unary` or `binary` finds has that shape (`unary-shape`,
-- `binary-shape`). A reading in a range is the reading without one (`fraction-unbounded`). A quotient that is read is
-- one of two signed numbers (`quotient`), and a signed number is read as a fraction too (`signed-fraction`). What is no
-- operation is read as it stands (`plain-fraction`).
use mathlib.Core.Path.{◌≡◌, refl, ◌∙◌, ap, subst⁻¹}
use mathlib.Core.Bool.{Bool, true, false, cond, ◌&&◌}
use Rattle.std.specs.Prelude.{Option, Some, None}
use Prim.Native.Nat.{ℕ}
use borrow.Author.Tests.{eqb-true}
use lib.Dec.{eqb}
use lib.IntN.{nat_abs}
use Rattle.numbers.specs.Rational.{Rational, div_q, is_zero}
use Rattle.terms.specs.Operator.{Sub, IntDiv}
use Rattle.terms.specs.Term.{Term, Terms, record_number, args_of, one?, two?, unary, binary}
use Rattle.terms.specs.Term.Term.{integer, rational, bitvector, atom, op}
use Rattle.terms.specs.Term.Terms.{nil, ◌▹◌}
use Rattle.terms.specs.Readers.{Bound, unbounded, within, bounded, as_number, negated, as_signed_number}
use Rattle.terms.specs.Readers.{quotient_of, over, divided, as_unsigned_fraction, as_fraction, as_op, operator_of}
use Rattle.terms.specs.Readers.{Reading}
use Rattle.std.specs.Prelude.{Ok, Err}
use Rattle.terms.specs.declared.term.NotRead.TheVariants.{NotNumber, OutOfRange}

-- ---- answers that go by an option

-- what follows from the answer in both cases follows from it
pub by_option :
    {A B P : Type 0} (o : Option A) (f : A → B) (x y : B) → ((a : A) → o ≡ Some a → f a ≡ y → P) →
    (o ≡ None → x ≡ y → P) → elim o as (λ z. B) [ Some a ↦ f a | None ↦ x ] ≡ y → P
by_option (Some a) f x y g h e = g a refl e
by_option None f x y g h e = h refl e

-- two answers that agree in both cases agree
alike :
    {A B : Type 0} (o : Option A) (f g : A → B) (x x' y : B) → ((a : A) → f a ≡ y → g a ≡ y) →
    (x ≡ y → x' ≡ y) → elim o as (λ z. B) [ Some a ↦ f a | None ↦ x ] ≡ y →
    elim o as (λ z. B) [ Some a ↦ g a | None ↦ x' ] ≡ y
alike (Some a) f g x x' y h k e = h a e
alike None f g x x' y h k e = k e

-- ---- the shape of an operation of one or two arguments

pub args-shape : (o : ℕ) (t : Term) (ts : Terms) → args_of o t ≡ Some ts → t ≡ op (record_number t) o ts
args-shape o (integer i v) ts e = cc
args-shape o (rational i q) ts e = cc
args-shape o (bitvector i v w) ts e = cc
args-shape o (atom i s n) ts e = cc
args-shape o (op i p us) ts e = go (eqb o p) refl e
  where
    go : (t : Bool) → eqb o p ≡ t → cond t (Some us) None ≡ Some ts → op i p us ≡ op i o ts
    go true q e = cc (eqb-true o p q)
    go false q e = cc

one_shape : (ts : Terms) (x : Term) → one? ts ≡ Some x → ts ≡ x ▹ nil
one_shape nil x e = cc
one_shape (a ▹ nil) x e = cc
one_shape (a ▹ b ▹ ts) x e = cc

two-shape : (ts : Terms) (p : Term × Term) → two? ts ≡ Some p → ts ≡ p.0 ▹ p.1 ▹ nil
two-shape nil p e = cc
two-shape (a ▹ nil) p e = cc
two-shape (a ▹ b ▹ nil) p e =
    let h : ◌≡◌ {A = Term × Term} (a, b) p = cc in ap (λ (p : Term × Term). p.0 ▹ p.1 ▹ nil) h
two-shape (a ▹ b ▹ c ▹ ts) p e = cc

pub unary-shape : (o : ℕ) (t x : Term) → unary o t ≡ Some x → t ≡ op (record_number t) o (x ▹ nil)
unfolding unary
unary-shape o t x =
    by_option (args_of o t) one? None (Some x)
    (λ ts p e. args-shape o t ts p ∙ ap (op (record_number t) o) (one_shape ts x e)) (λ p e. cc)

pub binary-shape :
    (o : ℕ) (t : Term) (p : Term × Term) → binary o t ≡ Some p → t ≡ op (record_number t) o (p.0 ▹ p.1 ▹ nil)
unfolding binary
binary-shape o t p =
    by_option (args_of o t) two? None (Some p)
    (λ ts q e. args-shape o t ts q ∙ ap (op (record_number t) o) (two-shape ts p e)) (λ q e. cc)

-- ---- what no reading is

pub not-number : {A : Type 0} {q : Rational} → Err NotNumber ≡ Ok q → A
not-number e = cc

pub out_of_range : {A : Type 0} {q : Rational} → Err OutOfRange ≡ Ok q → A
out_of_range e = cc

-- opposites of readings that agree agree
negated-alike :
    (r s : Reading) (q : Rational) → ((p : Rational) → r ≡ Ok p → s ≡ Ok p) → negated r ≡ Ok q →
    negated s ≡ Ok q
negated-alike (Ok p) s q h e = ap negated (h p refl) ∙ e
negated-alike (Err NotNumber) s q h e = not-number e
negated-alike (Err OutOfRange) s q h e = out_of_range e

-- ---- a reading in a range is the reading without one

module _ (l : Bound) where
  bounded-unbounded : (p q : Rational) → bounded l p ≡ Ok q → bounded unbounded p ≡ Ok q
  unfolding bounded
  bounded-unbounded p q = go (within l (nat_abs p.num) && within l (nat_abs p.den))
    where
      go : (t : Bool) → ◌≡◌ {A = Reading} (cond t (Ok p) (Err OutOfRange)) (Ok q) → ◌≡◌ {A = Reading} (Ok p) (Ok q)
      go true e = e
      go false e = cc

  over-unbounded : (r : Reading) (d q : Rational) → over l r d ≡ Ok q → over unbounded r d ≡ Ok q
  over-unbounded (Ok n) d q e = bounded-unbounded (div_q n d) q e
  over-unbounded (Err NotNumber) d q e = e
  over-unbounded (Err OutOfRange) d q e = e

  divided-unbounded :
      (a : Term) (r : Reading) (q : Rational) → divided l a r ≡ Ok q → divided unbounded a r ≡ Ok q
  divided-unbounded a (Ok d) q e = go (is_zero d) e
    where
      go :
          (t : Bool) →
          ◌≡◌ {A = Reading} (elim t [ true ↦ Err NotNumber | false ↦ over l (as_signed_number a) d ]) (Ok q) →
          ◌≡◌ {A = Reading} (elim t [ true ↦ Err NotNumber | false ↦ over unbounded (as_signed_number a) d ]) (Ok q)
      go true e = e
      go false e = over-unbounded (as_signed_number a) d q e
  divided-unbounded a (Err NotNumber) q e = e
  divided-unbounded a (Err OutOfRange) q e = e

  unsigned-unbounded :
      (t : Term) (q : Rational) → as_unsigned_fraction l t ≡ Ok q → as_unsigned_fraction unbounded t ≡ Ok q
  unfolding as_unsigned_fraction
  unsigned-unbounded t q =
      alike (quotient_of t) _ _ _ _ _ (λ p. divided-unbounded p.0 (as_signed_number p.1) q) (λ e. e)

  pub fraction-unbounded :
      (t : Term) (q : Rational) → as_fraction l t ≡ Ok q → as_fraction unbounded t ≡ Ok q
  unfolding as_fraction
  fraction-unbounded t q =
      alike (unary Sub t) _ _ _ _ _ (λ x. negated-alike _ _ q (unsigned-unbounded x)) (unsigned-unbounded t q)

-- ---- quotients

-- a and b are signed numbers, and q is their quotient
pub record Quotient (a b : Term) (q : Rational) : Type 0 where
  pub dividend : Rational
  pub divisor : Rational
  pub above : as_signed_number a ≡ Ok dividend
  pub below : as_signed_number b ≡ Ok divisor
  pub nonzero : is_zero divisor ≡ false
  pub is : div_q dividend divisor ≡ q

pub quotient : (a b : Term) (q : Rational) → divided unbounded a (as_signed_number b) ≡ Ok q → Quotient a b q
unfolding bounded
quotient a b q = at_divisor (as_signed_number b) refl
  where
    at_dividend :
        (d : Rational) → as_signed_number b ≡ Ok d → is_zero d ≡ false → (r : Reading) →
        as_signed_number a ≡ r → over unbounded r d ≡ Ok q → Quotient a b q
    at_dividend d f z (Ok n) g e = record { dividend = n; divisor = d; above = g; below = f; nonzero = z; is = cc }
    at_dividend d f z (Err NotNumber) g e = not-number e
    at_dividend d f z (Err OutOfRange) g e = not-number e

    at_test :
        (d : Rational) → as_signed_number b ≡ Ok d → (t : Bool) → is_zero d ≡ t →
        ◌≡◌ {A = Reading} (elim t [ true ↦ Err NotNumber | false ↦ over unbounded (as_signed_number a) d ]) (Ok q) →
        Quotient a b q
    at_test d f true z e = not-number e
    at_test d f false z e = at_dividend d f z (as_signed_number a) refl e

    at_divisor : (r : Reading) → as_signed_number b ≡ r → divided unbounded a r ≡ Ok q → Quotient a b q
    at_divisor (Ok d) f e = at_test d f (is_zero d) refl e
    at_divisor (Err NotNumber) f e = not-number e
    at_divisor (Err OutOfRange) f e = not-number e

-- a signed number is read as a fraction too
number-fraction :
    (l : Bound) (t : Term) (q : Rational) → as_number t ≡ Ok q → as_unsigned_fraction l t ≡ Ok q
unfolding as_number as_unsigned_fraction quotient_of binary
number-fraction l (integer i v) q e = e
number-fraction l (rational i p) q e = e
number-fraction l (bitvector i v n) q e = not-number e
number-fraction l (atom i s n) q e = not-number e
number-fraction l (op i o ts) q e = not-number e

pub signed-fraction :
    (l : Bound) (t : Term) (q : Rational) → as_signed_number t ≡ Ok q → as_fraction l t ≡ Ok q
unfolding as_signed_number as_fraction
signed-fraction l t q =
    alike (unary Sub t) _ _ _ _ _ (λ x. negated-alike _ _ q (number-fraction l x)) (number-fraction l t q)

-- the reading of a div; of anything but a negation, `as_fraction` does as `as_unsigned_fraction`
pub div-reading :
    (i : ℕ) (a b : Term) →
    as_fraction unbounded (op i IntDiv (a ▹ b ▹ nil)) ≡ divided unbounded a (as_signed_number b)
unfolding as_fraction as_unsigned_fraction quotient_of unary binary
div-reading i a b = refl

-- 0 is no operator
pub plain-fraction : (l : Bound) (t : Term) → operator_of t ≡ 0 → as_fraction l t ≡ as_number t
unfolding as_op as_fraction as_unsigned_fraction quotient_of unary binary
plain-fraction l (integer i v) e = refl
plain-fraction l (rational i q) e = refl
plain-fraction l (bitvector i v w) e = refl
plain-fraction l (atom i s n) e = refl
plain-fraction l (op i o ts) e = subst⁻¹ (λ (k : ℕ). as_fraction l (op i k ts) ≡ as_number (op i k ts)) e refl
