-- The Alethe side's written numbers are what `as_fraction` reads (`written_read`, `read-written`), and its signed
-- constants what `as_signed_number` reads. The readers go by shape alone, so each constructor is one of their cases.
--     signed-read, read-signed       signed constants
--     written_read, read-written       written numbers
--     signed-written       a signed constant is a written number
--     written-accepted       without limits a rule that asks for a number takes it
use mathlib.Core.Path.{◌≡◌, refl, sym, ◌∙◌, ap, subst}
use mathlib.Core.Bool.{Bool, true, false}
use Rattle.std.specs.Prelude.{Some, Option, None}
use Prim.Native.Nat.{ℕ}
use Rattle.numbers.specs.Rational.{Rational, whole, div_q, neg_q, is_zero}
use Rattle.terms.specs.Operator.{Sub, IntDiv, RealDiv}
use Rattle.terms.specs.Term.{Term, record_number, unary, binary}
use Rattle.terms.specs.Term.Term.{integer, rational, bitvector, atom, op}
use Rattle.terms.specs.Term.Terms.{nil, ◌▹◌}
use Rattle.terms.specs.Readers.{unbounded, bounded, as_number, negated, as_signed_number, quotient_of, divided, over}
use Rattle.terms.specs.Readers.{as_unsigned_fraction, as_fraction}
use Rattle.terms.proofs.Readings.{by_option, not-number, out_of_range, unary-shape, binary-shape, quotient}
use Rattle.rules.specs.Refusal.{◌>>=◌, or_else, Result}
use Rattle.std.specs.Prelude.{Ok}
use Rattle.rules.specs.Limits.{the_rust, fraction_of, fraction_err, Limits, number_or}
use Rattle.alethe.specs.AletheTerms.{Is, Is1, Is2, is, Constant, Signed, IsDivision, Unsigned, Written}
use Rattle.alethe.specs.AletheTerms.IsDivision.{div, slash}
use lib.IntN.{pos}
use Rattle.numbers.specs.Pair.{whole_p}
use Rattle.terms.specs.Smtlib.{Assignment}
use Rattle.rules.specs.declared.refusal.Refusal.TheVariants.{ExpectedAnyNumber}
use Rattle.rules.proofs.Yields.{Yields, gives, refuses, and_then}
use Rattle.rules_theory.proofs.Limited.{◌≼◌, fraction_of-limited}
use Rattle.rules_theory.proofs.Limited.◌≼◌.{equal, stopped}
use Rattle.terms.specs.Readers.{Reading}
use Rattle.std.specs.Prelude.{Err}
use Rattle.terms.specs.declared.term.NotRead.TheVariants.{NotNumber, OutOfRange}

-- ---- constants

constant-read : {t : Term} {q : Rational} → Constant t q → as_number t ≡ Ok q
unfolding as_number
constant-read (Constant.whole i z) = refl
constant-read (Constant.fraction i q) = refl

read-constant : (t : Term) (q : Rational) → as_number t ≡ Ok q → Constant t q
unfolding as_number
read-constant (integer i z) q e = let h : whole z ≡ q = cc in subst (Constant (integer i z)) h (Constant.whole i z)
read-constant (rational i p) q e = let h : p ≡ q = cc in subst (Constant (rational i p)) h (Constant.fraction i p)
read-constant (bitvector i v w) q e = not-number e
read-constant (atom i s n) q e = not-number e
read-constant (op i o ts) q e = not-number e

-- a minus before what is read so
is_unary : (o : ℕ) (t x : Term) → unary o t ≡ Some x → Is1 o x t
is_unary o t x e = subst (Is o (x ▹ nil)) (sym (unary-shape o t x e)) (is (record_number t))

is_binary : (o : ℕ) (t : Term) (p : Term × Term) → binary o t ≡ Some p → Is2 o p.0 p.1 t
is_binary o t p e = subst (Is o (p.0 ▹ p.1 ▹ nil)) (sym (binary-shape o t p e)) (is (record_number t))

-- what a reading's opposite is read from
of_negated :
    {A : Type 0} (r : Reading) (q : Rational) → ((p : Rational) → r ≡ Ok p → neg_q p ≡ q → A) →
    negated r ≡ Ok q → A
of_negated (Ok p) q f e = f p refl cc
of_negated (Err NotNumber) q f e = not-number e
of_negated (Err OutOfRange) q f e = out_of_range e

-- ---- signed constants

pub signed-read : {t : Term} {q : Rational} → Signed t q → as_signed_number t ≡ Ok q
unfolding as_signed_number as_number unary
signed-read (Signed.plain (Constant.whole i z)) = refl
signed-read (Signed.plain (Constant.fraction i q)) = refl
signed-read (Signed.minus (is i) c) = ap negated (constant-read c)

pub read-signed : (t : Term) (q : Rational) → as_signed_number t ≡ Ok q → Signed t q
unfolding as_signed_number
read-signed t q =
    by_option (unary Sub t) _ _ _
    (λ x u.
    of_negated (as_number x) q λ p e h.
    subst (Signed t) h (Signed.minus (is_unary Sub t x u) (read-constant x p e)))
    (λ u e. Signed.plain (read-constant t q e))

-- ---- quotients

divided-read :
    (a b : Term) (p q : Rational) → as_signed_number a ≡ Ok p → as_signed_number b ≡ Ok q → is_zero q ≡ false →
    divided unbounded a (as_signed_number b) ≡ Ok (div_q p q)
unfolding bounded
divided-read a b p q ea eb z =
    ap (divided unbounded a) eb
    ∙ ap (λ (t : Bool). elim t as (λ x. Reading) [ true ↦ Err NotNumber | false ↦ over unbounded (as_signed_number a) q ]) z
    ∙ ap (λ (r : Reading). over unbounded r q) ea

unsigned-read : {t : Term} {q : Rational} → Unsigned t q → as_unsigned_fraction unbounded t ≡ Ok q
unfolding as_unsigned_fraction quotient_of binary as_number
unsigned-read (Unsigned.constant (Constant.whole i z)) = refl
unsigned-read (Unsigned.constant (Constant.fraction i q)) = refl
unsigned-read (Unsigned.quotient div (is i) a b z) = divided-read _ _ _ _ (signed-read a) (signed-read b) z
unsigned-read (Unsigned.quotient slash (is i) a b z) = divided-read _ _ _ _ (signed-read a) (signed-read b) z

read-quotient : {o : ℕ} → IsDivision o → (t : Term) (p : Term × Term) → binary o t ≡ Some p → (q : Rational) →
    divided unbounded p.0 (as_signed_number p.1) ≡ Ok q → Unsigned t q
read-quotient {o} d t p u q e =
    let h = quotient p.0 p.1 q e in
    subst (Unsigned t) h.is
    (Unsigned.quotient d (is_binary o t p u) (read-signed p.0 h.dividend h.above)
    (read-signed p.1 h.divisor h.below) h.nonzero)

read-unsigned : (t : Term) (q : Rational) → as_unsigned_fraction unbounded t ≡ Ok q → Unsigned t q
unfolding as_unsigned_fraction quotient_of
read-unsigned t q =
    by_option (quotient_of t) _ _ _
    (λ p u e.
    by_option (binary IntDiv t) Some (binary RealDiv t) (Some p)
    (λ r v f. read-quotient div t p (v ∙ f) q e) (λ v f. read-quotient slash t p f q e) u)
    (λ u e. Unsigned.constant (read-constant t q e))

-- ---- written numbers

plain-read : {t : Term} {q : Rational} → Unsigned t q → as_fraction unbounded t ≡ as_unsigned_fraction unbounded t
unfolding as_fraction unary
plain-read (Unsigned.constant (Constant.whole i z)) = refl
plain-read (Unsigned.constant (Constant.fraction i q)) = refl
plain-read (Unsigned.quotient div (is i) a b z) = refl
plain-read (Unsigned.quotient slash (is i) a b z) = refl

minus-read : (i : ℕ) (t : Term) → as_fraction unbounded (op i Sub (t ▹ nil)) ≡ negated (as_unsigned_fraction unbounded t)
unfolding as_fraction unary
minus-read i t = refl

pub written_read : {t : Term} {q : Rational} → Written t q → as_fraction unbounded t ≡ Ok q
written_read (Written.plain u) = plain-read u ∙ unsigned-read u
written_read (Written.minus {t} (is i) u) = minus-read i t ∙ ap negated (unsigned-read u)

pub written-accepted : {t : Term} {q : Rational} → Written t q → fraction_err the_rust t ≡ Ok q
unfolding fraction_err fraction_of ◌>>=◌ or_else
written-accepted w = rw (written_read w)

pub read-written : (t : Term) (q : Rational) → as_fraction unbounded t ≡ Ok q → Written t q
unfolding as_fraction
read-written t q =
    by_option (unary Sub t) _ _ _
    (λ x u.
    of_negated (as_unsigned_fraction unbounded x) q λ p e h.
    subst (Written t) h (Written.minus (is_unary Sub t x u) (read-unsigned x p e)))
    (λ u e. Written.plain (read-unsigned t q e))

pub signed-written : {t : Term} {q : Rational} → Signed t q → Written t q
signed-written (Signed.plain c) = Written.plain (Unsigned.constant c)
signed-written (Signed.minus s c) = Written.minus s (Unsigned.constant c)

-- ---- for any limits, and under every assignment

pub some_assignment : Assignment
some_assignment = record { truths = λ i. false; integers = λ i. pos 0; reals = λ i. whole_p (pos 0); vectors = λ i. 0 }

abbrev pub Unwritten : Term → Type 0
Unwritten t = (q : Rational) → Written t q → ⊥

abbrev pub Reads : Term → Option Rational → Type 0
Reads t (Some q) = Written t q
Reads t None = Unwritten t

-- under any limits
pub fraction-written : (l : Limits) (t : Term) → Yields (Reads t) (fraction_of l t)
unfolding fraction_of
fraction-written l t = under (fraction_of-limited l t) (go (as_fraction unbounded t) refl)
  where
    under : {x y : Result (Option Rational)} → x ≼ y → Yields (Reads t) y → Yields (Reads t) x
    under (equal r) h = h
    under (stopped p) h = refuses

    go : (r : Reading) → as_fraction unbounded t ≡ r → Yields (Reads t) (number_or r)
    go (Ok q) e = gives (read-written t q e)
    go (Err NotNumber) e = gives {a = None} λ q w. not-number (sym e ∙ written_read w)
    go (Err OutOfRange) e = refuses

-- ---- written numbers

pub fraction-found : (l : Limits) (t : Term) → Yields (Written t) (fraction_err l t)
unfolding fraction_err or_else
fraction-found l t = and_then (fraction-written l t) go
  where
    go : (o : Option Rational) → Reads t o → Yields (Written t) (or_else o ExpectedAnyNumber)
    go (Some q) w = gives w
    go None u = refuses
