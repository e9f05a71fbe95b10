-- What the readers of numbers answer: `Finds` from an equation (`finds`), and each reader's answer from what
-- the readers that it calls have found. `bounded` at document 01's range is the test of `checked`, by which
-- `Number::div` answers.
use mathlib.Core.Path.{◌≡◌, refl, sym, ◌∙◌, ap, subst}
use mathlib.Core.Bool.{Bool, true, false, cond, and-eq-true_iff}
use Rattle.std.specs.Prelude.{Some, None}
use Prim.Native.Nat.{ℕ}
use lib.Dec.{T}
use lib.IntN.{ℤ, pos}
use lib.Signed.{lt_z}
use Rattle.numbers.specs.Bytes.{Bytes, signed}
use Rattle.numbers.specs.Rational.{Rational, frac, Proper, Makes, Gives, in_range, checked, div_q, neg_q, is_zero}
use Rattle.terms.specs.Operator.{Sub}
use Rattle.terms.specs.Term.{Term, unary}
use Rattle.terms.specs.Term.Terms.{nil}
use Rattle.terms.specs.Book.{is_number, field1, node, tree}
use Rattle.terms.specs.Readers.{Finds, reading_refusal, Child, Children, found, found_two, ranged, bounded}
use Rattle.terms.specs.Readers.{as_number, negated, as_signed_number, quotient_of, as_unsigned_fraction, over, divided}
use Rattle.numbers.proofs.Ranges.{sizes_of_in_range}
use Rattle.terms.proofs.RecordReadings.{denominator, node_is, as_number_of}
use Rattle.numbers.specs.Rational.{Checked}
use Rattle.std.specs.Prelude.{Option, Ok, Err, ok_or}
use Rattle.terms.specs.Readers.{Reading}
use Rattle.terms.specs.declared.term.NotRead.TheVariants.{NotNumber, OutOfRange}

-- ---- `Finds` from an equation

-- the number in an answer is proper
abbrev pub Sound : Reading → Type 0
Sound (Ok q) = Proper q
Sound (Err NotNumber) = Unit {0}
Sound (Err OutOfRange) = Unit {0}

pub finds : {r a : Reading} → Sound r → r ≡ a → Finds r a
finds {r} s e = record { is = e; number = ap reading_refusal e; proper = λ q h. go r s q h }
  where
    go : (r : Reading) → Sound r → (q : Rational) → r ≡ Ok q → Proper q
    go (Ok p) s q h = let same : p ≡ q = cc in subst Proper same s
    go (Err NotNumber) s q h = cc
    go (Err OutOfRange) s q h = cc

pub proper_of_is_number : (q : Rational) → is_number q ≡ true → Proper q
proper_of_is_number q e =
    let t = (and-eq-true_iff (in_range q) (lt_z (pos 0) q.den)).0 e in
    let s = sizes_of_in_range q t.0 in
    record { numerator = s.0; positive = record { lt = subst T (sym t.1) tt }; denominator = s.1 }

-- ---- constants

module _ (r : Bytes) {n d : ℤ} (n-is : n ≡ signed 8 (field1 r)) (d-is : d ≡ denominator r) where
  tested : {t : Bool} → is_number (frac n d) ≡ t → cond t (Ok (frac n d)) (Err NotNumber) ≡ as_number (node 0 r nil)
  tested e =
      ap (λ (t : Bool). cond t (Ok (frac n d)) (Err NotNumber)) (sym e)
      ∙ rw (n-is, d-is) (sym (as_number_of r (node_is 0 r nil)))

  pub constant-found : is_number (frac n d) ≡ true → Finds (Ok (frac n d)) (as_number (node 0 r nil))
  constant-found e = finds (proper_of_is_number (frac n d) e) (tested e)

  pub no_constant : is_number (frac n d) ≡ false → Finds (Err NotNumber) (as_number (node 0 r nil))
  no_constant e = finds tt (tested e)

-- ---- negation

pub negated-value :
    {x : Reading} {q r : Rational} → x ≡ Ok q → Makes r (neg_q q) → Finds (Ok r) (negated x)
negated-value e m = finds m.proper (rw (e, m.is))

-- a reader of numbers, or of their negations
abbrev pub signed_by : (Term → Reading) → Term → Reading
signed_by f t = elim (unary Sub t) [ Some x ↦ negated (f x) | None ↦ f t ]

module _ {b : Bytes} {i : ℕ} (f : Term → Reading) {u : Option ℕ} (c : Child b i u (unary Sub (tree b i))) where
  pub signed-inside :
      {x : ℕ} {y r : Reading} → u ≡ Some x → Finds y (f (tree b x)) → Finds r (negated y) →
      Finds r (signed_by f (tree b i))
  signed-inside {x} e inner outer =
      let there-is : unary Sub (tree b i) ≡ Some (tree b x) = sym c.is ∙ ap (found b) e in
      rw (there-is, signed_by, ← inner.is) outer

  pub signed-itself : {r : Reading} → u ≡ None → Finds r (f (tree b i)) → Finds r (signed_by f (tree b i))
  signed-itself e h =
      let there-is : unary Sub (tree b i) ≡ None = sym c.is ∙ ap (found b) e in
      rw (there-is, signed_by) h

-- ---- the range

-- an answer of `Number`'s operations as a reading
abbrev pub reading : Checked → Reading
reading (Some q) = Ok q
reading None = Err OutOfRange

pub bounded-checked : (q : Rational) → bounded ranged q ≡ reading (checked q)
unfolding bounded checked in_range
bounded-checked q = go (in_range q)
  where
    go : (t : Bool) → ◌≡◌ {A = Reading} (cond t (Ok q) (Err OutOfRange)) (reading (cond t (Some q) None))
    go true = refl
    go false = refl

-- ---- fractions

-- a reading that is no number
pub no_value :
    (P : Reading → Type 0) → P (Err NotNumber) → P (Err OutOfRange) → (r : Reading) →
    ((q : Rational) → r ≡ Ok q → ⊥) → P r
no_value P x y (Ok q) h = absurd (h q refl)
no_value P x y (Err NotNumber) h = x
no_value P x y (Err OutOfRange) h = y

-- the fraction at record i is that of record x over what is read of the divisor
pub record OverReading (b : Bytes) (i x : ℕ) (d : Reading) : Type 0 where
  pub is : as_unsigned_fraction ranged (tree b i) ≡ divided ranged (tree b x) d

-- it is what is read of the dividend over the divisor
pub record OverNumber (b : Bytes) (i : ℕ) (n : Reading) (q : Rational) : Type 0 where
  pub is : as_unsigned_fraction ranged (tree b i) ≡ over ranged n q

module _ {b : Bytes} {i : ℕ} {w : Option (ℕ × ℕ)} (c : Children b i w (quotient_of (tree b i))) where
  pub fraction-itself :
      {r : Reading} → w ≡ None → Finds r (as_number (tree b i)) →
      Finds r (as_unsigned_fraction ranged (tree b i))
  unfolding as_unsigned_fraction
  fraction-itself e h =
      let there-is : quotient_of (tree b i) ≡ None = sym c.is ∙ ap (found_two b) e in
      rw (there-is, as_unsigned_fraction) h

  pub over-reading :
      {x y : ℕ} {d : Reading} → w ≡ Some (x, y) → Finds d (as_signed_number (tree b y)) → OverReading b i x d
  unfolding as_unsigned_fraction
  over-reading {x} {y} e d-is =
      let there-is : quotient_of (tree b i) ≡ Some (tree b x, tree b y) = sym c.is ∙ ap (found_two b) e in
      record { is = rw (there-is, as_unsigned_fraction, d-is.is) }

module _ {b : Bytes} {i x : ℕ} {d : Reading} (f : OverReading b i x d) where
  pub no_divisor :
      ((q : Rational) → d ≡ Ok q → ⊥) → Finds (Err NotNumber) (as_unsigned_fraction ranged (tree b i))
  no_divisor h =
      finds tt (sym (f.is ∙ no_value (λ (r : Reading). divided ranged (tree b x) r ≡ Err NotNumber) refl refl d h))

  module _ {q : Rational} (q-is : d ≡ Ok q) where
    pub zero-divisor : is_zero q ≡ true → Finds (Err NotNumber) (as_unsigned_fraction ranged (tree b i))
    zero-divisor z = finds tt (sym (f.is ∙ rw (q-is, divided, z)))

    pub over-number :
        {n : Reading} → is_zero q ≡ false → Finds n (as_signed_number (tree b x)) → OverNumber b i n q
    over-number z n-is = record { is = f.is ∙ rw (q-is, divided, z, n-is.is) }

module _ {b : Bytes} {i : ℕ} {n : Reading} {q : Rational} (f : OverNumber b i n q) where
  pub no_dividend :
      ((p : Rational) → n ≡ Ok p → ⊥) → Finds (Err NotNumber) (as_unsigned_fraction ranged (tree b i))
  no_dividend h =
      finds tt (sym (f.is ∙ no_value (λ (r : Reading). over ranged r q ≡ Err NotNumber) refl refl n h))

  module _ {p : Rational} (p_is : n ≡ Ok p) {a : Checked} (g : Gives a (checked (div_q p q))) where
    quotient_is : {r : Reading} → reading a ≡ r → r ≡ as_unsigned_fraction ranged (tree b i)
    quotient_is e = sym e ∙ ap reading g.is ∙ sym (f.is ∙ rw p_is (bounded-checked (div_q p q)))

    pub quotient-found : (x : Checked) → a ≡ x → Finds (ok_or x OutOfRange) (as_unsigned_fraction ranged (tree b i))
    quotient-found (Some s) e = finds (g.proper s e) (quotient_is (ap reading e))
    quotient-found None e = finds tt (quotient_is (ap reading e))

    pub quotient-read : {r : Reading} → r ≡ ok_or a OutOfRange → Finds r (as_unsigned_fraction ranged (tree b i))
    quotient-read e = subst (λ r. Finds r (as_unsigned_fraction ranged (tree b i))) (sym e) (quotient-found a refl)
