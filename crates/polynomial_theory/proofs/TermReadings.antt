-- What a walk needs to know of the meaning of terms, in any ring: a value for each term, such that the
-- terms that a walk goes into mean the sum, difference, product or quotient that it takes them for
-- (`TermReading`). It is given for numbers in NumberReadings, and for bit-vectors of one width in
-- VectorReadings.
use mathlib.Core.Path.{◌≡◌}
use mathlib.Core.Bool.{false}
use Rattle.std.specs.Prelude.{Option, Some, None}
use Prim.Native.Nat.{ℕ}
use lib.IntN.{pos}
use Rattle.numbers.specs.Rational.{Rational, div_q, is_zero}
use Rattle.terms.specs.Term.{Term, Terms}
use Rattle.terms.specs.Term.Term.{bitvector, op}
use Rattle.terms.specs.Term.Terms.{nil, ◌▹◌}
use Rattle.terms.specs.Readers.{unbounded, as_fraction}
use Rattle.numbers.proofs.Ring.{Ring}
use Rattle.book.proofs.BookTerms.{Each}
use Rattle.polynomial_walk.specs.PolynomialTerms.{Arm, arm_of}
use Rattle.polynomial_walk.specs.PolynomialTerms.Arm.{sum, negation, difference, product, quotient, leaf}
use Rattle.rules.proofs.Valuations.{Valuation, Respects}
use Rattle.std.specs.Prelude.{Ok}

-- ---- the value of a list of arguments

module _ (R : Ring) (value : Term → R.carrier) where
  unfoldable pub sum_of : Terms → R.carrier
  sum_of nil = R.ι (pos 0)
  sum_of (t ▹ ts) = R.add (value t) (sum_of ts)

  -- the first less the others
  unfoldable pub difference_of : Terms → R.carrier
  difference_of nil = R.ι (pos 0)
  difference_of (t ▹ ts) = R.add (value t) (R.neg (sum_of ts))

  unfoldable pub factors_of : Terms → R.carrier
  factors_of nil = R.ι (pos 1)
  factors_of (t ▹ ts) = R.mul (value t) (factors_of ts)

  -- the Rust's product of no factors is 0
  unfoldable pub product_of : Terms → R.carrier
  product_of nil = R.ι (pos 0)
  product_of (t ▹ ts) = R.mul (value t) (factors_of ts)

  unfoldable pub first_of : Terms → R.carrier
  first_of nil = R.ι (pos 0)
  first_of (t ▹ ts) = value t

unfoldable pub First : (Term → Type 0) → Terms → Type 0
First P nil = Unit {0}
First P (t ▹ ts) = P t

-- the second argument is read as a number that is not 0, or as none
abbrev pub DividedBy : Terms → Option Rational → Type 0
DividedBy ts None = Unit {0}
DividedBy nil (Some q) = ⊥
DividedBy (a ▹ nil) (Some q) = ⊥
DividedBy (a ▹ b ▹ ts) (Some q) = (as_fraction unbounded b ≡ Ok q) × (is_zero q ≡ false)

-- ---- the premise

module _ {R : Ring} (N : Valuation R) (value : Term → R.carrier) (Fits : Term → Type 0) where
  open R use {carrier, mul as ◌*◌, neg as -◌}

  infixl 7 ◌*◌
  infix 8 -◌
  -- x is the first argument over any number that the second is read as
  pub record Quotient (ts : Terms) (x : carrier) : Type 0 where
    pub first : First Fits ts
    pub good : (c q : Rational) → N.Good c → DividedBy ts (Some q) → N.Good (div_q c q)
    pub is :
        (c q : Rational) → N.Good c → DividedBy ts (Some q) →
        N.number (div_q c q) * first_of R value ts ≡ N.number c * x

  -- x is what an arm of the walk takes these arguments for
  abbrev pub Taken : Arm → Terms → carrier → Type 0
  Taken sum ts x = Each Fits ts × (x ≡ sum_of R value ts)
  Taken negation ts x = Each Fits ts × (x ≡ - sum_of R value ts)
  Taken difference ts x = Each Fits ts × (x ≡ difference_of R value ts)
  Taken product ts x = Each Fits ts × (x ≡ product_of R value ts)
  Taken quotient ts x = Quotient ts x
  Taken leaf ts x = Unit {0}

-- Terms that fit are those that the walk may meet.
pub record TermReading {R : Ring} (N : Valuation R) : Type 1 where
  pub value : Term → R.carrier
  pub Fits : Term → Type 0
  pub respects : Respects Fits value
  pub fraction :
      (t : Term) → Fits t → (q : Rational) → as_fraction unbounded t ≡ Ok q →
      N.Good q × (value t ≡ N.number q)
  pub vector : (i v n : ℕ) → Fits (bitvector i v n) → value (bitvector i v n) ≡ R.ι (pos v)
  pub operation :
      (i o : ℕ) (ts : Terms) → Fits (op i o ts) → Taken N value Fits (arm_of o ts) ts (value (op i o ts))
