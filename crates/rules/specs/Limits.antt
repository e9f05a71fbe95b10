-- The limits that document 01 adds to the Rust, as a parameter: with `limited n` the definitions are what the code must
-- equal under the visit limit n, with `the_rust` they are the Rust itself. And the operations on numbers under a limit.
use Rattle.std.specs.Prelude.{Option, Some, None}
use Rattle.std.specs.Prelude.{ℕ}
use Rattle.numbers.specs.Rational.{Rational, mul_q, div_q, add_q, limit}
use Rattle.terms.specs.Term.{Term, Terms}
use Rattle.terms.specs.Readers.{Bound, unbounded, at_most, bounded, as_signed_number, as_fraction, as_bitvector}
use Rattle.terms.specs.Readers.{as_op}
use Rattle.rules.specs.Refusal.{Result, ◌>>=◌, or_else}
use Rattle.std.specs.Prelude.{Ok, Err}
use Rattle.rules.specs.declared.refusal.Refusal.TheVariants.{NumberRange, ExpectedAnyNumber, ExpectedBitvector}
use Rattle.rules.specs.declared.refusal.Refusal.TheVariants.{ExpectedOperationTerm}
use Rattle.terms.specs.Readers.{Reading}
use Rattle.terms.specs.declared.term.NotRead.TheVariants.{NotNumber, OutOfRange}

pub record Limits : Type 0 where
  pub numbers : Bound
  pub visits : Bound
  -- of a polynomial
  pub monomials : Bound
  -- of a monomial
  pub atoms : Bound
  -- of nested products
  pub depth : Bound

abbrev pub the_rust : Limits
the_rust =
    record { numbers = unbounded; visits = unbounded; monomials = unbounded; atoms = unbounded; depth = unbounded }

abbrev pub limited : ℕ → Limits
limited n =
    record { numbers = at_most limit; visits = at_most n; monomials = at_most 64; atoms = at_most 8; depth = at_most 8 }

-- ---- numbers: one outside the range is refusal 11

abbrev pub number_or : Reading → Result (Option Rational)
number_or (Ok q) = Ok (Some q)
number_or (Err NotNumber) = Ok None
number_or (Err OutOfRange) = Err NumberRange

abbrev pub in_limit : Reading → Result Rational
in_limit (Ok q) = Ok q
in_limit (Err NotNumber) = Err NumberRange
in_limit (Err OutOfRange) = Err NumberRange

unfoldable pub ranged : Limits → Rational → Result Rational
ranged l q = in_limit (bounded l.numbers q)

unfoldable pub times : Limits → Rational → Rational → Result Rational
times l a b = ranged l (mul_q a b)

unfoldable pub plus : Limits → Rational → Rational → Result Rational
plus l a b = ranged l (add_q a b)

-- b is not 0
unfoldable pub over : Limits → Rational → Rational → Result Rational
over l a b = ranged l (div_q a b)

-- ---- the readers

unfoldable pub fraction_of : Limits → Term → Result (Option Rational)
fraction_of l t = number_or (as_fraction l.numbers t)

-- `as_fraction_err`
unfoldable pub fraction_err : Limits → Term → Result Rational
fraction_err l t = fraction_of l t >>= λ q. or_else q ExpectedAnyNumber

-- `as_signed_number_err`
unfoldable pub signed_number_err : Term → Result Rational
signed_number_err t = number_or (as_signed_number t) >>= λ q. or_else q ExpectedAnyNumber

-- `as_bitvector_err`: value and width
abbrev pub bits_err : Option (ℕ × ℕ) → Result (ℕ × ℕ)
bits_err (Some (v, w)) = Ok (v, w)
bits_err None = Err ExpectedBitvector

unfoldable pub bitvector_err : Term → Result (ℕ × ℕ)
bitvector_err t = bits_err (as_bitvector t)

-- `as_op_err`: operator and arguments
unfoldable pub op_err : Term → Result (ℕ × Terms)
op_err t = or_else (as_op t) ExpectedOperationTerm
