-- The code's answers for numbers against the definitions under a limit: where an operation answers a value, the
-- definition is `Ok` of it, and where it leaves the range, the definition refuses. So the definition is `ok_or` of the
-- answer.
--     whole-proper       a whole number in range
--     sum-asked, product-asked, quotient-asked       the definition is `ok_or` of the answer
--     plus-value, plus_out, times-value, times_out       the two cases
--     on_answer, on_product       what follows on a number
--     small-fits, small-back       a number in range as the machine's
use mathlib.Core.Path.{◌≡◌, refl, sym}
use mathlib.Core.Bool.{Bool, true, false, cond}
use Prim.Native.Nat.{ℕ, ◌≤◌}
use native.Mathlib.Nat.{zero-lt-suc}
use lib.Dec.{lit≤}
use lib.IntN.{ℤ, nat_abs}
use Rattle.numbers.specs.Rational.{Rational, Proper, limit, whole, add_q, mul_q, div_q, in_range, checked, Checked}
use Rattle.terms.specs.Readers.{bounded}
use Rattle.numbers.proofs.Order.{pos-positive}
use Rattle.rules.specs.Refusal.{Result, ◌>>=◌}
use Rattle.std.specs.Prelude.{Ok, Err, Some, None}
use Rattle.std.specs.Option.{ok_or}
use Rattle.rules.specs.declared.refusal.Refusal.TheVariants.{NumberRange}
use Rattle.rules.specs.Limits.{limited, in_limit, ranged, plus, times, over}
use mir.Syntax.{w64}
use mir.Val.{SFits}
use mir.Facts.{to_z-of_z}
use Rattle.numbers.proofs.Machine.{R, arg, exact-fits}
use Rattle.terms.specs.declared.term.NotRead.TheVariants.{OutOfRange}

-- a whole number in range
pub whole-proper : (z : ℤ) → nat_abs z ≤ limit → Proper (whole z)
whole-proper z h = record { numerator = h; positive = pos-positive (zero-lt-suc 0); denominator = lit≤ tt }

module _ (l : ℕ) where
  ranged-asked : (q : Rational) {r : Checked} → r ≡ checked q → ok_or r NumberRange ≡ ranged (limited l) q
  unfolding checked in_range ranged bounded
  ranged-asked q e = rw e (go (in_range q))
    where
      go : (t : Bool) → ok_or (cond t (Some q) None) NumberRange ≡ in_limit (cond t (Ok q) (Err OutOfRange))
      go true = refl
      go false = refl

  module _ (a b : Rational) where
    pub sum-asked : {r : Checked} → r ≡ checked (add_q a b) → ok_or r NumberRange ≡ plus (limited l) a b
    unfolding plus
    sum-asked e = ranged-asked (add_q a b) e

    pub product-asked : {r : Checked} → r ≡ checked (mul_q a b) → ok_or r NumberRange ≡ times (limited l) a b
    unfolding times
    product-asked e = ranged-asked (mul_q a b) e

    pub quotient-asked : {r : Checked} → r ≡ checked (div_q a b) → ok_or r NumberRange ≡ over (limited l) a b
    unfolding over
    quotient-asked e = ranged-asked (div_q a b) e

    pub plus-value : (q : Rational) → checked (add_q a b) ≡ Some q → plus (limited l) a b ≡ Ok q
    plus-value q e = sym (sum-asked (sym e))

    pub plus_out : checked (add_q a b) ≡ None → plus (limited l) a b ≡ Err NumberRange
    plus_out e = sym (sum-asked (sym e))

    pub times-value : (q : Rational) → checked (mul_q a b) ≡ Some q → times (limited l) a b ≡ Ok q
    times-value q e = sym (product-asked (sym e))

    pub times_out : checked (mul_q a b) ≡ None → times (limited l) a b ≡ Err NumberRange
    times_out e = sym (product-asked (sym e))

-- ---- steps

-- what follows on a number m that is in range or not, by the code's answer c for it
pub on_answer :
    {A : Type 0} {m : Result Rational} (c : Checked) → ok_or c NumberRange ≡ m →
    (f : Rational → Result A) (g : Checked → Result A) → ((q : Rational) → f q ≡ g (Some q)) →
    Err NumberRange ≡ g None → (m >>= f) ≡ g c
unfolding ◌>>=◌
on_answer (Some q) e f g h k = rw (sym e) (h q)
on_answer None e f g h k = rw (sym e) k

-- what follows on a product
pub on_product :
    {A : Type 0} (n : ℕ) (a c : Rational) (f : Rational → Result A) (g : Checked → Result A) →
    ((q : Rational) → f q ≡ g (Some q)) → Err NumberRange ≡ g None →
    (times (limited n) a c >>= f) ≡ g (checked (mul_q a c))
on_product n a c f g h k = on_answer (checked (mul_q a c)) (product-asked n a c refl) f g h k

-- ---- the loop

pub small-fits : (z : ℤ) → nat_abs z ≤ limit → SFits w64 z
small-fits z h = exact-fits (arg z limit h) tt

pub small-back : (z : ℤ) → nat_abs z ≤ limit → R z ≡ z
small-back z h = to_z-of_z (small-fits z h)
