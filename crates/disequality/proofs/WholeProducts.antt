-- Products of whole numbers, and the test on a literal's constant times its argument.
use mathlib.Core.Path.{◌≡◌, refl, ap}
use mathlib.Core.Bool.{true}
use lib.IntN.{pos}
use Rattle.numbers.specs.Rational.{Rational, whole, mul_q, is_integer, is_zero, eq_q}
use Rattle.numbers.proofs.Truths.{if_either}
use Rattle.numbers.proofs.Rationals.{is_integer-whole}
use Rattle.disequality.specs.Disequality.{is_integer_times}
use Rattle.rules.proofs.WholeNumbers.{mul-whole}

-- a whole constant times a whole argument is whole
pub product_whole : (d a : Rational) → is_integer d ≡ true → is_integer a ≡ true → is_integer (mul_q d a) ≡ true
unfolding is_integer
product_whole d a v w = ap is_integer (mul-whole d a (is_integer-whole d v) (is_integer-whole a w))

pub times-whole : (d a : Rational) → is_integer d ≡ true → is_integer a ≡ true → is_integer_times d a ≡ true
unfolding is_integer_times is_integer
times-whole d a v w =
    if_either (λ b. b ≡ true) (is_zero a)
    (λ t. refl)
    (λ t.
    if_either (λ b. b ≡ true) (eq_q a (whole (pos 1)))
    (λ u. v)
    (λ u. product_whole d a v w))
