-- Rational numbers of any size, and each operation that the Rust makes of them: rug's `Rational`, and its `Integer`
-- where a gcd is taken. A number is in lowest terms with a denominator of at least 1 (`Lowest`); each operation is
-- worked out on the parts and put in lowest terms. Document 01's range is a test by itself (`in_range`, `checked`).
use Rattle.std.specs.Prelude.{◌≡◌, refl, Bool, true, false, ◌&&◌, cond, ℕ, zero, suc, ◌-◌, ◌/◌, ◌%◌, ◌≤◌, leb, ℤ, pos}
use Rattle.std.specs.Prelude.{negsuc, neg_ℤ, nat_abs, ◌+ℤ◌, ◌*ℤ◌, ◌<ℤ◌}
use Rattle.std.proofs.Common.{zero-lt-suc}
use Rattle.std.specs.Int.Signed.{quot_z, le_z, lt_z}
use Rattle.numbers.specs.Pair.{Pair, pair, whole_p, eq_z}
use Rattle.numbers.specs.declared.number.Number.{Number}
use Rattle.std.specs.Prelude.{Option, Some, None}

-- `struct Number` as a value: its two parts are whole numbers of any size
abbrev pub Rational : Type 0
Rational = Number

abbrev pub frac : ℤ → ℤ → Rational
frac n d = record { num = n; den = d }

abbrev pub whole : ℤ → Rational
whole z = frac z (pos 1)

-- ---- lowest terms

-- by repeated remainder; the first argument bounds how many are taken, and one more than b is enough
unfoldable pub gcd_within : ℕ → ℕ → ℕ → ℕ
gcd_within zero a b = a
gcd_within (suc k) a zero = a
gcd_within (suc k) a (suc b) = gcd_within k (suc b) (a % suc b)

-- the greatest common divisor; of 0 and 0 it is 0
unfoldable pub gcd : ℕ → ℕ → ℕ
gcd a b = gcd_within (suc b) a b

pub record Lowest (q : Rational) : Type 0 where
  pub positive : pos 0 <ℤ q.den
  pub coprime : gcd (nat_abs q.num) (nat_abs q.den) ≡ 1

-- both parts over g
abbrev pub divided_by : ℕ → ℤ → ℤ → Rational
divided_by g n d = frac (quot_z n (pos g)) (quot_z d (pos g))

-- n/d in lowest terms, for d at least 1
unfoldable pub lowest : ℤ → ℤ → Rational
lowest n d = divided_by (gcd (nat_abs n) (nat_abs d)) n d

-- the same for a d that may be negative and is not 0: its sign moves to the numerator
abbrev pub upright : ℤ → ℤ → Rational
upright n (pos d) = lowest n (pos d)
upright n (negsuc d) = lowest (neg_ℤ n) (pos (suc d))

-- ---- the operations

unfoldable pub mul_q : Rational → Rational → Rational
mul_q a b = lowest (a.num *ℤ b.num) (a.den *ℤ b.den)

-- b is not 0
unfoldable pub div_q : Rational → Rational → Rational
div_q a b = upright (a.num *ℤ b.den) (a.den *ℤ b.num)

unfoldable pub add_q : Rational → Rational → Rational
add_q a b = lowest (a.num *ℤ b.den +ℤ b.num *ℤ a.den) (a.den *ℤ b.den)

unfoldable pub neg_q : Rational → Rational
neg_q a = frac (neg_ℤ a.num) a.den

unfoldable pub abs_q : Rational → Rational
abs_q a = frac (pos (nat_abs a.num)) a.den

-- n/d rounded down: -(n + 1) is from -d (n/d + 1) up to below -d (n/d)
abbrev pub floor_z : ℤ → ℕ → ℤ
floor_z (pos n) d = pos (n / d)
floor_z (negsuc n) d = negsuc (n / d)

unfoldable pub floor_q : Rational → Rational
floor_q a = whole (floor_z a.num (nat_abs a.den))

-- the least number that is not negative and is z modulo m: rug's `modulo`
abbrev pub modulo : ℤ → ℕ → ℕ
modulo (pos n) m = n % m
modulo (negsuc n) m = m - suc (n % m)

-- ---- the tests

unfoldable pub is_integer : Rational → Bool
is_integer a = eq_z a.den (pos 1)

unfoldable pub is_zero : Rational → Bool
is_zero a = eq_z a.num (pos 0)

unfoldable pub is_positive : Rational → Bool
is_positive a = lt_z (pos 0) a.num

-- numbers in lowest terms are equal where their parts are
unfoldable pub eq_q : Rational → Rational → Bool
eq_q a b = eq_z a.num b.num && eq_z a.den b.den

unfoldable pub less_q : Rational → Rational → Bool
less_q a b = lt_z (a.num *ℤ b.den) (b.num *ℤ a.den)

unfoldable pub less_eq_q : Rational → Rational → Bool
less_eq_q a b = le_z (a.num *ℤ b.den) (b.num *ℤ a.den)

-- ---- the value of a number, as a pair; a denominator below 1 makes no number, and 0 stands for it

abbrev pub over_p : ℤ → ℤ → Pair
over_p n (pos zero) = whole_p (pos 0)
over_p n (pos (suc d)) = pair n (suc d) (zero-lt-suc d)
over_p n (negsuc d) = whole_p (pos 0)

unfoldable pub value : Rational → Pair
value q = over_p q.num q.den

-- ---- document 01's range

abbrev pub limit : ℕ
limit = 2147483647

unfoldable pub in_range : Rational → Bool
in_range q = leb (nat_abs q.num) limit && leb (nat_abs q.den) limit

-- the answer of an operation that can leave the range: none outside it
abbrev pub Checked : Type 0
Checked = Option Rational

unfoldable pub checked : Rational → Checked
checked q = cond (in_range q) (Some q) None

-- document 01's number for each case: 11 is 'number range', 0 no refusal
abbrev pub refusal : Checked → ℕ
refusal (Some q) = 0
refusal None = 11

-- so it is 11 outside the range and nowhere else
pub refusal_of_checked : (q : Rational) → refusal (checked q) ≡ cond (in_range q) 0 11
unfolding checked
refusal_of_checked q = go (in_range q)
  where
    go : (t : Bool) → refusal (cond t (Some q) None) ≡ cond t 0 11
    go true = refl
    go false = refl

-- ---- what the code's functions ask of a number, and promise of each number that they make

-- It is in range and its denominator is at least 1: then no operation leaves 64 bits. Lowest terms are no part of
-- this, since the machine's arithmetic does not lean on them.
pub record Proper (q : Rational) : Type 0 where
  pub numerator : nat_abs q.num ≤ limit
  pub positive : pos 0 <ℤ q.den
  pub denominator : nat_abs q.den ≤ limit

pub record Divisor (q : Rational) : Type 0 where
  pub proper : Proper q
  pub nonzero : is_zero q ≡ false

-- r is the definition's number
pub record Makes (r q : Rational) : Type 0 where
  pub is : r ≡ q
  pub proper : Proper r

-- r is the definition's answer, with its number
pub record Gives (r a : Checked) : Type 0 where
  pub is : r ≡ a
  pub number : refusal r ≡ refusal a
  pub proper : (q : Rational) → r ≡ Some q → Proper q

-- ---- examples

gcd_of_twenty_digits : gcd 12345678901234567890 98765432109876543210 ≡ 900000000090
unfolding gcd gcd_within
gcd_of_twenty_digits = refl

product_in_lowest-terms : mul_q (frac (pos 2) (pos 3)) (frac (negsuc 8) (pos 4)) ≡ frac (negsuc 2) (pos 2)
unfolding mul_q lowest gcd gcd_within
product_in_lowest-terms = refl

quotient-takes_the_sign : div_q (frac (pos 1) (pos 2)) (frac (negsuc 2) (pos 4)) ≡ frac (negsuc 1) (pos 3)
unfolding div_q lowest gcd gcd_within
quotient-takes_the_sign = refl

sum_in_lowest-terms : add_q (frac (pos 1) (pos 2)) (frac (negsuc 0) (pos 6)) ≡ frac (pos 1) (pos 3)
unfolding add_q lowest gcd gcd_within
sum_in_lowest-terms = refl

floor-goes-down : floor_q (frac (negsuc 6) (pos 2)) ≡ whole (negsuc 3)
unfolding floor_q
floor-goes-down = refl

-- K12: 2147483647 + 1 leaves the range, 2147483646 + 1 does not
past_the_range : refusal (checked (add_q (whole (pos 2147483647)) (whole (pos 1)))) ≡ 11
unfolding checked in_range add_q lowest gcd gcd_within
past_the_range = refl

last_in_range : checked (add_q (whole (pos 2147483646)) (whole (pos 1))) ≡ Some (whole (pos 2147483647))
unfolding checked in_range add_q lowest gcd gcd_within
last_in_range = refl
