-- What the tests of a number's range say, the answers that the contracts ask for, and the parts of numbers in range as
-- the machine has them.
--     in_range_of_sizes, sizes_of_in_range, large-num, large-den       the test and the sizes of the parts
--     checked_is, value_of_checked, out_of_checked, proper_of_checked       the answer and the test
--     makes, gives, gives_same       `Makes` and `Gives` from an equation
--     checked_of_proper, proper-neg, proper_abs, proper-floor       what is always in range
--     num, den, nums, dens, left_cross, right_cross       parts and their products as expressions of `Machine`
use mathlib.Core.Path.{◌≡◌, refl, sym, ◌∙◌, ap, ap₂, subst}
use mathlib.Core.Bool.{Bool, true, false, cond}
use Prim.Native.Nat.{ℕ, ◌≤◌, ◌<◌, suc-le-suc}
use native.Mathlib.Nat.{div-le_self, le_trans, zero-lt-suc}
use native.Mathlib.Omega.{arith}
use borrow.Author.Tests.{le-leb, lt-leb}
use lib.Dec.{T, leb, leb→le, lit≤}
use lib.IntN.{ℤ, pos, negsuc, nat_abs, ◌*ℤ◌}
use lib.Signed.{◌<ℤ◌}
use mir.Facts.{and_yes}
use Rattle.numbers.specs.Rational.{Rational, frac, Proper, Makes, Gives, limit, in_range, checked, refusal, neg_q}
use Rattle.numbers.specs.Rational.{abs_q, floor_z, floor_q}
use Rattle.numbers.proofs.Integers.{nat_abs_negℤ}
use Rattle.numbers.proofs.Order.{mul-pos, pos-positive}
use Rattle.numbers.proofs.Machine.{Code, arg, ◌⊠◌, machine, back}
use Rattle.numbers.specs.Rational.{Checked}
use Rattle.std.specs.Prelude.{Some, None}

-- ---- the test

module _ (q : Rational) where
  pub in_range_of_sizes : nat_abs q.num ≤ limit → nat_abs q.den ≤ limit → in_range q ≡ true
  unfolding in_range
  in_range_of_sizes h k = rw (le-leb (nat_abs q.num) limit h, le-leb (nat_abs q.den) limit k)

  pub sizes_of_in_range : in_range q ≡ true → (nat_abs q.num ≤ limit) × (nat_abs q.den ≤ limit)
  unfolding in_range
  sizes_of_in_range e =
      let t = and_yes (leb (nat_abs q.num) limit) (leb (nat_abs q.den) limit) (subst T (sym e) tt) in
      (leb→le (nat_abs q.num) limit t.0, leb→le (nat_abs q.den) limit t.1)

  pub large-num : limit < nat_abs q.num → in_range q ≡ false
  unfolding in_range
  large-num h = rw (lt-leb (nat_abs q.num) limit h)

  pub large-den : nat_abs q.num ≤ limit → limit < nat_abs q.den → in_range q ≡ false
  unfolding in_range
  large-den h k = rw (le-leb (nat_abs q.num) limit h, lt-leb (nat_abs q.den) limit k)

  -- ---- the answer

  pub checked_is : {t : Bool} → in_range q ≡ t → cond t (Some q) None ≡ checked q
  unfolding checked
  checked_is e = rw e

  pub value_of_checked : (r : Rational) → checked q ≡ Some r → (q ≡ r) × (in_range q ≡ true)
  value_of_checked r e = go (in_range q) refl
    where
      go : (t : Bool) → in_range q ≡ t → (q ≡ r) × (in_range q ≡ true)
      go true h = let d = checked_is h in (cc, h)
      go false h = let d = checked_is h in let z : ◌≡◌ {A = ℕ} 0 1 = cc in absurd (omega arith)

  pub out_of_checked : checked q ≡ None → in_range q ≡ false
  out_of_checked e = go (in_range q) refl
    where
      go : (t : Bool) → in_range q ≡ t → in_range q ≡ false
      go true h = let d = checked_is h in cc
      go false h = h

  pub proper_of_checked : pos 0 <ℤ q.den → (r : Rational) → checked q ≡ Some r → Proper r
  proper_of_checked p r e =
      let v = value_of_checked r e in
      let s = sizes_of_in_range v.1 in
      subst Proper v.0 (record { numerator = s.0; positive = p; denominator = s.1 })

-- ---- what the contracts ask

pub makes : {r q : Rational} → r ≡ q → Proper q → Makes r q
makes e p = record { is = e; proper = subst Proper (sym e) p }

-- a number with the same denominator and a numerator of the same size
pub same_size : {q : Rational} {n : ℤ} → Proper q → nat_abs n ≡ nat_abs q.num → Proper (frac n q.den)
same_size p e =
    record {
      numerator = subst (λ (k : ℕ). k ≤ limit) (sym e) p.numerator;
      positive = p.positive;
      denominator = p.denominator;
    }

pub gives : {r : Checked} (q : Rational) → pos 0 <ℤ q.den → r ≡ checked q → Gives r (checked q)
gives q p e = record { is = e; number = ap refusal e; proper = λ s h. proper_of_checked q p s (sym e ∙ h) }

pub gives_same : {r : Checked} {p q : Rational} → p ≡ q → Gives r (checked p) → Gives r (checked q)
gives_same {r} = subst (λ (q : Rational). Gives r (checked q))

-- ---- negation, absolute value and floor stay in range: the test that document 01 makes of them always passes

pub checked_of_proper : {q : Rational} → Proper q → checked q ≡ Some q
checked_of_proper {q} p = sym (checked_is q (in_range_of_sizes q p.numerator p.denominator))

pub proper-neg : {q : Rational} → Proper q → Proper (neg_q q)
unfolding neg_q
proper-neg {q} p = same_size p (nat_abs_negℤ q.num)

pub proper_abs : {q : Rational} → Proper q → Proper (abs_q q)
unfolding abs_q
proper_abs p = same_size p refl

nat_abs-floor_z-le : (n : ℤ) (d : ℕ) → nat_abs (floor_z n d) ≤ nat_abs n
nat_abs-floor_z-le (pos n) d = div-le_self n d
nat_abs-floor_z-le (negsuc n) d = suc-le-suc (div-le_self n d)

pub proper-floor : {q : Rational} → Proper q → Proper (floor_q q)
unfolding floor_q
proper-floor {q} p =
    record {
      numerator = le_trans (nat_abs-floor_z-le q.num (nat_abs q.den)) p.numerator;
      positive = pos-positive (zero-lt-suc 0);
      denominator = lit≤ tt;
    }

-- ---- proper numbers in the machine

abbrev pub num : {q : Rational} → Proper q → Code
num {q} p = arg q.num limit p.numerator

abbrev pub den : {q : Rational} → Proper q → Code
den {q} p = arg q.den limit p.denominator

module _ {a b : Rational} (h : Proper a × Proper b) where
  abbrev pub nums : Code
  nums = num h.0 ⊠ num h.1

  abbrev pub dens : Code
  dens = den h.0 ⊠ den h.1

  abbrev pub left_cross : Code
  left_cross = num h.0 ⊠ den h.1

  abbrev pub right_cross : Code
  right_cross = num h.1 ⊠ den h.0

  pub positive-dens : pos 0 <ℤ machine dens
  positive-dens = subst (λ (z : ℤ). pos 0 <ℤ z) (sym (back dens tt)) (mul-pos h.0.positive h.1.positive)

  -- a comparison of the machine's cross products is one of the exact ones
  pub compared :
      (test : ℤ → ℤ → Bool) →
      test (machine left_cross) (machine right_cross) ≡ test (a.num *ℤ b.den) (b.num *ℤ a.den)
  compared test = ap₂ test (back left_cross tt) (back right_cross tt)
