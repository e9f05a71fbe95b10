-- The loop of `gcd_from`: before entry k, the definition's result is what it yields of the entries that are left, from
-- the divisor so far. That divisor is in range, and the machine has its bits.
use mathlib.Core.Path.{◌≡◌, refl, sym, ◌∙◌, ap, ap₂, subst}
use mathlib.Core.Bool.{true, false}
use mathlib.Core.List.{[], ◌∷◌}
use Prim.Native.Nat.{ℕ, zero, suc, ◌+◌, ◌*◌, ◌≤◌, ◌<◌}
use native.Mathlib.Nat.{le_of_dvd, le_trans, zero-lt-suc}
use native.Mathlib.Omega.{arith}
use borrow.Author.Tests.{eq-eqb, ne_eqb}
use lib.Dec.{eqb}
use Rattle.std.proofs.lemmas.Bool.Decides.{nat_tests}
use lib.ListN.{drop}
use lib.IntN.{ℤ, pos, negsuc, nat_abs}
use mir.Syntax.{w64}
use mir.Val.{Fits, to_z}
use mir.Facts.{sfits_lit, of_z-to_z}
use Rattle.std.specs.Int.{int_max}
use Rattle.numbers.specs.Pair.{eq_z}
use Rattle.numbers.specs.Rational.{Rational, Proper, limit, whole, gcd, is_integer}
use Rattle.numbers.specs.Bytes.{Bytes, number_at}
use Rattle.terms.specs.Term.{Term}
use Rattle.numbers.specs.Choice.{when◌then◌else◌}
use Rattle.numbers.proofs.Divisors.{gcd-zero, gcd_dvd_right}
use Rattle.numbers.proofs.Machine.{R, eqb-of_z}
use Rattle.index_map.specs.IndexMap.{Map}
use Rattle.linear_comb.specs.LinearComb.{gcd_from, coefficients_gcd}
use Rattle.linear_comb.specs.Memory.WorkArea.{Sum, comb_of}
use Rattle.index_map.specs.Memory.Entries.{entries_of, Kept}
use Rattle.linear_comb.proofs.EntryPlaces.{kept_at, all_behind}
use Rattle.index_map.proofs.CheckedNumbers.{small-back, small-fits}

-- ---- the definition

module _ (g : ℤ) (e : Term × Rational) (r : Map Term) where
  stops_at_one : eq_z g (pos 1) ≡ true → gcd_from g (e ∷ r) ≡ pos 1
  unfolding gcd_from
  stops_at_one one = rw (one, gcd_from)

  module _ (other : eq_z g (pos 1) ≡ false) where
    goes_on : is_integer e.1 ≡ true → gcd_from g (e ∷ r) ≡ gcd_from (pos (gcd (nat_abs g) (nat_abs e.1.num))) r
    unfolding gcd_from
    goes_on integer = rw (other, integer, gcd_from)

    stops_at_fraction : is_integer e.1 ≡ false → gcd_from g (e ∷ r) ≡ pos 1
    unfolding gcd_from
    stops_at_fraction fraction = rw (other, fraction, gcd_from)

at_the_end : (g : ℤ) → int_max g (pos 1) ≡ gcd_from g []
unfolding gcd_from when◌then◌else◌
at_the_end (pos m) = grind (arith, nat_tests)
at_the_end (negsuc m) = refl

at-least-small : (g : ℤ) → nat_abs g ≤ limit → nat_abs (int_max g (pos 1)) ≤ limit
at-least-small (pos m) h = grind (arith, nat_tests)
at-least-small (negsuc m) h = omega arith

gcd-le : (a b m : ℕ) → a ≤ m → b ≤ m → gcd a b ≤ m
gcd-le a zero m h k = rw (gcd-zero a) h
gcd-le a (suc b) m h k = le_trans (le_of_dvd (zero-lt-suc b) (gcd_dvd_right a (suc b))) k

-- r is the divisor from s on
abbrev pub DivisorFrom : Bytes → ℕ → ℤ → ℤ → Type 0
DivisorFrom w n s r = (b : Bytes) → Kept b w n → r ≡ gcd_from s (entries_of b w n)

pub record Dividing (w : Bytes) (n : ℕ) (s divisor : ℤ) (k : ℕ) : Type 0 where
  pub range : nat_abs divisor ≤ limit
  pub inside : k ≤ n
  pub left : (b : Bytes) → Kept b w n → gcd_from s (entries_of b w n) ≡ gcd_from divisor (drop k (entries_of b w n))

-- the machine's start is s
pub from_start :
    {w : Bytes} {n : ℕ} {r : ℤ} (s : ℤ) → nat_abs s ≤ limit → DivisorFrom w n (R s) r → DivisorFrom w n s r
from_start {w} {n} {r} s h = subst (λ z. DivisorFrom w n z r) (small-back s h)

-- the machine has the divisor's bits
module _
    {w : Bytes} {n : ℕ} {s : ℤ} {bits k : ℕ} (dividing : Dividing w n s (to_z w64 bits) k) (fits : Fits w64 bits) where
  abbrev divisor : ℤ
  divisor = to_z w64 bits

  tested : eqb bits 1 ≡ eq_z divisor (pos 1)
  tested =
      ap (λ x. eqb x 1) (sym (of_z-to_z fits))
      ∙ eqb-of_z divisor (pos 1) (small-fits divisor dividing.range) (sfits_lit tt)

  -- the next divisor, from the sizes of the one so far and of the value
  pub next-divisor :
      {v : Rational} {a c d : ℕ} → Proper v → a ≡ nat_abs (to_z w64 bits) → c ≡ nat_abs (R v.num) → d ≡ gcd a c →
      (d ≡ gcd (nat_abs divisor) (nat_abs v.num)) × (d ≤ limit)
  next-divisor {v} proper left right is =
      let r = right ∙ ap nat_abs (small-back v.num proper.numerator) in
      let e = is ∙ ap₂ gcd left r in
      (e, rw e (gcd-le _ _ limit dividing.range proper.numerator))

  -- v is the value of entry k
  left_at :
      (below : k < n) {v : Rational} → v ≡ number_at w (10 * k + 2) → (b : Bytes) (kept : Kept b w n) →
      gcd_from s (entries_of b w n)
      ≡ gcd_from divisor (((kept_at kept k below).entry.0, v) ∷ drop (k + 1) (entries_of b w n))
  left_at below {v} is b kept =
      let at = kept_at kept k below in
      let value : at.entry.1 ≡ v = sym (is ∙ at.value) in
      dividing.left b kept
      ∙ ap (gcd_from divisor)
      (at.here ∙ ap (λ q. (at.entry.0, q) ∷ drop (k + 1) (entries_of b w n)) value)

  pub divided_one : k < n → bits ≡ 1 → DivisorFrom w n s (pos 1)
  divided_one below one b kept =
      sym (left_at below refl b kept ∙ stops_at_one _ _ _ (sym tested ∙ eq-eqb bits 1 one))

  module _ (below : k < n) {v : Rational} (is : v ≡ number_at w (10 * k + 2)) (other : bits ≡ 1 → ⊥) where
    pub dividing_more :
        {d : ℕ} → is_integer v ≡ true → (d ≡ gcd (nat_abs divisor) (nat_abs v.num)) × (d ≤ limit) →
        Dividing w n s (to_z w64 d) (k + 1)
    dividing_more {d} integer next =
        rw (small-back (pos d) next.1)
        record {
          range = next.1;
          inside = omega arith;
          left = λ b kept.
              left_at below is b kept
              ∙ goes_on _ _ _ (sym tested ∙ ne_eqb bits 1 other) integer
              ∙ ap (λ z. gcd_from (pos z) (drop (k + 1) (entries_of b w n))) (sym next.0);
        }

    pub divided-fraction : is_integer v ≡ false → DivisorFrom w n s (pos 1)
    divided-fraction fraction b kept =
        sym (left_at below is b kept ∙ stops_at_fraction _ _ _ (sym tested ∙ ne_eqb bits 1 other) fraction)

  pub divided-end : n ≤ k → {r : ℤ} → r ≡ int_max divisor (pos 1) → DivisorFrom w n s (R r)
  divided-end above {r} e b kept =
      small-back r (rw e (at-least-small divisor dividing.range))
      ∙ e ∙ at_the_end divisor
      ∙ sym (dividing.left b kept ∙ ap (gcd_from divisor) (all_behind {k = k} kept above))

-- ---- with the constant

pub constant-integer :
    {w : Bytes} (s : Sum) → Proper s.constant → is_integer s.constant ≡ true → {r : ℤ} → Proper (whole r) →
    DivisorFrom w s.len (R s.constant.num) r → (b : Bytes) → Kept b w s.len → R r ≡ coefficients_gcd (comb_of b w s)
unfolding coefficients_gcd
constant-integer s proper integer {r} small from b kept =
    small-back r small.numerator ∙ from_start s.constant.num proper.numerator from b kept
    ∙ rw (integer, coefficients_gcd)

pub constant-fraction :
    (w : Bytes) (s : Sum) → is_integer s.constant ≡ false → (b : Bytes) → pos 1 ≡ coefficients_gcd (comb_of b w s)
unfolding coefficients_gcd
constant-fraction w s fraction b = rw (fraction, coefficients_gcd)
