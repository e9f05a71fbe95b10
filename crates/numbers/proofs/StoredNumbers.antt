-- Laws of rational numbers in bytes: what a write leaves, what a read finds after it, and that every read gives a number
-- in range. At the end stand the facts by which `Number::read` and `Number::write` meet their contracts.
use mathlib.Core.Path.{◌≡◌, refl, sym, ap, ap₂, ◌∙◌, subst}
use mathlib.Core.Bool.{Bool, true, false, ◌&&◌, cond, and-false}
use mathlib.Core.Logic.{◌⊎◌, ⊎_elim, inl, inr}
use Prim.Native.Nat.{ℕ, ◌+◌, ◌/◌, ◌^◌, ◌≤◌, ◌<◌}
use native.Mathlib.Nat.{mod-eq_of_lt}
use native.Mathlib.Omega.{arith}
use borrow.Author.Tests.{le-leb, lt-leb, le-ltb, lt-ltb, leb-true}
use lib.Dec.{leb, lit≤, T}
use lib.IntN.{ℤ, pos, negsuc, nat_abs}
use lib.ListN.{length, get_or}
use lib.Signed.{mag, lt_z, ◌<ℤ◌}
use mir.Facts.{to_z-of_z, to_z_pos}
use mir.Syntax.{w64}
use mir.Val.{SFits}
use Rattle.numbers.specs.Bytes.{Bytes, le, put, room, signed, complement, number_at, put_number, or_zero}
use Rattle.numbers.specs.Rational.{Rational, frac, whole, limit, in_range, Proper, Makes, checked}
use Rattle.numbers.proofs.LittleEndian.{Apart, cond_either, le-outside, length-put, byte-put_elsewhere}
use Rattle.numbers.proofs.LittleEndian.{le_elsewhere, le-put_elsewhere, read-after-write-small}
use Rattle.numbers.proofs.Machine.{R}
use Rattle.numbers.proofs.TwosComplement.{complement-below, signed-complement}
use Rattle.numbers.specs.Rational.{Checked}
use Rattle.std.specs.Prelude.{Some, None}

-- ---- where there is room, and where there is none

-- both parts in the eight bytes at i, the numerator first
abbrev pub put_parts : Rational → Bytes → ℕ → Bytes
put_parts q b i = put 4 (complement 4 q.den) (put 4 (complement 4 q.num) b i) (i + 4)

module _ (q : Rational) (b : Bytes) (i : ℕ) where
  pub put_number-inside : i + 8 ≤ length b → put_number q b i ≡ put_parts q b i
  unfolding put_number
  put_number-inside h = rw (le-leb (i + 8) (length b) h)

  pub put_number-outside : length b < i + 8 → put_number q b i ≡ b
  unfolding put_number
  put_number-outside h = rw (lt-leb (i + 8) (length b) h)

  put_number-either : (P : Bytes → Type 0) → P (put_parts q b i) → P b → P (put_number q b i)
  unfolding put_number
  put_number-either P inside outside =
      cond_either P (room 8 b i) (put_parts q b i) b (λ t. inside) (λ t. outside)

-- ---- what a write leaves

pub length-put_number : (q : Rational) (b : Bytes) (i : ℕ) → length (put_number q b i) ≡ length b
length-put_number q b i =
    let half : Bytes = put 4 (complement 4 q.num) b i in
    put_number-either q b i (λ (x : Bytes). length x ≡ length b)
    (length-put 4 (complement 4 q.den) half (i + 4) ∙ length-put 4 (complement 4 q.num) b i)
    refl

pub byte-put_number_elsewhere :
    (q : Rational) (b : Bytes) (i j : ℕ) → (j < i) ⊎ (i + 8 ≤ j) → get_or (put_number q b i) j 0 ≡ get_or b j 0
byte-put_number_elsewhere q b i j apart =
    let half : Bytes = put 4 (complement 4 q.num) b i in
    put_number-either q b i (λ (x : Bytes). get_or x j 0 ≡ get_or b j 0)
    (byte-put_elsewhere 4 (complement 4 q.den) half (i + 4) j (part (i + 4) (omega arith) (omega arith))
    ∙ byte-put_elsewhere 4 (complement 4 q.num) b i j (part i (omega arith) (omega arith)))
    refl
  where
    part : (k : ℕ) → i ≤ k → k + 4 ≤ i + 8 → (j < k) ⊎ (k + 4 ≤ j)
    part k p q = ⊎_elim (λ o. inl (omega arith)) (λ o. inr (omega arith)) apart

pub le-put_number_elsewhere :
    (m : ℕ) (q : Rational) (b : Bytes) (i j : ℕ) → Apart m j 8 i → le m (put_number q b i) j ≡ le m b j
le-put_number_elsewhere m q b i j =
    le_elsewhere m 8 (put_number q b i) b i j (length-put_number q b i) (byte-put_number_elsewhere q b i)

pub number_at-put_number_elsewhere :
    (q : Rational) (b : Bytes) (i j : ℕ) → Apart 8 j 8 i → number_at (put_number q b i) j ≡ number_at b j
unfolding number_at
number_at-put_number_elsewhere q b i j apart =
    ap₂ (λ (n d : ℕ). or_zero (frac (signed 4 n) (pos d)))
    (part j (omega arith) (omega arith))
    (part (j + 4) (omega arith) (omega arith))
  where
    part : (k : ℕ) → j ≤ k → k + 4 ≤ j + 8 → le 4 (put_number q b i) k ≡ le 4 b k
    part k p r = le-put_number_elsewhere 4 q b i k (⊎_elim (λ o. inl (omega arith)) (λ o. inr (omega arith)) apart)

-- ---- the test of a read

both : (s t : Bool) → (s && t) ≡ true → (s ≡ true) × (t ≡ true)
both true t e = (refl, e)
both false t e = absurd (subst T (sym e) tt)

-- A number that passes the test of a read is proper.
pub or_zero-proper : (q : Rational) → Proper (or_zero q)
unfolding in_range
or_zero-proper q =
    cond_either Proper (in_range q && lt_z (pos 0) q.den) q (whole (pos 0)) tested
    (λ t. record { numerator = lit≤ tt; positive = record { lt = tt }; denominator = lit≤ tt })
  where
    tested : (in_range q && lt_z (pos 0) q.den) ≡ true → Proper q
    tested e =
        let ranges = both (in_range q) (lt_z (pos 0) q.den) e in
        let sizes = both (leb (nat_abs q.num) limit) (leb (nat_abs q.den) limit) ranges.0 in
        record {
          numerator = leb-true (nat_abs q.num) limit sizes.0;
          positive = record { lt = subst T (sym ranges.1) tt };
          denominator = leb-true (nat_abs q.den) limit sizes.1;
        }

-- A proper number passes it.
pub proper-or_zero : (q : Rational) → Proper q → or_zero q ≡ q
unfolding in_range
proper-or_zero q p =
    rw (le-leb (nat_abs q.num) limit p.numerator, le-leb (nat_abs q.den) limit p.denominator, passed (lt_z (pos 0) q.den) p.positive.lt)
  where
    passed : (t : Bool) → T t → t ≡ true
    passed true h = refl
    passed false h = absurd h

pub number_at-proper : (b : Bytes) (i : ℕ) → Proper (number_at b i)
unfolding number_at
number_at-proper b i = or_zero-proper (frac (signed 4 (le 4 b i)) (pos (le 4 b (i + 4))))

-- ---- a read of what was written: four bytes hold each part of a proper number

numerator-back : (z : ℤ) → nat_abs z ≤ limit → signed 4 (complement 4 z) ≡ z
numerator-back z h = signed-complement 4 z (small z h)
  where
    small : (z : ℤ) → nat_abs z ≤ limit → mag z < 256 ^ 4 / 2
    small (pos n) h = omega arith
    small (negsuc n) h = omega arith

denominator-back : (z : ℤ) → pos 0 <ℤ z → nat_abs z ≤ limit → pos (complement 4 z) ≡ z
unfolding complement
denominator-back (pos d) p h = ap pos (mod-eq_of_lt (omega arith))
denominator-back (negsuc d) p h = absurd p.lt

pub number-after-write :
    (q : Rational) (b : Bytes) (i : ℕ) → i + 8 ≤ length b → Proper q → number_at (put_number q b i) i ≡ q
unfolding number_at
number-after-write q b i h p =
    let half : Bytes = put 4 (complement 4 q.num) b i in
    let long : i + 4 + 4 ≤ length half = rw (length-put 4 (complement 4 q.num) b i) (omega arith) in
    let num : le 4 (put_parts q b i) i ≡ complement 4 q.num =
    le-put_elsewhere 4 4 (complement 4 q.den) half (i + 4) i (inl (omega arith))
    ∙ read-after-write-small 4 (complement 4 q.num) b i (omega arith) (complement-below 4 q.num) in
    let den : le 4 (put_parts q b i) (i + 4) ≡ complement 4 q.den =
    read-after-write-small 4 (complement 4 q.den) half (i + 4) long (complement-below 4 q.den) in
    ap (λ (x : Bytes). or_zero (frac (signed 4 (le 4 x i)) (pos (le 4 x (i + 4))))) (put_number-inside q b i h)
    ∙ ap₂ (λ (n d : ℤ). or_zero (frac n d)) (ap (signed 4) num ∙ numerator-back q.num p.numerator) (ap pos den ∙ denominator-back q.den p.positive p.denominator)
    ∙ proper-or_zero q p

-- ---- the functions `Number::read` and `Number::write`

makes : (r : Rational) (b : Bytes) (i : ℕ) → r ≡ number_at b i → Makes r (number_at b i)
makes r b i e = record { is = e; proper = rw e (number_at-proper b i) }

-- Without a denominator there is no number, whether the bytes hold 0 there or are missing.
or_zero_none : (n : ℤ) (d : ℕ) → d < 1 → or_zero (frac n (pos d)) ≡ whole (pos 0)
or_zero_none n d h = rw (le-ltb 0 d (omega arith), and-false (in_range (frac n (pos d))))

pub zero-without-denominator :
    (b : Bytes) (i d : ℕ) (r : Rational) → r ≡ whole (pos 0) → d ≡ le 4 b (i + 4) → d < 1 →
    Makes r (number_at b i)
unfolding number_at
zero-without-denominator b i d r zero_is d-is none =
    makes r b i (zero_is ∙ sym (or_zero_none (signed 4 (le 4 b i)) (le 4 b (i + 4)) (omega arith)))

pub zero-without-room :
    (b : Bytes) (i : ℕ) (r : Rational) → r ≡ whole (pos 0) → length b < i + 8 → Makes r (number_at b i)
zero-without-room b i r zero_is h =
    zero-without-denominator b i 0 r zero_is (sym (le-outside 4 b (i + 4) (omega arith))) (lit≤ tt)

-- With one, the answer of `in_range` decides.
or_zero-value : (q r : Rational) → lt_z (pos 0) q.den ≡ true → checked q ≡ Some r → r ≡ or_zero q
unfolding checked
or_zero-value q r positive e = rw positive (go (in_range q) e)
  where
    go : (t : Bool) → cond t (Some q) None ≡ Some r → r ≡ cond (t && true) q (whole (pos 0))
    go true e = cc
    go false e = cc

or_zero-refused : (q : Rational) → checked q ≡ None → whole (pos 0) ≡ or_zero q
unfolding checked
or_zero-refused q e = go (in_range q) e
  where
    go :
        (t : Bool) → cond t (Some q) None ≡ None →
        whole (pos 0) ≡ cond (t && lt_z (pos 0) q.den) q (whole (pos 0))
    go true e = cc
    go false e = refl

-- v and d are the numbers in the bytes, n is v with its sign, z is d, and a is the answer for n and z as the machine
-- reads them back.
module _ (b : Bytes) (i v d : ℕ) (n z : ℤ) (a : Checked) (v-is : v ≡ le 4 b i) (n-is : n ≡ signed 4 v) (d-is : d ≡ le 4 b (i + 4)) (n-fits : SFits w64 n) (d_small : d < 4294967296) (z-is : z ≡ pos d) (a-is : a ≡ checked (frac (R n) (R z))) where
  answered : checked (frac (signed 4 (le 4 b i)) (pos (le 4 b (i + 4)))) ≡ a
  answered =
      let small : d < 2 ^ 63 = omega arith in
      sym (a-is ∙ ap₂ (λ (x y : ℤ). checked (frac x y)) (to_z-of_z n-fits ∙ n-is ∙ ap (signed 4) v-is) (ap R z-is ∙ to_z_pos w64 small ∙ ap pos d-is))

  pub number-found : (q : Rational) → 1 ≤ d → a ≡ Some q → Makes q (number_at b i)
  unfolding number_at
  number-found q some e =
      let positive : 0 < le 4 b (i + 4) = omega arith in
      makes q b i (or_zero-value _ q (lt-ltb 0 (le 4 b (i + 4)) positive) (answered ∙ e))

  pub zero_out_of_range : (r : Rational) → r ≡ whole (pos 0) → a ≡ None → Makes r (number_at b i)
  unfolding number_at
  zero_out_of_range r zero_is e = makes r b i (zero_is ∙ or_zero-refused _ (answered ∙ e))

pub number-written :
    (q : Rational) (b half full : Bytes) (i n d : ℕ) → full ≡ put 4 d half (i + 4) →
    d ≡ complement 4 (R q.den) → half ≡ put 4 n b i → n ≡ complement 4 (R q.num) → SFits w64 q.num →
    SFits w64 q.den → i + 8 ≤ length b → full ≡ put_number q b i
number-written q b half full i n d Full-is d-is half_is n-is n-fits d-fits h =
    cc (to_z-of_z n-fits, to_z-of_z d-fits, put_number-inside q b i h)
