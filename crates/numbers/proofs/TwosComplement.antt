-- Two's complement at every width, and the library's casts and remainder by which the code takes it.
use mathlib.Core.Path.{◌≡◌, refl}
use mathlib.Core.Bool.{Bool, true, false, cond}
use Prim.Native.Nat.{ℕ, suc, ◌-◌, ◌/◌, ◌%◌, ◌^◌, ◌<◌}
use native.Mathlib.Nat.{one-le-pow, mod-lt, mod-eq_of_lt}
use native.Mathlib.Omega.{arith}
use borrow.Author.Tests.{lt-ltb, le-ltb}
use lib.Dec.{ltb, lit≤}
use lib.IntN.{ℤ, pos, negsuc, nat_abs}
use lib.Signed.{mag}
use mir.Syntax.{Width}
use mir.Val.{bits, hbits, sel, to_z}
use Rattle.std.specs.Int.{int_rem_euclid}
use Rattle.numbers.specs.Bytes.{signed, complement}

pub complement-below : (n : ℕ) (z : ℤ) → complement n z < 256 ^ n
unfolding complement
complement-below n (pos v) = mod-lt v (one-le-pow n 256 (lit≤ tt))
complement-below n (negsuc v) = omega (arith, one-le-pow n 256 (lit≤ tt))

-- The range of n bytes is from -(256 ^ n / 2) up to below 256 ^ n / 2. With no byte, nothing is in it.
pub signed-complement : (n : ℕ) (z : ℤ) → mag z < 256 ^ n / 2 → signed n (complement n z) ≡ z
unfolding signed complement
signed-complement n (pos v) h =
    let small : v % 256 ^ n ≡ v = mod-eq_of_lt (omega arith) in
    rw (small, lt-ltb v (256 ^ n / 2) h)
signed-complement n (negsuc v) h =
    let small : v % 256 ^ n ≡ v = mod-eq_of_lt (omega arith) in
    let back : 256 ^ n - suc (256 ^ n - suc v) ≡ v = omega arith in
    rw (small, le-ltb (256 ^ n - suc v) (256 ^ n / 2) (omega arith), back)

-- ---- the functions `signed`, `signed_u64` and `complement`: the library's casts and its remainder, at n bytes

pub cast_signed_is : (w : Width) (n v : ℕ) → 2 ^ hbits w ≡ 256 ^ n / 2 → 2 ^ bits w ≡ 256 ^ n → to_z w v ≡ signed n v
unfolding signed
cast_signed_is w n v half all = rw (half, all) (go (ltb v (256 ^ n / 2)))
  where
    go : (t : Bool) → sel t (pos v) (negsuc (256 ^ n - suc v)) ≡ cond t (pos v) (negsuc (256 ^ n - suc v))
    go true = refl
    go false = refl

pub rem_euclid_is : (n : ℕ) (z : ℤ) → nat_abs (int_rem_euclid z (pos (256 ^ n))) ≡ complement n z
unfolding complement
rem_euclid_is n (pos v) = refl
rem_euclid_is n (negsuc v) = omega arith
