-- Real constants in bytes, as elaboration reads and writes them.
--     read_real       the function `real_at`: the two fields of a record, as the machine has them
--     unsigned-complement       the function `write_signed`
--     put_record       the function `put_real`
use mathlib.Core.Path.{◌≡◌, refl, ap, ap₂, ◌∙◌}
use Prim.Native.Nat.{ℕ}
use native.Mathlib.Omega.{arith}
use lib.IntN.{ℤ, pos, negsuc}
use lib.ListN.{set, replicate}
use mir.Facts.{to_z-of_z}
use mir.Syntax.{w64}
use mir.Val.{SFits, of_z}
use Rattle.numbers.specs.Rational.{Rational, frac, Proper}
use Rattle.numbers.specs.Bytes.{Bytes, le, put, put_digits, bytes_of, signed, complement}
use Rattle.terms.specs.Book.{rational_of}
use Rattle.numbers.proofs.Machine.{R}
use Rattle.index_map.proofs.CheckedNumbers.{small-back}
use Rattle.out_areas.specs.Farkas.{real_record}

pub read_real :
    (r : Bytes) {x y : ℤ} {v w : ℕ} → SFits w64 x → x ≡ signed 8 v → v ≡ le 8 r 4 → SFits w64 y → y ≡ signed 8 w →
    w ≡ le 8 r 12 → frac (R x) (R y) ≡ rational_of r
read_real r x_fits x-is v-is y_fits y-is w-is =
    ap₂ frac (to_z-of_z x_fits ∙ x-is ∙ ap (signed 8) v-is) (to_z-of_z y_fits ∙ y-is ∙ ap (signed 8) w-is)

unsigned : (z : ℤ) → SFits w64 z → of_z w64 z ≡ complement 8 z
unfolding complement
unsigned (pos v) h = omega (arith, h)
unsigned (negsuc v) h = omega (arith, h)

pub unsigned-complement : (z : ℤ) → SFits w64 z → of_z w64 (R z) ≡ complement 8 z
unsigned-complement z h = ap (of_z w64) (to_z-of_z h) ∙ unsigned z h

record_bytes_lem :
    (q : Rational) →
    put 8 (complement 8 q.den) (put 8 (complement 8 q.num) (set (replicate 32 0) 0 2) 4) 12 ≡ real_record q
unfolding put put_digits real_record bytes_of
record_bytes_lem q = refl

pub put_record :
    {q : Rational} → Proper q → {r half full : Bytes} → r ≡ replicate 32 0 →
    half ≡ put 8 (complement 8 (R q.num)) (set r 0 2) 4 → full ≡ put 8 (complement 8 (R q.den)) half 12 →
    full ≡ real_record q
put_record {q} p r-is half_is Full-is =
    rw (Full-is, half_is, r-is, small-back q.num p.numerator, small-back q.den p.denominator)
    (record_bytes_lem q)
