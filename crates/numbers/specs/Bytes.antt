-- Lists of bytes: whether two are the same, zeros, little-endian numbers at any width, and a rational number as two
-- numbers of four bytes. Nothing is asked of the place: a number that does not lie wholly in the bytes reads as 0 and
-- is not written.
use Rattle.std.specs.Prelude.{◌≡◌, refl, Bool, true, false, ◌&&◌, cond, List, [], ◌∷◌, ◌++◌, ℕ, zero, suc, ◌+◌, ◌*◌}
use Rattle.std.specs.Prelude.{◌-◌, ◌/◌, ◌%◌, ◌^◌, eqb, leb, ltb, ℤ, pos, negsuc, length, get_or, set, take, replicate}
use Rattle.std.specs.Int.Signed.{lt_z}
use Rattle.numbers.specs.Rational.{Rational, frac, whole, in_range, modulo}

abbrev pub Bytes : Type 0
Bytes = List ℕ

unfoldable pub same_bytes : Bytes → Bytes → Bool
same_bytes [] [] = true
same_bytes [] (y ∷ s) = false
same_bytes (x ∷ r) [] = false
same_bytes (x ∷ r) (y ∷ s) = elim (eqb x y) [ true ↦ same_bytes r s | false ↦ false ]

-- the first n bytes stay, the others are 0
unfoldable pub zeroed_from : ℕ → Bytes → Bytes
zeroed_from n w = take n w ++ replicate (length w - n) 0

-- ---- numbers

-- whether n bytes stand at i
abbrev pub room : ℕ → Bytes → ℕ → Bool
room n b i = leb (i + n) (length b)

-- the number in the n bytes at i, the lowest byte first
unfoldable pub digits : ℕ → Bytes → ℕ → ℕ
digits zero b i = 0
digits (suc n) b i = get_or b i 0 + 256 * digits n b (i + 1)

unfoldable pub le : ℕ → Bytes → ℕ → ℕ
le n b i = cond (room n b i) (digits n b i) 0

-- b with the n low bytes of v at i
unfoldable pub put_digits : ℕ → ℕ → Bytes → ℕ → Bytes
put_digits zero v b i = b
put_digits (suc n) v b i = put_digits n (v / 256) (set b i (v % 256)) (i + 1)

unfoldable pub put : ℕ → ℕ → Bytes → ℕ → Bytes
put n v b i = cond (room n b i) (put_digits n v b i) b

-- n bytes of a number, the lowest first
unfoldable pub bytes_of : ℕ → ℕ → Bytes
bytes_of zero v = []
bytes_of (suc n) v = (v % 256) ∷ bytes_of n (v / 256)

-- ---- signed numbers: two's complement in n bytes

unfoldable pub signed : ℕ → ℕ → ℤ
signed n v = cond (ltb v (256 ^ n / 2)) (pos v) (negsuc (256 ^ n - suc v))

unfoldable pub complement : ℕ → ℤ → ℕ
complement n z = modulo z (256 ^ n)

-- ---- a rational number: four bytes of numerator, four of denominator

-- what is out of range or has no denominator is no number, and reads as 0
abbrev pub or_zero : Rational → Rational
or_zero q = cond (in_range q && lt_z (pos 0) q.den) q (whole (pos 0))

unfoldable pub number_at : Bytes → ℕ → Rational
number_at b i = or_zero (frac (signed 4 (le 4 b i)) (pos (le 4 b (i + 4))))

unfoldable pub put_number : Rational → Bytes → ℕ → Bytes
put_number q b i = cond (room 8 b i) (put 4 (complement 4 q.den) (put 4 (complement 4 q.num) b i) (i + 4)) b

-- ---- examples

minus-three-halves : Bytes
minus-three-halves = 253 ∷ 255 ∷ 255 ∷ 255 ∷ 2 ∷ 0 ∷ 0 ∷ 0 ∷ []

written : put_number (frac (negsuc 2) (pos 2)) (9 ∷ 9 ∷ 9 ∷ 9 ∷ 9 ∷ 9 ∷ 9 ∷ 9 ∷ []) 0 ≡ minus-three-halves
unfolding put_number put put_digits complement minus-three-halves
written = refl

read : number_at minus-three-halves 0 ≡ frac (negsuc 2) (pos 2)
unfolding number_at le digits signed in_range minus-three-halves
read = refl

read-past_the_end : number_at minus-three-halves 1 ≡ whole (pos 0)
unfolding number_at le digits signed in_range minus-three-halves
read-past_the_end = refl
