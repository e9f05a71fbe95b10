-- The bytes of a number behind any front of bytes: a write puts them there and leaves the rest (`put_at`,
-- `number_at_lem`), and a read finds them (`le_at`, `number-back`).
use mathlib.Core.Path.{◌≡◌, refl, sym, ap, ◌∙◌}
use mathlib.Core.Bool.{Bool, true, false, cond}
use mathlib.Core.List.{[], ◌∷◌, ◌++◌, append_assoc}
use Prim.Native.Nat.{ℕ, zero, suc, ◌+◌, ◌/◌, ◌%◌, ◌^◌, ◌≤◌, ◌<◌}
use native.Mathlib.Nat.{suc-add}
use native.Mathlib.Omega.{arith}
use lib.Dec.{leb-suc-suc}
use lib.ListN.{length, take, drop, set, length-append, length-take, length-drop, take-append-drop}
use Rattle.numbers.specs.Rational.{Rational, Proper}
use Rattle.numbers.specs.Bytes.{Bytes, room, le, put, put_digits, bytes_of, complement, number_at, put_number}
use Rattle.numbers.proofs.LittleEndian.{put-inside, read-after-write-small}
use Rattle.numbers.proofs.StoredNumbers.{put_number-inside, number-after-write}

-- ---- n bytes

pub length-bytes_of : (n v : ℕ) → length (bytes_of n v) ≡ n
unfolding bytes_of
length-bytes_of zero v = refl
length-bytes_of (suc n) v = ap suc (length-bytes_of n (v / 256))

-- a byte in front moves every place up by one
put_digits_cons : (n v x : ℕ) (b : Bytes) (i : ℕ) → put_digits n v (x ∷ b) (suc i) ≡ x ∷ put_digits n v b i
unfolding put_digits
put_digits_cons zero v x b i = refl
put_digits_cons (suc n) v x b i = rw suc-add (put_digits_cons n (v / 256) x (set b i (v % 256)) (i + 1))

put_cons : (n v x : ℕ) (b : Bytes) (i : ℕ) → put n v (x ∷ b) (suc i) ≡ x ∷ put n v b i
unfolding put
put_cons n v x b i = rw (suc-add, leb-suc-suc, put_digits_cons n v x b i) (go (room n b i))
  where
    go : (t : Bool) → cond t (x ∷ put_digits n v b i) (x ∷ b) ≡ x ∷ cond t (put_digits n v b i) b
    go true = refl
    go false = refl

put_digits_first :
    (n v : ℕ) (x r : Bytes) → length x ≡ n → put_digits n v (x ++ r) 0 ≡ bytes_of n v ++ r
unfolding put_digits bytes_of
put_digits_first zero v [] r h = refl
put_digits_first zero v (a ∷ x) r h = absurd (omega arith)
put_digits_first (suc n) v [] r h = absurd (omega arith)
put_digits_first (suc n) v (a ∷ x) r h =
    put_digits_cons n (v / 256) (v % 256) (x ++ r) 0
    ∙ ap (λ (l : Bytes). (v % 256) ∷ l) (put_digits_first n (v / 256) x r (omega arith))

-- the n bytes x behind f become those of v
pub put_at : (n v : ℕ) (f x r : Bytes) → length x ≡ n → put n v (f ++ (x ++ r)) (length f) ≡ f ++ (bytes_of n v ++ r)
put_at n v [] x r h =
    put-inside n v (x ++ r) 0 (omega (arith, length-append x r)) ∙ put_digits_first n v x r h
put_at n v (a ∷ f) x r h =
    put_cons n v a (f ++ (x ++ r)) (length f) ∙ ap (λ (l : Bytes). a ∷ l) (put_at n v f x r h)

pub le_at :
    (n v : ℕ) (f r : Bytes) → v < 256 ^ n → le n (f ++ (bytes_of n v ++ r)) (length f) ≡ v
le_at n v f r small =
    let w : Bytes = f ++ (bytes_of n v ++ r) in
    let long : length f + n ≤ length w =
    simp (length-append, length-bytes_of) (omega arith) in
    ap (λ (l : Bytes). le n l (length f)) (sym (put_at n v f (bytes_of n v) r (length-bytes_of n v)))
    ∙ read-after-write-small n v w (length f) long small

-- ---- the eight bytes of a rational number

abbrev pub parts : Rational → Bytes
parts q = bytes_of 4 (complement 4 q.num) ++ bytes_of 4 (complement 4 q.den)

pub length-parts : (q : Rational) → length (parts q) ≡ 8
length-parts q = simp (length-append, length-bytes_of)

pub number_at_lem :
    (q : Rational) (f x r : Bytes) → length x ≡ 8 → put_number q (f ++ (x ++ r)) (length f) ≡ f ++ (parts q ++ r)
number_at_lem q f x r h =
    let n : Bytes = bytes_of 4 (complement 4 q.num) in
    let d : Bytes = bytes_of 4 (complement 4 q.den) in
    let low : length (take 4 x) ≡ 4 = rw (length-take, h) in
    let high : length (drop 4 x) ≡ 4 = rw (length-drop, h) in
    let halves : f ++ (x ++ r) ≡ f ++ (take 4 x ++ (drop 4 x ++ r)) =
    ap (λ (l : Bytes). f ++ (l ++ r)) (sym (take-append-drop 4 x)) ∙ simp append_assoc in
    let long : length f + 8 ≤ length (f ++ (x ++ r)) = simp (length-append, h) (omega arith) in
    let next : length (f ++ n) ≡ length f + 4 = simp (length-append, length-bytes_of) in
    let first : put 4 (complement 4 q.num) (f ++ (x ++ r)) (length f) ≡ (f ++ n) ++ (drop 4 x ++ r) =
    ap (λ (l : Bytes). put 4 (complement 4 q.num) l (length f)) halves
    ∙ put_at 4 (complement 4 q.num) f (take 4 x) (drop 4 x ++ r) low
    ∙ simp append_assoc in
    put_number-inside q (f ++ (x ++ r)) (length f) long
    ∙ ap (λ (l : Bytes). put 4 (complement 4 q.den) l (length f + 4)) first
    ∙ ap (put 4 (complement 4 q.den) ((f ++ n) ++ (drop 4 x ++ r))) (sym next)
    ∙ put_at 4 (complement 4 q.den) (f ++ n) (drop 4 x) r high
    ∙ simp append_assoc

-- the bytes are those that a write of q leaves
pub number-back : (q : Rational) (f r : Bytes) → Proper q → number_at (f ++ (parts q ++ r)) (length f) ≡ q
number-back q f r proper =
    let w : Bytes = f ++ (parts q ++ r) in
    let long : length f + 8 ≤ length w =
    rw (length-append f (parts q ++ r), length-append (parts q) r, length-parts q) (omega arith) in
    ap (λ (l : Bytes). number_at l (length f)) (sym (number_at_lem q f (parts q) r (length-parts q)))
    ∙ number-after-write q w (length f) long proper
