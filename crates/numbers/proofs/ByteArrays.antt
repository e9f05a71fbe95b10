-- The library's little-endian arrays: `from_le_bytes` reads and `to_le_bytes` writes the numbers of the definition, at
-- every width.
use mathlib.Core.Path.{◌≡◌, refl, sym, ap, ap₂, ◌∙◌}
use mathlib.Core.List.{[], ◌∷◌, ◌++◌, append_assoc}
use Prim.Native.Nat.{ℕ, zero, suc, ◌+◌, ◌*◌, ◌/◌, ◌%◌, ◌^◌, ◌≤◌, ◌<◌}
use native.Mathlib.Nat.{add-zero, zero-add, mul_comm, div-one, div-div-eq-div-mul, pow-suc}
use native.Mathlib.Omega.{arith}
use lib.ListN.{length, get_or, set, take, drop, length-set, take-append-drop}
use lib.Seq.{paste, take_all, take-suc-set, drop-set-lt, get_or-take, get_or-drop}
use Rattle.std.specs.Prelude.{Option, Some, None, MatchOption, slice_index}
use Rattle.std.specs.Int.{byte_at, byte_worth, bytes_low_first, sum_through}
use Rattle.numbers.specs.Bytes.{Bytes, digits, le, put_digits, put, bytes_of}
use Rattle.numbers.proofs.LittleEndian.{digits-add, le-inside, le-outside, put-inside}

-- ---- reading

digits_one : (b : Bytes) (i : ℕ) → digits 1 b i ≡ get_or b i 0
unfolding digits
digits_one b i = omega arith

digits-last : (n : ℕ) (b : Bytes) → digits (suc n) b 0 ≡ digits n b 0 + get_or b n 0 * 256 ^ n
digits-last n b =
    let whole : n + 1 ≡ suc n = omega arith in
    let both : digits (suc n) b 0 ≡ digits n b 0 + 256 ^ n * digits 1 b n = rw (zero-add n, whole) at (digits-add n 1 b 0) in
    rw (both, digits_one b n, mul_comm (256 ^ n) (get_or b n 0)) refl

sum_of_bytes : (n : ℕ) (b : Bytes) → sum_through (λ k. byte_worth k (slice_index b k)) n ≡ digits (suc n) b 0
sum_of_bytes zero b = sym (digits_one b 0)
sum_of_bytes (suc n) b = rw (digits-last (suc n) b, sum_of_bytes n b) refl

-- the same bytes at another place of other bytes are the same number
digits-moved :
    (n : ℕ) (b c : Bytes) (i j : ℕ) → ((k : ℕ) → k < n → get_or b (i + k) 0 ≡ get_or c (j + k) 0) →
    digits n b i ≡ digits n c j
unfolding digits
digits-moved zero b c i j same = refl
digits-moved (suc n) b c i j same =
    ap₂ (λ (x y : ℕ). x + 256 * y)
    (rw (add-zero i, add-zero j) at (same 0 (omega arith)))
    (digits-moved n b c (i + 1) (j + 1) (λ k h.
    let e : i + 1 + k ≡ i + suc k = omega arith in
    let f : j + 1 + k ≡ j + suc k = omega arith in
    rw (e, f) (same (suc k) (omega arith))))

digits-part : (n : ℕ) (b : Bytes) (i : ℕ) → digits n (take n (drop i b)) 0 ≡ digits n b i
digits-part n b i =
    digits-moved n (take n (drop i b)) b 0 i (λ k h. rw (zero-add k, get_or-take n (drop i b) k 0 h) (get_or-drop i b k 0))

-- What `bytes_at` answers for n + 1 bytes, taken as a number, with 0 where they are not there.
pub le_of_array :
    (n : ℕ) (b : Bytes) (i v : ℕ) (r : Option Bytes) →
    MatchOption r (length b < i + suc n) (λ a. (i + suc n ≤ length b) × (a ≡ take (suc n) (drop i b))) →
    MatchOption r (v ≡ 0) (λ a. v ≡ sum_through (λ k. byte_worth k (slice_index a k)) n) → v ≡ le (suc n) b i
le_of_array n b i v None there is = is ∙ sym (le-outside (suc n) b i there)
le_of_array n b i v (Some a) there is =
    is ∙ sum_of_bytes n a
    ∙ ap (λ (x : Bytes). digits (suc n) x 0) there.1
    ∙ digits-part (suc n) b i
    ∙ sym (le-inside (suc n) b i there.0)

-- ---- writing

low_first-from : (k n v : ℕ) → bytes_low_first k n v ≡ bytes_of n (v / 256 ^ k)
unfolding bytes_of
low_first-from k zero v = refl
low_first-from k (suc n) v = ap₂ (λ (x : ℕ) (l : Bytes). x ∷ l) (first k) (low_first-from (suc k) n v ∙ ap (bytes_of n) rest)
  where
    first : (k : ℕ) → byte_at k v ≡ v / 256 ^ k % 256
    first zero = rw (div-one v) refl
    first (suc k) = refl

    rest : v / 256 ^ suc k ≡ v / 256 ^ k / 256
    rest = rw (div-div-eq-div-mul v (256 ^ k) 256, pow-suc 256 k) refl

low_first : (n v : ℕ) → bytes_low_first 0 n v ≡ bytes_of n v
low_first n v = low_first-from 0 n v ∙ ap (bytes_of n) (div-one v)

length-low_first : (k n v : ℕ) → length (bytes_low_first k n v) ≡ n
length-low_first k zero v = refl
length-low_first k (suc n) v = ap suc (length-low_first (suc k) n v)

digits-put_at :
    (n v : ℕ) (b : Bytes) (i : ℕ) → i + n ≤ length b → take i b ++ (bytes_of n v ++ drop (i + n) b) ≡ put_digits n v b i
unfolding put_digits bytes_of
digits-put_at zero v b i h = rw (add-zero i) (take-append-drop i b)
digits-put_at (suc n) v b i h =
    let c : Bytes = set b i (v % 256) in
    let long : i + 1 + n ≤ length c = rw (length-set b i (v % 256)) (omega arith) in
    let next : i + 1 ≡ suc i = omega arith in
    let end : suc i + n ≡ i + suc n = omega arith in
    let front : take (suc i) c ≡ take i b ++ ((v % 256) ∷ []) = take-suc-set b i (v % 256) (omega arith) in
    let back : drop (i + suc n) c ≡ drop (i + suc n) b = drop-set-lt (i + suc n) b i (v % 256) (omega arith) in
    let later : take (i + 1) c ++ (bytes_of n (v / 256) ++ drop (i + 1 + n) c) ≡ put_digits n (v / 256) c (i + 1) =
    digits-put_at n (v / 256) c (i + 1) long in
    sym (append_assoc (take i b) ((v % 256) ∷ []) (bytes_of n (v / 256) ++ drop (i + suc n) b))
    ∙ rw (← front, ← back, ← end, ← next) later

-- n bytes that are v's, pasted
pub put_of_array :
    (n v : ℕ) (b : Bytes) (i : ℕ) {a : Bytes} → i + n ≤ length b → a ≡ bytes_low_first 0 n v →
    paste b i a (length a) ≡ put n v b i
put_of_array n v b i {a} h is =
    let long : length a ≡ n = ap length is ∙ length-low_first 0 n v in
    rw (take_all (length a) a (omega arith), long, is, low_first n v)
    (append_assoc (take i b) (bytes_of n v) (drop (i + n) b) ∙ digits-put_at n v b i h ∙ sym (put-inside n v b i h))
