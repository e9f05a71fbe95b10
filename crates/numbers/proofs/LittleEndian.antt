-- Laws of little-endian numbers in bytes, at every width: what a write leaves, what a read finds after it, and that m + n
-- bytes are m bytes and then n bytes. At the end stand the facts on a place for which `room` was asked.
use mathlib.Core.Path.{◌≡◌, refl, sym, ap, ap₂, ◌∙◌}
use mathlib.Core.Bool.{Bool, true, false, cond}
use mathlib.Core.List.{◌∷◌}
use mathlib.Core.Logic.{◌⊎◌, ⊎_elim, inl, inr}
use Prim.Native.Nat.{ℕ, zero, suc, ◌+◌, ◌*◌, ◌/◌, ◌%◌, ◌^◌, ◌≤◌, ◌<◌}
use native.Mathlib.Nat.{pow-succ', one-le-pow, mod-one, mod-lt, mod-eq_of_lt, div-add-mod, add-mul-mod_self_left}
use native.Mathlib.Nat.{mul_assoc, add-zero, suc-add}
use native.Mathlib.Omega.{arith}
use borrow.Author.Rules.{rules}
use borrow.Author.Tests.{le-leb, lt-leb, leb-true, leb-false}
use lib.Dec.{leb, leb-suc-suc, lit≤}
use lib.ListN.{length, get_or, set, length-set}
use lib.Seq.{get_or-set_same, get_or-set_other}
use mir.Syntax.{w64}
use mir.Val.{Fits}
use Rattle.numbers.specs.Bytes.{Bytes, digits, le, put_digits, put, room}

-- The m bytes at j and the n bytes at i have no byte in common.
abbrev pub Apart : ℕ → ℕ → ℕ → ℕ → Type 0
Apart m j n i = (j + m ≤ i) ⊎ (i + n ≤ j)

-- What holds of both arms holds of `cond`. Each arm knows the test's answer.
pub cond_either :
    {A : Type 0} (P : A → Type 0) (t : Bool) (x y : A) → (t ≡ true → P x) → (t ≡ false → P y) → P (cond t x y)
cond_either P true x y first second = first refl
cond_either P false x y first second = second refl

-- ---- where there is room, and where there is none

module _ (n : ℕ) (b : Bytes) (i : ℕ) where
  pub le-inside : i + n ≤ length b → le n b i ≡ digits n b i
  unfolding le
  le-inside h = rw (le-leb (i + n) (length b) h)

  pub le-outside : length b < i + n → le n b i ≡ 0
  unfolding le
  le-outside h = rw (lt-leb (i + n) (length b) h)

module _ (n v : ℕ) (b : Bytes) (i : ℕ) where
  pub put-inside : i + n ≤ length b → put n v b i ≡ put_digits n v b i
  unfolding put
  put-inside h = rw (le-leb (i + n) (length b) h)

  pub put-outside : length b < i + n → put n v b i ≡ b
  unfolding put
  put-outside h = rw (lt-leb (i + n) (length b) h)

  put-either : (P : Bytes → Type 0) → P (put_digits n v b i) → P b → P (put n v b i)
  unfolding put
  put-either P inside outside =
      cond_either P (room n b i) (put_digits n v b i) b (λ t. inside) (λ t. outside)

-- ---- the length, and the size of what is read

length-put_digits : (n v : ℕ) (b : Bytes) (i : ℕ) → length (put_digits n v b i) ≡ length b
unfolding put_digits
length-put_digits zero v b i = refl
length-put_digits (suc n) v b i = length-put_digits n (v / 256) (set b i (v % 256)) (i + 1) ∙ length-set b i (v % 256)

pub length-put : (n v : ℕ) (b : Bytes) (i : ℕ) → length (put n v b i) ≡ length b
length-put n v b i = put-either n v b i (λ (x : Bytes). length x ≡ length b) (length-put_digits n v b i) refl

digits-below : (n : ℕ) (b : Bytes) (i : ℕ) → ((j : ℕ) → get_or b j 0 < 256) → digits n b i < 256 ^ n
unfolding digits
digits-below zero b i h = lit≤ tt
digits-below (suc n) b i h = rw (pow-succ' 256 n) (omega (arith, h i, digits-below n b (i + 1) h))

pub le_below : (n : ℕ) (b : Bytes) (i : ℕ) → ((j : ℕ) → get_or b j 0 < 256) → le n b i < 256 ^ n
unfolding le
le_below n b i h =
    cond_either (λ (x : ℕ). x < 256 ^ n) (room n b i) (digits n b i) 0
    (λ t. digits-below n b i h)
    (λ t. one-le-pow n 256 (lit≤ tt))

-- ---- bytes outside what is written

byte-put_digits :
    (n v : ℕ) (b : Bytes) (i j : ℕ) → (i ≤ j → j < i + n → ⊥) → get_or (put_digits n v b i) j 0 ≡ get_or b j 0
unfolding put_digits
byte-put_digits zero v b i j h = refl
byte-put_digits (suc n) v b i j h =
    byte-put_digits n (v / 256) (set b i (v % 256)) (i + 1) j (λ p q. h (omega arith) (omega arith))
    ∙ get_or-set_other b i j (v % 256) 0 (λ e. h (omega arith) (omega arith))

pub byte-put_elsewhere :
    (n v : ℕ) (b : Bytes) (i j : ℕ) → (j < i) ⊎ (i + n ≤ j) → get_or (put n v b i) j 0 ≡ get_or b j 0
byte-put_elsewhere n v b i j apart =
    put-either n v b i (λ (x : Bytes). get_or x j 0 ≡ get_or b j 0) (byte-put_digits n v b i j beside) refl
  where
    beside : i ≤ j → j < i + n → ⊥
    beside p q = ⊎_elim (λ o. omega arith) (λ o. omega arith) apart

-- ---- a read at another place

digits-agree :
    (n : ℕ) (b c : Bytes) (i : ℕ) → ((j : ℕ) → i ≤ j → j < i + n → get_or b j 0 ≡ get_or c j 0) →
    digits n b i ≡ digits n c i
unfolding digits
digits-agree zero b c i same = refl
digits-agree (suc n) b c i same =
    ap₂ (λ (x y : ℕ). x + 256 * y)
    (same i (omega arith) (omega arith))
    (digits-agree n b c (i + 1) (λ j p q. same j (omega arith) (omega arith)))

-- A read looks at the length and at its own bytes alone.
pub le-agree :
    (n : ℕ) (b c : Bytes) (i : ℕ) → length b ≡ length c →
    ((j : ℕ) → i ≤ j → j < i + n → get_or b j 0 ≡ get_or c j 0) → le n b i ≡ le n c i
unfolding le
le-agree n b c i long same =
    ap₂ (λ (l d : ℕ). cond (leb (i + n) l) d 0) long (digits-agree n b c i same)

-- So bytes that are alike outside the n bytes at i read alike at each place that those do not reach.
pub le_elsewhere :
    (m n : ℕ) (b c : Bytes) (i j : ℕ) → length b ≡ length c →
    ((k : ℕ) → (k < i) ⊎ (i + n ≤ k) → get_or b k 0 ≡ get_or c k 0) → Apart m j n i → le m b j ≡ le m c j
le_elsewhere m n b c i j long same apart =
    le-agree m b c j long (λ k p q. same k (⊎_elim (λ o. inl (omega arith)) (λ o. inr (omega arith)) apart))

pub le-put_elsewhere : (m n v : ℕ) (b : Bytes) (i j : ℕ) → Apart m j n i → le m (put n v b i) j ≡ le m b j
le-put_elsewhere m n v b i j =
    le_elsewhere m n (put n v b i) b i j (length-put n v b i) (byte-put_elsewhere n v b i)

-- ---- a read of what was written

-- The low byte of v and the rest of v cut to p make v cut to 256 p.
low_and_rest : (v p : ℕ) → 0 < p → v % 256 + 256 * (v / 256 % p) ≡ v % (256 * p)
low_and_rest v p h =
    let high : p * (v / 256 / p) + v / 256 % p ≡ v / 256 = div-add-mod (v / 256) p in
    let regroup : 256 * p * (v / 256 / p) ≡ 256 * (p * (v / 256 / p)) = mul_assoc 256 p (v / 256 / p) in
    let whole : v ≡ v % 256 + 256 * (v / 256 % p) + 256 * p * (v / 256 / p) = omega arith in
    let small : v % 256 + 256 * (v / 256 % p) < 256 * p = omega (arith, mod-lt (v / 256) h) in
    sym (ap (λ (x : ℕ). x % (256 * p)) whole ∙ add-mul-mod_self_left _ (256 * p) (v / 256 / p) ∙ mod-eq_of_lt small)

digits-put_digits :
    (n v : ℕ) (b : Bytes) (i : ℕ) → i + n ≤ length b → digits n (put_digits n v b i) i ≡ v % 256 ^ n
unfolding digits put_digits
digits-put_digits zero v b i h = sym (mod-one v)
digits-put_digits (suc n) v b i h =
    let c : Bytes = set b i (v % 256) in
    let long : i + 1 + n ≤ length c = rw (length-set b i (v % 256)) (omega arith) in
    let low : get_or (put_digits n (v / 256) c (i + 1)) i 0 ≡ v % 256 =
    byte-put_digits n (v / 256) c (i + 1) i (λ p q. omega arith) ∙ get_or-set_same b i (v % 256) 0 (omega arith) in
    ap₂ (λ (x y : ℕ). x + 256 * y) low (digits-put_digits n (v / 256) c (i + 1) long)
    ∙ low_and_rest v (256 ^ n) (one-le-pow n 256 (lit≤ tt))
    ∙ ap (λ (p : ℕ). v % p) (sym (pow-succ' 256 n))

pub read-after-write : (n v : ℕ) (b : Bytes) (i : ℕ) → i + n ≤ length b → le n (put n v b i) i ≡ v % 256 ^ n
read-after-write n v b i h =
    le-inside n (put n v b i) i (rw (length-put n v b i) h)
    ∙ ap (λ (c : Bytes). digits n c i) (put-inside n v b i h)
    ∙ digits-put_digits n v b i h

pub read-after-write-small :
    (n v : ℕ) (b : Bytes) (i : ℕ) → i + n ≤ length b → v < 256 ^ n → le n (put n v b i) i ≡ v
read-after-write-small n v b i h small = read-after-write n v b i h ∙ mod-eq_of_lt small

-- ---- m + n bytes are m bytes and then n bytes

pub digits-add :
    (m n : ℕ) (b : Bytes) (i : ℕ) → digits (m + n) b i ≡ digits m b i + 256 ^ m * digits n b (i + m)
unfolding digits
digits-add zero n b i = let none : 0 + n ≡ n = omega arith in rw (none, add-zero) (omega arith)
digits-add (suc m) n b i =
    let place : i + 1 + m ≡ i + suc m = omega arith in
    let rest : digits (m + n) b (i + 1) ≡ digits m b (i + 1) + 256 ^ m * digits n b (i + suc m) =
    rw (← place) (digits-add m n b (i + 1)) in
    let regroup : 256 * 256 ^ m * digits n b (i + suc m) ≡ 256 * (256 ^ m * digits n b (i + suc m)) = mul_assoc 256 (256 ^ m) _ in
    rw (suc-add, pow-succ' 256 m, digits) (omega arith)

pub le-add :
    (m n : ℕ) (b : Bytes) (i : ℕ) → i + (m + n) ≤ length b →
    le (m + n) b i ≡ le m b i + 256 ^ m * le n b (i + m)
le-add m n b i h =
    rw (le-inside (m + n) b i h, le-inside m b i (omega arith), le-inside n b (i + m) (omega arith)) (digits-add m n b i)

-- a byte in front moves every place up by one
digits_cons : (n x : ℕ) (b : Bytes) (i : ℕ) → digits n (x ∷ b) (suc i) ≡ digits n b i
unfolding digits
digits_cons zero x b i = refl
digits_cons (suc n) x b i = rw suc-add (ap (λ (d : ℕ). get_or b i 0 + 256 * d) (digits_cons n x b (i + 1)))

pub le_cons : (n x : ℕ) (b : Bytes) (i : ℕ) → le n (x ∷ b) (suc i) ≡ le n b i
unfolding le
le_cons n x b i = rw (suc-add, leb-suc-suc, digits_cons n x b i)

-- ---- the function `room` and its callers

-- What `room` answers, t, as an order of numbers.
pub inside : (t : Bool) (m l : ℕ) → t ≡ leb m l → t ≡ true → m ≤ l
inside t m l e h = leb-true m l (sym e ∙ h)

pub outside : (t : Bool) (m l : ℕ) → t ≡ leb m l → t ≡ false → l < m
outside t m l e h = leb-false m l (sym e ∙ h)

pub place-fits : (t : Bool) (i k n l : ℕ) → t ≡ leb (i + n) l → t ≡ true → k ≤ n → Fits w64 l → Fits w64 (i + k)
place-fits t i k n l e h p f = omega (arith, inside t (i + n) l e h)

-- `search roomy` closes what a function asks of a place where it has called `room`.
pub ruleset roomy = (rules, inside, outside, place-fits)

-- ---- two bytes, one after the other

pub le_of_two :
    (b : Bytes) (i x y : ℕ) → i + 2 ≤ length b → x ≡ get_or b i 0 → y ≡ get_or b (i + 1) 0 →
    x + 256 * y ≡ le 2 b i
unfolding digits
le_of_two b i x y h first second = rw (le-inside 2 b i h, digits, ← first, ← second) (omega arith)
