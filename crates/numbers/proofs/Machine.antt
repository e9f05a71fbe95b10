-- Signed 64-bit arithmetic as the machine has it. A signed local holds bits, so each operand of a need is `R z`, what
-- the machine reads back of z. An expression of the source is a `Code`; each of its arguments carries a bound of its size.
--     exact m           the expression over the integers
--     last m            the last operation's result: `fits m tt : SFits w64 (last m)` answers its need
--     machine m         what the next operation, a call or the `returns` has of it: `back m tt : machine m ≡ exact m`
--     good m            whether the bounds keep every step below 2 ^ 63: it computes, so that `tt` proves it
--     negated, flipped  -m and -1 - m, with what the machine has of them
--     at_negative, at_natural       a test of the sign as a case distinction
--     eqb-of_z           two numbers are equal where their bits are
use mathlib.Core.Path.{◌≡◌, refl, sym, ◌∙◌, ap, ap₂, subst}
use mathlib.Core.Bool.{Bool, true, false, ◌&&◌}
use Prim.Native.Nat.{ℕ, zero, suc, ◌+◌, ◌-◌, ◌*◌, ◌≤◌, ◌<◌, ◌^◌}
use native.Mathlib.Nat.{mul-le-mul, div-le_self, add-le-add, le_trans, lt_of_le_of_lt, le_refl}
use native.Mathlib.Omega.{arith}
use borrow.Author.Tests.{ltb-true, eqb-true, eqb-false, eq-eqb, ne_eqb}
use lib.Dec.{T, ltb, ltb→lt, eqb}
use lib.IntN.{ℤ, pos, negsuc, nat_abs, neg_ℤ, ◌+ℤ◌, ◌-ℤ◌, ◌*ℤ◌, +ℤ_idl, +ℤ_comm, -ℤ_one}
use lib.Signed.{mag, quot_z, lt_z}
use mir.Syntax.{w64}
use mir.Val.{SFits, to_z, of_z}
use mir.Facts.{to_z-of_z, and_yes}
use Rattle.numbers.specs.Pair.{eq_z}
use Rattle.numbers.proofs.Integers.{nat_abs_negℤ, nat_abs_*ℤ, nat_abs_+ℤ_le}

abbrev pub R : ℤ → ℤ
R z = to_z w64 (of_z w64 z)

-- ---- one operation

pub data Operation : Type 0 where
  plus minus times over : Operation

abbrev pub apply : Operation → ℤ → ℤ → ℤ
apply plus x y = x +ℤ y
apply minus x y = x -ℤ y
apply times x y = x *ℤ y
apply over x y = quot_z x y

-- a bound of the result's size, from bounds of the operands' sizes
abbrev pub bound : Operation → ℕ → ℕ → ℕ
bound plus m n = m + n
bound minus m n = m + n
bound times m n = m * n
bound over m n = m

nat_abs-quot_z-le : (x y : ℤ) → nat_abs (quot_z x y) ≤ nat_abs x
nat_abs-quot_z-le (pos a) (pos b) = div-le_self a b
nat_abs-quot_z-le (pos a) (negsuc b) = rw nat_abs_negℤ (div-le_self a (suc b))
nat_abs-quot_z-le (negsuc a) (pos b) = rw nat_abs_negℤ (div-le_self (suc a) b)
nat_abs-quot_z-le (negsuc a) (negsuc b) = div-le_self (suc a) (suc b)

apply-le-bound :
    (o : Operation) (x y : ℤ) {m n : ℕ} → nat_abs x ≤ m → nat_abs y ≤ n → nat_abs (apply o x y) ≤ bound o m n
apply-le-bound plus x y h k = le_trans (nat_abs_+ℤ_le x y) (add-le-add h k)
apply-le-bound minus x y h k = le_trans (nat_abs_+ℤ_le x (neg_ℤ y)) (add-le-add h (rw nat_abs_negℤ k))
apply-le-bound times x y h k = rw nat_abs_*ℤ (mul-le-mul h k)
apply-le-bound over x y h k = le_trans (nat_abs-quot_z-le x y) h

-- ---- an expression

pub data Code : Type 0 where
  arg : (z : ℤ) (n : ℕ) → nat_abs z ≤ n → Code
  lit : ℤ → Code
  op : Operation → Code → Code → Code

infixl 60 ◌⊞◌ ◌⊟◌
infixl 70 ◌⊠◌ ◌⊘◌
abbrev pub ◌⊞◌ : Code → Code → Code
a ⊞ b = op plus a b

abbrev pub ◌⊟◌ : Code → Code → Code
a ⊟ b = op minus a b

abbrev pub ◌⊠◌ : Code → Code → Code
a ⊠ b = op times a b

abbrev pub ◌⊘◌ : Code → Code → Code
a ⊘ b = op over a b

abbrev pub machine : Code → ℤ
machine (arg z n h) = R z
machine (lit z) = z
machine (op o a b) = R (apply o (machine a) (machine b))

abbrev pub last : Code → ℤ
last (arg z n h) = z
last (lit z) = z
last (op o a b) = apply o (machine a) (machine b)

abbrev pub exact : Code → ℤ
exact (arg z n h) = z
exact (lit z) = z
exact (op o a b) = apply o (exact a) (exact b)

abbrev pub size : Code → ℕ
size (arg z n h) = n
size (lit z) = nat_abs z
size (op o a b) = bound o (size a) (size b)

abbrev pub good : Code → Bool
good (arg z n h) = ltb n (2 ^ 63)
good (lit z) = ltb (nat_abs z) (2 ^ 63)
good (op o a b) = ltb (bound o (size a) (size b)) (2 ^ 63) && (good a && good b)

exact-le-size : (m : Code) → nat_abs (exact m) ≤ size m
exact-le-size (arg z n h) = h
exact-le-size (lit z) = le_refl (nat_abs z)
exact-le-size (op o a b) = apply-le-bound o (exact a) (exact b) (exact-le-size a) (exact-le-size b)

size_small : (m : Code) → T (good m) → T (ltb (size m) (2 ^ 63))
size_small (arg z n h) t = t
size_small (lit z) t = t
size_small (op o a b) t = (and_yes (ltb (bound o (size a) (size b)) (2 ^ 63)) (good a && good b) t).0

mag-le-nat_abs : (z : ℤ) → mag z ≤ nat_abs z
mag-le-nat_abs (pos n) = omega arith
mag-le-nat_abs (negsuc n) = omega arith

pub exact-fits : (m : Code) → T (good m) → SFits w64 (exact m)
exact-fits m t =
    record {
      sfits =
          lt_of_le_of_lt (mag-le-nat_abs (exact m))
          (lt_of_le_of_lt (exact-le-size m) (ltb→lt (size m) (2 ^ 63) (size_small m t)));
    }

-- the answer of a call is read back as it is
pub returned : {z : ℤ} → mag z < 2 ^ 63 → R z ≡ z
returned small = to_z-of_z {w = w64} (record { sfits = small })

-- a number that equals one that fits is read back as that one
pub read_as : {x z : ℤ} → x ≡ z → SFits w64 z → R x ≡ z
read_as e f = ap R e ∙ to_z-of_z f

parts-good : (o : Operation) (a b : Code) → T (good (op o a b)) → T (good a) × T (good b)
parts-good o a b t = and_yes (good a) (good b) (and_yes (ltb (bound o (size a) (size b)) (2 ^ 63)) (good a && good b) t).1

sound : (m : Code) → T (good m) → (last m ≡ exact m) × (machine m ≡ exact m)
sound (arg z n h) t = (refl, to_z-of_z (exact-fits (arg z n h) t))
sound (lit z) t = (refl, refl)
sound (op o a b) t =
    let g = parts-good o a b t in
    let e = ap₂ (apply o) (sound a g.0).1 (sound b g.1).1 in
    (e, read_as e (exact-fits (op o a b) t))

pub back : (m : Code) → T (good m) → machine m ≡ exact m
back m t = (sound m t).1

pub fits : (m : Code) → T (good m) → SFits w64 (last m)
fits m t = subst (SFits w64) (sym (sound m t).0) (exact-fits m t)

-- ---- -m, and -1 - m, which takes negative numbers to natural ones and back

abbrev pub negated : Code → Code
negated m = lit (pos 0) ⊟ m

pub back-negated : (m : Code) → T (good (negated m)) → machine (negated m) ≡ neg_ℤ (exact m)
back-negated m t = back (negated m) t ∙ +ℤ_idl (neg_ℤ (exact m))

abbrev pub flip : ℤ → ℤ
flip (pos n) = negsuc n
flip (negsuc n) = pos n

pub minus_one_sub : (z : ℤ) → negsuc 0 -ℤ z ≡ flip z
minus_one_sub (pos zero) = +ℤ_comm (negsuc 0) (pos 0) ∙ -ℤ_one (pos 0)
minus_one_sub (pos (suc n)) = +ℤ_comm (negsuc 0) (negsuc n) ∙ -ℤ_one (negsuc n)
minus_one_sub (negsuc n) = +ℤ_comm (negsuc 0) (pos (suc n)) ∙ -ℤ_one (pos (suc n))

pub flip-fits : (z : ℤ) → SFits w64 z → SFits w64 (flip z)
flip-fits (pos n) f = record { sfits = f.sfits }
flip-fits (negsuc n) f = record { sfits = f.sfits }

abbrev pub flipped : Code → Code
flipped m = lit (negsuc 0) ⊟ m

pub back-flipped : (m : Code) → T (good (flipped m)) → machine (flipped m) ≡ flip (exact m)
back-flipped m t = back (flipped m) t ∙ minus_one_sub (exact m)

-- ---- the sign: what holds of every number of a sign holds of z, where x, which is z, passes the test

module _ (P : ℤ → Type 0) where
  pub at_negative : ((k : ℕ) → P (negsuc k)) → {x z : ℤ} → x ≡ z → lt_z x (pos 0) ≡ true → P z
  at_negative p {z = pos k} e t = absurd (omega (arith, ltb-true k 0 (ap (λ (v : ℤ). lt_z v (pos 0)) (sym e) ∙ t)))
  at_negative p {z = negsuc k} e t = p k

  pub at_natural : ((k : ℕ) → P (pos k)) → {x z : ℤ} → x ≡ z → lt_z x (pos 0) ≡ false → P z
  at_natural p {z = pos k} e t = p k
  at_natural p {z = negsuc k} e t = absurd (subst T (ap (λ (v : ℤ). lt_z v (pos 0)) (sym e) ∙ t) tt)

-- ---- equality

pub eqb_iff : {a b c d : ℕ} → (a ≡ b → c ≡ d) → (c ≡ d → a ≡ b) → eqb a b ≡ eqb c d
eqb_iff {a} {b} {c} {d} f g = go (eqb a b) refl
  where
    go : (t : Bool) → eqb a b ≡ t → t ≡ eqb c d
    go true e = sym (eq-eqb c d (f (eqb-true a b e)))
    go false e = sym (ne_eqb c d (λ h. eqb-false a b e (g h)))

-- two numbers are equal where their bits are
pub eqb-of_z : (x y : ℤ) → SFits w64 x → SFits w64 y → eqb (of_z w64 x) (of_z w64 y) ≡ eq_z x y
eqb-of_z (pos a) (pos b) f g = refl
eqb-of_z (pos a) (negsuc b) f g = ne_eqb a (2 ^ 64 - suc b) (λ h. omega (arith, f.sfits, g.sfits))
eqb-of_z (negsuc a) (pos b) f g = ne_eqb (2 ^ 64 - suc a) b (λ h. omega (arith, f.sfits, g.sfits))
eqb-of_z (negsuc a) (negsuc b) f g =
    eqb_iff {a = 2 ^ 64 - suc a} {b = 2 ^ 64 - suc b} {c = a} {d = b}
    (λ h. omega (arith, f.sfits, g.sfits)) (ap (λ (k : ℕ). 2 ^ 64 - suc k))
