-- What a term is under a weight for each record number (`linear_at`): a written number itself, a sum, a difference and
-- a product by a written number by recursion, and anything else the weight of its record. This is a linear reading
-- (`weighed`), in which an atom stands for its weight.
use mathlib.Core.Path.{◌≡◌, refl, sym, ◌∙◌, ap, subst}
use mathlib.Core.Bool.{Bool, true, false, ◌||◌, or-true}
use mathlib.Core.List.{[], ◌∷◌}
use mathlib.Core.Logic.{◌⊎◌, inl, inr}
use Prim.Native.Nat.{ℕ}
use native.Mathlib.Omega.{arith}
use borrow.Author.Tests.{eqb-true}
use lib.Dec.{eqb}
use lib.IntN.{pos}
use Rattle.numbers.specs.Rational.{Rational, whole}
use Rattle.terms.specs.Operator.{Add, Sub, Mult}
use Rattle.terms.specs.Term.{Term, Terms, record_number}
use Rattle.numbers.specs.Choice.{when◌then◌else◌}
use Rattle.terms.specs.Term.Term.{integer, rational, bitvector, atom, op}
use Rattle.terms.specs.Term.Terms.{nil, ◌▹◌}
use Rattle.terms.specs.Readers.{unbounded, as_fraction}
use Rattle.numbers.proofs.Ring.{◌⊕◌, ◌⊗◌, neg, 𝟘, 𝟙, ◌≐◌, ◌·◌, ◌from◌, solve, derive}
use Rattle.numbers.proofs.Truths.{never}
use Rattle.numbers.proofs.Quotient.{ℚ, ℚring}
use Rattle.book.proofs.BookTerms.{Closed}
use Rattle.linear_walk.specs.LinearTerms.{Arm, arm_of}
use Rattle.rules.specs.Shapes.{size}
use Rattle.alethe.specs.AletheTerms.{is, Constant, Unsigned, Atom, Written}
use Rattle.alethe.specs.AletheTerms.IsDivision.{div, slash}
use Rattle.rules.proofs.Valuations.{numberℚ, rationals}
use Rattle.rules_theory.proofs.WrittenNumbers.{written_read, read-written}
use Rattle.linear_theory.proofs.LinearReadings.{Armed, a_sum, a_negation, a_difference, a_product, a_leaf, armed}
use Rattle.linear_theory.proofs.LinearReadings.{two-terms, written-lowest, sum_at, difference_at, LinearReading}
use Rattle.terms.specs.Readers.{Reading}
use Rattle.std.specs.Prelude.{Ok, Err}
use Rattle.terms.specs.declared.term.NotRead.TheVariants.{NotNumber, OutOfRange}
open ℚring use {add as ◌+◌, mul as ◌*◌, neg as -◌, ι}

infixl 6 ◌+◌
infixl 7 ◌*◌
infix 8 -◌
-- ---- the number

abbrev pub is_read : Reading → Bool
is_read (Ok q) = true
is_read (Err NotNumber) = false
is_read (Err OutOfRange) = false

unfoldable pub any_read : Terms → Bool
any_read nil = false
any_read (t ▹ ts) = is_read (as_fraction unbounded t) || any_read ts

abbrev pub read_or : ℚ → Reading → ℚ
read_or x (Ok q) = numberℚ q
read_or x (Err NotNumber) = x
read_or x (Err OutOfRange) = x

abbrev pub if_read : ℚ → ℚ → Bool → ℚ
if_read x y true = x
if_read x y false = y

-- by the arm of the walk: the sum of the arguments, their difference, their product, what is read
abbrev pub at_arm : ℚ → ℚ → ℚ → ℚ → Arm → ℚ
at_arm s d p x Arm.sum = s
at_arm s d p x Arm.negation = - s
at_arm s d p x Arm.difference = d
at_arm s d p x Arm.product = p
at_arm s d p x Arm.leaf = x

unfoldable mutual
  pub linear_at : (ℕ → ℚ) → Term → ℚ
  linear_at v (integer i z) = numberℚ (whole z)
  linear_at v (rational i q) = numberℚ q
  linear_at v (bitvector i x w) = v i
  linear_at v (atom i s n) = v i
  linear_at v (op i o ts) =
      at_arm (sum_with v ts) (difference_with v ts) (if_read (product_with v ts) (v i) (any_read ts))
      (read_or (v i) (as_fraction unbounded (op i o ts))) (arm_of o ts)

  pub sum_with : (ℕ → ℚ) → Terms → ℚ
  sum_with v nil = ι (pos 0)
  sum_with v (t ▹ ts) = linear_at v t + sum_with v ts

  pub difference_with : (ℕ → ℚ) → Terms → ℚ
  difference_with v nil = ι (pos 0)
  difference_with v (t ▹ ts) = linear_at v t + - sum_with v ts

  pub product_with : (ℕ → ℚ) → Terms → ℚ
  product_with v nil = ι (pos 1)
  product_with v (t ▹ ts) = linear_at v t * product_with v ts

-- ---- what is read

written-is_read : {t : Term} {q : Rational} → Written t q → is_read (as_fraction unbounded t) ≡ true
written-is_read w = ap is_read (written_read w)

is_read-written : (t : Term) → is_read (as_fraction unbounded t) ≡ true → (q : Rational) × Written t q
is_read-written t = go (as_fraction unbounded t) refl
  where
    go : (r : Reading) → as_fraction unbounded t ≡ r → is_read r ≡ true → (q : Rational) × Written t q
    go (Ok q) e h = (q, read-written t q e)
    go (Err NotNumber) e h = never h
    go (Err OutOfRange) e h = never h

factor-read : (a b : Term) {q : Rational} → Written a q ⊎ Written b q → any_read (a ▹ b ▹ nil) ≡ true
unfolding any_read
factor-read a b (inl w) = rw (written-is_read w)
factor-read a b (inr w) = rw (written-is_read w) (or-true (is_read (as_fraction unbounded a)))

read-factor : (a b : Term) → any_read (a ▹ b ▹ nil) ≡ true → (q : Rational) × (Written a q ⊎ Written b q)
unfolding any_read
read-factor a b = go (is_read (as_fraction unbounded a)) (is_read (as_fraction unbounded b)) refl refl
  where
    go :
        (x y : Bool) → is_read (as_fraction unbounded a) ≡ x → is_read (as_fraction unbounded b) ≡ y →
        (x || (y || false)) ≡ true → (q : Rational) × (Written a q ⊎ Written b q)
    go true y ex ey e = let h = is_read-written a ex in (h.0, inl h.1)
    go false true ex ey e = let h = is_read-written b ey in (h.0, inr h.1)
    go false false ex ey e = never e

-- ---- the laws

module _ (v : ℕ → ℚ) where
  sum_with_lem : (ts : Terms) → sum_with v ts ≡ sum_at (linear_at v) ts
  unfolding linear_at sum_at
  sum_with_lem nil = refl
  sum_with_lem (t ▹ ts) = ap (◌+◌ (linear_at v t)) (sum_with_lem ts)

  pub sum_weighs : (i : ℕ) (ts : Terms) → linear_at v (op i Add ts) ≡ sum_at (linear_at v) ts
  unfolding linear_at arm_of when◌then◌else◌
  sum_weighs i ts = sum_with_lem ts

  pub negation_weighs : (i : ℕ) (ts : Terms) → size ts ≡ 1 → linear_at v (op i Sub ts) ≡ - sum_at (linear_at v) ts
  unfolding linear_at arm_of when◌then◌else◌
  negation_weighs i nil e = absurd (omega arith)
  negation_weighs i (t ▹ nil) e = ap -◌ (sum_with_lem (t ▹ nil))
  negation_weighs i (t ▹ u ▹ ts) e = absurd (omega arith)

  difference_arm : (ts : Terms) → eqb (size ts) 1 ≡ false → arm_of Sub ts ≡ Arm.difference
  unfolding arm_of when◌then◌else◌
  difference_arm ts e = ap (λ (t : Bool). when t then Arm.negation else Arm.difference) e

  difference_with_lem : (ts : Terms) → difference_with v ts ≡ difference_at (linear_at v) ts
  unfolding linear_at
  difference_with_lem nil = refl
  difference_with_lem (t ▹ ts) = ap (λ (x : ℚ). linear_at v t + - x) (sum_with_lem ts)

  pub difference_weighs :
      (i : ℕ) (ts : Terms) → eqb (size ts) 1 ≡ false →
      linear_at v (op i Sub ts) ≡ difference_at (linear_at v) ts
  unfolding linear_at
  difference_weighs i ts e = ap (at_arm _ (difference_with v ts) _ _) (difference_arm ts e) ∙ difference_with_lem ts

  pub product_weighs : (i : ℕ) (a b : Term) (q : Rational) → Written a q ⊎ Written b q →
      linear_at v (op i Mult (a ▹ b ▹ nil)) ≡ linear_at v a * linear_at v b
  unfolding linear_at arm_of when◌then◌else◌
  product_weighs i a b q w =
      ap (if_read (product_with v (a ▹ b ▹ nil)) (v i)) (factor-read a b w)
      ∙ solve ℚring (linear_at v a ∷ linear_at v b ∷ []) (λ a b. a ⊗ (b ⊗ 𝟙) ≐ a ⊗ b) tt

  unsigned_weighs : {t : Term} {q : Rational} → Unsigned t q → numberℚ q ≡ linear_at v t
  unfolding linear_at arm_of when◌then◌else◌
  unsigned_weighs (Unsigned.constant (Constant.whole i z)) = refl
  unsigned_weighs (Unsigned.constant (Constant.fraction i q)) = refl
  unsigned_weighs (Unsigned.quotient div (is i) a b z) =
      ap (read_or (v i)) (sym (written_read (Written.plain (Unsigned.quotient div (is i) a b z))))
  unsigned_weighs (Unsigned.quotient slash (is i) a b z) =
      ap (read_or (v i)) (sym (written_read (Written.plain (Unsigned.quotient slash (is i) a b z))))

  pub written_weighs :
      {P : Term → Type 0} → Closed P → (t : Term) → P t → (q : Rational) → Written t q →
      numberℚ q ≡ linear_at v t
  unfolding sum_at
  written_weighs closed t p q (Written.plain u) = unsigned_weighs u
  written_weighs closed _ p _ (Written.minus {t} {q = q} (is i) u) =
      rationals.number-neg q (written-lowest closed t (closed.below i Sub (t ▹ nil) p).0 (Written.plain u))
      ∙ derive ℚring (numberℚ q ∷ linear_at v t ∷ []) (λ q t. neg q ≐ neg (t ⊕ 𝟘) from neg 𝟙 · q ≐ t) tt
      (unsigned_weighs u)
      ∙ sym (negation_weighs i (t ▹ nil) refl)

  -- an atom has the weight of its record

  product-leaf : (i : ℕ) (ts : Terms) → size ts ≡ 2 → Atom (op i Mult ts) →
      if_read (product_with v ts) (v i) (any_read ts) ≡ v i
  product-leaf i ts n =
      two-terms (λ ts. Atom (op i Mult ts) → if_read (product_with v ts) (v i) (any_read ts) ≡ v i) ts n
      (λ a b h. go a b (any_read (a ▹ b ▹ nil)) refl h)
    where
      go : (a b : Term) (t : Bool) → any_read (a ▹ b ▹ nil) ≡ t → Atom (op i Mult (a ▹ b ▹ nil)) →
          if_read (product_with v (a ▹ b ▹ nil)) (v i) t ≡ v i
      go a b true e h = let w = read-factor a b e in absurd (h.not_product a b w.0 (is i) w.1)
      go a b false e h = refl

  operation-leaf : (i o : ℕ) (ts : Terms) → Atom (op i o ts) → linear_at v (op i o ts) ≡ v i
  unfolding linear_at
  operation-leaf i o ts h = go (arm_of o ts) (armed o ts)
    where
      read : (r : Reading) → as_fraction unbounded (op i o ts) ≡ r → read_or (v i) r ≡ v i
      read (Ok q) e = absurd (h.no_number q (read-written (op i o ts) q e))
      read (Err NotNumber) e = refl
      read (Err OutOfRange) e = refl

      go : (k : Arm) → Armed o ts k →
          at_arm (sum_with v ts) (difference_with v ts) (if_read (product_with v ts) (v i) (any_read ts))
          (read_or (v i) (as_fraction unbounded (op i o ts))) k
          ≡ v i
      go Arm.sum (a_sum e) = absurd (h.not_sum ts (rw e (is i)))
      go Arm.negation (a_negation e n) = absurd (h.not_difference ts (rw e (is i)))
      go Arm.difference (a_difference e n) = absurd (h.not_difference ts (rw e (is i)))
      go Arm.product (a_product e n) = product-leaf i ts n (subst (λ (o : ℕ). Atom (op i o ts)) e h)
      go Arm.leaf (a_leaf a s m) = read (as_fraction unbounded (op i o ts)) refl

  pub atom_weighs : (t : Term) → Atom t → linear_at v t ≡ v (record_number t)
  unfolding linear_at
  atom_weighs (integer i z) h = absurd (h.no_number (whole z) (Written.plain (Unsigned.constant (Constant.whole i z))))
  atom_weighs (rational i q) h = absurd (h.no_number q (Written.plain (Unsigned.constant (Constant.fraction i q))))
  atom_weighs (bitvector i x w) h = refl
  atom_weighs (atom i s n) h = refl
  atom_weighs (op i o ts) h = operation-leaf i o ts h

abbrev pub weighed : {P : Term → Type 0} → Closed P → (ℕ → ℚ) → LinearReading P
weighed closed v =
    record {
      at = linear_at v;
      leaf = λ t. v (record_number t);
      respects = λ a b p q e. ap v (eqb-true (record_number a) (record_number b) e);
      atom = λ t p a. atom_weighs v t a;
      number = written_weighs v closed;
      sum = sum_weighs v;
      negation = negation_weighs v;
      difference = difference_weighs v;
      product = product_weighs v;
    }
