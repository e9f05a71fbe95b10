-- What the loop of `coefficients_gcd` finds (`Found`, `gcd_from-found`): the greatest common divisor of the constant
-- that it starts with and every coefficient, where the coefficients are whole. Where every coefficient is a multiple of
-- a number, the sum of whole numbers of atoms is whole and a multiple of it (`sum-multiple`).
use mathlib.Core.Path.{◌≡◌, refl, sym, ◌∙◌, ap, ap₂}
use mathlib.Core.Bool.{Bool, true, false}
use mathlib.Core.List.{[], ◌∷◌}
use Prim.Native.Nat.{ℕ, ◌∣◌}
use native.Mathlib.Nat.{dvd-mul_left}
use native.Mathlib.Omega.{arith}
use lib.IntN.{ℤ, pos, negsuc, nat_abs, ◌+ℤ◌, ◌*ℤ◌}
use lib.Signed.{quot_z}
use Rattle.numbers.specs.Pair.{eq_z}
use Rattle.numbers.specs.Rational.{Rational, gcd, is_integer}
use Rattle.terms.specs.Term.{Term}
use Rattle.numbers.specs.Choice.{when◌then◌else◌}
use Rattle.terms.specs.Smtlib.{Assignment, value}
use Rattle.numbers.proofs.Integers.{◌⊕◌, ◌⊗◌, 𝟘, 𝟙, ◌≐◌, ◌·◌, ◌and◌, ◌from◌, solveℤ, deriveℤ, nat_abs_*ℤ}
use Rattle.numbers.proofs.Truths.{both}
use Rattle.numbers.proofs.Divisors.{gcd_dvd_left, gcd_dvd_right, gcd-greatest}
use Rattle.numbers.proofs.LowestTerms.{quot_z-mul_cancel}
use Rattle.numbers.proofs.Rationals.{is_integer-whole, eq_z-eq}
use Rattle.numbers.proofs.Quotient.{ℚring, sum, product, ι}
use Rattle.terms.proofs.Sums.{meant}
use Rattle.book.proofs.BookTerms.{Closed}
use Rattle.index_map.specs.IndexMap.{Map}
use Rattle.linear_comb.specs.LinearComb.{at_least_one, gcd_from}
use Rattle.linear_theory.specs.Premises.{whole_coefficients}
use Rattle.rules.proofs.Valuations.{numberℚ, rationals}
use Rattle.rules_theory.proofs.IndexMaps.{total}
use Rattle.linear_theory.proofs.LinearWalk.{atoms}

-- ---- multiples

pub record Multiple (g : ℕ) (z : ℤ) : Type 0 where
  pub factor : ℤ
  pub is : z ≡ factor *ℤ pos g

pub of_one : (z : ℤ) → Multiple 1 z
of_one z = record { factor = z; is = solveℤ (z ∷ []) (λ z. z ≐ z ⊗ 𝟙) tt }

of_itself : (g : ℕ) → Multiple g (pos g)
of_itself g = record { factor = pos 1; is = solveℤ (pos g ∷ []) (λ g. g ≐ 𝟙 ⊗ g) tt }

of_divisor : (g : ℕ) (z : ℤ) → g ∣ nat_abs z → Multiple g z
of_divisor g z h = record { factor = quot_z z (pos g); is = sym (quot_z-mul_cancel z g h) }

divisor_of : (g : ℕ) (z : ℤ) → Multiple g z → g ∣ nat_abs z
divisor_of g z m =
    rw (ap nat_abs m.is ∙ nat_abs_*ℤ m.factor (pos g)) (dvd-mul_left g (nat_abs m.factor))

pub zero-multiple : (g : ℕ) → Multiple g (pos 0)
zero-multiple g = record { factor = pos 0; is = solveℤ (pos g ∷ []) (λ g. 𝟘 ≐ 𝟘 ⊗ g) tt }

pub of_multiple : (g h : ℕ) (z : ℤ) → Multiple g (pos h) → Multiple h z → Multiple g z
of_multiple g h z p q =
    record {
      factor = q.factor *ℤ p.factor;
      is =
          deriveℤ (z ∷ pos h ∷ pos g ∷ q.factor ∷ p.factor ∷ [])
          (λ z h g q p. z ≐ q ⊗ p ⊗ g from 𝟙 · z ≐ q ⊗ h and q · h ≐ p ⊗ g) tt q.is p.is;
    }

of_sum : (g : ℕ) (c z y : ℤ) → Multiple g c → Multiple g y → Multiple g (c *ℤ z +ℤ y)
of_sum g c z y p q =
    record {
      factor = p.factor *ℤ z +ℤ q.factor;
      is =
          deriveℤ (c ∷ z ∷ y ∷ pos g ∷ p.factor ∷ q.factor ∷ [])
          (λ c z y g p q. c ⊗ z ⊕ y ≐ (p ⊗ z ⊕ q) ⊗ g from z · c ≐ p ⊗ g and 𝟙 · y ≐ q ⊗ g) tt p.is q.is;
    }

-- ---- the divisor

-- every coefficient is a multiple of g
abbrev pub EachMultiple : ℕ → Map Term → Type 0
EachMultiple g [] = Unit {0}
EachMultiple g (e ∷ m) = Multiple g e.1.num × EachMultiple g m

pub each_of_one : (m : Map Term) → EachMultiple 1 m
each_of_one [] = tt
each_of_one (e ∷ m) = (of_one e.1.num, each_of_one m)

-- what the loop finds: 1 where a coefficient is not whole, 1 for a negative number alone, or the greatest common
-- divisor, which every common divisor divides; it is 0 where all is 0
pub data Found (r : ℤ) (m : Map Term) : ℤ → Type 0 where
  fraction : whole_coefficients m ≡ false → Found r m (pos 1)
  negative : (n : ℕ) → r ≡ negsuc n → m ≡ [] → Found r m (pos 1)
  greatest :
      (g : ℕ) → whole_coefficients m ≡ true → Multiple g r → EachMultiple g m →
      ((h : ℕ) → Multiple h r → EachMultiple h m → h ∣ g) → Found r m (at_least_one (pos g))

module _ (r : ℤ) (e : Term × Rational) (m : Map Term) where
  stopped : r ≡ pos 1 → Found r (e ∷ m) (pos 1)
  unfolding when◌then◌else◌
  stopped one = go (whole_coefficients (e ∷ m)) refl
    where
      go : (t : Bool) → whole_coefficients (e ∷ m) ≡ t → Found r (e ∷ m) (pos 1)
      go true w =
          greatest 1 w (of_one r) (each_of_one (e ∷ m)) (λ h p q. divisor_of h (pos 1) (rw one at p))
      go false w = fraction w

  abbrev next : ℕ
  next = gcd (nat_abs r) (nat_abs e.1.num)

  gone_on : is_integer e.1 ≡ true → {z : ℤ} → Found (pos next) m z → Found r (e ∷ m) z
  unfolding whole_coefficients
  gone_on i (fraction w) = fraction (rw i w)
  gone_on i (negative n h k) = let z : ◌≡◌ {A = ℕ} 0 1 = cc in absurd (omega arith)
  gone_on i (greatest g w p q top) =
      greatest g (rw i w)
      (of_multiple g next r p (of_divisor next r (gcd_dvd_left (nat_abs r) (nat_abs e.1.num)))) (
        of_multiple g next e.1.num p
            (of_divisor next e.1.num (gcd_dvd_right (nat_abs r) (nat_abs e.1.num))),
        q,
      )
      (λ h a b.
      top h
      (of_divisor h (pos next)
      (gcd-greatest (nat_abs r) (nat_abs e.1.num) h (divisor_of h r a) (divisor_of h e.1.num b.0)))
      b.1)

pub gcd_from-found : (r : ℤ) (m : Map Term) → Found r m (gcd_from r m)
unfolding gcd_from whole_coefficients
gcd_from-found (pos n) [] = greatest n refl (of_itself n) tt (λ h p q. divisor_of h (pos n) p)
gcd_from-found (negsuc n) [] = negative n refl refl
gcd_from-found r (e ∷ m) =
    go (eq_z r (pos 1)) refl (is_integer e.1) refl (gcd_from-found (pos (next r e m)) m)
  where
    go : (s : Bool) → eq_z r (pos 1) ≡ s → (t : Bool) → is_integer e.1 ≡ t →
        Found (pos (next r e m)) m (gcd_from (pos (next r e m)) m) →
        Found r (e ∷ m)
        (elim s as (λ x. ℤ) [
          | true ↦ pos 1
          | false ↦ elim t as (λ x. ℤ) [ true ↦ gcd_from (pos (next r e m)) m | false ↦ pos 1 ]
        ])
    go true one t i d = stopped r e m (eq_z-eq r (pos 1) one)
    go false one false i d = fraction (rw i)
    go false one true i d = gone_on r e m i d

-- ---- the sum

module _ {P : Term → Type 0} (closed : Closed P) (ρ : Assignment) where
  -- every atom's value is whole
  abbrev pub WholeAtoms : Map Term → Type 0
  WholeAtoms [] = Unit {0}
  WholeAtoms (e ∷ m) = ((z : ℤ) × (meant (value ρ e.0) ≡ ι z)) × WholeAtoms m

  pub record WholeSum (g : ℕ) (m : Map Term) : Type 0 where
    pub whole : ℤ
    pub is : total (atoms closed ρ) m ≡ ι whole
    pub multiple : Multiple g whole

  pub sum-multiple : (g : ℕ) (m : Map Term) → WholeAtoms m → whole_coefficients m ≡ true → EachMultiple g m →
      WholeSum g m
  unfolding total whole_coefficients
  sum-multiple g [] v w d =
      record {
        whole = pos 0;
        is = refl;
        multiple = zero-multiple g;
      }
  sum-multiple g (e ∷ m) ((z, h), v) w (d, ds) =
      let b = both (is_integer e.1) (whole_coefficients m) w in
      let s = sum-multiple g m v b.1 ds in
      let c = e.1.num in
      record {
        whole = c *ℤ z +ℤ s.whole;
        is =
            ap₂ sum
            (ap₂ product (ap numberℚ (is_integer-whole e.1 b.0) ∙ rationals.number-whole c) h
            ∙ sym (ℚring.ι-mul c z))
            s.is
            ∙ sym (ℚring.ι-add (c *ℤ z) s.whole);
        multiple = of_sum g c z s.whole d s.multiple;
      }
