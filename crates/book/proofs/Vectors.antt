-- Well-formed terms of a bit-vector sort: the width is at least 1 (`width_positive`), an operation is one
-- of the four operators on bit-vectors (`by_vector-operator`), its arguments have its sort
-- (`argument-sort`), it counts modulo 2^width (`width_is`), and its value is a number below 2^width
-- (`vector-value`).
use mathlib.Core.Path.{◌≡◌, refl, sym, ◌∙◌, ap, subst}
use mathlib.Core.List.{List}
use mathlib.Core.Bool.{Bool, true, false}
use Prim.Native.Nat.{ℕ, ◌+◌, ◌%◌, ◌^◌, ◌≤◌, ◌<◌}
use native.Mathlib.Nat.{mod-lt}
use native.Mathlib.Omega.{arith}
use borrow.Author.Tests.{eqb-true}
use lib.IntN.{ℤ}
use Rattle.terms.specs.Operator.{BvAdd, BvSub, BvNeg, BvMul}
use Rattle.terms.specs.Term.{Sort, Term, Terms, sort, sorts, same_sort, is_bits, all, first, gives}
use Rattle.numbers.specs.Choice.{when◌then◌else◌}
use Rattle.terms.specs.Term.Sort.{bool, int, real, bits}
use Rattle.terms.specs.Term.Term.{integer, rational, bitvector, atom, op}
use Rattle.terms.specs.Term.Terms.{nil, ◌▹◌}
use Rattle.numbers.specs.Rational.{modulo}
use Rattle.terms.specs.Smtlib.{Meant, vector, Assignment, as_vector, width_of, sum_z, difference_z, opposite_z}
use Rattle.terms.specs.Smtlib.{product_z, meaning, value, values}
use Rattle.numbers.proofs.Truths.{never}
use Rattle.numbers.proofs.Modulo.{Cong, two_pow_pos, modulo_lt, eq_of_cong_of_lt}
use Rattle.terms.proofs.Operators.{by_operator}
use Rattle.book.proofs.WellFormed.{WellFormed, AllWellFormed, AtomSort, Operation}

-- ---- the operators

pub not_vector : {A : Type 0} {w : ℕ} (s : Sort) → is_bits s ≡ false → s ≡ bits w → A
not_vector s e h = never (sym e ∙ ap is_bits h)

number-sort : (t : Bool) → is_bits (when t then int else real) ≡ false
unfolding when◌then◌else◌
number-sort true = refl
number-sort false = refl

pub by_vector-operator :
    {w : ℕ} (P : ℕ → Type 0) (o : ℕ) (ts : Terms) → Operation o (sorts ts) → gives o (sorts ts) ≡ bits w →
    P BvAdd → P BvSub → P BvNeg → P BvMul → P o
unfolding gives when◌then◌else◌
by_vector-operator {w} P o ts h e add sub neg mul =
    by_operator (λ o. gives o (sorts ts) ≡ bits w → P o) o h.least h.most
    truth truth truth truth truth truth truth truth number number number
    (not_vector int refl) (not_vector real refl) (not_vector real refl)
    (λ e. add) (λ e. sub) (λ e. neg) (λ e. mul) e
  where
    truth : {A : Type 0} → bool ≡ bits w → A
    truth = not_vector bool refl

    number : {A : Type 0} → (when all (same_sort int) (sorts ts) then int else real) ≡ bits w → A
    number = not_vector _ (number-sort (all (same_sort int) (sorts ts)))

-- ---- the width

atom-width : (s : Sort) (w : ℕ) → AtomSort s → s ≡ bits w → 1 ≤ w
atom-width bool w h e = not_vector bool refl e
atom-width int w h e = not_vector int refl e
atom-width real w h e = not_vector real refl e
atom-width (bits v) w h e = let k : v ≡ w = cc in omega (arith, h.least)

mutual
  unfolding WellFormed sort gives when◌then◌else◌

  pub width_positive : (t : Term) → WellFormed t → (w : ℕ) → sort t ≡ bits w → 1 ≤ w
  width_positive (integer i v) h w e = not_vector int refl e
  width_positive (rational i q) h w e = not_vector real refl e
  width_positive (bitvector i v n) h w e = let k : n ≡ w = cc in omega (arith, h.width.least)
  width_positive (atom i s n) h w e = atom-width s w h e
  width_positive (op i o ts) h w e =
      let below : first (sorts ts) ≡ bits w → 1 ≤ w = λ k. first_width ts h.1 w k in
      by_vector-operator (λ o. gives o (sorts ts) ≡ bits w → 1 ≤ w) o ts h.0 e below below below below e

  first_width : (ts : Terms) → AllWellFormed ts → (w : ℕ) → first (sorts ts) ≡ bits w → 1 ≤ w
  first_width nil h w e = not_vector bool refl e
  first_width (t ▹ ts) h w e = width_positive t h.0 w e

module _ (w : ℕ) where
  pub width_is : (ts : Terms) → first (sorts ts) ≡ bits w → width_of ts ≡ w
  unfolding sorts
  width_is nil e = not_vector bool refl e
  width_is (t ▹ ts) e = ap (λ (s : Sort). elim s as (λ x. ℕ) [ bool ↦ 0 | int ↦ 0 | real ↦ 0 | bits w ↦ w ]) e

  pub argument-sort : 1 ≤ w → (s : Sort) → same_sort (bits w) s ≡ true → s ≡ bits w
  argument-sort h bool e = absurd (omega (arith, eqb-true (3 + w) 1 e))
  argument-sort h int e = absurd (omega (arith, eqb-true (3 + w) 2 e))
  argument-sort h real e = absurd (omega (arith, eqb-true (3 + w) 3 e))
  argument-sort h (bits v) e = ap bits (omega (arith, eqb-true (3 + w) (3 + v) e))

-- ---- the value

-- v is a bit-vector of w bits
pub record IsBits (w : ℕ) (v : Meant) : Type 0 where
  pub bits_of : ℕ
  pub is : v ≡ vector bits_of
  pub below : bits_of < 2 ^ w

pub vector-value :
    (t : Term) → WellFormed t → (w : ℕ) → sort t ≡ bits w → (ρ : Assignment) → IsBits w (value ρ t)
unfolding WellFormed sort value gives meaning when◌then◌else◌
vector-value (integer i v) h w e ρ = not_vector int refl e
vector-value (rational i q) h w e ρ = not_vector real refl e
vector-value (bitvector i v n) h w e ρ =
    let k : n ≡ w = cc in
    record { bits_of = v; is = refl; below = subst (λ (w : ℕ). v < 2 ^ w) k h.below }
vector-value (atom i s n) h w e ρ =
    let v = ρ.vectors i in
    rw e (record { bits_of = v % 2 ^ w; is = refl; below = mod-lt v (two_pow_pos w) })
vector-value (op i o ts) h w e ρ =
    by_vector-operator (λ o. gives o (sorts ts) ≡ bits w → IsBits w (value ρ (op i o ts))) o ts h.0 e
    (remainder (sum_z vs))
    (remainder (difference_z vs)) (remainder (opposite_z vs)) (remainder (product_z vs)) e
  where
    vs : List Meant
    vs = values ρ ts

    remainder : (z : ℤ) → first (sorts ts) ≡ bits w → IsBits w (vector (modulo z (2 ^ width_of ts)))
    remainder z e =
        record {
          bits_of = modulo z (2 ^ width_of ts);
          is = refl;
          below = rw (width_is w ts e) (modulo_lt (2 ^ w) (two_pow_pos w) z);
        }

pub equal-vectors :
    (w : ℕ) {u v : Meant} → IsBits w u → IsBits w v → Cong (2 ^ w) (as_vector u) (as_vector v) → u ≡ v
equal-vectors w x y c =
    x.is
    ∙ ap vector (eq_of_cong_of_lt (2 ^ w) (two_pow_pos w) x.below y.below (rw (x.is, y.is) at c))
    ∙ sym y.is
