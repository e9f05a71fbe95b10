-- One entry of the loops of `mul`: the definition's answer from what the code reads of it, a monomial's bytes and a
-- number, and from the number that it computes.
use Rattle.std.specs.Prelude.{Some, None, Ok, Err}
use mathlib.Core.Path.{◌≡◌, subst}
use mathlib.Core.Logic.{◌≢◌}
use mathlib.Core.List.{List, [], ◌∷◌, ◌++◌}
use Prim.Native.Nat.{ℕ, suc, ◌+◌, ◌*◌, ◌≤◌, ◌<◌}
use native.Mathlib.Omega.{arith}
use borrow.Author.Tests.{le-leb, lt-leb}
use lib.ListN.{length, get_or, set, take, drop, length-drop}
use lib.Seq.{length-take-le, split_at, get_or-take, get_or-drop}
use Rattle.numbers.specs.Rational.{Rational, mul_q, checked}
use Rattle.numbers.specs.Bytes.{Bytes, number_at}
use Rattle.rules.specs.Refusal.{Result, ◌>>=◌, assert}
use Rattle.rules.specs.declared.refusal.Refusal.TheVariants.{NumberRange, PolynomialSize}
use Rattle.rules.specs.Limits.{limited}
use Rattle.index_map.specs.IndexMap.{Map, combination, insert}
use Rattle.polynomial.specs.Polynomial.{Monomial, monomials, joined, mul_each, mul_left, insert_scaled}
use Rattle.polynomial.specs.Memory.PolynomialArea.{key_at, Key, Held, StackHas, part_at, Stacked, InsertsAt, no_entry}
use Rattle.polynomial.specs.Memory.PolynomialArea.{enter_product, mul_entry, enter_scaled}
use Rattle.index_map.proofs.CheckedNumbers.{times-value, times_out}
use Rattle.polynomial.proofs.AtomPlaces.{key-count}
use Rattle.polynomial.proofs.StoredMonomials.{read-key, read-value}

-- ---- what the functions promise of an answer r and of the bytes w' that they leave

abbrev pub ClearSays : Bytes → ℕ → ℕ → Bytes → Type 0
ClearSays w j n w' =
    (b : Bytes) (ms : List (Map Monomial)) → Stacked b w ms → j < length ms → n ≡ length (get_or ms j []) →
    Stacked b w' (set ms j [])

abbrev pub InsertSays : Bytes → ℕ → ℕ → Bytes → Rational → Bytes → Result ℕ → Type 0
InsertSays w j n key value w' r =
    (b : Bytes) (ms : List (Map Monomial)) (x : Monomial) → Stacked b w ms → j < length ms →
    n ≡ length (get_or ms j []) → Key b key x → (l : ℕ) →
    InsertsAt b w' ms j r (insert monomials (limited l) (get_or ms j []) x value)

abbrev pub ProductSays : Bytes → Bytes → Rational → ℕ → ℕ → Bytes → Result ℕ → Type 0
ProductSays w x c k m w' r =
    (b : Bytes) (p q s : Map Monomial) (y : Monomial) → Stacked b w (p ∷ q ∷ s ∷ []) → k < length q → m ≡ length s →
    Key b x y → (l : ℕ) →
    InsertsAt b w' (p ∷ q ∷ s ∷ []) 2 r (enter_product (limited l) y c (get_or q k no_entry) s)

abbrev pub EachSays : Bytes → Bytes → Rational → ℕ → ℕ → Bytes → Result ℕ → Type 0
EachSays w x c n m w' r =
    (b : Bytes) (p q s : Map Monomial) (y : Monomial) → Stacked b w (p ∷ q ∷ s ∷ []) → n ≡ length q → m ≡ length s →
    Key b x y → (l : ℕ) → InsertsAt b w' (p ∷ q ∷ s ∷ []) 2 r (mul_each (limited l) y c q s)

abbrev pub EntrySays : Bytes → ℕ → ℕ → Rational → ℕ → Bytes → Result ℕ → Type 0
EntrySays w k n constant m w' r =
    (b : Bytes) (p q s : Map Monomial) → Stacked b w (p ∷ q ∷ s ∷ []) → k < length p → n ≡ length q → m ≡ length s →
    (l : ℕ) →
    InsertsAt b w' (p ∷ q ∷ s ∷ []) 2 r (mul_entry (limited l) (get_or p k no_entry) (combination q constant) s)

abbrev pub LeftSays : Bytes → ℕ → ℕ → Rational → Bytes → Result ℕ → Type 0
LeftSays w p n constant w' r =
    (b : Bytes) (u q : Map Monomial) → Stacked b w (u ∷ q ∷ [] ∷ []) → p ≡ length u → n ≡ length q → (l : ℕ) →
    InsertsAt b w' (u ∷ q ∷ [] ∷ []) 2 r (mul_left (limited l) u (combination q constant) [])

abbrev pub ScaledSays : Bytes → ℕ → ℕ → Rational → ℕ → ℕ → Bytes → Result ℕ → Type 0
ScaledSays w j k q t m w' r =
    (b : Bytes) (ms : List (Map Monomial)) → Stacked b w ms → j < length ms → t < length ms → j ≢ t →
    k < length (get_or ms j []) → m ≡ length (get_or ms t []) → (l : ℕ) →
    InsertsAt b w' ms t r (enter_scaled (limited l) (get_or (get_or ms j []) k no_entry) q (get_or ms t []))

abbrev pub AllScaledSays : Bytes → ℕ → ℕ → Rational → ℕ → ℕ → Bytes → Result ℕ → Type 0
AllScaledSays w j n q t m w' r =
    (b : Bytes) (ms : List (Map Monomial)) → Stacked b w ms → j < length ms → t < length ms → j ≢ t →
    n ≡ length (get_or ms j []) → m ≡ length (get_or ms t []) → (l : ℕ) →
    InsertsAt b w' ms t r (insert_scaled (limited l) (get_or ms j []) q (get_or ms t []))

-- ---- reading

pub part_length : (j : ℕ) (w : Bytes) → StackHas j w → length (part_at j w) ≡ 1600
unfolding part_at
part_length j w h =
    let rest = length-drop (1600 * j) w in
    length-take-le 1600 (drop (1600 * j) w) (omega arith)

-- the first byte of a monomial
pub key-byte :
    (w : Bytes) (j k : ℕ) → k < 64 → ((i : ℕ) → get_or w i 0 < 256) → get_or (key_at (part_at j w) k) 0 0 < 256
unfolding key_at part_at
key-byte w j k h known =
    rw (
      get_or-take 17 (drop (25 * k) (take 1600 (drop (1600 * j) w))) 0 0 (omega arith),
      get_or-drop (25 * k) (take 1600 (drop (1600 * j) w)) 0 0,
      get_or-take 1600 (drop (1600 * j) w) (25 * k + 0) 0 (omega arith),
      get_or-drop (1600 * j) w (25 * k + 0) 0,
    )
    (known (1600 * j + (25 * k + 0)))

module _ {b w : Bytes} (q : Map Monomial) (held : Held b w q) (k : ℕ) (h : k < length q) where
  split : Held b w (take k q ++ get_or q k no_entry ∷ drop (suc k) q)
  split = subst (Held b w) (split_at q k no_entry h) held

  size : length (take k q) ≡ k
  size = length-take-le k q (omega arith)

  pub key-there : Key b (key_at w k) (get_or q k no_entry).0
  key-there = rw size at (read-key (take k q) (get_or q k no_entry) (drop (suc k) q) split)

  pub value_there : number_at w (25 * k + 17) ≡ (get_or q k no_entry).1
  value_there = rw size at (read-value (take k q) (get_or q k no_entry) (drop (suc k) q) split)

-- ---- one entry, times a number

module _ (l : ℕ) (e : Monomial × Rational) (q : Rational) {c : Rational} (c-is : c ≡ e.1) (m : Map Monomial) where
  pub scaled_out : checked (mul_q c q) ≡ None → enter_scaled (limited l) e q m ≡ Err NumberRange
  unfolding enter_scaled ◌>>=◌
  scaled_out out = rw (times_out l e.1 q (rw c-is at out))

  pub scaled_value :
      (v : Rational) → checked (mul_q c q) ≡ Some v →
      enter_scaled (limited l) e q m ≡ insert monomials (limited l) m e.0 v
  unfolding enter_scaled ◌>>=◌
  scaled_value v value = rw (times-value l e.1 q v (rw c-is at value))

-- ---- a monomial against an entry

module _
    (l : ℕ) {b x : Bytes} {y : Monomial} (key : Key b x y) (c : Rational) (e : Monomial × Rational) {other : Bytes}
    (key' : Key b other e.0) {d : Rational} (d-is : d ≡ e.1) (m : Map Monomial) where
  atoms : get_or x 0 0 + get_or other 0 0 ≡ length y + length e.0
  atoms = rw (key-count key, key-count key')

  pub product-long : 8 < get_or x 0 0 + get_or other 0 0 → enter_product (limited l) y c e m ≡ Err PolynomialSize
  unfolding enter_product ◌>>=◌ assert
  product-long h = rw (lt-leb (length y + length e.0) 8 (omega (arith, atoms)))

  module _ (short : get_or x 0 0 + get_or other 0 0 ≤ 8) where
    pub product_out : checked (mul_q c d) ≡ None → enter_product (limited l) y c e m ≡ Err NumberRange
    unfolding enter_product ◌>>=◌ assert
    product_out out =
        rw (le-leb (length y + length e.0) 8 (omega (arith, atoms)), times_out l c e.1 (rw d-is at out))

    pub product_value :
        (v : Rational) → checked (mul_q c d) ≡ Some v →
        enter_product (limited l) y c e m ≡ insert monomials (limited l) m (joined y e.0) v
    unfolding enter_product ◌>>=◌ assert
    product_value v value =
        rw (le-leb (length y + length e.0) 8 (omega (arith, atoms)), times-value l c e.1 v (rw d-is at value))

-- ---- an entry against a polynomial

module _
    (l : ℕ) (e : Monomial × Rational) (q : Map Monomial) (constant : Rational) {c : Rational} (c-is : c ≡ e.1)
    (m : Map Monomial) {m1 : Map Monomial} (each : mul_each (limited l) e.0 c q m ≡ Ok m1) where
  pub entry_out :
      checked (mul_q c constant) ≡ None →
      mul_entry (limited l) e (combination q constant) m ≡ Err NumberRange
  unfolding mul_entry ◌>>=◌
  entry_out out = rw (rw c-is at each, times_out l e.1 constant (rw c-is at out))

  pub entry_value :
      (v : Rational) → checked (mul_q c constant) ≡ Some v →
      mul_entry (limited l) e (combination q constant) m ≡ insert monomials (limited l) m1 e.0 v
  unfolding mul_entry ◌>>=◌
  entry_value v value = rw (rw c-is at each, times-value l e.1 constant v (rw c-is at value))
