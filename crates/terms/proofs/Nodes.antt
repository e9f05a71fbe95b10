-- The kinds of a record: one that is laid out as a term is of one of five kinds (`laid`), and at each kind its node computes (`node-integer`
-- and so on, for all arguments). What the layout says further of each kind's fields stands with them.
use mathlib.Core.Path.{◌≡◌, refl}
use mathlib.Core.Bool.{Bool, true, false}
use Prim.Native.Nat.{ℕ, ◌^◌}
use borrow.Author.Tests.{eqb-true}
use lib.Dec.{ltb, eqb}
use lib.IntN.{nat_abs}
use Rattle.numbers.specs.Bytes.{Bytes, signed}
use Rattle.numbers.specs.Rational.{gcd}
use Rattle.terms.specs.Term.{Terms}
use Rattle.numbers.specs.Choice.{when◌then◌else◌}
use Rattle.terms.specs.Term.Term.{integer, rational, bitvector, atom, op}
use Rattle.terms.specs.Book.{kind, operator, field1, field2, integer_of, rational_of, is_number, is_width, is_vector}
use Rattle.terms.specs.Book.{atom_sort, node, unused, integer_ok, real_ok, vector_ok, atom_ok, operation_ok, layout_ok}
use Rattle.numbers.proofs.Truths.{both, never}

-- ---- a record's layout

pub data Laid (i : ℕ) (r : Bytes) : Type 0 where
  an_integer : kind r ≡ 1 → integer_ok r ≡ true → Laid i r
  a_rational : kind r ≡ 2 → real_ok r ≡ true → Laid i r
  a_vector : kind r ≡ 3 → vector_ok r ≡ true → Laid i r
  an_atom : kind r ≡ 4 → atom_ok r ≡ true → Laid i r
  an_operation : kind r ≡ 5 → operation_ok i r ≡ true → Laid i r

-- a test that passes does so on one of its two sides
side :
    {A : Type 0} (k n : ℕ) (x y : Bool) → (k ≡ n → x ≡ true → A) → (y ≡ true → A) →
    (when eqb k n then x else y) ≡ true → A
unfolding when◌then◌else◌
side {A} k n x y f g = go (eqb k n) refl
  where
    go : (t : Bool) → eqb k n ≡ t → (when t then x else y) ≡ true → A
    go true p e = f (eqb-true k n p) e
    go false p e = g e

pub laid : (i : ℕ) (r : Bytes) → layout_ok i r ≡ true → Laid i r
unfolding layout_ok
laid i r =
    side (kind r) 1 (integer_ok r) _ an_integer
    (side (kind r) 2 (real_ok r) _ a_rational
    (side (kind r) 3 (vector_ok r) _ a_vector
    (side (kind r) 4 (atom_ok r) _ an_atom (side (kind r) 5 (operation_ok i r) false an_operation never))))

-- ---- the node of a record of each kind

module _ (i : ℕ) (r : Bytes) (ts : Terms) where
  pub node-integer : kind r ≡ 1 → is_number (integer_of r) ≡ true → node i r ts ≡ integer i (signed 8 (field1 r))
  unfolding node when◌then◌else◌
  node-integer k e = rw (k, e)

  pub node-rational : kind r ≡ 2 → is_number (rational_of r) ≡ true → node i r ts ≡ rational i (rational_of r)
  unfolding node when◌then◌else◌
  node-rational k e = rw (k, e)

  pub node-vector : kind r ≡ 3 → is_vector r ≡ true → node i r ts ≡ bitvector i (field1 r) (field2 r)
  unfolding node when◌then◌else◌
  node-vector k e = rw (k, e)

  pub node-atom : kind r ≡ 4 → node i r ts ≡ atom i (atom_sort r) (field1 r)
  unfolding node when◌then◌else◌
  node-atom k = rw k

  pub node-operation : kind r ≡ 5 → node i r ts ≡ op i (operator r) ts
  unfolding node when◌then◌else◌
  node-operation k = rw k

-- ---- what the layout says of the fields

pub integer-number : (r : Bytes) → integer_ok r ≡ true → is_number (integer_of r) ≡ true
integer-number r e = (both (unused 20 r 12) _ (both (unused 3 r 1) _ e).1).1

pub real-number :
    (r : Bytes) → real_ok r ≡ true →
    (is_number (rational_of r) ≡ true) × (eqb (gcd (nat_abs (rational_of r).num) (nat_abs (rational_of r).den)) 1 ≡ true)
real-number r e = both (is_number (rational_of r)) _ (both (unused 12 r 20) _ (both (unused 3 r 1) _ e).1).1

pub vector_fields : (r : Bytes) → vector_ok r ≡ true → is_vector r ≡ true
vector_fields r e = (both (unused 12 r 20) _ (both (unused 3 r 1) _ e).1).1

pub vector-width : (r : Bytes) → vector_ok r ≡ true → is_width (field2 r) ≡ true
vector-width r e = (both (is_width (field2 r)) (ltb (field1 r) (2 ^ field2 r)) (vector_fields r e)).0
