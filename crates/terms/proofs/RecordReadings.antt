-- What the readers of terms find in a record, for all bytes. `node_is` goes through the tests of `node` once
-- and tells the five kinds of term apart; what `as_number`, `as_bitvector`, `as_op` and `args_of` find follows by
-- cases. At the end stands the term of a record of the book, and what the readers find in it.
use mathlib.Core.Path.{◌≡◌, refl, sym, ◌∙◌, ap, subst}
use mathlib.Core.Bool.{Bool, true, false, ◌&&◌, cond}
use Rattle.std.specs.Prelude.{Some, None}
use Prim.Native.Nat.{ℕ}
use native.Mathlib.Omega.{arith}
use borrow.Author.Tests.{eqb-true, eqb-false, eq-eqb, ne_eqb}
use lib.Dec.{eqb}
use lib.IntN.{ℤ, pos}
use Rattle.numbers.specs.Bytes.{Bytes, signed}
use Rattle.numbers.specs.Rational.{Rational, frac, in_range}
use Rattle.terms.specs.Term.{Term, Terms, args_of}
use Rattle.numbers.specs.Choice.{when◌then◌else◌}
use Rattle.terms.specs.Term.Term.{integer, rational, bitvector, atom, op}
use Rattle.terms.specs.Term.Terms.{nil}
use Rattle.terms.specs.Book.{record_of, kind, operator, field1, field2, integer_of, rational_of, is_number, is_vector}
use Rattle.terms.specs.Book.{atom_sort, arg_bytes, numbers, arguments, node, forest, tree}
use Rattle.terms.specs.Readers.{as_number, as_bitvector, as_op, arguments_of}
use Rattle.numbers.proofs.Truths.{if_either}
use Rattle.numbers.proofs.LittleEndian.{cond_either}
use Rattle.terms.proofs.Trees.{tree-node}
use Rattle.terms.specs.Readers.{Reading}
use Rattle.std.specs.Prelude.{Ok, Err}
use Rattle.terms.specs.declared.term.NotRead.TheVariants.{NotNumber}

-- ---- the five kinds of term

-- the term of record i with bytes r and arguments ts, and the tests that make it that
pub data Node (i : ℕ) (r : Bytes) (ts : Terms) : Term → Type 0 where
  an_integer : kind r ≡ 1 → is_number (integer_of r) ≡ true → Node i r ts (integer i (signed 8 (field1 r)))
  a_rational : kind r ≡ 2 → is_number (rational_of r) ≡ true → Node i r ts (rational i (rational_of r))
  a_bitvector : kind r ≡ 3 → is_vector r ≡ true → Node i r ts (bitvector i (field1 r) (field2 r))
  an_operation : kind r ≡ 5 → Node i r ts (op i (operator r) ts)
  an_atom :
      (kind r ≡ 1 → is_number (integer_of r) ≡ false) → (kind r ≡ 2 → is_number (rational_of r) ≡ false) →
      (kind r ≡ 3 → is_vector r ≡ false) → (kind r ≡ 5 → ⊥) → Node i r ts (atom i (atom_sort r) (field1 r))

-- a choice by the test of a kind and of one thing more
of_kind :
    {A : Type 0} (P : A → Type 0) (k n : ℕ) (t : Bool) {x y : A} → (k ≡ n → t ≡ true → P x) →
    ((k ≡ n → t ≡ false) → P y) → P (when eqb k n && t then x else y)
unfolding when◌then◌else◌
of_kind P k n t {x} {y} first second = go (eqb k n) t refl refl
  where
    go : (e u : Bool) → eqb k n ≡ e → t ≡ u → P (when e && u then x else y)
    go true true p q = first (eqb-true k n p) q
    go true false p q = second (λ s. q)
    go false u p q = second (λ s. absurd (eqb-false k n p s))

pub node_is : (i : ℕ) (r : Bytes) (ts : Terms) → Node i r ts (node i r ts)
unfolding node
node_is i r ts =
    of_kind (Node i r ts) (kind r) 1 (is_number (integer_of r)) an_integer
    (λ a.
    of_kind (Node i r ts) (kind r) 2 (is_number (rational_of r)) a_rational
    (λ b.
    of_kind (Node i r ts) (kind r) 3 (is_vector r) a_bitvector
    (λ c.
    if_either (Node i r ts) (eqb (kind r) 5)
    (λ e. an_operation (eqb-true (kind r) 5 e))
    (λ e. an_atom a b c (eqb-false (kind r) 5 e)))))

not-both : (k n : ℕ) (t : Bool) → (k ≡ n → t ≡ false) → eqb k n && t ≡ false
not-both k n t h = go (eqb k n) refl
  where
    go : (e : Bool) → eqb k n ≡ e → e && t ≡ false
    go true p = h (eqb-true k n p)
    go false p = refl

and-false : (t : Bool) → t && false ≡ false
and-false true = refl
and-false false = refl

-- ---- numbers

-- the bytes of a constant as a number; other bytes have the denominator 0, which is no number's
abbrev pub denominator : Bytes → ℤ
denominator r = cond (eqb (kind r) 1) (pos 1) (cond (eqb (kind r) 2) (signed 8 (field2 r)) (pos 0))

abbrev pub constant_of : Bytes → Rational
constant_of r = frac (signed 8 (field1 r)) (denominator r)

abbrev pub if_number : Rational → Reading
if_number q = cond (is_number q) (Ok q) (Err NotNumber)

module _ (r : Bytes) where
  pub denominator-integer : kind r ≡ 1 → denominator r ≡ pos 1
  denominator-integer k = rw (eq-eqb (kind r) 1 k)

  pub denominator-rational : kind r ≡ 2 → denominator r ≡ signed 8 (field2 r)
  denominator-rational k = rw k

  pub denominator-other : (kind r ≡ 1 → ⊥) → (kind r ≡ 2 → ⊥) → denominator r ≡ pos 0
  denominator-other a b = rw (ne_eqb (kind r) 1 a, ne_eqb (kind r) 2 b)

  -- the bytes of neither kind of constant
  not-number :
      (kind r ≡ 1 → is_number (integer_of r) ≡ false) → (kind r ≡ 2 → is_number (rational_of r) ≡ false) →
      Err NotNumber ≡ if_number (constant_of r)
  not-number a b = rw refused
    where
      refused : is_number (constant_of r) ≡ false
      refused =
          let P : ℤ → Type 0 = λ d. is_number (frac (signed 8 (field1 r)) d) ≡ false in
          cond_either P (eqb (kind r) 1) (pos 1) _ (λ e. a (eqb-true (kind r) 1 e))
          (λ s.
          cond_either P (eqb (kind r) 2) _ (pos 0) (λ e. b (eqb-true (kind r) 2 e))
          (λ u. and-false (in_range (frac (signed 8 (field1 r)) (pos 0)))))

  pub as_number_of : {i : ℕ} {ts : Terms} {t : Term} → Node i r ts t → as_number t ≡ if_number (constant_of r)
  unfolding as_number
  as_number_of (an_integer k t) = rw (denominator-integer k, t)
  as_number_of (a_rational k t) = rw (denominator-rational k, t)
  as_number_of (a_bitvector k t) = not-number (λ h. absurd (omega arith)) (λ h. absurd (omega arith))
  as_number_of (an_operation k) = not-number (λ h. absurd (omega arith)) (λ h. absurd (omega arith))
  as_number_of (an_atom a b c d) = not-number a b

  pub no_number_of :
      {i : ℕ} {ts : Terms} {t : Term} → Node i r ts t → (kind r ≡ 1 → ⊥) → (kind r ≡ 2 → ⊥) → Err NotNumber ≡ as_number t
  no_number_of n a b = not-number (λ k. absurd (a k)) (λ k. absurd (b k)) ∙ sym (as_number_of n)

  -- ---- bit-vectors and operations

  pub as_bitvector_of :
      {i : ℕ} {ts : Terms} {t : Term} → Node i r ts t →
      as_bitvector t ≡ cond (eqb (kind r) 3 && is_vector r) (Some ((field1 r), (field2 r))) None
  unfolding as_bitvector
  as_bitvector_of (an_integer k t) = rw k
  as_bitvector_of (a_rational k t) = rw k
  as_bitvector_of (a_bitvector k t) = rw (k, t)
  as_bitvector_of (an_operation k) = rw k
  as_bitvector_of (an_atom a b c d) = rw (not-both (kind r) 3 (is_vector r) c)

  pub as_op_of :
      {i : ℕ} {ts : Terms} {t : Term} → Node i r ts t →
      as_op t ≡ cond (eqb (kind r) 5) (Some (operator r, ts)) None
  unfolding as_op
  as_op_of (an_integer k t) = rw k
  as_op_of (a_rational k t) = rw k
  as_op_of (a_bitvector k t) = rw k
  as_op_of (an_operation k) = rw k
  as_op_of (an_atom a b c d) = rw (ne_eqb (kind r) 5 d)

  pub args_of_of :
      (o : ℕ) {i : ℕ} {ts : Terms} {t : Term} → Node i r ts t →
      args_of o t ≡ cond (eqb (kind r) 5 && eqb o (operator r)) (Some ts) None
  args_of_of o (an_integer k t) = rw k
  args_of_of o (a_rational k t) = rw k
  args_of_of o (a_bitvector k t) = rw k
  args_of_of o (an_operation k) = rw k
  args_of_of o (an_atom a b c d) = rw (ne_eqb (kind r) 5 d)

-- ---- the readers at a record of the book, with the bytes r

-- the arguments' terms
abbrev pub below : Bytes → ℕ → Bytes → Terms
below b i r = forest (tree b) (arguments i (numbers (arg_bytes r)))

module _ (b : Bytes) (i : ℕ) {r : Bytes} (r-is : r ≡ record_of b i) where
  pub record_node : Node i r (below b i r) (tree b i)
  record_node =
      subst (λ (t : Term). Node i r (below b i r) t)
      (sym (tree-node b i ∙ ap (λ (s : Bytes). node i s (below b i s)) (sym r-is)))
      (node_is i r (below b i r))

  pub as_number_record : as_number (tree b i) ≡ as_number (node 0 r nil)
  as_number_record = as_number_of r record_node ∙ sym (as_number_of r (node_is 0 r nil))

  pub vector-found : kind r ≡ 3 → is_vector r ≡ true → as_bitvector (tree b i) ≡ Some ((field1 r), (field2 r))
  vector-found k t = as_bitvector_of r record_node ∙ rw (k, t)

  pub no_vector : (kind r ≡ 3 → is_vector r ≡ false) → as_bitvector (tree b i) ≡ None
  no_vector h = as_bitvector_of r record_node ∙ rw (not-both (kind r) 3 (is_vector r) h)

  pub as_op_record : kind r ≡ 5 → as_op (tree b i) ≡ Some (operator r, below b i r)
  as_op_record k = as_op_of r record_node ∙ rw k

  pub as_op-other : (kind r ≡ 5 → ⊥) → as_op (tree b i) ≡ None
  as_op-other h = as_op_of r record_node ∙ rw (ne_eqb (kind r) 5 h)

  pub arguments_of_record : arguments_of (tree b i) ≡ below b i r
  unfolding forest arguments numbers
  arguments_of_record = go (eqb (kind r) 5) refl
    where
      go : (t : Bool) → eqb (kind r) 5 ≡ t → arguments_of (tree b i) ≡ below b i r
      go true e = rw (as_op_record (eqb-true (kind r) 5 e), arguments_of)
      go false e = rw (as_op-other (eqb-false (kind r) 5 e), arguments_of, e)
