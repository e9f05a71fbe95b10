-- The conclusion of `poly_simp_rel` over numbers: two operations with the operator of a relation.
--     pairs       two pairs, asked for one after the other or at once
--     operation_law       what is found where an operation is expected
--     sides-steps       the operands of both are found at once
use mathlib.Core.Path.{◌≡◌, refl}
use mathlib.Core.Bool.{Bool, true, false, ◌&&◌, ◌||◌, cond}
use Rattle.std.specs.Prelude.{Option, Some, None, Ok}
use Prim.Native.Nat.{ℕ}
use borrow.Author.Tests.{eq-eqb}
use lib.Dec.{eqb}
use Rattle.terms.specs.Operator.{Equals}
use Rattle.terms.specs.Term.{Term, Terms, binary, two?}
use Rattle.terms.specs.Term.Term.{integer, rational, bitvector, atom, op}
use Rattle.terms.specs.Term.Terms.{nil, ◌▹◌}
use Rattle.terms.specs.Readers.{as_op, operator_of, arguments_of}
use Rattle.rules.specs.Refusal.{Result, ◌>>=◌, assert, or_else}
use Rattle.rules.specs.declared.refusal.Refusal.{Refusal}
use Rattle.rules.specs.declared.refusal.Refusal.TheVariants.{CoeffDifferentSignums, InvalidOperators}
use Rattle.rules.specs.Limits.{op_err}
use Rattle.rules.specs.Shapes.{is_relation, both}
use Rattle.rules.specs.Memory.Parts.{operator_alone}
use Rattle.polynomial_rel.specs.PolySimpRel.{Scaled, assert_sides, operands}
use Rattle.polynomial_rel.specs.Memory.PolynomialRel.{operation_of, sides_case}

-- ---- pairs

pairs :
    {A : Type 0} (r : Refusal) (f : Term × Term → Term × Term → Result A) (m n : Option (Term × Term)) →
    (or_else (both m n) r >>= λ q. f q.0 q.1) ≡ (or_else m r >>= λ x. or_else n r >>= λ y. f x y)
unfolding or_else ◌>>=◌
pairs r f (Some x) (Some y) = refl
pairs r f (Some x) None = refl
pairs r f None n = refl

-- ---- an operation

pub operation_law :
    (t : Term) {o : ℕ} → Ok o ≡ operator_alone (op_err t) → (Ok (operation_of t) ≡ op_err t) × (o ≡ operator_of t)
unfolding as_op op_err or_else ◌>>=◌
operation_law (integer i v) e = cc
operation_law (rational i q) e = cc
operation_law (bitvector i v w) e = cc
operation_law (atom i s n) e = cc
operation_law (op i q ts) e = (refl, cc)

-- ---- operands

no_two : (t : Bool) → ◌≡◌ {A = Option (Term × Term)} None (elim t [ true ↦ None | false ↦ None ])
no_two true = refl
no_two false = refl

-- an operation's two arguments, asked for by its operator
binary_law :
    (o : ℕ) (t : Term) →
    binary o t ≡ (elim (eqb o (operator_of t)) [ true ↦ two? (arguments_of t) | false ↦ None ])
unfolding binary as_op
binary_law o (integer i v) = no_two (eqb o 0)
binary_law o (rational i q) = no_two (eqb o 0)
binary_law o (bitvector i v w) = no_two (eqb o 0)
binary_law o (atom i s n) = no_two (eqb o 0)
binary_law o (op i q ts) = go (eqb o q)
  where
    go :
        (t : Bool) →
        ◌≡◌ {A = Option (Term × Term)}
        (elim (cond t (Some ts) None) [ Some us ↦ two? us | None ↦ None ])
        (elim t [ true ↦ two? ts | false ↦ None ])
    go true = refl
    go false = refl

operands-two : (ts : Terms) → operands ts ≡ or_else (two? ts) InvalidOperators
unfolding or_else
operands-two nil = refl
operands-two (a ▹ nil) = refl
operands-two (a ▹ b ▹ nil) = refl
operands-two (a ▹ b ▹ c ▹ ts) = refl

both_none : (m : Option (Term × Term)) → both m None ≡ None
both_none (Some p) = refl
both_none None = refl

module _ (same : Bool) (p : Scaled) where
  abbrev rest_of_sides : ℕ → Term × Term → Term × Term → Result (Unit {0})
  rest_of_sides o x y = assert (eqb o Equals || same) CoeffDifferentSignums >>= λ u. assert_sides x y p

  abbrev pub found_sides : ℕ → Option (Term × Term) → Option (Term × Term) → Result (Unit {0})
  found_sides o m n =
      assert (is_relation o) InvalidOperators >>= λ u.
      or_else (both m n) InvalidOperators >>= λ q. rest_of_sides o q.0 q.1

  sides_of :
      (o q : ℕ) (ts us : Terms) →
      found_sides o (two? ts) (elim (eqb o q) [ true ↦ two? us | false ↦ None ]) ≡ sides_case same p (o, ts) (q, us)
  unfolding sides_case assert or_else ◌>>=◌
  sides_of o q ts us = go (is_relation o) (eqb o q)
    where
      go :
          (r t : Bool) →
          (assert r InvalidOperators >>= λ u.
          or_else (both (two? ts) (elim t [ true ↦ two? us | false ↦ None ])) InvalidOperators >>= λ q.
          rest_of_sides o q.0 q.1)
          ≡ (assert (r && t) InvalidOperators >>= λ u. operands ts >>= λ x. operands us >>= λ y. rest_of_sides o x y)
      go true true =
          rw (operands-two ts, operands-two us) (pairs InvalidOperators (rest_of_sides o) (two? ts) (two? us))
      go true false = rw (both_none (two? ts))
      go false t = refl

  pub sides-steps :
      (s t : Term) {o : ℕ} → o ≡ operator_of s →
      found_sides o (binary o s) (binary o t) ≡ sides_case same p (operation_of s) (operation_of t)
  sides-steps s t {o} e =
      rw (binary_law o s, binary_law o t, e, eq-eqb (operator_of s) (operator_of s) refl)
      (sides_of (operator_of s) (operator_of t) (arguments_of s) (arguments_of t))
