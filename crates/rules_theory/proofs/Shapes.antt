-- What the rules' readers of shapes find. Where `unary_err` and `binary_err` answer, the term has that operator and those
-- arguments, and the arguments are terms of P as the term is (`Found`). P is closed: two of its terms that are the same
-- by record number are equal.
--     unary-found, binary-found, negated-found       the options
--     unary_err-found, binary_err-found, asserted       along a rule's steps
--     one_literal       a clause that is answered for has one literal
--     equal-yields       terms that are the same are equal
--     operation_of_lem, is_itself       a shape names the operator and the arguments
--     arguments-formed       the arguments of a well-formed operation are well formed
use mathlib.Core.Path.{◌≡◌, refl, sym, ap, subst}
use mathlib.Core.Bool.{Bool, true, false}
use mathlib.Core.List.{[], ◌∷◌}
use Rattle.std.specs.Prelude.{Option, Some, None}
use Prim.Native.Nat.{ℕ}
use native.Mathlib.Omega.{arith}
use Rattle.terms.specs.Operator.{Not, Equals, GreaterEq}
use Rattle.terms.specs.Term.{Term, Terms, record_number, same, unary, binary}
use Rattle.terms.specs.Term.Term.{op, integer, rational, bitvector, atom}
use Rattle.terms.specs.Term.Terms.{nil, ◌▹◌}
use Rattle.terms.specs.Readers.{as_op, remove_negation}
use Rattle.numbers.proofs.Truths.{both}
use Rattle.terms.proofs.Readings.{by_option, unary-shape, binary-shape}
use Rattle.book.proofs.WellFormed.{WellFormed, AllWellFormed}
use Rattle.book.proofs.BookTerms.{Each, Closed}
use Rattle.rules.specs.Refusal.{Result, ◌>>=◌, assert, or_else}
use Rattle.rules.specs.declared.refusal.Refusal.{Refusal}
use Rattle.std.specs.Prelude.{Ok}
use Rattle.rules.specs.Shapes.{Clause, only_literal, unary_err, binary_err, negated_binary, assert_eq, is_relation}
use Rattle.alethe.specs.Alethe.{Is, Is1, Is2, is, IsRelation, equals, less_than, less_eq, greater_than, greater_eq}
use Rattle.rules.proofs.Yields.{Yields, gives, refuses}
use borrow.Author.Tests.{leb-true, eq-eqb}
use lib.Dec.{leb}
use Rattle.terms.proofs.Operators.{by_number}
use Rattle.rules.specs.declared.refusal.Refusal.TheVariants.{TermOfWrongForm}

pub nothing-found : {A X : Type 0} {a : A} → None ≡ Some a → X
nothing-found e = let z : ◌≡◌ {A = ℕ} 0 1 = cc in absurd (omega arith)

-- a term of a shape is its operation
pub operation_of_lem : {o : ℕ} {ts : Terms} {t : Term} → Is o ts t → as_op t ≡ Some (o, ts)
unfolding as_op
operation_of_lem (is i) = refl

pub is_itself : {i o p : ℕ} {ts us : Terms} → Is o ts (op i p us) → (o ≡ p) × (ts ≡ us)
is_itself (is j) = (refl, refl)

-- ---- results

pub asserted : {P : Unit {0} → Type 0} (t : Bool) (r : Refusal) → (t ≡ true → P tt) → Yields P (assert t r)
unfolding assert
asserted true r h = gives (h refl)
asserted false r h = refuses

pub or_else_lem :
    {A : Type 0} {Q : A → Type 0} (o : Option A) (r : Refusal) → ((a : A) → o ≡ Some a → Q a) →
    Yields Q (or_else o r)
unfolding or_else
or_else_lem (Some a) r h = gives (h a refl)
or_else_lem None r h = refuses

-- a rule that starts with `only_literal` answers for clauses of one literal alone
pub one_literal :
    {A : Type 0} {a : A} (c : Clause) (f : Term → Result A) → (only_literal c >>= f) ≡ Ok a →
    (phi : Term) × (c ≡ phi ∷ [])
unfolding only_literal ◌>>=◌
one_literal [] f e = let z : ◌≡◌ {A = ℕ} 0 1 = cc in absurd (omega arith)
one_literal (t ∷ []) f e = (t, refl)
one_literal (t ∷ u ∷ c) f e = let z : ◌≡◌ {A = ℕ} 0 1 = cc in absurd (omega arith)

-- ---- shapes

pub arguments-formed : {o : ℕ} {ts : Terms} {t : Term} → Is o ts t → WellFormed t → AllWellFormed ts
unfolding WellFormed
arguments-formed (is i) w = w.1

-- t is (o ts), and its arguments are terms of P
pub record Found (P : Term → Type 0) (o : ℕ) (ts : Terms) (t : Term) : Type 0 where
  pub shape : Is o ts t
  pub inside : Each P ts

-- t is (not (o a b)) for the pair of a and b, and these are terms of P
pub record NotFound (P : Term → Type 0) (o : ℕ) (t : Term) (q : Term × Term) : Type 0 where
  pub body : Term
  pub relation : Found P o (q.0 ▹ q.1 ▹ nil) body
  pub negation : Is1 Not body t

module _ {P : Term → Type 0} (closed : Closed P) where
  pub found : (o : ℕ) (ts : Terms) (t : Term) → P t → t ≡ op (record_number t) o ts → Found P o ts t
  found o ts t p e =
      record {
        shape = subst (Is o ts) (sym e) (is (record_number t));
        inside = closed.below (record_number t) o ts (subst P e p);
      }

  pub equal-yields : (a b : Term) → P a → P b → Yields (λ u. a ≡ b) (assert_eq a b)
  unfolding assert_eq
  equal-yields a b p q = asserted (same a b) _ (closed.known a b p q)

  module _ (o : ℕ) (t : Term) (p : P t) where
    pub unary-found : (a : Term) → unary o t ≡ Some a → Found P o (a ▹ nil) t
    unary-found a e = found o (a ▹ nil) t p (unary-shape o t a e)

    pub binary-found : (q : Term × Term) → binary o t ≡ Some q → Found P o (q.0 ▹ q.1 ▹ nil) t
    binary-found q e = found o (q.0 ▹ q.1 ▹ nil) t p (binary-shape o t q e)

    pub unary_err-found : Yields (λ a. Found P o (a ▹ nil) t) (unary_err o t)
    unary_err-found = or_else_lem (unary o t) _ unary-found

    pub binary_err-found : Yields (λ q. Found P o (q.0 ▹ q.1 ▹ nil) t) (binary_err o t)
    binary_err-found = or_else_lem (binary o t) _ binary-found

  module _ (o : ℕ) (t : Term) (p : P t) where
    pub negated-found : (q : Term × Term) → negated_binary o t ≡ Some q → NotFound P o t q
    unfolding negated_binary remove_negation
    negated-found q =
        by_option (unary Not t) (binary o) None (Some q)
        (λ u e f.
        let h = unary-found Not t p u e in
        record { body = u; relation = binary-found o u h.inside.0 q f; negation = h.shape })
        (λ e. nothing-found)

-- ---- relations

pub relation_of_lem : (o : ℕ) → is_relation o ≡ true → IsRelation o
relation_of_lem o e =
    let h = both (leb Equals o) (leb o GreaterEq) e in
    by_number 5 4 IsRelation o (leb-true Equals o h.0) (omega (arith, leb-true o GreaterEq h.1))
    equals less_than less_eq greater_than greater_eq

pub as-op-shape : (t : Term) (q : ℕ × Terms) → as_op t ≡ Some q → t ≡ op (record_number t) q.0 q.1
unfolding as_op
as-op-shape (integer i v) q e = cc
as-op-shape (rational i r) q e = cc
as-op-shape (bitvector i v w) q e = cc
as-op-shape (atom i s n) q e = cc
as-op-shape (op i o ts) q e = let h : ◌≡◌ {A = ℕ × Terms} (o, ts) q = cc in ap (λ (q : ℕ × Terms). op i q.0 q.1) h

-- ---- what the readers answer

pub same_self : (t : Term) → same t t ≡ true
same_self t = eq-eqb (record_number t) (record_number t) refl

pub binary_of : {o : ℕ} {a b t : Term} → Is2 o a b t → binary o t ≡ Some (a, b)
unfolding binary
binary_of {o} (is i) = rw (eq-eqb o o refl, binary)

-- ---- along the steps

pub binary_err_of : {o : ℕ} {a b t : Term} → Is2 o a b t → binary_err o t ≡ Ok (a, b)
unfolding or_else
binary_err_of h = ap (λ o. or_else o TermOfWrongForm) (binary_of h)
