-- The answers of `look` and of the functions that it calls are the definition's nodes: a lemma for each
-- answer, from what the callees have promised.
use mathlib.Core.Path.{◌≡◌, refl, sym, ◌∙◌, ap}
use mathlib.Core.Bool.{Bool, true, false, ◌&&◌}
use Rattle.std.specs.Prelude.{Some, None, Ok, Err, Option}
use Prim.Native.Nat.{ℕ, suc}
use native.Mathlib.Omega.{arith}
use borrow.Author.Tests.{eqb-true, eq-eqb, ne_eqb}
use lib.Dec.{eqb}
use Rattle.numbers.specs.Rational.{Rational, Proper, Gives, Makes, neg_q, checked, Checked}
use Rattle.numbers.specs.Bytes.{Bytes}
use Rattle.terms.specs.Operator.{Add, Sub, Mult}
use Rattle.terms.specs.Term.{Term, Terms, two?, binary}
use Rattle.numbers.specs.Choice.{when◌then◌else◌}
use Rattle.terms.specs.Term.Term.{integer, rational, bitvector, atom, op}
use Rattle.terms.specs.Term.Terms.{nil, ◌▹◌}
use Rattle.terms.specs.Book.{tree}
use Rattle.terms.specs.Readers.{Finds, Children, found_two, ranged, as_number, as_fraction, as_op, operator_of}
use Rattle.terms.specs.Readers.{arguments_of, reading_refusal, Reading}
use Rattle.terms.proofs.NumberedNodes.{record_number-tree}
use Rattle.terms.proofs.Readings.{binary-shape, plain-fraction}
use Rattle.linear_walk.specs.LinearTerms.{arm_of}
use Rattle.rules.specs.Shapes.{size}
use Rattle.linear_walk.specs.LinearTerms.Arm.{leaf}
use Rattle.linear_walk.specs.Memory.LinearNodes.{NodeIs, NodeProper, read_node, leaf_node}
use Rattle.linear_walk.specs.Memory.LinearNodes.{factors_node, product_node, operation_node, node_of}
use Rattle.rules.specs.declared.refusal.Refusal.{Refusal}
use Rattle.rules.specs.declared.refusal.Refusal.TheVariants.{NumberRange}
use Rattle.std.specs.Option.{ok_or}
use Rattle.rules.specs.Refusal.{Result, ◌>>=◌, or_else}
use Rattle.rules.specs.Limits.{number_or}
use Rattle.rules.proofs.Results.{none-refused, stops, goes_on}
use Rattle.linear_walk.specs.declared.nodes.Node.{Node}
use Rattle.linear_walk.specs.declared.nodes.Node.TheVariants as node
use Rattle.rules.proofs.ArgumentsLeft.{by_operator}

node_is : {r d : Result Node} → NodeProper r → r ≡ d → NodeIs r d
node_is p e = record { is = e; proper = p }

node_of_lem : {r d e : Result Node} → NodeIs r d → d ≡ e → NodeIs r e
node_of_lem n e = node_is n.proper (n.is ∙ e)

-- along the definition's steps: a first step is refused, or goes on
module _ {A : Type 0} {x : Result A} (f : A → Result Node) where
  pub node_stops : {e : Refusal} → Err e ≡ x → NodeIs (Err e) (x >>= f)
  node_stops e = node_is tt (stops f e)

  pub node_then : {a : A} {r : Result Node} → Ok a ≡ x → NodeIs r (f a) → NodeIs r (x >>= f)
  node_then e n = node_of_lem n (goes_on f e refl)

-- ---- factor and constant: the node is made of a product p

module _ (make : Rational → Node) (p : Rational) {a : Checked} (g : Gives a (checked p)) where
  abbrev pub made : Result Node
  made = or_else (checked p) NumberRange >>= λ c. Ok (make c)

  pub scaled-outside : {e : Refusal} → Err e ≡ ok_or a NumberRange → NodeIs (Err e) made
  scaled-outside e = node_stops _ (none-refused (λ (o : Checked). o) a NumberRange g.is refl e)

  pub scaled : {c : Rational} → a ≡ Some c → NodeProper (Ok (make c)) → NodeIs (Ok (make c)) made
  unfolding or_else ◌>>=◌
  scaled e proper = node_is proper (sym (rw (sym g.is ∙ e)))

-- ---- product

module _ (b : Bytes) (x y : ℕ) (coeff : Rational) {p : Reading} (first : Finds p (as_fraction ranged (tree b x))) where
  pub first_refused : {e : Refusal} → Err e ≡ number_or p → NodeIs (Err e) (product_node (tree b x) (tree b y) coeff)
  unfolding product_node
  first_refused e = node_stops _ (e ∙ ap number_or first.is)

  module _
      {u : Option Rational} (read : Ok u ≡ number_or p) {q : Reading}
      (second : Finds q (as_fraction ranged (tree b y))) where
    pub second_refused : {e : Refusal} → Err e ≡ number_or q → NodeIs (Err e) (product_node (tree b x) (tree b y) coeff)
    unfolding product_node
    second_refused e = node_then _ (read ∙ ap number_or first.is) (node_stops _ (e ∙ ap number_or second.is))

    pub both_read :
        {v : Option Rational} {r : Result Node} → Ok v ≡ number_or q → NodeIs r (factors_node u v x y coeff) →
        NodeIs r (product_node (tree b x) (tree b y) coeff)
    unfolding product_node
    both_read e n =
        node_then _ (read ∙ ap number_or first.is)
        (node_then _ (e ∙ ap number_or second.is) (rw (record_number-tree b x, record_number-tree b y) n))

-- ---- look

module _ (t : Term) (coeff : Rational) where
  at_operator : (o : ℕ) → operator_of t ≡ suc o → node_of t coeff ≡ operation_node t (suc o) (arguments_of t) coeff
  unfolding node_of
  at_operator o = by_operator (λ k ts. operation_node t k ts coeff) (leaf_node t coeff) o (as_op t)

  pub sum-node : operator_of t ≡ Add → Proper coeff → NodeIs (Ok (node.Args coeff coeff)) (node_of t coeff)
  unfolding operation_node arm_of when◌then◌else◌
  sum-node e p = node_is (p, p) (sym (at_operator 8 e))

  module _ (e : operator_of t ≡ Sub) {minus : Rational} (m : Makes minus (neg_q coeff)) where
    pub negation-node : size (arguments_of t) ≡ 1 → NodeIs (Ok (node.Args minus minus)) (node_of t coeff)
    unfolding operation_node arm_of when◌then◌else◌
    negation-node n =
        node_is (m.proper, m.proper)
        (sym (at_operator 9 e ∙ rw (eq-eqb (size (arguments_of t)) 1 n, operation_node, m.is)))

    pub difference-node :
        (size (arguments_of t) ≡ 1 → ⊥) → Proper coeff → NodeIs (Ok (node.Args coeff minus)) (node_of t coeff)
    unfolding operation_node arm_of when◌then◌else◌
    difference-node n p =
        node_is (p, m.proper)
        (sym (at_operator 9 e ∙ rw (ne_eqb (size (arguments_of t)) 1 n, operation_node, m.is)))

product-shape :
    (i : ℕ) (a c : Term) (coeff : Rational) → node_of (op i Mult (a ▹ c ▹ nil)) coeff ≡ product_node a c coeff
unfolding node_of operation_node arm_of when◌then◌else◌ as_op
product-shape i a c coeff = refl

-- no pair of arguments
not-two : (ts : Terms) → two? ts ≡ None → eqb (size ts) 2 ≡ false
not-two nil e = refl
not-two (a ▹ nil) e = refl
not-two (a ▹ c ▹ nil) e = cc
not-two (a ▹ c ▹ d ▹ ts) e = ne_eqb (size (a ▹ c ▹ d ▹ ts)) 2 (λ h. omega arith)

leaf_arm :
    (o : ℕ) (ts : Terms) → (o ≡ Add → ⊥) → (o ≡ Sub → ⊥) → (o ≡ Mult → two? ts ≡ None) → arm_of o ts ≡ leaf
unfolding arm_of when◌then◌else◌
leaf_arm o ts f g h = rw (arm_of, ne_eqb o Add f, ne_eqb o Sub g, no_product (eqb o Mult) refl)
  where
    no_product : (t : Bool) → eqb o Mult ≡ t → t && eqb (size ts) 2 ≡ false
    no_product true e = not-two ts (h (eqb-true o Mult e))
    no_product false e = refl

operation-leaf :
    (t : Term) (o : ℕ) (ts : Terms) (coeff : Rational) → arm_of o ts ≡ leaf →
    operation_node t o ts coeff ≡ leaf_node t coeff
unfolding operation_node
operation-leaf t o ts coeff e = rw (e, operation_node)

leaf_of_lem :
    (t : Term) (coeff : Rational) → (operator_of t ≡ Add → ⊥) → (operator_of t ≡ Sub → ⊥) →
    (operator_of t ≡ Mult → binary Mult t ≡ None) → node_of t coeff ≡ leaf_node t coeff
unfolding node_of as_op binary
leaf_of_lem (integer i v) coeff f g h = refl
leaf_of_lem (rational i q) coeff f g h = refl
leaf_of_lem (bitvector i v w) coeff f g h = refl
leaf_of_lem (atom i s n) coeff f g h = refl
leaf_of_lem (op i o ts) coeff f g h =
    operation-leaf (op i o ts) o ts coeff
    (leaf_arm o ts f g (λ k. sym (rw (eq-eqb Mult o (sym k), binary)) ∙ h k))

module _ (b : Bytes) (i : ℕ) (coeff : Rational) {w : Option (ℕ × ℕ)} (c : Children b i w (binary Mult (tree b i))) where
  pub product-node :
      {x y : ℕ} {r : Result Node} → w ≡ Some (x, y) → NodeIs r (product_node (tree b x) (tree b y) coeff) →
      NodeIs r (node_of (tree b i) coeff)
  product-node {x} {y} e n =
      let there-are : binary Mult (tree b i) ≡ Some (tree b x, tree b y) = sym c.is ∙ ap (found_two b) e in
      let shape = binary-shape Mult (tree b i) (tree b x, tree b y) there-are in
      node_of_lem n (sym (ap (λ (t : Term). node_of t coeff) shape ∙ product-shape _ (tree b x) (tree b y) coeff))

  pub other-product-node :
      {r : Result Node} → operator_of (tree b i) ≡ Mult → w ≡ None → NodeIs r (leaf_node (tree b i) coeff) →
      NodeIs r (node_of (tree b i) coeff)
  other-product-node o e n =
      node_of_lem n
      (sym (leaf_of_lem (tree b i) coeff (λ h. omega arith) (λ h. omega arith) (λ h. sym c.is ∙ ap (found_two b) e)))

-- a leaf is read as a fraction
pub read-leaf :
    (t : Term) (coeff : Rational) {x : Reading} {r : Result Node} → Finds x (as_fraction ranged t) →
    NodeIs r (read_node coeff x) → NodeIs r (leaf_node t coeff)
unfolding leaf_node
read-leaf t coeff f n = node_of_lem n (ap (read_node coeff) f.is)

pub leaf-node :
    (t : Term) (coeff : Rational) {r : Result Node} → (operator_of t ≡ Add → ⊥) → (operator_of t ≡ Sub → ⊥) →
    (operator_of t ≡ Mult → ⊥) → NodeIs r (leaf_node t coeff) → NodeIs r (node_of t coeff)
leaf-node t coeff f g h n = node_of_lem n (sym (leaf_of_lem t coeff f g (λ e. absurd (h e))))

-- what is no operation is read as it stands
pub plain-node :
    (t : Term) (coeff : Rational) {x : Reading} {r : Result Node} → operator_of t ≡ 0 → Finds x (as_number t) →
    NodeIs r (read_node coeff x) → NodeIs r (node_of t coeff)
plain-node t coeff e f n =
    let same = f.is ∙ sym (plain-fraction ranged t e) in
    leaf-node t coeff (λ h. omega arith) (λ h. omega arith) (λ h. omega arith)
    (read-leaf t coeff (record { is = same; number = ap reading_refusal same; proper = f.proper }) n)
