-- The walk at one term, by the term's node: `add_term` makes a visit and then does what the node says
-- (`walk-node`). Where a record is laid out as a term, a factor that the walk goes on to has a smaller
-- number (`factor-below`).
use mathlib.Core.Path.{◌≡◌, refl, sym, ap, subst}
use mathlib.Core.Bool.{Bool, true, false, ◌&&◌}
use Rattle.std.specs.Prelude.{Option, Some, None, Ok, Err}
use Prim.Native.Nat.{ℕ, ◌<◌}
use native.Mathlib.Omega.{arith}
use borrow.Author.Tests.{eqb-true}
use lib.Dec.{eqb}
use Rattle.numbers.specs.Rational.{Rational, mul_q, neg_q, checked}
use Rattle.numbers.specs.Bytes.{Bytes}
use Rattle.terms.specs.Operator.{Add, Sub, Mult}
use Rattle.terms.specs.Term.{Term, Terms, record_number, two?}
use Rattle.numbers.specs.Choice.{when◌then◌else◌}
use Rattle.terms.specs.Term.Term.{integer, rational, bitvector, atom, op}
use Rattle.terms.specs.Term.Terms.{nil, ◌▹◌}
use Rattle.terms.specs.Book.{record_of, tree, layout_ok}
use Rattle.terms.specs.Readers.{ranged, as_fraction, as_op, arguments_of}
use Rattle.book.proofs.BookTerms.{Each}
use Rattle.terms.proofs.RecordReadings.{arguments_of_record}
use Rattle.rules.specs.Refusal.{Result, ◌>>=◌, or_else}
use Rattle.rules.specs.declared.refusal.Refusal.TheVariants.{NumberRange}
use Rattle.rules.specs.Limits.{Limits, limited, number_or, times, fraction_of}
use Rattle.index_map.specs.IndexMap.{Walked, visit, add_entry, add_constant}
use Rattle.linear_walk.specs.LinearTerms.{Arm, arm_of, chosen, factors_of, add_leaf, add_term, add_args, add_difference}
use Rattle.linear_walk.specs.LinearTerms.{add_first, add_second}
use Rattle.index_map.specs.Memory.Entries.{terms}
use Rattle.rules.specs.Shapes.{size}
use Rattle.linear_walk.specs.LinearTerms.Arm.{sum, negation, difference, product, leaf}
use Rattle.linear_walk.specs.LinearTerms.Factors.{first_is, second_is, neither_is}
use Rattle.linear_walk.specs.Memory.LinearNodes.{constant_node, leaf_node, factor_node}
use Rattle.linear_walk.specs.Memory.LinearNodes.{factors_node, product_node, operation_node, node_of, add_each}
use Rattle.rules.proofs.Results.{bind-same}
use Rattle.rules.proofs.Yields.{Yields, past, at_ok}
use Rattle.rules.proofs.Yields.Yields.{gives}
use Rattle.linear_walk.specs.declared.nodes.Node.{Node}
use Rattle.linear_walk.specs.declared.nodes.Node.TheVariants as node
use Rattle.book.proofs.ArgumentsBelow.{Below, Own, arguments-below, forest-own}
use Rattle.index_map.proofs.CheckedNumbers.{on_product}

-- what the walk does at a node of the term t, after the visit
abbrev pub act : Bytes → Limits → Term → Rational → Result Node → Walked Term → Result (Walked Term)
act b l t coeff (Ok (node.Args p q)) w = add_each (arguments_of t) l p q w
act b l t coeff (Ok (node.Factor x c)) w = add_term (tree b x) l c w
act b l t coeff (Ok (node.Constant q)) w = add_constant l q w
act b l t coeff (Ok node.Atom) w = add_entry terms l t coeff w
act b l t coeff (Err r) w = Err r

-- ---- the definition's cases, by their names

-- a product's node, by its arguments
abbrev pair_node : Terms → Rational → Result Node
pair_node ts coeff = elim (two? ts) [ Some p ↦ product_node p.0 p.1 coeff | None ↦ Ok node.Atom ]

-- an operation's node, by its arm
abbrev arm_node : Term → Terms → Rational → Arm → Result Node
arm_node t ts coeff m = elim m [
  | sum ↦ Ok (node.Args coeff coeff)
  | negation ↦ Ok (node.Args (neg_q coeff) (neg_q coeff))
  | difference ↦ Ok (node.Args coeff (neg_q coeff))
  | product ↦ pair_node ts coeff
  | leaf ↦ leaf_node t coeff
]

-- all arguments are walked with one coefficient
pub args-each :
    (ts : Terms) (l : Limits) (coeff : Rational) (w : Walked Term) →
    add_args ts l coeff w ≡ add_each ts l coeff coeff w
unfolding add_term add_each
args-each nil l coeff w = refl
args-each (t ▹ ts) l coeff w = refl

difference-each :
    (ts : Terms) (l : Limits) (coeff : Rational) (w : Walked Term) →
    add_difference ts l coeff w ≡ add_each ts l coeff (neg_q coeff) w
unfolding add_term add_each
difference-each nil l coeff w = refl
difference-each (t ▹ ts) l coeff w = refl

product-size : (o : ℕ) (ts : Terms) → arm_of o ts ≡ product → eqb (size ts) 2 ≡ true
unfolding arm_of when◌then◌else◌
product-size o ts = go (eqb o Add) (eqb o Sub) (eqb (size ts) 1) (eqb o Mult) (eqb (size ts) 2)
  where
    go :
        (a s n m k : Bool) →
        (when a then sum else
        when s then (when n then negation else difference) else
        when m && k then product else leaf)
        ≡ product →
        k ≡ true
    go true s n m k e = cc
    go false true true m k e = cc
    go false true false m k e = cc
    go false false n true true e = refl
    go false false n true false e = cc
    go false false n false k e = cc

module _ (b : Bytes) (n : ℕ) (t : Term) (coeff : Rational) (w : Walked Term) where
  leaf-walk : add_leaf (limited n) t coeff w ≡ act b (limited n) t coeff (leaf_node t coeff) w
  unfolding add_leaf leaf_node fraction_of or_else ◌>>=◌
  leaf-walk = go (number_or (as_fraction ranged t))
    where
      go :
          (r : Result (Option Rational)) →
          (r >>= elim [
            | Some q ↦ times (limited n) q coeff >>= λ r. add_constant (limited n) r w
            | None ↦ add_entry terms (limited n) t coeff w
          ])
          ≡ act b (limited n) t coeff
          (r >>= elim [ Some q ↦ constant_node (checked (mul_q q coeff)) | None ↦ Ok node.Atom ]) w
      go (Ok (Some q)) =
          on_product n q coeff (λ r. add_constant (limited n) r w) (λ r. act b (limited n) t coeff (constant_node r) w)
          (λ q. refl) refl
      go (Ok None) = refl
      go (Err r) = refl

  -- a factor that is a number, and the term u that it scales
  factor-walk :
      (q : Rational) (u : Term) → Own b u →
      (times (limited n) q coeff >>= λ c. add_term u (limited n) c w)
      ≡ act b (limited n) t coeff (factor_node (record_number u) q coeff) w
  unfolding factor_node or_else ◌>>=◌
  factor-walk q u own =
      on_product n q coeff (λ c. add_term u (limited n) c w)
      (λ r. act b (limited n) t coeff (or_else r NumberRange >>= λ c. Ok (node.Factor (record_number u) c)) w)
      (λ c. ap (λ (v : Term). add_term v (limited n) c w) (sym own)) refl

  product-walk :
      (ts : Terms) → eqb (size ts) 2 ≡ true → Each (Own b) ts →
      (factors_of (limited n) ts >>= elim [
        | first_is q ↦ times (limited n) q coeff >>= λ c. add_second ts (limited n) c w
        | second_is q ↦ times (limited n) q coeff >>= λ c. add_first ts (limited n) c w
        | neither_is ↦ add_entry terms (limited n) t coeff w
      ])
      ≡ act b (limited n) t coeff (pair_node ts coeff) w
  unfolding factors_of product_node fraction_of ◌>>=◌ add_term
  product-walk nil e own = refl
  product-walk (x ▹ nil) e own = refl
  product-walk (x ▹ y ▹ z ▹ ts) e own = absurd (omega (arith, eqb-true (size (x ▹ y ▹ z ▹ ts)) 2 e))
  product-walk (x ▹ y ▹ nil) e own = go (number_or (as_fraction ranged x)) (number_or (as_fraction ranged y))
    where
      go :
          (p q : Result (Option Rational)) →
          ((p >>= λ p. q >>= λ q. Ok (chosen p q)) >>= elim [
            | first_is q ↦ times (limited n) q coeff >>= λ c. add_term y (limited n) c w
            | second_is q ↦ times (limited n) q coeff >>= λ c. add_term x (limited n) c w
            | neither_is ↦ add_entry terms (limited n) t coeff w
          ])
          ≡ act b (limited n) t coeff
          (p >>= λ p. q >>= λ q. factors_node p q (record_number x) (record_number y) coeff) w
      go (Err r) q = refl
      go (Ok p) (Err r) = refl
      go (Ok (Some p)) (Ok q) = factor-walk p y own.1.0
      go (Ok None) (Ok (Some q)) = factor-walk q x own.0
      go (Ok None) (Ok None) = refl

-- ---- the walk

module _ (b : Bytes) (n : ℕ) (coeff : Rational) (w : Walked Term) where
  term-walk :
      (t : Term) → Each (Own b) (arguments_of t) →
      add_term t (limited n) coeff w ≡ (visit (limited n) w >>= act b (limited n) t coeff (node_of t coeff))
  unfolding add_term node_of as_op operation_node
  term-walk (integer i v) own = bind-same (visit (limited n) w) (leaf-walk b n (integer i v) coeff)
  term-walk (rational i q) own = bind-same (visit (limited n) w) (leaf-walk b n (rational i q) coeff)
  term-walk (bitvector i v k) own = bind-same (visit (limited n) w) (leaf-walk b n (bitvector i v k) coeff)
  term-walk (atom i s k) own = bind-same (visit (limited n) w) (leaf-walk b n (atom i s k) coeff)
  term-walk (op i o ts) own = bind-same (visit (limited n) w) (λ w. go w (arm_of o ts) refl)
    where
      go :
          (w : Walked Term) (m : Arm) → arm_of o ts ≡ m →
          elim m [
            | sum ↦ add_args ts (limited n) coeff w
            | negation ↦ add_args ts (limited n) (neg_q coeff) w
            | difference ↦ add_difference ts (limited n) coeff w
            | product ↦ factors_of (limited n) ts >>= elim [
              | first_is q ↦ times (limited n) q coeff >>= λ c. add_second ts (limited n) c w
              | second_is q ↦ times (limited n) q coeff >>= λ c. add_first ts (limited n) c w
              | neither_is ↦ add_entry terms (limited n) (op i o ts) coeff w
            ]
            | leaf ↦ add_leaf (limited n) (op i o ts) coeff w
          ]
          ≡ act b (limited n) (op i o ts) coeff (arm_node (op i o ts) ts coeff m) w
      go w sum e = args-each ts (limited n) coeff w
      go w negation e = args-each ts (limited n) (neg_q coeff) w
      go w difference e = difference-each ts (limited n) coeff w
      go w product e = product-walk b n (op i o ts) coeff w ts (product-size o ts e) own
      go w leaf e = leaf-walk b n (op i o ts) coeff w

pub walk-node :
    (b : Bytes) (id n : ℕ) (coeff : Rational) (w : Walked Term) →
    add_term (tree b id) (limited n) coeff w
    ≡ (visit (limited n) w >>= act b (limited n) (tree b id) coeff (node_of (tree b id) coeff))
walk-node b id n coeff w =
    term-walk b n coeff w (tree b id)
    (subst (Each (Own b)) (sym (arguments_of_record b id refl)) (forest-own b _))

-- a term's factor is one of its arguments
abbrev FactorBelow : ℕ → Node → Type 0
FactorBelow i (node.Factor x c) = x < i
FactorBelow i (node.Args p q) = Unit {0}
FactorBelow i (node.Constant q) = Unit {0}
FactorBelow i node.Atom = Unit {0}

module _ (i : ℕ) (coeff : Rational) where
  abbrev Lower : Result Node → Type 0
  Lower = Yields (FactorBelow i)

  leaf-lower : (t : Term) → Lower (leaf_node t coeff)
  unfolding leaf_node
  leaf-lower t = past (number_or (as_fraction ranged t)) at_number
    where
      at_number :
          (v : Option Rational) →
          Lower (elim v [ Some q ↦ constant_node (checked (mul_q q coeff)) | None ↦ Ok node.Atom ])
      at_number (Some q) = past (or_else (checked (mul_q q coeff)) NumberRange) λ c. gives tt
      at_number None = gives tt

  product-lower : (s t : Term) → record_number s < i → record_number t < i → Lower (product_node s t coeff)
  unfolding product_node factor_node
  product-lower s t h k =
      past (number_or (as_fraction ranged s)) λ p. past (number_or (as_fraction ranged t)) λ q. at_numbers p q
    where
      at_numbers : (p q : Option Rational) → Lower (factors_node p q (record_number s) (record_number t) coeff)
      at_numbers (Some p) q = past (or_else (checked (mul_q p coeff)) NumberRange) λ c. gives k
      at_numbers None (Some q) = past (or_else (checked (mul_q q coeff)) NumberRange) λ c. gives h
      at_numbers None None = gives tt

  factors-lower : (ts : Terms) → Below i ts → Lower (pair_node ts coeff)
  factors-lower nil h = gives tt
  factors-lower (s ▹ nil) h = gives tt
  factors-lower (s ▹ t ▹ nil) h = product-lower s t h.0 h.1.0
  factors-lower (s ▹ t ▹ u ▹ ts) h = gives tt

  node-lower : (t : Term) → Below i (arguments_of t) → Lower (node_of t coeff)
  unfolding node_of as_op operation_node
  node-lower (integer k v) h = leaf-lower (integer k v)
  node-lower (rational k q) h = leaf-lower (rational k q)
  node-lower (bitvector k v n) h = leaf-lower (bitvector k v n)
  node-lower (atom k s n) h = leaf-lower (atom k s n)
  node-lower (op k o ts) h = go (arm_of o ts)
    where
      go : (m : Arm) → Lower (arm_node (op k o ts) ts coeff m)
      go sum = gives tt
      go negation = gives tt
      go difference = gives tt
      go product = factors-lower ts h
      go leaf = leaf-lower (op k o ts)

pub factor-below :
    (b : Bytes) (id : ℕ) (coeff c : Rational) (x : ℕ) → layout_ok id (record_of b id) ≡ true →
    node_of (tree b id) coeff ≡ Ok (node.Factor x c) → x < id
factor-below b id coeff c x layout e = at_ok (node-lower id coeff (tree b id) (arguments-below b id layout)) e
