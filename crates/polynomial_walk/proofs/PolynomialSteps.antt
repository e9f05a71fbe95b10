-- The walk of a polynomial at one term, by the term's node: `add_term` makes a visit and then does what the node says
-- (`walk-node`). Where a record is laid out as a term, a dividend that the walk goes on to has a smaller number
-- (`quotient-below`).
use mathlib.Core.Path.{◌≡◌, refl, sym, ap, subst}
use mathlib.Core.Bool.{Bool, true, false}
use mathlib.Core.List.{[], ◌∷◌}
use Rattle.std.specs.Prelude.{Option, Some, None, Ok, Err}
use Prim.Native.Nat.{ℕ, suc, ◌<◌}
use lib.IntN.{pos}
use Rattle.numbers.specs.Rational.{Rational, whole, mul_q, div_q, neg_q, is_zero, checked, Checked}
use Rattle.numbers.specs.Bytes.{Bytes}
use Rattle.terms.specs.Term.{Term, Terms, record_number}
use Rattle.terms.specs.Term.Term.{integer, rational, bitvector, atom, op}
use Rattle.terms.specs.Term.Terms.{nil, ◌▹◌}
use Rattle.terms.specs.Book.{record_of, tree, layout_ok}
use Rattle.terms.specs.Readers.{within, ranged, as_fraction, as_bitvector, as_op, arguments_of, Reading}
use Rattle.book.proofs.BookTerms.{Each}
use Rattle.terms.proofs.RecordReadings.{arguments_of_record}
use Rattle.rules.specs.Refusal.{Result, ◌>>=◌, assert, or_else}
use Rattle.rules.specs.declared.refusal.Refusal.TheVariants.{NumberRange, PolynomialSize}
use Rattle.rules.specs.Limits.{Limits, limited, number_or, times, over, fraction_of}
use Rattle.index_map.specs.IndexMap.{Walked, walked, combination, visit, add_entry, add_constant}
use Rattle.polynomial_walk.specs.PolynomialTerms as definition-walk
use Rattle.polynomial.specs.Polynomial.{Monomial, monomials, insert_scaled}
use Rattle.polynomial_walk.specs.PolynomialTerms.{arm_of, add_leaf, nonzero, divisor_of, add_term, add_args}
use Rattle.polynomial_walk.specs.PolynomialTerms.{add_difference, add_first, first_factor}
use Rattle.polynomial_walk.specs.PolynomialTerms.Arm.{sum, negation, difference, product, quotient, leaf}
use Rattle.polynomial.specs.Memory.PolynomialArea.{add_scaled}
use Rattle.polynomial_walk.specs.Memory.PolynomialNodes.{constant_node, constant_of, leaf_node, divided_node}
use Rattle.polynomial_walk.specs.Memory.PolynomialNodes.{divisor_node, quotient_node, operation_node, node_of}
use Rattle.polynomial_walk.specs.Memory.PolynomialNodes.{add_each, add_product}
use Rattle.polynomial_walk.specs.declared.polynomial_walk.Node.{Node}
use Rattle.polynomial_walk.specs.declared.polynomial_walk.Node.TheVariants as node
use Rattle.index_map.proofs.CheckedNumbers.{quotient-asked, on_answer, on_product}
use Rattle.rules.proofs.Results.{bind-same}
use Rattle.book.proofs.ArgumentsBelow.{Own, Below, forest-own, arguments-below}
use Rattle.terms.specs.declared.term.NotRead.TheVariants.{NotNumber, OutOfRange}

-- what the walk does at a node of the term t, under d products and after the visit
abbrev pub act : Bytes → Limits → ℕ → Term → Rational → Result Node → Walked Monomial → Result (Walked Monomial)
act b l d t coeff (Ok (node.Args p q)) w = add_each (arguments_of t) l d p q w
act b l d t coeff (Ok node.Product) w = add_product (arguments_of t) l d coeff w
act b l d t coeff (Ok (node.Quotient x c)) w = add_term (tree b x) l d c w
act b l d t coeff (Ok (node.Constant q)) w = add_constant l q w
act b l d t coeff (Ok node.Atom) w = add_entry monomials l (t ∷ []) coeff w
act b l d t coeff (Err r) w = Err r

-- ---- the definition's cases, by their names

-- a leaf's node, by what the leaf is read as, as a number and as a bit-vector
abbrev bits_node : Rational → Option (ℕ × ℕ) → Result Node
bits_node coeff v = elim v [ Some (v, n) ↦ constant_of (whole (pos v)) coeff | None ↦ Ok node.Atom ]

abbrev read_node : Rational → Reading → Option (ℕ × ℕ) → Result Node
read_node coeff r v = elim r [
  | Ok q ↦ constant_of q coeff
  | Err NotNumber ↦ bits_node coeff v
  | Err OutOfRange ↦ Err NumberRange
]

-- an operation's node, by its arm
abbrev arm_node : Term → Terms → Rational → definition-walk.Arm → Result Node
arm_node t ts coeff m = elim m [
  | sum ↦ Ok (node.Args coeff coeff)
  | negation ↦ Ok (node.Args (neg_q coeff) (neg_q coeff))
  | difference ↦ Ok (node.Args coeff (neg_q coeff))
  | product ↦ Ok node.Product
  | quotient ↦ quotient_node t ts coeff
  | leaf ↦ leaf_node t coeff
]

-- ---- the arms

-- after the first argument all are walked with one coefficient
pub args-each :
    (ts : Terms) (l : Limits) (d : ℕ) (coeff : Rational) (w : Walked Monomial) →
    add_args ts l d coeff w ≡ add_each ts l d coeff coeff w
unfolding add_term add_each
args-each nil l d coeff w = refl
args-each (t ▹ ts) l d coeff w = refl

difference-each :
    (ts : Terms) (l : Limits) (d : ℕ) (coeff : Rational) (w : Walked Monomial) →
    add_difference ts l d coeff w ≡ add_each ts l d coeff (neg_q coeff) w
unfolding add_term add_each
difference-each nil l d coeff w = refl
difference-each (t ▹ ts) l d coeff w = refl

module _ (b : Bytes) (n d : ℕ) (t : Term) (coeff : Rational) (w : Walked Monomial) where
  constant-walk :
      (q : Rational) →
      (times (limited n) q coeff >>= λ r. add_constant (limited n) r w)
      ≡ act b (limited n) d t coeff (constant_of q coeff) w
  unfolding constant_of or_else ◌>>=◌
  constant-walk q =
      on_product n q coeff (λ r. add_constant (limited n) r w)
      (λ r. act b (limited n) d t coeff (constant_node r) w) (λ q. refl) refl

  bits-walk :
      (v : Option (ℕ × ℕ)) →
      elim v [
        | Some (v, k) ↦ times (limited n) (whole (pos v)) coeff >>= λ r. add_constant (limited n) r w
        | None ↦ add_entry monomials (limited n) (t ∷ []) coeff w
      ]
      ≡ act b (limited n) d t coeff (bits_node coeff v) w
  bits-walk (Some (v, k)) = constant-walk (whole (pos v))
  bits-walk None = refl

  leaf-walk : add_leaf (limited n) t coeff w ≡ act b (limited n) d t coeff (leaf_node t coeff) w
  unfolding add_leaf leaf_node fraction_of ◌>>=◌
  leaf-walk = go (as_fraction ranged t)
    where
      go :
          (r : Reading) →
          (number_or r >>= elim [
            | Some q ↦ times (limited n) q coeff >>= λ r. add_constant (limited n) r w
            | None ↦ elim (as_bitvector t) [
              | Some (v, k) ↦ times (limited n) (whole (pos v)) coeff >>= λ r. add_constant (limited n) r w
              | None ↦ add_entry monomials (limited n) (t ∷ []) coeff w
            ]
          ])
          ≡ act b (limited n) d t coeff (read_node coeff r (as_bitvector t)) w
      go (Ok q) = constant-walk q
      go (Err NotNumber) = bits-walk (as_bitvector t)
      go (Err OutOfRange) = refl

  -- the coefficient over a divisor, and the dividend a
  divided-walk :
      (q : Rational) (a : Term) → Own b a →
      (over (limited n) coeff q >>= λ c. add_term a (limited n) d c w)
      ≡ act b (limited n) d t coeff (divided_node (record_number a) (checked (div_q coeff q))) w
  unfolding or_else ◌>>=◌
  divided-walk q a own =
      on_answer (checked (div_q coeff q)) (quotient-asked n coeff q refl)
      (λ c. add_term a (limited n) d c w)
      (λ r. act b (limited n) d t coeff (divided_node (record_number a) r) w)
      (λ c. ap (λ (v : Term). add_term v (limited n) d c w) (sym own)) refl

  quotient-walk :
      (ts : Terms) → Each (Own b) ts →
      (divisor_of (limited n) ts >>= elim [
        | Some q ↦ over (limited n) coeff q >>= λ c. add_first ts (limited n) d c w
        | None ↦ add_leaf (limited n) t coeff w
      ])
      ≡ act b (limited n) d t coeff (quotient_node t ts coeff) w
  unfolding divisor_of fraction_of ◌>>=◌ add_term
  quotient-walk nil own = leaf-walk
  quotient-walk (a ▹ nil) own = leaf-walk
  quotient-walk (a ▹ c ▹ ts) own = go (as_fraction ranged c)
    where
      at_divisor :
          (q : Rational) (z : Bool) →
          elim (elim z as (λ u. Option Rational) [ true ↦ None | false ↦ Some q ]) [
            | Some q ↦ over (limited n) coeff q >>= λ c. add_term a (limited n) d c w
            | None ↦ add_leaf (limited n) t coeff w
          ]
          ≡ act b (limited n) d t coeff
          (elim z [ true ↦ leaf_node t coeff | false ↦ divided_node (record_number a) (checked (div_q coeff q)) ]) w
      at_divisor q true = leaf-walk
      at_divisor q false = divided-walk q a own.0

      go :
          (r : Reading) →
          ((number_or r >>= λ q. Ok (nonzero q)) >>= elim [
            | Some q ↦ over (limited n) coeff q >>= λ c. add_term a (limited n) d c w
            | None ↦ add_leaf (limited n) t coeff w
          ])
          ≡ act b (limited n) d t coeff (divisor_node t a r coeff) w
      go (Ok q) = at_divisor q (is_zero q)
      go (Err NotNumber) = leaf-walk
      go (Err OutOfRange) = refl

-- ---- the walk

module _ (b : Bytes) (n d : ℕ) (coeff : Rational) (w : Walked Monomial) where
  term-walk :
      (t : Term) → Each (Own b) (arguments_of t) →
      add_term t (limited n) d coeff w ≡ (visit (limited n) w >>= act b (limited n) d t coeff (node_of t coeff))
  unfolding add_term node_of as_op operation_node add_product add_scaled
  term-walk (integer i v) own = bind-same (visit (limited n) w) (leaf-walk b n d (integer i v) coeff)
  term-walk (rational i q) own = bind-same (visit (limited n) w) (leaf-walk b n d (rational i q) coeff)
  term-walk (bitvector i v k) own = bind-same (visit (limited n) w) (leaf-walk b n d (bitvector i v k) coeff)
  term-walk (atom i s k) own = bind-same (visit (limited n) w) (leaf-walk b n d (atom i s k) coeff)
  term-walk (op i o ts) own = bind-same (visit (limited n) w) (λ w. go w (arm_of o ts))
    where
      go :
          (w : Walked Monomial) (m : definition-walk.Arm) →
          elim m [
            | sum ↦ add_args ts (limited n) d coeff w
            | negation ↦ add_args ts (limited n) d (neg_q coeff) w
            | difference ↦ add_difference ts (limited n) d coeff w
            | product ↦ (do
              _ ← assert (within (limited n).depth (suc d)) PolynomialSize
              r ← first_factor ts (limited n) (suc d) w.visits
              m ← insert_scaled (limited n) r.sum.entries coeff w.sum.entries
              c ← times (limited n) coeff r.sum.constant
              add_constant (limited n) c (walked (combination m w.sum.constant) r.visits))
            | quotient ↦ divisor_of (limited n) ts >>= elim [
              | Some q ↦ over (limited n) coeff q >>= λ c. add_first ts (limited n) d c w
              | None ↦ add_leaf (limited n) (op i o ts) coeff w
            ]
            | leaf ↦ add_leaf (limited n) (op i o ts) coeff w
          ]
          ≡ act b (limited n) d (op i o ts) coeff (arm_node (op i o ts) ts coeff m) w
      go w sum = args-each ts (limited n) d coeff w
      go w negation = args-each ts (limited n) d (neg_q coeff) w
      go w difference = difference-each ts (limited n) d coeff w
      go w product = refl
      go w quotient = quotient-walk b n d (op i o ts) coeff w ts own
      go w leaf = leaf-walk b n d (op i o ts) coeff w

pub walk-node :
    (b : Bytes) (id n d : ℕ) (coeff : Rational) (w : Walked Monomial) →
    add_term (tree b id) (limited n) d coeff w
    ≡ (visit (limited n) w >>= act b (limited n) d (tree b id) coeff (node_of (tree b id) coeff))
walk-node b id n d coeff w =
    term-walk b n d coeff w (tree b id)
    (subst (Each (Own b)) (sym (arguments_of_record b id refl)) (forest-own b _))

-- ---- what the walk goes on to lies below

-- a term's dividend is one of its arguments
abbrev DividendBelow : ℕ → Result Node → Type 0
DividendBelow i (Ok (node.Quotient x c)) = x < i
DividendBelow i r = Unit {0}

module _ (i : ℕ) (coeff : Rational) where
  constant-lower : (q : Rational) → DividendBelow i (constant_of q coeff)
  unfolding constant_of or_else ◌>>=◌
  constant-lower q = go (checked (mul_q q coeff))
    where
      go : (r : Checked) → DividendBelow i (constant_node r)
      go (Some q) = tt
      go None = tt

  leaf-lower : (t : Term) → DividendBelow i (leaf_node t coeff)
  unfolding leaf_node
  leaf-lower t = go (as_fraction ranged t) (as_bitvector t)
    where
      go : (r : Reading) (v : Option (ℕ × ℕ)) → DividendBelow i (read_node coeff r v)
      go (Ok q) v = constant-lower q
      go (Err NotNumber) (Some (v, n)) = constant-lower (whole (pos v))
      go (Err NotNumber) None = tt
      go (Err OutOfRange) v = tt

  quotient-lower : (t : Term) (ts : Terms) → Below i ts → DividendBelow i (quotient_node t ts coeff)
  unfolding or_else ◌>>=◌
  quotient-lower t nil h = leaf-lower t
  quotient-lower t (a ▹ nil) h = leaf-lower t
  quotient-lower t (a ▹ c ▹ ts) h = go (as_fraction ranged c)
    where
      at_answer : (r : Checked) → DividendBelow i (divided_node (record_number a) r)
      at_answer (Some c) = h.0
      at_answer None = tt

      at_divisor :
          (q : Rational) (z : Bool) →
          DividendBelow i
          (elim z [ true ↦ leaf_node t coeff | false ↦ divided_node (record_number a) (checked (div_q coeff q)) ])
      at_divisor q true = leaf-lower t
      at_divisor q false = at_answer (checked (div_q coeff q))

      go : (r : Reading) → DividendBelow i (divisor_node t a r coeff)
      go (Ok q) = at_divisor q (is_zero q)
      go (Err NotNumber) = leaf-lower t
      go (Err OutOfRange) = tt

  node-lower : (t : Term) → Below i (arguments_of t) → DividendBelow i (node_of t coeff)
  unfolding node_of as_op operation_node
  node-lower (integer k v) h = leaf-lower (integer k v)
  node-lower (rational k q) h = leaf-lower (rational k q)
  node-lower (bitvector k v n) h = leaf-lower (bitvector k v n)
  node-lower (atom k s n) h = leaf-lower (atom k s n)
  node-lower (op k o ts) h = go (arm_of o ts)
    where
      go : (m : definition-walk.Arm) → DividendBelow i (arm_node (op k o ts) ts coeff m)
      go sum = tt
      go negation = tt
      go difference = tt
      go product = tt
      go quotient = quotient-lower (op k o ts) ts h
      go leaf = leaf-lower (op k o ts)

pub quotient-below :
    (b : Bytes) (id : ℕ) (coeff c : Rational) (x : ℕ) → layout_ok id (record_of b id) ≡ true →
    node_of (tree b id) coeff ≡ Ok (node.Quotient x c) → x < id
quotient-below b id coeff c x layout e =
    subst (DividendBelow id) e (node-lower id coeff (tree b id) (arguments-below b id layout))
