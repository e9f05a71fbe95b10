-- What `add_term` of a polynomial does at a term, as one value: the code looks at a record first, and then walks.
use Rattle.index_map.specs.Memory.Answers.{Has, walked_with}
use Rattle.std.specs.Prelude.{◌≡◌, true, false, [], ◌∷◌, ℕ, suc, ◌+◌, ◌*◌, ◌≤◌, ◌<◌, pos, length}
use Rattle.std.specs.Prelude.{Some, None, Ok, Err}
use Rattle.numbers.specs.Rational.{Rational, Proper, whole, mul_q, div_q, neg_q, is_zero, checked}
use Rattle.numbers.specs.Bytes.{Bytes}
use Rattle.terms.specs.Term.{Term, Terms, record_number}
use Rattle.terms.specs.Term.Terms.{nil, ◌▹◌}
use Rattle.terms.specs.Book.{count, tree, numbers, all_below}
use Rattle.terms.specs.Readers.{within, ranged, as_fraction, as_bitvector, as_op, arguments_of}
use Rattle.rules.specs.Refusal.{Result, ◌>>=◌, assert, or_else}
use Rattle.rules.specs.declared.refusal.Refusal.TheVariants.{NumberRange, PolynomialSize}
use Rattle.rules.specs.Limits.{Limits, limited}
use Rattle.index_map.specs.IndexMap.{Map, Walked, walked}
use Rattle.polynomial.specs.Polynomial.{Monomial}
use Rattle.polynomial_walk.specs.PolynomialTerms.{arm_of, add_term, add_args, first_factor}
use Rattle.polynomial_walk.specs.PolynomialTerms.Arm.{sum, negation, difference, product, quotient, leaf}
use Rattle.rules.specs.Memory.Parts.{Laid}
use Rattle.polynomial.specs.Memory.PolynomialArea.{area_size, Poly, Stacked, Walks}
use Rattle.polynomial.specs.Memory.PolynomialArea.{add_scaled}
use Rattle.index_map.specs.declared.combination.Walked as by_value
use Rattle.polynomial_walk.specs.declared.polynomial_walk.Node.{Node}
use Rattle.polynomial_walk.specs.declared.polynomial_walk.Node.TheVariants as node
use Rattle.numbers.specs.Rational.{Checked}
use Rattle.terms.specs.Readers.{Reading}
use Rattle.terms.specs.declared.term.NotRead.TheVariants.{NotNumber, OutOfRange}

-- a constant, where it is in range
abbrev pub constant_node : Checked → Result Node
constant_node q = or_else q NumberRange >>= λ c. Ok (node.Constant c)

unfoldable pub constant_of : Rational → Rational → Result Node
constant_of q coeff = constant_node (checked (mul_q q coeff))

unfoldable pub leaf_node : Term → Rational → Result Node
leaf_node t coeff = elim (as_fraction ranged t) [
  | Ok q ↦ constant_of q coeff
  | Err NotNumber ↦ elim (as_bitvector t) [
    | Some (v, n) ↦ constant_of (whole (pos v)) coeff
    | None ↦ Ok node.Atom
  ]
  | Err OutOfRange ↦ Err NumberRange
]

abbrev pub divided_node : ℕ → Checked → Result Node
divided_node x q = or_else q NumberRange >>= λ c. Ok (node.Quotient x c)

-- the dividend with the coefficient over a divisor that is read and is not 0
abbrev pub divisor_node : Term → Term → Reading → Rational → Result Node
divisor_node t a (Ok q) coeff = elim (is_zero q) [
  | true ↦ leaf_node t coeff
  | false ↦ divided_node (record_number a) (checked (div_q coeff q))
]
divisor_node t a (Err NotNumber) coeff = leaf_node t coeff
divisor_node t a (Err OutOfRange) coeff = Err NumberRange

abbrev pub quotient_node : Term → Terms → Rational → Result Node
quotient_node t nil coeff = leaf_node t coeff
quotient_node t (a ▹ nil) coeff = leaf_node t coeff
quotient_node t (a ▹ b ▹ ts) coeff = divisor_node t a (as_fraction ranged b) coeff

unfoldable pub quotient_of : Term → Rational → Result Node
quotient_of t coeff = quotient_node t (arguments_of t) coeff

unfoldable pub operation_node : Term → ℕ → Terms → Rational → Result Node
operation_node t o ts coeff = elim (arm_of o ts) [
  | sum ↦ Ok (node.Args coeff coeff)
  | negation ↦ Ok (node.Args (neg_q coeff) (neg_q coeff))
  | difference ↦ Ok (node.Args coeff (neg_q coeff))
  | product ↦ Ok node.Product
  | quotient ↦ quotient_node t ts coeff
  | leaf ↦ leaf_node t coeff
]

unfoldable pub node_of : Term → Rational → Result Node
node_of t coeff = elim (as_op t) [ Some p ↦ operation_node t p.0 p.1 coeff | None ↦ leaf_node t coeff ]

-- the arguments: the first with one coefficient, the others with another; d products above
unfoldable pub add_each : Terms → Limits → ℕ → Rational → Rational → Walked Monomial → Result (Walked Monomial)
add_each nil l d first others w = Ok w
add_each (t ▹ ts) l d first others w = do
  w ← add_term t l d first w
  add_args ts l d others w

-- a product, one deeper than the d above it, times coeff
unfoldable pub add_product : Terms → Limits → ℕ → Rational → Walked Monomial → Result (Walked Monomial)
add_product ts l d coeff w = do
  _ ← assert (within l.depth (suc d)) PolynomialSize
  p ← first_factor ts l (suc d) w.visits
  add_scaled l coeff p.sum (walked w.sum p.visits)

-- ---- what the code asks and promises

abbrev pub NodeProper : Result Node → Type 0
NodeProper (Ok (node.Args p q)) = Proper p × Proper q
NodeProper (Ok node.Product) = Unit {0}
NodeProper (Ok (node.Quotient x c)) = Proper c
NodeProper (Ok (node.Constant q)) = Proper q
NodeProper (Ok node.Atom) = Unit {0}
NodeProper (Err r) = Unit {0}

-- r is the definition's node, or its refusal
pub record NodeIs (r d : Result Node) : Type 0 where
  pub is : r ≡ d
  pub proper : NodeProper r

-- products that nest
abbrev pub max_depth : ℕ
max_depth = 8

-- a stack of n bytes has room for the polynomials of the products that may nest under d of them: three areas, and two
-- for each of those products
pub record Room (n d : ℕ) : Type 0 where
  pub deep : d ≤ max_depth
  pub high : area_size * (3 + 2 * max_depth) ≤ n + area_size * (2 * d)

-- a stack with one polynomial, which s stands for
pub record Filling (b w : Bytes) (s : Poly) : Type 0 where
  pub map : Map Monomial
  pub held : Stacked b w (map ∷ [])
  pub has : Has s map

pub record TermPre (b w : Bytes) (id : ℕ) (c : Rational) (s : Poly) (d : ℕ) : Type 0 where
  pub laid : Laid b
  pub inside : id < count b
  pub proper : Proper c
  pub room : Room (length w) d
  pub filling : Filling b w s

pub record ArgsPre (b w args : Bytes) (id : ℕ) (p q : Rational) (s : Poly) (d : ℕ) : Type 0 where
  pub laid : Laid b
  pub inside : id < count b
  pub below : all_below id (numbers args) ≡ true
  pub proper : Proper p × Proper q
  pub room : Room (length w) d
  pub filling : Filling b w s

-- the factors of a product under d of them, itself counted: an empty stack
pub record FactorsPre (b w args : Bytes) (id d : ℕ) : Type 0 where
  pub laid : Laid b
  pub inside : id < count b
  pub below : all_below id (numbers args) ≡ true
  pub deep : d ≤ max_depth
  pub high : area_size * (4 + 2 * max_depth) ≤ length w + area_size * (2 * d)
  pub empty : Stacked b w []

-- the factors that are left, behind those whose product is p
pub record OthersPre (b w rest : Bytes) (id : ℕ) (p : Poly) (d : ℕ) : Type 0 where
  pub laid : Laid b
  pub inside : id < count b
  pub below : all_below id (numbers rest) ≡ true
  pub deep : d ≤ max_depth
  pub high : area_size * (4 + 2 * max_depth) ≤ length w + area_size * (2 * d)
  pub filling : Filling b w p

-- what the walk of record id promises, from the bytes a of a stack to a': whichever polynomial w stands for
abbrev pub TermWalks :
    Bytes → Bytes → Bytes → ℕ → Rational → by_value.Walked → ℕ → ℕ → Result by_value.Walked → Type 0
TermWalks b a a' id coeff w limit d r =
    (m : Map Monomial) → Stacked b a (m ∷ []) → Has w.sum m →
    Walks b a' r (add_term (tree b id) (limited limit) d coeff (walked_with w m))
