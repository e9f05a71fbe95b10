-- What `add_term` does at a term, as one value: the code looks at a record first, and then walks.
use Rattle.std.specs.Prelude.{◌≡◌, true, List, ℕ, ◌≤◌, ◌<◌}
use Rattle.std.specs.Prelude.{Option, Some, None, Ok, Err}
use Rattle.numbers.specs.Rational.{Rational, Proper, mul_q, neg_q, checked}
use Rattle.numbers.specs.Bytes.{Bytes}
use Rattle.terms.specs.Term.{Term, Terms, record_number, two?}
use Rattle.terms.specs.Term.Terms.{nil, ◌▹◌}
use Rattle.terms.specs.Book.{count, tree, numbers, all_below}
use Rattle.terms.specs.Readers.{ranged, as_fraction, as_op, arguments_of}
use Rattle.rules.specs.Refusal.{Result, ◌>>=◌, or_else}
use Rattle.rules.specs.Limits.{Limits, limited, number_or}
use Rattle.index_map.specs.IndexMap.{Map, Walked, walked, add_entry, add_constant}
use Rattle.linear_walk.specs.LinearTerms.{arm_of, add_term, add_args}
use Rattle.linear_comb.specs.LinearComb.{LinearComb}
use Rattle.index_map.specs.Memory.Entries.{terms, entries_of, Held}
use Rattle.linear_walk.specs.LinearTerms.Arm.{sum, negation, difference, product, leaf}
use Rattle.index_map.specs.Memory.Answers.{WalkIs}
use Rattle.index_map.specs.declared.combination.Walked as by_value
use Rattle.linear_comb.specs.Memory.WorkArea.{Sum, KeptSum}
use Rattle.rules.specs.Memory.Parts.{Laid}
use Rattle.linear_walk.specs.declared.nodes.Node.{Node}
use Rattle.linear_walk.specs.declared.nodes.Node.TheVariants as node
use Rattle.linear_walk.specs.declared.nodes.Place.{Place}
use Rattle.linear_walk.specs.declared.nodes.Place.TheVariants as place
use Rattle.linear_walk.specs.declared.linear_walk.Flat.{Flat}
use Rattle.linear_walk.specs.declared.linear_walk.Flat.TheVariants as flat
use Rattle.linear_comb.specs.Memory.Notes.{Noted}
use Rattle.numbers.specs.Rational.{Checked}
use Rattle.terms.specs.Readers.{Reading}
use Rattle.rules.specs.declared.refusal.Refusal.TheVariants.{NumberRange}

-- a constant, where it is in range
abbrev pub constant_node : Checked → Result Node
constant_node q = or_else q NumberRange >>= λ c. Ok (node.Constant c)

-- a leaf's node, by what the leaf is read as
abbrev pub read_node : Rational → Reading → Result Node
read_node coeff x = number_or x >>= elim [
  | Some q ↦ constant_node (checked (mul_q q coeff))
  | None ↦ Ok node.Atom
]

unfoldable pub leaf_node : Term → Rational → Result Node
leaf_node t coeff = read_node coeff (as_fraction ranged t)

-- a number times the term of a record
unfoldable pub factor_node : ℕ → Rational → Rational → Result Node
factor_node x q coeff = or_else (checked (mul_q q coeff)) NumberRange >>= λ c. Ok (node.Factor x c)

-- a product of the terms of two records, by the numbers that they are
abbrev pub factors_node : Option Rational → Option Rational → ℕ → ℕ → Rational → Result Node
factors_node (Some p) q x y coeff = factor_node y p coeff
factors_node None (Some q) x y coeff = factor_node x q coeff
factors_node None None x y coeff = Ok node.Atom

-- both factors are read before either is looked at
unfoldable pub product_node : Term → Term → Rational → Result Node
product_node a b coeff = do
  p ← number_or (as_fraction ranged a)
  q ← number_or (as_fraction ranged b)
  factors_node p q (record_number a) (record_number b) coeff

unfoldable pub operation_node : Term → ℕ → Terms → Rational → Result Node
operation_node t o ts coeff = elim (arm_of o ts) [
  | sum ↦ Ok (node.Args coeff coeff)
  | negation ↦ Ok (node.Args (neg_q coeff) (neg_q coeff))
  | difference ↦ Ok (node.Args coeff (neg_q coeff))
  | product ↦ elim (two? ts) [ Some p ↦ product_node p.0 p.1 coeff | None ↦ Ok node.Atom ]
  | leaf ↦ leaf_node t coeff
]

unfoldable pub node_of : Term → Rational → Result Node
node_of t coeff = elim (as_op t) [ Some p ↦ operation_node t p.0 p.1 coeff | None ↦ leaf_node t coeff ]

-- the arguments: the first with one coefficient, the others with another
unfoldable pub add_each : Terms → Limits → Rational → Rational → Walked Term → Result (Walked Term)
add_each nil l first others w = Ok w
add_each (t ▹ ts) l first others w = do
  w ← add_term t l first w
  add_args ts l others w

-- ---- what the code asks and promises

abbrev pub NodeProper : Result Node → Type 0
NodeProper (Ok (node.Args p q)) = Proper p × Proper q
NodeProper (Ok (node.Factor x c)) = Proper c
NodeProper (Ok (node.Constant q)) = Proper q
NodeProper (Ok node.Atom) = Unit {0}
NodeProper (Err r) = Unit {0}

-- r is the definition's node, or its refusal
pub record NodeIs (r d : Result Node) : Type 0 where
  pub is : r ≡ d
  pub proper : NodeProper r

pub record WalkPre (b w : Bytes) (id : ℕ) (coeff : Rational) (s : Sum) (ns : List ℕ) : Type 0 where
  pub laid : Laid b
  pub inside : id < count b
  pub proper : Proper coeff
  pub sum : KeptSum b w s
  pub atoms : Noted ns (entries_of b w s.len)

pub record OperationPre (b w : Bytes) (id : ℕ) (first others : Rational) (s : Sum) (ns : List ℕ) : Type 0 where
  pub laid : Laid b
  pub inside : id < count b
  pub proper : Proper first × Proper others
  pub sum : KeptSum b w s
  pub atoms : Noted ns (entries_of b w s.len)

pub record ArgsPre (b w args : Bytes) (id : ℕ) (first others : Rational) (s : Sum) (ns : List ℕ) : Type 0 where
  pub laid : Laid b
  pub inside : id < count b
  pub below : all_below id (numbers args) ≡ true
  pub proper : Proper first × Proper others
  pub sum : KeptSum b w s
  pub atoms : Noted ns (entries_of b w s.len)

-- ---- where a term leads

-- d is what the walk makes of the sum s at a place, after the visits made so far
abbrev pub AtPlace : Bytes → Limits → Result (Place × ℕ) → LinearComb → Result (Walked Term) → Type 0
AtPlace b l (Ok (place.Args x first others, v)) s d =
    d ≡ add_each (arguments_of (tree b x)) l first others (walked s v)
AtPlace b l (Ok (place.Constant q, v)) s d = d ≡ add_constant l q (walked s v)
AtPlace b l (Ok (place.Atom x c, v)) s d = d ≡ add_entry terms l (tree b x) c (walked s v)
AtPlace b l (Err r) s d = d ≡ Err r

-- the records that a place names are no later than record i, its numbers are in range
abbrev pub PlaceProper : ℕ → Result (Place × ℕ) → Type 0
PlaceProper i (Ok (place.Args x first others, v)) = (x ≤ i) × (Proper first × Proper others)
PlaceProper i (Ok (place.Constant q, v)) = Proper q
PlaceProper i (Ok (place.Atom x c, v)) = (x ≤ i) × Proper c
PlaceProper i (Err r) = Unit {0}

-- the walk of record i, whatever the sum is
pub record PlaceIs (b : Bytes) (l i : ℕ) (coeff : Rational) (visits : ℕ) (r : Result (Place × ℕ)) : Type 0 where
  pub is : (s : LinearComb) → AtPlace b (limited l) r s (add_term (tree b i) (limited l) coeff (walked s visits))
  pub proper : PlaceProper i r

-- ---- a walk that notes the atoms that it enters

-- what a walk leaves in an area, with all its atoms noted
pub record Fills (b w : Bytes) (ns : List ℕ) (r : Result by_value.Walked) (d : Result (Walked Term)) : Type 0 where
  pub map : Map Term
  pub held : Held b w map
  pub is : WalkIs r map d
  pub atoms : Noted ns map

-- a walk of record i from the bytes w of an area to w' and from the notes ns to ns'. Where there are arguments to walk
-- it has only come to them.
abbrev pub FlatWalks :
    Bytes → ℕ → ℕ → Rational → ℕ → Bytes → Bytes → List ℕ → List ℕ → Result Flat → Result (Walked Term) → Type 0
FlatWalks b l i coeff v w w' ns ns' (Ok (flat.Done r)) d = Fills b w' ns' (Ok r) d
FlatWalks b l i coeff v w w' ns ns' (Ok (flat.Deeper x p q u)) d =
    ((w' ≡ w) × (ns' ≡ ns)) × PlaceIs b l i coeff v (Ok (place.Args x p q, u))
FlatWalks b l i coeff v w w' ns ns' (Err r) d = Fills b w' ns' (Err r) d
