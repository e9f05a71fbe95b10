-- The sort of a term of a laid book as one number: at most 33, since a bit-vector has 30 bits at most, and from 4 on it
-- is that of a bit-vector. The bound goes by the record number: an operation's sort is one of three, or that of its
-- first argument.
use mathlib.Core.Path.{◌≡◌, refl}
use mathlib.Core.Bool.{Bool, true, false, cond}
use mathlib.Core.List.{List, [], ◌∷◌}
use Prim.Native.Nat.{ℕ, zero, suc, ◌+◌, ◌-◌, ◌≤◌, ◌<◌}
use native.Mathlib.Omega.{arith}
use borrow.Author.Tests.{leb-true, ltb-true, le-ltb}
use lib.Dec.{leb, ltb, eqb, lit≤}
use Rattle.numbers.specs.Bytes.{Bytes}
use Rattle.terms.specs.Term.{Sort, Term, sort, sorts, sort_code, gives, first}
use Rattle.numbers.specs.Choice.{when◌then◌else◌}
use Rattle.terms.specs.Term.Sort.{bool, int, real, bits}
use Rattle.terms.specs.Book.{record_of, sort_byte, field2, operator, is_width, atom_ok, atom_sort, unused, layout_ok}
use Rattle.terms.specs.Book.{numbers, arg_bytes, arguments, node, forest, tree, all_below, count}
use Rattle.terms.proofs.Trees.{tree-node}
use Rattle.numbers.proofs.Truths.{both}
use Rattle.terms.proofs.Nodes.{Laid, an_integer, a_rational, a_vector, an_atom, an_operation, laid, node-integer}
use Rattle.terms.proofs.Nodes.{node-rational, node-vector, node-atom, node-operation, integer-number, real-number}
use Rattle.terms.proofs.Nodes.{vector_fields, vector-width}
use Rattle.book.proofs.RecordSorts.{wide_below}
use Rattle.book.proofs.SortRules.{Wide, either}
use Rattle.book.proofs.WellFormed.{operates}
use Rattle.polynomial.specs.Polynomial.{Polynomial}
use Rattle.poly_simp.specs.PolySimp.{reduced}
use Rattle.poly_simp.specs.Memory.PolynomialSteps.{reduced_by}

abbrev Small : Sort → Type 0
Small s = sort_code s ≤ 33

width_small : (w : ℕ) → is_width w ≡ true → Small (bits w)
width_small w e = omega (arith, leb-true w 30 (both (leb 1 w) (leb w 30) e).1)

-- of the sort byte 4 and of the others
vector-small : (w : ℕ) (other t : Bool) → cond t (is_width w) other ≡ true → Small (when t then bits w else bool)
unfolding when◌then◌else◌
vector-small w other true e = width_small w e
vector-small w other false e = lit≤ tt

atom-small : (r : Bytes) → atom_ok r ≡ true → Small (atom_sort r)
atom-small r ok =
    either Small (eqb (sort_byte r) 2) (lit≤ tt)
    (either Small (eqb (sort_byte r) 3) (lit≤ tt)
    (vector-small (field2 r) _ (eqb (sort_byte r) 4) (both (unused 12 r 20) _ (both (unused 2 r 1) _ ok).1).1))

gives-small : (o : ℕ) (ss : List Sort) → Small (first ss) → Small (gives o ss)
unfolding gives
gives-small o ss h =
    either Small _ (lit≤ tt)
    (either Small _ (either Small _ (lit≤ tt) (lit≤ tt)) (either Small _ (lit≤ tt) (either Small _ (lit≤ tt) h)))

first_small :
    (f : ℕ → Term) (i : ℕ) → ((a : ℕ) → a < i → Small (sort (f a))) → (l : List ℕ) → all_below i l ≡ true →
    Small (first (sorts (forest f (arguments i l))))
unfolding forest arguments all_below sort
first_small f i small [] e = lit≤ tt
first_small f i small (a ∷ l) e =
    let h = both (ltb a i) (all_below i l) e in rw h.0 (small a (ltb-true a i h.0))

record_small :
    (i : ℕ) (r : Bytes) (f : ℕ → Term) → Laid i r → ((a : ℕ) → a < i → Small (sort (f a))) →
    Small (sort (node i r (forest f (arguments i (numbers (arg_bytes r))))))
unfolding sort
record_small i r f (an_integer k ok) small = rw (node-integer i r _ k (integer-number r ok)) (lit≤ tt)
record_small i r f (a_rational k ok) small = rw (node-rational i r _ k (real-number r ok).0) (lit≤ tt)
record_small i r f (a_vector k ok) small =
    rw (node-vector i r _ k (vector_fields r ok)) (width_small (field2 r) (vector-width r ok))
record_small i r f (an_atom k ok) small = rw (node-atom i r _ k) (atom-small r ok)
record_small i r f (an_operation k ok) small =
    rw (node-operation i r _ k) (gives-small (operator r) _ (first_small f i small _ (operates i r ok).below))

small-below :
    (b : Bytes) (i : ℕ) → ((j : ℕ) → j < i → layout_ok j (record_of b j) ≡ true) → (j : ℕ) → j < i →
    Small (sort (tree b j))
small-below b zero ok j h = absurd (omega arith)
small-below b (suc i) ok j h =
    rw (tree-node b j)
    (record_small j (record_of b j) (tree b) (laid j (record_of b j) (ok j h))
    (λ a less. small-below b i (λ x y. ok x (omega arith)) a (omega arith)))

-- ---- the two forms of `reduced`

reduced-code : (s : Sort) (p : Polynomial) → Wide s → reduced s p ≡ reduced_by (sort_code s) p
unfolding reduced reduced_by
reduced-code bool p wide = refl
reduced-code int p wide = refl
reduced-code real p wide = refl
reduced-code (bits w) p wide =
    let less : 3 + w - 3 ≡ w = omega arith in
    rw (le-ltb (3 + w) 4 (omega arith), less)

module _
    (b : Bytes) (ok : (j : ℕ) → j < count b → layout_ok j (record_of b j) ≡ true) (t : ℕ) (inside : t < count b) where
  pub sort-small : sort_code (sort (tree b t)) ≤ 33
  sort-small = small-below b (count b) ok t inside

  pub reduced_is : (p : Polynomial) → reduced (sort (tree b t)) p ≡ reduced_by (sort_code (sort (tree b t))) p
  reduced_is p = reduced-code (sort (tree b t)) p (wide_below b (count b) ok t inside)
