-- A record whose layout is right has the sort that the code finds, where the sorts of the records before it are known
-- (`sorting-tree`), and a bit-vector that has a bit (`wide_below`). The layout says which of five kinds the record is (`Laid`);
-- at a known kind the tests of both definitions compute.
use mathlib.Core.Path.{◌≡◌, refl, sym, ◌∙◌, ap, ap₂}
use mathlib.Core.Bool.{Bool, true, false, cond}
use mathlib.Core.List.{List, [], ◌∷◌}
use Prim.Native.Nat.{ℕ, zero, suc, ◌+◌, ◌<◌}
use native.Mathlib.Omega.{arith}
use borrow.Author.Tests.{ltb-true, leb-true}
use lib.Dec.{leb, ltb, eqb}
use lib.ListN.{get_or}
use Rattle.numbers.specs.Bytes.{Bytes}
use Rattle.terms.specs.Term.{Sort, Term, Terms, sort, sorts, sort_code}
use Rattle.numbers.specs.Choice.{when◌then◌else◌}
use Rattle.terms.specs.Term.Sort.{bool, bits}
use Rattle.terms.specs.Book.{record_of, operator, sort_byte, field2, unused, is_width, atom_sort, numbers, arg_bytes}
use Rattle.terms.specs.Book.{nothing, earlier, arguments, node, forest, tree, atom_ok, layout_ok, sort_ok, SortsBelow}
use Rattle.book.specs.Memory.Sorting.{sort_at, arg_sorts, common, sort_rule, width_code, atom_code, sorting}
use Rattle.terms.proofs.Trees.{record_of-outside, tree-node}
use Rattle.book.proofs.SortCodes.{sorting-operation}
use Rattle.book.proofs.SortRules.{Wide, AllWide, codes, Coded, both as on_both, either, rule-agrees, wide_gives}
use Rattle.numbers.proofs.Truths.{both}
use Rattle.terms.proofs.Nodes.{Laid, an_integer, a_rational, a_vector, an_atom, an_operation, laid, node-integer}
use Rattle.terms.proofs.Nodes.{node-rational, node-vector, node-atom, node-operation, integer-number}
use Rattle.terms.proofs.Nodes.{real-number, vector_fields, vector-width}
use Rattle.std.specs.Prelude.{Option, Some, None}

-- ---- widths

width_at_most : (w : ℕ) → is_width w ≡ true → leb w 30 ≡ true
width_at_most w h = (both (leb 1 w) (leb w 30) h).1

width_at_least : (w : ℕ) → is_width w ≡ true → 0 < w
width_at_least w h = leb-true 1 w (both (leb 1 w) (leb w 30) h).0

width-coded : (r : Bytes) → is_width (field2 r) ≡ true → width_code r ≡ 3 + field2 r
width-coded r h = rw (width_at_most (field2 r) h)

-- of the sort byte 4 and of the others
module _ (r : Bytes) (other : Bool) where
  vector-atom :
      (t : Bool) → cond t (is_width (field2 r)) other ≡ true →
      Coded (when t then width_code r else 1) (when t then bits (field2 r) else bool)
  unfolding when◌then◌else◌
  vector-atom true h = width-coded r h
  vector-atom false h = refl

  vector-atom_wide :
      (t : Bool) → cond t (is_width (field2 r)) other ≡ true → Wide (when t then bits (field2 r) else bool)
  unfolding when◌then◌else◌
  vector-atom_wide true h = width_at_least (field2 r) h
  vector-atom_wide false h = tt

atom-coded : (r : Bytes) → atom_ok r ≡ true → atom_code r ≡ sort_code (atom_sort r)
atom-coded r ok =
    on_both Coded (eqb (sort_byte r) 2) refl
    (on_both Coded (eqb (sort_byte r) 3) refl
    (vector-atom r _ (eqb (sort_byte r) 4) (both (unused 12 r 20) _ (both (unused 2 r 1) _ ok).1).1))

atom_wide : (r : Bytes) → atom_ok r ≡ true → Wide (atom_sort r)
atom_wide r ok =
    either Wide (eqb (sort_byte r) 2) tt
    (either Wide (eqb (sort_byte r) 3) tt
    (vector-atom_wide r _ (eqb (sort_byte r) 4) (both (unused 12 r 20) _ (both (unused 2 r 1) _ ok).1).1))

-- ---- the sort of a record over its arguments

-- what the code is to find of a term
abbrev pub verdict : Term → Option ℕ
verdict t = cond (sort_ok t) (Some (sort_code (sort t))) None

module _ (i : ℕ) (r : Bytes) (ts : Terms) where
  record_sorted :
      (w : Bytes) → Laid i r → arg_sorts i w (numbers (arg_bytes r)) ≡ codes (sorts ts) → AllWide (sorts ts) →
      sorting i w r ≡ verdict (node i r ts)
  unfolding sorting sort when◌then◌else◌
  record_sorted w (an_integer k ok) args wide = rw (node-integer i r ts k (integer-number r ok), k)
  record_sorted w (a_rational k ok) args wide = rw (node-rational i r ts k (real-number r ok).0, k)
  record_sorted w (a_vector k ok) args wide =
      rw (node-vector i r ts k (vector_fields r ok), k) (ap Some (width-coded r (vector-width r ok)))
  record_sorted w (an_atom k ok) args wide = rw (node-atom i r ts k, k) (ap Some (atom-coded r ok))
  record_sorted w (an_operation k ok) args wide =
      sorting-operation i w r k
      ∙ ap (λ l. sort_rule (operator r) (common l)) args
      ∙ rule-agrees (operator r) (sorts ts) wide
      ∙ ap verdict (sym (node-operation i r ts k))

  record_wide : Laid i r → AllWide (sorts ts) → Wide (sort (node i r ts))
  unfolding sort
  record_wide (an_integer k ok) wide = rw (node-integer i r ts k (integer-number r ok)) tt
  record_wide (a_rational k ok) wide = rw (node-rational i r ts k (real-number r ok).0) tt
  record_wide (a_vector k ok) wide =
      rw (node-vector i r ts k (vector_fields r ok)) (width_at_least (field2 r) (vector-width r ok))
  record_wide (an_atom k ok) wide = rw (node-atom i r ts k) (atom_wide r ok)
  record_wide (an_operation k ok) wide = rw (node-operation i r ts k) (wide_gives (operator r) (sorts ts) wide)

-- ---- the arguments of a record

-- the term of no record is an atom of sort Bool
sort-nothing : (b : Bytes) → sort (tree b nothing) ≡ bool
unfolding sort node when◌then◌else◌
sort-nothing b = rw (tree-node b nothing, record_of-outside b nothing (omega arith))

-- an argument of record i is an earlier record or none
module _ (b : Bytes) (i : ℕ) (P : ℕ → Sort → Type 0) (w : Bytes) where
  argument-either :
      (a : ℕ) → (a < i → P (get_or w a 0) (sort (tree b a))) → P 1 bool →
      P (sort_at i w a) (sort (tree b (earlier i a)))
  argument-either a below none = go (ltb a i) refl
    where
      go : (t : Bool) → ltb a i ≡ t → P (cond t (get_or w a 0) 1) (sort (tree b (cond t a nothing)))
      go true e = below (ltb-true a i e)
      go false e = rw (sort-nothing b) none

argument-codes :
    (b : Bytes) (i : ℕ) (w : Bytes) → ((j : ℕ) → j < i → get_or w j 0 ≡ sort_code (sort (tree b j))) →
    (l : List ℕ) → arg_sorts i w l ≡ codes (sorts (forest (tree b) (arguments i l)))
unfolding arg_sorts arguments forest sort
argument-codes b i w held [] = refl
argument-codes b i w held (a ∷ l) =
    ap₂ ◌∷◌ (argument-either b i Coded w a (held a) refl) (argument-codes b i w held l)

arguments_wide :
    (b : Bytes) (i : ℕ) → ((j : ℕ) → j < i → Wide (sort (tree b j))) → (l : List ℕ) →
    AllWide (sorts (forest (tree b) (arguments i l)))
unfolding arguments forest sort
arguments_wide b i wide [] = tt
arguments_wide b i wide (a ∷ l) =
    (argument-either b i (λ n s. Wide s) [] a (wide a) tt, arguments_wide b i wide l)

-- ---- the records of a book

tree_wide :
    (b : Bytes) (i : ℕ) → layout_ok i (record_of b i) ≡ true → ((j : ℕ) → j < i → Wide (sort (tree b j))) →
    Wide (sort (tree b i))
tree_wide b i ok below =
    rw (tree-node b i) (record_wide i (record_of b i) _ (laid i (record_of b i) ok) (arguments_wide b i below _))

pub wide_below :
    (b : Bytes) (i : ℕ) → ((j : ℕ) → j < i → layout_ok j (record_of b j) ≡ true) → (j : ℕ) → j < i →
    Wide (sort (tree b j))
wide_below b zero ok j h = absurd (omega arith)
wide_below b (suc i) ok j h =
    tree_wide b j (ok j h) (λ a l. wide_below b i (λ x y. ok x (omega arith)) a (omega arith))

pub sorting-tree :
    (b : Bytes) (i : ℕ) (w : Bytes) → SortsBelow i b w → layout_ok i (record_of b i) ≡ true →
    sorting i w (record_of b i) ≡ verdict (tree b i)
sorting-tree b i w below ok =
    rw (tree-node b i)
    (record_sorted i (record_of b i) _ w (laid i (record_of b i) ok)
    (argument-codes b i w below.held _)
    (arguments_wide b i (wide_below b i below.laid) _))
