-- A node has its record's number, and only the node of an operation's record is an operation; so the term of a record
-- has that record's number.
use mathlib.Core.Path.{◌≡◌, refl, ◌∙◌, ap}
use mathlib.Core.Bool.{Bool, true, false, ◌&&◌}
use Prim.Native.Nat.{ℕ}
use borrow.Author.Tests.{eqb-true}
use lib.Dec.{eqb}
use Rattle.numbers.specs.Bytes.{Bytes, signed}
use Rattle.numbers.specs.Choice.{when◌then◌else◌}
use Rattle.terms.specs.Term.{Term, Terms, record_number}
use Rattle.terms.specs.Term.Term.{integer, rational, bitvector, atom, op}
use Rattle.terms.specs.Book.{record_of, kind, operator, field1, field2, rational_of, integer_of, is_number, is_vector}
use Rattle.terms.specs.Book.{atom_sort, node, tree}
use Rattle.terms.proofs.Trees.{tree-node}

-- what the node of record i with bytes r and arguments us is
pub record Node (i : ℕ) (r : Bytes) (us : Terms) (t : Term) : Type 0 where
  pub numbered : record_number t ≡ i
  pub operation : (j o : ℕ) (ts : Terms) → t ≡ op j o ts → (kind r ≡ 5) × (us ≡ ts)

pub node_is : (i : ℕ) (r : Bytes) (us : Terms) → Node i r us (node i r us)
unfolding node when◌then◌else◌
node_is i r us =
    go (eqb (kind r) 1 && is_number (integer_of r)) (eqb (kind r) 2 && is_number (rational_of r))
    (eqb (kind r) 3 && is_vector r) (eqb (kind r) 5) refl
  where
    go :
        (s t u v : Bool) → eqb (kind r) 5 ≡ v →
        Node i r us (when s then integer i (signed 8 (field1 r)) else when t then rational i (rational_of r) else when u then bitvector i (field1 r) (field2 r) else when v then op i (operator r) us else atom i (atom_sort r) (field1 r))
    go true t u v k = record { numbered = refl; operation = λ j o ts e. (cc, cc) }
    go false true u v k = record { numbered = refl; operation = λ j o ts e. (cc, cc) }
    go false false true v k = record { numbered = refl; operation = λ j o ts e. (cc, cc) }
    go false false false true k =
        record { numbered = refl; operation = λ j o ts e. (eqb-true (kind r) 5 k, cc) }
    go false false false false k = record { numbered = refl; operation = λ j o ts e. (cc, cc) }

pub record_number-tree : (b : Bytes) (i : ℕ) → record_number (tree b i) ≡ i
record_number-tree b i = ap record_number (tree-node b i) ∙ (node_is i (record_of b i) _).numbered
