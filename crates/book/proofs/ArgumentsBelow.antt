-- The arguments of a record that is laid out as a term have smaller numbers than it (`arguments-below`, `args-below`), and are the
-- terms of their own numbers (`forest-own`).
use mathlib.Core.Path.{◌≡◌, refl, sym, ap, subst}
use mathlib.Core.Bool.{Bool, true, false, cond}
use mathlib.Core.List.{List, [], ◌∷◌}
use Prim.Native.Nat.{ℕ, ◌<◌}
use native.Mathlib.Omega.{arith}
use borrow.Author.Tests.{ltb-true}
use lib.Dec.{ltb}
use Rattle.numbers.specs.Bytes.{Bytes}
use Rattle.terms.specs.Term.{Term, Terms, record_number}
use Rattle.terms.specs.Book.{count, record_of, arg_bytes, tree, numbers, arguments, earlier, nothing, forest, all_below}
use Rattle.terms.specs.Book.{layout_ok}
use Rattle.terms.specs.Readers.{arguments_of}
use Rattle.numbers.proofs.Truths.{both}
use Rattle.terms.proofs.Nodes.{Laid, an_integer, a_rational, a_vector, an_atom, an_operation, laid}
use Rattle.book.proofs.WellFormed.{operates}
use Rattle.terms.proofs.NumberedNodes.{record_number-tree}
use Rattle.book.proofs.BookTerms.{Each}
use Rattle.terms.proofs.RecordReadings.{arguments_of_record}

-- ---- the arms

-- t is the term of its own number
abbrev pub Own : Bytes → Term → Type 0
Own b t = tree b (record_number t) ≡ t

-- the terms of a book are those of their own numbers
pub forest-own : (b : Bytes) (l : List ℕ) → Each (Own b) (forest (tree b) l)
unfolding forest
forest-own b [] = tt
forest-own b (a ∷ l) = (ap (tree b) (record_number-tree b a), forest-own b l)

-- ---- what the walk goes on to lies below

abbrev pub Below : ℕ → Terms → Type 0
Below i = Each (λ t. record_number t < i)

-- the arguments of a record that is laid out as a term
layout-below : (i : ℕ) (r : Bytes) → Laid i r → all_below i (numbers (arg_bytes r)) ≡ true
unfolding all_below numbers
layout-below i r (an_integer k e) = rw k
layout-below i r (a_rational k e) = rw k
layout-below i r (a_vector k e) = rw k
layout-below i r (an_atom k e) = rw k
layout-below i r (an_operation k e) = (operates i r e).below

module _ (b : Bytes) (i : ℕ) where
  below_of : (l : List ℕ) → all_below i l ≡ true → Below i (forest (tree b) (arguments i l))
  unfolding forest arguments all_below
  below_of [] e = tt
  below_of (a ∷ l) e =
      let h = both (ltb a i) (all_below i l) e in
      (rw (record_number-tree b (earlier i a), h.0) (ltb-true a i h.0), below_of l h.1)

  of_below : i < count b → (l : List ℕ) → Below i (forest (tree b) (arguments i l)) → all_below i l ≡ true
  unfolding forest arguments all_below
  of_below inside [] h = refl
  of_below inside (a ∷ l) h =
      let lower = subst (λ (x : ℕ). x < i) (record_number-tree b (earlier i a)) h.0 in
      rw (of_below inside l h.1, first (ltb a i) refl lower)
    where
      first : (t : Bool) → ltb a i ≡ t → cond t a nothing < i → ltb a i ≡ true
      first true e h = e
      first false e h = absurd (omega arith)

  module _ (layout : layout_ok i (record_of b i) ≡ true) where
    pub arguments-below : Below i (arguments_of (tree b i))
    arguments-below =
        subst (Below i) (sym (arguments_of_record b i refl))
        (below_of (numbers (arg_bytes (record_of b i))) (layout-below i (record_of b i) (laid i (record_of b i) layout)))

pub args-below :
    (b : Bytes) (id : ℕ) → id < count b → layout_ok id (record_of b id) ≡ true → (args : Bytes) →
    forest (tree b) (arguments id (numbers args)) ≡ arguments_of (tree b id) → all_below id (numbers args) ≡ true
args-below b id inside layout args e =
    of_below b id inside (numbers args) (subst (Below id) (sym e) (arguments-below b id layout))
