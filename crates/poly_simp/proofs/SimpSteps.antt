-- `poly_simp` on a prepared work area: the equality's sides are records of the book, its sort is found in the work
-- area, and what stands behind the sorts is lent as an empty stack and comes back as it was.
use Rattle.std.specs.Prelude.{Option, Some, Ok}
use mathlib.Core.Path.{◌≡◌, refl, sym, ap, subst, ◌∙◌}
use mathlib.Core.Bool.{true}
use mathlib.Core.List.{List, [], ◌∷◌, ◌++◌}
use Prim.Native.Nat.{ℕ, ◌-◌, ◌≤◌, ◌<◌}
use native.Mathlib.Omega.{arith}
use borrow.Author.Tests.{ltb-true}
use lib.Dec.{ltb}
use lib.ListN.{length, get_or, take, drop, replicate, length-drop, take-append-drop}
use lib.Seq.{take_all}
use Rattle.numbers.specs.Bytes.{Bytes}
use Rattle.terms.specs.Operator.{Equals}
use Rattle.terms.specs.Term.{Term, sort, sort_code, record_number, binary}
use Rattle.terms.specs.Term.Terms.{nil, ◌▹◌}
use Rattle.terms.specs.Book.{count, record_of, tree, forest, arguments, numbers, arg_bytes, all_below, earlier}
use Rattle.terms.specs.Readers.{Children, found_two, arguments_of, as_op}
use Rattle.terms.proofs.NumberedNodes.{record_number-tree}
use Rattle.terms.proofs.Readings.{binary-shape}
use Rattle.terms.proofs.RecordReadings.{arguments_of_record}
use Rattle.terms.proofs.RecordBytes.{earlier-before}
use Rattle.numbers.proofs.Truths.{both}
use Rattle.rules.specs.Refusal.{Result, ◌>>=◌, assert}
use Rattle.rules.specs.declared.refusal.Refusal.TheVariants.{PolynomialsNotEqual}
use Rattle.rules.specs.Limits.{Limits}
use Rattle.index_map.specs.IndexMap.{sub}
use Rattle.rules.specs.Shapes.{Clause, only_literal, binary_err}
use Rattle.rules.specs.Memory.ShapeRecords.{pair_of}
use Rattle.rules.specs.Memory.Parts.{named, numbers_in, Inside, Laid, Ready}
use Rattle.polynomial.specs.Polynomial.{Polynomial, monomials, is_nought}
use Rattle.polynomial_walk.specs.PolynomialTerms.{from_term}
use Rattle.poly_simp.specs.PolySimp.{reduced, poly_simp}
use Rattle.poly_simp.specs.Memory.PolynomialSteps.{reduced_by, differs, equal_sides}
use Rattle.book.proofs.ArgumentsBelow.{args-below}
use Rattle.rules.proofs.ShapeSteps.{OnlyIn, literal_is}
use Rattle.poly_simp.proofs.SortBounds.{sort-small, reduced_is}

-- ---- the records

-- the records of equal terms are one
same_record : (b : Bytes) (a x : ℕ) → tree b a ≡ tree b x → a ≡ x
same_record b a x e = sym (record_number-tree b a) ∙ ap record_number e ∙ record_number-tree b x

only-inside :
    (b : Bytes) (l : List ℕ) (x : ℕ) → only_literal (named b l) ≡ Ok (tree b x) → all_below (count b) l ≡ true →
    x < count b
unfolding only_literal named all_below
only-inside b [] x e h = let z : ◌≡◌ {A = ℕ} 0 1 = cc in absurd (omega arith)
only-inside b (i ∷ []) x e h =
    let same : tree b i ≡ tree b x = cc in
    subst (λ j. j < count b) (same_record b i x same) (ltb-true i (count b) (both (ltb i (count b)) _ h).0)
only-inside b (i ∷ j ∷ l) x e h = let z : ◌≡◌ {A = ℕ} 0 1 = cc in absurd (omega arith)

pub literal-inside :
    (b part : Bytes) {r : Option ℕ} {x : ℕ} → OnlyIn part r → r ≡ Some x → Inside b part → x < count b
literal-inside b part found e inside = only-inside b (numbers_in part) _ (literal_is part b found e) inside

-- two arguments of a record that is laid out as a term
two-below :
    (b : Bytes) (i x y : ℕ) (l : List ℕ) → all_below i l ≡ true →
    forest (tree b) (arguments i l) ≡ tree b x ▹ tree b y ▹ nil → (x < i) × (y < i)
unfolding forest arguments all_below
two-below b i x y [] h e = let z : ◌≡◌ {A = ℕ} 0 1 = cc in absurd (omega arith)
two-below b i x y (a ∷ []) h e = let z : ◌≡◌ {A = ℕ} 0 1 = cc in absurd (omega arith)
two-below b i x y (a ∷ c ∷ l) h e =
    let rest = both (ltb a i) _ h in
    let first : a < i = ltb-true a i rest.0 in
    let second : c < i = ltb-true c i (both (ltb c i) (all_below i l) rest.1).0 in
    let same : tree b (earlier i a) ≡ tree b x = cc in
    let same' : tree b (earlier i c) ≡ tree b y = cc in (
      subst (λ j. j < i) (sym (earlier-before i a first) ∙ same_record b (earlier i a) x same) first,
      subst (λ j. j < i) (sym (earlier-before i c second) ∙ same_record b (earlier i c) y same') second,
    )

pub sides-inside :
    (b : Bytes) (i o : ℕ) {w : Option (ℕ × ℕ)} {x y : ℕ} → Children b i w (binary o (tree b i)) → w ≡ Some (x, y) →
    Laid b → i < count b → (x < count b) × (y < count b)
unfolding as_op
sides-inside b i o {x = x} {y = y} c e laid inside =
    let args = arg_bytes (record_of b i) in
    let is = arguments_of_record b i refl in
    let all = args-below b i inside (laid i inside) args (sym is) in
    let shape = binary-shape o (tree b i) (pair_of b x y) (sym c.is ∙ ap (found_two b) e) in
    let lower = two-below b i x y (numbers args) all (sym is ∙ ap arguments_of shape) in
    (omega (arith, lower.0), omega (arith, lower.1))

-- ---- the work area

module _ {b w : Bytes} (ready : Ready b w) where
  pub lent-zeros : take (length w - 2048) (drop 2048 w) ≡ replicate 63488 0
  lent-zeros = take_all (length w - 2048) (drop 2048 w) (simp length-drop (omega arith)) ∙ ready.zeros

  pub lent-sort : {t sort' : ℕ} → t < count b → sort' ≡ get_or w t 0 → sort' ≤ 33
  lent-sort {t} inside is = rw (is, ready.sorts.held t inside) (sort-small b ready.sorts.laid t inside)

pub lent_same :
    (w : Bytes) {y : Bytes} → y ≡ take (length w - 2048) (drop 2048 w) →
    take 2048 w ++ (y ++ drop (length w - 2048) (drop 2048 w)) ≡ w
lent_same w is =
    ap (λ z. take 2048 w ++ (z ++ drop (length w - 2048) (drop 2048 w))) is
    ∙ ap (λ z. take 2048 w ++ z) (take-append-drop (length w - 2048) (drop 2048 w))
    ∙ take-append-drop 2048 w

-- ---- the verdict

module _
    (l : Limits) (n : ℕ) (conclusion : Clause) {phi : Term} (literal : only_literal conclusion ≡ Ok phi) (b : Bytes)
    (t s : ℕ) (pair : binary_err Equals phi ≡ Ok (pair_of b t s)) where
  sides-are :
      Laid b → t < count b →
      poly_simp l conclusion n ≡ equal_sides l (sort_code (sort (tree b t))) (tree b t) (tree b s) n
  unfolding poly_simp equal_sides differs ◌>>=◌
  sides-are laid inside =
      let same : reduced (sort (tree b t)) ≡ reduced_by (sort_code (sort (tree b t))) =
      λ i p. reduced_is b laid t inside p i in
      rw (literal, pair)
      (ap
      (λ (f : Polynomial → Polynomial).
      from_term l (tree b t) n >>= λ p. from_term l (tree b s) p.visits >>= λ q.
      sub monomials l (f p.sum) (f q.sum) >>= λ d.
      assert (is_nought d) PolynomialsNotEqual >>= λ u. Ok q.visits)
      same)

  pub sides-verdict :
      {w : Bytes} → Ready b w → t < count b → {x : Result ℕ} {sort' : ℕ} → sort' ≡ get_or w t 0 →
      x ≡ equal_sides l sort' (tree b t) (tree b s) n → x ≡ poly_simp l conclusion n
  sides-verdict ready inside {x} {sort'} is made =
      let code : sort' ≡ sort_code (sort (tree b t)) = is ∙ ready.sorts.held t inside in
      made ∙ ap (λ k. equal_sides l k (tree b t) (tree b s) n) code ∙ sym (sides-are ready.sorts.laid inside)
