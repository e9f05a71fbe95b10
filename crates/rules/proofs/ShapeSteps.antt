-- Shapes of clauses and terms.
--     literal-found, no_literal-found, literal_is       the only literal
--     same-records       two terms are the same where their record numbers are
--     pair_is       the arguments of (o x y)
--     both-asked       a pair from each of two terms
use mathlib.Core.Path.{◌≡◌, refl, sym, ◌∙◌, ap}
use mathlib.Core.List.{List, [], ◌∷◌}
use Rattle.std.specs.Prelude.{Option, Some, None}
use Prim.Native.Nat.{ℕ, ◌/◌}
use native.Mathlib.Omega.{arith}
use lib.Dec.{eqb}
use lib.ListN.{length, get_or}
use Rattle.numbers.specs.Bytes.{Bytes, le}
use Rattle.terms.specs.Term.{Term, same, binary}
use Rattle.terms.specs.Book.{tree}
use Rattle.terms.specs.Readers.{Children, found, found_two}
use Rattle.terms.proofs.NumberedNodes.{record_number-tree}
use Rattle.rules.specs.Refusal.{or_else}
use Rattle.std.specs.Prelude.{Ok, Err}
use Rattle.rules.specs.declared.refusal.Refusal.TheVariants.{WrongLengthOfClause, TermOfWrongForm}
use Rattle.rules.specs.Shapes.{only_literal, binary_err, both}
use Rattle.rules.specs.Memory.ShapeRecords.{pair_of, found_bounds}
use Rattle.rules.specs.Memory.Parts.{numbers_in, named, terms_in}
use Rattle.rules.proofs.RunParts.{length-numbers_in, number_at_lem}

-- ---- the only literal

pub one_named : (b : Bytes) (l : List ℕ) → length l ≡ 1 → Ok (tree b (get_or l 0 0)) ≡ only_literal (named b l)
unfolding only_literal named
one_named b [] h = absurd (omega arith)
one_named b (i ∷ []) h = refl
one_named b (i ∷ j ∷ l) h = absurd (omega arith)

pub more-named : (b : Bytes) (l : List ℕ) → (length l ≡ 1 → ⊥) → Err WrongLengthOfClause ≡ only_literal (named b l)
unfolding only_literal named
more-named b [] h = refl
more-named b (i ∷ []) h = absurd (h refl)
more-named b (i ∷ j ∷ l) h = refl

module _ (part : Bytes) where
  abbrev pub OnlyIn : Option ℕ → Type 0
  OnlyIn r = (b : Bytes) → or_else (found b r) WrongLengthOfClause ≡ only_literal (terms_in b part)

  pub literal-found : {x : ℕ} → length part / 4 ≡ 1 → x ≡ le 2 part 2 → OnlyIn (Some x)
  unfolding or_else
  literal-found {x} n e b =
      let place : x ≡ get_or (numbers_in part) 0 0 = e ∙ sym (number_at_lem part 0 0 (omega arith)) in
      ap (λ (i : ℕ). Ok (tree b i)) place ∙ one_named b (numbers_in part) (length-numbers_in part ∙ n)

  pub no_literal-found : (length part / 4 ≡ 1 → ⊥) → OnlyIn None
  unfolding or_else
  no_literal-found n b = more-named b (numbers_in part) (λ h. n (sym (length-numbers_in part) ∙ h))

  pub literal_is :
      {r : Option ℕ} {x : ℕ} (b : Bytes) → OnlyIn r → r ≡ Some x → only_literal (terms_in b part) ≡ Ok (tree b x)
  unfolding or_else
  literal_is b h e = sym (h b) ∙ rw e

-- ---- pairs

pub same-records : (b : Bytes) (x y : ℕ) → same (tree b x) (tree b y) ≡ eqb x y
same-records b x y = rw (record_number-tree b x, record_number-tree b y)

-- what the readers found
module _ (b : Bytes) (i o : ℕ) {w : Option (ℕ × ℕ)} (c : Children b i w (binary o (tree b i))) where
  pub pair_is : {x y : ℕ} → w ≡ Some (x, y) → binary_err o (tree b i) ≡ Ok (pair_of b x y)
  unfolding or_else
  pair_is e = ap (λ (p : Option (Term × Term)). or_else p TermOfWrongForm) (sym c.is ∙ ap (found_two b) e)

-- ---- a pair from each of two terms

pub both-asked :
    (p q : Option (ℕ × ℕ)) (r : Option ((ℕ × ℕ) × (ℕ × ℕ))) {m n : Option (Term × Term)} (b : Bytes) →
    ((b : Bytes) → found_bounds b r ≡ both (found_two b p) (found_two b q)) → found_two b p ≡ m → found_two b q ≡ n →
    found_bounds b r ≡ both m n
both-asked p q r b h e f = h b ∙ rw (e, f)
