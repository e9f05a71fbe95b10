-- `la_tautology`: a literal whose disequality has no atoms and always holds (`tautology_of`), or a disjunction of two
-- bounds.
--     tautology-refused, tautology_clear, tautology-holds, tautology_fails       the first form, in area 1
--     phi-inside       the only literal
use Rattle.index_map.specs.Memory.Answers.{comb_with}
use mathlib.Core.Path.{◌≡◌, sym, ap, ◌∙◌}
use mathlib.Core.Bool.{Bool, true, false}
use mathlib.Core.List.{List, [], ◌∷◌}
use Prim.Native.Nat.{ℕ, ◌<◌}
use native.Mathlib.Omega.{arith}
use Rattle.numbers.specs.Bytes.{Bytes}
use Rattle.terms.specs.Term.{record_number}
use Rattle.terms.specs.Book.{count, tree, all_below}
use Rattle.rules.specs.Refusal.{Result, ◌>>=◌, assert}
use Rattle.std.specs.Prelude.{Ok, Err}
use Rattle.rules.specs.declared.refusal.Refusal.TheVariants.{DisequalityIsNotTautology}
use Rattle.rules.specs.Limits.{limited}
use Rattle.linear_arithmetic.specs.LinearArithmetic.{is_tautology}
use Rattle.disequality.specs.Disequality.{Disequality, disequality, disequality_of}
use Rattle.rules.specs.Shapes.{only_literal}
use Rattle.linear_comb.specs.Memory.WorkArea.{area_of, with_area, comb_of, Area, AreaCount}
use Rattle.index_map.specs.Memory.Entries.{slots, stored, Kept, blanked}
use Rattle.rules.specs.Memory.Parts.{Ready, numbers_in, named, terms_in, Inside}
use Rattle.linear_arithmetic.specs.Memory.LinearSteps.{tautology_of}
use Rattle.disequality.specs.Memory.DisequalitySteps.{LiteralLeft}
use Rattle.disequality.specs.declared.disequality.Disequality as by_value
use Rattle.terms.proofs.NumberedNodes.{record_number-tree}
use Rattle.index_map.proofs.StoredEntries.{held-length, kept_small}
use Rattle.rules.proofs.RunParts.{below_at}
use Rattle.rules.specs.declared.refusal.Refusal.{Refusal}
use Rattle.rules.proofs.Results.{next, ends}
use Rattle.linear_comb.proofs.AreaSteps.{kept-sum, sum-entries, only-area}
use Rattle.linear_arithmetic.proofs.Emptied.{emptied, cleared}

-- ---- the first form

abbrev literal_of : Bytes → ℕ → ℕ → ℕ → Result Disequality
literal_of b l phi v = disequality_of (limited l) (tree b phi) v

-- t says whether d always holds
abbrev Tells : by_value.Disequality → Bool → Type 0
Tells d t =
    (b w : Bytes) → Kept b w d.sum.len →
    t ≡ is_tautology (disequality d.operator (comb_of b w d.sum) d.visits)

-- w with n entries of area 1 cleared
abbrev without : ℕ → Bytes → Bytes
without n w = with_area 1 (blanked n (area_of 1 w)) w

-- the literal in record phi, from a work area w that is ready
abbrev Looked : Bytes → Bytes → Bytes → ℕ → ℕ → ℕ → Result by_value.Disequality → Type 0
Looked b w w' phi v l r = LiteralLeft b w w' r (literal_of b l phi v)

module _ {b w w' : Bytes} (phi v l : ℕ) (ready : Ready b w) where
  pub tautology-refused :
      {r : Refusal} → Looked b w w' phi v l (Err r) →
      (Err r ≡ tautology_of (limited l) (tree b phi) v) × (w' ≡ w)
  unfolding tautology_of
  tautology-refused left = (
    sym (ends _ left.is.0),
    emptied ready {j = 1} (omega arith) left.only (left.held.bytes ∙ ap (stored slots) left.is.1),
  )

  module _ {d : by_value.Disequality} (left : Looked b w w' phi v l (Ok d)) where
    kept : Kept b (area_of 1 w') d.sum.len
    kept = (kept-sum left.held left.is.1).kept

    pub tautology_clear : AreaCount 1 d.sum.len w'
    tautology_clear =
        let area : Area 1 w = record { size = ready.size; among = omega arith } in
        (only-area area (held-length left.held) left.only, omega (arith, kept_small kept))

    -- the area was cleared
    module _ {t : Bool} (told : Tells d t) {w'' : Bytes} (clear : w'' ≡ without d.sum.len w') where
      same : w'' ≡ w
      same = cleared ready {j = 1} (omega arith) left.only left.held d.sum.len left.is.1.size clear

      asked :
          {s : Bool} → t ≡ s →
          tautology_of (limited l) (tree b phi) v ≡ (assert s DisequalityIsNotTautology >>= λ u. Ok d.visits)
      unfolding tautology_of
      asked h =
          next _ left.is.0
          ∙ ap (λ z. assert z DisequalityIsNotTautology >>= λ u. Ok d.visits)
          (ap (λ m. is_tautology (disequality d.operator (comb_with d.sum m) d.visits))
          (sym (sum-entries left.held left.is.1))
          ∙ sym (told b (area_of 1 w') kept) ∙ h)

      pub tautology-holds : t ≡ true → (Ok d.visits ≡ tautology_of (limited l) (tree b phi) v) × (w'' ≡ w)
      unfolding assert ◌>>=◌
      tautology-holds h = (sym (asked h), same)

      pub tautology_fails :
          t ≡ false →
          (Err DisequalityIsNotTautology ≡ tautology_of (limited l) (tree b phi) v) × (w'' ≡ w)
      unfolding assert ◌>>=◌
      tautology_fails h = (sym (asked h), same)

-- ---- the rule

-- the only literal is in record phi of the book
pub phi-inside :
    (b literals : Bytes) (phi : ℕ) → only_literal (terms_in b literals) ≡ Ok (tree b phi) → Inside b literals →
    phi < count b
unfolding only_literal named
phi-inside b literals phi = go (numbers_in literals)
  where
    go :
        (l : List ℕ) → only_literal (named b l) ≡ Ok (tree b phi) → all_below (count b) l ≡ true → phi < count b
    go [] e h = let z : ◌≡◌ {A = ℕ} 0 1 = cc in omega arith
    go (i ∷ []) e h =
        let one : tree b i ≡ tree b phi = cc in
        let here : i ≡ phi = sym (record_number-tree b i) ∙ ap record_number one ∙ record_number-tree b phi in
        rw (← here) (below_at (count b) (i ∷ []) 0 0 h (omega arith))
    go (i ∷ j ∷ l) e h = let z : ◌≡◌ {A = ℕ} 0 1 = cc in omega arith
