-- The difference of two polynomials in a stack of areas: what `differ` asks and leaves.
use Rattle.std.specs.Prelude.{Ok, Err}
use mathlib.Core.Path.{◌≡◌, refl, sym, ◌∙◌}
use mathlib.Core.Bool.{Bool, true, false}
use mathlib.Core.List.{[], ◌∷◌}
use Prim.Native.Nat.{ℕ, ◌≤◌}
use native.Mathlib.Omega.{arith}
use lib.ListN.{length}
use Rattle.numbers.specs.Rational.{Rational, Proper, is_zero}
use Rattle.numbers.specs.Bytes.{Bytes}
use Rattle.rules.specs.Refusal.{Result, ◌>>=◌, assert}
use Rattle.rules.specs.declared.refusal.Refusal.{Refusal}
use Rattle.rules.specs.declared.refusal.Refusal.TheVariants.{PolynomialsNotEqual}
use Rattle.rules.specs.Limits.{limited}
use Rattle.index_map.specs.IndexMap.{Map, combination, sub}
use Rattle.index_map.specs.Memory.Answers.{Has, comb_with}
use Rattle.polynomial.specs.Polynomial.{Monomial, monomials, is_nought}
use Rattle.polynomial.specs.Memory.PolynomialArea as area
use Rattle.polynomial.specs.Memory.PolynomialArea.{Poly, AllGood, Stacked, StackHas}
use Rattle.poly_simp.specs.Memory.PolynomialSteps.{reduced_by, ReducedLeft, differs, DiffersLeft}
use Rattle.polynomial.proofs.ProductEntries.{ClearSays}
use Rattle.polynomial.proofs.StackAreas.{stack-less, stack-room}
use Rattle.rules.proofs.Results.{ends}
use Rattle.poly_simp.proofs.TurnedEntries.{Subtracts}

-- ---- two polynomials in a stack

module _ {b w : Bytes} {u v : Map Monomial} (t : Stacked b w (u ∷ v ∷ [])) where
  pub two-areas : StackHas 1 w
  two-areas = omega (arith, stack-room t)

  pub first_few : {p : Poly} → Has p u → p.len ≤ 64
  unfolding AllGood
  first_few has = rw has.size t.good.0.few

  pub second_few : {p : Poly} → Has p v → p.len ≤ 64
  unfolding AllGood
  second_few has = rw has.size t.good.1.0.few

-- a stack of one polynomial
pub one_area :
    {b w : Bytes} {m : Map Monomial} {s : Poly} → Stacked b w (m ∷ []) → Has s m → StackHas 0 w × (s.len ≤ 64)
unfolding AllGood
one_area t has = (omega (arith, stack-room t), rw has.size t.good.0.few)

-- ---- `differ`

nought : (m : Map Monomial) (c : Rational) → length m ≡ 0 → is_zero c ≡ true → is_nought (combination m c) ≡ true
nought [] c e z = z
nought (x ∷ m) c e z = absurd (omega arith)

not-nought :
    (m : Map Monomial) (c : Rational) → (length m ≡ 0 → is_zero c ≡ false) → is_nought (combination m c) ≡ false
not-nought [] c h = h refl
not-nought (x ∷ m) c h = refl

-- p and q are reduced in their areas, to p' and q'
module _
    {w₀ w₁ w₂ : Bytes} (p q p' q' : Poly) (sort : ℕ) (first : ReducedLeft 0 p sort w₀ w₁ p')
    (second : ReducedLeft 1 q sort w₁ w₂ q') where
  module _
      {b : Bytes} {u v : Map Monomial} (t : Stacked b w₀ (u ∷ v ∷ [])) (has : Has p u) (has' : Has q v) where
    abbrev entries : Map Monomial
    entries = (reduced_by sort (comb_with p u)).entries

    abbrev entries' : Map Monomial
    entries' = (reduced_by sort (comb_with q v)).entries

    one : Stacked b w₁ (entries ∷ v ∷ [])
    one = (first b (u ∷ v ∷ []) t (omega arith) has).0

    two : Stacked b w₂ (entries ∷ entries' ∷ [])
    two = (second b (entries ∷ v ∷ []) one (omega arith) has').0

    one_has : Has p' entries
    one_has = (first b (u ∷ v ∷ []) t (omega arith) has).1.1

    two-has : Has q' entries'
    two-has = (second b (entries ∷ v ∷ []) one (omega arith) has').1.1

    pub reduced-ready :
        StackHas 1 w₂ × (((p'.len ≤ 64) × (q'.len ≤ 64)) × (Proper p'.constant × Proper q'.constant))
    reduced-ready =
        (two-areas two, ((first_few two one_has, second_few two two-has), (one_has.proper, two-has.proper)))

    pub difference :
        {w₃ : Bytes} {r : Result Poly} → Subtracts w₂ w₃ p' q' r → (l : ℕ) →
        area.Combines b w₃ r
        (sub monomials (limited l) (reduced_by sort (comb_with p u)) (reduced_by sort (comb_with q v)))
    difference subtracted l =
        rw ((first b (u ∷ v ∷ []) t (omega arith) has).1.0, (second b (entries ∷ v ∷ []) one (omega arith) has').1.0)
        at (subtracted b entries entries' two one_has two-has l)

    pub clear_ready : {w₃ : Bytes} {s : Poly} → Subtracts w₂ w₃ p' q' (Ok s) → StackHas 0 w₃ × (s.len ≤ 64)
    clear_ready subtracted = let d = difference subtracted 0 in one_area d.held d.is.1

  -- what is left in w, with the answer x
  module _ (n : ℕ) where
    abbrev pub Differs : Bytes → Result ℕ → Type 0
    Differs w x =
        (b : Bytes) (u v : Map Monomial) → Stacked b w₀ (u ∷ v ∷ []) → Has p u → Has q v → (l : ℕ) →
        DiffersLeft b w x (differs (limited l) sort (comb_with p u) (comb_with q v) n)

    pub differ-refused : {w₃ : Bytes} {r : Refusal} → Subtracts w₂ w₃ p' q' (Err r) → Differs w₃ (Err r)
    unfolding differs
    differ-refused subtracted b u v t has has' l =
        let d = difference t has has' subtracted l in
        record { is = sym (ends _ d.is.0); empty = stack-less [] (rw (← d.is.1) d.held) }

    -- the difference is made
    module _
        {w₃ : Bytes} {s : Poly} (subtracted : Subtracts w₂ w₃ p' q' (Ok s)) {w₄ : Bytes}
        (cleared : ClearSays w₃ 0 s.len w₄) where
      tested :
          (t : Bool) (b : Bytes) (u v : Map Monomial) → Stacked b w₀ (u ∷ v ∷ []) → Has p u → Has q v →
          (l : ℕ) →
          ((m : Map Monomial) → s.len ≡ length m → is_nought (combination m s.constant) ≡ t) →
          DiffersLeft b w₄ (assert t PolynomialsNotEqual >>= λ x. Ok n)
          (differs (limited l) sort (comb_with p u) (comb_with q v) n)
      unfolding differs ◌>>=◌
      tested z b u v t has has' l test =
          let d = difference t has has' subtracted l in
          record {
            is = rw (d.is.0, test d.map d.is.1.size);
            empty = stack-less [] (cleared b _ d.held (omega arith) d.is.1.size);
          }

      pub differ-equal : s.len ≡ 0 → is_zero s.constant ≡ true → Differs w₄ (Ok n)
      unfolding assert ◌>>=◌
      differ-equal none zero b u v t has has' l =
          tested true b u v t has has' l (λ m e. nought m s.constant (sym e ∙ none) zero)

      pub differ-unequal : (s.len ≡ 0 → is_zero s.constant ≡ false) → Differs w₄ (Err PolynomialsNotEqual)
      unfolding assert ◌>>=◌
      differ-unequal some b u v t has has' l =
          tested false b u v t has has' l (λ m e. not-nought m s.constant (λ z. some (e ∙ z)))
