-- The two sides of an equality as polynomials in a stack of areas, which is empty before: what `equal` asks and leaves.
-- The first side is walked in the lowest area, the second above it.
use Rattle.std.specs.Prelude.{Ok, Err}
use mathlib.Core.Path.{◌≡◌, sym, ap, ◌∙◌}
use mathlib.Core.List.{[], ◌∷◌}
use Prim.Native.Nat.{ℕ, ◌≤◌, ◌<◌}
use native.Mathlib.Omega.{arith}
use lib.Dec.{lit≤}
use lib.IntN.{pos}
use lib.ListN.{length, replicate, length-replicate}
use Rattle.numbers.specs.Rational.{Rational, whole}
use Rattle.numbers.specs.Bytes.{Bytes}
use Rattle.terms.specs.Book.{count, tree}
use Rattle.rules.specs.Refusal.{Result, ◌>>=◌}
use Rattle.rules.specs.declared.refusal.Refusal.{Refusal}
use Rattle.rules.specs.Limits.{limited}
use Rattle.rules.specs.Memory.Parts.{Laid}
use Rattle.index_map.specs.declared.combination.Walked as by_value
use Rattle.index_map.specs.IndexMap.{Map}
use Rattle.index_map.specs.Memory.Answers.{Has, comb_with}
use Rattle.polynomial.specs.Polynomial.{Monomial}
use Rattle.polynomial.specs.Memory.PolynomialArea.{stack_bytes, Stacked, StackHas, Walks}
use Rattle.polynomial_walk.specs.PolynomialTerms.{from_term}
use Rattle.polynomial_walk.specs.Memory.PolynomialNodes.{TermPre, TermWalks}
use Rattle.poly_simp.specs.Memory.PolynomialSteps.{stack_size, BothWalked, differs, DiffersLeft}
use Rattle.poly_simp.specs.Memory.PolynomialSteps.{equal_sides}
use Rattle.rules.proofs.Results.{next, ends}
use Rattle.polynomial.proofs.ProductEntries.{ClearSays}
use Rattle.polynomial.proofs.StackAreas.{stack_none, stack-less}
use Rattle.polynomial_walk.proofs.PolynomialTermWalks.{lent_above, back_above, lent_length, lent-empty, back-length}
use Rattle.polynomial_walk.proofs.PolynomialTermWalks.{back-held, small}
use Rattle.polynomial_walk.proofs.PolynomialFactorWalks.{from_none, none_pre, none_fills}

-- ---- one side, in a stack that is empty so far

module _
    {b w : Bytes} (empty : Stacked b w []) (room : 30400 ≤ length w) {begun : by_value.Walked} {v : ℕ}
    (none : begun ≡ from_none v) {one : Rational} (unit : one ≡ whole (pos 1)) where
  pub side_pre : {id : ℕ} → Laid b → id < count b → TermPre b w id one begun.sum 0
  side_pre laid inside =
      none_pre empty (omega arith) none unit laid inside (record { deep = lit≤ tt; high = omega arith })

  pub side-filled :
      (id l : ℕ) {w' : Bytes} {r : Result by_value.Walked} → TermWalks b w w' id one begun l 0 r →
      Walks b w' r (from_term (limited l) (tree b id) v)
  unfolding from_term
  side-filled id l fills = none_fills empty (omega arith) none unit id l 0 fills

-- ---- a stack of zeros

module _ (n : ℕ) {w : Bytes} (zeros : w ≡ replicate n 0) where
  pub zeros-length : length w ≡ n
  zeros-length = ap length zeros ∙ length-replicate {A = ℕ} n 0

  pub zeros-stack : {b : Bytes} → Stacked b w []
  zeros-stack = stack_none (zeros ∙ ap (λ k. replicate k 0) (sym zeros-length))

  pub zeros-again : {b w' : Bytes} → Stacked b w' [] → length w' ≡ length w → w' ≡ w
  unfolding stack_bytes
  zeros-again t same = t.bytes ∙ ap (λ k. replicate k 0) (same ∙ zeros-length) ∙ sym zeros

-- ---- `equal`

module _ {w₀ : Bytes} (zeros : w₀ ≡ replicate stack_size 0) where
  -- one is the number that the code has for 1, and begun a walk from nothing
  module _
      (b : Bytes) {one : Rational} (unit : one ≡ whole (pos 1)) {begun : by_value.Walked} {visits : ℕ}
      (none : begun ≡ from_none visits) where
    pub first_pre : {t : ℕ} → Laid b → t < count b → TermPre b w₀ t one begun.sum 0
    first_pre laid inside = side_pre (zeros-stack stack_size zeros) (omega (arith, zeros-length stack_size zeros)) none unit laid inside

    module _ (l t : ℕ) where
      first :
          {w₁ : Bytes} {r : Result by_value.Walked} → TermWalks b w₀ w₁ t one begun l 0 r →
          Walks b w₁ r (from_term (limited l) (tree b t) visits)
      first walked = side-filled (zeros-stack stack_size zeros) (omega (arith, zeros-length stack_size zeros)) none unit t l walked

      -- the answer r, and the bytes w that are left
      abbrev Sides : ℕ → ℕ → Result ℕ → Bytes → Type 0
      Sides sort s r w = (r ≡ equal_sides (limited l) sort (tree b t) (tree b s) visits) × (w ≡ w₀)

      pub first_refused :
          (sort s : ℕ) {w₁ : Bytes} {r : Refusal} → TermWalks b w₀ w₁ t one begun l 0 (Err r) →
          length w₁ ≡ length w₀ → Sides sort s (Err r) w₁
      unfolding equal_sides
      first_refused sort s {w₁} walked same =
          let f = first walked in
          let left : Stacked b w₁ ([] ∷ []) = rw (← f.is.1) f.held in
          (sym (ends _ f.is.0), zeros-again stack_size zeros (stack-less [] left) same)

      -- the first side is walked
      module _
          {w₁ : Bytes} {p : by_value.Walked} (walked : TermWalks b w₀ w₁ t one begun l 0 (Ok p))
          (same : length w₁ ≡ length w₀) where
        room : 30400 ≤ length (lent_above w₁)
        room = omega (arith, lent_length w₁, same, zeros-length stack_size zeros)

        after_first :
            (sort s : ℕ) →
            equal_sides (limited l) sort (tree b t) (tree b s) visits
            ≡ (from_term (limited l) (tree b s) p.visits
            >>= λ q. differs (limited l) sort (comb_with p.sum (first walked).map) q.sum q.visits)
        unfolding equal_sides
        after_first sort s = next _ (first walked).is.0

        pub second_pre :
            {begun' : by_value.Walked} → begun' ≡ from_none p.visits → {s : ℕ} → Laid b → s < count b →
            TermPre b (lent_above w₁) s one begun'.sum 0
        second_pre none' laid inside = side_pre (lent-empty (first walked).held) room none' unit laid inside

        -- and the second, which leaves y above the first
        module _ (y : Bytes) (long : length y ≡ length (lent_above w₁)) where
          back_long : length (back_above w₁ y) ≡ length w₀
          back_long = back-length w₁ y (omega (arith, same, zeros-length stack_size zeros)) long ∙ same

          pub first_area : StackHas 0 (back_above w₁ y) × (p.sum.len ≤ 64)
          first_area = let f = first walked in (omega (arith, back_long, zeros-length stack_size zeros), small f.held f.is.1)

          module _ {begun' : by_value.Walked} (none' : begun' ≡ from_none p.visits) (s : ℕ) where
            second :
                {r : Result by_value.Walked} → TermWalks b (lent_above w₁) y s one begun' l 0 r →
                Walks b y r (from_term (limited l) (tree b s) p.visits)
            second walked' = side-filled (lent-empty (first walked).held) room none' unit s l walked'

            pub second_refused :
                (sort : ℕ) {r : Refusal} → TermWalks b (lent_above w₁) y s one begun' l 0 (Err r) → {w₂ : Bytes} →
                ClearSays (back_above w₁ y) 0 p.sum.len w₂ → length w₂ ≡ length (back_above w₁ y) →
                Sides sort s (Err r) w₂
            second_refused sort walked' cleared kept =
                let f = first walked in
                let g = second walked' in
                let up : Stacked b y ([] ∷ []) = rw (← g.is.1) g.held in
                let down = cleared b _ (back-held f.held long up) (omega arith) f.is.1.size in (
                  sym (after_first sort s ∙ ends _ g.is.0),
                  zeros-again stack_size zeros (stack-less [] (stack-less ([] ∷ []) down)) (kept ∙ back_long),
                )

            module _ {q : by_value.Walked} (walked' : TermWalks b (lent_above w₁) y s one begun' l 0 (Ok q)) where
              both : Stacked b (back_above w₁ y) ((first walked).map ∷ (second walked').map ∷ [])
              both = back-held (first walked).held long (second walked').held

              pub both-walked : BothWalked p.sum q.sum (back_above w₁ y)
              both-walked = (b, (_, (_, (both, ((first walked).is.1, (second walked').is.1)))))

              pub sides-differ :
                  (sort : ℕ) {w₂ : Bytes} {x : Result ℕ} →
                  ((b : Bytes) (u v : Map Monomial) → Stacked b (back_above w₁ y) (u ∷ v ∷ []) → Has p.sum u →
                  Has q.sum v → (l : ℕ) →
                  DiffersLeft b w₂ x (differs (limited l) sort (comb_with p.sum u) (comb_with q.sum v) q.visits)) →
                  length w₂ ≡ length (back_above w₁ y) → Sides sort s x w₂
              sides-differ sort made kept =
                  let g = second walked' in
                  let d = made b _ _ both (first walked).is.1 g.is.1 l in
                  (d.is ∙ sym (after_first sort s ∙ next _ g.is.0), zeros-again stack_size zeros d.empty (kept ∙ back_long))
