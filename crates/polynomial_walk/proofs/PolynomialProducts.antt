-- The factors of a product behind the first: each is walked above the product so far, and the two are multiplied.
-- What is left behind it is the product's rest, from the product that stands there then.
--     factor-below, factor_pre, factor_clear, mul_pre, left_pre       what the steps ask
--     factors-done, factor-refused, product-refused, multiplied       the answers
use Rattle.std.specs.Prelude.{Ok, Err}
use mathlib.Core.Path.{◌≡◌, ◌∙◌}
use mathlib.Core.List.{[], ◌∷◌}
use Prim.Native.Nat.{ℕ, ◌/◌, ◌≤◌, ◌<◌}
use native.Mathlib.Omega.{arith}
use lib.IntN.{pos}
use lib.ListN.{length}
use Rattle.numbers.specs.Rational.{Rational, Proper, whole}
use Rattle.numbers.specs.Bytes.{Bytes}
use Rattle.terms.specs.Term.{Term, Terms}
use Rattle.terms.specs.Term.Terms.{◌▹◌}
use Rattle.terms.specs.Book.{tree, argument_at}
use Rattle.rules.specs.Refusal.{Result}
use Rattle.rules.specs.declared.refusal.Refusal.{Refusal}
use Rattle.rules.specs.Limits.{Limits, limited}
use Rattle.index_map.specs.declared.combination.Walked as by_value
use Rattle.index_map.specs.IndexMap.{Map, Walked, walked, new}
use Rattle.index_map.specs.Memory.Answers.{Has, comb_with, walked_with}
use Rattle.polynomial.specs.Polynomial.{Monomial, Polynomial, mul}
use Rattle.polynomial_walk.specs.PolynomialTerms.{add_term, other_factors}
use Rattle.polynomial.specs.Memory.PolynomialArea.{StackHas, Stacked, Poly, Walks, Combines}
use Rattle.polynomial_walk.specs.Memory.PolynomialNodes.{TermPre, OthersPre, TermWalks}
use Rattle.polynomial.proofs.StackAreas.{stack-less}
use Rattle.rules.proofs.ArgumentsLeft.{args_from, left_none, next-below}
use Rattle.rules.proofs.Results.{next, ends}
use Rattle.polynomial_walk.proofs.PolynomialTermWalks.{lent_above, back_above, lent_length, lent-empty}
use Rattle.polynomial_walk.proofs.PolynomialTermWalks.{back-length, back-held, small}
use Rattle.polynomial.proofs.ProductEntries.{ClearSays}
use Rattle.polynomial_walk.proofs.PolynomialSums.{refused}
use Rattle.polynomial_walk.proofs.PolynomialFactorWalks.{rest_of, left-rest, rest_below, from_none}
use Rattle.polynomial_walk.proofs.PolynomialFactorWalks.{none_pre, none_fills}

-- ---- one factor more

module _ (t : Term) (ts : Terms) (l : Limits) (d : ℕ) (p : Walked Monomial) where
  other-stops :
      {r : Refusal} → add_term t l d (whole (pos 1)) (walked new p.visits) ≡ Err r →
      other_factors (t ▹ ts) l d p ≡ Err r
  unfolding add_term
  other-stops e = ends _ e

  module _ {q : Walked Monomial} (made : add_term t l d (whole (pos 1)) (walked new p.visits) ≡ Ok q) where
    mul-stops : {r : Refusal} → mul l p.sum q.sum ≡ Err r → other_factors (t ▹ ts) l d p ≡ Err r
    unfolding add_term
    mul-stops e = next _ made ∙ ends _ e

    mul-goes :
        {r : Polynomial} → mul l p.sum q.sum ≡ Ok r →
        other_factors (t ▹ ts) l d p ≡ other_factors ts l d (walked r q.visits)
    unfolding add_term
    mul-goes e = next _ made ∙ next _ e

-- ---- what is left

-- the product p with the entries m, times the arguments in a part of record id
abbrev pub product_with : Bytes → Bytes → ℕ → ℕ → ℕ → by_value.Walked → Map Monomial → Result (Walked Monomial)
product_with b rest id limit d p m = other_factors (args_from b id rest 0) (limited limit) d (walked_with p m)

pub factors-done :
    {b w : Bytes} (p : by_value.Walked) (rest : Bytes) (id limit d : ℕ) → length rest / 2 ≤ 0 →
    (m : Map Monomial) → Stacked b w (m ∷ []) → Has p.sum m → Walks b w (Ok p) (product_with b rest id limit d p m)
unfolding add_term
factors-done {b} p rest id limit d h m t has =
    record { map = m; held = t; is = (rw (left_none b id rest 0 h), has) }

-- x is the next argument, and one the number that the code has for 1
module _
    (p : by_value.Walked) {b w rest : Bytes} {id d : ℕ} (pre : OthersPre b w rest id p.sum d)
    (limit : ℕ) {begun : by_value.Walked} (none : begun ≡ from_none p.visits) (h : 0 < length rest / 2) {x : ℕ}
    (is : x ≡ argument_at rest 0 id) {one : Rational} (unit : one ≡ whole (pos 1)) where
  pub factor-below : x < id
  factor-below = next-below rest id h is pre.below

  low : 6400 ≤ length w
  low = omega (arith, pre.deep, pre.high)

  high-above : 1600 ≤ length (lent_above w)
  high-above = omega (arith, low, lent_length w)

  pub factor_pre : TermPre b (lent_above w) x one begun.sum d
  factor_pre =
      none_pre (lent-empty pre.filling.held) high-above none unit pre.laid (omega (arith, pre.inside, factor-below))
      (record { deep = pre.deep; high = omega (arith, pre.high, lent_length w) })

  -- the factor was walked above the product
  module _ (y : Bytes) (long : length y ≡ length (lent_above w)) where
    factor :
        {answer : Result by_value.Walked} →
        TermWalks b (lent_above w) y x one begun limit d answer →
        Walks b y answer (add_term (tree b x) (limited limit) d (whole (pos 1)) (walked new p.visits))
    factor fills = none_fills (lent-empty pre.filling.held) high-above none unit x limit d fills

    left :
        (m : Map Monomial) →
        product_with b rest id limit d p m ≡
        other_factors (tree b x ▹ args_from b id (rest_of rest) 0) (limited limit) d (walked_with p m)
    left m = rw (left-rest rest id h is b)

    back_long : length (back_above w y) ≡ length w
    back_long = back-length w y (omega (arith, low)) long

    pub factor_clear : StackHas 0 (back_above w y) × (p.sum.len ≤ 64)
    factor_clear = (omega (arith, low, back_long), small pre.filling.held pre.filling.has)

    pub factor-refused :
        {r : Refusal} → TermWalks b (lent_above w) y x one begun limit d (Err r) → {w' : Bytes} →
        ClearSays (back_above w y) 0 p.sum.len w' → (m : Map Monomial) → Stacked b w (m ∷ []) → Has p.sum m →
        Walks b w' (Err r) (product_with b rest id limit d p m)
    factor-refused fills clear m t has =
        let f = factor fills in
        let up : Stacked b y ([] ∷ []) = rw (← f.is.1) f.held in
        let down = clear b (m ∷ [] ∷ []) (back-held t long up) (omega arith) has.size in
        refused (stack-less ([] ∷ []) down) (left m ∙ other-stops _ _ _ _ _ f.is.0)

    module _
        {q : by_value.Walked} (fills : TermWalks b (lent_above w) y x one begun limit d (Ok q)) where
      pub mul_pre :
          StackHas 2 (back_above w y)
          × (((p.sum.len ≤ 64) × (q.sum.len ≤ 64)) × (Proper p.sum.constant × Proper q.sum.constant))
      mul_pre =
          let f = factor fills in (
            omega (arith, low, back_long),
            (
              (small pre.filling.held pre.filling.has, small f.held f.is.1),
              (pre.filling.has.proper, f.is.1.proper),
            ),
          )

      -- what `mul` promises of its answer r and of the bytes w' that it leaves
      abbrev Makes : Bytes → Result Poly → Type 0
      Makes w' r =
          (b : Bytes) (u v : Map Monomial) → Stacked b (back_above w y) (u ∷ v ∷ []) → Has p.sum u → Has q.sum v →
          (l : ℕ) → Combines b w' r (mul (limited l) (comb_with p.sum u) (comb_with q.sum v))

      made-here :
          {w' : Bytes} {r : Result Poly} → Makes w' r → (m : Map Monomial) → Stacked b w (m ∷ []) → Has p.sum m →
          Combines b w' r (mul (limited limit) (comb_with p.sum m) (comb_with q.sum (factor fills).map))
      made-here makes m t has =
          let f = factor fills in
          makes b m f.map (back-held t long f.held) has f.is.1 limit

      pub product-refused :
          {w' : Bytes} {r : Refusal} → Makes w' (Err r) → (m : Map Monomial) → Stacked b w (m ∷ []) → Has p.sum m →
          Walks b w' (Err r) (product_with b rest id limit d p m)
      product-refused makes m t has =
          let g = made-here makes m t has in
          refused (rw (← g.is.1) g.held) (left m ∙ mul-stops _ _ _ _ _ (factor fills).is.0 g.is.0)

      module _ {w' : Bytes} {p' : Poly} (makes : Makes w' (Ok p')) where
        pub left_pre : length w' ≡ length (back_above w y) → OthersPre b w' (rest_of rest) id p' d
        left_pre kept =
            let now = pre.filling in
            let g = made-here makes now.map now.held now.has in
            record {
              laid = pre.laid;
              inside = pre.inside;
              below = rest_below id rest pre.below;
              deep = pre.deep;
              high = omega (arith, pre.high, kept, back_long);
              filling = record { map = g.map; held = g.held; has = g.is.1 };
            }

        -- the others are multiplied after it
        pub multiplied :
            {w'' : Bytes} {answer : Result by_value.Walked} →
            ((m : Map Monomial) → Stacked b w' (m ∷ []) → Has p' m →
            Walks b w'' answer
            (product_with b (rest_of rest) id limit d (record { sum = p'; visits = q.visits }) m)) →
            (m : Map Monomial) → Stacked b w (m ∷ []) → Has p.sum m →
            Walks b w'' answer (product_with b rest id limit d p m)
        multiplied others m t has =
            let g = made-here makes m t has in
            rw (left m ∙ mul-goes _ _ _ _ _ (factor fills).is.0 g.is.0) (others g.map g.held g.is.1)
