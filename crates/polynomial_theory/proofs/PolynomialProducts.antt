-- The product of two polynomials has the product of their values, in any ring and under any limits,
-- wherever it is not refused (`mul-amounts`). Each loop of the definition adds to the map what it
-- multiplies: one monomial by a map (`mul_each_totals`), a map by a polynomial (`mul_left_totals`), a map by
-- a number (`insert_scaled_totals`).
use mathlib.Core.List.{[], ◌∷◌}
use Rattle.numbers.specs.Rational.{Rational}
use Rattle.terms.specs.Term.{Term}
use Rattle.numbers.proofs.Ring.{Ring, ◌⊕◌, ◌⊗◌, 𝟘, 𝟙, ◌≐◌, ◌·◌, ◌and◌, ◌from◌, solve, derive}
use Rattle.rules.specs.Limits.{Limits}
use Rattle.index_map.specs.IndexMap.{Map}
use Rattle.polynomial.specs.Polynomial.{Monomial, Polynomial, joined, monomials, mul_each, mul_left, insert_scaled, mul}
use Rattle.rules.proofs.Yields.{Yields, gives, and_then, weaker, guarded}
use Rattle.rules.proofs.Valuations.{Valuation, times-stands, Respects}
use Rattle.rules_theory.proofs.IndexMaps.{Values, total, worth, entry, GoodEntry, AllGood, Totals, GoodCombination}
use Rattle.rules_theory.proofs.IndexMaps.{Amounts, insert_totals}
use Rattle.polynomial_theory.proofs.MonomialLaws.{AllKnown, joined-known, monomial, joined-value}
use Rattle.polynomial_theory.proofs.MonomialLaws.{same_monomial-value}

-- monomials stand for the products of their atoms' values
module _ {R : Ring} (N : Valuation R) (v : Term → R.carrier)
    (Known : Term → Type 0) (respects : Respects Known v) where
  abbrev pub monomial_values : Values monomials
  monomial_values = record {
    ring = R;
    numbers = N;
    Known = AllKnown Known;
    at = monomial R v;
    respects = same_monomial-value R v Known respects;
  }

  abbrev S : Values monomials
  S = monomial_values

  open R use {carrier, add as ◌+◌, mul as ◌*◌}
  open N use {number, Good}

  infixl 6 ◌+◌
  infixl 7 ◌*◌
  module _ (l : Limits) where
    pub mul_each_totals :
        (x : Monomial) (c : Rational) → GoodEntry S x c → (r m : Map Monomial) → AllGood S r → AllGood S m →
        Yields (λ s. Totals S s (total S m + entry S x c * total S r)) (mul_each l x c r m)
    unfolding mul_each total
    mul_each_totals x c gx [] m gr gm =
        gives (record { good = gm; is = solve R (total S m ∷ entry S x c ∷ []) (λ m x. m ≐ m ⊕ x ⊗ 𝟘) tt })
    mul_each_totals x c gx (e ∷ r) m (ge, gr) gm =
        guarded _ _ λ t u.
        and_then (times-stands N l c e.1 gx.good ge.good)
        (λ q h.
        and_then
        (insert_totals S l m (joined x e.0) q gm
        (record { known = joined-known Known x e.0 gx.known ge.known; good = h.good }))
        (λ s t.
        weaker
        (λ z k.
        record {
          good = k.good;
          is =
              derive R
              (number c ∷ monomial R v x ∷ number e.1 ∷ monomial R v e.0 ∷ number q
              ∷ monomial R v (joined x e.0) ∷ total S m ∷ total S r ∷ total S s ∷ total S z ∷ [])
              (λ c x d y q j m r s z.
              z ≐ m ⊕ c ⊗ x ⊗ (d ⊗ y ⊕ r)
              from 𝟙 · z ≐ s ⊕ c ⊗ x ⊗ r and 𝟙 · s ≐ m ⊕ q ⊗ j and j · q ≐ c ⊗ d and c ⊗ d · j ≐ x ⊗ y) tt
              k.is t.is h.is (joined-value R v x e.0);
        })
        (mul_each_totals x c gx r s gr t.good)))

    pub mul_left_totals :
        (r : Map Monomial) (q : Polynomial) (m : Map Monomial) → AllGood S r → GoodCombination S q →
        AllGood S m → Yields (λ s. Totals S s (total S m + total S r * worth S q)) (mul_left l r q m)
    unfolding mul_left total
    mul_left_totals [] q m gr gq gm =
        gives (record { good = gm; is = solve R (total S m ∷ worth S q ∷ []) (λ m x. m ≐ m ⊕ 𝟘 ⊗ x) tt })
    mul_left_totals (e ∷ r) q m (ge, gr) gq gm =
        and_then (mul_each_totals e.0 e.1 ge q.entries m gq.entries gm)
        (λ s t.
        and_then (times-stands N l e.1 q.constant ge.good gq.constant)
        (λ c h.
        and_then (insert_totals S l s e.0 c t.good (record { known = ge.known; good = h.good }))
        (λ z k.
        weaker
        (λ y j.
        record {
          good = j.good;
          is =
              derive R
              (number e.1 ∷ monomial R v e.0 ∷ total S q.entries ∷ number q.constant ∷ number c
              ∷ total S m ∷ total S r ∷ total S s ∷ total S z ∷ total S y ∷ [])
              (λ e x q d c m r s z y.
              y ≐ m ⊕ (e ⊗ x ⊕ r) ⊗ (q ⊕ d)
              from 𝟙 · y ≐ z ⊕ r ⊗ (q ⊕ d) and 𝟙 · z ≐ s ⊕ c ⊗ x and x · c ≐ e ⊗ d and 𝟙 · s ≐ m ⊕ e ⊗ x ⊗ q) tt
              j.is k.is h.is t.is;
        })
        (mul_left_totals r q z gr gq k.good))))

    pub insert_scaled_totals :
        (r : Map Monomial) (k : Rational) (m : Map Monomial) → AllGood S r → Good k → AllGood S m →
        Yields (λ s. Totals S s (total S m + total S r * number k)) (insert_scaled l r k m)
    unfolding insert_scaled total
    insert_scaled_totals [] k m gr gk gm =
        gives (record { good = gm; is = solve R (total S m ∷ number k ∷ []) (λ m x. m ≐ m ⊕ 𝟘 ⊗ x) tt })
    insert_scaled_totals (e ∷ r) k m (ge, gr) gk gm =
        and_then (times-stands N l e.1 k ge.good gk)
        (λ c h.
        and_then (insert_totals S l m e.0 c gm (record { known = ge.known; good = h.good }))
        (λ s t.
        weaker
        (λ z j.
        record {
          good = j.good;
          is =
              derive R
              (number e.1 ∷ monomial R v e.0 ∷ number k ∷ number c
              ∷ total S m ∷ total S r ∷ total S s ∷ total S z ∷ [])
              (λ e x k c m r s z.
              z ≐ m ⊕ (e ⊗ x ⊕ r) ⊗ k from 𝟙 · z ≐ s ⊕ r ⊗ k and 𝟙 · s ≐ m ⊕ c ⊗ x and x · c ≐ e ⊗ k) tt
              j.is t.is h.is;
        })
        (insert_scaled_totals r k s gr gk t.good)))

    pub mul-amounts :
        (p q : Polynomial) → GoodCombination S p → GoodCombination S q →
        Yields (λ r. Amounts S r (worth S p * worth S q)) (mul l p q)
    unfolding mul total
    mul-amounts p q gp gq =
        and_then (mul_left_totals p.entries q [] gp.entries gq tt)
        (λ s t.
        and_then (insert_scaled_totals q.entries p.constant s gq.entries gp.constant t.good)
        (λ z k.
        and_then (times-stands N l p.constant q.constant gp.constant gq.constant)
        (λ c h.
        gives
        (record {
          good = record { entries = k.good; constant = h.good };
          is =
              derive R
              (total S p.entries ∷ number p.constant ∷ total S q.entries ∷ number q.constant
              ∷ number c ∷ total S s ∷ total S z ∷ [])
              (λ a b p q c s z.
              z ⊕ c ≐ (a ⊕ b) ⊗ (p ⊕ q) from 𝟙 · z ≐ s ⊕ p ⊗ b and 𝟙 · s ≐ 𝟘 ⊕ a ⊗ (p ⊕ q) and 𝟙 · c ≐ b ⊗ q) tt
              k.is t.is h.is;
        }))))
