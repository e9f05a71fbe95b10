-- The Alethe side's linear sums are what the Rust's walk finds: every term has one (`linear_form`), the walk's map is
-- what its entries add up to (`linear_walk`), and it has the term's value (`linear_value`). Under every weight the
-- walk's combination is worth what the sum weighs; the weight 0 tells the two constants apart from the entries
-- (`gathers`).
use mathlib.Core.Path.{◌≡◌}
use mathlib.Core.List.{[], ◌∷◌}
use Prim.Native.Nat.{ℕ}
use lib.IntN.{pos}
use Rattle.numbers.specs.Rational.{whole, Lowest}
use Rattle.terms.specs.Term.{Term}
use Rattle.terms.specs.Smtlib.{Assignment, value}
use Rattle.numbers.proofs.Ring.{◌⊕◌, ◌⊗◌, neg, 𝟘, 𝟙, ◌≐◌, ◌·◌, ◌and◌, ◌from◌, solve, derive}
use Rattle.numbers.proofs.Quotient.{ℚ, ℚring}
use Rattle.terms.proofs.Sums.{meant}
use Rattle.book.proofs.BookTerms.{Closed}
use Rattle.std.specs.Prelude.{Ok}
use Rattle.rules.specs.Limits.{Limits}
use Rattle.index_map.specs.IndexMap.{Map, Walked, walked, new}
use Rattle.linear_walk.specs.LinearTerms.{from_term}
use Rattle.linear_comb.specs.LinearComb.{LinearComb}
use Rattle.alethe.specs.AletheTerms.{Entries, Sum, Linear}
use Rattle.rules.proofs.Yields.{at_ok}
use Rattle.rules.proofs.Valuations.{numberℚ, rationals, number_unique}
use Rattle.rules_theory.proofs.IndexMaps.{CombinationOf, total, worth, new-amounts}
use Rattle.linear_theory.proofs.NoZero.{from_term-nonzero}
use Rattle.rules_theory.proofs.Walks.{Adds}
use Rattle.linear_theory.proofs.Weights.{weigh, numbered, weights, EntriesFor}
use Rattle.linear_theory.proofs.NormalForms.{Normal}
use Rattle.linear_theory.proofs.LinearValues.{valued}
use Rattle.linear_theory.proofs.LinearWalk.{add_term-adds}
use Rattle.linear_theory.proofs.LinearWeights.{linear_at, weighed}
use Rattle.linear_theory.proofs.LinearSums.{sum_of_lem, adds-up}
open ℚring use {add as ◌+◌, mul as ◌*◌, ι}

infixl 6 ◌+◌
infixl 7 ◌*◌
-- ---- entries and constant apart

abbrev weightless : ℕ → ℚ
weightless i = ι (pos 0)

module _ (P : Term → Type 0) where
  total-weightless : (m : Map Term) → total (weights P weightless) m ≡ ι (pos 0)
  unfolding total
  total-weightless [] = solve ℚring [] (𝟘 ≐ 𝟘) tt
  total-weightless (e ∷ m) =
      derive ℚring (numberℚ e.1 ∷ total (weights P weightless) m ∷ []) (λ q m. q ⊗ 𝟘 ⊕ m ≐ 𝟘 from 𝟙 · m ≐ 𝟘) tt
      (total-weightless m)

weigh-weightless : (es : Entries) → weigh (numbered weightless) es ≡ ι (pos 0)
unfolding weigh
weigh-weightless [] = solve ℚring [] (𝟘 ≐ 𝟘) tt
weigh-weightless (e ∷ es) =
    derive ℚring (numberℚ e.0 ∷ weigh (numbered weightless) es ∷ []) (λ q m. q ⊗ 𝟘 ⊕ m ≐ 𝟘 from 𝟙 · m ≐ 𝟘) tt
    (weigh-weightless es)

-- c has the entries' weights and the constant of s
pub record Gathers (P : Term → Type 0) (s : Sum) (c : LinearComb) : Type 0 where
  pub kept : CombinationOf P Lowest c
  pub entries : (v : ℕ → ℚ) → total (weights P v) c.entries ≡ weigh (numbered v) s.terms
  pub constant : c.constant ≡ s.constant

-- c is worth what s weighs
abbrev Weighs : (Term → Type 0) → Sum → LinearComb → Type 0
Weighs P s c = (v : ℕ → ℚ) → worth (weights P v) c ≡ weigh (numbered v) s.terms + numberℚ s.constant

module _ (P : Term → Type 0) (s : Sum) (c : LinearComb) (ls : Lowest s.constant) (kept : CombinationOf P Lowest c)
    (h : Weighs P s c) where
  constants-equal : numberℚ c.constant ≡ numberℚ s.constant
  constants-equal =
      derive ℚring
      (total (weights P weightless) c.entries ∷ weigh (numbered weightless) s.terms ∷ numberℚ c.constant
      ∷ numberℚ s.constant ∷ [])
      (λ m w c d. c ≐ d from 𝟙 · m ⊕ c ≐ w ⊕ d and neg 𝟙 · m ≐ 𝟘 and 𝟙 · w ≐ 𝟘) tt
      (h weightless) (total-weightless P c.entries) (weigh-weightless s.terms)

  gathers : Gathers P s c
  gathers = record {
    kept = kept;
    entries = λ v.
        derive ℚring
        (total (weights P v) c.entries ∷ weigh (numbered v) s.terms ∷ numberℚ c.constant
        ∷ numberℚ s.constant ∷ [])
        (λ m w c d. m ≐ w from 𝟙 · m ⊕ c ≐ w ⊕ d and neg 𝟙 · c ≐ d) tt (h v) constants-equal;
    constant = number_unique c.constant s.constant kept.constant ls constants-equal;
  }

-- ---- the theorems

module _ {P : Term → Type 0} (closed : Closed P) (t : Term) (p : P t) where
  pub linear_form : (s : Sum) × Linear t s
  linear_form = sum_of_lem closed t p

  module _ (s : Sum) (h : Linear t s) where
    pub linear_kept : EntriesFor P s.terms × Lowest s.constant
    linear_kept = (adds-up closed (weighed closed weightless) t s h p).kept

    pub record Walks (w : Walked Term) : Type 0 where
      pub kept : CombinationOf P Lowest w.sum
      pub normal : Normal P s.terms w.sum.entries
      pub constant : w.sum.constant ≡ s.constant

    module _ (l : Limits) (n : ℕ) (w : Walked Term) (e : from_term l t n ≡ Ok w) where
      abbrev one : ℚ
      one = numberℚ (whole (pos 1))

      added : (v : ℕ → ℚ) → Adds (weights P v) (walked new n) (one * linear_at v t) w
      unfolding from_term
      added v =
          at_ok
          (add_term-adds closed (weighed closed v) l t p (whole (pos 1)) (rationals.good-whole (pos 1)) (walked new n)
          (new-amounts (weights P v)).good) e

      pub linear_gathers : Gathers P s w.sum
      linear_gathers =
          gathers P s w.sum linear_kept.1 (added weightless).good λ v.
          derive ℚring
          (worth (weights P v) w.sum ∷ worth (weights P v) new ∷ one ∷ linear_at v t
          ∷ (weigh (numbered v) s.terms + numberℚ s.constant) ∷ [])
          (λ w z i t s. w ≐ s from 𝟙 · w ≐ z ⊕ i ⊗ t and 𝟙 · z ≐ 𝟘 and t · i ≐ 𝟙 and 𝟙 · t ≐ s) tt
          (added v).is (new-amounts (weights P v)).is (rationals.number-whole (pos 1))
          (adds-up closed (weighed closed v) t s h p).is

      pub linear_walk : Walks w
      linear_walk = record {
        kept = linear_gathers.kept;
        normal = record {
          tidy = at_ok (from_term-nonzero l t n) e;
          kept = linear_gathers.kept.entries;
          sums = linear_gathers.entries;
        };
        constant = linear_gathers.constant;
      }

    pub linear_value : (ρ : Assignment) →
        meant (value ρ t) ≡ ℚring.add (weigh (λ t. meant (value ρ t)) s.terms) (numberℚ s.constant)
    linear_value ρ = (adds-up closed (valued closed ρ) t s h p).is
