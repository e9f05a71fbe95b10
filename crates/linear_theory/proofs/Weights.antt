-- A sum of entries under a value for each atom (`weigh`), and what its coefficients add up to: the weight 1 at one
-- record number and 0 at all others (`delta`) tells the coefficient of that atom (`coefficient_weighs`).
use mathlib.Core.Path.{◌≡◌, ap}
use mathlib.Core.Bool.{Bool, true, false}
use mathlib.Core.List.{[], ◌∷◌, ◌++◌}
use Prim.Native.Nat.{ℕ}
use lib.Dec.{eqb}
use lib.IntN.{pos}
use borrow.Author.Tests.{eqb-true}
use Rattle.numbers.specs.Rational.{Rational, Lowest, add_q, mul_q}
use Rattle.terms.specs.Term.{Term, record_number}
use Rattle.numbers.proofs.Ring.{◌⊕◌, ◌⊗◌, 𝟘, 𝟙, ◌≐◌, ◌·◌, ◌and◌, ◌from◌, solve, derive}
use Rattle.numbers.proofs.LowestTerms.{whole_is_lowest}
use Rattle.numbers.proofs.Rationals.{add-lowest, mul-lowest}
use Rattle.numbers.proofs.Quotient.{ℚ, ℚring}
use Rattle.index_map.specs.Memory.Entries.{terms}
use Rattle.alethe.specs.AletheTerms.{Entries, times_each, coefficient_of}
use Rattle.rules.proofs.Valuations.{numberℚ, rationals}
use Rattle.rules_theory.proofs.IndexMaps.{Values}
open ℚring use {add as ◌+◌, mul as ◌*◌, ι}

infixl 6 ◌+◌
infixl 7 ◌*◌
unfoldable pub weigh : (Term → ℚ) → Entries → ℚ
weigh f [] = ι (pos 0)
weigh f (e ∷ es) = numberℚ e.0 * f e.1 + weigh f es

-- the value of an atom by its record number
abbrev pub numbered : (ℕ → ℚ) → Term → ℚ
numbered v t = v (record_number t)

abbrev pub delta : ℕ → ℕ → ℚ
delta i j = elim (eqb j i) [ true ↦ ι (pos 1) | false ↦ ι (pos 0) ]

-- atoms of P with coefficients in lowest terms
pub data EntriesFor (P : Term → Type 0) : Entries → Type 0 where
  none : EntriesFor P []
  entry : {e : Rational × Term} {es : Entries} → P e.1 → Lowest e.0 → EntriesFor P es → EntriesFor P (e ∷ es)

-- the same for the Rust's maps
abbrev pub weights : (Term → Type 0) → (ℕ → ℚ) → Values terms
weights P v =
    record {
      ring = ℚring;
      numbers = rationals;
      Known = P;
      at = λ t. v (record_number t);
      respects = λ a b p q e. ap v (eqb-true (record_number a) (record_number b) e);
    }

pub weigh_append : (f : Term → ℚ) (es r : Entries) → weigh f (es ++ r) ≡ weigh f es + weigh f r
unfolding weigh
weigh_append f [] r = solve ℚring (weigh f r ∷ []) (λ r. r ≐ 𝟘 ⊕ r) tt
weigh_append f (e ∷ es) r =
    derive ℚring ((numberℚ e.0 * f e.1) ∷ weigh f (es ++ r) ∷ weigh f es ∷ weigh f r ∷ [])
    (λ e s a b. e ⊕ s ≐ e ⊕ a ⊕ b from 𝟙 · s ≐ a ⊕ b) tt (weigh_append f es r)

pub entries_append : (P : Term → Type 0) (es r : Entries) → EntriesFor P es → EntriesFor P r → EntriesFor P (es ++ r)
entries_append P [] r none h = h
entries_append P (e ∷ es) r (entry p q g) h = entry p q (entries_append P es r g h)

module _ {P : Term → Type 0} where
  pub weigh-times :
      (f : Term → ℚ) (q : Rational) → Lowest q → (es : Entries) → EntriesFor P es →
      weigh f (times_each q es) ≡ numberℚ q * weigh f es
  unfolding weigh times_each
  weigh-times f q lq [] none = solve ℚring (numberℚ q ∷ []) (λ q. 𝟘 ≐ q ⊗ 𝟘) tt
  weigh-times f q lq (e ∷ es) (entry p le g) =
      derive ℚring
      (numberℚ (mul_q q e.0) ∷ numberℚ q ∷ numberℚ e.0 ∷ f e.1 ∷ weigh f (times_each q es) ∷ weigh f es ∷ [])
      (λ p q c t s w. p ⊗ t ⊕ s ≐ q ⊗ (c ⊗ t ⊕ w) from t · p ≐ q ⊗ c and 𝟙 · s ≐ q ⊗ w) tt
      (rationals.number-mul q e.0 lq le) (weigh-times f q lq es g)

  pub entries-times : (q : Rational) → Lowest q → (es : Entries) → EntriesFor P es → EntriesFor P (times_each q es)
  unfolding times_each
  entries-times q lq [] none = none
  entries-times q lq (e ∷ es) (entry p le g) = entry p (mul-lowest q e.0 lq le) (entries-times q lq es g)

  pub coefficient-lowest : (i : ℕ) (es : Entries) → EntriesFor P es → Lowest (coefficient_of i es)
  unfolding coefficient_of
  coefficient-lowest i [] none = whole_is_lowest (pos 0)
  coefficient-lowest i (e ∷ es) (entry p le g) = go (eqb (record_number e.1) i) (coefficient-lowest i es g)
    where
      go :
          (t : Bool) → Lowest (coefficient_of i es) →
          Lowest (elim t as (λ x. Rational) [ true ↦ add_q e.0 (coefficient_of i es) | false ↦ coefficient_of i es ])
      go true h = add-lowest e.0 (coefficient_of i es) le h
      go false h = h

  pub coefficient_weighs :
      (i : ℕ) (es : Entries) → EntriesFor P es → numberℚ (coefficient_of i es) ≡ weigh (numbered (delta i)) es
  unfolding coefficient_of weigh
  coefficient_weighs i [] none = rationals.number-whole (pos 0)
  coefficient_weighs i (e ∷ es) (entry p le g) = go (eqb (record_number e.1) i) (coefficient_weighs i es g)
    where
      c : Rational
      c = coefficient_of i es

      go :
          (t : Bool) → numberℚ c ≡ weigh (numbered (delta i)) es →
          numberℚ (elim t as (λ x. Rational) [ true ↦ add_q e.0 c | false ↦ c ])
          ≡ numberℚ e.0 * elim t as (λ x. ℚ) [ true ↦ ι (pos 1) | false ↦ ι (pos 0) ] + weigh (numbered (delta i)) es
      go true h =
          derive ℚring (numberℚ (add_q e.0 c) ∷ numberℚ e.0 ∷ numberℚ c ∷ weigh (numbered (delta i)) es ∷ [])
          (λ s e c w. s ≐ e ⊗ 𝟙 ⊕ w from 𝟙 · s ≐ e ⊕ c and 𝟙 · c ≐ w) tt
          (rationals.number-add e.0 c le (coefficient-lowest i es g)) h
      go false h =
          derive ℚring (numberℚ e.0 ∷ numberℚ c ∷ weigh (numbered (delta i)) es ∷ [])
          (λ e c w. c ≐ e ⊗ 𝟘 ⊕ w from 𝟙 · c ≐ w) tt h
