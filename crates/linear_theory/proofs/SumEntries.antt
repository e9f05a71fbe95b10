-- The entries of a sum, one by one: the coefficient of a number that is not 0 is that of an atom (`atom_at`); values
-- that agree on the atoms agree on the sum (`weigh-same`), and on a map (`total-same`); and any values of the atoms
-- that respect record numbers are values of those (`first_of`).
use mathlib.Core.Path.{◌≡◌, refl, sym, ap, ap₂}
use mathlib.Core.Bool.{Bool, true, false, ◌||◌}
use mathlib.Core.List.{[], ◌∷◌}
use Prim.Native.Nat.{ℕ}
use borrow.Author.Tests.{eqb-true, eq-eqb}
use lib.Dec.{eqb}
use lib.IntN.{pos}
use Rattle.numbers.specs.Rational.{Rational, add_q, is_zero}
use Rattle.terms.specs.Term.{Term, record_number, same, sort, same_sort}
use Rattle.terms.specs.Term.Sort.{int}
use Rattle.numbers.proofs.Truths.{never}
use Rattle.numbers.proofs.Quotient.{ℚ, ℚring, sum, product, ι}
use Rattle.index_map.specs.IndexMap.{Map}
use Rattle.index_map.specs.Memory.Entries.{terms}
use Rattle.alethe.specs.AletheTerms.{Entries, coefficient_of, all_int_in}
use Rattle.rules.proofs.Valuations.{numberℚ, rationals, Respects}
use Rattle.rules_theory.proofs.IndexMaps.{Values, total}
use Rattle.linear_theory.proofs.MapEntries.{Among, here, behind, Test}
use Rattle.linear_theory.proofs.Weights.{weigh, EntriesFor, none, entry}

-- ---- the entries of a sum

-- a number whose coefficients do not cancel is that of an atom
pub record AtomAt (i : ℕ) (es : Entries) : Type 0 where
  pub at : Rational × Term
  pub among : Among at es
  pub is : record_number at.1 ≡ i

pub atom_at : (i : ℕ) (es : Entries) → is_zero (coefficient_of i es) ≡ false → AtomAt i es
unfolding coefficient_of is_zero
atom_at i [] h = never (sym h)
atom_at i (e ∷ es) h = go (eqb (record_number e.1) i) refl h (atom_at i es)
  where
    go :
        (t : Bool) → eqb (record_number e.1) i ≡ t →
        is_zero (elim t as (λ x. Rational) [ true ↦ add_q e.0 (coefficient_of i es) | false ↦ coefficient_of i es ])
        ≡ false →
        (is_zero (coefficient_of i es) ≡ false → AtomAt i es) → AtomAt i (e ∷ es)
    go true k h r = record { at = e; among = here; is = eqb-true (record_number e.1) i k }
    go false k h r = let f = r h in record { at = f.at; among = behind f.among; is = f.is }

pub for_among : {P : Term → Type 0} {e : Rational × Term} {es : Entries} → EntriesFor P es → Among e es → P e.1
for_among (entry p q g) here = p
for_among (entry p q g) (behind a) = for_among g a
for_among {P = P} {e = e} none x3 = elim x3 [ ]

pub weigh-same :
    (f g : Term → ℚ) (es : Entries) → ((e : Rational × Term) → Among e es → f e.1 ≡ g e.1) →
    weigh f es ≡ weigh g es
unfolding weigh
weigh-same f g [] h = refl
weigh-same f g (e ∷ es) h =
    ap₂ sum (ap (product (numberℚ e.0)) (h e here)) (weigh-same f g es (λ x a. h x (behind a)))

-- the value of the first atom of a number
unfoldable pub first_of : (Term → ℚ) → Entries → ℕ → ℚ
first_of f [] i = ι (pos 0)
first_of f (e ∷ es) i = elim (eqb (record_number e.1) i) [ true ↦ f e.1 | false ↦ first_of f es i ]

pub first_among :
    {P : Term → Type 0} (f : Term → ℚ) → Respects P f → {e : Rational × Term} {es : Entries} → EntriesFor P es →
    Among e es → first_of f es (record_number e.1) ≡ f e.1
unfolding first_of
first_among f r {e} g here = rw (eq-eqb (record_number e.1) (record_number e.1) refl, first_of)
first_among f r {e} (entry p q g) (behind {b} {l} a) =
    go (eqb (record_number b.1) (record_number e.1)) refl (first_among f r g a)
  where
    go :
        (t : Bool) → same b.1 e.1 ≡ t → first_of f l (record_number e.1) ≡ f e.1 →
        elim t as (λ x. ℚ) [ true ↦ f b.1 | false ↦ first_of f l (record_number e.1) ] ≡ f e.1
    go true k h = r b.1 e.1 p (for_among g a) k
    go false k h = h

-- the test of `all_int_in`
pub kept_test :
    (es : Entries) →
    Test (λ (e : Rational × Term). is_zero (coefficient_of (record_number e.1) es) || same_sort (sort e.1) int)
    (all_int_in es)
unfolding all_int_in
kept_test es = record { none = refl; next = λ e r. refl }

-- ---- maps of terms under a value for each

abbrev pub valued : (P : Term → Type 0) (f : Term → ℚ) → Respects P f → Values terms
valued P f r = record { ring = ℚring; numbers = rationals; Known = P; at = f; respects = r }

pub total-same :
    (P : Term → Type 0) (f g : Term → ℚ) (r : Respects P f) (s : Respects P g) (m : Map Term) →
    ((e : Term × Rational) → Among e m → f e.0 ≡ g e.0) → total (valued P f r) m ≡ total (valued P g s) m
unfolding total
total-same P f g r s [] h = refl
total-same P f g r s (e ∷ m) h =
    ap₂ sum (ap (product (numberℚ e.1)) (h e here)) (total-same P f g r s m (λ x a. h x (behind a)))
