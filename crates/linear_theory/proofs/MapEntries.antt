-- What a map of terms has at a record number (`number_at`): the coefficient of the entry whose key has that number, or
-- 0. Where no two keys are the same it is the map's total under the weight 1 at that number and 0 at all others
-- (`total_at`), and at the key of an entry it is that entry's coefficient (`at_among`).
--     Among, Test       a member of a list; a test that all members pass
--     At, at       either 0 or the coefficient of an entry
use mathlib.Core.Path.{◌≡◌, refl, sym, ◌∙◌, ap}
use mathlib.Core.Bool.{Bool, true, false, ◌&&◌}
use mathlib.Core.List.{List, [], ◌∷◌}
use Prim.Native.Nat.{ℕ}
use borrow.Author.Tests.{eqb-true, eq-eqb}
use lib.Dec.{eqb}
use lib.IntN.{pos}
use Rattle.numbers.specs.Rational.{Rational, Lowest, is_zero, is_integer}
use Rattle.terms.specs.Term.{Term, record_number, sort, same_sort}
use Rattle.terms.specs.Term.Sort.{int}
use Rattle.numbers.proofs.Ring.{◌⊕◌, ◌⊗◌, 𝟘, 𝟙, ◌≐◌, ◌·◌, ◌from◌, derive}
use Rattle.numbers.proofs.Quotient.{ℚ, ℚring}
use Rattle.numbers.proofs.Truths.{both, never}
use Rattle.index_map.specs.IndexMap.{Map, is_empty}
use Rattle.linear_comb.specs.LinearComb.{all_int}
use Rattle.index_map.specs.Memory.Entries.{terms}
use Rattle.linear_theory.specs.Premises.{whole_coefficients}
use Rattle.alethe.specs.AletheTerms.{nought}
use Rattle.index_map.proofs.KeyedMaps.{Lacks, nothing, another, same_key}
use Rattle.linear_theory.proofs.KeyNames.{same-turned, term_names}
use Rattle.linear_theory.proofs.NoZero.{NoZero, empty, entry}
use Rattle.rules.proofs.Valuations.{numberℚ, rationals}
use Rattle.rules_theory.proofs.IndexMaps.{EntryOf, EntriesOf, total}
use Rattle.index_map.proofs.MapKeys.{key_of}
use Rattle.linear_theory.proofs.Multiples.{Multiple, EachMultiple}
use Rattle.linear_theory.proofs.Weights.{delta, weights}
open ℚring use {add as ◌+◌, mul as ◌*◌, ι}

infixl 6 ◌+◌
infixl 7 ◌*◌
pub no_entries : (m : Map Term) → is_empty m ≡ true → m ≡ []
no_entries [] e = refl
no_entries (e ∷ m) h = never h

-- ---- members, and tests that all of them pass

pub data Among {A : Type 0} (a : A) : List A → Type 0 where
  here : {l : List A} → Among a (a ∷ l)
  behind : {b : A} {l : List A} → Among a l → Among a (b ∷ l)

pub record Test {A : Type 0} (p : A → Bool) (all : List A → Bool) : Type 0 where
  pub none : all [] ≡ true
  pub next : (a : A) (l : List A) → all (a ∷ l) ≡ (p a && all l)

module _ {A : Type 0} {p : A → Bool} {all : List A → Bool} (test : Test p all) where
  pub all_among : {a : A} {l : List A} → all l ≡ true → Among a l → p a ≡ true
  all_among {a} h (here {l}) = (both (p a) (all l) (sym (test.next a l) ∙ h)).0
  all_among h (behind {b} {l} m) = all_among (both (p b) (all l) (sym (test.next b l) ∙ h)).1 m

  pub among_all : (l : List A) → ((a : A) → Among a l → p a ≡ true) → all l ≡ true
  among_all [] h = test.none
  among_all (a ∷ l) h =
      test.next a l ∙ rw (h a here, among_all l (λ b m. h b (behind m)))

pub int_test : Test (λ (e : Term × Rational). same_sort (sort e.0) int) all_int
unfolding all_int
int_test = record { none = refl; next = λ e m. refl }

pub whole-test : Test (λ (e : Term × Rational). is_integer e.1) whole_coefficients
unfolding whole_coefficients
whole-test = record { none = refl; next = λ e m. refl }

-- ---- the entries of a map

pub of_among :
    {P : Term → Type 0} {Q : Rational → Type 0} {e : Term × Rational} {m : Map Term} → EntriesOf P Q m → Among e m →
    EntryOf P Q e.0 e.1
of_among g here = g.0
of_among g (behind a) = of_among g.1 a

lacks-among :
    (is : Term → Bool) {e : Term × Rational} {m : Map Term} → Lacks is m → Among e m → is e.0 ≡ false
lacks-among is (another other h) here = other
lacks-among is (another other h) (behind a) = lacks-among is h a
lacks-among is {e = e} nothing x3 = elim x3 [ ]

pub nonzero-among :
    {e : Term × Rational} {m : Map Term} → NoZero terms m → Among e m → is_zero e.1 ≡ false
nonzero-among (entry z k h) here = z
nonzero-among (entry z k h) (behind a) = nonzero-among h a
nonzero-among {e = e} empty x3 = elim x3 [ ]

module _ {g : ℕ} where
  pub each-among : {e : Term × Rational} {m : Map Term} → EachMultiple g m → Among e m → Multiple g e.1.num
  each-among q here = q.0
  each-among q (behind a) = each-among q.1 a

  pub among-each : (m : Map Term) → ((e : Term × Rational) → Among e m → Multiple g e.1.num) → EachMultiple g m
  among-each [] h = tt
  among-each (e ∷ m) h = (h e here, among-each m (λ f a. h f (behind a)))

-- ---- what stands at a number

unfoldable pub number_at : ℕ → Map Term → Rational
number_at i [] = nought
number_at i (e ∷ m) = elim (eqb (record_number e.0) i) [ true ↦ e.1 | false ↦ number_at i m ]

pub data At (i : ℕ) (m : Map Term) : Rational → Type 0 where
  absent : At i m nought
  present : (e : Term × Rational) → Among e m → key_of e ≡ i → At i m e.1

pub at : (i : ℕ) (m : Map Term) → At i m (number_at i m)
unfolding number_at
at i [] = absent
at i (e ∷ m) = go (eqb (key_of e) i) refl (at i m)
  where
    later : {q : Rational} → At i m q → At i (e ∷ m) q
    later absent = absent
    later (present f a k) = present f (behind a) k

    go :
        (t : Bool) → eqb (key_of e) i ≡ t → At i m (number_at i m) →
        At i (e ∷ m) (elim t as (λ x. Rational) [ true ↦ e.1 | false ↦ number_at i m ])
    go true h r = present e here (eqb-true (key_of e) i h)
    go false h r = later r

pub at_among : {e : Term × Rational} {m : Map Term} → NoZero terms m → Among e m → number_at (key_of e) m ≡ e.1
unfolding number_at
at_among {e} (entry z k h) here = rw (eq-eqb (key_of e) (key_of e) refl, number_at)
at_among {e} (entry {e = f} z k h) (behind a) =
    rw (same-turned term_names f.0 e.0 ∙ lacks-among (same_key terms f.0) k a, number_at) (at_among h a)
at_among {e = e} empty x3 = elim x3 [ ]

at_lacked : (t : Term) {m : Map Term} → Lacks (same_key terms t) m → number_at (record_number t) m ≡ nought
unfolding number_at
at_lacked t nothing = refl
at_lacked t (another other h) = rw (other, number_at) (at_lacked t h)

module _ (P : Term → Type 0) (i : ℕ) where
  pub at_lowest : (m : Map Term) → EntriesOf P Lowest m → Lowest (number_at i m)
  at_lowest m g = go (at i m)
    where
      go : {q : Rational} → At i m q → Lowest q
      go absent = rationals.good-whole (pos 0)
      go (present e a k) = (of_among g a).good

  pub total_at : (m : Map Term) → NoZero terms m → total (weights P (delta i)) m ≡ numberℚ (number_at i m)
  unfolding total number_at
  total_at [] h = sym (rationals.number-whole (pos 0))
  total_at (e ∷ m) (entry z k h) = go (eqb (key_of e) i) refl (total_at m h)
    where
      go :
          (t : Bool) → eqb (key_of e) i ≡ t → total (weights P (delta i)) m ≡ numberℚ (number_at i m) →
          numberℚ e.1 * elim t as (λ x. ℚ) [ true ↦ ι (pos 1) | false ↦ ι (pos 0) ] + total (weights P (delta i)) m
          ≡ numberℚ (elim t as (λ x. Rational) [ true ↦ e.1 | false ↦ number_at i m ])
      go true s r =
          derive ℚring (numberℚ e.1 ∷ total (weights P (delta i)) m ∷ [])
          (λ e t. e ⊗ 𝟙 ⊕ t ≐ e from 𝟙 · t ≐ 𝟘) tt
          (r
          ∙ ap (λ (j : ℕ). numberℚ (number_at j m)) (sym (eqb-true (key_of e) i s))
          ∙ ap numberℚ (at_lacked e.0 k) ∙ rationals.number-whole (pos 0))
      go false s r =
          derive ℚring (numberℚ e.1 ∷ total (weights P (delta i)) m ∷ numberℚ (number_at i m) ∷ [])
          (λ e t n. e ⊗ 𝟘 ⊕ t ≐ n from 𝟙 · t ≐ n) tt r
