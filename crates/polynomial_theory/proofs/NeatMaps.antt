-- The map of a polynomial is neat: its keys are proper monomials, each with other atoms, and its coefficients are
-- Q, which holds of what is not 0 (`Neat`). The functions on maps keep that, and refuse only where there are limits
-- (`Unless`).
use mathlib.Core.Path.{◌≡◌, refl, ◌∙◌, ap}
use mathlib.Core.Bool.{Bool, true, false, ◌&&◌, cond}
use Rattle.std.specs.Prelude.{Option, Some, None}
use mathlib.Core.List.{[], ◌∷◌}
use Prim.Native.Nat.{ℕ, suc}
use lib.IntN.{nat_abs}
use Rattle.numbers.specs.Rational.{Rational, neg_q, is_zero}
use Rattle.terms.specs.Readers.{Bound, unbounded, within, bounded}
use Rattle.numbers.proofs.Truths.{if_either, never}
use Rattle.rules.specs.Refusal.{Result, ◌>>=◌, assert}
use Rattle.rules.specs.declared.refusal.Refusal.{Refusal}
use Rattle.std.specs.Prelude.{Ok, Err}
use Rattle.rules.specs.Limits.{Limits, the_rust, in_limit, ranged, plus, times, over}
use Rattle.index_map.specs.IndexMap as IndexMap
use Rattle.index_map.specs.IndexMap.{Map, Combination, last_first, swap_remove, neg_all, enter, insert, insert_all, sub}
use Rattle.polynomial.specs.Polynomial.{Monomial, monomials, same_monomial}
use Rattle.alethe.specs.AletheTerms.{same_atoms}
use Rattle.rules.proofs.Yields.{Yields, at_ok}
use Rattle.alethe.proofs.Exponents.{same_atoms-sym}
use Rattle.polynomial_theory.proofs.SortedMonomials.{Proper, proper-apart}
use Rattle.terms.specs.declared.term.NotRead.TheVariants.{OutOfRange}

-- ---- results that are refused only where there are limits

pub data Unless {A : Type 0} (l : Limits) (P : A → Type 0) : Result A → Type 0 where
  gives : {a : A} → P a → Unless l P (Ok a)
  stopped : {r : Refusal} → (l ≡ the_rust → ⊥) → Unless l P (Err r)

pub yields : {A : Type 0} {l : Limits} {P : A → Type 0} {x : Result A} → Unless l P x → Yields P x
yields (gives p) = Yields.gives p
yields (stopped n) = Yields.refuses

pub weaken : {A : Type 0} {l : Limits} {P Q : A → Type 0} {x : Result A} → ((a : A) → P a → Q a) → Unless l P x →
    Unless l Q x
weaken h (gives {a} p) = gives (h a p)
weaken h (stopped n) = stopped n

-- what holds of every answer holds too
pub also : {A : Type 0} {l : Limits} {P Q : A → Type 0} {x : Result A} → Unless l P x → Yields Q x →
    Unless l (λ a. P a × Q a) x
also (gives p) q = gives (p, at_ok q refl)
also (stopped n) q = stopped n

pub record Answer {A : Type 0} (P : A → Type 0) (x : Result A) : Type 0 where
  pub value : A
  pub is : x ≡ Ok value
  pub holds : P value

pub answer : {A : Type 0} {P : A → Type 0} {x : Result A} → Unless the_rust P x → Answer P x
answer (gives {a} p) = record { value = a; is = refl; holds = p }
answer (stopped n) = absurd (n refl)

module _ {l : Limits} where
  module _ {A B : Type 0} {P : A → Type 0} {Q : B → Type 0} where
    pub and_then : {x : Result A} {f : A → Result B} → Unless l P x → ((a : A) → P a → Unless l Q (f a)) →
        Unless l Q (x >>= f)
    unfolding ◌>>=◌
    and_then (gives {a} p) h = h a p
    and_then (stopped n) h = stopped n

  module _ {A : Type 0} {P : A → Type 0} where
    pub tested : (t : Bool) (r : Refusal) {f : Unit {0} → Result A} → (l ≡ the_rust → t ≡ true) →
        ((u : Unit {0}) → Unless l P (f u)) →
        Unless l P (assert t r >>= f)
    unfolding ◌>>=◌ assert
    tested true r n h = h tt
    tested false r n h = stopped (λ e. never (n e))

    pub by_test : (t : Bool) {x y : Result A} → (t ≡ true → Unless l P x) → (t ≡ false → Unless l P y) →
        Unless l P (elim t as (λ z. Result A) [ true ↦ x | false ↦ y ])
    by_test true f g = f refl
    by_test false f g = g refl

    pub by_option : {B : Type 0} (o : Option B) {f : B → Result A} {y : Result A} → ((b : B) → Unless l P (f b)) →
        (o ≡ None → Unless l P y) → Unless l P (elim o as (λ z. Result A) [ Some b ↦ f b | None ↦ y ])
    by_option (Some b) f g = f b
    by_option None f g = g refl

-- a bound of the Rust is no bound
pub unbounded-within : (l : Limits) (f : Limits → Bound) (n : ℕ) → f the_rust ≡ unbounded → l ≡ the_rust →
    within (f l) n ≡ true
unbounded-within l f n e h = ap (λ (l : Limits). within (f l) n) h ∙ ap (λ (b : Bound). within b n) e

module _ (l : Limits) where
  ranged_unless : (q : Rational) → Unless l (λ r. Unit {0}) (ranged l q)
  unfolding ranged bounded
  ranged_unless q =
      go (within l.numbers (nat_abs q.num) && within l.numbers (nat_abs q.den))
      (λ h. ap (λ (l : Limits). within l.numbers (nat_abs q.num) && within l.numbers (nat_abs q.den)) h)
    where
      go : (t : Bool) → (l ≡ the_rust → t ≡ true) → Unless l (λ r. Unit {0}) (in_limit (cond t (Ok q) (Err OutOfRange)))
      go true n = gives tt
      go false n = stopped (λ e. never (n e))

  pub plus_unless : (a b : Rational) → Unless l (λ r. Unit {0}) (plus l a b)
  unfolding plus
  plus_unless a b = ranged_unless _

  pub times_unless : (a b : Rational) → Unless l (λ r. Unit {0}) (times l a b)
  unfolding times
  times_unless a b = ranged_unless _

  pub over_unless : (a b : Rational) → Unless l (λ r. Unit {0}) (over l a b)
  unfolding over
  over_unless a b = ranged_unless _

-- ---- neat maps

abbrev pub Fresh : Monomial → Map Monomial → Type 0
Fresh k [] = Unit {0}
Fresh k (e ∷ m) = (same_atoms k e.0 ≡ false) × Fresh k m

pub data Neat (Q : Rational → Type 0) : Map Monomial → Type 0 where
  empty : Neat Q []
  entry : {e : Monomial × Rational} {m : Map Monomial} → Proper e.0 → Q e.1 → Fresh e.0 m → Neat Q m →
      Neat Q (e ∷ m)

-- the keys alone
abbrev pub Keyed : Map Monomial → Type 0
Keyed [] = Unit {0}
Keyed (e ∷ m) = Proper e.0 × Keyed m

pub neat_keyed : {Q : Rational → Type 0} {m : Map Monomial} → Neat Q m → Keyed m
neat_keyed empty = tt
neat_keyed (entry p q f h) = (p, neat_keyed h)

pub neg_keyed : (m : Map Monomial) → Keyed m → Keyed (neg_all m)
unfolding neg_all
neg_keyed [] h = tt
neg_keyed (e ∷ m) h = (h.0, neg_keyed m h.1)

module _ (Q : Rational → Type 0) where
  -- ---- removal

  record Moved (m r : Map Monomial) : Type 0 where
    neat : Neat Q r
    fresh : (k : Monomial) → Fresh k m → Fresh k r

  last_first-neat : (e : Monomial × Rational) (m : Map Monomial) → Neat Q (e ∷ m) → Moved (e ∷ m) (last_first e m)
  unfolding last_first
  last_first-neat e [] h = record { neat = h; fresh = λ k f. f }
  last_first-neat e (f ∷ m) (entry p q a h) = go (last_first f m) (last_first-neat f m h)
    where
      go : (r : Map Monomial) → Moved (f ∷ m) r →
          Moved (e ∷ f ∷ m) (elim r as (λ z. Map Monomial) [ [] ↦ e ∷ [] | g ∷ s ↦ g ∷ e ∷ s ])
      go [] w = record { neat = entry p q tt empty; fresh = λ k d. (d.0, tt) }
      go (g ∷ s) w = at w.neat (w.fresh e.0 a)
        where
          at : Neat Q (g ∷ s) → Fresh e.0 (g ∷ s) → Moved (e ∷ f ∷ m) (g ∷ e ∷ s)
          at (entry pg qg ag hs) b =
              record {
                neat = entry {m = e ∷ s} pg qg (same_atoms-sym g.0 e.0 ∙ b.0, ag) (entry p q b.1 hs);
                fresh = λ k d. let c = w.fresh k d.1 in (c.0, (d.0, c.1));
              }

  swap_remove-neat : (m : Map Monomial) → Neat Q m → Moved m (swap_remove m)
  unfolding swap_remove
  swap_remove-neat [] h = record { neat = empty; fresh = λ k f. f }
  swap_remove-neat (e ∷ m) h = last_first-neat e m h

  -- ---- insertion

  module _ (nonzero : (q : Rational) → is_zero q ≡ false → Q q) (l : Limits) where
    record Entered (m : Map Monomial) (key : Monomial) (r : Map Monomial) : Type 0 where
      neat : Neat Q r
      fresh : (k : Monomial) → Fresh k m → same_atoms k key ≡ false → Fresh k r

    enter-neat : (n : ℕ) (m : Map Monomial) (key : Monomial) (v : Rational) → Proper key → is_zero v ≡ false →
        Neat Q m →
        Unless l (Entered m key) (enter monomials l n m key v)
    unfolding enter
    enter-neat n [] key v p z h =
        tested _ _ (unbounded-within l (λ l. l.monomials) (suc n) refl)
        (λ u. gives (record { neat = entry p (nonzero v z) tt empty; fresh = λ k f d. (d, tt) }))
    enter-neat n (e ∷ m) key v p z (entry pe qe ae h) =
        by_test (same_monomial e.0 key)
        (λ s.
        and_then (plus_unless l e.1 v) (λ c u.
        gives
        (if_either (Entered (e ∷ m) key) (is_zero c)
        (λ t.
        let w = swap_remove-neat m h in
        record { neat = w.neat; fresh = λ k f d. w.fresh k f.1 })
        (λ t. record { neat = entry pe (nonzero c t) ae h; fresh = λ k f d. f }))))
        (λ s.
        and_then (enter-neat (suc n) m key v p z h) (λ r w.
        gives
        (record {
          neat = entry pe qe (w.fresh e.0 ae (proper-apart e.0 key pe p s)) w.neat;
          fresh = λ k f d. (f.0, w.fresh k f.1 d);
        })))

    pub insert-neat : (m : Map Monomial) (key : Monomial) (v : Rational) → Proper key → Neat Q m →
        Unless l (Neat Q) (insert monomials l m key v)
    unfolding insert
    insert-neat m key v p h =
        by_test (is_zero v) (λ z. gives h) (λ z. weaken (λ r w. w.neat) (enter-neat 0 m key v p z h))

    pub insert_all-neat : (m r : Map Monomial) → Neat Q m → Keyed r → Unless l (Neat Q) (insert_all monomials l m r)
    unfolding insert_all
    insert_all-neat m [] h k = gives h
    insert_all-neat m (e ∷ r) h k =
        and_then (insert-neat m e.0 e.1 k.0 h) (λ s w. insert_all-neat s r w k.1)

    pub sub-neat : (a b : Combination Monomial) → Neat Q a.entries → Keyed b.entries →
        Unless l (λ c. Neat Q c.entries) (sub monomials l a b)
    unfolding sub IndexMap.add IndexMap.neg
    sub-neat a b h k =
        and_then (insert_all-neat a.entries (neg_all b.entries) h (neg_keyed b.entries k))
        (λ m w. and_then (plus_unless l a.constant (neg_q b.constant)) (λ c u. gives w))
