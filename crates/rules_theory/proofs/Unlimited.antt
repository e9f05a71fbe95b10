-- Without limits no operation on numbers and maps is refused: a definition that is made of them answers wherever its
-- own tests pass. `Answers` is `Yields` of a result that is no refusal, and goes along a definition's steps in the same
-- way.
--     answer_of, answer_is, free_of       from an answer and to one
--     answers-then, freely, answered-as, answered, answered-each       along `>>=`; with what is yielded
--     assert-free, either-free, option_free       along a case
--     ranged-free, times-free, plus-free       numbers, as equations
--     insert-free, add_free, sub-free, scale_all-free       maps, whatever their keys
--     visit-free, add_entry-free, add_constant-free       the steps of a walk
use mathlib.Core.Path.{◌≡◌, refl}
use mathlib.Core.Bool.{Bool, true, false}
use mathlib.Core.List.{[], ◌∷◌}
use Rattle.std.specs.Prelude.{Option, Some, None}
use Prim.Native.Nat.{ℕ, suc}
use Rattle.numbers.specs.Rational.{Rational, add_q, mul_q, is_zero}
use Rattle.terms.specs.Readers.{bounded}
use Rattle.rules.specs.Refusal.{Result, ◌>>=◌, assert}
use Rattle.rules.specs.declared.refusal.Refusal.{Refusal}
use Rattle.std.specs.Prelude.{Ok}
use Rattle.rules.specs.Limits.{the_rust, ranged, times, plus}
use Rattle.index_map.specs.IndexMap.{Map, Combination, Keys, Walked, scale_all, enter, insert, insert_all, add, neg, sub}
use Rattle.index_map.specs.IndexMap.{visit, add_entry, add_constant}
use Rattle.rules.proofs.Yields.{Yields, gives, at_ok}
use Rattle.rules_theory.proofs.Limited.{Unbounded}

-- ---- results that are no refusals

pub data Answers {A : Type 0} (P : A → Type 0) : Result A → Type 0 where
  answers : {a : A} → P a → Answers P (Ok a)

-- whatever the answer
abbrev pub Free : {A : Type 0} → Result A → Type 0
Free {A} x = Answers (λ (a : A). Unit {0}) x

pub answer_of : {A : Type 0} {P : A → Type 0} {x : Result A} → Answers P x → (a : A) × ((x ≡ Ok a) × P a)
answer_of (answers {a} p) = (a, (refl, p))

pub answer_is : {A : Type 0} {P : A → Type 0} {x : Result A} {a : A} → x ≡ Ok a → P a → Answers P x
answer_is e p = rw e (answers p)

module _ {A : Type 0} {P Q : A → Type 0} where
  pub answered-as : {x : Result A} → ((a : A) → P a → Q a) → Answers P x → Answers Q x
  answered-as h (answers {a} p) = answers (h a p)

  -- what is yielded, of an answer
  pub answered : {x : Result A} → Answers P x → Yields Q x → Answers Q x
  answered (answers p) (gives q) = answers q

-- the same for a family
pub answered-each : {A I : Type 0} {P : A → Type 0} {Q : I → A → Type 0} {x : Result A} → Answers P x →
    ((i : I) → Yields (Q i) x) → Answers (λ a. (i : I) → Q i a) x
answered-each {Q = Q} (answers {a} p) h = answers (λ i. at_ok {P = Q i} (h i) refl)

module _ {A B : Type 0} {P : A → Type 0} {Q : B → Type 0} where
  pub answers-then :
      {x : Result A} {f : A → Result B} → Answers P x → ((a : A) → P a → Answers Q (f a)) → Answers Q (x >>= f)
  unfolding ◌>>=◌
  answers-then (answers {a} p) h = h a p

-- nothing is known of the first value
pub freely : {A B : Type 0} {Q : B → Type 0} {x : Result A} {f : A → Result B} → Free x → ((a : A) → Answers Q (f a)) →
    Answers Q (x >>= f)
freely p h = answers-then p λ a t. h a

pub free_of : {A : Type 0} {x : Result A} {a : A} → x ≡ Ok a → Free x
free_of e = answer_is e tt

pub assert-free : (t : Bool) (r : Refusal) → t ≡ true → Free (assert t r)
unfolding assert
assert-free t r e = rw e (answers tt)

module _ {A : Type 0} {P : A → Type 0} where
  pub either-free : (t : Bool) {x y : Result A} → Answers P x → Answers P y →
      Answers P (elim t as (λ z. Result A) [ true ↦ x | false ↦ y ])
  either-free true p q = p
  either-free false p q = q

  pub option_free : {B : Type 0} (o : Option B) {f : B → Result A} {y : Result A} → ((b : B) → Answers P (f b)) →
      Answers P y → Answers P (elim o as (λ z. Result A) [ Some b ↦ f b | None ↦ y ])
  option_free (Some b) p q = p b
  option_free None p q = q

-- ---- numbers

pub ranged-free : (q : Rational) → ranged the_rust q ≡ Ok q
unfolding ranged bounded
ranged-free q = refl

pub times-free : (a b : Rational) → times the_rust a b ≡ Ok (mul_q a b)
unfolding times
times-free a b = ranged-free (mul_q a b)

pub plus-free : (a b : Rational) → plus the_rust a b ≡ Ok (add_q a b)
unfolding plus
plus-free a b = ranged-free (add_q a b)

-- ---- maps

module _ {K : Type 0} (keys : Keys K) (free : Unbounded keys) where
  enter-free : (n : ℕ) (m : Map K) (key : K) (v : Rational) → Free (enter keys the_rust n m key v)
  unfolding enter
  enter-free n [] key v = freely (assert-free _ _ (free (suc n))) λ u. answers tt
  enter-free n (e ∷ m) key v =
      either-free (keys.same e.0 key) (freely (free_of (plus-free e.1 v)) λ s. answers tt)
      (freely (enter-free (suc n) m key v) λ r. answers tt)

  pub insert-free : (m : Map K) (key : K) (v : Rational) → Free (insert keys the_rust m key v)
  unfolding insert
  insert-free m key v = either-free (is_zero v) (answers tt) (enter-free 0 m key v)

  insert_all-free : (m r : Map K) → Free (insert_all keys the_rust m r)
  unfolding insert_all
  insert_all-free m [] = answers tt
  insert_all-free m (e ∷ r) = freely (insert-free m e.0 e.1) λ n. insert_all-free n r

  pub add_free : (a b : Combination K) → Free (add keys the_rust a b)
  unfolding add
  add_free a b =
      freely (insert_all-free a.entries b.entries) λ m.
      freely (free_of (plus-free a.constant b.constant)) λ c. answers tt

  pub sub-free : (a b : Combination K) → Free (sub keys the_rust a b)
  unfolding sub
  sub-free a b = add_free a (neg b)

  pub add_entry-free : (key : K) (v : Rational) (w : Walked K) → Free (add_entry keys the_rust key v w)
  unfolding add_entry
  add_entry-free key v w = freely (insert-free w.sum.entries key v) λ m. answers tt

module _ {K : Type 0} where
  pub scale_all-free : (q : Rational) (m : Map K) → Free (scale_all the_rust q m)
  unfolding scale_all
  scale_all-free q [] = answers tt
  scale_all-free q (e ∷ m) = freely (free_of (times-free e.1 q)) λ v. freely (scale_all-free q m) λ r. answers tt

  pub visit-free : (w : Walked K) → Free (visit the_rust w)
  unfolding visit
  visit-free w = freely (assert-free _ _ refl) λ u. answers tt

  pub add_constant-free : (q : Rational) (w : Walked K) → Free (add_constant the_rust q w)
  unfolding add_constant
  add_constant-free q w = freely (free_of (plus-free w.sum.constant q)) λ c. answers tt
