-- The limits theorem: under any limits a definition answers as under `the_rust`, or is refused 10, 11 or 12
-- (`◌≼◌`). Limits are tested by `bounded` and by `assert`; all else is made of these by `>>=` and by cases,
-- which keep the relation, so each proof has the shape of its definition. Here: the relation, numbers,
-- readers, and maps with their walks.
use mathlib.Core.Path.{◌≡◌, refl, subst}
use mathlib.Core.Bool.{Bool, true, false, cond, ◌&&◌}
use Rattle.std.specs.Prelude.{Option, Some, None}
use mathlib.Core.List.{[], ◌∷◌}
use Prim.Native.Nat.{ℕ, suc}
use native.Mathlib.Omega.{arith}
use lib.IntN.{nat_abs}
use Rattle.numbers.specs.Rational.{Rational, is_zero}
use Rattle.terms.specs.Term.{Term, unary}
use Rattle.terms.specs.Operator.{Sub}
use Rattle.terms.specs.Readers.{Bound, unbounded, within, bounded, negated, as_signed_number, quotient_of, divided}
use Rattle.terms.specs.Readers.{as_unsigned_fraction, as_fraction}
use Rattle.terms.specs.Readers
use Rattle.rules.specs.Refusal.{Result, ◌>>=◌, assert}
use Rattle.rules.specs.declared.refusal.Refusal.{Refusal}
use Rattle.std.specs.Prelude.{Ok, Err}
use Rattle.rules.specs.declared.refusal.Refusal.TheVariants.{VisitLimit, NumberRange, PolynomialSize}
use Rattle.rules.specs.Limits.{Limits, the_rust, number_or, in_limit, ranged, times, plus, over, fraction_of, fraction_err}
use Rattle.index_map.specs.IndexMap.{Map, Combination, Keys, Walked, scale_all, enter, insert, insert_all, add, neg, sub}
use Rattle.index_map.specs.IndexMap.{visit, add_entry, add_constant}
use Rattle.terms.specs.Readers.{Reading}
use Rattle.terms.specs.declared.term.NotRead.TheVariants.{NotNumber, OutOfRange}

-- ---- the relation

pub data IsLimit : Refusal → Type 0 where
  ten : IsLimit VisitLimit
  eleven : IsLimit NumberRange
  twelve : IsLimit PolynomialSize

infix 4 ◌≼◌
pub data ◌≼◌ {A : Type 0} : Result A → Result A → Type 0 where
  equal : (r : Result A) → r ≼ r
  stopped : {r : Refusal} {u : Result A} → IsLimit r → Err r ≼ u

-- what answers without limits is refused for a limit alone
pub limit-alone : {A : Type 0} {x y : Result A} {a : A} {r : Refusal} → x ≼ y → y ≡ Ok a → x ≡ Err r → IsLimit r
limit-alone {r = r} (stopped {r = s} h) e f = let same : s ≡ r = cc in subst IsLimit same h
limit-alone (equal x) e f = let z : ◌≡◌ {A = ℕ} 0 1 = cc in absurd (omega arith)

pub bind : {A B : Type 0} {m m' : Result A} {f f' : A → Result B} → m ≼ m' → ((a : A) → f a ≼ f' a) →
    (m >>= f) ≼ (m' >>= f')
unfolding ◌>>=◌
bind (equal (Ok a)) h = h a
bind (equal (Err r)) h = equal _
bind (stopped p) h = stopped p

module _ {B : Type 0} {y y' : Result B} where
  pub either : (b : Bool) {x x' : Result B} → x ≼ x' → y ≼ y' →
      ◌≼◌ {A = B} (elim b [ true ↦ x | false ↦ y ]) (elim b [ true ↦ x' | false ↦ y' ])
  either true p q = p
  either false p q = q

  pub maybe : {A : Type 0} (o : Option A) {f f' : A → Result B} → ((a : A) → f a ≼ f' a) → y ≼ y' →
      ◌≼◌ {A = B} (elim o [ Some a ↦ f a | None ↦ y ]) (elim o [ Some a ↦ f' a | None ↦ y' ])
  maybe (Some a) p q = p a
  maybe None p q = q

-- a limit is tested, and the Rust's test passes
pub tested : (b c : Bool) {r : Refusal} → c ≡ true → IsLimit r → assert b r ≼ assert c r
unfolding assert
tested true c e p = rw e (equal _)
tested false c e p = stopped p

-- ---- numbers: a reading is the same, or out of range

infix 4 ◌⊑◌
data ◌⊑◌ : Reading → Reading → Type 0 where
  agrees : (r : Reading) → r ⊑ r
  outside : {r : Reading} → Err OutOfRange ⊑ r

bounded-limited : (b : Bound) (q : Rational) → bounded b q ⊑ bounded unbounded q
unfolding bounded
bounded-limited b q = at (within b (nat_abs q.num) && within b (nat_abs q.den))
  where
    at : (c : Bool) → cond c (Ok q) (Err OutOfRange) ⊑ Ok q
    at true = agrees _
    at false = outside

negated-limited : {r s : Reading} → r ⊑ s → negated r ⊑ negated s
negated-limited (agrees r) = agrees _
negated-limited outside = outside

-- what refuses a number out of range by 11
refusing : {A : Type 0} (f : Reading → Result A) {r s : Reading} → f (Err OutOfRange) ≡ Err NumberRange →
    r ⊑ s → f r ≼ f s
refusing f e (agrees r) = equal _
refusing f e outside = rw e (stopped eleven)

maybe-read : {A : Type 0} (o : Option A) {f g : A → Reading} {y z : Reading} → ((a : A) → f a ⊑ g a) → y ⊑ z →
    ◌⊑◌ (elim o [ Some a ↦ f a | None ↦ y ]) (elim o [ Some a ↦ g a | None ↦ z ])
maybe-read (Some a) p q = p a
maybe-read None p q = q

over-read-limited : (b : Bound) (n : Reading) (d : Rational) → Readers.over b n d ⊑ Readers.over unbounded n d
over-read-limited b (Ok n) d = bounded-limited b _
over-read-limited b (Err NotNumber) d = agrees _
over-read-limited b (Err OutOfRange) d = agrees _

divided-limited : (b : Bound) (a : Term) (d : Reading) → divided b a d ⊑ divided unbounded a d
divided-limited b a (Ok d) = at (is_zero d)
  where
    at : (z : Bool) → ◌⊑◌ (elim z [ true ↦ Err NotNumber | false ↦ Readers.over b (as_signed_number a) d ])
        (elim z [ true ↦ Err NotNumber | false ↦ Readers.over unbounded (as_signed_number a) d ])
    at true = agrees _
    at false = over-read-limited b (as_signed_number a) d
divided-limited b a (Err NotNumber) = agrees _
divided-limited b a (Err OutOfRange) = agrees _

module _ (l : Limits) where
  pub ranged-limited : (q : Rational) → ranged l q ≼ ranged the_rust q
  unfolding ranged
  ranged-limited q = refusing in_limit refl (bounded-limited _ q)

  pub times-limited : (a b : Rational) → times l a b ≼ times the_rust a b
  unfolding times
  times-limited a b = ranged-limited _

  pub plus-limited : (a b : Rational) → plus l a b ≼ plus the_rust a b
  unfolding plus
  plus-limited a b = ranged-limited _

  pub over-limited : (a b : Rational) → over l a b ≼ over the_rust a b
  unfolding over
  over-limited a b = ranged-limited _

  -- ---- the readers

  as_unsigned_fraction-limited : (t : Term) → as_unsigned_fraction l.numbers t ⊑ as_unsigned_fraction unbounded t
  unfolding as_unsigned_fraction
  as_unsigned_fraction-limited t =
      maybe-read (quotient_of t) (λ p. divided-limited l.numbers p.0 (as_signed_number p.1)) (agrees _)

  as_fraction-limited : (t : Term) → as_fraction l.numbers t ⊑ as_fraction unbounded t
  unfolding as_fraction
  as_fraction-limited t =
      maybe-read (unary Sub t) (λ x. negated-limited (as_unsigned_fraction-limited x))
      (as_unsigned_fraction-limited t)

  pub fraction_of-limited : (t : Term) → fraction_of l t ≼ fraction_of the_rust t
  unfolding fraction_of
  fraction_of-limited t = refusing number_or refl (as_fraction-limited t)

  pub fraction_err-limited : (t : Term) → fraction_err l t ≼ fraction_err the_rust t
  unfolding fraction_err
  fraction_err-limited t = bind (fraction_of-limited t) λ q. equal _

-- ---- maps, combinations and walks

-- the Rust does not bound the number of entries
abbrev pub Unbounded : {K : Type 0} → Keys K → Type 0
Unbounded keys = (n : ℕ) → within (keys.most the_rust) n ≡ true

module _ {K : Type 0} (keys : Keys K) (free : Unbounded keys) (l : Limits) where
  enter-limited : (n : ℕ) (m : Map K) (key : K) (v : Rational) →
      enter keys l n m key v ≼ enter keys the_rust n m key v
  unfolding enter
  enter-limited n [] key v = bind (tested _ _ (free (suc n)) twelve) λ u. equal _
  enter-limited n (e ∷ m) key v =
      either (keys.same e.0 key) (bind (plus-limited l e.1 v) λ s. equal _)
      (bind (enter-limited (suc n) m key v) λ r. equal _)

  pub insert-limited : (m : Map K) (key : K) (v : Rational) →
      insert keys l m key v ≼ insert keys the_rust m key v
  unfolding insert
  insert-limited m key v = either (is_zero v) (equal _) (enter-limited 0 m key v)

  insert_all-limited : (m r : Map K) → insert_all keys l m r ≼ insert_all keys the_rust m r
  unfolding insert_all
  insert_all-limited m [] = equal _
  insert_all-limited m (e ∷ r) = bind (insert-limited m e.0 e.1) λ m'. insert_all-limited m' r

  pub add-limited : (a b : Combination K) → add keys l a b ≼ add keys the_rust a b
  unfolding add
  add-limited a b =
      bind (insert_all-limited a.entries b.entries) λ m.
      bind (plus-limited l a.constant b.constant) λ c. equal _

  pub sub-limited : (a b : Combination K) → sub keys l a b ≼ sub keys the_rust a b
  unfolding sub
  sub-limited a b = add-limited a (neg b)

  pub add_entry-limited : (key : K) (v : Rational) (w : Walked K) →
      add_entry keys l key v w ≼ add_entry keys the_rust key v w
  unfolding add_entry
  add_entry-limited key v w = bind (insert-limited w.sum.entries key v) λ m. equal _

module _ {K : Type 0} (l : Limits) where
  pub scale_all-limited : (q : Rational) (m : Map K) → scale_all l q m ≼ scale_all the_rust q m
  unfolding scale_all
  scale_all-limited q [] = equal _
  scale_all-limited q (e ∷ m) = bind (times-limited l e.1 q) λ v. bind (scale_all-limited q m) λ r. equal _

  pub visit-limited : (w : Walked K) → visit l w ≼ visit the_rust w
  unfolding visit
  visit-limited w = bind (tested _ _ refl ten) λ u. equal _

  pub add_constant-limited : (q : Rational) (w : Walked K) → add_constant l q w ≼ add_constant the_rust q w
  unfolding add_constant
  add_constant-limited q w = bind (plus-limited l w.sum.constant q) λ c. equal _

  -- a product is added to the constant
  pub add_product-limited : (q c : Rational) (w : Walked K) →
      (times l q c >>= λ r. add_constant l r w) ≼ (times the_rust q c >>= λ r. add_constant the_rust r w)
  add_product-limited q c w = bind (times-limited l q c) λ r. add_constant-limited r w
