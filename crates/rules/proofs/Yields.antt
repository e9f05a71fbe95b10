-- What holds of a result wherever it is not a refusal. A law about a function of specs/ goes along the
-- function's own steps: what a step yields is handed on by `and_then`.
--     Yields, at_ok       P holds of what is yielded; what it says of an `ok`
--     by_answer, through       from each answer; an answer behind `>>=` goes through one before it
--     and_then, known, past       along `>>=`: a law of the first value is known, or the value, or nothing
--     weaker, guarded       from P to Q; behind `assert`
--     by_test, by_option       along a case
--     ranged-yields, plus-yields, times-yields, over-yields, fraction-yields       under a limit as without one
use mathlib.Core.Path.{◌≡◌, refl, subst}
use mathlib.Core.Bool.{Bool, true, false, ◌&&◌, cond}
use Rattle.std.specs.Prelude.{Option, Some, None}
use Prim.Native.Nat.{ℕ}
use native.Mathlib.Omega.{arith}
use lib.IntN.{nat_abs}
use Rattle.numbers.specs.Rational.{Rational, add_q, mul_q, div_q}
use Rattle.terms.specs.Term.{Term}
use Rattle.terms.specs.Readers.{within, bounded, unbounded, as_fraction}
use Rattle.terms.proofs.Readings.{fraction-unbounded}
use Rattle.rules.specs.Refusal.{◌>>=◌, assert}
use Rattle.std.specs.Prelude.{Result, Ok, Err}
use Rattle.rules.specs.Limits.{Limits, in_limit, number_or, ranged, plus, times, over, fraction_of}
use Rattle.terms.specs.Readers.{Reading}
use Rattle.terms.specs.declared.term.NotRead.TheVariants.{NotNumber, OutOfRange}

pub data Yields {E A : Type 0} (P : A → Type 0) : Result A E → Type 0 where
  gives : {a : A} → P a → Yields P (Ok a)
  refuses : {r : E} → Yields P (Err r)

pub at_ok : {E A : Type 0} {P : A → Type 0} {x : Result A E} → Yields P x → {a : A} → x ≡ Ok a → P a
at_ok {P = P} (gives {a = b} p) {a} e = let h : b ≡ a = cc in subst P h p
at_ok refuses e = let z : ◌≡◌ {A = ℕ} 0 1 = cc in absurd (omega arith)

pub by_answer : {E A : Type 0} {P : A → Type 0} (x : Result A E) → ((a : A) → x ≡ Ok a → P a) → Yields P x
by_answer (Ok a) h = gives (h a refl)
by_answer (Err r) h = refuses

-- x answers a, and f goes on from there to b
pub record Through {E A B : Type 0} (x : Result A E) (f : A → Result B E) (b : B) : Type 0 where
  pub middle : A
  pub first : x ≡ Ok middle
  pub then : f middle ≡ Ok b

pub through : {E A B : Type 0} (x : Result A E) (f : A → Result B E) (b : B) → (x >>= f) ≡ Ok b → Through x f b
unfolding ◌>>=◌
through (Ok a) f b e = record { middle = a; first = refl; then = e }
through (Err r) f b e = let z : ◌≡◌ {A = ℕ} 0 1 = cc in absurd (omega arith)

module _ {E A B : Type 0} {P : A → Type 0} {Q : B → Type 0} where
  pub and_then :
      {x : Result A E} {f : A → Result B E} → Yields P x → ((a : A) → P a → Yields Q (f a)) → Yields Q (x >>= f)
  unfolding ◌>>=◌
  and_then (gives {a} p) h = h a p
  and_then refuses h = refuses

module _ {E A B : Type 0} {Q : B → Type 0} where
  -- the first value, and where it comes from
  pub known : (m : Result A E) {f : A → Result B E} → ((a : A) → m ≡ Ok a → Yields Q (f a)) → Yields Q (m >>= f)
  unfolding ◌>>=◌
  known (Ok a) k = k a refl
  known (Err r) k = refuses

  -- nothing is known of the first value
  pub past : (m : Result A E) {f : A → Result B E} → ((a : A) → Yields Q (f a)) → Yields Q (m >>= f)
  past m k = known m λ a e. k a

pub weaker : {E A : Type 0} {P Q : A → Type 0} {x : Result A E} → ((a : A) → P a → Q a) → Yields P x → Yields Q x
weaker h (gives {a} p) = gives (h a p)
weaker h refuses = refuses

-- the test passed
pub guarded :
    {E A : Type 0} {P : A → Type 0} (t : Bool) (r : E) {f : Unit {0} → Result A E} →
    (t ≡ true → (u : Unit {0}) → Yields P (f u)) → Yields P (assert t r >>= f)
unfolding ◌>>=◌ assert
guarded true r h = h refl tt
guarded false r h = refuses

-- along a test
pub by_test :
    {E A : Type 0} {P : A → Type 0} (t : Bool) (x y : Result A E) → (t ≡ true → Yields P x) →
    (t ≡ false → Yields P y) → Yields {E = E} P (elim t as (λ z. Result A E) [ true ↦ x | false ↦ y ])
by_test true x y f g = f refl
by_test false x y f g = g refl

-- Q says what is known of the option
module _ {E A B : Type 0} {P : B → Type 0} where
  pub by_option :
      (Q : Option A → Type 0) {f : A → Result B E} {y : Result B E} → ((a : A) → Q (Some a) → Yields P (f a)) →
      (Q None → Yields P y) → (o : Option A) → Q o →
      Yields {E = E} P (elim o as (λ x. Result B E) [ Some a ↦ f a | None ↦ y ])
  by_option Q g h (Some a) q = g a q
  by_option Q g h None q = h q

-- ---- numbers under a limit

-- a number that is read under a limit is read without one
abbrev pub ReadAs : Term → Option Rational → Type 0
ReadAs t (Some q) = as_fraction unbounded t ≡ Ok q
ReadAs t None = Unit {0}

module _ (l : Limits) where
  pub ranged-yields : (q : Rational) → Yields (λ r. r ≡ q) (ranged l q)
  unfolding ranged bounded
  ranged-yields q = go (within l.numbers (nat_abs q.num) && within l.numbers (nat_abs q.den))
    where
      go : (t : Bool) → Yields (λ r. r ≡ q) (in_limit (cond t (Ok q) (Err OutOfRange)))
      go true = gives refl
      go false = refuses

  pub plus-yields : (a b : Rational) → Yields (λ r. r ≡ add_q a b) (plus l a b)
  unfolding plus
  plus-yields a b = ranged-yields (add_q a b)

  pub times-yields : (a b : Rational) → Yields (λ r. r ≡ mul_q a b) (times l a b)
  unfolding times
  times-yields a b = ranged-yields (mul_q a b)

  pub over-yields : (a b : Rational) → Yields (λ r. r ≡ div_q a b) (over l a b)
  unfolding over
  over-yields a b = ranged-yields (div_q a b)

  pub fraction-yields : (t : Term) → Yields (ReadAs t) (fraction_of l t)
  unfolding fraction_of
  fraction-yields t = go (as_fraction l.numbers t) refl
    where
      go : (r : Reading) → as_fraction l.numbers t ≡ r → Yields (ReadAs t) (number_or r)
      go (Ok q) e = gives (fraction-unbounded l.numbers t q e)
      go (Err NotNumber) e = gives tt
      go (Err OutOfRange) e = refuses
