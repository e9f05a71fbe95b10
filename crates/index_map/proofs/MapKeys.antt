-- The keys of a map of terms: one that is absent is lacked, and an entry in the middle of a good map may be taken
-- out and put in again (`taken_out`, `put_in`), also with another value (`new-value`). So different keys below n are at
-- most n (`few`).
use mathlib.Core.Path.{◌≡◌, refl, sym}
use mathlib.Core.Bool.{Bool, true, false, not}
use mathlib.Core.List.{[], ◌∷◌, ◌++◌}
use Prim.Native.Nat.{ℕ, zero, suc, ◌≤◌, ◌<◌}
use native.Mathlib.Omega.{arith}
use borrow.Author.Tests.{eqb-true, eqb-false, ne_eqb, not-true}
use lib.Dec.{eqb}
use lib.ListN.{length}
use Rattle.numbers.specs.Rational.{Rational, Proper}
use Rattle.numbers.specs.Bytes.{Bytes}
use Rattle.terms.specs.Term.{Term, record_number}
use Rattle.terms.specs.Book.{count}
use Rattle.numbers.proofs.Truths.{both}
use Rattle.index_map.specs.IndexMap.{Map}
use Rattle.index_map.specs.Memory.Entries.{absent, Entry, Good}
use Rattle.index_map.proofs.KeyedMaps.{Lacks, nothing, another, Look, found, missing, look}
use Rattle.index_map.proofs.MapEnds.{length-middle}

abbrev pub key_of : Term × Rational → ℕ
key_of e = record_number e.0

abbrev pub numbered : ℕ → Term → Bool
numbered i t = eqb (record_number t) i

-- ---- a key that is absent

pub lacks-absent : (i : ℕ) {m : Map Term} → Lacks (numbered i) m → absent i m ≡ true
unfolding absent
lacks-absent i nothing = refl
lacks-absent i (another other rest) = rw (other, lacks-absent i rest)

pub absent-lacks : (i : ℕ) (m : Map Term) → absent i m ≡ true → Lacks (numbered i) m
unfolding absent
absent-lacks i [] h = nothing
absent-lacks i (e ∷ m) h =
    let tests = both (not (eqb (key_of e) i)) (absent i m) h in
    another (not-true _ tests.0) (absent-lacks i m tests.1)

lacks-front : (i : ℕ) (p s : Map Term) → Lacks (numbered i) (p ++ s) → Lacks (numbered i) p
lacks-front i [] s h = nothing
lacks-front i (e ∷ p) s (another other rest) = another other (lacks-front i p s rest)

other_way : (i j : ℕ) → eqb i j ≡ false → eqb j i ≡ false
other_way i j h = ne_eqb j i (λ e. eqb-false i j h (sym e))

module _ (i : ℕ) (e : Term × Rational) (s : Map Term) where
  lacks-into : (p : Map Term) → eqb (key_of e) i ≡ false → Lacks (numbered i) (p ++ s) → Lacks (numbered i) (p ++ e ∷ s)
  lacks-into [] other h = another other h
  lacks-into (f ∷ p) other (another here rest) = another here (lacks-into p other rest)

  lacks-middle : (p : Map Term) → Lacks (numbered i) (p ++ e ∷ s) → eqb (key_of e) i ≡ false
  lacks-middle [] (another here rest) = here
  lacks-middle (f ∷ p) (another here rest) = lacks-middle p rest

  lacks-without : (p : Map Term) → Lacks (numbered i) (p ++ e ∷ s) → Lacks (numbered i) (p ++ s)
  lacks-without [] (another here rest) = rest
  lacks-without (f ∷ p) (another here rest) = another here (lacks-without p rest)

-- ---- an entry in the middle of a good map

module _ {b : Bytes} where
  -- an entry before other entries
  before :
      {e : Term × Rational} {m : Map Term} (n : Map Term) → Entry b e m → Lacks (numbered (key_of e)) n → Entry b e n
  before {e} n h none =
      record { term = h.term; inside = h.inside; proper = h.proper; once = lacks-absent (key_of e) none }

  lacks-others : {e : Term × Rational} {m : Map Term} → Entry b e m → Lacks (numbered (key_of e)) m
  lacks-others {e} {m} h = absent-lacks (key_of e) m h.once

module _ {b : Bytes} (e : Term × Rational) (s : Map Term) where
  pub put_in : (p : Map Term) → Entry b e (p ++ s) → Good b (p ++ s) → Good b (p ++ e ∷ s)
  unfolding Good
  put_in [] new good = (new, good)
  put_in (f ∷ p) new good =
      let others = lacks-others new in
      let other = other_way (key_of f) (key_of e) (lacks-middle (key_of e) f (p ++ s) [] others) in
      let first = good.0 in (
        before (p ++ e ∷ s) first (lacks-into (key_of f) e s p other (lacks-others first)),
        put_in p (before (p ++ s) new (lacks-without (key_of e) f (p ++ s) [] others)) good.1,
      )

  pub taken_out : (p : Map Term) → Good b (p ++ e ∷ s) → Entry b e (p ++ s) × Good b (p ++ s)
  unfolding Good
  taken_out [] good = good
  taken_out (f ∷ p) good =
      let first = good.0 in
      let rest = taken_out p good.1 in
      let others = lacks-others first in (
        before (f ∷ (p ++ s)) rest.0
            (another (other_way (key_of e) (key_of f) (lacks-middle (key_of f) e s p others)) (lacks-others rest.0)),
        (before (p ++ s) first (lacks-without (key_of f) e s p others), rest.1),
      )

-- with another value
pub new-value :
    (b : Bytes) (p : Map Term) (e : Term × Rational) (s : Map Term) → Good b (p ++ e ∷ s) →
    (q : Rational) → Proper q → Good b (p ++ (e.0, q) ∷ s)
new-value b p e s good q proper =
    let out = taken_out e s p good in
    let old = out.0 in
    put_in (e.0, q) s p
    (record { term = old.term; inside = old.inside; proper = proper; once = old.once })
    out.1

-- no entry before it has its key
pub lacks-before :
    (b : Bytes) (p : Map Term) (e : Term × Rational) (s : Map Term) → Good b (p ++ e ∷ s) →
    Lacks (numbered (key_of e)) p
lacks-before b p e s good = lacks-front (key_of e) p s (lacks-others (taken_out e s p good).0)

-- ---- different keys below n

unfoldable Below : ℕ → Map Term → Type 0
Below i [] = Unit {0}
Below i (e ∷ m) = (key_of e < i) × Below i m

good-below : (b : Bytes) (m : Map Term) → Good b m → Below (count b) m
unfolding Good Below
good-below b [] g = tt
good-below b (e ∷ m) g = (g.0.inside, good-below b m g.1)

lower : (n : ℕ) (m : Map Term) → Below (suc n) m → Lacks (numbered n) m → Below n m
unfolding Below
lower n [] low none = tt
lower n (e ∷ m) low (another other none) =
    (omega (arith, low.0, eqb-false (key_of e) n other), lower n m low.1 none)

below-without : (n : ℕ) (e : Term × Rational) (p s : Map Term) → Below n (p ++ e ∷ s) → Below n (p ++ s)
unfolding Below
below-without n e [] s low = low.1
below-without n e (f ∷ p) s low = (low.0, below-without n e p s low.1)

-- the key n is taken out
few-more :
    {n : ℕ} (b : Bytes) → ((m : Map Term) → Good b m → Below n m → length m ≤ n) →
    {m : Map Term} → Look (numbered n) m → Good b m → Below (suc n) m → length m ≤ suc n
few-more {n} b few (missing {m} none) g below = omega (arith, few m g (lower n m below none))
few-more {n} b few (found p e s is none) g below =
    let rest = taken_out e s p g in
    let gone : Lacks (numbered n) (p ++ s) = rw (eqb-true (key_of e) n is) at (lacks-others rest.0) in
    let low = lower n (p ++ s) (below-without (suc n) e p s below) gone in
    omega (arith, length-middle e p s, few (p ++ s) rest.1 low)

few : (b : Bytes) (n : ℕ) (m : Map Term) → Good b m → Below n m → length m ≤ n
unfolding Below
few b zero [] g below = omega arith
few b zero (e ∷ m) g below = absurd (omega (arith, below.0))
few b (suc n) m g below = few-more b (few b n) (look (numbered n) m) g below

-- no more different keys than records
pub good_length : (b : Bytes) (m : Map Term) → Good b m → length m ≤ count b
good_length b m g = few b (count b) m g (good-below b m g)
