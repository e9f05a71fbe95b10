-- The walk over a term makes neat polynomials, without coefficients 0 (`from_term-full`), and refuses only where
-- there are limits. Each proof follows its definition; that of the walk is a recursion over the term and its
-- arguments.
use mathlib.Core.Path.{◌≡◌, refl, sym, ap, subst}
use mathlib.Core.Bool.{Bool, true, false}
use Rattle.std.specs.Prelude.{Option, Some, None}
use mathlib.Core.List.{[], ◌∷◌}
use Prim.Native.Nat.{ℕ, suc, ◌+◌}
use native.Mathlib.Omega.{arith}
use lib.IntN.{pos}
use lib.ListN.{length}
use Rattle.numbers.specs.Rational.{Rational, whole, neg_q, is_zero}
use Rattle.terms.specs.Term.{Term, Terms, unary, binary}
use Rattle.terms.specs.Term.Term.{integer, rational, bitvector, atom, op}
use Rattle.terms.specs.Term.Terms.{nil, ◌▹◌}
use Rattle.terms.specs.Readers.{unbounded, as_number, quotient_of, as_unsigned_fraction, as_fraction, as_bitvector}
use Rattle.terms.proofs.Readings.{fraction-unbounded}
use Rattle.rules.specs.Refusal.{Result, ◌>>=◌}
use Rattle.std.specs.Prelude.{Ok}
use Rattle.rules.specs.Limits.{Limits, the_rust, number_or, times, fraction_of}
use Rattle.index_map.specs.IndexMap.{Map, combination, insert, new, Walked, walked, visit, add_entry, add_constant}
use Rattle.polynomial.specs.Polynomial.{Monomial, Polynomial, monomials, joined, mul_each, mul_left, insert_scaled, mul}
use Rattle.polynomial_walk.specs.PolynomialTerms.{arm_of, add_leaf, nonzero, divisor_of, add_term, add_args, add_difference}
use Rattle.polynomial_walk.specs.PolynomialTerms.{add_first, first_factor, other_factors, from_term}
use Rattle.rules_theory.proofs.Limited.{◌≼◌, fraction_of-limited}
use Rattle.polynomial_theory.proofs.LeafTerms.{InRange, not-outside, fraction-read, first_divisor, second_divisor}
use Rattle.polynomial_theory.proofs.LeafTerms.{no_divisor, Leaf}
use Rattle.polynomial_theory.proofs.PolynomialCases.{by_arm}
use Rattle.polynomial_theory.proofs.SortedMonomials.{Proper, atom-proper, joined-proper}
use Rattle.polynomial_theory.proofs.NeatMaps.{Unless, and_then, tested, by_option, unbounded-within, plus_unless}
use Rattle.polynomial_theory.proofs.NeatMaps.{times_unless, over_unless, Neat, Keyed, neat_keyed, insert-neat}
use Rattle.polynomial_theory.proofs.NeatMaps.Unless.{gives, stopped}
use Rattle.polynomial_theory.proofs.NeatMaps.Neat.{empty}
use Rattle.terms.specs.Readers.{Reading}
use Rattle.std.specs.Prelude.{Err}
use Rattle.terms.specs.declared.term.NotRead.TheVariants.{NotNumber, OutOfRange}

-- ---- polynomials

-- with no coefficient 0
abbrev pub Full : Map Monomial → Type 0
Full = Neat (λ q. is_zero q ≡ false)

abbrev pub WalkFull : Walked Monomial → Type 0
WalkFull w = Full w.sum.entries

module _ (l : Limits) where
  insert-full : (m : Map Monomial) (k : Monomial) (v : Rational) → Proper k → Full m →
      Unless l Full (insert monomials l m k v)
  insert-full = insert-neat (λ q. is_zero q ≡ false) (λ q z. z) l

  -- ---- products

  mul_each-full : (x : Monomial) → Proper x → (c : Rational) (r m : Map Monomial) → Keyed r → Full m →
      Unless l Full (mul_each l x c r m)
  unfolding mul_each
  mul_each-full x p c [] m k h = gives h
  mul_each-full x p c (e ∷ r) m k h =
      tested _ _ (unbounded-within l (λ l. l.atoms) (length x + length e.0) refl) λ u.
      and_then (times_unless l c e.1) λ q t.
      and_then (insert-full m (joined x e.0) q (joined-proper x e.0 p k.0.atoms) h) λ s w.
      mul_each-full x p c r s k.1 w

  mul_left-full : (r : Map Monomial) → Keyed r → (q : Polynomial) → Keyed q.entries → (m : Map Monomial) → Full m →
      Unless l Full (mul_left l r q m)
  unfolding mul_left
  mul_left-full [] k q j m h = gives h
  mul_left-full (e ∷ r) k q j m h =
      and_then (mul_each-full e.0 k.0 e.1 q.entries m j h) λ s w.
      and_then (times_unless l e.1 q.constant) λ c t.
      and_then (insert-full s e.0 c k.0 w) λ z v. mul_left-full r k.1 q j z v

  insert_scaled-full : (r : Map Monomial) → Keyed r → (k : Rational) (m : Map Monomial) → Full m →
      Unless l Full (insert_scaled l r k m)
  unfolding insert_scaled
  insert_scaled-full [] p k m h = gives h
  insert_scaled-full (e ∷ r) p k m h =
      and_then (times_unless l e.1 k) λ c t.
      and_then (insert-full m e.0 c p.0 h) λ s w. insert_scaled-full r p.1 k s w

  mul-full : (p q : Polynomial) → Full p.entries → Full q.entries →
      Unless l (λ r. Full r.entries) (mul l p q)
  unfolding mul
  mul-full p q h k =
      and_then (mul_left-full p.entries (neat_keyed h) q (neat_keyed k) [] empty) λ s w.
      and_then (insert_scaled-full q.entries (neat_keyed k) p.constant s w) λ z v.
      and_then (times_unless l p.constant q.constant) λ c t. gives v

  -- ---- leaves

  visit-full : (w : Walked Monomial) → WalkFull w → Unless l WalkFull (visit l w)
  unfolding visit
  visit-full w h = tested _ _ (unbounded-within l (λ l. l.visits) (suc w.visits) refl) λ u. gives h

  add_constant-full : (q : Rational) (w : Walked Monomial) → WalkFull w → Unless l WalkFull (add_constant l q w)
  unfolding add_constant
  add_constant-full q w h = and_then (plus_unless l w.sum.constant q) λ c u. gives h

  add_entry-full : (t : Term) → Leaf t → (c : Rational) (w : Walked Monomial) → WalkFull w →
      Unless l WalkFull (add_entry monomials l (t ∷ []) c w)
  unfolding add_entry
  add_entry-full t e c w h = and_then (insert-full w.sum.entries (t ∷ []) c (atom-proper t e) h) λ m k. gives k

  -- what is not read under limits is not read without them
  unread : (t : Term) → fraction_of l t ≡ Ok None → as_fraction unbounded t ≡ Err NotNumber
  unfolding fraction_of
  unread t e = go (as_fraction unbounded t) (at_none (fraction_of-limited l t) e)
    where
      at_none : {x y : Result (Option Rational)} → x ≼ y → x ≡ Ok None → y ≡ Ok None
      at_none (◌≼◌.equal r) e = e
      at_none (◌≼◌.stopped p) e = let z : ◌≡◌ {A = ℕ} 0 1 = cc in absurd (omega arith)

      go : (r : Reading) → number_or r ≡ Ok None → r ≡ Err NotNumber
      go (Ok q) e = let z : ◌≡◌ {A = ℕ} 0 1 = cc in absurd (omega arith)
      go (Err NotNumber) e = refl
      go (Err OutOfRange) e = let z : ◌≡◌ {A = ℕ} 0 1 = cc in absurd (omega arith)

  -- a number that is read, or none is
  abbrev Reads : Term → Option Rational → Type 0
  Reads t (Some q) = as_fraction unbounded t ≡ Ok q
  Reads t None = as_fraction unbounded t ≡ Err NotNumber

  fraction_unless : (t : Term) → Unless l (Reads t) (fraction_of l t)
  unfolding fraction_of
  fraction_unless t =
      go (as_fraction l.numbers t) refl
      (λ e. subst (λ (l : Limits). InRange (as_fraction l.numbers t)) (sym e) (fraction-read t))
    where
      go : (r : Reading) → as_fraction l.numbers t ≡ r → (l ≡ the_rust → InRange r) → Unless l (Reads t) (number_or r)
      go (Ok q) e h = gives (fraction-unbounded l.numbers t q e)
      go (Err NotNumber) e h = gives (unread t (ap number_or e))
      go (Err OutOfRange) e h = stopped (λ e. not-outside (h e) refl)

  add_leaf-full : (t : Term) → (as_fraction unbounded t ≡ Err NotNumber → as_bitvector t ≡ None → Leaf t) →
      (c : Rational) (w : Walked Monomial) → WalkFull w → Unless l WalkFull (add_leaf l t c w)
  unfolding add_leaf
  add_leaf-full t leaf c w h =
      and_then (fraction_unless t)
      (by_read (λ q. and_then (times_unless l q c) λ r v. add_constant-full r w h) (λ e. go (as_bitvector t) (leaf e)))
    where
      go : (b : Option (ℕ × ℕ)) → (b ≡ None → Leaf t) →
          Unless {A = Walked Monomial} l WalkFull
          (elim b [
            | Some (v, n) ↦ (times l (whole (pos v)) c >>= λ r. add_constant l r w)
            | None ↦ add_entry monomials l (t ∷ []) c w
          ])
      go (Some (v, n)) k = and_then (times_unless l (whole (pos v)) c) λ r u. add_constant-full r w h
      go None k = add_entry-full t (k refl) c w h

      by_read : {f : Rational → Result (Walked Monomial)} {y : Result (Walked Monomial)} →
          ((q : Rational) → Unless l WalkFull (f q)) →
          (as_fraction unbounded t ≡ Err NotNumber → Unless l WalkFull y) → (o : Option Rational) → Reads t o →
          Unless l WalkFull (elim o as (λ z. Result (Walked Monomial)) [ Some q ↦ f q | None ↦ y ])
      by_read f g (Some q) e = f q
      by_read f g None e = g e

  divisor_of_unless : (ts : Terms) → Unless l (λ q. q ≡ None → second_divisor ts ≡ None) (divisor_of l ts)
  unfolding divisor_of second_divisor first_divisor
  divisor_of_unless nil = gives (λ e. refl)
  divisor_of_unless (a ▹ nil) = gives (λ e. refl)
  divisor_of_unless (a ▹ b ▹ ts) = and_then (fraction_unless b) λ q u. gives (at q u)
    where
      test : (p : Rational) (z : Bool) → is_zero p ≡ z →
          ◌≡◌ {A = Option Rational} (elim z [ true ↦ None | false ↦ Some p ]) None → is_zero p ≡ true
      test p true z e = z
      test p false z e = let y : ◌≡◌ {A = ℕ} 0 1 = cc in absurd (omega arith)

      at : (q : Option Rational) → Reads b q → nonzero q ≡ None → first_divisor (b ▹ ts) ≡ None
      at (Some p) u e =
          no_divisor b ts λ r h.
          let k : p ≡ r = cc in subst (λ (x : Rational). is_zero x ≡ true) k (test p (is_zero p) refl e)
      at None u e = no_divisor b ts λ r h. let y : ◌≡◌ {A = ℕ} 0 1 = cc in absurd (omega arith)

  -- ---- the walk

  plain-read : {r : Reading} {q : Rational} → Ok q ≡ r → r ≡ Err NotNumber → ⊥
  plain-read e h = let z : ◌≡◌ {A = ℕ} 0 1 = cc in omega arith

  mutual
    unfolding add_term as_fraction as_unsigned_fraction quotient_of unary binary as_number as_bitvector

    add_term-full : (t : Term) (d : ℕ) (c : Rational) (w : Walked Monomial) → WalkFull w →
        Unless l WalkFull (add_term t l d c w)
    add_term-full (integer i v) d c w h =
        and_then (visit-full w h) λ w h. add_leaf-full (integer i v) (λ e b. absurd (plain-read refl e)) c w h
    add_term-full (rational i q) d c w h =
        and_then (visit-full w h) λ w h. add_leaf-full (rational i q) (λ e b. absurd (plain-read refl e)) c w h
    add_term-full (bitvector i v n) d c w h =
        and_then (visit-full w h) λ w h.
        add_leaf-full (bitvector i v n) (λ e b. let z : ◌≡◌ {A = ℕ} 0 1 = cc in absurd (omega arith)) c w h
    add_term-full (atom i s n) d c w h =
        and_then (visit-full w h) λ w h. add_leaf-full (atom i s n) (λ e b. Leaf.atom i s n) c w h
    add_term-full (op i o ts) d c w h =
        and_then (visit-full w h) λ w h.
        by_arm (Unless l WalkFull) (λ a. arm_of o ts ≡ a) (arm_of o ts) refl
        (λ a. add_args-full ts d c w h)
        (λ a. add_args-full ts d (neg_q c) w h)
        (λ a. add_difference-full ts d c w h)
        (λ a.
        tested _ _ (unbounded-within l (λ l. l.depth) (suc d) refl) λ u.
        and_then (first_factor-full ts (suc d) w.visits) λ r k.
        and_then (insert_scaled-full r.sum.entries (neat_keyed k) c w.sum.entries h) λ m j.
        and_then (times_unless l c r.sum.constant) λ q v.
        add_constant-full q (walked (combination m w.sum.constant) r.visits) j)
        (λ a.
        and_then (divisor_of_unless ts) λ q u.
        by_option q (λ q. and_then (over_unless l c q) λ k v. add_first-full ts d k w h)
        (λ e. add_leaf-full (op i o ts) (λ r b. Leaf.quotient i o ts a (u e) r) c w h))
        (λ a. add_leaf-full (op i o ts) (λ r b. Leaf.leaf i o ts a r) c w h)

    add_args-full : (ts : Terms) (d : ℕ) (c : Rational) (w : Walked Monomial) → WalkFull w →
        Unless l WalkFull (add_args ts l d c w)
    add_args-full nil d c w h = gives h
    add_args-full (t ▹ ts) d c w h = and_then (add_term-full t d c w h) λ w h. add_args-full ts d c w h

    add_difference-full : (ts : Terms) (d : ℕ) (c : Rational) (w : Walked Monomial) → WalkFull w →
        Unless l WalkFull (add_difference ts l d c w)
    add_difference-full nil d c w h = gives h
    add_difference-full (t ▹ ts) d c w h = and_then (add_term-full t d c w h) λ w h. add_args-full ts d (neg_q c) w h

    add_first-full : (ts : Terms) (d : ℕ) (c : Rational) (w : Walked Monomial) → WalkFull w →
        Unless l WalkFull (add_first ts l d c w)
    add_first-full nil d c w h = gives h
    add_first-full (t ▹ ts) d c w h = add_term-full t d c w h

    first_factor-full : (ts : Terms) (d n : ℕ) → Unless l WalkFull (first_factor ts l d n)
    first_factor-full nil d n = gives empty
    first_factor-full (t ▹ ts) d n =
        and_then (add_term-full t d (whole (pos 1)) (walked new n) empty) λ p h. other_factors-full ts d p h

    other_factors-full : (ts : Terms) (d : ℕ) (p : Walked Monomial) → WalkFull p →
        Unless l WalkFull (other_factors ts l d p)
    other_factors-full nil d p h = gives h
    other_factors-full (t ▹ ts) d p h =
        and_then (add_term-full t d (whole (pos 1)) (walked new p.visits) empty) λ q k.
        and_then (mul-full p.sum q.sum h k) λ r j. other_factors-full ts d (walked r q.visits) j

  pub from_term-full : (t : Term) (n : ℕ) → Unless l WalkFull (from_term l t n)
  unfolding from_term
  from_term-full t n = add_term-full t 0 (whole (pos 1)) (walked new n) empty
