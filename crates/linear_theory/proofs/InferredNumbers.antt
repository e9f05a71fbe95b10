-- The numbers that a step infers under document 01's limits are in its range (`partial_in_range`), since each is a quotient that was tested.
use mathlib.Core.Path.{◌≡◌, refl}
use mathlib.Core.Bool.{Bool, true, false, ◌&&◌, cond}
use mathlib.Core.List.{List, [], ◌∷◌, ◌++◌}
use Rattle.std.specs.Prelude.{Option, Some, None}
use Prim.Native.Nat.{ℕ, ◌≤◌}
use borrow.Author.Tests.{leb-true}
use lib.Dec.{leb}
use lib.IntN.{nat_abs}
use Rattle.numbers.specs.Rational.{Rational, limit}
use Rattle.terms.specs.Term.{Term}
use Rattle.terms.specs.Readers.{bounded}
use Rattle.numbers.proofs.Truths.{both}
use Rattle.rules.specs.Refusal.{or_else}
use Rattle.rules.specs.Limits.{limited, in_limit, ranged, over}
use Rattle.index_map.specs.IndexMap.{Map, get}
use Rattle.linear_comb.specs.LinearComb.{LinearComb}
use Rattle.index_map.specs.Memory.Entries.{terms}
use Rattle.process_disequality.specs.ProcessDisequality.{Progress, inferred, argument_of, process_disequality}
use Rattle.linear_arithmetic.specs.LinearArithmetic.{fold_literals, la_generic_partial, read_args}
use Rattle.rules.specs.Shapes.{Clause}
use Rattle.disequality.specs.Disequality.{disequality_of}
use Rattle.rules.proofs.Yields.{Yields, gives, refuses, and_then, past, weaker, guarded}
use Rattle.std.specs.Prelude.{Ok, Err}
use Rattle.terms.specs.declared.term.NotRead.TheVariants.{OutOfRange}

pub record InRange (q : Rational) : Type 0 where
  pub numerator : nat_abs q.num ≤ limit
  pub denominator : nat_abs q.den ≤ limit

abbrev pub AllInRange : List Rational → Type 0
AllInRange [] = Unit {0}
AllInRange (q ∷ qs) = InRange q × AllInRange qs

one_more : (qs : List Rational) (q : Rational) → AllInRange qs → InRange q → AllInRange (qs ++ q ∷ [])
one_more [] q h g = (g, tt)
one_more (r ∷ qs) q (h, hs) g = (h, one_more qs q hs g)

module _ (n : ℕ) where
  ranged_in : (q : Rational) → Yields InRange (ranged (limited n) q)
  unfolding ranged bounded
  ranged_in q = go (leb (nat_abs q.num) limit && leb (nat_abs q.den) limit) refl
    where
      go :
          (t : Bool) → (leb (nat_abs q.num) limit && leb (nat_abs q.den) limit) ≡ t →
          Yields InRange (in_limit (cond t (Ok q) (Err OutOfRange)))
      go true e =
          let h = both (leb (nat_abs q.num) limit) (leb (nat_abs q.den) limit) e in
          gives (record { numerator = leb-true _ _ h.0; denominator = leb-true _ _ h.1 })
      go false e = refuses

  inferred_in : (acc m : Map Term) → Yields InRange (inferred (limited n) acc m)
  unfolding inferred over
  inferred_in acc [] = refuses
  inferred_in acc ((var, c) ∷ []) = guarded _ _ λ e u. past (or_else (get terms acc var) _) λ d. ranged_in _
  inferred_in acc (e ∷ f ∷ m) = refuses

  -- what is in range stays so
  abbrev Keeps : Progress → Progress → Type 0
  Keeps p q = AllInRange p.trace → AllInRange q.trace

  argument_in :
      (p : Progress) (s : LinearComb) (arg : Option Rational) →
      Yields (λ x. AllInRange p.trace → AllInRange x.1) (argument_of (limited n) p s arg)
  unfolding argument_of
  argument_in p s (Some a) = gives λ h. h
  argument_in p s None = and_then (inferred_in p.acc.entries s.entries) λ a g. gives λ h. one_more p.trace a h g

  literal_in :
      (p : Progress) (phi : Term) (arg : Option Rational) →
      Yields (Keeps p) (process_disequality (limited n) p phi arg)
  unfolding process_disequality
  literal_in p phi arg =
      past (disequality_of (limited n) phi p.visits) λ d.
      and_then (argument_in p d.sum arg) λ (a, trace) h.
      past _ λ (o, s). past _ λ scaled. past _ λ acc. gives h

  fold_in :
      (c : Clause) (args : List Rational) (p : Progress) →
      Yields (Keeps p) (fold_literals (limited n) c args p)
  unfolding fold_literals
  fold_in [] args p = gives λ h. h
  fold_in (phi ∷ c) [] p =
      and_then (literal_in p phi None) λ q g. weaker (λ r k h. k (g h)) (fold_in c [] q)
  fold_in (phi ∷ c) (a ∷ args) p =
      and_then (literal_in p phi (Some a)) λ q g. weaker (λ r k h. k (g h)) (fold_in c args q)

  pub partial_in_range :
      (c : Clause) (args : List Term) (k : ℕ) →
      Yields (λ p. AllInRange p.trace) (la_generic_partial (limited n) c args k)
  unfolding la_generic_partial
  partial_in_range c args k =
      past (read_args (limited n) args) λ qs. and_then (fold_in c qs _) λ p g. guarded _ _ λ e u. gives (g tt)
