-- The walk of a record's arguments into the polynomial in the lowest area of a stack, one after the other. `Walking` is
-- the invariant of its loop: whichever polynomial stood there before, what is left to walk from argument k on, from the
-- one that stands there at the turn, is the whole walk.
--     walking_none, walking_more, walking_refused, walking_done       along the loop
--     argument-below, argument_pre       what the walk of argument k asks
use Rattle.std.specs.Prelude.{Ok, Err}
use mathlib.Core.Path.{◌≡◌, refl, ◌∙◌}
use mathlib.Core.List.{[], ◌∷◌}
use Prim.Native.Nat.{ℕ, ◌+◌, ◌/◌, ◌≤◌, ◌<◌}
use native.Mathlib.Omega.{arith}
use lib.ListN.{length}
use Rattle.numbers.specs.Rational.{Rational, Proper}
use Rattle.numbers.specs.Bytes.{Bytes}
use Rattle.terms.specs.Term.{Term, Terms}
use Rattle.terms.specs.Term.Terms.{◌▹◌}
use Rattle.terms.specs.Book.{argument_at}
use Rattle.rules.specs.Refusal.{Result}
use Rattle.rules.specs.declared.refusal.Refusal.{Refusal}
use Rattle.rules.specs.Limits.{Limits, limited}
use Rattle.index_map.specs.declared.combination.Walked as by_value
use Rattle.index_map.specs.IndexMap.{Map, Walked}
use Rattle.index_map.specs.Memory.Answers.{Has, walked_with}
use Rattle.polynomial.specs.Polynomial.{Monomial}
use Rattle.polynomial_walk.specs.PolynomialTerms.{add_term}
use Rattle.polynomial.specs.Memory.PolynomialArea.{Stacked, Walks}
use Rattle.polynomial_walk.specs.Memory.PolynomialNodes.{TermPre, ArgsPre, TermWalks, add_each}
use Rattle.rules.proofs.ArgumentsLeft.{args_from, left_none, left-next, next-below}
use Rattle.rules.proofs.Results.{next, ends}
use Rattle.polynomial_walk.proofs.PolynomialSums.{refused}
use Rattle.polynomial_walk.proofs.PolynomialSteps.{args-each}

-- ---- one argument and the others

module _ (t : Term) (ts : Terms) (l : Limits) (d : ℕ) (p q : Rational) (w : Walked Monomial) where
  each_after :
      {w' : Walked Monomial} → add_term t l d p w ≡ Ok w' → add_each (t ▹ ts) l d p q w ≡ add_each ts l d q q w'
  unfolding add_each
  each_after e = next _ e ∙ args-each ts l d q _

  each-refused : {r : Refusal} → add_term t l d p w ≡ Err r → add_each (t ▹ ts) l d p q w ≡ Err r
  unfolding add_each
  each-refused e = ends _ e

-- ---- the loop

-- the walk of the arguments of record id from the k-th on, from the polynomial s with the entries m
abbrev pub each_from :
    Bytes → Bytes → ℕ → ℕ → ℕ → ℕ → Rational → Rational → by_value.Walked → Map Monomial → Result (Walked Monomial)
each_from b args id k limit d p q s m = add_each (args_from b id args k) (limited limit) d p q (walked_with s m)

-- the stack holds t, and what is left is the whole walk
pub record Present
    (b args : Bytes) (id limit d : ℕ) (others : Rational) (w : Bytes) (t : by_value.Walked) (coeff : Rational) (k : ℕ)
    (whole : Result (Walked Monomial)) : Type 0 where
  pub map : Map Monomial
  pub held : Stacked b w (map ∷ [])
  pub has : Has t.sum map
  pub left : whole ≡ each_from b args id k limit d coeff others t map

-- k arguments have been walked, from the polynomial s in the bytes w₀ to t in w
pub record Walking
    (b w₀ args : Bytes) (id limit d : ℕ) (first others : Rational) (s : by_value.Walked)
    (w : Bytes) (t : by_value.Walked) (coeff : Rational) (k : ℕ) : Type 0 where
  pub long : length w ≡ length w₀
  pub proper : Proper coeff
  pub present :
      (m : Map Monomial) → Stacked b w₀ (m ∷ []) → Has s.sum m →
      Present b args id limit d others w t coeff k (each_from b args id 0 limit d first others s m)

pub walking_none :
    {b w₀ args : Bytes} {id limit d : ℕ} {first others : Rational} {s : by_value.Walked} →
    ArgsPre b w₀ args id first others s.sum d → Walking b w₀ args id limit d first others s w₀ s first 0
walking_none pre =
    record {
      long = refl;
      proper = pre.proper.0;
      present = λ m t h. record { map = m; held = t; has = h; left = refl };
    }

module _
    {b w₀ args : Bytes} {id limit d : ℕ} {first others : Rational} {s : by_value.Walked}
    (pre : ArgsPre b w₀ args id first others s.sum d)
    {w : Bytes} {t : by_value.Walked} {coeff : Rational} {k : ℕ}
    (walking : Walking b w₀ args id limit d first others s w t coeff k) where
  pub walking_done :
      length args / 2 ≤ k → (m : Map Monomial) → Stacked b w₀ (m ∷ []) → Has s.sum m →
      Walks b w (Ok t) (each_from b args id 0 limit d first others s m)
  unfolding add_each
  walking_done h m held has =
      let now = walking.present m held has in
      record { map = now.map; held = now.held; is = (now.left ∙ rw (left_none b id args k h), now.has) }

  -- x is argument k
  module _ (h : k < length args / 2) {x : ℕ} (is : x ≡ argument_at args k id) where
    pub argument-below : x < id
    argument-below = next-below args id h is pre.below

    pub argument_pre : TermPre b w x coeff t.sum d
    argument_pre =
        let now = walking.present pre.filling.map pre.filling.held pre.filling.has in
        record {
          laid = pre.laid;
          inside = omega (arith, argument-below, pre.inside);
          proper = walking.proper;
          room = rw walking.long pre.room;
          filling = record { map = now.map; held = now.held; has = now.has };
        }

    pub walking_refused :
        {w' : Bytes} {r : Refusal} → TermWalks b w w' x coeff t limit d (Err r) →
        (m : Map Monomial) → Stacked b w₀ (m ∷ []) → Has s.sum m →
        Walks b w' (Err r) (each_from b args id 0 limit d first others s m)
    walking_refused fills m held has =
        let now = walking.present m held has in
        let after = fills now.map now.held now.has in
        let left = rw (left-next args id h is b) at now.left in
        refused (rw (← after.is.1) after.held) (left ∙ each-refused _ _ _ _ _ _ _ after.is.0)

    pub walking_more :
        {w' : Bytes} {t' : by_value.Walked} → TermWalks b w w' x coeff t limit d (Ok t') → length w' ≡ length w →
        Walking b w₀ args id limit d first others s w' t' others (k + 1)
    walking_more {w'} {t'} fills long =
        record { long = long ∙ walking.long; proper = pre.proper.1; present = present }
      where
        present :
            (m : Map Monomial) → Stacked b w₀ (m ∷ []) → Has s.sum m →
            Present b args id limit d others w' t' others (k + 1) (each_from b args id 0 limit d first others s m)
        present m held has =
            let now = walking.present m held has in
            let after = fills now.map now.held now.has in
            let left = rw (left-next args id h is b) at now.left in
            record {
              map = after.map;
              held = after.held;
              has = after.is.1;
              left = left ∙ each_after _ _ _ _ _ _ _ after.is.0;
            }
