-- The walk of a record's arguments, one after the other. `Walking` is the invariant of its loop: what is left to walk
-- from argument k on, from the sum that the area's bytes hold now, is the whole walk; and all atoms in the area are
-- noted.
--     walking_none, walking_same, walking_more, walking_refused, walking_done       along the loop
--     argument-below, argument_pre       what the walk of argument k asks
use mathlib.Core.Path.{◌≡◌, refl, ◌∙◌}
use mathlib.Core.List.{List}
use Prim.Native.Nat.{ℕ, ◌+◌, ◌/◌, ◌≤◌, ◌<◌}
use native.Mathlib.Omega.{arith}
use lib.ListN.{length, drop}
use Rattle.numbers.specs.Rational.{Rational, Proper}
use Rattle.numbers.specs.Bytes.{Bytes}
use Rattle.terms.specs.Term.{Term, Terms}
use Rattle.terms.specs.Term.Terms.{◌▹◌}
use Rattle.terms.specs.Book.{tree, forest, numbers, arguments, argument_at}
use Rattle.rules.specs.Refusal.{Result, ◌>>=◌}
use Rattle.rules.specs.declared.refusal.Refusal.{Refusal}
use Rattle.std.specs.Prelude.{Ok, Err}
use Rattle.rules.specs.Limits.{Limits, limited}
use Rattle.index_map.specs.IndexMap.{Walked}
use Rattle.linear_walk.specs.LinearTerms.{add_term}
use Rattle.linear_comb.specs.Memory.WorkArea.{KeptSum}
use Rattle.linear_walk.specs.Memory.Walks.{walk_of}
use Rattle.index_map.specs.declared.combination.Walked as by_value
use Rattle.index_map.specs.Memory.Entries.{entries_of}
use Rattle.linear_comb.specs.Memory.Notes.{Noted}
use Rattle.linear_walk.specs.Memory.LinearNodes.{WalkPre, ArgsPre, Fills, add_each}
use Rattle.rules.proofs.ArgumentsLeft.{left_none, left-next, next-below}
use Rattle.linear_walk.proofs.NodeWalks.{args-each}
use Rattle.linear_walk.proofs.WalkSteps.{done, done-kept, done_is, filled_at, filled_walks, filled_noted}

-- ---- one argument and the others

module _ (t : Term) (ts : Terms) (l : Limits) (p q : Rational) (w : Walked Term) where
  each_after : {w' : Walked Term} → add_term t l p w ≡ Ok w' → add_each (t ▹ ts) l p q w ≡ add_each ts l q q w'
  unfolding add_each ◌>>=◌
  each_after e = rw e (args-each ts l q _)

  each-refused : {r : Refusal} → add_term t l p w ≡ Err r → add_each (t ▹ ts) l p q w ≡ Err r
  unfolding add_each ◌>>=◌
  each-refused e = rw e

-- ---- the loop

-- the walk of the arguments l of record id, from the sum in the bytes w
abbrev pub each_from :
    Bytes → ℕ → List ℕ → ℕ → Rational → Rational → Bytes → by_value.Walked → Result (Walked Term)
each_from b id l limit p q w u =
    add_each (forest (tree b) (arguments id l)) (limited limit) p q (walk_of b w u)

-- k arguments have been walked, from the sum u₀ in the bytes w₀ to the sum u in w
pub record Walking
    (b w₀ args : Bytes) (id limit : ℕ) (first others : Rational) (u₀ : by_value.Walked)
    (w : Bytes) (u : by_value.Walked) (coeff : Rational) (ns : List ℕ) (k : ℕ) : Type 0 where
  pub inside : k ≤ length args / 2
  pub long : length w ≡ length w₀
  pub kept : KeptSum b w u.sum
  pub atoms : Noted ns (entries_of b w u.sum.len)
  pub proper : Proper coeff
  pub left :
      each_from b id (numbers args) limit first others w₀ u₀
      ≡ each_from b id (drop k (numbers args)) limit coeff others w u

pub walking_none :
    {b w₀ args : Bytes} {id limit : ℕ} {first others : Rational} {u₀ : by_value.Walked} {ns₀ : List ℕ} →
    ArgsPre b w₀ args id first others u₀.sum ns₀ → Walking b w₀ args id limit first others u₀ w₀ u₀ first ns₀ 0
walking_none pre =
    record {
      inside = omega arith;
      long = refl;
      kept = pre.sum;
      atoms = pre.atoms;
      proper = pre.proper.0;
      left = refl;
    }

module _
    {b w₀ args : Bytes} {id limit : ℕ} {first others : Rational} {u₀ : by_value.Walked} {ns₀ : List ℕ}
    (pre : ArgsPre b w₀ args id first others u₀.sum ns₀)
    {w : Bytes} {u : by_value.Walked} {coeff : Rational} {ns : List ℕ} {k : ℕ}
    (walking : Walking b w₀ args id limit first others u₀ w u coeff ns k) where
  pub walking_done :
      length args / 2 ≤ k → Fills b w ns (Ok u) (each_from b id (numbers args) limit first others w₀ u₀)
  unfolding add_each
  walking_done h = filled_at (done walking.kept _ (walking.left ∙ rw (left_none b id args k h))) walking.atoms

  -- a call has left the bytes and the notes as they were
  pub walking_same :
      {w' : Bytes} {ns' : List ℕ} → (w' ≡ w) × (ns' ≡ ns) →
      Walking b w₀ args id limit first others u₀ w' u coeff ns' k
  walking_same e = rw (e.0, e.1) walking

  -- x is argument k
  module _ (h : k < length args / 2) {x : ℕ} (is : x ≡ argument_at args k id) where
    pub argument-below : x < id
    argument-below = next-below args id h is pre.below

    pub argument_pre : WalkPre b w x coeff u.sum ns
    argument_pre =
        record {
          laid = pre.laid;
          inside = omega (arith, argument-below, pre.inside);
          proper = walking.proper;
          sum = walking.kept;
          atoms = walking.atoms;
        }

    module _ {w' : Bytes} {ns' : List ℕ} where
      pub walking_refused :
          {r : Refusal} → Fills b w' ns' (Err r) (add_term (tree b x) (limited limit) coeff (walk_of b w u)) →
          Fills b w' ns' (Err r) (each_from b id (numbers args) limit first others w₀ u₀)
      walking_refused fills =
          record {
            map = fills.map;
            held = fills.held;
            is = (
              walking.left ∙ rw (left-next args id h is b) (each-refused _ _ _ _ _ _ fills.is.0),
              fills.is.1,
            );
            atoms = fills.atoms;
          }

      pub walking_more :
          {u' : by_value.Walked} →
          Fills b w' ns' (Ok u') (add_term (tree b x) (limited limit) coeff (walk_of b w u)) →
          length w' ≡ length w → Walking b w₀ args id limit first others u₀ w' u' others ns' (k + 1)
      walking_more fills long =
          let walks = filled_walks fills in
          record {
            inside = omega arith;
            long = long ∙ walking.long;
            kept = done-kept walks;
            atoms = filled_noted fills;
            proper = pre.proper.1;
            left = walking.left ∙ rw (left-next args id h is b) (each_after _ _ _ _ _ _ (done_is walks));
          }
