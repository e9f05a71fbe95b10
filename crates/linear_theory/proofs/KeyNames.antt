-- Keys that are the same have one name, and only those (`Named`): a term's name is its record number. So it is all one
-- which of two keys is compared with the other (`same-turned`). And a map that lacks a key goes on lacking it: no
-- function of specs/IndexMap brings a key but the one that it enters (`FUNCTION-lacks`).
use mathlib.Core.Path.{◌≡◌, sym}
use mathlib.Core.Bool.{Bool, true, false}
use mathlib.Core.List.{[], ◌∷◌}
use Prim.Native.Nat.{ℕ, suc}
use borrow.Author.Tests.{eqb-true, eq-eqb}
use Rattle.numbers.specs.Rational.{Rational, is_zero}
use Rattle.terms.specs.Term.{record_number}
use Rattle.terms.specs.Readers.{within}
use Rattle.numbers.proofs.Truths.{same_test, if_either}
use Rattle.rules.specs.Refusal.{assert}
use Rattle.rules.specs.declared.refusal.Refusal.TheVariants.{PolynomialSize}
use Rattle.rules.specs.Limits.{Limits, times, plus}
use Rattle.index_map.specs.IndexMap.{Map, Keys, last_first, swap_remove, neg_all, scale_all, enter}
use Rattle.index_map.specs.Memory.Entries.{terms}
use Rattle.index_map.proofs.KeyedMaps.{Lacks, nothing, another}
use Rattle.rules.proofs.Yields.{Yields, gives, and_then, past, by_test}

pub record Named {K : Type 0} (keys : Keys K) : Type 1 where
  pub Name : Type 0
  pub name : K → Name
  pub told : (a b : K) → keys.same a b ≡ true → name a ≡ name b
  pub tells : (a b : K) → name a ≡ name b → keys.same a b ≡ true

module _ {K : Type 0} {keys : Keys K} (names : Named keys) where
  pub same-turned : (a b : K) → keys.same a b ≡ keys.same b a
  same-turned a b =
      same_test (keys.same a b) (keys.same b a)
      (λ e. names.tells b a (sym (names.told a b e)))
      (λ e. names.tells a b (sym (names.told b a e)))

-- ---- terms

pub term_names : Named terms
term_names =
    record {
      Name = ℕ;
      name = record_number;
      told = λ a b. eqb-true (record_number a) (record_number b);
      tells = λ a b. eq-eqb (record_number a) (record_number b);
    }

-- ---- what is lacked

module _ {K : Type 0} (is : K → Bool) where
  last_first-lacks : (e : K × Rational) (m : Map K) → Lacks is (e ∷ m) → Lacks is (last_first e m)
  unfolding last_first
  last_first-lacks e [] h = h
  last_first-lacks e (f ∷ m) (another other h) = at (last_first f m) (last_first-lacks f m h)
    where
      at : (r : Map K) → Lacks is r → Lacks is (elim r [ [] ↦ e ∷ [] | g ∷ r ↦ g ∷ e ∷ r ])
      at [] h = another other nothing
      at (g ∷ r) (another here h) = another here (another other h)

  pub swap_remove-lacks : (m : Map K) → Lacks is m → Lacks is (swap_remove m)
  unfolding swap_remove
  swap_remove-lacks [] h = h
  swap_remove-lacks (e ∷ m) h = last_first-lacks e m h

  pub neg_all-lacks : (m : Map K) → Lacks is m → Lacks is (neg_all m)
  unfolding neg_all
  neg_all-lacks [] h = nothing
  neg_all-lacks (e ∷ m) (another other h) = another other (neg_all-lacks m h)

  module _ (l : Limits) where
    pub scale_all-lacks : (q : Rational) (m : Map K) → Lacks is m → Yields (Lacks is) (scale_all l q m)
    unfolding scale_all
    scale_all-lacks q [] h = gives nothing
    scale_all-lacks q (e ∷ m) (another other h) =
        past (times l e.1 q) λ v. and_then (scale_all-lacks q m h) λ r g. gives (another other g)

    pub enter-lacks :
        (keys : Keys K) (n : ℕ) (m : Map K) (key : K) (v : Rational) → is key ≡ false → Lacks is m →
        Yields (Lacks is) (enter keys l n m key v)
    unfolding enter
    enter-lacks keys n [] key v k h =
        past (assert (within (keys.most l) (suc n)) PolynomialSize) λ u. gives (another k nothing)
    enter-lacks keys n (e ∷ m) key v k (another other h) =
        by_test (keys.same e.0 key) _ _
        (λ s. past (plus l e.1 v) λ q.
        gives (if_either (Lacks is) (is_zero q) (λ t. swap_remove-lacks m h) (λ t. another other h)))
        (λ s. and_then (enter-lacks keys (suc n) m key v k h) λ r g. gives (another other g))
