-- What a walk adds to the combination that it fills, in any ring and under any limits, wherever it is not
-- refused. Steps one after the other add the sum of what each adds (`in_turn`); a visit adds nothing
-- (`visited`).
use mathlib.Core.Path.{◌≡◌, ◌∙◌, ap}
use mathlib.Core.List.{[], ◌∷◌}
use lib.IntN.{pos}
use Rattle.numbers.specs.Rational.{Rational}
use Rattle.numbers.proofs.Ring.{Ring, ◌⊕◌, 𝟘, 𝟙, ◌≐◌, ◌·◌, ◌and◌, ◌from◌, solve, derive}
use Rattle.rules.specs.Refusal.{Result, ◌>>=◌}
use Rattle.rules.specs.Limits.{Limits}
use Rattle.index_map.specs.IndexMap.{Keys, Walked, visit, add_entry, add_constant}
use Rattle.rules.proofs.Yields.{Yields, gives, and_then, weaker, guarded}
use Rattle.rules.proofs.Valuations.{plus-stands}
use Rattle.rules_theory.proofs.IndexMaps.{Values, entry, total, worth, GoodEntry, GoodCombination, insert_totals}

module _ {K : Type 0} {keys : Keys K} (S : Values keys) where
  abbrev R : Ring
  R = S.ring

  open R use {carrier, add as ◌+◌, ι}

  infixl 6 ◌+◌
  abbrev number : Rational → carrier
  number = S.numbers.number

  abbrev pub Kept : Walked K → Type 0
  Kept w = GoodCombination S w.sum

  -- v is good, and worth x more than w
  pub record Adds (w : Walked K) (x : carrier) (v : Walked K) : Type 0 where
    pub good : Kept v
    pub is : worth S v.sum ≡ worth S w.sum + x

  pub adds_none : (w : Walked K) → Kept w → Adds w (ι (pos 0)) w
  adds_none w g = record { good = g; is = solve R (worth S w.sum ∷ []) (λ w. w ≐ w ⊕ 𝟘) tt }

  pub adds-as :
      {w : Walked K} {x y : carrier} {r : Result (Walked K)} → x ≡ y → Yields (Adds w x) r →
      Yields (Adds w y) r
  adds-as {w} e =
      weaker (λ v h. record { good = h.good; is = h.is ∙ ap (λ (z : carrier). worth S w.sum + z) e })

  pub in_turn :
      {w : Walked K} {x y : carrier} {r : Result (Walked K)} {f : Walked K → Result (Walked K)} →
      Yields (Adds w x) r → ((v : Walked K) → Kept v → Yields (Adds v y) (f v)) →
      Yields (Adds w (x + y)) (r >>= f)
  in_turn {w} {x} {y} h k =
      and_then h
      (λ v a.
      weaker
      (λ u b.
      record {
        good = b.good;
        is =
            derive R (worth S w.sum ∷ worth S v.sum ∷ worth S u.sum ∷ x ∷ y ∷ [])
            (λ w v u x y. u ≐ w ⊕ (x ⊕ y) from 𝟙 · u ≐ v ⊕ y and 𝟙 · v ≐ w ⊕ x) tt b.is a.is;
      })
      (k v a.good))

  module _ (l : Limits) where
    pub visit-adds : (w : Walked K) → Kept w → Yields (Adds w (ι (pos 0))) (visit l w)
    unfolding visit
    visit-adds w g =
        guarded _ _ λ t u. gives (record { good = g; is = solve R (worth S w.sum ∷ []) (λ w. w ≐ w ⊕ 𝟘) tt })

    pub visited :
        {x : carrier} {f : Walked K → Result (Walked K)} (w : Walked K) → Kept w →
        ((v : Walked K) → Kept v → Yields (Adds v x) (f v)) → Yields (Adds w x) (visit l w >>= f)
    visited {x} w g k = adds-as (solve R (x ∷ []) (λ x. 𝟘 ⊕ x ≐ x) tt) (in_turn (visit-adds w g) k)

    pub add_entry-adds :
        (k : K) (q : Rational) (w : Walked K) → GoodEntry S k q → Kept w →
        Yields (Adds w (entry S k q)) (add_entry keys l k q w)
    unfolding add_entry
    add_entry-adds k q w ge g =
        and_then (insert_totals S l w.sum.entries k q g.entries ge)
        (λ m t.
        gives
        (record {
          good = record { entries = t.good; constant = g.constant };
          is =
              derive R (total S m ∷ total S w.sum.entries ∷ number w.sum.constant ∷ entry S k q ∷ [])
              (λ m r c x. m ⊕ c ≐ r ⊕ c ⊕ x from 𝟙 · m ≐ r ⊕ x) tt t.is;
        }))

    pub add_constant-adds :
        (q : Rational) (w : Walked K) → S.numbers.Good q → Kept w →
        Yields (Adds w (number q)) (add_constant l q w)
    unfolding add_constant
    add_constant-adds q w gq g =
        and_then (plus-stands S.numbers l w.sum.constant q g.constant gq)
        (λ c h.
        gives
        (record {
          good = record { entries = g.entries; constant = h.good };
          is =
              derive R (total S w.sum.entries ∷ number w.sum.constant ∷ number q ∷ number c ∷ [])
              (λ m d q c. m ⊕ c ≐ m ⊕ d ⊕ q from 𝟙 · c ≐ d ⊕ q) tt h.is;
        }))
