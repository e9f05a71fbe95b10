-- What the functions of specs/IndexMap do to the value of a map or a combination, in any ring and under any
-- limits, wherever they are not refused. A map stands for the sum of each coefficient times what its key
-- stands for. Beside the value goes the invariant that every coefficient is good and every key known.
--     Values       a ring, what numbers and keys stand for in it, and which keys are known
--     entry, total, worth       the values of an entry, a map, a combination
--     EntryOf, EntriesOf, CombinationOf       the invariant, and with `Values` GoodEntry, AllGood, GoodCombination
--     Totals, Amounts       the invariant and the value, of a map and of a combination
--     FUNCTION-totals, FUNCTION-amounts       what each function does to them
use mathlib.Core.Path.{◌≡◌, refl, sym, ◌∙◌, ap}
use mathlib.Core.Bool.{true}
use mathlib.Core.List.{[], ◌∷◌}
use Prim.Native.Nat.{ℕ, suc}
use lib.IntN.{pos}
use Rattle.numbers.specs.Rational.{Rational, whole, neg_q, is_zero}
use Rattle.numbers.specs.Choice.{when◌then◌else◌}
use Rattle.numbers.proofs.Ring.{Ring, ◌⊕◌, ◌⊗◌, neg, 𝟘, 𝟙, ◌≐◌, ◌·◌, ◌and◌, ◌from◌, solve, derive}
use Rattle.rules.specs.Limits.{Limits}
use Rattle.index_map.specs.IndexMap as IndexMap
use Rattle.index_map.specs.IndexMap.{Map, Combination, Keys, last_first, swap_remove, neg_all, scale_all, enter, insert}
use Rattle.index_map.specs.IndexMap.{insert_all, new}
use Rattle.numbers.proofs.Truths.{if_either}
use Rattle.rules.proofs.Yields.{Yields, gives, and_then, weaker, guarded, by_test}
use Rattle.rules.proofs.Valuations.{Valuation, Stands, plus-stands, times-stands}

-- ---- combinations whose keys are P and whose numbers are Q

pub record EntryOf {K : Type 0} (P : K → Type 0) (Q : Rational → Type 0) (k : K) (q : Rational) : Type 0 where
  pub known : P k
  pub good : Q q

abbrev pub EntriesOf : {K : Type 0} → (K → Type 0) → (Rational → Type 0) → Map K → Type 0
EntriesOf P Q [] = Unit {0}
EntriesOf P Q (e ∷ m) = EntryOf P Q e.0 e.1 × EntriesOf P Q m

pub record CombinationOf {K : Type 0} (P : K → Type 0) (Q : Rational → Type 0) (c : Combination K) : Type 0 where
  pub entries : EntriesOf P Q c.entries
  pub constant : Q c.constant

-- ---- what numbers and keys stand for

pub record Values {K : Type 0} (keys : Keys K) : Type 1 where
  pub ring : Ring
  pub numbers : Valuation ring
  pub Known : K → Type 0
  pub at : K → ring.carrier
  pub respects : (a b : K) → Known a → Known b → keys.same a b ≡ true → at a ≡ at b

module _ {K : Type 0} {keys : Keys K} (S : Values keys) where
  abbrev R : Ring
  R = S.ring

  open R use {carrier, add as ◌+◌, mul as ◌*◌, neg as -◌, ι}
  open S.numbers use {number, Good, good-neg, good-whole, number-neg, number-whole, number-zero}

  infixl 6 ◌+◌
  infixl 7 ◌*◌
  infix 8 -◌
  -- ---- values and the invariant

  abbrev pub entry : K → Rational → carrier
  entry k q = number q * S.at k

  unfoldable pub total : Map K → carrier
  total [] = ι (pos 0)
  total (e ∷ m) = entry e.0 e.1 + total m

  abbrev pub worth : Combination K → carrier
  worth c = total c.entries + number c.constant

  abbrev pub GoodEntry : K → Rational → Type 0
  GoodEntry = EntryOf S.Known Good

  abbrev pub AllGood : Map K → Type 0
  AllGood = EntriesOf S.Known Good

  abbrev pub GoodCombination : Combination K → Type 0
  GoodCombination = CombinationOf S.Known Good

  -- m is good, and its value is x
  pub record Totals (m : Map K) (x : carrier) : Type 0 where
    pub good : AllGood m
    pub is : total m ≡ x

  -- c is good, and its value is x
  pub record Amounts (c : Combination K) (x : carrier) : Type 0 where
    pub good : GoodCombination c
    pub is : worth c ≡ x

  -- ---- removal

  last_first_totals : (e : K × Rational) (m : Map K) → AllGood (e ∷ m) → Totals (last_first e m) (total (e ∷ m))
  unfolding last_first total
  last_first_totals e [] g = record { good = g; is = refl }
  last_first_totals e (f ∷ m) (ge, g) = go (last_first f m) (last_first_totals f m g)
    where
      go :
          (r : Map K) → Totals r (total (f ∷ m)) →
          Totals (elim r [ [] ↦ e ∷ [] | h ∷ s ↦ h ∷ e ∷ s ]) (total (e ∷ f ∷ m))
      go [] t = record { good = (ge, tt); is = ap (λ (x : carrier). entry e.0 e.1 + x) t.is }
      go (h ∷ s) t =
          record {
            good = (t.good.0, (ge, t.good.1));
            is =
                derive R (entry h.0 h.1 ∷ entry e.0 e.1 ∷ total s ∷ total (f ∷ m) ∷ [])
                (λ h e s x. h ⊕ (e ⊕ s) ≐ e ⊕ x from 𝟙 · h ⊕ s ≐ x) tt t.is;
          }

  pub swap_remove_totals : (m : Map K) → AllGood m → Totals (swap_remove m) (total m)
  unfolding swap_remove total
  swap_remove_totals [] g = record { good = tt; is = refl }
  swap_remove_totals (e ∷ m) g = last_first_totals e m g

  -- ---- the map

  module _ (l : Limits) where
    -- k and q enter an entry of a key that is the same: the sum stands there, or the entry goes
    enter-same :
        (a : K) (p : Rational) (m : Map K) (k : K) (q c : Rational) → AllGood ((a, p) ∷ m) →
        S.at a ≡ S.at k → Stands S.numbers c (number p + number q) →
        Totals (when is_zero c then swap_remove m else (a, c) ∷ m) (total ((a, p) ∷ m) + entry k q)
    unfolding total
    enter-same a p m k q c (g, gs) e h =
        if_either (λ r. Totals r (entry a p + total m + entry k q)) (is_zero c)
        (λ z.
        let t = swap_remove_totals m gs in
        record {
          good = t.good;
          is =
              t.is
              ∙ derive R (number p ∷ number q ∷ S.at a ∷ S.at k ∷ total m ∷ [])
              (λ p q a k m. m ≐ p ⊗ a ⊕ m ⊕ q ⊗ k from neg a · p ⊕ q ≐ 𝟘 and q · a ≐ k) tt
              (sym h.is ∙ number-zero c h.good z) e;
        })
        (λ z.
        record {
          good = (record { known = g.known; good = h.good }, gs);
          is =
              derive R (number p ∷ number q ∷ number c ∷ S.at a ∷ S.at k ∷ total m ∷ [])
              (λ p q c a k m. c ⊗ a ⊕ m ≐ p ⊗ a ⊕ m ⊕ q ⊗ k from a · c ≐ p ⊕ q and q · a ≐ k) tt h.is e;
        })

    pub enter_totals :
        (n : ℕ) (m : Map K) (k : K) (q : Rational) → AllGood m → GoodEntry k q →
        Yields (λ r. Totals r (total m + entry k q)) (enter keys l n m k q)
    unfolding enter total
    enter_totals n [] k q gs g =
        guarded _ _ λ t u.
        gives (record { good = (g, tt); is = solve R (entry k q ∷ []) (λ x. x ⊕ 𝟘 ≐ 𝟘 ⊕ x) tt })
    enter_totals n (e ∷ m) k q (ge, gs) g =
        by_test (keys.same e.0 k) _ _
        (λ s.
        and_then (plus-stands S.numbers l e.1 q ge.good g.good)
        (λ c h.
        let same-value = S.respects e.0 k ge.known g.known s in
        gives (enter-same e.0 e.1 m k q c (ge, gs) same-value h)))
        (λ s.
        and_then (enter_totals (suc n) m k q gs g)
        (λ r h.
        gives
        (record {
          good = (ge, h.good);
          is =
              derive R (entry e.0 e.1 ∷ total m ∷ entry k q ∷ total r ∷ [])
              (λ e m x r. e ⊕ r ≐ e ⊕ m ⊕ x from 𝟙 · r ≐ m ⊕ x) tt h.is;
        })))

    pub insert_totals :
        (m : Map K) (k : K) (q : Rational) → AllGood m → GoodEntry k q →
        Yields (λ r. Totals r (total m + entry k q)) (insert keys l m k q)
    unfolding insert
    insert_totals m k q gs g =
        by_test (is_zero q) _ _
        (λ z.
        gives
        (record {
          good = gs;
          is =
              derive R (number q ∷ S.at k ∷ total m ∷ []) (λ q k m. m ≐ m ⊕ q ⊗ k from neg k · q ≐ 𝟘) tt
              (number-zero q g.good z);
        }))
        (λ z. enter_totals 0 m k q gs g)

    pub insert_all_totals :
        (m r : Map K) → AllGood m → AllGood r →
        Yields (λ s. Totals s (total m + total r)) (insert_all keys l m r)
    unfolding insert_all total
    insert_all_totals m [] g h = gives (record { good = g; is = solve R (total m ∷ []) (λ m. m ≐ m ⊕ 𝟘) tt })
    insert_all_totals m (e ∷ r) g (he, h) =
        and_then (insert_totals m e.0 e.1 g he)
        (λ s t.
        weaker
        (λ u v.
        record {
          good = v.good;
          is =
              derive R (total m ∷ entry e.0 e.1 ∷ total r ∷ total s ∷ total u ∷ [])
              (λ m e r s u. u ≐ m ⊕ (e ⊕ r) from 𝟙 · u ≐ s ⊕ r and 𝟙 · s ≐ m ⊕ e) tt v.is t.is;
        })
        (insert_all_totals s r t.good h))

    pub scale_all_totals :
        (q : Rational) → Good q → (m : Map K) → AllGood m →
        Yields (λ r. Totals r (total m * number q)) (scale_all l q m)
    unfolding scale_all total
    scale_all_totals q gq [] g = gives (record { good = tt; is = solve R (number q ∷ []) (λ q. 𝟘 ≐ 𝟘 ⊗ q) tt })
    scale_all_totals q gq (e ∷ m) (ge, g) =
        and_then (times-stands S.numbers l e.1 q ge.good gq)
        (λ p h.
        and_then (scale_all_totals q gq m g)
        (λ r t.
        gives
        (record {
          good = (record { known = ge.known; good = h.good }, t.good);
          is =
              derive R (number q ∷ number e.1 ∷ S.at e.0 ∷ number p ∷ total m ∷ total r ∷ [])
              (λ q e k p m r. p ⊗ k ⊕ r ≐ (e ⊗ k ⊕ m) ⊗ q from k · p ≐ e ⊗ q and 𝟙 · r ≐ m ⊗ q) tt
              h.is t.is;
        })))

    -- ---- with the constant

    pub add-amounts :
        (a b : Combination K) → GoodCombination a → GoodCombination b →
        Yields (λ c. Amounts c (worth a + worth b)) (IndexMap.add keys l a b)
    unfolding IndexMap.add
    add-amounts a b ga gb =
        and_then (insert_all_totals a.entries b.entries ga.entries gb.entries)
        (λ m t.
        and_then (plus-stands S.numbers l a.constant b.constant ga.constant gb.constant)
        (λ q h.
        gives
        (record {
          good = record { entries = t.good; constant = h.good };
          is =
              derive R
              (total a.entries ∷ number a.constant ∷ total b.entries ∷ number b.constant
              ∷ total m ∷ number q ∷ [])
              (λ a c b d m q. m ⊕ q ≐ a ⊕ c ⊕ (b ⊕ d) from 𝟙 · m ≐ a ⊕ b and 𝟙 · q ≐ c ⊕ d) tt
              t.is h.is;
        })))

  pub neg_all_totals : (m : Map K) → AllGood m → Totals (neg_all m) (- total m)
  unfolding neg_all total
  neg_all_totals [] g = record { good = tt; is = solve R [] (𝟘 ≐ neg 𝟘) tt }
  neg_all_totals (e ∷ m) (ge, g) =
      let t = neg_all_totals m g in
      record {
        good = (record { known = ge.known; good = good-neg e.1 ge.good }, t.good);
        is =
            derive R (number (neg_q e.1) ∷ number e.1 ∷ S.at e.0 ∷ total (neg_all m) ∷ total m ∷ [])
            (λ p q k r m. p ⊗ k ⊕ r ≐ neg (q ⊗ k ⊕ m) from k · p ≐ neg q and 𝟙 · r ≐ neg m) tt
            (number-neg e.1 ge.good) t.is;
      }

  pub neg-amounts : (a : Combination K) → GoodCombination a → Amounts (IndexMap.neg a) (- worth a)
  unfolding IndexMap.neg
  neg-amounts a g =
      let t = neg_all_totals a.entries g.entries in
      record {
        good = record { entries = t.good; constant = good-neg a.constant g.constant };
        is =
            derive R
            (total (neg_all a.entries) ∷ total a.entries ∷ number (neg_q a.constant) ∷ number a.constant
            ∷ [])
            (λ r m p q. r ⊕ p ≐ neg (m ⊕ q) from 𝟙 · r ≐ neg m and 𝟙 · p ≐ neg q) tt t.is
            (number-neg a.constant g.constant);
      }

  pub new-amounts : Amounts new (ι (pos 0))
  unfolding total
  new-amounts =
      record {
        good = record { entries = tt; constant = good-whole (pos 0) };
        is = derive R (number (whole (pos 0)) ∷ []) (λ z. 𝟘 ⊕ z ≐ 𝟘 from 𝟙 · z ≐ 𝟘) tt (number-whole (pos 0));
      }

  module _ (l : Limits) where
    pub sub-amounts :
        (a b : Combination K) → GoodCombination a → GoodCombination b →
        Yields (λ c. Amounts c (worth a + - worth b)) (IndexMap.sub keys l a b)
    unfolding IndexMap.sub
    sub-amounts a b ga gb =
        let t = neg-amounts b gb in
        weaker (λ c h. record { good = h.good; is = h.is ∙ ap (λ (x : carrier). worth a + x) t.is })
        (add-amounts l a (IndexMap.neg b) ga t.good)
