-- Two linear sums, the atoms of both on the left and the constants on the right: step 3 of la_generic's terms and
-- bound, and the Rust's difference of two combinations.
--     apart-kept, apart_weighs, apart-bound       the terms and the bound
--     Apart, sub-apart, neg-apart       a combination that is what two sums are apart
--     apart-sums, apart-constant       it is the terms, gathered, and the bound
use mathlib.Core.Path.{◌≡◌, sym, ◌∙◌, ap}
use mathlib.Core.List.{[], ◌∷◌, ◌++◌}
use Prim.Native.Nat.{ℕ}
use lib.IntN.{pos, negsuc}
use Rattle.numbers.specs.Rational.{Rational, Lowest, add_q, neg_q}
use Rattle.terms.specs.Term.{Term}
use Rattle.numbers.proofs.Ring.{◌⊕◌, ◌⊗◌, neg, 𝟙, ◌≐◌, ◌·◌, ◌and◌, ◌from◌, lit, derive}
use Rattle.numbers.proofs.Quotient.{ℚ, ℚring}
use Rattle.std.specs.Prelude.{Ok}
use Rattle.rules.specs.Limits.{Limits, plus}
use Rattle.index_map.specs.IndexMap as IndexMap
use Rattle.index_map.specs.IndexMap.{combination, neg_all, insert_all, add, sub}
use Rattle.linear_comb.specs.LinearComb.{LinearComb}
use Rattle.index_map.specs.Memory.Entries.{terms}
use Rattle.alethe.specs.AletheTerms.{Entries, Sum, times_each, minus_one}
use Rattle.rules.proofs.Yields.{Yields, gives, past, and_then, at_ok, plus-yields}
use Rattle.rules.proofs.Valuations.{numberℚ, rationals, number_unique}
use Rattle.rules_theory.proofs.IndexMaps.{CombinationOf, Totals, total, insert_all_totals, neg_all_totals}
use Rattle.linear_theory.proofs.Weights.{weigh, numbered, weights, EntriesFor, weigh_append, weigh-times}
use Rattle.linear_theory.proofs.Weights.{entries_append, entries-times}
use Rattle.linear_theory.proofs.LinearSums.{SumOf}
use Rattle.linear_theory.proofs.LinearForms.{Gathers}
open ℚring use {add as ◌+◌, neg as -◌, ι}

infixl 6 ◌+◌
infix 8 -◌
-- ---- the terms and the bound

abbrev pub apart_terms : Sum → Sum → Entries
apart_terms left right = left.terms ++ times_each minus_one right.terms

abbrev pub apart_bound : Sum → Sum → Rational
apart_bound left right = add_q right.constant (neg_q left.constant)

module _ {P : Term → Type 0} (left right : Sum) (kl : SumOf P left) (kr : SumOf P right) where
  pub apart-kept : EntriesFor P (apart_terms left right) × Lowest (apart_bound left right)
  apart-kept = (
    entries_append P left.terms (times_each minus_one right.terms) kl.0
        (entries-times minus_one (rationals.good-whole (negsuc 0)) right.terms kr.0),
    rationals.good-add right.constant (neg_q left.constant) kr.1
        (rationals.good-neg left.constant kl.1),
  )

  pub apart_weighs : (f : Term → ℚ) → weigh f (apart_terms left right) ≡ weigh f left.terms + - weigh f right.terms
  apart_weighs f =
      derive ℚring
      (weigh f (apart_terms left right) ∷ weigh f left.terms ∷ weigh f (times_each minus_one right.terms)
      ∷ weigh f right.terms ∷ numberℚ minus_one ∷ [])
      (λ w l m r i. w ≐ l ⊕ neg r from 𝟙 · w ≐ l ⊕ m and 𝟙 · m ≐ i ⊗ r and r · i ≐ lit (negsuc 0)) tt
      (weigh_append f left.terms (times_each minus_one right.terms))
      (weigh-times f minus_one (rationals.good-whole (negsuc 0)) right.terms kr.0)
      (rationals.number-whole (negsuc 0))

  pub apart-bound : numberℚ (apart_bound left right) ≡ numberℚ right.constant + - numberℚ left.constant
  apart-bound =
      rationals.number-add right.constant (neg_q left.constant) kr.1
      (rationals.good-neg left.constant kl.1)
      ∙ ap (◌+◌ (numberℚ right.constant)) (rationals.number-neg left.constant kl.1)

-- ---- combinations

-- c, whose constant stands on the right, is what left and right are apart
pub record Apart (P : Term → Type 0) (left right : Sum) (c : LinearComb) : Type 0 where
  pub kept : CombinationOf P Lowest c
  pub entries : (v : ℕ → ℚ) →
      total (weights P v) c.entries ≡ weigh (numbered v) left.terms + - weigh (numbered v) right.terms
  pub constant : numberℚ c.constant ≡ numberℚ right.constant + - numberℚ left.constant

abbrev any_weight : ℕ → ℚ
any_weight i = ι (pos 0)

module _ {P : Term → Type 0} where
  module _ (l : Limits) (a b : LinearComb) (ka : CombinationOf P Lowest a) (kb : CombinationOf P Lowest b) where
    difference_totals : (v : ℕ → ℚ) →
        Yields (λ c. Totals (weights P v) c.entries
        (total (weights P v) a.entries + - total (weights P v) b.entries))
        (sub terms l a b)
    unfolding sub add IndexMap.neg
    difference_totals v =
        let t = neg_all_totals (weights P v) b.entries kb.entries in
        and_then (insert_all_totals (weights P v) l a.entries (neg_all b.entries) ka.entries t.good) λ m h.
        past (plus l a.constant (neg_q b.constant)) λ c.
        gives (record { good = h.good; is = h.is ∙ ap (◌+◌ (total (weights P v) a.entries)) t.is })

    difference-total : (c : LinearComb) → sub terms l a b ≡ Ok c → (v : ℕ → ℚ) →
        Totals (weights P v) c.entries (total (weights P v) a.entries + - total (weights P v) b.entries)
    difference-total c e v = at_ok (difference_totals v) e

    difference-constant : Yields (λ c. c.constant ≡ add_q a.constant (neg_q b.constant)) (sub terms l a b)
    unfolding sub add IndexMap.neg
    difference-constant =
        past (insert_all terms l a.entries (neg_all b.entries)) λ m.
        and_then (plus-yields l a.constant (neg_q b.constant)) λ c e. gives e

  module _ (left right : Sum) where
    pub sub-apart : (l : Limits) (a b : LinearComb) → Gathers P left a → Gathers P right b → (c : LinearComb) →
        sub terms l a b ≡ Ok c → Apart P left right (combination c.entries (neg_q c.constant))
    sub-apart l a b ga gb c e =
        let k = at_ok (difference-constant l a b ga.kept gb.kept) e in
        let nb = neg_q b.constant in
        let la = ga.kept.constant in
        let lb = gb.kept.constant in
        let ln = rationals.good-neg b.constant lb in
        let lowest : Lowest c.constant = rw k (rationals.good-add a.constant nb la ln) in
        record {
          kept = record {
            entries = (difference-total l a b ga.kept gb.kept c e any_weight).good;
            constant = rationals.good-neg c.constant lowest;
          };
          entries = λ v.
              derive ℚring
              (total (weights P v) c.entries ∷ total (weights P v) a.entries ∷ total (weights P v) b.entries
              ∷ weigh (numbered v) left.terms ∷ weigh (numbered v) right.terms ∷ [])
              (λ c a b l r. c ≐ l ⊕ neg r from 𝟙 · c ≐ a ⊕ neg b and 𝟙 · a ≐ l and neg 𝟙 · b ≐ r) tt
              (difference-total l a b ga.kept gb.kept c e v).is (ga.entries v) (gb.entries v);
          constant =
              derive ℚring
              (numberℚ (neg_q c.constant) ∷ numberℚ c.constant ∷ numberℚ a.constant ∷ numberℚ nb
              ∷ numberℚ b.constant ∷ numberℚ left.constant ∷ numberℚ right.constant ∷ [])
              (λ n c a m b l r.
              n ≐ r ⊕ neg l from
              𝟙 · n ≐ neg c and neg 𝟙 · c ≐ a ⊕ m and neg 𝟙 · m ≐ neg b and neg 𝟙 · a ≐ l and 𝟙 · b ≐ r) tt
              (rationals.number-neg c.constant lowest)
              (ap numberℚ k ∙ rationals.number-add a.constant nb la ln)
              (rationals.number-neg b.constant lb) (ap numberℚ ga.constant) (ap numberℚ gb.constant);
        }

    pub neg-apart : (c : LinearComb) → Apart P left right c → Apart P right left (IndexMap.neg c)
    unfolding IndexMap.neg
    neg-apart c h = record {
      kept = record {
        entries = (neg_all_totals (weights P any_weight) c.entries h.kept.entries).good;
        constant = rationals.good-neg c.constant h.kept.constant;
      };
      entries = λ v.
          derive ℚring
          (total (weights P v) (neg_all c.entries) ∷ total (weights P v) c.entries
          ∷ weigh (numbered v) left.terms ∷ weigh (numbered v) right.terms ∷ [])
          (λ n c l r. n ≐ r ⊕ neg l from 𝟙 · n ≐ neg c and neg 𝟙 · c ≐ l ⊕ neg r) tt
          (neg_all_totals (weights P v) c.entries h.kept.entries).is (h.entries v);
      constant =
          derive ℚring
          (numberℚ (neg_q c.constant) ∷ numberℚ c.constant ∷ numberℚ left.constant
          ∷ numberℚ right.constant ∷ [])
          (λ n c l r. n ≐ l ⊕ neg r from 𝟙 · n ≐ neg c and neg 𝟙 · c ≐ r ⊕ neg l) tt
          (rationals.number-neg c.constant h.kept.constant) h.constant;
    }

    module _ (kl : SumOf P left) (kr : SumOf P right) (c : LinearComb) (h : Apart P left right c) where
      pub apart-sums : (v : ℕ → ℚ) → total (weights P v) c.entries ≡ weigh (numbered v) (apart_terms left right)
      apart-sums v = h.entries v ∙ sym (apart_weighs left right kl kr (numbered v))

      pub apart-constant : c.constant ≡ apart_bound left right
      apart-constant =
          number_unique c.constant (apart_bound left right) h.kept.constant (apart-kept left right kl kr).1
          (h.constant ∙ sym (apart-bound left right kl kr))
