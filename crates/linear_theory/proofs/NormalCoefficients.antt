-- The map that a sum of entries adds up to (`Normal`): one entry for each atom whose coefficients do not cancel. The
-- coefficient of a record number in the sum is what the map has there, since both are the weight 1 at that number and 0
-- at all others. Every sum has such a map.
--     coefficient_at, coefficient_of_entry       coefficients of the sum and of the map
--     atom_of_entry, entry_of_atom       an atom for each entry, an entry for each atom that does not cancel
--     normal_weighs       under any value for the atoms that respects their record numbers both have one value
--     normal-insert, normal-map       an entry more is inserted; from nothing
use mathlib.Core.Path.{◌≡◌, refl, sym, ◌∙◌, ap}
use mathlib.Core.Bool.{false}
use mathlib.Core.List.{[], ◌∷◌}
use Prim.Native.Nat.{ℕ}
use borrow.Author.Tests.{eq-eqb}
use Rattle.numbers.specs.Rational.{Rational, Lowest, is_zero}
use Rattle.terms.specs.Term.{Term, record_number}
use Rattle.numbers.proofs.Ring.{◌⊕◌, 𝟙, ◌≐◌, ◌·◌, ◌from◌, ◌and◌, derive}
use Rattle.numbers.proofs.Truths.{never}
use Rattle.numbers.proofs.Quotient.{ℚ, ℚring, sum, product}
use Rattle.std.specs.Prelude.{Ok}
use Rattle.rules.specs.Limits.{Limits, the_rust}
use Rattle.index_map.specs.IndexMap.{Map, insert}
use Rattle.index_map.specs.Memory.Entries.{terms}
use Rattle.alethe.specs.AletheTerms.{Entries, coefficient_of}
use Rattle.linear_theory.proofs.KeyNames.{term_names}
use Rattle.linear_theory.proofs.NoZero.{NoZero, empty, insert-nonzero}
use Rattle.rules.proofs.Yields.{at_ok}
use Rattle.rules_theory.proofs.Unlimited.{answer_of, insert-free}
use Rattle.rules.proofs.Valuations.{numberℚ, Respects, number_unique}
use Rattle.rules_theory.proofs.IndexMaps.{EntriesOf, total, Totals, insert_totals}
use Rattle.index_map.proofs.MapKeys.{key_of}
use Rattle.linear_theory.proofs.MapEntries.{Among, of_among, nonzero-among, number_at, At, absent, present, at}
use Rattle.linear_theory.proofs.MapEntries.{at_among, at_lowest, total_at}
use Rattle.linear_theory.proofs.Weights.{weigh, numbered, delta, weights, EntriesFor, none, entry}
use Rattle.linear_theory.proofs.Weights.{coefficient-lowest, coefficient_weighs}
use Rattle.linear_theory.proofs.SumEntries.{AtomAt, atom_at, for_among, weigh-same, first_of, first_among, valued}
use Rattle.linear_theory.proofs.SumEntries.{total-same}

pub record Normal (P : Term → Type 0) (es : Entries) (m : Map Term) : Type 0 where
  pub tidy : NoZero terms m
  pub kept : EntriesOf P Lowest m
  pub sums : (v : ℕ → ℚ) → total (weights P v) m ≡ weigh (numbered v) es

module _ {P : Term → Type 0} (es : Entries) (of : EntriesFor P es) (m : Map Term) (normal : Normal P es m) where
  -- the coefficient of a number in the sum is what the map has there
  pub coefficient_at : (i : ℕ) → coefficient_of i es ≡ number_at i m
  coefficient_at i =
      number_unique (coefficient_of i es) (number_at i m) (coefficient-lowest i es of) (at_lowest P i m normal.kept)
      (coefficient_weighs i es of ∙ sym (normal.sums (delta i)) ∙ total_at P i m normal.tidy)

  pub coefficient_of_entry : (e : Term × Rational) → Among e m → coefficient_of (key_of e) es ≡ e.1
  coefficient_of_entry e a = coefficient_at (key_of e) ∙ at_among normal.tidy a

  -- an entry's key is an atom of the sum
  pub atom_of_entry : (e : Term × Rational) → Among e m → AtomAt (key_of e) es
  atom_of_entry e a =
      atom_at (key_of e) es (ap is_zero (coefficient_of_entry e a) ∙ nonzero-among normal.tidy a)

  -- an atom whose coefficients do not cancel is the key of an entry
  pub entry_of_atom :
      (i : ℕ) → is_zero (coefficient_of i es) ≡ false → (e : Term × Rational) × (Among e m × (key_of e ≡ i))
  unfolding is_zero
  entry_of_atom i h = go (at i m) (ap is_zero (sym (coefficient_at i)) ∙ h)
    where
      go : {q : Rational} → At i m q → is_zero q ≡ false → (e : Term × Rational) × (Among e m × (key_of e ≡ i))
      go absent z = never (sym z)
      go (present e a k) z = (e, (a, k))

  -- under any value for the atoms that respects their record numbers
  pub normal_weighs : (f : Term → ℚ) (r : Respects P f) → total (valued P f r) m ≡ weigh f es
  normal_weighs f r =
      total-same P f (numbered v) r (weights P v).respects m (λ e a. sym (at_key e a))
      ∙ normal.sums v
      ∙ weigh-same (numbered v) f es (λ e a. first_among f r of a)
    where
      v : ℕ → ℚ
      v = first_of f es

      at_key : (e : Term × Rational) → Among e m → v (key_of e) ≡ f e.0
      at_key e a =
          let x = atom_of_entry e a in
          ap v (sym x.is) ∙ first_among f r of x.among
          ∙ r x.at.1 e.0 (for_among of x.among) (of_among normal.kept a).known
          (eq-eqb (record_number x.at.1) (key_of e) x.is)

-- an entry more is inserted
pub normal-insert :
    {P : Term → Type 0} (l : Limits) {es : Entries} {m : Map Term} → Normal P es m → (t : Term) → P t → (q : Rational) →
    Lowest q → {r : Map Term} → insert terms l m t q ≡ Ok r → Normal P ((q, t) ∷ es) r
unfolding weigh
normal-insert {P} l {es} {m} n t p q lq {r} e =
    record {
      tidy = at_ok (insert-nonzero term_names l m t q n.tidy) e;
      kept = (added (delta 0)).good;
      sums = λ v.
          derive ℚring
          (product (numberℚ q) (v (record_number t)) ∷ total (weights P v) m ∷ total (weights P v) r
          ∷ weigh (numbered v) es ∷ [])
          (λ e m r w. r ≐ e ⊕ w from 𝟙 · r ≐ m ⊕ e and 𝟙 · m ≐ w) tt (added v).is (n.sums v);
    }
  where
    added : (v : ℕ → ℚ) →
        Totals (weights P v) r (sum (total (weights P v) m) (product (numberℚ q) (v (record_number t))))
    added v = at_ok (insert_totals (weights P v) l m t q n.kept (record { known = p; good = lq })) e

-- entry after entry
pub normal-map : (P : Term → Type 0) (es : Entries) → EntriesFor P es → (m : Map Term) × Normal P es m
unfolding total weigh
normal-map P [] none = ([], record { tidy = empty; kept = tt; sums = λ v. refl })
normal-map P (e ∷ es) (entry p q g) =
    let rest = normal-map P es g in
    let (r, (inserted, t)) = answer_of (insert-free terms (λ n. refl) rest.0 e.1 e.0) in
    (r, normal-insert the_rust rest.1 e.1 p e.0 q inserted)
