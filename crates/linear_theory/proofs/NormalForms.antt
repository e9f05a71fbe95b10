-- The map that a sum of entries adds up to (`Normal`) is the Rust's map, whatever the order of its entries, so each
-- test on such a map says what the Alethe side says of the entries.
--     normal-empty, normal-cancels       no entry is left exactly where all coefficients cancel
--     normal-all_int, normal-whole, whole-normal       sorts, whole coefficients
--     normal_exists, normal-value       every sum has such a map, of the same value
--     normal-divisor, normal-multiples, normal-common       the greatest common divisor
use mathlib.Core.Path.{◌≡◌, refl, sym, ◌∙◌, ap}
use mathlib.Core.Bool.{Bool, true, false, ◌||◌}
use mathlib.Core.List.{[], ◌∷◌}
use mathlib.Core.Logic.{◌⊎◌, inl, inr}
use Prim.Native.Nat.{ℕ, zero, suc, ◌/◌, ◌≤◌}
use native.Mathlib.Nat.{le_of_dvd, zero-lt-suc, div-le_self}
use native.Mathlib.Omega.{arith}
use borrow.Author.Tests.{eq-eqb, le-leb}
use lib.IntN.{ℤ, pos, negsuc, nat_abs, ◌*ℤ◌}
use lib.Signed.{lt_z}
use Rattle.numbers.specs.Rational.{Rational, whole, Lowest, floor_z, floor_q, is_zero, is_integer, is_positive}
use Rattle.terms.specs.Term.{Term, record_number, sort, same_sort}
use Rattle.numbers.specs.Choice.{when◌then◌else◌}
use Rattle.terms.specs.Term.Sort.{int}
use Rattle.terms.specs.Smtlib.{Assignment, value}
use Rattle.numbers.proofs.Truths.{never, same_test}
use Rattle.numbers.proofs.Rationals.{is_integer-whole}
use Rattle.terms.proofs.Sums.{meant}
use Rattle.book.proofs.BookTerms.{Closed}
use Rattle.index_map.specs.IndexMap.{Map, combination}
use Rattle.linear_comb.specs.LinearComb.{at_least_one, gcd_from, coefficients_gcd}
use Rattle.linear_comb.specs.LinearComb as Linear
use Rattle.disequality.specs.Disequality.{floored}
use Rattle.linear_theory.specs.Premises.{whole_coefficients}
use Rattle.alethe.specs.AletheTerms.{Entries, coefficient_of, Cancels, all_int_in}
use Rattle.alethe.specs.Alethe.{Constraint, Common}
use Rattle.rules_theory.proofs.IndexMaps.{total}
use Rattle.linear_theory.proofs.LinearWalk.{atoms}
use Rattle.index_map.proofs.MapKeys.{key_of}
use Rattle.linear_theory.proofs.Multiples.{Multiple, of_multiple, zero-multiple, EachMultiple, Found, gcd_from-found}
use Rattle.linear_theory.proofs.Multiples.Found.{fraction, negative, greatest}
use Rattle.linear_theory.proofs.MapEntries.{Among, here, all_among, among_all, int_test, whole-test, of_among}
use Rattle.linear_theory.proofs.MapEntries.{nonzero-among, number_at, At, absent, present, at, each-among, among-each}
use Rattle.linear_theory.proofs.Weights.{weigh, EntriesFor}
use Rattle.linear_theory.proofs.SumEntries.{for_among, kept_test}
pub use Rattle.linear_theory.proofs.NormalCoefficients.{Normal}
use Rattle.linear_theory.proofs.NormalCoefficients.{coefficient_at, coefficient_of_entry, atom_of_entry, entry_of_atom}
use Rattle.linear_theory.proofs.NormalCoefficients.{normal_weighs, normal-map}

module _ {P : Term → Type 0} (closed : Closed P) (es : Entries) (of : EntriesFor P es) where
  pub normal-empty : (m : Map Term) → Normal P es m → Cancels es → m ≡ []
  normal-empty [] n c = refl
  normal-empty (e ∷ m) n c =
      never
      (sym (nonzero-among n.tidy here)
      ∙ ap is_zero (sym (coefficient_of_entry es of (e ∷ m) n e here)) ∙ c (key_of e))

  pub normal-cancels : Normal P es [] → Cancels es
  unfolding is_zero number_at
  normal-cancels n i = ap is_zero (coefficient_at es of [] n i)

  pub normal-all_int : (m : Map Term) → Normal P es m → Linear.all_int m ≡ all_int_in es es
  normal-all_int m n =
      same_test (Linear.all_int m) (all_int_in es es)
      (λ h. among_all (kept_test es) es (λ e a. of_atom h e a))
      (λ h. among_all int_test m (λ e a. of_entry h e a))
    where
      equal : (e : Term × Rational) → Among e m → (x : Rational × Term) → Among x es → record_number x.1 ≡ key_of e →
          x.1 ≡ e.0
      equal e a x b k =
          closed.known x.1 e.0 (for_among of b) (of_among n.kept a).known
          (eq-eqb (record_number x.1) (key_of e) k)

      of_atom : Linear.all_int m ≡ true → (e : Rational × Term) → Among e es →
          (is_zero (coefficient_of (record_number e.1) es) || same_sort (sort e.1) int) ≡ true
      of_atom h e a = go (is_zero (coefficient_of (record_number e.1) es)) refl
        where
          go : (t : Bool) → is_zero (coefficient_of (record_number e.1) es) ≡ t →
              (t || same_sort (sort e.1) int) ≡ true
          go true z = refl
          go false z =
              let x = entry_of_atom es of m n (record_number e.1) z in
              rw (equal x.0 x.1.0 e a (sym x.1.1)) (all_among int_test h x.1.0)

      of_entry : all_int_in es es ≡ true → (e : Term × Rational) → Among e m → same_sort (sort e.0) int ≡ true
      of_entry h e a =
          let x = atom_of_entry es of m n e a in
          let z : is_zero (coefficient_of (record_number x.at.1) es) ≡ false =
          ap (λ (i : ℕ). is_zero (coefficient_of i es)) x.is
          ∙ ap is_zero (coefficient_of_entry es of m n e a) ∙ nonzero-among n.tidy a in
          rw (sym (equal e a x.at x.among x.is)) (rw z at (all_among (kept_test es) h x.among))

  pub normal-whole :
      (m : Map Term) → Normal P es m → whole_coefficients m ≡ true → (i : ℕ) → is_integer (coefficient_of i es) ≡ true
  unfolding is_integer
  normal-whole m n h i = ap is_integer (coefficient_at es of m n i) ∙ go (at i m)
    where
      go : {q : Rational} → At i m q → is_integer q ≡ true
      go absent = refl
      go (present e a k) = all_among whole-test h a

  pub whole-normal :
      (m : Map Term) → Normal P es m → ((i : ℕ) → is_integer (coefficient_of i es) ≡ true) → whole_coefficients m ≡ true
  whole-normal m n h =
      among_all whole-test m
      (λ e a. ap is_integer (sym (coefficient_of_entry es of m n e a)) ∙ h (key_of e))

  pub normal_exists : (m : Map Term) × Normal P es m
  normal_exists = normal-map P es of

  pub normal-value : (m : Map Term) → Normal P es m → (ρ : Assignment) →
      total (atoms closed ρ) m ≡ weigh (λ t. meant (value ρ t)) es
  normal-value m n ρ = normal_weighs es of m n (λ t. meant (value ρ t)) (atoms closed ρ).respects

-- the Rust's divisor: 1, or the greatest that is common to the coefficients and the bound rounded down
pub record Divisor (k : Constraint) (m : Map Term) : Type 0 where
  pub divisor : ℕ
  pub is : coefficients_gcd (floored (combination m k.bound)) ≡ pos divisor
  pub least : 1 ≤ divisor
  pub greatest :
      (divisor ≡ 1)
      ⊎ (Common divisor k × ((h : ℕ) → Common h k → h ≤ divisor) × (Cancels k.terms → is_positive k.bound ≡ true))

at_least-zero : at_least_one (pos 0) ≡ pos 1
unfolding when◌then◌else◌
at_least-zero = refl

at_least-positive : (j : ℕ) → at_least_one (pos (suc j)) ≡ pos (suc j)
unfolding when◌then◌else◌
at_least-positive j = let h : 1 ≤ suc j = omega arith in rw (le-leb 1 (suc j) h)

negative-bound : (q : Rational) (n : ℕ) → (floor_q q).num ≡ negsuc n → (j : ℕ) × (q.num ≡ negsuc j)
unfolding floor_q
negative-bound q n = go q.num
  where
    go : (z : ℤ) → floor_z z (nat_abs q.den) ≡ negsuc n → (j : ℕ) × (z ≡ negsuc j)
    go (pos j) e = let z : ◌≡◌ {A = ℕ} 0 1 = cc in absurd (omega arith)
    go (negsuc j) e = (j, refl)

-- where the divisor of a bound alone is above 1, the bound is positive
positive-bound : (q : Rational) (i : ℕ) → at_least_one (floor_q q).num ≡ pos (suc (suc i)) → is_positive q ≡ true
unfolding floor_q is_positive when◌then◌else◌
positive-bound q i = go q.num
  where
    go : (z : ℤ) → at_least_one (floor_z z (nat_abs q.den)) ≡ pos (suc (suc i)) → lt_z (pos 0) z ≡ true
    go (pos zero) e =
        let n = nat_abs q.den in
        let z : 0 / n ≡ 0 = omega (arith, div-le_self 0 n) in
        let one : at_least_one (pos 0) ≡ pos (suc (suc i)) = ap (λ (k : ℕ). at_least_one (pos k)) (sym z) ∙ e in
        let no : ◌≡◌ {A = ℕ} 1 (suc (suc i)) = cc in absurd (omega arith)
    go (pos (suc n)) e = let h : 1 ≤ suc n = omega arith in le-leb 1 (suc n) h
    go (negsuc n) e = let z : ◌≡◌ {A = ℕ} 1 (suc (suc i)) = cc in absurd (omega arith)

module _
    {P : Term → Type 0} (closed : Closed P) (k : Constraint) (of : EntriesFor P k.terms) (lowest : Lowest k.bound)
    (m : Map Term) (n : Normal P k.terms m) where
  abbrev floor : ℤ
  floor = (floor_q k.bound).num

  gcd_is : coefficients_gcd (floored (combination m k.bound)) ≡ gcd_from floor m
  unfolding coefficients_gcd floor_q is_integer
  gcd_is = refl

  -- common to the map's coefficients
  common_of : (g : ℕ) → whole_coefficients m ≡ true → Multiple g floor → EachMultiple g m → Common g k
  unfolding floor_q
  common_of g w p q =
      record {
        coefficients = λ i. go i (at i m) (coefficient_at k.terms of m n i);
        bound = (p.factor, ap whole p.is);
      }
    where
      go : (i : ℕ) {c : Rational} → At i m c → coefficient_of i k.terms ≡ c →
          (z : ℤ) × (coefficient_of i k.terms ≡ whole (z *ℤ pos g))
      go i absent e = let y = zero-multiple g in (y.factor, e ∙ ap whole y.is)
      go i (present x a j) e =
          let y = each-among q a in
          (y.factor, e ∙ is_integer-whole x.1 (all_among whole-test w a) ∙ ap whole y.is)

  module _ (g : ℕ) (c : Common g k) where
    of_common : Multiple g floor
    of_common = record { factor = c.bound.0; is = ap (λ (q : Rational). q.num) c.bound.1 }

    each_of_common : EachMultiple g m
    each_of_common =
        among-each m λ e a.
        let y = c.coefficients (key_of e) in
        record {
          factor = y.0;
          is = ap (λ (q : Rational). q.num) (sym (coefficient_of_entry k.terms of m n e a) ∙ y.1);
        }

    whole_of_common : whole_coefficients m ≡ true
    unfolding is_integer
    whole_of_common =
        whole-normal closed k.terms of m n λ i. ap is_integer (c.coefficients i).1

    -- a divisor that is common to the sum's coefficients is common to the map's
    pub normal-multiples : Multiple g (floor_q k.bound).num × EachMultiple g m
    normal-multiples = (of_common, each_of_common)

  divisor-alone : m ≡ [] → at_least_one floor ≡ gcd_from floor m
  unfolding gcd_from
  divisor-alone e = ap (gcd_from floor) (sym e)

  pub normal-divisor : Divisor k m
  normal-divisor = go (gcd_from-found floor m) refl
    where
      one : gcd_from floor m ≡ pos 1 → Divisor k m
      one e = record { divisor = 1; is = gcd_is ∙ e; least = omega arith; greatest = inl refl }

      go : {z : ℤ} → Found floor m z → gcd_from floor m ≡ z → Divisor k m
      go (fraction w) e = one e
      go (negative j f h) e = one e
      go (greatest zero w p q top) e = one (e ∙ at_least-zero)
      go (greatest (suc zero) w p q top) e = one (e ∙ at_least-positive 0)
      go (greatest (suc (suc i)) w p q top) e =
          record {
            divisor = suc (suc i);
            is = gcd_is ∙ e ∙ at_least-positive (suc i);
            least = omega arith;
            greatest = inr (
              common_of (suc (suc i)) w p q,
              λ h c. le_of_dvd (zero-lt-suc (suc i)) (top h (of_common h c) (each_of_common h c)),
              λ c.
                  positive-bound k.bound i
                  (divisor-alone (normal-empty closed k.terms of m n c) ∙ e ∙ at_least-positive (suc i)),
            );
          }

  -- where no entry is left, the loop starts and ends with the bound rounded down, and makes 1 of a negative one
  pub normal-common :
      (g : ℕ) → Common g k → ((h : ℕ) → Common h k → h ≤ g) → 1 ≤ g →
      (m ≡ [] → (j : ℕ) → k.bound.num ≡ negsuc j → ⊥) →
      coefficients_gcd (floored (combination m k.bound)) ≡ pos g
  normal-common g c most least bounded = gcd_is ∙ go (gcd_from-found floor m)
    where
      go : {z : ℤ} → Found floor m z → z ≡ pos g
      go (fraction w) = never (sym w ∙ whole_of_common g c)
      go (negative j f h) = absurd (bounded h (negative-bound k.bound j f).0 (negative-bound k.bound j f).1)
      go (greatest zero w p q top) =
          let more =
          common_of (suc g) w (of_multiple (suc g) 0 floor (zero-multiple (suc g)) p)
          (among-each m λ e a. of_multiple (suc g) 0 e.1.num (zero-multiple (suc g)) (each-among q a)) in
          absurd (omega (arith, most (suc g) more))
      go (greatest (suc j) w p q top) =
          let above : suc j ≤ g = most (suc j) (common_of (suc j) w p q) in
          let below : g ≤ suc j = le_of_dvd (zero-lt-suc j) (top g (of_common g c) (each_of_common g c)) in
          let equal : suc j ≡ g = omega arith in
          at_least-positive j ∙ ap pos equal
