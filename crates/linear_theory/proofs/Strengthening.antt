-- The strengthening of rules 5 and 6 is sound where all atoms are Int and their coefficients are whole. The sum is
-- then whole and a multiple of the divisor g; above the bound it is above the bound's floor, so at least g more
-- (`raised_by_one`, `raised_by_divisor`). At least the bound it is above it where the bound is not whole
-- (`above-fraction`).
--     floor_of_whole, times-test       whole numbers, and the Rust's test on the product
--     int-atoms       Int atoms have whole values
use mathlib.Core.Path.{◌≡◌, refl, sym, ◌∙◌, ap, ap₂, subst}
use mathlib.Core.Bool.{true, false}
use mathlib.Core.List.{[], ◌∷◌}
use Prim.Native.Nat.{ℕ, ◌+◌}
use native.Mathlib.Nat.{div-one}
use native.Mathlib.Omega.{arith}
use borrow.Author.Tests.{eqb-true}
use lib.Dec.{T}
use lib.IntN.{ℤ, pos, negsuc, neg_ℤ, ◌+ℤ◌, ◌-ℤ◌, ◌*ℤ◌}
use lib.Signed.{lt_z_yes, ◌<ℤ◌}
use Rattle.numbers.specs.Pair.{whole_p}
use Rattle.numbers.specs.Rational as Rational
use Rattle.numbers.specs.Rational.{Rational, whole, Lowest, add_q, mul_q, floor_z, floor_q, is_integer, is_zero, eq_q}
use Rattle.terms.specs.Term.{Sort, Term, sort, same_sort}
use Rattle.terms.specs.Term.Sort.{bool, int, real, bits}
use Rattle.terms.specs.Smtlib.{Assignment, Meant, truth, number, vector, OfSort, value, divs_even}
use Rattle.numbers.proofs.Integers.{◌⊕◌, ◌⊖◌, ◌⊗◌, neg, 𝟘, 𝟙, ◌≐◌, ◌·◌, ◌and◌, ◌from◌, solveℤ, deriveℤ}
use Rattle.numbers.proofs.Ring.{derive}
use Rattle.numbers.proofs.Truths.{both, never, if_either}
use Rattle.numbers.proofs.Order.{pos-nonneg, add_one_le_of_lt, mul-le-mul_of_nonneg, lt_of_mul_lt_mul_right}
use Rattle.numbers.proofs.Order.{sub-nonneg_of_le}
use Rattle.numbers.proofs.Rationals.{is_integer-whole, is_integer-value, eq_q-eq}
use Rattle.numbers.proofs.Floor.{floor-le, floor-lowest}
use Rattle.book.proofs.Meaning.{value_of_sort}
use Rattle.numbers.proofs.Quotient.{ℚ, ℚring, sum, opposite, ι, mk-eq, mk-whole, ≈_of_mk-eq}
use Rattle.terms.proofs.Sums.{meant}
use Rattle.book.proofs.BookTerms.{Closed}
use Rattle.index_map.specs.IndexMap.{Map}
use Rattle.disequality.specs.Disequality.{is_integer_times}
use Rattle.linear_comb.specs.LinearComb.{all_int}
use Rattle.linear_theory.specs.Premises.{whole_coefficients}
use Rattle.rules.proofs.Valuations.{numberℚ, rationals, number_unique}
use Rattle.rules_theory.proofs.IndexMaps.{EntriesOf, total}
use Rattle.linear_theory.proofs.LinearWalk.{atoms}
use Rattle.alethe.proofs.Signs.{Nonneg, Positive, nonneg-as, positive-as, positive-add, nonneg-whole, positive-whole}
use Rattle.alethe.proofs.Signs.{positive_of_nonneg, at_most, ◌less◌}
use Rattle.linear_theory.proofs.Multiples.{Multiple, EachMultiple, of_one, each_of_one, WholeAtoms, WholeSum}
use Rattle.linear_theory.proofs.Multiples.{sum-multiple}

-- ---- whole numbers among the rational ones

whole_neg : (z : ℤ) → ι (neg_ℤ z) ≡ opposite (ι z)
whole_neg z =
    derive ℚring (ι z ∷ ι (neg_ℤ z) ∷ []) (λ z n. n ≐ neg z from 𝟙 · n ⊕ z ≐ 𝟘) tt
    (sym (ℚring.ι-add (neg_ℤ z) z) ∙ ap ι (solveℤ (z ∷ []) (λ z. neg z ⊕ z ≐ 𝟘) tt))

whole-less : (a b : ℤ) → ι (a -ℤ b) ≡ ι a less ι b
whole-less a b = ℚring.ι-add a (neg_ℤ b) ∙ ap (sum (ι a)) (whole_neg b)

-- multiples of g that differ by more than 0 differ by at least g
whole-step : (g : ℕ) (s d : ℤ) → Multiple g s → Multiple g d → Positive (ι s less ι d) →
    Nonneg (ι s less sum (ι d) (ι (pos g)))
whole-step g s d p q h =
    nonneg-as (ap ι last ∙ whole-less s (d +ℤ pos g) ∙ ap (◌less◌ (ι s)) (ℚring.ι-add d (pos g)))
    (subst T (sym (nonneg-whole (k *ℤ pos g -ℤ (pos 0 +ℤ pos 1) *ℤ pos g)))
    (sub-nonneg_of_le (mul-le-mul_of_nonneg (add_one_le_of_lt above) (pos-nonneg g))).le)
  where
    k : ℤ
    k = p.factor -ℤ q.factor

    first : s -ℤ d ≡ k *ℤ pos g
    first =
        deriveℤ (s ∷ d ∷ p.factor ∷ q.factor ∷ pos g ∷ [])
        (λ s d m n g. s ⊖ d ≐ (m ⊖ n) ⊗ g from 𝟙 · s ≐ m ⊗ g and neg 𝟙 · d ≐ n ⊗ g) tt p.is q.is

    last : k *ℤ pos g -ℤ (pos 0 +ℤ pos 1) *ℤ pos g ≡ s -ℤ (d +ℤ pos g)
    last =
        deriveℤ (s ∷ d ∷ p.factor ∷ q.factor ∷ pos g ∷ [])
        (λ s d m n g. (m ⊖ n) ⊗ g ⊖ (𝟘 ⊕ 𝟙) ⊗ g ≐ s ⊖ (d ⊕ g) from neg 𝟙 · s ≐ m ⊗ g and 𝟙 · d ≐ n ⊗ g) tt
        p.is q.is

    above : pos 0 <ℤ k
    above =
        lt_of_mul_lt_mul_right
        (subst (λ (z : ℤ). z <ℤ (k *ℤ pos g)) (solveℤ (pos g ∷ []) (λ g. 𝟘 ≐ 𝟘 ⊗ g) tt)
        (lt_z_yes (subst T (positive-whole (k *ℤ pos g)) (positive-as (sym (whole-less s d) ∙ ap ι first) h))))
        (pos-nonneg g)

-- ---- the test on the constant

-- a number that is whole in value is whole
integer_of_whole : (a : Rational) → Lowest a → (z : ℤ) → numberℚ a ≡ ι z → is_integer a ≡ true
integer_of_whole a la z e =
    is_integer-value a la z (≈_of_mk-eq (Rational.value a) (whole_p z) (e ∙ sym (mk-whole z)))

number_of_whole : (a : Rational) → is_integer a ≡ true → numberℚ a ≡ ι a.num
number_of_whole a w = ap numberℚ (is_integer-whole a w) ∙ rationals.number-whole a.num

floor-integer : (d : Rational) → is_integer (floor_q d) ≡ true
unfolding floor_q is_integer
floor-integer d = refl

-- a whole number is its floor
pub floor_of_whole : (d : Rational) → is_integer d ≡ true → floor_q d ≡ d
unfolding floor_q
floor_of_whole d w = ap floor_q (is_integer-whole d w) ∙ ap whole (at d.num) ∙ sym (is_integer-whole d w)
  where
    at : (z : ℤ) → floor_z z 1 ≡ z
    at (pos n) = ap pos (div-one n)
    at (negsuc n) = ap negsuc (div-one n)

-- the Rust's test, which leaves the product out for 0 and 1, is that of the product
pub times-test : (d a : Rational) → Lowest d → Lowest a → is_integer_times d a ≡ is_integer (mul_q d a)
unfolding is_integer_times
times-test d a ld la =
    let lp = rationals.good-mul d a ld la in
    let is-product = rationals.number-mul d a ld la in
    if_either (λ b. b ≡ is_integer (mul_q d a)) (is_zero a)
    (λ t.
    sym
    (integer_of_whole (mul_q d a) lp (pos 0)
    (derive ℚring (numberℚ (mul_q d a) ∷ numberℚ d ∷ numberℚ a ∷ [])
    (λ p d a. p ≐ 𝟘 from 𝟙 · p ≐ d ⊗ a and d · a ≐ 𝟘) tt is-product (rationals.number-zero a la t))))
    (λ t.
    if_either (λ b. b ≡ is_integer (mul_q d a)) (eq_q a (whole (pos 1)))
    (λ u.
    ap is_integer
    (number_unique d (mul_q d a) ld lp
    (derive ℚring (numberℚ (mul_q d a) ∷ numberℚ d ∷ numberℚ a ∷ [])
    (λ p d a. d ≐ p from neg 𝟙 · p ≐ d ⊗ a and neg d · a ≐ 𝟙) tt is-product
    (ap numberℚ (eq_q-eq a (whole (pos 1)) u) ∙ rationals.number-whole (pos 1)))))
    (λ u. refl))

-- ---- Int atoms

pub is_int : (s : Sort) → same_sort s int ≡ true → s ≡ int
is_int bool e = cc
is_int int e = refl
is_int real e = cc
is_int (bits w) e = absurd (omega (arith, eqb-true (3 + w) 2 e))

whole_of_int : (v : Meant) → OfSort int v → (z : ℤ) × (meant v ≡ ι z)
whole_of_int (truth t) h = absurd h
whole_of_int (number p) (z, h) = (z, mk-eq p (whole_p z) h ∙ mk-whole z)
whole_of_int (vector n) h = absurd h

module _ {P : Term → Type 0} (closed : Closed P) (ρ : Assignment) where
  pub int-atoms : ((t : Term) → P t → divs_even t ≡ true) → (m : Map Term) → EntriesOf P Lowest m →
      all_int m ≡ true → WholeAtoms closed ρ m
  unfolding all_int
  int-atoms even [] g e = tt
  int-atoms even (x ∷ m) (g, gs) e =
      let t = x.0 in
      let b = both (same_sort (sort t) int) (all_int m) e in
      let h = value_of_sort t (closed.formed t g.known) (even t g.known) ρ in (
        whole_of_int (value ρ t) (subst (λ (s : Sort). OfSort s (value ρ t)) (is_int (sort t) b.0) h),
        int-atoms even m gs b.1,
      )

  -- ---- the bound raised

  module _ (m : Map Term) (d : Rational) (ld : Lowest d) where
    abbrev f : Rational
    f = floor_q d

    -- the sum less d
    abbrev gap : Rational → ℚ
    gap d = total (atoms closed ρ) m less numberℚ d

    raised_follows : (k : ℕ) → WholeSum closed ρ k m → Multiple k f.num → Positive (gap d) →
        Nonneg (gap (add_q f (whole (pos k))))
    raised_follows k w z h =
        let floor-whole = number_of_whole f (floor-integer d) in
        nonneg-as
        (ap₂ ◌less◌ (sym w.is)
        (sym
        (rationals.number-add f (whole (pos k)) (floor-lowest d) (rationals.good-whole (pos k))
        ∙ ap₂ sum floor-whole (rationals.number-whole (pos k)))))
        (whole-step k w.whole f.num w.multiple z
        (positive-as
        (derive ℚring (total (atoms closed ρ) m ∷ numberℚ d ∷ numberℚ f ∷ ι w.whole ∷ ι f.num ∷ [])
        (λ t d f w z. t ⊖ d ⊕ (d ⊖ f) ≐ w ⊖ z from 𝟙 · t ≐ w and neg 𝟙 · f ≐ z) tt w.is floor-whole)
        (positive-add _ _ h (at_most _ _ (floor-le d ld).le))))

    module _ (v : WholeAtoms closed ρ m) (c : whole_coefficients m ≡ true) where
      pub raised_by_one : Positive (gap d) → Nonneg (gap (add_q f (whole (pos 1))))
      raised_by_one = raised_follows 1 (sum-multiple closed ρ 1 m v c (each_of_one m)) (of_one f.num)

      pub raised_by_divisor : (g : ℕ) → Multiple g f.num → EachMultiple g m → Positive (gap d) →
          Nonneg (gap (add_q f (whole (pos g))))
      raised_by_divisor g z e = raised_follows g (sum-multiple closed ρ g m v c e) z

      -- a sum that is whole is above a bound that is not
      pub above-fraction : is_integer d ≡ false → Nonneg (gap d) → Positive (gap d)
      above-fraction t h =
          positive_of_nonneg _ h λ z.
          let q = sum-multiple closed ρ 1 m v c (each_of_one m) in
          never
          (sym t
          ∙ integer_of_whole d ld q.whole
          (derive ℚring (total (atoms closed ρ) m ∷ numberℚ d ∷ ι q.whole ∷ [])
          (λ t d w. d ≐ w from neg 𝟙 · t ⊖ d ≐ 𝟘 and 𝟙 · t ≐ w) tt z q.is))
