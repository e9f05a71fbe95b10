-- The rules' numbers modulo m, where they are whole: sums, products and opposites of whole numbers are
-- whole, and stand for those of their residues (`wholes`).
use mathlib.Core.Path.{◌≡◌, refl, sym, ◌∙◌, ap, ap₂}
use mathlib.Core.Bool.{true}
use mathlib.Core.List.{[], ◌∷◌}
use Prim.Native.Nat.{ℕ}
use lib.IntN.{ℤ, pos, neg_ℤ, ◌+ℤ◌, ◌*ℤ◌}
use Rattle.numbers.specs.Rational.{Rational, whole, lowest, add_q, mul_q, neg_q, is_zero}
use Rattle.numbers.proofs.Integers.{◌⊕◌, ◌⊗◌, 𝟙, ◌≐◌, solveℤ}
use Rattle.numbers.proofs.LowestTerms.{lowest-whole}
use Rattle.numbers.proofs.Rationals.{eq_z-eq}
use Rattle.numbers.proofs.Residues.{residues, residue, residue-add, residue-mul, residue-neg}
use Rattle.rules.proofs.Valuations.{Valuation}

abbrev pub IsWhole : Rational → Type 0
IsWhole q = q ≡ whole q.num

module _ (a b : Rational) (ha : IsWhole a) (hb : IsWhole b) where
  pub add-whole : add_q a b ≡ whole (a.num +ℤ b.num)
  unfolding add_q
  add-whole =
      ap₂ add_q ha hb
      ∙ ap (λ (z : ℤ). lowest z (pos 1)) (solveℤ (a.num ∷ b.num ∷ []) (λ a b. a ⊗ 𝟙 ⊕ b ⊗ 𝟙 ≐ a ⊕ b) tt)
      ∙ lowest-whole (a.num +ℤ b.num)

  pub mul-whole : mul_q a b ≡ whole (a.num *ℤ b.num)
  unfolding mul_q
  mul-whole = ap₂ mul_q ha hb ∙ lowest-whole (a.num *ℤ b.num)

pub neg-whole : (a : Rational) → IsWhole a → neg_q a ≡ whole (neg_ℤ a.num)
unfolding neg_q
neg-whole a h = ap neg_q h

pub is_whole : {q : Rational} {z : ℤ} → q ≡ whole z → IsWhole q
is_whole e = e ∙ ap (λ (q : Rational). whole q.num) (sym e)

module _ (m : ℕ) where
  abbrev pub numberₘ : Rational → (residues m).carrier
  numberₘ q = residue m q.num

  pub zero_number : (a : Rational) → IsWhole a → is_zero a ≡ true → numberₘ a ≡ residue m (pos 0)
  unfolding is_zero
  zero_number a h e = ap (residue m) (eq_z-eq a.num (pos 0) e)

  abbrev pub wholes : Valuation (residues m)
  wholes = record {
    number = numberₘ;
    Good = IsWhole;
    good-add = λ a b ha hb. is_whole (add-whole a b ha hb);
    good-mul = λ a b ha hb. is_whole (mul-whole a b ha hb);
    good-neg = λ a ha. is_whole (neg-whole a ha);
    good-whole = λ z. refl;
    number-add = λ a b ha hb. ap numberₘ (add-whole a b ha hb) ∙ residue-add m a.num b.num;
    number-mul = λ a b ha hb. ap numberₘ (mul-whole a b ha hb) ∙ residue-mul m a.num b.num;
    number-neg = λ a ha. ap numberₘ (neg-whole a ha) ∙ residue-neg m a.num;
    number-whole = λ z. refl;
    number-zero = zero_number;
  }
