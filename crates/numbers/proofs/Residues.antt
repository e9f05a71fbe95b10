-- The whole numbers modulo m as a ring, for every m: the quotient of ℤ by congruence (`residues`). A number
-- and its remainder are one residue, and residues are equal exactly where the numbers are congruent.
--     residue, residue-add, residue-mul, residue-neg       of a number, a sum, a product and an opposite
--     residue-eq, cong_of_residue-eq       equal residues and congruence are the same
--     residue-modulo       modulo z m has the residue of z
use mathlib.Core.Path.{◌≡◌, refl, sym, ap}
use mathlib.Core.Quot.{sound, lift}
use Prim.Native.Nat.{ℕ, ◌<◌}
use native.Mathlib.Nat.{ℕ_set}
use lib.IntN.{ℤ, pos, neg_ℤ, ◌+ℤ◌, ◌*ℤ◌, +ℤ_assoc, +ℤ_comm, +ℤ_idr, +ℤ_invr, *ℤ_comm}
use Rattle.numbers.specs.Rational.{modulo}
use Rattle.numbers.proofs.Ring.{Ring}
use Rattle.numbers.proofs.Integers.{*ℤ_assoc, *ℤ_distr, *ℤ_idr}
use Rattle.numbers.proofs.Modulo.{Cong, cong_refl, cong_of_eq, cong_add, cong_mul, cong_neg, modulo_cong}
use Rattle.numbers.proofs.Modulo.{modulo-eq_of_cong, cong_of_modulo-eq}
use Rattle.numbers.proofs.QuotientRings.{RingUpTo, quotient_ring, negᶜ, ιᶜ}

abbrev integers_up_to : (m : ℕ) → RingUpTo ℤ (Cong m)
integers_up_to m = record {
  add = ◌+ℤ◌;
  mul = ◌*ℤ◌;
  neg = neg_ℤ;
  ι = λ z. z;
  same = cong_refl;
  add_resp = λ a a' b b'. cong_add;
  mul_resp = λ a a' b b'. cong_mul;
  neg_resp = λ a a'. cong_neg;
  add_assoc = λ a b c. cong_of_eq (+ℤ_assoc a b c);
  add_comm = λ a b. cong_of_eq (+ℤ_comm a b);
  add-zero = λ a. cong_of_eq (+ℤ_idr a);
  add-neg = λ a. cong_of_eq (+ℤ_invr a);
  mul_assoc = λ a b c. cong_of_eq (*ℤ_assoc a b c);
  mul_comm = λ a b. cong_of_eq (*ℤ_comm a b);
  mul-one = λ a. cong_of_eq (*ℤ_idr a);
  add-mul = λ a b c. cong_of_eq (*ℤ_distr a b c);
  ι-add = λ x y. cong_refl (x +ℤ y);
  ι-mul = λ x y. cong_refl (x *ℤ y);
}

abbrev pub residues : ℕ → Ring
residues m = quotient_ring (integers_up_to m)

module _ (m : ℕ) where
  abbrev pub residue : ℤ → (residues m).carrier
  residue z = (residues m).ι z

  pub residue-add : (x y : ℤ) → residue (x +ℤ y) ≡ (residues m).add (residue x) (residue y)
  residue-add = (residues m).ι-add

  pub residue-mul : (x y : ℤ) → residue (x *ℤ y) ≡ (residues m).mul (residue x) (residue y)
  residue-mul = (residues m).ι-mul

  pub residue-neg : (x : ℤ) → residue (neg_ℤ x) ≡ (residues m).neg (residue x)
  unfolding ιᶜ negᶜ
  residue-neg x = refl

  pub residue-eq : {x y : ℤ} → Cong m x y → residue x ≡ residue y
  unfolding ιᶜ
  residue-eq h = sound h

  module _ (p : 0 < m) where
    pub residue-modulo : (z : ℤ) → residue (pos (modulo z m)) ≡ residue z
    residue-modulo z = sym (residue-eq (modulo_cong m p z))

    -- the remainder is a function of the residue
    remainder : (residues m).carrier → ℕ
    remainder x = lift {r = Cong m} ℕ_set (λ z. modulo z m) (λ a b h. modulo-eq_of_cong m p h) x

    pub cong_of_residue-eq : {x y : ℤ} → residue x ≡ residue y → Cong m x y
    unfolding ιᶜ remainder
    cong_of_residue-eq {x} {y} e = cong_of_modulo-eq m p (ap remainder e)
