-- A type whose operations satisfy the laws of a ring up to an equivalence, and respect it, makes a ring: its
-- quotient (`quotient_ring`). Every law is proved at representatives, where it is the given one; there the
-- operations compute (`unfolding addᶜ`), so that the class of a sum is the sum of the classes by `refl`.
--     RingUpTo       what is asked
--     by_one, by_two       a proposition on classes is shown at representatives
use mathlib.Core.Path.{◌≡◌}
use mathlib.Core.Quot.{Quot, mk, sound, lift, Quot-set, ind}
use lib.IntN.{ℤ, pos, ◌+ℤ◌, ◌*ℤ◌}
use Rattle.numbers.proofs.Ring.{Ring}

-- The laws have the names of the ring's; `◌~◌` stands where the ring has equality.
pub record RingUpTo (A : Type 0) (◌~◌ : A → A → Type 0) : Type 0 where
  pub add : A → A → A
  pub mul : A → A → A
  pub neg : A → A
  pub ι : ℤ → A
  pub same : (a : A) → ◌~◌ a a
  pub add_resp : (a a' b b' : A) → ◌~◌ a a' → ◌~◌ b b' → ◌~◌ (add a b) (add a' b')
  pub mul_resp : (a a' b b' : A) → ◌~◌ a a' → ◌~◌ b b' → ◌~◌ (mul a b) (mul a' b')
  pub neg_resp : (a a' : A) → ◌~◌ a a' → ◌~◌ (neg a) (neg a')
  pub add_assoc : (a b c : A) → ◌~◌ (add (add a b) c) (add a (add b c))
  pub add_comm : (a b : A) → ◌~◌ (add a b) (add b a)
  pub add-zero : (a : A) → ◌~◌ (add a (ι (pos 0))) a
  pub add-neg : (a : A) → ◌~◌ (add a (neg a)) (ι (pos 0))
  pub mul_assoc : (a b c : A) → ◌~◌ (mul (mul a b) c) (mul a (mul b c))
  pub mul_comm : (a b : A) → ◌~◌ (mul a b) (mul b a)
  pub mul-one : (a : A) → ◌~◌ (mul a (ι (pos 1))) a
  pub add-mul : (a b c : A) → ◌~◌ (mul (add a b) c) (add (mul a c) (mul b c))
  pub ι-add : (x y : ℤ) → ◌~◌ (ι (x +ℤ y)) (add (ι x) (ι y))
  pub ι-mul : (x y : ℤ) → ◌~◌ (ι (x *ℤ y)) (mul (ι x) (ι y))

module _ {A : Type 0} (◌~◌ : A → A → Type 0) where
  abbrev Class : Type 0
  Class = Quot ◌~◌

  -- ---- an operation on classes from one on representatives

  abbrev lifted : (f : A → A) → ((a a' : A) → ◌~◌ a a' → ◌~◌ (f a) (f a')) → Class → Class
  lifted f h x = lift {r = ◌~◌} Quot-set (λ a. mk (f a)) (λ a a' e. sound (h a a' e)) x

  abbrev lifted₂ :
      (f : A → A → A) → ((a : A) → ◌~◌ a a) →
      ((a a' b b' : A) → ◌~◌ a a' → ◌~◌ b b' → ◌~◌ (f a b) (f a' b')) → Class → Class → Class
  lifted₂ f same h x y =
      lift {r = ◌~◌} Quot-set (λ a. at a y)
      (λ a a' e. ind {r = ◌~◌} (λ q. Quot-set (at a q) (at a' q)) (λ b. sound (h a a' b b e (same b))) y) x
    where
      at : A → Class → Class
      at a = lifted (f a) (λ b b' e. h a a b b' (same a) e)

  -- ---- a proposition on classes is shown at representatives

  pub by_one :
      {P : Class → Type 0} → ((x : Class) → IsProp (P x)) → ((a : A) → P (mk a)) → (x : Class) → P x
  by_one p h = ind {r = ◌~◌} p h

  pub by_two :
      {P : Class → Class → Type 0} → ((x y : Class) → IsProp (P x y)) →
      ((a b : A) → P (mk a) (mk b)) → (x y : Class) → P x y
  by_two {P} p h x y =
      by_one {P = λ x. P x y} (λ x. p x y) (λ a. by_one {P = P (mk a)} (p (mk a)) (h a) y) x

  by_three :
      {P : Class → Class → Class → Type 0} → ((x y z : Class) → IsProp (P x y z)) →
      ((a b c : A) → P (mk a) (mk b) (mk c)) → (x y z : Class) → P x y z
  by_three {P} p h x y z =
      by_one {P = λ x. P x y z} (λ x. p x y z) (λ a. by_two {P = P (mk a)} (p (mk a)) (h a) y z) x

module _ {A : Type 0} {◌~◌ : A → A → Type 0} (L : RingUpTo A ◌~◌) where
  unfoldable pub addᶜ : Quot ◌~◌ → Quot ◌~◌ → Quot ◌~◌
  addᶜ = lifted₂ ◌~◌ L.add L.same L.add_resp

  unfoldable pub mulᶜ : Quot ◌~◌ → Quot ◌~◌ → Quot ◌~◌
  mulᶜ = lifted₂ ◌~◌ L.mul L.same L.mul_resp

  unfoldable pub negᶜ : Quot ◌~◌ → Quot ◌~◌
  negᶜ = lifted ◌~◌ L.neg L.neg_resp

  unfoldable pub ιᶜ : ℤ → Quot ◌~◌
  ιᶜ z = mk (L.ι z)

  pub add_assocᶜ : (x y z : Quot ◌~◌) → addᶜ (addᶜ x y) z ≡ addᶜ x (addᶜ y z)
  unfolding addᶜ
  add_assocᶜ = by_three ◌~◌ (λ x y z. Quot-set _ _) (λ a b c. sound (L.add_assoc a b c))

  pub add_commᶜ : (x y : Quot ◌~◌) → addᶜ x y ≡ addᶜ y x
  unfolding addᶜ
  add_commᶜ = by_two ◌~◌ (λ x y. Quot-set _ _) (λ a b. sound (L.add_comm a b))

  pub add_zeroᶜ : (x : Quot ◌~◌) → addᶜ x (ιᶜ (pos 0)) ≡ x
  unfolding addᶜ ιᶜ
  add_zeroᶜ = by_one ◌~◌ (λ x. Quot-set _ _) (λ a. sound (L.add-zero a))

  pub add-negᶜ : (x : Quot ◌~◌) → addᶜ x (negᶜ x) ≡ ιᶜ (pos 0)
  unfolding addᶜ negᶜ ιᶜ
  add-negᶜ = by_one ◌~◌ (λ x. Quot-set _ _) (λ a. sound (L.add-neg a))

  pub mul_assocᶜ : (x y z : Quot ◌~◌) → mulᶜ (mulᶜ x y) z ≡ mulᶜ x (mulᶜ y z)
  unfolding mulᶜ
  mul_assocᶜ = by_three ◌~◌ (λ x y z. Quot-set _ _) (λ a b c. sound (L.mul_assoc a b c))

  pub mul_commᶜ : (x y : Quot ◌~◌) → mulᶜ x y ≡ mulᶜ y x
  unfolding mulᶜ
  mul_commᶜ = by_two ◌~◌ (λ x y. Quot-set _ _) (λ a b. sound (L.mul_comm a b))

  pub mul_oneᶜ : (x : Quot ◌~◌) → mulᶜ x (ιᶜ (pos 1)) ≡ x
  unfolding mulᶜ ιᶜ
  mul_oneᶜ = by_one ◌~◌ (λ x. Quot-set _ _) (λ a. sound (L.mul-one a))

  pub add-mulᶜ : (x y z : Quot ◌~◌) → mulᶜ (addᶜ x y) z ≡ addᶜ (mulᶜ x z) (mulᶜ y z)
  unfolding addᶜ mulᶜ
  add-mulᶜ = by_three ◌~◌ (λ x y z. Quot-set _ _) (λ a b c. sound (L.add-mul a b c))

  pub ι-addᶜ : (x y : ℤ) → ιᶜ (x +ℤ y) ≡ addᶜ (ιᶜ x) (ιᶜ y)
  unfolding addᶜ ιᶜ
  ι-addᶜ x y = sound (L.ι-add x y)

  pub ι-mulᶜ : (x y : ℤ) → ιᶜ (x *ℤ y) ≡ mulᶜ (ιᶜ x) (ιᶜ y)
  unfolding mulᶜ ιᶜ
  ι-mulᶜ x y = sound (L.ι-mul x y)

  abbrev pub quotient_ring : Ring
  quotient_ring = record {
    carrier = Quot ◌~◌;
    add = addᶜ;
    mul = mulᶜ;
    neg = negᶜ;
    ι = ιᶜ;
    add_assoc = add_assocᶜ;
    add_comm = add_commᶜ;
    add-zero = add_zeroᶜ;
    add-neg = add-negᶜ;
    mul_assoc = mul_assocᶜ;
    mul_comm = mul_commᶜ;
    mul-one = mul_oneᶜ;
    add-mul = add-mulᶜ;
    ι-add = ι-addᶜ;
    ι-mul = ι-mulᶜ;
  }
