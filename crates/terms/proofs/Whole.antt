-- Pairs that are whole numbers: sums, differences and products of them are whole, and so are those of lists of values.
use mathlib.Core.Path.{refl}
use mathlib.Core.List.{List, [], ◌∷◌}
use lib.IntN.{ℤ, pos, neg_ℤ, ◌+ℤ◌, ◌*ℤ◌}
use Rattle.numbers.specs.Pair.{Pair, whole_p, add_p, mul_p, neg_p, ◌≈◌}
use Rattle.terms.specs.Smtlib.{Meant, as_pair, fold_left, reduce, minus, sub_p}
use Rattle.numbers.proofs.Integers.{◌⊕◌, ◌⊗◌, 𝟙, ◌≐◌, solveℤ}
use Rattle.numbers.proofs.Pairs.{≈_trans, add_resp, mul_resp, neg_resp}

abbrev pub Whole : Pair → Type 0
Whole p = (z : ℤ) × (p ≈ whole_p z)

pub whole-add : (a b : Pair) → Whole a → Whole b → Whole (add_p a b)
whole-add a b (x, h) (y, k) = (
  x +ℤ y,
  ≈_trans (add_p a b) (add_p (whole_p x) (whole_p y)) (whole_p (x +ℤ y)) (add_resp a (whole_p x) b (whole_p y) h k)
      (solveℤ (x ∷ y ∷ []) (λ x y. (x ⊗ 𝟙 ⊕ y ⊗ 𝟙) ⊗ 𝟙 ≐ (x ⊕ y) ⊗ 𝟙) tt),
)

pub whole-mul : (a b : Pair) → Whole a → Whole b → Whole (mul_p a b)
whole-mul a b (x, h) (y, k) = (
  x *ℤ y,
  ≈_trans (mul_p a b) (mul_p (whole_p x) (whole_p y)) (whole_p (x *ℤ y)) (mul_resp a (whole_p x) b (whole_p y) h k) refl,
)

pub whole_neg : (a : Pair) → Whole a → Whole (neg_p a)
whole_neg a (x, h) = (neg_ℤ x, neg_resp a (whole_p x) h)

whole_sub : (a b : Pair) → Whole a → Whole b → Whole (sub_p a b)
whole_sub a b h k = whole-add a (neg_p b) h (whole_neg b k)

-- ---- lists of values

abbrev pub AllWhole : List Meant → Type 0
AllWhole [] = Unit {0}
AllWhole (v ∷ vs) = Whole (as_pair v) × AllWhole vs

module _ (f : Pair → Pair → Pair) (keeps : (a b : Pair) → Whole a → Whole b → Whole (f a b)) where
  whole-fold : (a : Pair) → Whole a → (vs : List Meant) → AllWhole vs → Whole (fold_left f a vs)
  unfolding fold_left
  whole-fold a h [] k = h
  whole-fold a h (v ∷ vs) (m, k) = whole-fold (f a (as_pair v)) (keeps a (as_pair v) h m) vs k

  whole-reduce : (vs : List Meant) → AllWhole vs → Whole (reduce f vs)
  whole-reduce [] k = (pos 0, refl)
  whole-reduce (v ∷ vs) (m, k) = whole-fold (as_pair v) m vs k

pub whole_sum : (vs : List Meant) → AllWhole vs → Whole (reduce add_p vs)
whole_sum = whole-reduce add_p whole-add

pub whole-product : (vs : List Meant) → AllWhole vs → Whole (reduce mul_p vs)
whole-product = whole-reduce mul_p whole-mul

pub whole-minus : (vs : List Meant) → AllWhole vs → Whole (minus vs)
whole-minus [] k = (pos 0, refl)
whole-minus (v ∷ []) (m, k) = whole_neg (as_pair v) m
whole-minus (v ∷ w ∷ vs) (m, k) = whole-fold sub_p whole_sub (as_pair v) m (w ∷ vs) k
