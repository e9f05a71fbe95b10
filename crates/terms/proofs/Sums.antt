-- Sums, differences and products of lists of values, as equations of rational numbers. The meaning of an
-- operator folds from the left (specs/Smtlib); here a sum is the first value and the sum of the rest, as a
-- walk of the arguments goes.
--     meant, sum_of, difference_of, product_of       the numbers
--     mk-sum, mk-opposite, mk-difference, mk-product       what `reduce` and `minus` are
use mathlib.Core.Path.{◌≡◌, ◌∙◌, ap}
use mathlib.Core.List.{List, [], ◌∷◌}
use lib.IntN.{pos}
use Rattle.numbers.specs.Pair.{Pair, add_p, mul_p, neg_p}
use Rattle.terms.specs.Smtlib.{Meant, as_pair, fold_left, reduce, minus, sub_p}
use Rattle.numbers.proofs.Ring.{◌⊕◌, ◌⊖◌, ◌⊗◌, neg, 𝟘, 𝟙, ◌≐◌, solve}
use Rattle.numbers.proofs.Quotient.{ℚ, mk, sum, product, opposite, ι, ℚring, mk-add, mk-mul, mk-neg, mk-whole}

abbrev pub meant : Meant → ℚ
meant v = mk (as_pair v)

unfoldable pub sum_of : List Meant → ℚ
sum_of [] = ι (pos 0)
sum_of (v ∷ vs) = sum (meant v) (sum_of vs)

unfoldable pub product_of : List Meant → ℚ
product_of [] = ι (pos 1)
product_of (v ∷ vs) = product (meant v) (product_of vs)

-- the first less the others
abbrev pub difference_of : List Meant → ℚ
difference_of [] = ι (pos 0)
difference_of (v ∷ vs) = sum (meant v) (opposite (sum_of vs))

-- ---- folds from the left

mk-sub : (a b : Pair) → mk (sub_p a b) ≡ sum (mk a) (opposite (mk b))
mk-sub a b = mk-add a (neg_p b) ∙ ap (sum (mk a)) (mk-neg b)

-- f is h among the numbers, and s gathers values as h takes them one after the other
module _ (f : Pair → Pair → Pair) (h : ℚ → ℚ → ℚ) (s : List Meant → ℚ) (at-pairs : (a b : Pair) → mk (f a b) ≡ h (mk a) (mk b)) (at_none : (x : ℚ) → x ≡ h x (s [])) (at_one : (x : ℚ) (v : Meant) (vs : List Meant) → h (h x (meant v)) (s vs) ≡ h x (s (v ∷ vs))) where
  fold_is : (a : Pair) (vs : List Meant) → mk (fold_left f a vs) ≡ h (mk a) (s vs)
  unfolding fold_left
  fold_is a [] = at_none (mk a)
  fold_is a (v ∷ vs) =
      fold_is (f a (as_pair v)) vs ∙ ap (λ (x : ℚ). h x (s vs)) (at-pairs a (as_pair v)) ∙ at_one (mk a) v vs

fold-sum : (a : Pair) (vs : List Meant) → mk (fold_left add_p a vs) ≡ sum (mk a) (sum_of vs)
unfolding sum_of
fold-sum =
    fold_is add_p sum sum_of mk-add (λ x. solve ℚring (x ∷ []) (λ x. x ≐ x ⊕ 𝟘) tt)
    (λ x v vs. solve ℚring (x ∷ meant v ∷ sum_of vs ∷ []) (λ x v s. x ⊕ v ⊕ s ≐ x ⊕ (v ⊕ s)) tt)

fold-difference : (a : Pair) (vs : List Meant) → mk (fold_left sub_p a vs) ≡ sum (mk a) (opposite (sum_of vs))
unfolding sum_of
fold-difference =
    fold_is sub_p (λ x y. sum x (opposite y)) sum_of mk-sub (λ x. solve ℚring (x ∷ []) (λ x. x ≐ x ⊖ 𝟘) tt)
    (λ x v vs. solve ℚring (x ∷ meant v ∷ sum_of vs ∷ []) (λ x v s. x ⊖ v ⊖ s ≐ x ⊖ (v ⊕ s)) tt)

fold-product : (a : Pair) (vs : List Meant) → mk (fold_left mul_p a vs) ≡ product (mk a) (product_of vs)
unfolding product_of
fold-product =
    fold_is mul_p product product_of mk-mul (λ x. solve ℚring (x ∷ []) (λ x. x ≐ x ⊗ 𝟙) tt)
    (λ x v vs. solve ℚring (x ∷ meant v ∷ product_of vs ∷ []) (λ x v s. x ⊗ v ⊗ s ≐ x ⊗ (v ⊗ s)) tt)

-- ---- the operators

pub mk-sum : (vs : List Meant) → mk (reduce add_p vs) ≡ sum_of vs
unfolding sum_of
mk-sum [] = mk-whole (pos 0)
mk-sum (v ∷ vs) = fold-sum (as_pair v) vs

pub mk-product : (v : Meant) (vs : List Meant) → mk (reduce mul_p (v ∷ vs)) ≡ product_of (v ∷ vs)
unfolding product_of
mk-product v vs = fold-product (as_pair v) vs

pub mk-opposite : (v : Meant) → mk (minus (v ∷ [])) ≡ opposite (sum_of (v ∷ []))
unfolding sum_of
mk-opposite v = mk-neg (as_pair v) ∙ solve ℚring (meant v ∷ []) (λ v. neg v ≐ neg (v ⊕ 𝟘)) tt

pub mk-difference : (v w : Meant) (vs : List Meant) → mk (minus (v ∷ w ∷ vs)) ≡ difference_of (v ∷ w ∷ vs)
mk-difference v w vs = fold-difference (as_pair v) (w ∷ vs)
