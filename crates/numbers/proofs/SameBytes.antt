-- When two parts have the same bytes: `same_bytes` says so exactly of equal ones, and it is what `==` of slices finds.
use mathlib.Core.Path.{◌≡◌, refl, ap, ap₂, ◌∙◌}
use mathlib.Core.Bool.{Bool, true, false, ◌&&◌}
use mathlib.Core.List.{[], ◌∷◌}
use borrow.Author.Tests.{eq-eqb, eqb-true}
use lib.Dec.{eqb}
use lib.Pointwise.{pointwise}
use Rattle.numbers.specs.Bytes.{Bytes, same_bytes}

pub same_bytes-refl : (r : Bytes) → same_bytes r r ≡ true
unfolding same_bytes
same_bytes-refl [] = refl
same_bytes-refl (x ∷ r) = rw (eq-eqb x x refl, same_bytes) (same_bytes-refl r)

pub same_bytes-true : (r s : Bytes) → same_bytes r s ≡ true → r ≡ s
unfolding same_bytes
same_bytes-true [] [] t = refl
same_bytes-true [] (y ∷ s) t = cc
same_bytes-true (x ∷ r) [] t = cc
same_bytes-true (x ∷ r) (y ∷ s) t = go (eqb x y) refl t (same_bytes-true r s)
  where
    go :
        (u : Bool) → eqb x y ≡ u → elim u [ true ↦ same_bytes r s | false ↦ false ] ≡ true →
        (same_bytes r s ≡ true → r ≡ s) → (x ∷ r) ≡ (y ∷ s)
    go true e t rest = ap₂ ◌∷◌ (eqb-true x y e) (rest t)
    go false e t rest = cc

pub same_bytes-false : (r s : Bytes) → (r ≡ s → ⊥) → same_bytes r s ≡ false
same_bytes-false r s differ = go (same_bytes r s) refl
  where
    go : (t : Bool) → same_bytes r s ≡ t → t ≡ false
    go true e = absurd (differ (same_bytes-true r s e))
    go false e = refl

-- `==` of two slices asks the same of each pair
and_elim : (u t : Bool) → (u && t) ≡ elim u [ true ↦ t | false ↦ false ]
and_elim true t = refl
and_elim false t = refl

pub same_bytes-pointwise : (r s : Bytes) → pointwise eqb r s ≡ same_bytes r s
unfolding same_bytes
same_bytes-pointwise [] [] = refl
same_bytes-pointwise [] (y ∷ s) = refl
same_bytes-pointwise (x ∷ r) [] = refl
same_bytes-pointwise (x ∷ r) (y ∷ s) =
    ap (λ (t : Bool). eqb x y && t) (same_bytes-pointwise r s) ∙ and_elim (eqb x y) (same_bytes r s)
