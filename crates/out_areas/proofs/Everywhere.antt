-- Laws of `Every`: from one property to another, of two lists one behind the other, and of the element at a place.
use mathlib.Core.List.{List, [], ◌∷◌, ◌++◌}
use Prim.Native.Nat.{ℕ, zero, suc, ◌<◌}
use native.Mathlib.Omega.{arith}
use lib.ListN.{length, get_or}
use Rattle.runs.specs.Run.{end, also, Every}

pub every-weaker :
    {X : Type 0} {Q R : X → Type 0} → ((x : X) → Q x → R x) → (xs : List X) → Every Q xs → Every R xs
every-weaker f [] end = end
every-weaker f (x ∷ xs) (also h hs) = also (f x h) (every-weaker f xs hs)

-- what two facts say of each element
pub every-both :
    {X : Type 0} {P Q R : X → Type 0} → ((x : X) → P x → Q x → R x) → (xs : List X) → Every P xs → Every Q xs →
    Every R xs
every-both f [] end end = end
every-both f (x ∷ xs) (also p ps) (also q qs) = also (f x p q) (every-both f xs ps qs)

pub every_append :
    {X : Type 0} {R : X → Type 0} (xs ys : List X) → Every R xs → Every R ys → Every R (xs ++ ys)
every_append [] ys end h = h
every_append (x ∷ xs) ys (also g gs) h = also g (every_append xs ys gs h)

-- at any place, if it holds of the default too; and at a place inside
pub every_get_d :
    {X : Type 0} {R : X → Type 0} (xs : List X) (d : X) → R d → Every R xs → (i : ℕ) → R (get_or xs i d)
every_get_d [] d h e i = h
every_get_d (x ∷ xs) d h (also g e) zero = g
every_get_d (x ∷ xs) d h (also g e) (suc i) = every_get_d xs d h e i

pub every_at :
    {X : Type 0} {R : X → Type 0} (xs : List X) (d : X) → Every R xs → (i : ℕ) → i < length xs → R (get_or xs i d)
every_at [] d h i l = absurd (omega (arith, l))
every_at (x ∷ xs) d (also g h) zero l = g
every_at (x ∷ xs) d (also g h) (suc i) l = every_at xs d h i (omega (arith, l))
