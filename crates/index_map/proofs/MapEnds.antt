-- Maps of any keys, cut at an entry: the length, what holds of each entry, and the last entry, which a removal moves to
-- the front of what stood behind the removed one.
use mathlib.Core.Path.{◌≡◌, refl, ap, ◌∙◌}
use mathlib.Core.List.{[], ◌∷◌, ◌++◌}
use Prim.Native.Nat.{suc}
use native.Mathlib.Omega.{arith}
use lib.ListN.{length, length-append}
use Rattle.numbers.specs.Rational.{Rational}
use Rattle.index_map.specs.IndexMap.{Map, last_first, swap_remove}
use Rattle.index_map.specs.Memory.StoredMaps.{All, none, more}

module _ {K : Type 0} where
  pub length-middle : (e : K × Rational) (p s : Map K) → length (p ++ e ∷ s) ≡ suc (length (p ++ s))
  length-middle e [] s = refl
  length-middle e (f ∷ p) s = ap suc (length-middle e p s)

  -- a map has no entry, or a last one
  pub data Ends : Map K → Type 0 where
    nothing : Ends []
    last : (s : Map K) (g : K × Rational) → Ends (s ++ g ∷ [])

  ends_more : (e : K × Rational) {s : Map K} → Ends s → Ends (e ∷ s)
  ends_more e nothing = last [] e
  ends_more e (last s g) = last (e ∷ s) g

  pub ends : (s : Map K) → Ends s
  ends [] = nothing
  ends (e ∷ s) = ends_more e (ends s)

  last_first-last : (e : K × Rational) (s : Map K) (g : K × Rational) → last_first e (s ++ g ∷ []) ≡ g ∷ e ∷ s
  unfolding last_first
  last_first-last e [] g = refl
  last_first-last e (f ∷ s) g = rw (last_first-last f s g)

  pub swap_remove-last : (s : Map K) (g : K × Rational) → swap_remove (s ++ g ∷ []) ≡ g ∷ s
  unfolding swap_remove last_first
  swap_remove-last [] g = refl
  swap_remove-last (e ∷ s) g = last_first-last e s g

  length-ends : {s : Map K} → Ends s → length (swap_remove s) ≡ length s
  unfolding swap_remove
  length-ends nothing = refl
  length-ends (last s g) = ap length (swap_remove-last s g) ∙ omega (arith, length-append s (g ∷ []))

  pub length-swap_remove : (s : Map K) → length (swap_remove s) ≡ length s
  length-swap_remove s = length-ends (ends s)

-- ---- what holds of each entry

module _ {K : Type 0} {P : K × Rational → Type 0} where
  pub all_join : (p : Map K) {s : Map K} → All P p → All P s → All P (p ++ s)
  all_join [] none h = h
  all_join (e ∷ p) (more g r) h = more g (all_join p r h)

  -- the entries before one, it, and those behind it
  pub all_cut : (p : Map K) (e : K × Rational) (s : Map K) → All P (p ++ e ∷ s) → All P p × (P e × All P s)
  all_cut [] e s (more g r) = (none, (g, r))
  all_cut (f ∷ p) e s (more g r) = let cut = all_cut p e s r in (more g cut.0, cut.1)

  pub all_of : ((e : K × Rational) → P e) → (m : Map K) → All P m
  all_of f [] = none
  all_of f (e ∷ m) = more (f e) (all_of f m)

  pub all_map : {Q : K × Rational → Type 0} → ((e : K × Rational) → P e → Q e) → {m : Map K} → All P m → All Q m
  all_map f none = none
  all_map f (more {e} g r) = more (f e g) (all_map f r)
