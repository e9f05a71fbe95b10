-- The place of a key among those of a map.
use mathlib.Core.Path.{◌≡◌, refl, ap, ◌∙◌}
use mathlib.Core.Bool.{true, false}
use mathlib.Core.List.{List, [], ◌∷◌, ◌++◌}
use Prim.Native.Nat.{suc}
use lib.ListN.{length}
use Rattle.numbers.specs.Rational.{Rational}
use Rattle.index_map.specs.IndexMap.{Map, Keys}
use Rattle.index_map.specs.Memory.StoredMaps.{Encoding, place, All, none, more}
use Rattle.index_map.proofs.KeyedMaps.{Lacks, nothing, another, same_key}

module _ {K C : Type 0} (enc : Encoding K C) (c x : C) (l : List C) where
  place_here : enc.same x c ≡ true → place enc (x ∷ l) c ≡ 0
  unfolding place
  place_here same = rw (same, place)

  place-past : enc.same x c ≡ false → place enc (x ∷ l) c ≡ suc (place enc l c)
  unfolding place
  place-past other = rw (other, place)

-- ---- among the keys of a map

unfoldable pub codes : {K C : Type 0} → Encoding K C → Map K → List C
codes enc [] = []
codes enc (e ∷ m) = enc.code e.0 ∷ codes enc m

-- c tells an entry's key from others as the key x does
abbrev pub Agrees : {K C : Type 0} → Encoding K C → Keys K → C → K → K × Rational → Type 0
Agrees enc keyed c x e = enc.same (enc.code e.0) c ≡ keyed.same e.0 x

module _ {K C : Type 0} (enc : Encoding K C) (keyed : Keys K) (c : C) (x : K) where
  pub place-missing :
      {m : Map K} → Lacks (same_key keyed x) m → All (Agrees enc keyed c x) m → place enc (codes enc m) c ≡ length m
  unfolding place codes
  place-missing nothing none = refl
  place-missing (another {e} {m} other rest) (more told agree) =
      place-past enc c (enc.code e.0) (codes enc m) (told ∙ other) ∙ ap suc (place-missing rest agree)

  pub place_found :
      {p : Map K} → Lacks (same_key keyed x) p → (e : K × Rational) (s : Map K) → keyed.same e.0 x ≡ true →
      All (Agrees enc keyed c x) (p ++ e ∷ s) → place enc (codes enc (p ++ e ∷ s)) c ≡ length p
  unfolding codes
  place_found nothing e s is (more told agree) = place_here enc c (enc.code e.0) (codes enc s) (told ∙ is)
  place_found (another {e = f} {m = p} other rest) e s is (more told agree) =
      place-past enc c (enc.code f.0) (codes enc (p ++ e ∷ s)) (told ∙ other)
      ∙ ap suc (place_found rest e s is agree)
