-- One literal in the work area: what each step leaves of the areas, and what its answer says of the definition.
use Rattle.index_map.specs.Memory.Answers.{comb_with}
use Rattle.index_map.specs.Memory.Answers.{Has}
use mathlib.Core.Path.{◌≡◌, refl, ap, ap₂, ◌∙◌}
use mathlib.Core.List.{[]}
use Prim.Native.Nat.{ℕ}
use Rattle.numbers.specs.Rational.{Rational}
use Rattle.numbers.specs.Bytes.{Bytes}
use Rattle.index_map.specs.Memory.StoredMaps as maps
use Rattle.rules.specs.Refusal.{Result}
use Rattle.std.specs.Prelude.{Ok, Err}
use Rattle.rules.specs.declared.refusal.Refusal.{Refusal}
use Rattle.rules.specs.Limits.{limited}
use Rattle.rules.proofs.Results.{next, ends}
use Rattle.linear_comb.specs.LinearComb.{LinearComb, mul}
use Rattle.process_disequality.specs.ProcessDisequality.{strengthened, scalar, weakened}
use Rattle.linear_comb.specs.Memory.WorkArea.{Sum, comb_of, area_of, with_area, OnlyArea, Area, Apart, KeptSum}
use Rattle.linear_comb.specs.Memory.WorkArea.{Combines}
use Rattle.index_map.specs.Memory.Entries.{slots, stored, blanked, Held, Kept}
use Rattle.process_disequality.specs.Memory.ProcessSteps.{scaled_of, ScaledLeft}
use Rattle.index_map.proofs.NumberedKeys.{length-blanked}
use Rattle.linear_comb.proofs.Areas.{empty-length, area-length}
use Rattle.linear_comb.proofs.AreaSteps.{blanked-empty, kept-sum, sum_comb, given-only, emptied-held}
use Rattle.linear_comb.proofs.AreaSteps.{emptied-only, Both, both-then, in_first, in_second, both-apart, both_read}

-- ---- refuse

-- areas 0 and 1 emptied, one after the other
pub emptied-both :
    {w x y : Bytes} (n m : ℕ) → Apart 0 1 w → x ≡ with_area 0 (blanked n (area_of 0 w)) w →
    y ≡ with_area 1 (blanked m (area_of 1 x)) x →
    y ≡ with_area 1 (blanked m (area_of 1 w)) (with_area 0 (blanked n (area_of 0 w)) w)
emptied-both {w} n m a e f =
    let long = length-blanked n (area_of 0 w) ∙ area-length a.first in
    cc (in_first a (given-only a.first (blanked n (area_of 0 w)) long e)).second

-- ---- scaled

module _ (b w : Bytes) (l o : ℕ) (s : Sum) (a : Rational) (k : KeptSum b (area_of 1 w) s) where
  abbrev Before : Result (ℕ × LinearComb)
  Before = strengthened (limited l) o (comb_of b (area_of 1 w) s) a

  abbrev After : Result (ℕ × LinearComb)
  After = scaled_of (limited l) o (comb_of b (area_of 1 w) s) a

  -- the strengthening is refused
  pub unstrengthened :
      {r : Refusal} {w' : Bytes} → Area 1 w → Before ≡ Err r → w' ≡ with_area 1 (blanked s.len (area_of 1 w)) w →
      ScaledLeft b w w' (Err r) After
  unfolding scaled_of
  unstrengthened area h f =
      record {
        map = [];
        held = emptied-held area k.kept f;
        only = emptied-only area k.kept f;
        is = (ends _ h, refl);
      }

  module _
      {w' : Bytes} {p : ℕ} {t : Sum} {q : Rational}
      (h : (Before ≡ Ok (p, comb_with t k.kept.map)) × Has t k.kept.map) (is-scalar : q ≡ scalar p a)
      (only : OnlyArea 1 w w') where
    abbrev Sums : Result Sum → Type 0
    Sums r = KeptSum b (area_of 1 w) t → Combines b (area_of 1 w') r (mul (limited l) (comb_of b (area_of 1 w) t) q)

    multiplied :
        {r : Result Sum} → Sums r →
        Combines b (area_of 1 w') r (mul (limited l) (comb_with t k.kept.map) (scalar p a))
    multiplied sums = rw (← sum_comb k.kept.held h.1, ← is-scalar) (sums (kept-sum k.kept.held h.1))

    pub unscaled : {r : Refusal} → Sums (Err r) → ScaledLeft b w w' (Err r) After
    unfolding scaled_of
    unscaled sums =
        let m = multiplied sums in
        record { map = m.map; held = m.held; only = only; is = (next _ h.0 ∙ ends _ m.is.0, m.is.1) }

    pub scaled-left : {u : Sum} {v : ℕ} → Sums (Ok u) → v ≡ weakened p a → ScaledLeft b w w' (Ok (v, u)) After
    unfolding scaled_of
    scaled-left sums f =
        let m = multiplied sums in
        record {
          map = m.map;
          held = m.held;
          only = only;
          is = (next _ h.0 ∙ next _ m.is.0 ∙ rw f, m.is.1);
        }

-- ---- areas 0 and 1 together

-- area 1 is empty, and then area 0 is emptied
pub emptied-after :
    {b w w₁ : Bytes} {n : ℕ} {w' : Bytes} (a : Apart 0 1 w) → OnlyArea 1 w w₁ → Held b (area_of 1 w₁) [] →
    Kept b (area_of 0 w) n →
    w' ≡ with_area 1 (blanked 0 (area_of 1 w₁)) (with_area 0 (blanked n (area_of 0 w₁)) w₁) →
    Both 0 1 w (stored slots []) (stored slots []) w'
unfolding maps.blanked
emptied-after {w₁ = w₁} {n} a only h k f =
    let one = in_second a only in
    let none = empty-length in
    both-then one
    (both_read (both-apart a one) none none
    (f
    ∙ ap₂ (λ y x. with_area 1 y (with_area 0 x w₁)) h.bytes (ap (blanked n) one.first ∙ blanked-empty k)))
