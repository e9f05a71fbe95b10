-- Maps of any keys: a map has a key behind a front that lacks it, or lacks it (`look`), and that tells what `get` finds
-- in it and what an insertion makes of it.
use mathlib.Core.Path.{◌≡◌, refl, ap, ◌∙◌}
use mathlib.Core.Bool.{Bool, true, false}
use mathlib.Core.List.{[], ◌∷◌, ◌++◌}
use Rattle.std.specs.Prelude.{Some, None, Ok, Err}
use Prim.Native.Nat.{ℕ, suc, ◌+◌}
use native.Mathlib.Nat.{add-zero}
use native.Mathlib.Omega.{arith}
use lib.ListN.{length}
use Rattle.numbers.specs.Rational.{Rational, is_zero}
use Rattle.numbers.specs.Choice.{when◌then◌else◌}
use Rattle.terms.specs.Readers.{within}
use Rattle.rules.specs.Refusal.{Result, ◌>>=◌, assert}
use Rattle.rules.specs.declared.refusal.Refusal.TheVariants.{PolynomialSize}
use Rattle.rules.specs.Limits.{Limits, plus}
use Rattle.index_map.specs.IndexMap.{Map, Keys, get, enter, insert, swap_remove}

module _ {K : Type 0} (is : K → Bool) where
  -- ---- where a key stands that is the one asked for

  pub data Lacks : Map K → Type 0 where
    nothing : Lacks []
    another : {e : K × Rational} {m : Map K} → is e.0 ≡ false → Lacks m → Lacks (e ∷ m)

  pub data Look : Map K → Type 0 where
    found : (p : Map K) (e : K × Rational) (s : Map K) → is e.0 ≡ true → Lacks p → Look (p ++ e ∷ s)
    missing : {m : Map K} → Lacks m → Look m

  look-past : {e : K × Rational} → is e.0 ≡ false → {m : Map K} → Look m → Look (e ∷ m)
  look-past {e} other (found p f s here lacks) = found (e ∷ p) f s here (another other lacks)
  look-past other (missing lacks) = missing (another other lacks)

  pub look : (m : Map K) → Look m
  look [] = missing nothing
  look (e ∷ m) = go (is e.0) refl (look m)
    where
      go : (t : Bool) → is e.0 ≡ t → Look m → Look (e ∷ m)
      go true h l = found [] e m h nothing
      go false h l = look-past {e = e} h l

module _ {K : Type 0} (keys : Keys K) (key : K) where
  abbrev pub same_key : K → Bool
  same_key k = keys.same k key

  -- ---- get

  pub get-missing : {m : Map K} → Lacks same_key m → get keys m key ≡ None
  unfolding get
  get-missing nothing = refl
  get-missing (another other rest) = rw (other, get) (get-missing rest)

  pub get-found :
      {p : Map K} → Lacks same_key p → (e : K × Rational) (s : Map K) → keys.same e.0 key ≡ true →
      get keys (p ++ e ∷ s) key ≡ Some e.1
  unfolding get
  get-found nothing e s is = rw (is, get)
  get-found (another other rest) e s is = rw (other, get) (get-found rest e s is)

  -- ---- insert

  -- what an insertion makes of p ++ e ∷ s, by the sum of e's value and the new one
  abbrev pub entered : Map K → K × Rational → Map K → Result Rational → Result (Map K)
  entered p e s sum = sum >>= λ q. Ok (p ++ (when is_zero q then swap_remove s else (e.0, q) ∷ s))

  -- an entry more, where n of them are within the limit
  abbrev pub appended : Limits → ℕ → Map K → Rational → Result (Map K)
  appended l n m value = assert (within (keys.most l) n) PolynomialSize >>= λ _. Ok (m ++ (key, value) ∷ [])

  entered_cons :
      (f : K × Rational) (p : Map K) (e : K × Rational) (s : Map K) (sum : Result Rational) →
      (entered p e s sum >>= λ m. Ok (f ∷ m)) ≡ entered (f ∷ p) e s sum
  unfolding ◌>>=◌
  entered_cons f p e s (Ok q) = refl
  entered_cons f p e s (Err r) = refl

  appended_cons :
      (f : K × Rational) (m : Map K) (value : Rational) (t : Bool) →
      (assert t PolynomialSize >>= (λ _. Ok (m ++ (key, value) ∷ [])) >>= λ r. Ok (f ∷ r))
      ≡ (assert t PolynomialSize >>= λ _. Ok (f ∷ m ++ (key, value) ∷ []))
  unfolding ◌>>=◌ assert
  appended_cons f m value true = refl
  appended_cons f m value false = refl

  module _ (l : Limits) (value : Rational) where
    enter-missing :
        (n : ℕ) {m : Map K} → Lacks same_key m → enter keys l n m key value ≡ appended l (suc (n + length m)) m value
    unfolding enter
    enter-missing n nothing = rw (add-zero n)
    enter-missing n (another {e} {m} other rest) =
        let size : suc n + length m ≡ n + suc (length m) = omega arith in
        rw (other, enter)
        (ap (λ (r : Result (Map K)). r >>= λ x. Ok (e ∷ x)) (enter-missing (suc n) rest)
        ∙ appended_cons e m value (within (keys.most l) (suc (suc n + length m)))
        ∙ ap (λ (i : ℕ). appended l (suc i) (e ∷ m) value) size)

    enter-found :
        (n : ℕ) {p : Map K} → Lacks same_key p → (e : K × Rational) (s : Map K) → keys.same e.0 key ≡ true →
        enter keys l n (p ++ e ∷ s) key value ≡ entered p e s (plus l e.1 value)
    unfolding enter
    enter-found n nothing e s is = rw (is, enter)
    enter-found n (another {e = f} {m = p} other rest) e s is =
        rw (other, enter)
        (ap (λ (r : Result (Map K)). r >>= λ m. Ok (f ∷ m)) (enter-found (suc n) rest e s is)
        ∙ entered_cons f p e s (plus l e.1 value))

    pub insert-zero : (m : Map K) → is_zero value ≡ true → insert keys l m key value ≡ Ok m
    unfolding insert
    insert-zero m z = rw (z, insert)

    module _ (some-value : is_zero value ≡ false) where
      pub insert-missing :
          {m : Map K} → Lacks same_key m → insert keys l m key value ≡ appended l (suc (length m)) m value
      unfolding insert
      insert-missing {m} lacks =
          let size : 0 + length m ≡ length m = omega arith in
          rw (some-value, insert) (enter-missing 0 lacks ∙ ap (λ (i : ℕ). appended l (suc i) m value) size)

      pub insert-found :
          {p : Map K} → Lacks same_key p → (e : K × Rational) (s : Map K) → keys.same e.0 key ≡ true →
          insert keys l (p ++ e ∷ s) key value ≡ entered p e s (plus l e.1 value)
      unfolding insert
      insert-found lacks e s is = rw (some-value, insert) (enter-found 0 lacks e s is)
