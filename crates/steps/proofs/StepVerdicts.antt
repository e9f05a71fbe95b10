-- What an answer that is made of the definition's answer says of it: refused_as, accepted-as.
use mathlib.Core.Path.{◌≡◌, sym}
use Prim.Native.Nat.{ℕ}
use native.Mathlib.Omega.{arith}
use Rattle.rules.specs.Refusal.{◌>>=◌}
use Rattle.rules.proofs.Yields.{through}
use Rattle.std.specs.Prelude.{Result, Ok, Err}

module _ {E A B : Type 0} (f : A → B) (d : Result A E) where
  pub refused_as : {r : E} → Err r ≡ (d >>= λ a. Ok (f a)) → d ≡ Err r
  unfolding ◌>>=◌
  refused_as {r} e = go d e
    where
      go : (x : Result A E) → Err r ≡ (x >>= λ a. Ok (f a)) → x ≡ Err r
      go (Ok a) h = let z : ◌≡◌ {A = ℕ} 0 1 = cc in absurd (omega arith)
      go (Err y) h = let same : y ≡ r = cc in rw same

  pub accepted-as : {v : B} → Ok v ≡ (d >>= λ a. Ok (f a)) → (a : A) × ((d ≡ Ok a) × (v ≡ f a))
  accepted-as {v} e = let t = through d _ v (sym e) in (t.middle, (t.first, cc))
