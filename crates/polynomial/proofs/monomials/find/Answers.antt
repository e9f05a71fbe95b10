-- The first of n entries that has the key stands at the key's place.
use mathlib.Core.Path.{◌≡◌, refl, sym, ap, ◌∙◌}
use mathlib.Core.Bool.{true, false}
use Prim.Native.Nat.{ℕ, zero, suc, ◌+◌, ◌*◌, ◌≤◌, ◌<◌}
use native.Mathlib.Omega.{arith}
use lib.ListN.{take, drop}
use lib.Seq.{drop-drop}
use Rattle.std.proofs.Common.{Option, Some, None, rules, tests}
use Rattle.std.specs.Option.{MatchOption}
use Rattle.std.proofs.lemmas.Iterator.{first_from_Range}
use Rattle.numbers.specs.Bytes.{Bytes, same_bytes}
use Rattle.index_map.specs.Memory.StoredMaps as maps
use Rattle.polynomial.specs.Memory.PolynomialArea.{key_at, keys_of, place}
use Rattle.polynomial.proofs.monomials.find.Goals as goal

next : (w : Bytes) (j : ℕ) → key_at w (suc j) ≡ key_at (drop 25 w) j
unfolding key_at
next w j =
    let start : 25 * suc j ≡ 25 + 25 * j = omega arith in
    ap (λ k. take 17 (drop k w)) start ∙ ap (take 17) (sym (drop-drop (25 * j) 25 w))

module _ (key : Bytes) where
  first :
      (w : Bytes) (n i : ℕ) → i ≤ n → ((j : ℕ) → 0 ≤ j → j < i → same_bytes (key_at w j) key ≡ false) →
      (i < n → same_bytes (key_at w i) key ≡ true) → i ≡ place (keys_of w n) key
  unfolding key_at maps.keys_of maps.place
  first w zero zero most before here = refl
  first w zero (suc i) most before here = absurd (omega arith)
  first w (suc n) zero most before here = rw (here (omega arith), maps.place)
  first w (suc n) (suc i) most before here =
      rw (before 0 (omega arith) (omega arith), maps.place)
      (ap suc (first (drop 25 w) n i (omega arith)
      (λ j _ h. ap (λ k. same_bytes k key) (sym (next w j)) ∙ before (suc j) (omega arith) (omega arith))
      (λ h. ap (λ k. same_bytes k key) (sym (next w i)) ∙ here (omega arith))))

  found :
      (w : Bytes) (n : ℕ) (r : Option ℕ) →
      MatchOption r ((k : ℕ) → 0 ≤ k → k < n → same_bytes (key_at w k) key ≡ false)
      (λ i. (0 ≤ i) × (i < n) × (same_bytes (key_at w i) key ≡ true) ×
      ((k : ℕ) → 0 ≤ k → k < i → same_bytes (key_at w k) key ≡ false)) →
      MatchOption r (n ≡ place (keys_of w n) key) (λ i. (i < n) × (i ≡ place (keys_of w n) key))
  found w n None none = first w n n (omega arith) none (λ h. absurd (omega arith))
  found w n (Some i) f = (f.1, first w n i (omega arith) f.3 (λ h. f.2))

pub returns : goal.returns
returns c =
    let w = c.args.entries.now in
    let x = c.args.key.now in
    found x w c.args.n c.find.result
    (first_from_Range _ _ _ _ (λ i. same_bytes (key_at w i) x ≡ true) (λ i. same_bytes (key_at w i) x ≡ false)
    c.find.ensures.ran
    (λ i q k. search (rules, tests)) (λ i q k. search (rules, tests)))
