-- `insert` in an area's bytes, by the laws of FoundEntries: what each case of the code leaves is what the definition
-- says.
use Rattle.std.specs.Prelude.{Ok, Err}
use mathlib.Core.Path.{◌≡◌, refl, ◌∙◌}
use mathlib.Core.Bool.{true, false}
use mathlib.Core.List.{[], ◌∷◌, ◌++◌}
use Prim.Native.Nat.{ℕ, suc, ◌+◌, ◌≤◌, ◌<◌}
use native.Mathlib.Omega.{arith}
use borrow.Author.Tests.{le-leb, lt-leb}
use lib.ListN.{length, length-append}
use Rattle.numbers.specs.Rational.{Rational, Proper, is_zero}
use Rattle.numbers.specs.Bytes.{Bytes}
use Rattle.rules.specs.Refusal.{Result, ◌>>=◌, assert}
use Rattle.rules.specs.declared.refusal.Refusal.TheVariants.{PolynomialSize}
use Rattle.rules.specs.Limits.{limited}
use Rattle.index_map.specs.IndexMap.{Map, insert}
use Rattle.polynomial.specs.Polynomial.{Monomial, monomials}
use Rattle.polynomial.specs.Memory.PolynomialArea.{places, polynomials, keys_of, place, put_entry, blanked}
use Rattle.polynomial.specs.Memory.PolynomialArea.{Key, Good, Held, Inserts}
use Rattle.index_map.specs.Memory.StoredMaps.{Added}
use Rattle.index_map.proofs.FoundEntries.{Sought, new-held, cleared, nowhere, added}
use Rattle.index_map.proofs.KeyedMaps.{insert-zero, insert-missing}
use Rattle.index_map.proofs.MapEnds.{all_map}
use Rattle.polynomial.proofs.StoredMonomials.{bytes-copied, goods, good_new, same_key, entry_key}

-- the answer r, where v is left of the bytes w
abbrev pub Entering : Bytes → ℕ → Bytes → Rational → Bytes → Result ℕ → Type 0
Entering w n key value v r =
    (b : Bytes) (p : Map Monomial) (m : Monomial) → Held b w p → n ≡ length p → Key b key m → (l : ℕ) →
    Inserts b v r (insert monomials (limited l) p m value)

module _ (w : Bytes) (n : ℕ) (key : Bytes) (value : Rational) where
  pub nothing-entered : is_zero value ≡ true → Entering w n key value w (Ok n)
  nothing-entered z b p x held size is_key l =
      record { map = p; held = held; is = (insert-zero monomials x (limited l) value p z, size) }

  module _ (some-value : is_zero value ≡ false) (k : ℕ) (at : k ≡ place (keys_of w n) key) where
    sought :
        {b : Bytes} {p : Map Monomial} {x : Monomial} → Held b w p → n ≡ length p → Key b key x →
        Sought polynomials monomials places Good b w n key x k p
    sought held size is_key =
        record {
          held = held;
          many = size;
          agree = all_map (λ e h. same_key (entry_key h) is_key) held.good.entries;
          at = at;
        }

    module _ (past : n ≤ k) where
      pub no_room : places ≤ n → (v : Bytes) → v ≡ blanked n w → Entering w n key value v (Err PolynomialSize)
      unfolding ◌>>=◌ assert
      no_room full v left b p x held size is_key l =
          let over : 64 < suc (length p) = omega arith in
          let lacks = nowhere bytes-copied (goods b) (sought held size is_key) past in
          record {
            map = [];
            held = cleared bytes-copied (goods b) p held size v left;
            is = (
              insert-missing monomials x (limited l) value some-value lacks ∙ rw (lt-leb (suc (length p)) 64 over),
              refl,
            );
          }

      pub new-entered :
          Proper value → n < places → (v : Bytes) → v ≡ put_entry w n key value →
          Entering w n key value v (Ok (n + 1))
      unfolding ◌>>=◌ assert
      new-entered proper room v left b p x held size is_key l =
          let under : suc (length p) ≤ 64 = omega arith in
          let lacks = nowhere bytes-copied (goods b) (sought held size is_key) past in
          let good = good_new p held.good (omega arith) x is_key value proper in
          record {
            map = p ++ (x, value) ∷ [];
            held = new-held bytes-copied (goods b) p held size is_key.bytes value good v left;
            is = (
              insert-missing monomials x (limited l) value some-value lacks ∙ rw (le-leb (suc (length p)) 64 under),
              omega (arith, length-append p ((x, value) ∷ [])),
            );
          }

    pub sum-entered :
        k < n → {v : Bytes} {r : Result ℕ} → Added polynomials w n k key value r v → Entering w n key value v r
    sum-entered below a b p x held size is_key l =
        added bytes-copied (goods b) (sought held size is_key) value some-value below l a
