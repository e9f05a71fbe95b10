-- The answers of `mul`, one for each way it returns: the products of the left and the right go to area 2, then those
-- of the right and the left's constant, then the constants are multiplied; at last area 2 goes to area 0, or all is
-- emptied.
use Rattle.std.specs.Prelude.{Some, None, Ok, Err}
use mathlib.Core.Path.{◌≡◌, refl}
use mathlib.Core.List.{List, [], ◌∷◌}
use Prim.Native.Nat.{ℕ}
use native.Mathlib.Omega.{arith}
use lib.ListN.{length}
use Rattle.numbers.specs.Rational.{Rational, Proper, mul_q, checked}
use Rattle.numbers.specs.Bytes.{Bytes}
use Rattle.rules.specs.Refusal.{Result, ◌>>=◌}
use Rattle.rules.specs.declared.refusal.Refusal.{Refusal}
use Rattle.rules.specs.declared.refusal.Refusal.TheVariants.{NumberRange}
use Rattle.rules.specs.Limits.{limited}
use Rattle.index_map.specs.IndexMap.{Map, combination}
use Rattle.polynomial.specs.Polynomial.{Monomial, Polynomial, mul_left, insert_scaled, mul}
use Rattle.polynomial.specs.Memory.PolynomialArea.{StackHas, Stacked, InsertsAt, Poly, Combines}
use Rattle.index_map.specs.Memory.Answers.{Has, comb_with}
use Rattle.index_map.proofs.CheckedNumbers.{times-value, times_out}
use Rattle.polynomial.proofs.StackAreas.{stack-more, stack-less}
use Rattle.rules.proofs.Results.{ends}
use Rattle.polynomial.proofs.ProductEntries.{ClearSays, LeftSays, AllScaledSays}

-- ---- what the functions promise of an answer r and of the bytes w' that they leave

abbrev pub RefuseSays : Bytes → ℕ → ℕ → Bytes → Type 0
RefuseSays w n m w' =
    (b : Bytes) (p q : Map Monomial) (ms : List (Map Monomial)) → Stacked b w (p ∷ q ∷ ms) → n ≡ length p →
    m ≡ length q → Stacked b w' ([] ∷ [] ∷ ms)

abbrev pub MoveSays : Bytes → Bytes → Type 0
MoveSays w w' =
    (b : Bytes) (p q s : Map Monomial) → Stacked b w (p ∷ q ∷ s ∷ []) → Stacked b w' (s ∷ q ∷ s ∷ [])

abbrev pub MulSays : Bytes → Poly → Poly → Bytes → Result Poly → Type 0
MulSays w p q w' r =
    (b : Bytes) (u v : Map Monomial) → Stacked b w (u ∷ v ∷ []) → Has p u → Has q v → (l : ℕ) →
    Combines b w' r (mul (limited l) (comb_with p u) (comb_with q v))

-- ---- the definition's answer

module _ (l : ℕ) (p q : Polynomial) where
  left-refused : {r : Refusal} → mul_left (limited l) p.entries q [] ≡ Err r → mul (limited l) p q ≡ Err r
  unfolding mul
  left-refused e = ends _ e

  module _ {m1 : Map Monomial} (left : mul_left (limited l) p.entries q [] ≡ Ok m1) where
    scaled-refused :
        {r : Refusal} → insert_scaled (limited l) q.entries p.constant m1 ≡ Err r → mul (limited l) p q ≡ Err r
    unfolding mul ◌>>=◌
    scaled-refused e = rw left (ends _ e)

    module _ {m2 : Map Monomial} (scaled : insert_scaled (limited l) q.entries p.constant m1 ≡ Ok m2) where
      constant_out :
          checked (mul_q p.constant q.constant) ≡ None → mul (limited l) p q ≡ Err NumberRange
      unfolding mul ◌>>=◌
      constant_out out = rw (left, scaled, times_out l p.constant q.constant out)

      product_is :
          {v : Rational} → checked (mul_q p.constant q.constant) ≡ Some v →
          mul (limited l) p q ≡ Ok (combination m2 v)
      unfolding mul ◌>>=◌
      product_is {v} value = rw (left, scaled, times-value l p.constant q.constant v value)

-- the two areas above are empty
lowest : {b w : Bytes} {m : Map Monomial} → Stacked b w (m ∷ [] ∷ [] ∷ []) → Stacked b w (m ∷ [])
lowest {m = m} stack = stack-less (m ∷ []) (stack-less (m ∷ [] ∷ []) stack)

-- all areas are empty
none_made :
    {b w : Bytes} {r : Result Poly} {reason : Refusal} {d : Result Polynomial} → r ≡ Err reason → d ≡ Err reason →
    Stacked b w ([] ∷ [] ∷ [] ∷ []) → Combines b w r d
none_made is e stack = rw is (record { map = []; held = lowest stack; is = (e, refl) })

-- ---- the answers

-- the map of area 2 after `mul_left`, and the answer r of `insert_scaled` over it
record Scaled (p q : Poly) (b w : Bytes) (u v : Map Monomial) (l : ℕ) (r : Result ℕ) : Type 0 where
  pub first : Map Monomial
  pub is_first : mul_left (limited l) u (comb_with q v) [] ≡ Ok first
  pub done : InsertsAt b w (u ∷ v ∷ first ∷ []) 2 r (insert_scaled (limited l) v p.constant first)

module _
    {w : Bytes} (high : StackHas 2 w) {p q : Poly} {w1 : Bytes} where
  after-left :
      {r1 : Result ℕ} → LeftSays w p.len q.len q.constant w1 r1 → {b : Bytes} {u v : Map Monomial} →
      Stacked b w (u ∷ v ∷ []) → Has p u → Has q v → (l : ℕ) →
      InsertsAt b w1 (u ∷ v ∷ [] ∷ []) 2 r1 (mul_left (limited l) u (comb_with q v) [])
  after-left left {b} {u} {v} stack hp hq l = left b u v (stack-more stack high) hp.size hq.size l

  pub mul-left-refused :
      {reason : Refusal} → LeftSays w p.len q.len q.constant w1 (Err reason) → {w2 : Bytes} {r : Result Poly} →
      r ≡ Err reason → RefuseSays w1 p.len q.len w2 → MulSays w p q w2 r
  mul-left-refused left is refuse b u v stack hp hq l =
      let done = after-left left stack hp hq l in
      none_made is (left-refused l (comb_with p u) (comb_with q v) done.is.0)
      (refuse b u v _ (rw done.is.1 at done.held) hp.size hq.size)

  module _ {len : ℕ} (left : LeftSays w p.len q.len q.constant w1 (Ok len)) {w2 : Bytes} where
    after-scaled :
        {r2 : Result ℕ} → AllScaledSays w1 1 q.len p.constant 2 len w2 r2 → {b : Bytes} {u v : Map Monomial} →
        Stacked b w (u ∷ v ∷ []) → Has p u → Has q v → (l : ℕ) → Scaled p q b w2 u v l r2
    after-scaled all {b} stack hp hq l =
        let done = after-left left stack hp hq l in
        record {
          first = done.map;
          is_first = done.is.0;
          done =
              all b _ done.held (omega arith) (omega arith) (λ e. absurd (omega (arith, e)))
              hq.size done.is.1 l;
        }

    pub insert-scaled-refused :
        {reason : Refusal} → AllScaledSays w1 1 q.len p.constant 2 len w2 (Err reason) → {w3 : Bytes}
        {r : Result Poly} → r ≡ Err reason → RefuseSays w2 p.len q.len w3 → MulSays w p q w3 r
    insert-scaled-refused all is refuse b u v stack hp hq l =
        let after = after-scaled all stack hp hq l in
        none_made is (scaled-refused l (comb_with p u) (comb_with q v) after.is_first after.done.is.0)
        (refuse b u v _ (rw after.done.is.1 at after.done.held) hp.size hq.size)

    module _ {k : ℕ} (all : AllScaledSays w1 1 q.len p.constant 2 len w2 (Ok k)) where
      pub constant-outside :
          checked (mul_q p.constant q.constant) ≡ None → {w3 : Bytes} → ClearSays w2 2 k w3 →
          {w4 : Bytes} {r : Result Poly} → r ≡ Err NumberRange → RefuseSays w3 p.len q.len w4 → MulSays w p q w4 r
      constant-outside out clear is refuse b u v stack hp hq l =
          let after = after-scaled all stack hp hq l in
          let no = constant_out l (comb_with p u) (comb_with q v) after.is_first after.done.is.0 out in
          none_made is no
          (refuse b u v _ (clear b _ after.done.held (omega arith) after.done.is.1) hp.size hq.size)

      pub product-made :
          {z : Rational} → checked (mul_q p.constant q.constant) ≡ Some z → Proper z →
          {w3 : Bytes} → MoveSays w2 w3 → {w4 : Bytes} → ClearSays w3 1 q.len w4 → {w5 : Bytes} →
          ClearSays w4 2 k w5 → MulSays w p q w5 (Ok (record { len = k; constant = z }))
      product-made value proper move clear clear' b u v stack hp hq l =
          let after = after-scaled all stack hp hq l in
          let down = move b _ _ _ after.done.held in
          let one = clear b _ down (omega arith) hq.size in
          record {
            map = after.done.map;
            held = lowest (clear' b _ one (omega arith) after.done.is.1);
            is = (
              product_is l (comb_with p u) (comb_with q v) after.is_first after.done.is.0 value,
              record { size = after.done.is.1; proper = proper },
            );
          }
