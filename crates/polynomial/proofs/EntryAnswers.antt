-- The answers of `enter_product`, `mul_entry` and `enter_scaled`, one for each way they return. Each reads entry k of
-- an area of the stack (`ReadAt`).
use Rattle.std.specs.Prelude.{Some, None, Ok, Err}
use mathlib.Core.Path.{◌≡◌, refl, sym, ◌∙◌, ap, subst}
use mathlib.Core.List.{List, []}
use Prim.Native.Nat.{ℕ, ◌+◌, ◌*◌, ◌≤◌, ◌<◌}
use native.Mathlib.Omega.{arith}
use lib.ListN.{length, get_or, set}
use Rattle.numbers.specs.Rational.{Rational, Makes, mul_q, checked}
use Rattle.numbers.specs.Bytes.{Bytes, number_at}
use Rattle.rules.specs.Refusal.{Result}
use Rattle.rules.specs.declared.refusal.Refusal.{Refusal}
use Rattle.rules.specs.declared.refusal.Refusal.TheVariants.{NumberRange, PolynomialSize}
use Rattle.index_map.specs.IndexMap.{Map}
use Rattle.polynomial.specs.Polynomial.{Monomial, joined}
use Rattle.polynomial.specs.Memory.PolynomialArea.{key_at, Key, part_at, Stacked, InsertsAt, no_entry, mul_entry}
use Rattle.polynomial.proofs.StackAreas.{stack-part}
use Rattle.rules.proofs.Results.{ends}
use Rattle.polynomial.proofs.ProductEntries.{ClearSays, InsertSays, ProductSays, EachSays, EntrySays, ScaledSays}
use Rattle.polynomial.proofs.ProductEntries.{key-there, value_there, scaled_out, scaled_value, product-long}
use Rattle.polynomial.proofs.ProductEntries.{product_out, product_value, entry_out, entry_value}

-- the code knows the answer as that of an equal result
entered-as :
    {b w : Bytes} {ms : List (Map Monomial)} {j : ℕ} {r : Result ℕ} {d d' : Result (Map Monomial)} → d' ≡ d →
    InsertsAt b w ms j r d → InsertsAt b w ms j r d'
entered-as {b} {w} {ms} {j} {r} e made = subst (InsertsAt b w ms j r) (sym e) made

entered_none :
    {b w : Bytes} {ms : List (Map Monomial)} {j : ℕ} {r : Refusal} {d : Result (Map Monomial)} → d ≡ Err r →
    Stacked b w (set ms j []) → InsertsAt b w ms j (Err r) d
entered_none e stack = record { map = []; held = stack; is = (e, refl) }

-- ---- what is read of entry k of area j: its monomial's bytes x and its coefficient c

pub record ReadAt (w : Bytes) (j k : ℕ) (x : Bytes) (c : Rational) : Type 0 where
  pub key : x ≡ key_at (part_at j w) k
  pub value : c ≡ number_at (part_at j w) (25 * k + 17)

pub read_at :
    (w : Bytes) (j k : ℕ) {area area' x : Bytes} {c : Rational} → area ≡ part_at j w → x ≡ key_at area k →
    area' ≡ part_at j w → Makes c (number_at area' (25 * k + 17)) → ReadAt w j k x c
read_at w j k is key is' value =
    record { key = key ∙ ap (λ z. key_at z k) is; value = value.is ∙ ap (λ z. number_at z (25 * k + 17)) is' }

module _
    {w : Bytes} {j k : ℕ} {x : Bytes} {c : Rational} (read : ReadAt w j k x c) {b : Bytes} {ms : List (Map Monomial)}
    (stack : Stacked b w ms) (inside : j < length ms) (h : k < length (get_or ms j [])) where
  key-read : Key b x (get_or (get_or ms j []) k no_entry).0
  key-read = rw read.key (key-there (get_or ms j []) (stack-part stack j inside) k h)

  value_read : c ≡ (get_or (get_or ms j []) k no_entry).1
  value_read = read.value ∙ value_there (get_or ms j []) (stack-part stack j inside) k h

-- ---- enter_scaled

module _
    {w : Bytes} {j k : ℕ} {x : Bytes} {c : Rational} (read : ReadAt w j k x c) (q : Rational) {t m : ℕ}
    {w' : Bytes} where
  pub enter-scaled_out :
      checked (mul_q c q) ≡ None → ClearSays w t m w' → ScaledSays w j k q t m w' (Err NumberRange)
  enter-scaled_out out clear b ms stack from into apart h size l =
      entered_none (scaled_out l _ q (value_read read stack from h) _ out) (clear b ms stack into size)

  pub enter-scaled-value :
      {v : Rational} → checked (mul_q c q) ≡ Some v → {r : Result ℕ} → InsertSays w t m x v w' r →
      ScaledSays w j k q t m w' r
  enter-scaled-value {v} value insert b ms stack from into apart h size l =
      entered-as (scaled_value l _ q (value_read read stack from h) _ v value)
      (insert b ms _ stack into size (key-read read stack from h) l)

-- ---- enter_product: a monomial x of the left and its coefficient c

module _
    {w : Bytes} {k : ℕ} {other : Bytes} {d : Rational} (read : ReadAt w 1 k other d) (x : Bytes) (c : Rational) {m : ℕ}
    {w' : Bytes} where
  pub product_too_long :
      8 < get_or x 0 0 + get_or other 0 0 → ClearSays w 2 m w' → ProductSays w x c k m w' (Err PolynomialSize)
  product_too_long long clear b p q s y stack h size key l =
      entered_none
      (product-long l key c _ (key-read read stack (omega arith) h) (value_read read stack (omega arith) h) s long)
      (clear b _ stack (omega arith) size)

  module _ (short : get_or x 0 0 + get_or other 0 0 ≤ 8) where
    pub product-outside :
        checked (mul_q c d) ≡ None → ClearSays w 2 m w' → ProductSays w x c k m w' (Err NumberRange)
    product-outside out clear b p q s y stack h size key l =
        entered_none
        (product_out l key c _ (key-read read stack (omega arith) h) (value_read read stack (omega arith) h)
        s short out)
        (clear b _ stack (omega arith) size)

    pub product-entered :
        {v : Rational} → checked (mul_q c d) ≡ Some v → {copy joint : Bytes} → copy ≡ x →
        ((b : Bytes) (y z : Monomial) → Key b copy y → Key b other z → Key b joint (joined y z)) → {r : Result ℕ} →
        InsertSays w 2 m joint v w' r → ProductSays w x c k m w' r
    product-entered {v} value same join insert b p q s y stack h size key l =
        let there : Key b other (get_or q k no_entry).0 = key-read read stack (omega arith) h in
        entered-as (product_value l key c _ there (value_read read stack (omega arith) h) s short v value)
        (insert b _ _ stack (omega arith) size (join b y _ (rw same key) there) l)

-- ---- mul_entry: entry k of the left against each of the right, which leaves the bytes w1, then against the constant

module _
    {w : Bytes} {k : ℕ} {x : Bytes} {c : Rational} (read : ReadAt w 0 k x c) {n m : ℕ} (constant : Rational)
    {w1 : Bytes} where
  pub entry-refused : {r : Refusal} → EachSays w x c n m w1 (Err r) → EntrySays w k n constant m w1 (Err r)
  unfolding mul_entry
  entry-refused each b p q s stack h right size l =
      let made = each b p q s _ stack right size (key-read read stack (omega arith) h) l in
      record {
        map = made.map;
        held = made.held;
        is = (ends _ (rw (value_read read stack (omega arith) h) at made.is.0), made.is.1);
      }

  module _ {len : ℕ} (each : EachSays w x c n m w1 (Ok len)) {w2 : Bytes} where
    pub entry-outside :
        checked (mul_q c constant) ≡ None → ClearSays w1 2 len w2 →
        EntrySays w k n constant m w2 (Err NumberRange)
    entry-outside out clear b p q s stack h right size l =
        let made = each b p q s _ stack right size (key-read read stack (omega arith) h) l in
        let value = value_read read stack (omega arith) h in
        entered_none (entry_out l _ q constant value s made.is.0 out)
        (clear b _ made.held (omega arith) made.is.1)

    pub entry-entered :
        {v : Rational} → checked (mul_q c constant) ≡ Some v → {r2 : Result ℕ} → InsertSays w1 2 len x v w2 r2 →
        EntrySays w k n constant m w2 r2
    entry-entered {v} value insert b p q s stack h right size l =
        let key : Key b x (get_or p k no_entry).0 = key-read read stack (omega arith) h in
        let made = each b p q s _ stack right size key l in
        let number = value_read read stack (omega arith) h in
        let entered = insert b _ _ made.held (omega arith) made.is.1 key l in
        record {
          map = entered.map;
          held = entered.held;
          is = rw (entry_value l _ q constant number s made.is.0 v value) entered.is;
        }
