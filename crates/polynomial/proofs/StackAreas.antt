-- A stack of areas of polynomials in lent bytes: its areas one by one, and what lies above an area. A stack is its
-- lowest area and, above it, a stack (`stack-lowest`, `stack_above`, `stack_cons`); the laws go by that. Last, what a
-- function leaves that is lent an area.
use mathlib.Core.Path.{◌≡◌, sym, ap, subst, ◌∙◌}
use mathlib.Core.List.{List, [], ◌∷◌, ◌++◌, append_assoc}
use Prim.Native.Nat.{ℕ, zero, suc, ◌+◌, ◌*◌, ◌-◌, ◌≤◌, ◌<◌}
use native.Mathlib.Omega.{arith}
use lib.ListN.{length, get_or, set, take, drop, replicate, length-append, length-drop, take-append-drop}
use lib.Seq.{take_at, drop_at, drop-drop, take-add}
use Rattle.numbers.specs.Bytes.{Bytes}
use Rattle.rules.specs.Refusal.{Result}
use Rattle.index_map.specs.IndexMap.{Map}
use Rattle.index_map.specs.Memory.StoredMaps as maps
use Rattle.polynomial.specs.Polynomial.{Monomial}
use Rattle.polynomial.specs.Memory.PolynomialArea.{places, stored, blanked, Held, Inserts, stack_bytes, AllGood}
use Rattle.polynomial.specs.Memory.PolynomialArea.{part_at, Stacked, InsertsAt}
use Rattle.index_map.proofs.Zeros.{zeros, zeros-join}
use Rattle.polynomial.proofs.StoredMonomials.{goods, stored-length, held-length, clear_all}

-- w with other bytes in area j
abbrev pub with_part : ℕ → Bytes → Bytes → Bytes
with_part j y w = take (1600 * j) w ++ (y ++ drop 1600 (drop (1600 * j) w))

-- ---- bytes in parts of k

rest-length : (x v : Bytes) (k : ℕ) → length x ≡ k → length v ≡ length (x ++ v) - k
rest-length x v k long = simp length-append (omega arith)

-- part j + 1 is part j of what stands behind part 0
module _ (k j : ℕ) (w : Bytes) where
  next_start : k * suc j ≡ k + k * j
  next_start = omega arith

  drop-next : drop (k * suc j) w ≡ drop (k * j) (drop k w)
  drop-next = ap (λ n. drop n w) next_start ∙ sym (drop-drop (k * j) k w)

  take_next : take (k * suc j) w ≡ take k w ++ take (k * j) (drop k w)
  take_next = ap (λ n. take n w) next_start ∙ take-add k (k * j) w

  put_next :
      (y : Bytes) →
      take (k * suc j) w ++ (y ++ drop k (drop (k * suc j) w)) ≡
      take k w ++ (take (k * j) (drop k w) ++ (y ++ drop k (drop (k * j) (drop k w))))
  put_next y =
      ap (λ z. take (k * suc j) w ++ (y ++ drop k z)) drop-next
      ∙ ap (λ z. z ++ (y ++ drop k (drop (k * j) (drop k w)))) take_next
      ∙ append_assoc (take k w) (take (k * j) (drop k w)) (y ++ drop k (drop (k * j) (drop k w)))

-- ---- the lowest area and the stack above it

module _ {b w : Bytes} {m : Map Monomial} {ms : List (Map Monomial)} (t : Stacked b w (m ∷ ms)) where
  lowest-length : length (stored places m) ≡ 1600
  unfolding AllGood
  lowest-length = stored-length b m t.good.0

  lowest-bytes : take 1600 w ≡ stored places m
  unfolding stack_bytes
  lowest-bytes =
      ap (take 1600) t.bytes ∙ take_at (stored places m) (stack_bytes ms (length w - 1600)) 1600 lowest-length

  above_bytes : drop 1600 w ≡ stack_bytes ms (length w - 1600)
  unfolding stack_bytes
  above_bytes =
      ap (drop 1600) t.bytes ∙ drop_at (stored places m) (stack_bytes ms (length w - 1600)) 1600 lowest-length

  pub stack-lowest : Held b (take 1600 w) m
  unfolding AllGood
  stack-lowest = record { bytes = lowest-bytes; good = t.good.0 }

  pub stack_above : Stacked b (drop 1600 w) ms
  unfolding AllGood
  stack_above = record { bytes = above_bytes ∙ ap (stack_bytes ms) (sym (length-drop 1600 w)); good = t.good.1 }

  stack-length : length w ≡ 1600 + length (drop 1600 w)
  stack-length =
      sym (ap length (take-append-drop 1600 w)) ∙ length-append (take 1600 w) (drop 1600 w)
      ∙ ap (λ n. n + length (drop 1600 w)) (ap length lowest-bytes ∙ lowest-length)

pub stack_cons :
    {b x v : Bytes} {m : Map Monomial} {ms : List (Map Monomial)} → Held b x m → Stacked b v ms →
    Stacked b (x ++ v) (m ∷ ms)
unfolding stack_bytes AllGood
stack_cons {x = x} {v = v} {m = m} {ms = ms} h t =
    let long : length x ≡ 1600 = held-length h in
    record {
      bytes =
          ap (λ z. z ++ v) h.bytes
          ∙ ap (λ z. stored places m ++ z) (t.bytes ∙ ap (stack_bytes ms) (rest-length x v 1600 long));
      good = (h.good, t.good);
    }

-- other areas above the lowest
pub stack_on :
    {b w : Bytes} {m : Map Monomial} {ms : List (Map Monomial)} → Stacked b w (m ∷ ms) →
    {y : Bytes} {ns : List (Map Monomial)} → length y ≡ length (drop 1600 w) → Stacked b y ns →
    Stacked b (take 1600 w ++ y) (m ∷ ns)
stack_on t long u = stack_cons (stack-lowest t) u

-- ---- the areas one by one

pub stack-room : {b w : Bytes} {ms : List (Map Monomial)} → Stacked b w ms → 1600 * length ms ≤ length w
stack-room {ms = []} t = omega arith
stack-room {ms = m ∷ ms} t = omega (arith, stack-length t, stack-room (stack_above t))

pub stack-part :
    {b w : Bytes} {ms : List (Map Monomial)} → Stacked b w ms → (j : ℕ) → j < length ms →
    Held b (part_at j w) (get_or ms j [])
unfolding part_at
stack-part {ms = []} t j h = absurd (omega arith)
stack-part {ms = m ∷ ms} t zero h = stack-lowest t
stack-part {b} {w} {ms = m ∷ ms} t (suc j) h =
    subst (λ v. Held b (take 1600 v) (get_or ms j [])) (sym (drop-next 1600 j w))
    (stack-part (stack_above t) j (omega arith))

pub stack-put :
    {b w : Bytes} {ms : List (Map Monomial)} → Stacked b w ms → (j : ℕ) → j < length ms →
    {y : Bytes} {m : Map Monomial} → Held b y m → Stacked b (with_part j y w) (set ms j m)
stack-put {ms = []} t j h held = absurd (omega arith)
stack-put {ms = n ∷ ms} t zero h held = stack_cons held (stack_above t)
stack-put {b} {w} {ms = n ∷ ms} t (suc j) h {y} {m} held =
    subst (λ v. Stacked b v (n ∷ set ms j m)) (sym (put_next 1600 j w y))
    (stack_cons (stack-lowest t) (stack-put (stack_above t) j (omega arith) held))

-- ---- an empty area more, and one less

pub stack_none : {b w : Bytes} → w ≡ replicate (length w) 0 → Stacked b w []
unfolding stack_bytes AllGood
stack_none e = record { bytes = e; good = tt }

zeros-stack : (n : ℕ) → 1600 ≤ n → zeros n ≡ stack_bytes ([] ∷ []) n
unfolding stack_bytes maps.stored
zeros-stack n room = sym (zeros-join 1600 (n - 1600) n (omega arith))

pub stack-more :
    {b w : Bytes} {ms : List (Map Monomial)} → Stacked b w ms → 1600 * length ms + 1600 ≤ length w →
    Stacked b w (ms ++ [] ∷ [])
unfolding stack_bytes AllGood
stack-more {b} {w} {ms = []} t room =
    record { bytes = t.bytes ∙ zeros-stack (length w) (omega arith); good = ((goods b).empty, tt) }
stack-more {b} {w} {ms = m ∷ ms} t room =
    let less : 1600 * length ms + 1600 ≤ length (drop 1600 w) = omega (arith, stack-length t) in
    subst (λ v. Stacked b v (m ∷ (ms ++ [] ∷ []))) (take-append-drop 1600 w)
    (stack_cons (stack-lowest t) (stack-more (stack_above t) less))

pub stack-less : {b w : Bytes} (ms : List (Map Monomial)) → Stacked b w (ms ++ [] ∷ []) → Stacked b w ms
stack-less {w = w} [] t = stack_none (t.bytes ∙ sym (zeros-stack (length w) (omega (arith, stack-room t))))
stack-less {b} {w} (m ∷ ms) t =
    subst (λ v. Stacked b v (m ∷ ms)) (take-append-drop 1600 w)
    (stack_cons (stack-lowest t) (stack-less ms (stack_above t)))

-- ---- an area that is lent as the part between its two ends

abbrev lent_size : ℕ → ℕ
lent_size j = 1600 * j + 1600 - 1600 * j

lent-size : (j : ℕ) → lent_size j ≡ 1600
lent-size j = omega arith

pub lent-part : (j : ℕ) (w : Bytes) → take (lent_size j) (drop (1600 * j) w) ≡ part_at j w
unfolding part_at
lent-part j w = ap (λ k. take k (drop (1600 * j) w)) (lent-size j)

-- w with y, which came back
abbrev lent_back : ℕ → Bytes → Bytes → Bytes
lent_back j y w = take (1600 * j) w ++ (y ++ drop (lent_size j) (drop (1600 * j) w))

lent_back_lem : (j : ℕ) (y w : Bytes) → lent_back j y w ≡ with_part j y w
lent_back_lem j y w = ap (λ k. take (1600 * j) w ++ (y ++ drop k (drop (1600 * j) w))) (lent-size j)

module _ {b w : Bytes} {ms : List (Map Monomial)} (t : Stacked b w ms) {j : ℕ} (among : j < length ms) where
  pub lent-held : Held b (take (lent_size j) (drop (1600 * j) w)) (get_or ms j [])
  lent-held = rw (lent-part j w) (stack-part t j among)

  pub lent-put : {y : Bytes} {m : Map Monomial} → Held b y m → Stacked b (lent_back j y w) (set ms j m)
  lent-put {y} h = rw (lent_back_lem j y w) (stack-put t j among h)

  pub lent_clear :
      {y : Bytes} {n : ℕ} → n ≡ length (get_or ms j []) → y ≡ blanked n (take (lent_size j) (drop (1600 * j) w)) →
      Stacked b (lent_back j y w) (set ms j [])
  lent_clear {y} size e = lent-put {y = y} (rw (e, size) (clear_all (get_or ms j []) lent-held))

  pub lent-enter :
      {y : Bytes} {r : Result ℕ} {d : Result (Map Monomial)} → Inserts b y r d → InsertsAt b (lent_back j y w) ms j r d
  lent-enter e = record { map = e.map; held = lent-put e.held; is = e.is }
