-- The three areas of the work area: a function that is lent one of them changes no byte outside it. The laws are proved
-- of a part at any place. What is known of the areas after several changes goes by way of `Within`: no byte outside two
-- areas has changed; two such work areas are the same where these two areas are.
--     stored-length, empty-held       the bytes of an area
--     area-length, with_length, area_with       an area that is given bytes
--     Within, within_with, within_none, within-turned, within-then, within-sorts       what stays outside two areas
--     within_first, same-within, within-other       what is known of the areas tells the rest
--     within-only, only-other, only-within, only_none, only_then       one area alone
--     ready-area       before a step
--     lent_is, Back, lent_back       an area that is lent
use mathlib.Core.Path.{◌≡◌, refl, sym, ap, subst, ◌∙◌}
use mathlib.Core.Logic.{◌≢◌, ◌⊎◌, ⊎_elim, inl, inr}
use mathlib.Core.List.{[], ◌++◌}
use Prim.Native.Nat.{ℕ, zero, suc, ◌+◌, ◌*◌, ◌-◌, ◌≤◌, ◌<◌}
use native.Mathlib.Omega.{arith}
use lib.ListN.{length, get_or, take, drop, length-append, length-take, length-drop, length-replicate, get_or-append}
use lib.Seq.{take_at, drop_at, length-take-le, drop-drop, get_or-take, get_or-drop, get_or-append-add, ext_get_or}
use Rattle.numbers.specs.Bytes.{Bytes}
use Rattle.terms.specs.Book.{count, SortsBelow}
use Rattle.terms.specs.Format.{step_at, work_bytes}
use Rattle.index_map.specs.Memory.StoredMaps as maps
use Rattle.linear_comb.specs.Memory.WorkArea.{sum_bytes, Area, area_start, area_of, with_area, OnlyArea}
use Rattle.index_map.specs.Memory.Entries.{slots, stored, Good, Held}
use Rattle.rules.specs.Memory.Parts.{Ready}
use Rattle.index_map.proofs.Zeros.{zeros, zeros-join}

-- ---- a part of k bytes at a

abbrev part : ℕ → ℕ → Bytes → Bytes
part a k w = take k (drop a w)

abbrev spliced : ℕ → ℕ → Bytes → Bytes → Bytes
spliced a k x w = take a w ++ (x ++ drop k (drop a w))

part_at : (p m r : Bytes) (a k : ℕ) → length p ≡ a → length m ≡ k → part a k (p ++ (m ++ r)) ≡ m
part_at p m r a k front middle = rw (drop_at p (m ++ r) a front) (take_at m r k middle)

module _ (a k : ℕ) (w : Bytes) (room : a + k ≤ length w) where
  front_length : length (take a w) ≡ a
  front_length = length-take-le a w (omega arith)

  part_length : length (part a k w) ≡ k
  part_length = length-take-le k (drop a w) (simp length-drop (omega arith))

  module _ (x : Bytes) (long : length x ≡ k) where
    spliced-length : length (spliced a k x w) ≡ length w
    spliced-length = simp (length-append, length-drop) (omega (arith, front_length))

    part-spliced : part a k (spliced a k x w) ≡ x
    part-spliced = part_at (take a w) x (drop k (drop a w)) a k front_length long

    before-spliced : (n : ℕ) → n < a → get_or (spliced a k x w) n 0 ≡ get_or w n 0
    before-spliced n h =
        get_or-append (take a w) _ 0 n (omega (arith, front_length)) ∙ get_or-take a w n 0 h

    behind-spliced : (n : ℕ) → a + k ≤ n → get_or (spliced a k x w) n 0 ≡ get_or w n 0
    behind-spliced n h =
        let m : ℕ = n - (a + k) in
        let there : n ≡ length (take a w) + (length x + m) = omega (arith, front_length) in
        let here : a + (k + m) ≡ n = omega arith in
        ap (λ z. get_or (spliced a k x w) z 0) there
        ∙ get_or-append-add (take a w) _ (length x + m) 0 ∙ get_or-append-add x _ m 0
        ∙ get_or-drop k (drop a w) m 0 ∙ get_or-drop a w (k + m) 0 ∙ ap (λ z. get_or w z 0) here

-- zeros from s on: a part there is of zeros
part-zeros : (s a k n : ℕ) (w : Bytes) → drop s w ≡ zeros n → a + k ≤ n → part (s + a) k w ≡ zeros k
part-zeros s a k n w are room =
    ap (take k) (sym (drop-drop a s w) ∙ ap (drop a) (are ∙ sym split))
    ∙ part_at (zeros a) (zeros k) (zeros rest) a k (length-replicate a 0) (length-replicate k 0)
  where
    rest : ℕ
    rest = n - (a + k)

    split : zeros a ++ (zeros k ++ zeros rest) ≡ zeros n
    split = ap (λ z. zeros a ++ z) (zeros-join k rest (k + rest) refl) ∙ zeros-join a (k + rest) n (omega arith)

-- ---- what an area's places are

pub empty-length : length (stored slots []) ≡ sum_bytes
unfolding maps.stored
empty-length = length-replicate {A = ℕ} sum_bytes 0

pub empty-held : {b w : Bytes} → w ≡ stored slots [] → Held b w []
unfolding Good
empty-held e = record { bytes = e; good = tt }

-- ---- an area that is given bytes

module _ {j : ℕ} {w : Bytes} (a : Area j w) where
  area-room : area_start j + sum_bytes ≤ length w
  area-room = omega (arith, a.size, a.among)

  pub area-length : length (area_of j w) ≡ sum_bytes
  unfolding area_of
  area-length = part_length (area_start j) sum_bytes w area-room

  module _ (x : Bytes) (long : length x ≡ sum_bytes) where
    pub with_length : length (with_area j x w) ≡ work_bytes
    unfolding with_area
    with_length = spliced-length (area_start j) sum_bytes w area-room x long ∙ a.size

    pub area_with : area_of j (with_area j x w) ≡ x
    unfolding area_of with_area
    area_with = part-spliced (area_start j) sum_bytes w area-room x long

-- ---- what stays

-- byte n is not one of area j
abbrev Outside : ℕ → ℕ → Type 0
Outside j n = (n < area_start j) ⊎ (area_start j + sum_bytes ≤ n)

-- w' is a work area that has the bytes of w outside areas i and j
pub record Within (i j : ℕ) (w w' : Bytes) : Type 0 where
  pub size : length w' ≡ work_bytes
  pub outside : (n : ℕ) → Outside i n → Outside j n → get_or w' n 0 ≡ get_or w n 0

before_or_not : (n m : ℕ) → (n < m) ⊎ (m ≤ n)
before_or_not n zero = inr (omega arith)
before_or_not zero (suc m) = inl (omega arith)
before_or_not (suc n) (suc m) = ⊎_elim (λ h. inl (omega arith)) (λ h. inr (omega arith)) (before_or_not n m)

area_byte : (j : ℕ) (w : Bytes) (m : ℕ) → m < sum_bytes → get_or (area_of j w) m 0 ≡ get_or w (area_start j + m) 0
unfolding area_of
area_byte j w m h = get_or-take sum_bytes (drop (area_start j) w) m 0 h ∙ get_or-drop (area_start j) w m 0

-- a byte is one of area j, which is the same, or it lies outside
by_area :
    (j n : ℕ) (w v : Bytes) → area_of j w ≡ area_of j v → (Outside j n → get_or w n 0 ≡ get_or v n 0) →
    get_or w n 0 ≡ get_or v n 0
by_area j n w v same other =
    ⊎_elim (λ before. other (inl before))
    (λ from.
    ⊎_elim
    (λ within.
    let m : ℕ = n - area_start j in
    let here : area_start j + m ≡ n = omega arith in
    let inside : m < sum_bytes = omega arith in
    ap (λ z. get_or w z 0) (sym here) ∙ sym (area_byte j w m inside) ∙ ap (λ z. get_or z m 0) same
    ∙ area_byte j v m inside ∙ ap (λ z. get_or v z 0) here)
    (λ behind. other (inr behind))
    (before_or_not n (area_start j + sum_bytes)))
    (before_or_not n (area_start j))

-- the bytes of area k are outside area j
apart-outside : {j k : ℕ} → k ≢ j → (m : ℕ) → m < sum_bytes → Outside j (area_start k + m)
apart-outside {j} {k} apart m inside =
    ⊎_elim (λ before. inl (omega arith))
    (λ from. ⊎_elim (λ behind. inr (omega arith)) (λ upto. absurd (apart (omega arith))) (before_or_not j k))
    (before_or_not k j)

-- given bytes
pub within_with :
    {j : ℕ} {w : Bytes} → Area j w → (x : Bytes) → length x ≡ sum_bytes → {i : ℕ} → Within j i w (with_area j x w)
unfolding with_area
within_with {j} {w} a x long =
    record {
      size = with_length a x long;
      outside =
          λ n apart _.
          ⊎_elim (before-spliced (area_start j) sum_bytes w (area-room a) x long n)
          (behind-spliced (area_start j) sum_bytes w (area-room a) x long n) apart;
    }

pub within_none : {i j : ℕ} {w : Bytes} → length w ≡ work_bytes → Within i j w w
within_none size = record { size = size; outside = λ _ _ _. refl }

module _ {i j : ℕ} {w w' : Bytes} (p : Within i j w w') where
  pub within-turned : Within j i w w'
  within-turned = record { size = p.size; outside = λ n first second. p.outside n second first }

  pub within-then : {w'' : Bytes} → Within i j w' w'' → Within i j w w''
  within-then q =
      record { size = q.size; outside = λ n first second. q.outside n first second ∙ p.outside n first second }

  -- the second area has not changed either
  pub within_first : area_of j w' ≡ area_of j w → Within i i w w'
  within_first same = record { size = p.size; outside = λ n apart _. by_area j n w' w same (p.outside n apart) }

  pub within-sorts : {b : Bytes} → SortsBelow (count b) b w → SortsBelow (count b) b w'
  within-sorts s =
      record {
        laid = s.laid;
        held =
            λ n inside.
            p.outside n (inl (omega (arith, s.laid))) (inl (omega (arith, s.laid))) ∙ s.held n inside;
      }

  -- the two areas tell the rest
  pub same-within : {v : Bytes} → Within i j w v → area_of i w' ≡ area_of i v → area_of j w' ≡ area_of j v → w' ≡ v
  same-within {v} q first second =
      ext_get_or 0 w' v (p.size ∙ sym q.size)
      (λ n _.
      by_area i n w' v first λ one.
      by_area j n w' v second λ two. p.outside n one two ∙ sym (q.outside n one two))

  pub within-other : {k : ℕ} → Area k w → k ≢ i → k ≢ j → area_of k w' ≡ area_of k w
  within-other {k} a first second =
      let long = area-length a in
      let now = area-length (record { size = p.size; among = a.among }) in
      ext_get_or 0 (area_of k w') (area_of k w) (now ∙ sym long)
      (λ m inside.
      let early : m < sum_bytes = omega (arith, now) in
      area_byte k w' m early ∙ p.outside _ (apart-outside first m early) (apart-outside second m early)
      ∙ sym (area_byte k w m early))

-- ---- one area alone

module _ {j : ℕ} {w w' : Bytes} (a : Area j w) (only : OnlyArea j w w') where
  -- it has the right length, since there are bytes behind it
  only-long : length (area_of j w') ≡ sum_bytes
  unfolding area_of with_area
  only-long =
      let most = length-take sum_bytes (drop (area_start j) w') in
      let start = front_length (area_start j) sum_bytes w (area-room a) in
      let all : length w' ≡ area_start j + (length (area_of j w') + (work_bytes - area_start j - sum_bytes)) =
      ap length only ∙ simp (length-append, length-drop) (omega (arith, start, a.size)) in
      omega (arith, most, all, length-drop (area_start j) w', a.among)

  pub within-only : {i : ℕ} → Within j i w w'
  within-only {i} = subst (Within j i w) (sym only) (within_with a (area_of j w') only-long)

  pub only-other : {i : ℕ} → i < 3 → i ≢ j → area_of i w' ≡ area_of i w
  only-other among apart = within-other within-only (record { size = a.size; among = among }) apart apart

-- no byte outside it has changed
pub only-within : {j : ℕ} {w w' : Bytes} → Area j w → Within j j w w' → OnlyArea j w w'
only-within {j} {w} {w'} a p =
    let long = area-length (record { size = p.size; among = a.among }) in
    let same = sym (area_with a (area_of j w') long) in
    same-within p (within_with a (area_of j w') long) same same

pub only_none : {j : ℕ} {w : Bytes} → Area j w → OnlyArea j w w
only_none a = only-within a (within_none a.size)

pub only_then : {j : ℕ} {w w' w'' : Bytes} → Area j w → OnlyArea j w w' → OnlyArea j w' w'' → OnlyArea j w w''
only_then {j} {w} {w'} a p q =
    let one : Within j j w w' = within-only a p in
    only-within a (within-then one (within-only (record { size = one.size; among = a.among }) q))

-- before a step every area is empty
pub ready-area : {b w : Bytes} → Ready b w → (j : ℕ) → j < 3 → area_of j w ≡ stored slots []
unfolding area_of maps.stored
ready-area {w = w} r j among =
    part-zeros step_at (sum_bytes * j) sum_bytes (work_bytes - step_at) w r.zeros (omega arith)

-- ---- an area that is lent as the part between its two ends

abbrev lent_size : ℕ → ℕ
lent_size j = area_start j + sum_bytes - area_start j

lent-size : (j : ℕ) → lent_size j ≡ sum_bytes
lent-size j = omega arith

pub lent_is : (j : ℕ) (w : Bytes) → part (area_start j) (lent_size j) w ≡ area_of j w
unfolding area_of
lent_is j w = ap (λ k. part (area_start j) k w) (lent-size j)

lent-put : (j : ℕ) (w y : Bytes) → spliced (area_start j) (lent_size j) y w ≡ with_area j y w
unfolding with_area
lent-put j w y = ap (λ k. spliced (area_start j) k y w) (lent-size j)

-- bytes y came back
pub record Back (j : ℕ) (w y : Bytes) : Type 0 where
  pub was : part (area_start j) (lent_size j) w ≡ area_of j w
  pub put : spliced (area_start j) (lent_size j) y w ≡ with_area j y w
  pub is : area_of j (with_area j y w) ≡ y

pub lent_back_lem :
    {j : ℕ} {w : Bytes} → Area j w → (y : Bytes) → length y ≡ length (part (area_start j) (lent_size j) w) → Back j w y
lent_back_lem {j} {w} a y kept =
    let long : length y ≡ sum_bytes = kept ∙ ap length (lent_is j w) ∙ area-length a in
    record { was = lent_is j w; put = lent-put j w y; is = area_with a y long }
