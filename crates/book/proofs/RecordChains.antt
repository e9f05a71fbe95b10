-- The index of records, by its chains.
--   Searching: the loop along a chain. Every equal record is still ahead on it, so at its end there is none.
--   entered_all: once a record is entered, the index holds one record more, and the bytes beside it are the same.
--   emptied: the bytes of the index are 0, and those beside it the same.
use mathlib.Core.Path.{◌≡◌, refl, sym, ◌∙◌, ap}
use mathlib.Core.Bool.{Bool, true, false}
use mathlib.Core.Logic.{◌≢◌, ◌⊎◌, ⊎_elim, inl, inr}
use mathlib.Core.List.{[], ◌∷◌, ◌++◌}
use Prim.Native.Nat.{ℕ, zero, suc, ◌+◌, ◌*◌, ◌-◌, ◌%◌, ◌≤◌, ◌<◌}
use native.Mathlib.Omega.{arith}
use borrow.Author.Tests.{eqb-true, eqb-false, ltb-true, ltb-false}
use lib.Dec.{eqb, ltb}
use lib.ListN.{length, get_or, take, drop, replicate, length-append, length-drop, length-replicate}
use lib.ListN.{get_or-replicate, get_or-append, get_or-eq_default}
use lib.Seq.{length-take-le, get_or-take, get_or-drop, get_or-append-add}
use Rattle.numbers.specs.Bytes.{Bytes, same_bytes, digits, put}
use Rattle.terms.specs.Book.{record_of, stands}
use Rattle.book.specs.Memory.RecordIndex.{hash_from, chain, head_of, link_of, On, Indexed, Unused, Beside}
use Rattle.book.specs.Memory.RecordIndex.On.{here, later}
use Rattle.numbers.proofs.LittleEndian.{le-inside, le-agree, le-put_elsewhere, byte-put_elsewhere, length-put}
use Rattle.numbers.proofs.LittleEndian.{read-after-write-small}
use Rattle.terms.proofs.RecordBytes.{stands-found}
use Rattle.numbers.proofs.SameBytes.{same_bytes-true}

-- ---- the hash

hash_below : (r : Bytes) (h : ℕ) → h < 65536 → hash_from h r < 65536
unfolding hash_from
hash_below [] h small = small
hash_below (x ∷ r) h small = hash_below r ((40503 * h + x) % 65536) (omega arith)

pub chain-below : (r : Bytes) → chain r < 1024
unfolding chain
chain-below r = omega (arith, hash_below r 0 (omega arith))

-- ---- the search

stands-nowhere :
    (b r : Bytes) (n : ℕ) → ((j : ℕ) → j < n → same_bytes (record_of b j) r ≡ false) → stands n b r ≡ false
unfolding stands
stands-nowhere b r zero none = refl
stands-nowhere b r (suc n) none =
    let before : stands n b r ≡ false = stands-nowhere b r n (λ j h. none j (omega arith)) in
    rw (before, stands) (none n (omega arith))

-- k is next on the chain, and each of the first n records that has the bytes r is still ahead
pub record Searching (n : ℕ) (b w r : Bytes) (k : ℕ) : Type 0 where
  pub below : k ≤ n
  pub ahead : (j : ℕ) → j < n → same_bytes (record_of b j) r ≡ true → On w j k

pub compared :
    (b r x : Bytes) (k : ℕ) (t u : Bool) → x ≡ record_of b k → t ≡ same_bytes x r → t ≡ u → same_bytes (record_of b k) r ≡ u
compared b r x k t u is same h = rw (← is) (sym same ∙ h)

none_ahead : (w : Bytes) (j : ℕ) → On w j 0 → ⊥
none_ahead w j (here l e) = omega arith
none_ahead w j (later l m e o) = omega arith

not-here :
    (b w r : Bytes) (j k : ℕ) → same_bytes (record_of b (k - 1)) r ≡ false → same_bytes (record_of b j) r ≡ true →
    On w j k → On w j (link_of w (k - 1))
not-here b w r j k differ same (here l e) =
    let at : k - 1 ≡ j = omega arith in
    let differs : same_bytes (record_of b j) r ≡ false = rw at at differ in
    let both : ◌≡◌ {A = ℕ} 0 1 = cc in
    absurd (omega arith)
not-here b w r j k differ same (later l m e o) = let at : k - 1 ≡ m = omega arith in rw at o

module _ (n : ℕ) (b w : Bytes) (indexed : Indexed n b w) (r : Bytes) where
  pub searching_first : (c k : ℕ) → c ≡ chain r → k ≡ head_of w c → Searching n b w r k
  searching_first c k chained first =
      let is : k ≡ head_of w (chain r) = first ∙ ap (head_of w) chained in
      record {
        below = rw is (indexed.heads (chain r) (chain-below r));
        ahead = λ j h same. rw (is, ← same_bytes-true (record_of b j) r same) (indexed.on j h);
      }

  module _ (k : ℕ) (searching : Searching n b w r k) where
    pub link-falls : 0 < k → link_of w (k - 1) < k
    link-falls more = omega (arith, searching.below, indexed.links (k - 1) (omega (arith, searching.below)))

    pub searching_next :
        0 < k → same_bytes (record_of b (k - 1)) r ≡ false → (l : ℕ) → l ≡ link_of w (k - 1) → Searching n b w r l
    searching_next more differ l is =
        record {
          below = omega (arith, is, link-falls more, searching.below);
          ahead = λ j h same. rw is (not-here b w r j k differ same (searching.ahead j h same));
        }

    pub searching_found : 0 < k → same_bytes (record_of b (k - 1)) r ≡ true → true ≡ stands n b r
    searching_found more same = sym (stands-found b r n (k - 1) (omega (arith, searching.below)) same)

    pub searching_end : k ≤ 0 → false ≡ stands n b r
    searching_end end = sym (stands-nowhere b r n (λ j h. go j h (same_bytes (record_of b j) r) refl))
      where
        none : k ≡ 0
        none = omega arith

        go : (j : ℕ) → j < n → (t : Bool) → same_bytes (record_of b j) r ≡ t → t ≡ false
        go j h true same = absurd (none_ahead w j (rw none at (searching.ahead j h same)))
        go j h false same = refl

-- ---- what changes the index and what does not

pub beside_same : (w : Bytes) → Beside w w
beside_same w = record { long = refl; same = λ j h. refl }

-- a chain of numbers up to n stays where the links below n do
chain-kept :
    (n : ℕ) (w v : Bytes) → ((m : ℕ) → m < n → link_of w m ≤ m) → ((m : ℕ) → m < n → link_of v m ≡ link_of w m) →
    (j k : ℕ) → k ≤ n → On w j k → On v j k
chain-kept n w v falls agree j k h (here l e) = here k e
chain-kept n w v falls agree j k h (later l m e o) =
    let less : m < n = omega arith in
    later k m e (rw (agree m less) (chain-kept n w v falls agree j (link_of w m) (omega (arith, falls m less)) o))

-- the index looks at its own bytes alone
pub indexed_elsewhere :
    (n : ℕ) (b w v : Bytes) → length v ≡ length w →
    ((j : ℕ) → 2048 ≤ j → j < 8192 → get_or v j 0 ≡ get_or w j 0) → Indexed n b w → Indexed n b v
indexed_elsewhere n b w v long same indexed =
    record {
      room = rw long indexed.room;
      few = indexed.few;
      heads = λ c h. rw (head c h) (indexed.heads c h);
      links = λ m h. rw (link m h) (indexed.links m h);
      on =
          λ j h.
          let below = chain-below (record_of b j) in
          rw (head (chain (record_of b j)) below)
          (chain-kept n w v indexed.links link j _ (indexed.heads _ below) (indexed.on j h));
    }
  where
    head : (c : ℕ) → c < 1024 → head_of v c ≡ head_of w c
    head c h = le-agree 2 v w (2048 + 2 * c) long (λ j p q. same j (omega arith) (omega arith))

    link : (m : ℕ) → m < n → link_of v m ≡ link_of w m
    link m h = le-agree 2 v w (4096 + 2 * m) long (λ j p q. same j (omega arith) (omega (arith, indexed.few)))

pub indexed_none : (b w : Bytes) → 8192 ≤ length w → Unused w → Indexed 0 b w
unfolding digits
indexed_none b w room unused =
    record {
      room = room;
      few = omega arith;
      heads =
          λ c h.
          omega (
            arith,
            le-inside 2 w (2048 + 2 * c) (omega arith),
            unused.zero (2048 + 2 * c) (omega arith) (omega arith),
            unused.zero (2048 + 2 * c + 1) (omega arith) (omega arith),
          );
      links = λ m h. absurd (omega arith);
      on = λ j h. absurd (omega arith);
    }

-- record i is entered at the front of chain c
module _ (i : ℕ) (b w : Bytes) (indexed : Indexed i b w) (more : i < 2048) (c : ℕ) (is : c ≡ chain (record_of b i)) (below : c < 1024) where
  abbrev linked : Bytes
  linked = put 2 (head_of w c) w (4096 + 2 * i)

  abbrev pub entered : Bytes
  entered = put 2 (i + 1) linked (2048 + 2 * c)

  long : length entered ≡ length w
  long = length-put 2 (i + 1) linked (2048 + 2 * c) ∙ length-put 2 (head_of w c) w (4096 + 2 * i)

  link-kept : (m : ℕ) → m < i → link_of entered m ≡ link_of w m
  link-kept m h =
      le-put_elsewhere 2 2 (i + 1) linked (2048 + 2 * c) (4096 + 2 * m) (inr (omega arith))
      ∙ le-put_elsewhere 2 2 (head_of w c) w (4096 + 2 * i) (4096 + 2 * m) (inl (omega arith))

  link-new : link_of entered i ≡ head_of w c
  link-new =
      let small : head_of w c < 65536 = omega (arith, indexed.heads c below) in
      le-put_elsewhere 2 2 (i + 1) linked (2048 + 2 * c) (4096 + 2 * i) (inr (omega arith))
      ∙ read-after-write-small 2 (head_of w c) w (4096 + 2 * i) (omega (arith, indexed.room)) small

  head-kept : (g : ℕ) → g < 1024 → g ≢ c → head_of entered g ≡ head_of w g
  head-kept g h other =
      le-put_elsewhere 2 2 (i + 1) linked (2048 + 2 * c) (2048 + 2 * g) (apart (ltb g c) refl)
      ∙ le-put_elsewhere 2 2 (head_of w c) w (4096 + 2 * i) (2048 + 2 * g) (inl (omega arith))
    where
      apart :
          (t : Bool) → ltb g c ≡ t → (2048 + 2 * g + 2 ≤ 2048 + 2 * c) ⊎ (2048 + 2 * c + 2 ≤ 2048 + 2 * g)
      apart true e = inl (omega (arith, ltb-true g c e))
      apart false e = inr (omega (arith, ltb-false g c e))

  head-new : head_of entered c ≡ i + 1
  head-new =
      let small : i + 1 < 65536 = omega arith in
      read-after-write-small 2 (i + 1) linked (2048 + 2 * c)
      (omega (arith, indexed.room, length-put 2 (head_of w c) w (4096 + 2 * i))) small

  kept : (j k : ℕ) → k ≤ i → On w j k → On entered j k
  kept = chain-kept i w entered indexed.links link-kept

  -- from the front of chain c, all that was on it is behind the new record
  behind : (j : ℕ) → On w j (head_of w c) → On entered j (head_of entered c)
  behind j o = later _ i head-new (rw link-new (kept j (head_of w c) (indexed.heads c below) o))

  on_chain : (j g : ℕ) → g < 1024 → On w j (head_of w g) → On entered j (head_of entered g)
  on_chain j g h o = go (eqb g c) refl
    where
      go : (t : Bool) → eqb g c ≡ t → On entered j (head_of entered g)
      go true e = rw (eqb-true g c e) (behind j (rw (eqb-true g c e) at o))
      go false e = rw (head-kept g h (eqb-false g c e)) (kept j (head_of w g) (indexed.heads g h) o)

  pub indexed-more : Indexed (i + 1) b entered
  indexed-more = record { room = rw long indexed.room; few = omega arith; heads = heads; links = links; on = on }
    where
      heads : (g : ℕ) → g < 1024 → head_of entered g ≤ i + 1
      heads g h = go (eqb g c) refl
        where
          go : (t : Bool) → eqb g c ≡ t → head_of entered g ≤ i + 1
          go true e = rw (eqb-true g c e, head-new) (omega arith)
          go false e = rw (head-kept g h (eqb-false g c e)) (omega (arith, indexed.heads g h))

      links : (m : ℕ) → m < i + 1 → link_of entered m ≤ m
      links m h = go (eqb m i) refl
        where
          go : (t : Bool) → eqb m i ≡ t → link_of entered m ≤ m
          go true e = rw (eqb-true m i e, link-new) (indexed.heads c below)
          go false e =
              let other : m ≢ i = eqb-false m i e in
              let less : m < i = omega arith in
              rw (link-kept m less) (indexed.links m less)

      on : (j : ℕ) → j < i + 1 → On entered j (head_of entered (chain (record_of b j)))
      on j h = go (eqb j i) refl
        where
          go : (t : Bool) → eqb j i ≡ t → On entered j (head_of entered (chain (record_of b j)))
          go true e = rw (eqb-true j i e, ← is) (here _ head-new)
          go false e =
              let other : j ≢ i = eqb-false j i e in
              on_chain j _ (chain-below (record_of b j)) (indexed.on j (omega arith))

  pub entered-beside : Beside entered w
  entered-beside =
      record {
        long = long;
        same =
            λ j beside.
            byte-put_elsewhere 2 (i + 1) linked (2048 + 2 * c) j (apart j _ (omega arith) (omega arith) beside)
            ∙ byte-put_elsewhere 2 (head_of w c) w (4096 + 2 * i) j (apart j _ (omega arith) (omega arith) beside);
      }
    where
      apart : (j p : ℕ) → 2048 ≤ p → p + 2 ≤ 8192 → (j < 2048) ⊎ (8192 ≤ j) → (j < p) ⊎ (p + 2 ≤ j)
      apart j p from to = ⊎_elim (λ h. inl (omega arith)) (λ h. inr (omega arith))

pub entered_all :
    (i : ℕ) (b w : Bytes) → Indexed i b w × (i < 2048) → (r : Bytes) → r ≡ record_of b i →
    (c : ℕ) → (c ≡ chain r) × (c < 1024) → (k : ℕ) → k ≡ head_of w c →
    (v v' : Bytes) → v ≡ put 2 k w (4096 + 2 * i) → v' ≡ put 2 (i + 1) v (2048 + 2 * c) →
    Indexed (i + 1) b v' × Beside v' w
entered_all i b w start r is c chained k first v v' linked entered =
    let here : c ≡ chain (record_of b i) = chained.0 ∙ ap chain is in
    rw (entered, linked, first) (
      indexed-more i b w start.0 start.1 c here chained.1,
      entered-beside i b w start.0 start.1 c here chained.1,
    )

-- ---- emptying the index

-- the bytes of the index are cleared, and v stands in their place
module _ (w v : Bytes) (room : 8192 ≤ length w) (cleared : v ≡ replicate (length (take 6144 (drop 2048 w))) 0) where
  e : v ≡ replicate 6144 0
  e = cleared ∙ ap (λ n. replicate n 0) (length-take-le 6144 (drop 2048 w) (simp length-drop (omega arith)))

  abbrev left : Bytes
  left = take 2048 w ++ (v ++ drop 6144 (drop 2048 w))

  front : length (take 2048 w) ≡ 2048
  front = length-take-le 2048 w (omega arith)

  middle : length v ≡ 6144
  middle = rw e (length-replicate {A = ℕ} 6144 0)

  -- byte i behind the first 2048
  after_front : (i : ℕ) → get_or left (2048 + i) 0 ≡ get_or (v ++ drop 6144 (drop 2048 w)) i 0
  after_front i =
      ap (λ k. get_or left (k + i) 0) (sym front) ∙ get_or-append-add (take 2048 w) (v ++ drop 6144 (drop 2048 w)) i 0

  emptied-zero : (i : ℕ) → i < 6144 → get_or left (2048 + i) 0 ≡ 0
  emptied-zero i h =
      after_front i ∙ get_or-append v (drop 6144 (drop 2048 w)) 0 i (omega (arith, middle))
      ∙ ap (λ (x : Bytes). get_or x i 0) e ∙ get_or-replicate 6144 i 0 0 h

  emptied-past : (m : ℕ) → get_or left (2048 + (6144 + m)) 0 ≡ get_or w (2048 + (6144 + m)) 0
  emptied-past m =
      after_front (6144 + m)
      ∙ ap (λ k. get_or (v ++ drop 6144 (drop 2048 w)) (k + m) 0) (sym middle)
      ∙ get_or-append-add v (drop 6144 (drop 2048 w)) m 0
      ∙ get_or-drop 6144 (drop 2048 w) m 0
      ∙ get_or-drop 2048 w (6144 + m) 0

  emptied-front : (j : ℕ) → j < 2048 → get_or left j 0 ≡ get_or w j 0
  emptied-front j h =
      get_or-append (take 2048 w) (v ++ drop 6144 (drop 2048 w)) 0 j (omega (arith, front)) ∙ get_or-take 2048 w j 0 h

  pub emptied : Unused left × Beside left w
  emptied = (
    record { zero = λ j p q. ap (λ k. get_or left k 0) (omega arith) ∙ emptied-zero (j - 2048) (omega arith) },
    record {
      long = simp (length-append, length-drop) (omega (arith, front, middle));
      same = λ j apart. ⊎_elim (emptied-front j) (beyond j) apart;
    },
  )
    where
      beyond : (j : ℕ) → 8192 ≤ j → get_or left j 0 ≡ get_or w j 0
      beyond j h =
          let there : j ≡ 2048 + (6144 + (j - 8192)) = omega arith in
          ap (λ k. get_or left k 0) there ∙ emptied-past (j - 8192) ∙ ap (λ k. get_or w k 0) (sym there)

pub unused-zeros : (n : ℕ) → Unused (replicate n 0)
unused-zeros n = record { zero = λ j p q. go j (ltb j n) refl }
  where
    zeros : Bytes
    zeros = replicate n 0

    go : (j : ℕ) (t : Bool) → ltb j n ≡ t → ◌≡◌ {A = ℕ} (get_or zeros j 0) 0
    go j true e = get_or-replicate n j 0 0 (ltb-true j n e)
    go j false e = get_or-eq_default zeros 0 (omega (arith, ltb-false j n e, length-replicate {A = ℕ} n 0))
