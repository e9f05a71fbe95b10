-- The loops of `insert_all` and `copy_all`: with the first k of m entries inserted, what is left to insert makes what
-- inserting them all makes (`Inserting`). The bytes of the area that is read stay as they were, since the other area is
-- apart from it. Where there were n = 0 entries at the start, as in `copy_all`, the entries that are there and those
-- that are left have different keys: so the next key is absent.
use Rattle.rules.specs.declared.refusal.Refusal.{Refusal}
use Rattle.std.specs.Prelude.{Err, Ok}
use mathlib.Core.Path.{◌≡◌, refl, sym, ◌∙◌, ap}
use mathlib.Core.Bool.{Bool, true, false}
use mathlib.Core.List.{[], ◌∷◌, ◌++◌, append_assoc}
use Prim.Native.Nat.{ℕ, ◌+◌, ◌*◌, ◌-◌, ◌≤◌, ◌<◌}
use native.Mathlib.Omega.{arith}
use lib.ListN.{length, drop}
use Rattle.numbers.specs.Rational.{Rational, Proper, Makes, is_zero}
use Rattle.numbers.specs.Bytes.{Bytes, le, number_at}
use Rattle.terms.specs.Term.{Term, record_number}
use Rattle.terms.specs.Book.{count, tree}
use Rattle.rules.specs.Refusal.{Result, ◌>>=◌, assert}
use Rattle.rules.specs.Limits.{limited}
use Rattle.index_map.specs.IndexMap.{Map, neg_all, insert, insert_all}
use Rattle.index_map.specs.Memory.Entries.{slots, most_entries, terms, entries_of, Grown, absent, Good, Held, Kept}
use Rattle.index_map.specs.Memory.Entries.{Inserts}
use Rattle.linear_comb.specs.Memory.WorkArea.{area_of, OnlyArea, Apart, signed_all, signed_q}
use Rattle.index_map.proofs.KeyedMaps.{insert-zero, insert-missing}
use Rattle.index_map.proofs.MapKeys.{lacks-absent, lacks-before, taken_out, new-value}
use Rattle.index_map.proofs.StoredEntries.{kept-entries, held-entries}
use Rattle.linear_comb.proofs.Areas.{only_then, only_none}
use Rattle.linear_comb.proofs.AreaSteps.{in_first}
use Rattle.linear_comb.proofs.EntryPlaces.{kept_at, all_behind}

-- ---- a new key

-- an entry of which no other has the key, with another value: it comes to the end, or 0 is not entered
new-good :
    (b : Bytes) (l : ℕ) (m : Map Term) (e : Term × Rational) (s : Map Term) (v : Rational) → Proper v →
    Good b (m ++ e ∷ s) → (m' : Map Term) → insert terms (limited l) m e.0 v ≡ Ok m' → Good b (m' ++ s)
unfolding ◌>>=◌ assert
new-good b l m e s v proper good m' is = go (is_zero v) refl
  where
    go : (t : Bool) → is_zero v ≡ t → Good b (m' ++ s)
    go true z =
        let same : m ≡ m' = cc (insert-zero terms e.0 (limited l) v m z, is) in
        rw (← same) (taken_out e s m good).1
    go false z =
        let same : m ++ (e.0, v) ∷ [] ≡ m' =
        cc (insert-missing terms e.0 (limited l) v z (lacks-before b m e s good), is) in
        rw (← same, append_assoc) (new-value b m e s good v proper)

-- ---- one entry, then the rest

-- the area x has len entries, and inserting the rest into them makes d; where there were n = 0 at the start, all keys
-- differ
pub record Left (b x : Bytes) (n len l : ℕ) (turned : Bool) (rest : Map Term) (d : Result (Map Term)) : Type 0 where
  pub map : Map Term
  pub held : Held b x map
  pub size : len ≡ length map
  pub is : insert_all terms (limited l) map (signed_all turned rest) ≡ d
  pub new : n ≡ 0 → Good b (map ++ rest)

-- one insertion answers r, and inserting the rest into what it makes is d
pub record Turn
    (b x : Bytes) (n l : ℕ) (r : Result ℕ) (turned : Bool) (rest : Map Term) (d : Result (Map Term)) : Type 0 where
  pub first : Result (Map Term)
  pub made : Inserts b x r first
  pub then : (first >>= λ m. insert_all terms (limited l) m (signed_all turned rest)) ≡ d
  pub new : n ≡ 0 → (m : Map Term) → first ≡ Ok m → Good b (m ++ rest)

module _ {b x : Bytes} {n l : ℕ} {turned : Bool} {rest : Map Term} {d : Result (Map Term)} where
  turn_more : {len : ℕ} → Turn b x n l (Ok len) turned rest d → Left b x n len l turned rest d
  unfolding ◌>>=◌
  turn_more t =
      record {
        map = t.made.map;
        held = t.made.held;
        size = t.made.is.1;
        is = rw t.made.is.0 at t.then;
        new = λ none. t.new none t.made.map t.made.is.0;
      }

  turn-refused : {r : Refusal} → Turn b x n l (Err r) turned rest d → Inserts b x (Err r) d
  unfolding ◌>>=◌
  turn-refused t =
      record {
        map = t.made.map;
        held = t.made.held;
        is = (sym t.then ∙ rw t.made.is.0, t.made.is.1);
      }

insert_first :
    (t : Bool) (l : ℕ) (m : Map Term) (e : Term × Rational) (s : Map Term) →
    (insert terms (limited l) m e.0 (signed_q t e.1) >>= λ m'. insert_all terms (limited l) m' (signed_all t s))
    ≡ insert_all terms (limited l) m (signed_all t (e ∷ s))
unfolding insert_all neg_all
insert_first true l m e s = refl
insert_first false l m e s = refl

insert_none : (t : Bool) (l : ℕ) (m : Map Term) → insert_all terms (limited l) m (signed_all t []) ≡ Ok m
unfolding insert_all neg_all
insert_none true l m = refl
insert_none false l m = refl

-- nothing is left
all_left :
    {b x : Bytes} {n len l : ℕ} (turned : Bool) (rest : Map Term) {d : Result (Map Term)} →
    Left b x n len l turned rest d → rest ≡ [] → Inserts b x (Ok len) d
all_left {l = l} turned rest t none =
    record {
      map = t.map;
      held = t.held;
      is = (
        sym t.is ∙ ap (λ z. insert_all terms (limited l) t.map (signed_all turned z)) none
            ∙ insert_none turned l t.map,
        t.size,
      );
    }

-- ---- the invariant

-- of all m entries
abbrev pub Whole : Bytes → ℕ → ℕ → ℕ → ℕ → Bool → Bytes → ℕ → Result (Map Term)
Whole w₀ to n from m turned b l =
    insert_all terms (limited l) (entries_of b (area_of to w₀) n) (signed_all turned (entries_of b (area_of from w₀) m))

-- what the answer r says, with the bytes w that are left
abbrev pub InsertedAll : Bytes → ℕ → ℕ → ℕ → ℕ → Bool → Bytes → Result ℕ → Type 0
InsertedAll w₀ to n from m turned w r =
    (Grown (most_entries - 1) r × OnlyArea to w₀ w)
    × ((b : Bytes) → Kept b (area_of to w₀) n → Kept b (area_of from w₀) m → (l : ℕ) →
    Inserts b (area_of to w) r (Whole w₀ to n from m turned b l))

pub record Inserting (w₀ : Bytes) (to n from m : ℕ) (turned : Bool) (w : Bytes) (len k : ℕ) : Type 0 where
  pub apart : Apart to from w₀
  pub inside : k ≤ m
  pub few : len + (m - k) ≤ most_entries
  pub size : length w ≡ length w₀
  pub only : OnlyArea to w₀ w
  pub left :
      (b : Bytes) → Kept b (area_of to w₀) n → Kept b (area_of from w₀) m → (l : ℕ) →
      Left b (area_of to w) n len l turned (drop k (entries_of b (area_of from w₀) m))
      (Whole w₀ to n from m turned b l)

-- at the start
all_new :
    {b x y : Bytes} {n m : ℕ} (kept : Kept b x n) → Kept b y m → n ≡ 0 → Good b (kept.map ++ entries_of b y m)
unfolding entries_of
all_new {b} {x} kept kept' none =
    let empty : kept.map ≡ [] = sym (kept-entries kept) ∙ ap (entries_of b x) none in
    rw (empty, kept-entries kept') kept'.held.good

pub inserting_none :
    {w₀ : Bytes} {to n from m : ℕ} {turned : Bool} → Apart to from w₀ → n ≤ slots → m ≤ slots →
    Inserting w₀ to n from m turned w₀ n 0
inserting_none apart few few' =
    record {
      apart = apart;
      inside = omega arith;
      few = omega arith;
      size = refl;
      only = only_none apart.first;
      left =
          λ b kept kept' l.
          record {
            map = kept.map;
            held = kept.held;
            size = kept.size;
            is = rw (kept-entries kept);
            new = all_new kept kept';
          };
    }

module _
    {w₀ : Bytes}
    {to n from m : ℕ}
    {turned : Bool}
    {w : Bytes}
    {len k : ℕ}
    (i : Inserting w₀ to n from m turned w len k) where
  from_same : area_of from w ≡ area_of from w₀
  from_same = (in_first i.apart i.only).second

  -- the key of entry k is read from x and its value from y; inserting them answers r and leaves the bytes w', where
  -- the insertion may take for granted that the key is absent if n is 0
  module _
      (h : k < m)
      (x : Bytes)
      (is_x : x ≡ area_of from w)
      (key : ℕ)
      (is_key : key ≡ le 2 x (10 * k))
      (y : Bytes)
      (is_y : y ≡ area_of from w)
      (v₀ : Rational)
      (is-v₀ : v₀ ≡ number_at y (10 * k + 2))
      (v : Rational)
      (is-v : Makes v (signed_q turned v₀))
      (w' : Bytes)
      (size : length w' ≡ length w)
      (r : Result ℕ)
      (grown : Grown len r × OnlyArea to w w')
      (made :
      (b : Bytes) → Kept b (area_of to w) len → key < count b →
      (n ≡ 0 → absent key (entries_of b (area_of to w) len) ≡ true) → (l : ℕ) →
      Inserts b (area_of to w') r (insert terms (limited l) (entries_of b (area_of to w) len) (tree b key) v)) where
    turn :
        (b : Bytes) → Kept b (area_of to w₀) n → Kept b (area_of from w₀) m → (l : ℕ) →
        Turn b (area_of to w') n l r turned (drop (k + 1) (entries_of b (area_of from w₀) m))
        (Whole w₀ to n from m turned b l)
    turn b kept kept' l =
        let left = i.left b kept kept' l in
        let at = kept_at kept' k h in
        let key-is : key ≡ record_number at.entry.0 =
        is_key ∙ ap (λ z. le 2 z (10 * k)) (is_x ∙ from_same) ∙ at.key in
        let term : tree b key ≡ at.entry.0 = ap (tree b) key-is ∙ sym at.term in
        let value : v₀ ≡ at.entry.1 = is-v₀ ∙ ap (λ z. number_at z (10 * k + 2)) (is_y ∙ from_same) ∙ at.value in
        let value-is : v ≡ signed_q turned at.entry.1 = is-v.is ∙ ap (signed_q turned) value in
        let entries : entries_of b (area_of to w) len ≡ left.map =
        ap (entries_of b (area_of to w)) left.size ∙ held-entries left.held in
        let now-kept : Kept b (area_of to w) len = record { map = left.map; held = left.held; size = left.size } in
        let good : n ≡ 0 → Good b (left.map ++ at.entry ∷ drop (k + 1) (entries_of b (area_of from w₀) m)) =
        λ none. rw at.here at (left.new none) in
        let once : n ≡ 0 → absent key (entries_of b (area_of to w) len) ≡ true =
        λ none. rw (entries, key-is) (lacks-absent _ (lacks-before b left.map at.entry _ (good none))) in
        record {
          first = _;
          made = rw (entries, term, value-is) at (made b now-kept (rw key-is at.inside) once l);
          then =
              insert_first turned l left.map at.entry _
              ∙ ap (λ z. insert_all terms (limited l) left.map (signed_all turned z)) (sym at.here)
              ∙ left.is;
          new = λ none. new-good b l left.map at.entry _ _ (rw value-is at is-v.proper) (good none);
        }

    only_all : OnlyArea to w₀ w'
    only_all = only_then i.apart.first i.only grown.1

    pub inserting_refused : {e : Refusal} → r ≡ Err e → InsertedAll w₀ to n from m turned w' (Err e)
    inserting_refused is = ((tt, only_all), λ b kept kept' l. turn-refused (rw is at (turn b kept kept' l)))

    pub inserting_more : (longer : ℕ) → r ≡ Ok longer → Inserting w₀ to n from m turned w' longer (k + 1)
    inserting_more longer e =
        let one : longer ≤ len + 1 = rw e at grown.0 in
        let few = i.few in
        record {
          apart = i.apart;
          inside = omega arith;
          few = omega arith;
          size = size ∙ i.size;
          only = only_all;
          left = λ b kept kept' l. turn_more (rw e at (turn b kept kept' l));
        }

  pub inserting_done : m ≤ k → InsertedAll w₀ to n from m turned w (Ok len)
  inserting_done h =
      let few = i.few in
      ((omega arith, i.only), λ b kept kept' l. all_left turned _ (i.left b kept kept' l) (all_behind kept' h))
