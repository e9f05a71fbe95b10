-- The search for a key and an insertion in an area's bytes, for any encoding of keys: at the place that the search
-- gives, the bytes hold the entry with the key (`there`), or the key is nowhere (`nowhere`); and what each case of the
-- code leaves is what the definition says.
use mathlib.Core.Path.{◌≡◌, refl, sym, ap, ap₂, ◌∙◌, subst}
use mathlib.Core.Bool.{true, false}
use mathlib.Core.List.{List, [], ◌∷◌, ◌++◌}
use Prim.Native.Nat.{ℕ, suc, ◌+◌, ◌*◌, ◌≤◌, ◌<◌}
use native.Mathlib.Omega.{arith}
use lib.ListN.{length, length-append}
use Rattle.numbers.specs.Rational.{Rational, add_q, is_zero, checked}
use Rattle.numbers.specs.Bytes.{Bytes, number_at}
use Rattle.numbers.specs.Choice.{when◌then◌else◌}
use Rattle.rules.specs.Refusal.{Result, ◌>>=◌}
use Rattle.rules.specs.Limits.{Limits, limited, plus}
use Rattle.index_map.specs.IndexMap.{Map, Keys, insert, swap_remove}
use Rattle.index_map.specs.Memory.StoredMaps.{Encoding, size, keys_of, place, put_entry, blanked, swapped, Held, All}
use Rattle.index_map.specs.Memory.StoredMaps.{sum_at, Added, out, gone, put, Inserts}
use Rattle.index_map.proofs.CheckedNumbers.{plus-value, plus_out}
use Rattle.index_map.proofs.EntryBytes.{Coded}
use Rattle.index_map.proofs.HeldEntries.{Goods, held-keys, read-value, write-value, remove_entry, write_new, clear_all}
use Rattle.index_map.proofs.KeyedMaps.{Lacks, Look, found, missing, look, same_key, entered, insert-found}
use Rattle.index_map.proofs.KeySearch.{codes, Agrees, place-missing, place_found}
use Rattle.index_map.proofs.MapEnds.{length-middle, length-swap_remove, all_cut}

-- entry k of m has the key x, and the entries before it have not
pub record There {K C : Type 0} (enc : Encoding K C) (keyed : Keys K) (c : C) (x : K) (k : ℕ) (m : Map K) : Type 0 where
  pub front : Map K
  pub entry : K × Rational
  pub rest : Map K
  pub is : m ≡ front ++ entry ∷ rest
  pub spot : k ≡ length front
  pub same : keyed.same entry.0 x ≡ true
  pub key : enc.code entry.0 ≡ c
  pub first : Lacks (same_key keyed x) front

-- k is the place that a search for x, by its code c, gives among the n entries m of the bytes w
pub record Sought {K C : Type 0} (enc : Encoding K C) (keyed : Keys K) (places : ℕ) (Good : Bytes → Map K → Type 0)
    (b w : Bytes) (n : ℕ) (c : C) (x : K) (k : ℕ) (m : Map K) : Type 0 where
  pub held : Held enc places Good b w m
  pub many : n ≡ length m
  pub agree : All (Agrees enc keyed c x) m
  pub at : k ≡ place enc (keys_of enc w n) c

module _
    {K C : Type 0} {enc : Encoding K C} {Code : C → Type 0} (coded : Coded enc Code) {places : ℕ}
    {Good : Bytes → Map K → Type 0} {b : Bytes} (goods : Goods enc Code places Good b) where
  -- ---- a new entry, and none left

  pub new-held :
      {w : Bytes} (m : Map K) → Held enc places Good b w m → {n : ℕ} → n ≡ length m →
      {c : C} {x : K} → c ≡ enc.code x → (q : Rational) → Good b (m ++ (x, q) ∷ []) → (v : Bytes) →
      v ≡ put_entry enc w n c q → Held enc places Good b v (m ++ (x, q) ∷ [])
  new-held {w} m h size {x = x} key q good v left =
      let bytes : v ≡ put_entry enc w (length m) (enc.code x) q =
      left ∙ ap₂ (λ (i : ℕ) (y : C). put_entry enc w i y q) size key in
      rw bytes (write_new coded goods m h (x, q) good)

  pub cleared :
      {w : Bytes} (m : Map K) → Held enc places Good b w m → {n : ℕ} → n ≡ length m → (v : Bytes) →
      v ≡ blanked enc n w → Held enc places Good b v []
  cleared {w} m h size v left =
      let bytes : v ≡ blanked enc (length m) w = left ∙ ap (λ (i : ℕ). blanked enc i w) size in
      rw bytes (clear_all coded goods m h)

  module _ (keyed : Keys K) {c : C} (x : K) where
    looked_there :
        {m : Map K} {k : ℕ} → Look (same_key keyed x) m → All (Agrees enc keyed c x) m → k ≡ place enc (codes enc m) c →
        k < length m → There enc keyed c x k m
    looked_there (found p e s is lacks) agree at below =
        record {
          front = p;
          entry = e;
          rest = s;
          is = refl;
          spot = at ∙ place_found enc keyed c x lacks e s is agree;
          same = is;
          key = coded.equal ((all_cut p e s agree).1.0 ∙ is);
          first = lacks;
        }
    looked_there (missing lacks) agree at below = absurd (omega (arith, place-missing enc keyed c x lacks agree))

    looked_nowhere :
        {m : Map K} {k : ℕ} → Look (same_key keyed x) m → All (Agrees enc keyed c x) m → k ≡ place enc (codes enc m) c →
        length m ≤ k → Lacks (same_key keyed x) m
    looked_nowhere (found p e s is lacks) agree at past =
        absurd (omega (arith, place_found enc keyed c x lacks e s is agree, length-append p (e ∷ s)))
    looked_nowhere (missing lacks) agree at past = lacks

  module _
      {keyed : Keys K} {w : Bytes} {n : ℕ} {c : C} {x : K} {k : ℕ} {m : Map K}
      (sought : Sought enc keyed places Good b w n c x k m) where
    place-codes : k ≡ place enc (codes enc m) c
    place-codes =
        sought.at
        ∙ ap (λ (l : List C). place enc l c) (ap (keys_of enc w) sought.many ∙ held-keys coded goods sought.held)

    pub there : k < n → There enc keyed c x k m
    there below =
        looked_there keyed x (look (same_key keyed x) m) sought.agree place-codes (omega (arith, sought.many))

    pub nowhere : n ≤ k → Lacks (same_key keyed x) m
    nowhere past =
        looked_nowhere keyed x (look (same_key keyed x) m) sought.agree place-codes (omega (arith, sought.many))

    module _ (t : There enc keyed c x k m) where
      held-there : Held enc places Good b w (t.front ++ t.entry ∷ t.rest)
      held-there = subst (Held enc places Good b w) t.is sought.held

      -- what is read at k
      pub value_there : (q : Rational) → q ≡ number_at w (size enc * k + enc.width) → q ≡ t.entry.1
      value_there q e =
          e ∙ ap (λ (i : ℕ). number_at w (size enc * i + enc.width)) t.spot
          ∙ read-value coded goods t.front t.entry t.rest held-there

      insert-there :
          (l : Limits) (value : Rational) → is_zero value ≡ false →
          insert keyed l m x value ≡ entered keyed x t.front t.entry t.rest (plus l t.entry.1 value)
      insert-there l value some-value =
          ap (λ (y : Map K). insert keyed l y x value) t.is
          ∙ insert-found keyed x l value some-value t.first t.entry t.rest t.same

      many-there : n ≡ length (t.front ++ t.entry ∷ t.rest)
      many-there = sought.many ∙ ap length t.is

    -- a number is added to the entry at k
    module _ (value : Rational) (some-value : is_zero value ≡ false) (below : k < n) (l : ℕ) where
      answered : (t : There enc keyed c x k m) → checked (add_q t.entry.1 value) ≡ sum_at enc w k value
      answered t = ap (λ (y : Rational). checked (add_q y value)) (sym (value_there t _ refl))

      pub added :
          {r : Result ℕ} {v : Bytes} → Added enc w n k c value r v →
          Inserts enc places Good b v r (insert keyed (limited l) m x value)
      unfolding ◌>>=◌ when◌then◌else◌
      added (out none) =
          let t = there below in
          record {
            map = [];
            held = cleared m sought.held sought.many _ refl;
            is = (
              insert-there t (limited l) value some-value ∙ rw (plus_out l t.entry.1 value (answered t ∙ none)),
              refl,
            );
          }
      added (gone sum is z) =
          let t = there below in
          let p = t.front in
          let s = t.rest in
          let bytes = ap₂ (λ (i j : ℕ). swapped enc i j w) (many-there t) t.spot in
          let all : n ≡ suc (length p + length s) =
          many-there t ∙ length-middle t.entry p s ∙ ap suc (length-append p s) in
          record {
            map = p ++ swap_remove s;
            held = rw bytes (remove_entry coded goods p t.entry s (held-there t));
            is = (
              insert-there t (limited l) value some-value
                  ∙ rw (plus-value l t.entry.1 value sum (answered t ∙ is), z),
              omega (arith, length-append p (swap_remove s), length-swap_remove s),
            );
          }
      added (put sum is z proper) =
          let t = there below in
          let p = t.front in
          let s = t.rest in
          let new : K × Rational = (t.entry.0, sum) in
          let bytes = ap₂ (λ (i : ℕ) (y : C). put_entry enc w i y sum) t.spot (sym t.key) in
          record {
            map = p ++ new ∷ s;
            held = rw bytes (write-value coded goods p t.entry s (held-there t) sum proper);
            is = (
              insert-there t (limited l) value some-value
                  ∙ rw (plus-value l t.entry.1 value sum (answered t ∙ is), z),
              many-there t ∙ length-middle t.entry p s ∙ sym (length-middle new p s),
            );
          }
