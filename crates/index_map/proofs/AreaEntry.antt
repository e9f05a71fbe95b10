-- `get`, `insert` and `append` in an area's bytes, by the laws of FoundEntries: what each case of the code leaves is
-- what the definition says.
use Rattle.std.specs.Prelude.{Ok, Some, None}
use mathlib.Core.Path.{◌≡◌, sym, ap, ◌∙◌, subst}
use mathlib.Core.Bool.{true, false}
use mathlib.Core.List.{[], ◌∷◌, ◌++◌}
use Prim.Native.Nat.{ℕ, ◌+◌, ◌*◌, ◌≤◌, ◌<◌}
use native.Mathlib.Omega.{arith}
use lib.Dec.{eqb}
use lib.ListN.{length-append}
use Rattle.numbers.specs.Rational.{Rational, Proper, Makes, is_zero}
use Rattle.numbers.specs.Bytes.{Bytes, number_at}
use Rattle.terms.specs.Term.{Term, record_number}
use Rattle.terms.specs.Book.{count, tree}
use Rattle.terms.proofs.NumberedNodes.{record_number-tree}
use Rattle.rules.specs.Refusal.{Result, ◌>>=◌, assert}
use Rattle.rules.specs.Limits.{limited}
use Rattle.index_map.specs.IndexMap.{Map, get, insert}
use Rattle.index_map.specs.Memory.Entries.{terms, slots, sums, keys_of, entries_of, place, put_entry, absent}
use Rattle.index_map.specs.Memory.Entries.{Good, Kept, Inserts, CoefficientIs}
use Rattle.index_map.specs.Memory.StoredMaps.{Added}
use Rattle.index_map.proofs.FoundEntries.{Sought, new-held, there, nowhere, value_there, added}
use Rattle.index_map.proofs.KeyedMaps.{Lacks, same_key, get-missing, get-found, insert-zero, insert-missing}
use Rattle.index_map.proofs.MapEnds.{all_of}
use Rattle.index_map.proofs.MapKeys.{numbered, absent-lacks}
use Rattle.index_map.proofs.NumberedKeys.{numbers}
use Rattle.index_map.proofs.StoredEntries.{goods, good_new, kept-entries}

-- ---- get

module _ (w : Bytes) (n key k : ℕ) (at : k ≡ place (keys_of w n) key) where
  sought : {b : Bytes} (kept : Kept b w n) → Sought sums terms slots Good b w n key (tree b key) k kept.map
  sought {b} kept =
      record {
        held = kept.held;
        many = kept.size;
        agree = all_of (λ e. ap (eqb (record_number e.0)) (sym (record_number-tree b key))) kept.map;
        at = at;
      }

  pub coefficient :
      k < n → {q : Rational} → Makes q (number_at w (10 * k + 2)) → (b : Bytes) → Kept b w n →
      CoefficientIs (Some q) (get terms (entries_of b w n) (tree b key))
  coefficient below {q} makes b kept =
      let t = there numbers (goods b) (sought kept) below in
      let value = value_there numbers (goods b) (sought kept) t q makes.is in (
        ap (λ (x : Map Term). get terms x (tree b key)) (kept-entries kept ∙ t.is)
            ∙ get-found terms (tree b key) t.first t.entry t.rest t.same
            ∙ ap Some (sym value),
        makes.proper,
      )

  lacks-key : n ≤ k → {b : Bytes} (kept : Kept b w n) → Lacks (same_key terms (tree b key)) kept.map
  lacks-key past {b} kept = nowhere numbers (goods b) (sought kept) past

  pub no_coefficient :
      n ≤ k → (b : Bytes) → Kept b w n → CoefficientIs None (get terms (entries_of b w n) (tree b key))
  no_coefficient past b kept = rw (kept-entries kept) (get-missing terms (tree b key) (lacks-key past kept))

-- ---- insert

-- the answer r, where v is left of the bytes w
abbrev pub Insertion : Bytes → ℕ → ℕ → Rational → Bytes → Result ℕ → Type 0
Insertion w n key value v r =
    (b : Bytes) → Kept b w n → key < count b → (l : ℕ) →
    Inserts b v r (insert terms (limited l) (entries_of b w n) (tree b key) value)

module _ (w : Bytes) (n key : ℕ) (value : Rational) where
  pub nothing_inserted : is_zero value ≡ true → Insertion w n key value w (Ok n)
  nothing_inserted z b kept inside l =
      rw (kept-entries kept)
      (record {
        map = kept.map;
        held = kept.held;
        is = (insert-zero terms (tree b key) (limited l) value kept.map z, kept.size);
      })

  module _ (some-value : is_zero value ≡ false) where
    -- at the end, where no entry has the key
    module _ (proper : Proper value) (v : Bytes) (left : v ≡ put_entry w n key value) where
      entry-appended :
          (b : Bytes) (kept : Kept b w n) → Lacks (same_key terms (tree b key)) kept.map → key < count b → (l : ℕ) →
          Inserts b v (Ok (n + 1)) (insert terms (limited l) (entries_of b w n) (tree b key) value)
      unfolding ◌>>=◌ assert
      entry-appended b kept lacks inside l =
          let m = kept.map in
          let good = good_new b m kept.held.good key inside lacks value proper in
          let same = sym (record_number-tree b key) in
          rw (kept-entries kept)
          (record {
            map = m ++ (tree b key, value) ∷ [];
            held = new-held numbers (goods b) m kept.held kept.size same value good v left;
            is = (
              insert-missing terms (tree b key) (limited l) value some-value lacks,
              omega (arith, kept.size, length-append m ((tree b key, value) ∷ [])),
            );
          })

      pub new-appended :
          (b : Bytes) → Kept b w n → key < count b → absent key (entries_of b w n) ≡ true → (l : ℕ) →
          Inserts b v (Ok (n + 1)) (insert terms (limited l) (entries_of b w n) (tree b key) value)
      new-appended b kept inside once l =
          let lacks : Lacks (numbered key) kept.map =
          absent-lacks key kept.map (rw (kept-entries kept) at once) in
          let same = sym (record_number-tree b key) in
          entry-appended b kept (subst (λ (i : ℕ). Lacks (numbered i) kept.map) same lacks) inside l

      pub new_inserted :
          (k : ℕ) → k ≡ place (keys_of w n) key → n ≤ k → Insertion w n key value v (Ok (n + 1))
      new_inserted k at past b kept inside l = entry-appended b kept (lacks-key w n key k at past kept) inside l

    -- the entry at k has the key
    pub sum_inserted :
        (k : ℕ) → k ≡ place (keys_of w n) key → k < n → {v : Bytes} {r : Result ℕ} →
        Added sums w n k key value r v → Insertion w n key value v r
    sum_inserted k at below a b kept inside l =
        rw (kept-entries kept) (added numbers (goods b) (sought w n key k at kept) value some-value below l a)
