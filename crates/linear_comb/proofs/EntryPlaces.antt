-- Entry k of an area that holds a map: its key and its value are read there, and it is the first of the map's entries
-- from place k on.
use mathlib.Core.Path.{◌≡◌, subst}
use mathlib.Core.List.{[], ◌∷◌, ◌++◌}
use Prim.Native.Nat.{ℕ, suc, ◌+◌, ◌*◌, ◌≤◌, ◌<◌}
use native.Mathlib.Numerals.{add-one}
use native.Mathlib.Omega.{arith}
use lib.ListN.{length, take, drop, get_or, drop_of_length-le}
use lib.Seq.{length-take-le, drop-cons, split_at}
use Rattle.numbers.specs.Rational.{Rational}
use Rattle.numbers.specs.Bytes.{Bytes, le, number_at}
use Rattle.terms.specs.Term.{Term, record_number}
use Rattle.terms.specs.Book.{count, tree}
use Rattle.index_map.specs.IndexMap.{Map}
use Rattle.index_map.specs.Memory.Entries.{entries_of, Entry, Held, Kept}
use Rattle.rules.specs.Memory.Parts.{blank}
use Rattle.index_map.proofs.MapKeys.{taken_out}
use Rattle.index_map.proofs.StoredEntries.{kept-entries, read-key, read-value}

pub record EntryAt (b x : Bytes) (m : Map Term) (k : ℕ) : Type 0 where
  pub entry : Term × Rational
  pub here : drop k m ≡ entry ∷ drop (k + 1) m
  pub key : le 2 x (10 * k) ≡ record_number entry.0
  pub value : number_at x (10 * k + 2) ≡ entry.1
  pub inside : record_number entry.0 < count b
  pub term : entry.0 ≡ tree b (record_number entry.0)

held_at : {b x : Bytes} (m : Map Term) → Held b x m → (k : ℕ) → k < length m → EntryAt b x m k
held_at {b} {x} m held k h =
    let none : Term × Rational = (tree b 0, blank) in
    let p : Map Term = take k m in
    let e : Term × Rational = get_or m k none in
    let s : Map Term = drop (suc k) m in
    let split : Held b x (p ++ e ∷ s) = subst (λ z. Held b x z) (split_at m k none h) held in
    let size : length p ≡ k = length-take-le k m (omega arith) in
    let known : Entry b e (p ++ s) = (taken_out e s p split.good).0 in
    record {
      entry = e;
      here = rw add-one (drop-cons m k none h);
      key = rw size at (read-key p e s split);
      value = rw size at (read-value p e s split);
      inside = known.inside;
      term = known.term;
    }

pub kept_at : {b x : Bytes} {n : ℕ} → Kept b x n → (k : ℕ) → k < n → EntryAt b x (entries_of b x n) k
kept_at {b} {x} kept k h =
    rw (kept-entries kept) (held_at kept.map kept.held k (omega arith))

-- behind the last
pub all_behind : {b x : Bytes} {n k : ℕ} → Kept b x n → n ≤ k → drop k (entries_of b x n) ≡ []
all_behind {k = k} kept h = rw (kept-entries kept) (drop_of_length-le kept.map {i = k} (omega arith))
