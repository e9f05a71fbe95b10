-- The term below a record, for all bytes: it is the record's node over the terms of its arguments (`tree-node`). The depth
-- that `tree_within` is given does not matter where it is at least the record's height (`within_same`), since heights fall
-- from a record to its arguments (`earlier-lower`). So a term depends on its record and earlier ones alone
-- (`tree-agree`), and bytes that are appended to the book change none (`tree_append`).
use mathlib.Core.Path.{◌≡◌, refl, sym, ◌∙◌, ap, ap₂}
use mathlib.Core.Bool.{Bool, true, false, cond}
use mathlib.Core.List.{List, [], ◌∷◌, ◌++◌}
use Prim.Native.Nat.{ℕ, zero, suc, ◌*◌, ◌≤◌, ◌<◌}
use native.Mathlib.Omega.{arith}
use borrow.Author.Tests.{lt-ltb, le-ltb, ltb-true, ltb-false}
use lib.Dec.{ltb}
use lib.ListN.{length, take, drop, length-append, length-drop}
use lib.Seq.{take-append-le, drop-append-le}
use Rattle.numbers.specs.Bytes.{Bytes}
use Rattle.terms.specs.Term.{Term}
use Rattle.terms.specs.Term.Terms.{nil, ◌▹◌}
use Rattle.terms.specs.Book.{count, record_of, arg_bytes, numbers, arguments, earlier, nothing, node}
use Rattle.terms.specs.Format.{max_records}
use Rattle.terms.specs.Book.{forest, tree_within, tree, height}

-- a record number is below the most that there are, or the record has no bytes
data Placed (b : Bytes) (i : ℕ) : Type 0 where
  inside : i < max_records → Placed b i
  outside : height i ≡ 0 → record_of b i ≡ [] → Placed b i

pub height-inside : (i : ℕ) → i < max_records → height i ≡ suc i
height-inside i h = rw (lt-ltb i max_records h)

pub height-outside : (i : ℕ) → max_records ≤ i → height i ≡ 0
height-outside i h = rw (le-ltb i max_records h)

pub record_of-outside : (b : Bytes) (i : ℕ) → count b ≤ i → record_of b i ≡ []
unfolding record_of
record_of-outside b i h = rw (le-ltb i (count b) h)

pub record_of-inside : (b : Bytes) (i : ℕ) → i < count b → record_of b i ≡ take 32 (drop (32 * i) b)
unfolding record_of
record_of-inside b i h = rw (lt-ltb i (count b) h)

placed : (b : Bytes) (i : ℕ) → Placed b i
placed b i = go (ltb i max_records) refl
  where
    go : (t : Bool) → ltb i max_records ≡ t → Placed b i
    go true e = inside (ltb-true i max_records e)
    go false e =
        let h : max_records ≤ i = ltb-false i max_records e in outside (height-outside i h) (record_of-outside b i (omega arith))

-- ---- arguments lie lower

pub earlier-lower : (i a : ℕ) → i < max_records → height (earlier i a) < height i
earlier-lower i a h = go (ltb a i) refl
  where
    go : (t : Bool) → ltb a i ≡ t → height (cond t a nothing) < height i
    go true e =
        let l : a < i = ltb-true a i e in
        rw (lt-ltb i max_records h, lt-ltb a max_records (omega arith)) (omega arith)
    go false e = rw (lt-ltb i max_records h) (omega arith)

-- what two functions share on lower numbers they share on the arguments
pub forest-arguments :
    (f g : ℕ → Term) (i : ℕ) → i < max_records → ((a : ℕ) → height a < height i → f a ≡ g a) → (l : List ℕ) →
    forest f (arguments i l) ≡ forest g (arguments i l)
unfolding forest arguments
forest-arguments f g i h e [] = refl
forest-arguments f g i h e (a ∷ l) = ap₂ ◌▹◌ (e (earlier i a) (earlier-lower i a h)) (forest-arguments f g i h e l)

-- ---- the depth does not matter

-- a record with no bytes has no arguments
no_bytes :
    (f : ℕ → Term) (b : Bytes) (i : ℕ) → record_of b i ≡ [] →
    node i (record_of b i) (forest f (arguments i (numbers (arg_bytes (record_of b i))))) ≡ node i [] nil
unfolding forest arguments numbers
no_bytes f b i e = rw e

within-outside : (k : ℕ) (b : Bytes) (i : ℕ) → record_of b i ≡ [] → tree_within k b i ≡ node i [] nil
unfolding tree_within
within-outside zero b i e = refl
within-outside (suc k) b i e = no_bytes (tree_within k b) b i e

-- a record of height 0 has no bytes
low : (b : Bytes) (i : ℕ) → height i ≤ 0 → record_of b i ≡ []
low b i p = go (placed b i)
  where
    go : Placed b i → record_of b i ≡ []
    go (inside h) = absurd (omega (arith, height-inside i h))
    go (outside h e) = e

-- one step: the arguments' terms are the same
step :
    (j k : ℕ) (b : Bytes) (i : ℕ) → ((a : ℕ) → height a < height i → tree_within j b a ≡ tree_within k b a) →
    tree_within (suc j) b i ≡ tree_within (suc k) b i
unfolding tree_within
step j k b i same = go (placed b i)
  where
    go : Placed b i → tree_within (suc j) b i ≡ tree_within (suc k) b i
    go (inside h) =
        ap (node i (record_of b i)) (forest-arguments (tree_within j b) (tree_within k b) i h same (numbers (arg_bytes (record_of b i))))
    go (outside h e) = within-outside (suc j) b i e ∙ sym (within-outside (suc k) b i e)

pub within_same :
    (j k : ℕ) (b : Bytes) (i : ℕ) → height i ≤ j → height i ≤ k → tree_within j b i ≡ tree_within k b i
within_same zero k b i p q = within-outside 0 b i (low b i p) ∙ sym (within-outside k b i (low b i p))
within_same (suc j) zero b i p q = within-outside (suc j) b i (low b i q) ∙ sym (within-outside 0 b i (low b i q))
within_same (suc j) (suc k) b i p q = step j k b i (λ a h. within_same j k b a (omega arith) (omega arith))

height-le : (i : ℕ) → height i ≤ suc i
height-le i = go (ltb i max_records)
  where
    go : (t : Bool) → cond t (suc i) 0 ≤ suc i
    go true = omega arith
    go false = omega arith

-- ---- the term of a record

pub tree-node :
    (b : Bytes) (i : ℕ) →
    tree b i ≡ node i (record_of b i) (forest (tree b) (arguments i (numbers (arg_bytes (record_of b i)))))
unfolding tree tree_within
tree-node b i = go (placed b i)
  where
    go :
        Placed b i →
        tree b i ≡ node i (record_of b i) (forest (tree b) (arguments i (numbers (arg_bytes (record_of b i)))))
    go (inside h) =
        ap (node i (record_of b i))
        (forest-arguments (tree_within i b) (tree b) i h
        (λ a l. within_same i (suc a) b a (omega (arith, height-inside i h)) (height-le a)) (numbers (arg_bytes (record_of b i))))
    go (outside h e) = no_bytes (tree_within i b) b i e ∙ sym (no_bytes (tree b) b i e)

-- ---- a term depends on its record and earlier ones alone

within-agree :
    (k : ℕ) (b c : Bytes) (i : ℕ) → ((j : ℕ) → j ≤ i → record_of b j ≡ record_of c j) →
    tree_within k b i ≡ tree_within k c i
unfolding tree_within
within-agree zero b c i same = refl
within-agree (suc k) b c i same =
    rw (same i (omega arith)) (go (placed c i) (λ a l. within-agree k b c a (λ j p. same j (omega arith))))
  where
    go :
        Placed c i → ((a : ℕ) → a < i → tree_within k b a ≡ tree_within k c a) →
        node i (record_of c i) (forest (tree_within k b) (arguments i (numbers (arg_bytes (record_of c i))))) ≡ tree_within (suc k) c i
    go (outside h e) below = no_bytes (tree_within k b) c i e ∙ sym (no_bytes (tree_within k c) c i e)
    go (inside h) below =
        ap (node i (record_of c i))
        (forest-arguments (tree_within k b) (tree_within k c) i h (λ a l. lower a l (placed b a)) (numbers (arg_bytes (record_of c i))))
      where
        lower : (a : ℕ) → height a < height i → Placed b a → tree_within k b a ≡ tree_within k c a
        lower a l (inside p) = below a (omega (arith, height-inside a p, height-inside i h))
        lower a l (outside p e) = within-outside k b a e ∙ sym (within-outside k c a (low c a (omega arith)))

pub tree-agree : (b c : Bytes) (i : ℕ) → ((j : ℕ) → j ≤ i → record_of b j ≡ record_of c j) → tree b i ≡ tree c i
unfolding tree
tree-agree b c i = within-agree (suc i) b c i

-- ---- bytes that are appended change no record and no term

module _ (b t : Bytes) where
  pub count_append : count b ≤ count (b ++ t)
  count_append = omega (arith, length-append b t)

  pub record_of_append : (i : ℕ) → i < count b → record_of (b ++ t) i ≡ record_of b i
  record_of_append i h =
      let start : drop (32 * i) (b ++ t) ≡ drop (32 * i) b ++ t = drop-append-le (32 * i) b t (omega arith) in
      let long : 32 ≤ length (drop (32 * i) b) = rw (length-drop (32 * i) b) (omega arith) in
      record_of-inside (b ++ t) i (omega (arith, count_append))
      ∙ ap (take 32) start
      ∙ take-append-le 32 (drop (32 * i) b) t long
      ∙ sym (record_of-inside b i h)

  pub tree_append : (i : ℕ) → i < count b → tree (b ++ t) i ≡ tree b i
  tree_append i h = tree-agree (b ++ t) b i (λ j l. record_of_append j (omega arith))
