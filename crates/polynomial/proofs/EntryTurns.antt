-- A loop over the entries of a map, each of which is worked into an area of a stack: with the first k of n entries
-- worked in, what is left makes the whole (`Looping`). This is the loop of `mul_each`, `mul_left` and `insert_scaled`;
-- what each of them works in, and for which stacks, is a family of tasks.
use Rattle.std.specs.Prelude.{Ok, Err}
use mathlib.Core.Path.{◌≡◌, refl, sym, ◌∙◌, ap, subst}
use mathlib.Core.List.{List, [], ◌∷◌}
use Prim.Native.Nat.{ℕ, ◌+◌, ◌≤◌, ◌<◌}
use native.Mathlib.Numerals.{add-one}
use lib.ListN.{length, get_or, set, drop, drop_of_length-le}
use lib.Seq.{drop-cons, set-set}
use Rattle.numbers.specs.Rational.{Rational}
use Rattle.numbers.specs.Bytes.{Bytes}
use Rattle.rules.specs.Refusal.{Result, ◌>>=◌}
use Rattle.rules.specs.declared.refusal.Refusal.{Refusal}
use Rattle.index_map.specs.IndexMap.{Map}
use Rattle.polynomial.specs.Polynomial.{Monomial}
use Rattle.polynomial.specs.Memory.PolynomialArea.{places, Stacked, InsertsAt, no_entry}
use Rattle.rules.proofs.Results.{ends}

abbrev pub Turn : Type 0
Turn = Monomial × Rational → Map Monomial → Result (Map Monomial)

-- a turn for each entry
unfoldable pub turns : Turn → Map Monomial → Map Monomial → Result (Map Monomial)
turns f [] m = Ok m
turns f (e ∷ r) m = f e m >>= turns f r

-- all entries are to be worked into an area of a stack
pub record Task : Type 0 where
  pub book : Bytes
  pub areas : List (Map Monomial)
  pub into : ℕ
  pub turn : Turn
  pub all : Map Monomial
  pub whole : Result (Map Monomial)

-- the answer r and the bytes w are those of the task
abbrev pub Does : Task → Bytes → Result ℕ → Type 0
Does t w r = InsertsAt t.book w t.areas t.into r t.whole

-- the area has len entries, and the turns from entry k on make the whole of them
pub record Left (t : Task) (w : Bytes) (len k : ℕ) : Type 0 where
  pub map : Map Monomial
  pub held : Stacked t.book w (set t.areas t.into map)
  pub size : len ≡ length map
  pub is : turns t.turn (drop k t.all) map ≡ t.whole

-- the turn of entry k answers r
abbrev pub Turned : {t : Task} {w : Bytes} {len k : ℕ} → Left t w len k → Bytes → Result ℕ → Type 0
Turned {t} {k = k} left w r =
    InsertsAt t.book w (set t.areas t.into left.map) t.into r
    (t.turn (get_or t.all k no_entry) left.map)

module _ {t : Task} {w : Bytes} {len k : ℕ} (left : Left t w len k) where
  next :
      k < length t.all →
      (t.turn (get_or t.all k no_entry) left.map >>= turns t.turn (drop (k + 1) t.all)) ≡ t.whole
  unfolding turns
  next h =
      let first : drop k t.all ≡ get_or t.all k no_entry ∷ drop (k + 1) t.all =
      rw add-one (drop-cons t.all k no_entry h) in
      ap (λ z. turns t.turn z left.map) (sym first) ∙ left.is

  at_once :
      {w' : Bytes} (m : Map Monomial) →
      Stacked t.book w' (set (set t.areas t.into left.map) t.into m) →
      Stacked t.book w' (set t.areas t.into m)
  at_once {w'} m h = subst (Stacked t.book w') (set-set t.areas t.into left.map m) h

  left-more :
      {w' : Bytes} {longer : ℕ} → k < length t.all → Turned left w' (Ok longer) → Left t w' longer (k + 1)
  unfolding ◌>>=◌
  left-more h made =
      record {
        map = made.map;
        held = at_once made.map made.held;
        size = made.is.1;
        is = rw made.is.0 at (next h);
      }

  left-refused : {w' : Bytes} {r : Refusal} → k < length t.all → Turned left w' (Err r) → Does t w' (Err r)
  left-refused h made =
      record {
        map = made.map;
        held = at_once made.map made.held;
        is = (sym (next h) ∙ ends _ made.is.0, made.is.1);
      }

  left_none : length t.all ≤ k → Does t w (Ok len)
  unfolding turns
  left_none h =
      record {
        map = left.map;
        held = left.held;
        is = (
          sym left.is
              ∙ ap (λ z. turns t.turn z left.map) (drop_of_length-le t.all {i = k} h),
          left.size,
        );
      }

-- ---- the invariant: a family of tasks, since the code knows of no book and no stack

pub record Looping {I : Type 0} (task : I → Task) (w₀ : Bytes) (n : ℕ) (w : Bytes) (len k : ℕ) : Type 0 where
  pub few : len ≤ places
  pub size : length w ≡ length w₀
  pub left : (i : I) → Left (task i) w len k

module _ {I : Type 0} {task : I → Task} {w₀ : Bytes} {n : ℕ} where
  pub loop_begin : {m : ℕ} → m ≤ places → ((i : I) → Left (task i) w₀ m 0) → Looping task w₀ n w₀ m 0
  loop_begin few left = record { few = few; size = refl; left = left }

  module _ (many : (i : I) → n ≡ length (task i).all) {w : Bytes} {len k : ℕ} (loop : Looping task w₀ n w len k) where
    module _ (h : k < n) where
      here : (i : I) → k < length (task i).all
      here i = subst (λ z. k < z) (many i) h

      pub loop_more :
          {w' : Bytes} {longer : ℕ} → length w' ≡ length w → longer ≤ places →
          ((i : I) → Turned (loop.left i) w' (Ok longer)) → Looping task w₀ n w' longer (k + 1)
      loop_more size few turned =
          record {
            few = few;
            size = size ∙ loop.size;
            left = λ i. left-more (loop.left i) (here i) (turned i);
          }

      pub loop_refused :
          {w' : Bytes} {r : Refusal} → ((i : I) → Turned (loop.left i) w' (Err r)) → (i : I) → Does (task i) w' (Err r)
      loop_refused turned i = left-refused (loop.left i) (here i) (turned i)

    pub loop_done : n ≤ k → (i : I) → Does (task i) w (Ok len)
    loop_done h i = left_none (loop.left i) (subst (λ z. z ≤ k) (many i) h)
