-- Loops that write the n entries of an area, for every book of which the bytes hold a map at the start. (A loop that
-- only reads them goes by EntryPlaces.) Before entry k the map is in two parts, the entries that are passed and those
-- that are left, and P says what they have to do with the definition's result.
--     Turn, Next, Over       before entry k, with the entry that is next, and at the end
--     Loop       the invariant, for every book
--     begin, at, put       at the start, at an entry, past it written
--     over, cleared       at the end, after all is blanked
use mathlib.Core.Path.{◌≡◌, refl, sym, ◌∙◌, ap}
use mathlib.Core.List.{[], ◌∷◌, ◌++◌, append-nil}
use Prim.Native.Nat.{ℕ, ◌+◌, ◌*◌, ◌≤◌, ◌<◌}
use native.Mathlib.Omega.{arith}
use lib.ListN.{length, length-append}
use lib.Seq.{append_snoc}
use Rattle.numbers.specs.Rational.{Rational, Proper}
use Rattle.numbers.specs.Bytes.{Bytes, le, number_at}
use Rattle.terms.specs.Term.{Term, record_number}
use Rattle.index_map.specs.IndexMap.{Map}
use Rattle.index_map.specs.Memory.Entries.{entries_of, put_entry, blanked, Held, Kept}
use Rattle.index_map.proofs.StoredEntries.{kept-entries, read-key, read-value, write-value, clear_all}

-- ---- one book

pub record Turn (P : Map Term → Map Term → Type 0) (b w : Bytes) (n k : ℕ) : Type 0 where
  pub done : Map Term
  pub rest : Map Term
  pub held : Held b w (done ++ rest)
  pub here : length done ≡ k
  pub all : length (done ++ rest) ≡ n
  pub stands : P done rest

-- v is the value of entry k
pub record Next (P : Map Term → Map Term → Type 0) (b w : Bytes) (n k : ℕ) (v : Rational) : Type 0 where
  pub done : Map Term
  pub term : Term
  pub rest : Map Term
  pub held : Held b w (done ++ (term, v) ∷ rest)
  pub here : length done ≡ k
  pub all : length (done ++ (term, v) ∷ rest) ≡ n
  pub stands : P done ((term, v) ∷ rest)

pub record Over (P : Map Term → Map Term → Type 0) (b w : Bytes) (n : ℕ) : Type 0 where
  pub map : Map Term
  pub held : Held b w map
  pub size : n ≡ length map
  pub stands : P map []

started :
    {P : Map Term → Map Term → Type 0} {b w : Bytes} {n : ℕ} → Kept b w n → P [] (entries_of b w n) → Turn P b w n 0
started kept stands =
    record {
      done = [];
      rest = kept.map;
      held = kept.held;
      here = refl;
      all = sym kept.size;
      stands = rw (kept-entries kept) at stands;
    }

nothing : (r : Map Term) → length r ≡ 0 → r ≡ []
nothing [] h = refl
nothing (e ∷ r) h = absurd (omega arith)

module _ {P : Map Term → Map Term → Type 0} {b w : Bytes} {n k : ℕ} where
  finished : Turn P b w n k → n ≤ k → Over P b w n
  finished t above =
      let none : t.rest ≡ [] = nothing t.rest (omega (arith, simp length-append at t.all, t.here)) in
      let e : t.done ++ t.rest ≡ t.done = rw (none, append-nil) in
      record {
        map = t.done;
        held = rw e at t.held;
        size = rw e at (sym t.all);
        stands = rw none at t.stands;
      }

  next : Turn P b w n k → k < n → (v : Rational) → v ≡ number_at w (10 * k + 2) → Next P b w n k v
  next t below v is = go t.rest t.held t.all t.stands
    where
      go : (r : Map Term) → Held b w (t.done ++ r) → length (t.done ++ r) ≡ n → P t.done r → Next P b w n k v
      go [] held all stands = absurd (omega (arith, t.here, ap length (append-nil t.done)))
      go (e ∷ r) held all stands =
          let read : number_at w (10 * k + 2) ≡ e.1 = rw t.here at (read-value t.done e r held) in
          let same : v ≡ e.1 = is ∙ read in
          record {
            done = t.done;
            term = e.0;
            rest = r;
            held = rw same held;
            here = t.here;
            all = rw same all;
            stands = rw same stands;
          }

  module _ {v : Rational} (x : Next P b w n k v) where
    -- the entry is passed, and has the value q
    after :
        {w' : Bytes} (q : Rational) → Held b w' (x.done ++ (x.term, q) ∷ x.rest) →
        P (x.done ++ (x.term, q) ∷ []) x.rest → Turn P b w' n (k + 1)
    after q held stands =
        let e : x.done ++ ((x.term, q) ∷ []) ++ x.rest ≡ x.done ++ (x.term, q) ∷ x.rest =
        append_snoc x.done (x.term, q) x.rest in
        record {
          done = x.done ++ (x.term, q) ∷ [];
          rest = x.rest;
          held = rw e held;
          here = simp length-append (omega (arith, x.here));
          all = simp length-append (omega (arith, simp length-append at x.all));
          stands = stands;
        }

    written :
        {w' : Bytes} (key : ℕ) (q : Rational) → key ≡ le 2 w (10 * k) → Proper q → w' ≡ put_entry w k key q →
        Held b w' (x.done ++ (x.term, q) ∷ x.rest)
    written {w'} key q key-is proper wrote =
        let read = read-key x.done (x.term, v) x.rest x.held in
        let e : w' ≡ put_entry w (length x.done) (record_number x.term) q = cc (read, x.here) in
        rw e (write-value x.done (x.term, v) x.rest x.held q proper)

-- ---- every book

abbrev pub Progress : Type 1
Progress = Bytes → Map Term → Map Term → Type 0

pub record Loop (P : Progress) (w₀ : Bytes) (n : ℕ) (w : Bytes) (k : ℕ) : Type 0 where
  pub inside : k ≤ n
  pub size : length w ≡ length w₀
  pub turn : (b : Bytes) → Kept b w₀ n → Turn (P b) b w n k

pub begin : {P : Progress} {w : Bytes} {n : ℕ} → ((b : Bytes) → P b [] (entries_of b w n)) → Loop P w n w 0
begin first = record { inside = omega arith; size = refl; turn = λ b kept. started kept (first b) }

module _ {P : Progress} {w₀ : Bytes} {n : ℕ} {w : Bytes} {k : ℕ} (loop : Loop P w₀ n w k) where
  pub over : n ≤ k → (b : Bytes) → Kept b w₀ n → Over (P b) b w n
  over above b kept = finished (loop.turn b kept) above

  pub cleared : {w' : Bytes} → w' ≡ blanked n w → (b : Bytes) → Kept b w₀ n → Held b w' []
  cleared e b kept =
      let t = loop.turn b kept in
      rw (e, ← t.all) (clear_all (t.done ++ t.rest) t.held)

  -- v is the value of entry k
  module _ (below : k < n) {v : Rational} (is : v ≡ number_at w (10 * k + 2)) where
    pub at : (b : Bytes) → Kept b w₀ n → Next (P b) b w n k v
    at b kept = next (loop.turn b kept) below v is

    pub put :
        {key : ℕ} {q : Rational} {w' : Bytes} → key ≡ le 2 w (10 * k) → Proper q → w' ≡ put_entry w k key q →
        length w' ≡ length w →
        ((b : Bytes) (d : Map Term) (t : Term) (r : Map Term) → P b d ((t, v) ∷ r) → P b (d ++ (t, q) ∷ []) r) →
        Loop P w₀ n w' (k + 1)
    put {key} {q} {w'} key-is proper wrote same step =
        record {
          inside = omega arith;
          size = same ∙ loop.size;
          turn = λ b kept.
              let x = at b kept in
              after x q (written x key q key-is proper wrote) (step b x.done x.term x.rest x.stands);
        }
