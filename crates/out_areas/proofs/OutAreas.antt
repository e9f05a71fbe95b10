-- The out areas while a run is elaborated.
--     fronts-same, fronts-then, grows_same, grows_then, backs-same, backs-then, writes_then       one write after another
--     holds-back       a refused step is taken back by the counts
--     none_fits, holds_none       before the first step
--     holds-stored, stored-holds, holds-unfit, unfit-holds       `Holds` where the areas are not full, and where they are
--     both-le, not-both       the code's test
--     Fit, fit_of, fits_of, unfit, unfit-longer       `fits` as inequalities; what is longer than what does not fit does not fit
use mathlib.Core.Path.{◌≡◌, refl, sym, ap, ap₂, subst, ◌∙◌}
use mathlib.Core.Bool.{Bool, true, false, ◌&&◌}
use mathlib.Core.List.{[]}
use Prim.Native.Nat.{ℕ, ◌+◌, ◌*◌, ◌-◌, ◌/◌, ◌≤◌}
use native.Mathlib.Omega.{arith}
use borrow.Author.Tests.{leb-true, le-leb}
use lib.Dec.{leb}
use lib.ListN.{length, take, drop}
use lib.Seq.{take-take, drop-drop}
use Rattle.numbers.specs.Bytes.{Bytes}
use Rattle.terms.specs.Book.{count}
use Rattle.terms.specs.Format.{max_records}
use Rattle.numbers.proofs.Truths.{both, never}
use Rattle.out_areas.specs.Farkas.{Written, written, tail_bytes, fits}
use Rattle.runs.specs.Run.{end}
use Rattle.out_areas.specs.Memory.OutAreas.{Stored, Holds, Fronts, Grows, Backs, Writing, Writes}
use Rattle.out_areas.specs.declared.out_areas.Out.{Out}

-- ---- what fits

-- the code's test of an end: inside its area, and inside a limit
module _ (k m n : ℕ) {r : Bool} (e : r ≡ (leb k m && leb k n)) where
  pub both-le : r ≡ true → (k ≤ m) × (k ≤ n)
  both-le h = let x = both (leb k m) (leb k n) (sym e ∙ h) in (leb-true k m x.0, leb-true k n x.1)

  pub not-both : r ≡ false → k ≤ m → k ≤ n → ⊥
  not-both h x y = never (sym h ∙ e ∙ ap₂ ◌&&◌ (le-leb k m x) (le-leb k n y))

pub record Fit (b : Bytes) (m n : ℕ) (w : Written) : Type 0 where
  pub run : length w.run ≤ m
  pub tail : 32 * length w.tail ≤ n
  pub book : count b + length w.tail ≤ 2048
  pub records : length w.run / 4 ≤ 4096

module _ {b : Bytes} {m n : ℕ} {w : Written} where
  pub fit_of : fits b m n w ≡ true → Fit b m n w
  unfolding fits
  fit_of e =
      let x = both (leb (length w.run) m && leb (32 * length w.tail) n) _ e in
      let y = both (leb (length w.run) m) _ x.0 in
      let z = both (leb (count b + length w.tail) max_records) _ x.1 in
      record {
        run = leb-true _ _ y.0;
        tail = leb-true (32 * length w.tail) n y.1;
        book = leb-true (count b + length w.tail) 2048 z.0;
        records = leb-true (length w.run / 4) 4096 z.1;
      }

  pub fits_of : Fit b m n w → fits b m n w ≡ true
  unfolding fits
  fits_of f =
      rw (
        le-leb (length w.run) m f.run,
        le-leb (32 * length w.tail) n f.tail,
        le-leb (count b + length w.tail) 2048 f.book,
        le-leb (length w.run / 4) 4096 f.records,
      )

  pub unfit : (Fit b m n w → ⊥) → fits b m n w ≡ false
  unfit none = go (fits b m n w) refl
    where
      go : (t : Bool) → fits b m n w ≡ t → fits b m n w ≡ false
      go true e = absurd (none (fit_of e))
      go false e = e

-- at least as much is written
pub record Longer (w v : Written) : Type 0 where
  pub run : length w.run ≤ length v.run
  pub tail : length w.tail ≤ length v.tail

pub unfit-longer :
    (b : Bytes) (m n : ℕ) {w v : Written} → Longer w v → fits b m n w ≡ false → fits b m n v ≡ false
unfit-longer b m n {w} {v} l h =
    unfit λ f.
    never
    (sym h
    ∙ fits_of
    record {
      run = omega (arith, l.run, f.run);
      tail = omega (arith, l.tail, f.tail);
      book = omega (arith, l.tail, f.book);
      records = omega (arith, l.run, f.records);
    })

-- ---- one write after another

pub fronts-same : {out : Out} {o t : Bytes} → Fronts out o o t t
fronts-same = record { run = refl; tail = refl }

-- a shorter front stays too
shorter : {m n : ℕ} (x y : Bytes) → m ≤ n → take n y ≡ take n x → take m y ≡ take m x
shorter {m} {n} x y l e = sym (take-take m n y l) ∙ ap (take m) e ∙ take-take m n x l

pub fronts-then :
    {out r : Out} {o o' o'' t t' t'' : Bytes} → Fronts out o o' t t' → Grows out r → Fronts r o' o'' t' t'' →
    Fronts out o o'' t t''
fronts-then {o' = o'} {o''} {t' = t'} {t''} f g h =
    record { run = shorter o' o'' g.run h.run ∙ f.run; tail = shorter t' t'' g.tail h.tail ∙ f.tail }

pub grows_same : {out : Out} → Grows out out
grows_same = record { run = omega arith; tail = omega arith }

pub grows_then : {out r s : Out} → Grows out r → Grows r s → Grows out s
grows_then g h = record { run = omega (arith, g.run, h.run); tail = omega (arith, g.tail, h.tail) }

pub backs-same : {r : Out} {o t : Bytes} → Backs r o o t t
backs-same = record { run = refl; tail = refl }

-- what lies further behind stays too
pub further : {m n : ℕ} (x y : Bytes) → m ≤ n → drop m y ≡ drop m x → drop n y ≡ drop n x
further {m} {n} x y l e =
    let same : m + (n - m) ≡ n = omega (arith, l) in
    ap (λ k. drop k y) (sym same) ∙ sym (drop-drop (n - m) m y) ∙ ap (drop (n - m)) e ∙ drop-drop (n - m) m x
    ∙ ap (λ k. drop k x) same

pub backs-then :
    {r s : Out} {o o' o'' t t' t'' : Bytes} → Backs r o o' t t' → Grows r s → Backs s o' o'' t' t'' → Backs s o o'' t t''
backs-then {o = o} {o'} {t = t} {t'} x g y =
    record { run = y.run ∙ further o o' g.run x.run; tail = y.tail ∙ further t t' g.tail x.tail }

pub writes_then :
    {b o o' o'' t t' t'' : Bytes} {out r s : Out} {f g : Written → Written} {f' g' : Writing → Writing} →
    Writes b o t out o' t' r f f' → Writes b o' t' r o'' t'' s g g' →
    Writes b o t out o'' t'' s (λ w. g (f w)) (λ z. g' (f' z))
writes_then {f = f} {f' = f'} x y =
    record {
      fronts = fronts-then x.fronts x.grows y.fronts;
      grows = grows_then x.grows y.grows;
      backs = backs-then x.backs y.grows y.backs;
      run_length = y.run_length ∙ x.run_length;
      tail_length = y.tail_length ∙ x.tail_length;
      holds = λ w h. y.holds (f w) (x.holds w h);
      lies = λ z h. y.lies (f' z) (x.lies z h);
    }

-- ---- full or not

module _ (b o t : Bytes) (out : Out) (w : Written) where
  abbrev HoldsAt : Bool → Type 0
  HoldsAt x = elim x [ true ↦ fits b (length o) (length t) w ≡ false | false ↦ Stored b o t out w ]

  pub holds-stored : out.full ≡ false → Holds b o t out w → Stored b o t out w
  holds-stored e h = subst HoldsAt e h

  pub stored-holds : out.full ≡ false → Stored b o t out w → Holds b o t out w
  stored-holds e h = subst HoldsAt (sym e) h

  pub holds-unfit : out.full ≡ true → Holds b o t out w → fits b (length o) (length t) w ≡ false
  holds-unfit e h = subst HoldsAt e h

  pub unfit-holds : out.full ≡ true → fits b (length o) (length t) w ≡ false → Holds b o t out w
  unfit-holds e h = subst HoldsAt (sym e) h

pub holds-back :
    (b : Bytes) {o o' t t' : Bytes} (out : Out) (w : Written) → Fronts out o o' t t' → length o' ≡ length o →
    length t' ≡ length t → Holds b o t out w → Holds b o' t' out w
holds-back b {o} {o'} {t} {t'} out w f e e' h = go out.full refl
  where
    same : fits b (length o') (length t') w ≡ fits b (length o) (length t) w
    same = ap₂ (λ m n. fits b m n w) e e'

    go : (x : Bool) → out.full ≡ x → Holds b o' t' out w
    go true g = unfit-holds b o' t' out w g (same ∙ holds-unfit b o t out w g h)
    go false g =
        let s = holds-stored b o t out w g h in
        stored-holds b o' t' out w g
        record {
          room = same ∙ s.room;
          run = f.run ∙ s.run;
          run_size = s.run_size;
          whole = s.whole;
          tail = f.tail ∙ s.tail;
          tail_size = s.tail_size;
          proper = s.proper;
        }

pub none_fits : (b : Bytes) (m n : ℕ) → fits b m n (written [] []) ≡ true
none_fits b m n =
    fits_of (record { run = omega arith; tail = omega arith; book = omega arith; records = omega arith })

pub holds_none :
    (b o t : Bytes) → Holds b o t (record { run = 0; tail = 0; full = false }) (written [] [])
unfolding tail_bytes
holds_none b o t =
    record {
      room = none_fits b (length o) (length t);
      run = refl;
      run_size = refl;
      whole = refl;
      tail = refl;
      tail_size = refl;
      proper = end;
    }
