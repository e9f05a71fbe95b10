-- One piece that is written to the out areas, and the functions that write one.
--     more-full, more-fits, more-unfit, more_runs       a piece by whether the areas take it
--     writes_as, writes-full       another name of what is written; nothing more is written where the areas are full
--     recounted, lies_more, lies-full       what lies in the areas after a piece
--     put-length, put_front, put-before, put-behind       bytes put into an area
--     writes-run, unwritten_run       bytes behind those of the run, where there is room for them and where there is none
use mathlib.Core.Path.{◌≡◌, refl, sym, ap, ap₂, subst, ◌∙◌}
use mathlib.Core.Bool.{Bool, true, false}
use mathlib.Core.List.{◌++◌}
use Prim.Native.Nat.{ℕ, ◌+◌, ◌%◌, ◌≤◌}
use native.Mathlib.Omega.{arith}
use lib.ListN.{length, take, drop, length-append}
use lib.Seq.{paste, take-take, take-length, take_at, length-take-le, take-paste, length-paste, drop-paste}
use Rattle.numbers.specs.Bytes.{Bytes}
use Rattle.out_areas.specs.Farkas.{Written, written, fits}
use Rattle.out_areas.specs.Memory.OutAreas.{Stored, Holds, Writing, writing, more, Lies, Writes, WritesOne}
use Rattle.out_areas.specs.declared.out_areas.Out.{Out}
use Rattle.out_areas.proofs.OutAreas.{Fit, fit_of, fits_of, unfit, Longer, unfit-longer, fronts-same, grows_same}
use Rattle.out_areas.proofs.OutAreas.{backs-same, holds-stored, stored-holds, holds-unfit, unfit-holds}

-- ---- a piece, by whether the areas take it

module _ (f : Written → Bool) (g : Written → Written) (s : Writing) where
  abbrev piece_by : Bool → Bool → Writing
  piece_by x y = elim x [ true ↦ s | false ↦ elim y [ true ↦ writing (g s.done) false | false ↦ writing s.done true ] ]

  piece_by_lem : {x y : Bool} → s.full ≡ x → f (g s.done) ≡ y → more f g s ≡ piece_by x y
  unfolding more
  piece_by_lem {x} {y} d e = ap (λ z. piece_by z (f (g s.done))) d ∙ ap (piece_by x) e

  pub more-full : s.full ≡ true → more f g s ≡ s
  more-full e = piece_by_lem e refl

  module _ (e : s.full ≡ false) where
    pub more-fits : f (g s.done) ≡ true → more f g s ≡ writing (g s.done) false
    more-fits h = piece_by_lem e h

    pub more-unfit : f (g s.done) ≡ false → more f g s ≡ writing s.done true
    more-unfit h = piece_by_lem e h

  -- the run does not become shorter
  pub more_runs :
      ((w : Written) → length w.run ≤ length (g w).run) → length s.done.run ≤ length (more f g s).done.run
  more_runs longer =
      subst (λ (z : Writing). length s.done.run ≤ length z.done.run) (sym (piece_by_lem refl refl))
      (go s.full (f (g s.done)))
    where
      go : (x y : Bool) → length s.done.run ≤ length (piece_by x y).done.run
      go true y = omega arith
      go false true = longer s.done
      go false false = omega arith

-- ---- one write

pub writes_as :
    {b o o' t t' : Bytes} {out r : Out} {f g : Written → Written} {f' g' : Writing → Writing} →
    Writes b o t out o' t' r f f' → ((w : Written) → Holds b o t out w → f w ≡ g w) →
    ((s : Writing) → Lies b o t out s → f' s ≡ g' s) → Writes b o t out o' t' r g g'
writes_as {b} {o' = o'} {t' = t'} {r = r} x e e' =
    record {
      fronts = x.fronts;
      grows = x.grows;
      backs = x.backs;
      run_length = x.run_length;
      tail_length = x.tail_length;
      holds = λ w h. subst (Holds b o' t' r) (e w h) (x.holds w h);
      lies = λ s h. subst (Lies b o' t' r) (e' s h) (x.lies s h);
    }

pub writes-full :
    (b o t : Bytes) (out : Out) (f : Written → Written) (f' : Writing → Writing) → out.full ≡ true →
    ((w : Written) → Longer w (f w)) → ((s : Writing) → s.full ≡ true → f' s ≡ s) → Writes b o t out o t out f f'
writes-full b o t out f f' e l stays =
    record {
      fronts = fronts-same;
      grows = grows_same;
      backs = backs-same;
      run_length = refl;
      tail_length = refl;
      holds = λ w h.
          unfit-holds b o t out (f w) e
          (unfit-longer b (length o) (length t) (l w) (holds-unfit b o t out w e h));
      lies = λ s h. subst (Lies b o t out) (sym (stays s (sym h.full ∙ e))) h;
    }

-- the same counts, in areas that are full
pub recounted :
    {b o t : Bytes} {out : Out} {w : Written} → Stored b o t out w →
    Stored b o t (record { run = out.run; tail = out.tail; full = true }) w
recounted s =
    record {
      room = s.room;
      run = s.run;
      run_size = s.run_size;
      whole = s.whole;
      tail = s.tail;
      tail_size = s.tail_size;
      proper = s.proper;
    }

-- a piece goes in, or it does not
module _ {b o t : Bytes} {out : Out} (e : out.full ≡ false) (g : Written → Written) (s : Writing) (h : Lies b o t out s) where
  pub lies_more :
      {o' t' : Bytes} (r : Out) → r.full ≡ false → length o' ≡ length o → length t' ≡ length t →
      Stored b o' t' r (g s.done) → Lies b o' t' r (more (fits b (length o) (length t)) g s)
  lies_more {o'} {t'} r free size size' stored =
      let takes : fits b (length o) (length t) (g s.done) ≡ true =
      ap₂ (λ m n. fits b m n (g s.done)) (sym size) (sym size') ∙ stored.room
      in
      subst (Lies b o' t' r) (sym (more-fits _ g s (sym h.full ∙ e) takes)) record { stored = stored; full = free }

  pub lies-full :
      fits b (length o) (length t) (g s.done) ≡ false →
      Lies b o t (record { run = out.run; tail = out.tail; full = true }) (more (fits b (length o) (length t)) g s)
  lies-full unfits =
      subst (Lies b o t (record { run = out.run; tail = out.tail; full = true }))
      (sym (more-unfit _ g s (sym h.full ∙ e) unfits))
      record { stored = recounted h.stored; full = refl }

-- what stands before the bytes that are put, and the bytes with it
module _ (x : Bytes) (at : ℕ) (p : Bytes) (h : at + length p ≤ length x) where
  pub put-length : length (paste x at p (length p)) ≡ length x
  put-length = length-paste x at p (length p) h (omega arith)

  pub put_front : take (at + length p) (paste x at p (length p)) ≡ take at x ++ p
  put_front =
      take-paste x at p (length p) (omega (arith, h)) (omega arith) ∙ ap (λ y. take at x ++ y) (take-length p)

  pub put-before : take at (paste x at p (length p)) ≡ take at x
  put-before =
      sym (take-take at (at + length p) _ (omega arith))
      ∙ ap (take at) put_front
      ∙ take_at (take at x) p at (length-take-le at x (omega (arith, h)))

  pub put-behind : drop (at + length p) (paste x at p (length p)) ≡ drop (at + length p) x
  put-behind = drop-paste x at p (length p) (omega (arith, h)) (omega arith)

module _ (b o t : Bytes) (out : Out) (e : out.full ≡ false) (p : Bytes) (k : length p % 4 ≡ 0) where
  run-size : (w : Written) → Stored b o t out w → length (w.run ++ p) ≡ out.run + length p
  run-size w s = length-append w.run p ∙ ap (λ n. n + length p) (sym s.run_size)

  abbrev with_bytes : Written → Written
  with_bytes w = written (w.run ++ p) w.tail

  pub writes-run :
      out.run + length p ≤ length o → out.run + length p ≤ 16384 →
      WritesOne b o t out (paste o out.run p (length p)) t
      record { run = out.run + length p; tail = out.tail; full = out.full }
      (λ w. written (w.run ++ p) w.tail)
  writes-run h l =
      record {
        fronts = record { run = put-before o out.run p h; tail = refl };
        grows = record { run = omega arith; tail = omega arith };
        backs = record { run = put-behind o out.run p h; tail = refl };
        run_length = put-length o out.run p h;
        tail_length = refl;
        holds = λ w g. stored-holds b o' t r (with_bytes w) e (stored w (holds-stored b o t out w e g));
        lies = λ s g. lies_more e with_bytes s g r e (put-length o out.run p h) refl (stored s.done g.stored);
      }
    where
      o' : Bytes
      o' = paste o out.run p (length p)

      r : Out
      r = record { run = out.run + length p; tail = out.tail; full = out.full }

      stored : (w : Written) → Stored b o t out w → Stored b o' t r (with_bytes w)
      stored w s =
          let size = run-size w s in
          let f : Fit b (length o) (length t) w = fit_of s.room in
          record {
            room =
                fits_of
                record {
                  run = omega (arith, size, put-length o out.run p h, h);
                  tail = f.tail;
                  book = f.book;
                  records = omega (arith, size, l);
                };
            run = put_front o out.run p h ∙ ap (λ x. x ++ p) s.run;
            run_size = sym size;
            whole = omega (arith, size, k, s.whole, s.run_size);
            tail = s.tail;
            tail_size = s.tail_size;
            proper = s.proper;
          }

  pub unwritten_run :
      (out.run + length p ≤ length o → out.run + length p ≤ 16384 → ⊥) →
      WritesOne b o t out o t record { run = out.run; tail = out.tail; full = true }
      (λ w. written (w.run ++ p) w.tail)
  unwritten_run over =
      record {
        fronts = fronts-same;
        grows = record { run = omega arith; tail = omega arith };
        backs = backs-same;
        run_length = refl;
        tail_length = refl;
        holds = λ w g. unfits w (holds-stored b o t out w e g);
        lies = λ s g. lies-full e with_bytes s g (unfits s.done g.stored);
      }
    where
      unfits : (w : Written) → Stored b o t out w → fits b (length o) (length t) (with_bytes w) ≡ false
      unfits w s =
          unfit λ f.
          over (omega (arith, run-size w s, f.run)) (omega (arith, run-size w s, f.records, k, s.whole, s.run_size))
