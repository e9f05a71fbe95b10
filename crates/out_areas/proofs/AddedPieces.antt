-- The two pieces of an inferred number: an A record behind the run, and a constant behind those of the tail.
--     arg-longer, arg-full, arg-written, arg_unwritten       an A record
--     constant-room, constant-longer, constant-full, constant-written, constant_unwritten       a constant
use mathlib.Core.Path.{◌≡◌, refl, sym, ap, ap₂, subst, ◌∙◌}
use mathlib.Core.Bool.{Bool, true, false, ◌&&◌}
use mathlib.Core.List.{List, [], ◌∷◌, ◌++◌, append_assoc, append-nil}
use Prim.Native.Nat.{ℕ, ◌+◌, ◌*◌, ◌-◌, ◌/◌, ◌%◌, ◌≤◌}
use native.Mathlib.Omega.{arith}
use lib.Dec.{leb}
use lib.ListN.{length, take, drop, length-append}
use lib.Seq.{paste}
use Rattle.numbers.specs.Rational.{Rational, Proper}
use Rattle.numbers.specs.Bytes.{Bytes, bytes_of}
use Rattle.terms.specs.Book.{count}
use Rattle.runs.specs.Run.{A, record_bytes, end, also}
use Rattle.out_areas.specs.Farkas.{Written, real_record, tail_bytes, fits}
use Rattle.out_areas.specs.Memory.OutAreas.{Stored, WritesOne, with_arg, with_constant}
use Rattle.out_areas.specs.declared.out_areas.Out.{Out}
use Rattle.out_areas.proofs.Everywhere.{every_append}
use Rattle.out_areas.proofs.RealRecord.{length-real}
use Rattle.out_areas.proofs.OutAreas.{Fit, fit_of, fits_of, unfit, Longer, holds-stored, stored-holds}
use Rattle.out_areas.proofs.OutAreas.{fronts-same, backs-same, both-le, not-both}
use Rattle.out_areas.proofs.Pieces.{more-full, lies_more, lies-full, writes-full, put-length, put_front}
use Rattle.out_areas.proofs.Pieces.{put-before, put-behind, writes-run, unwritten_run}

-- ---- an A record

-- the bytes that the code puts
abbrev arg_bytes : ℕ → Bytes
arg_bytes n = A ∷ 0 ∷ n % 256 ∷ n / 256 % 256 ∷ []

pub arg-longer : (n : ℕ) (w : Written) → Longer w (with_arg n w)
arg-longer n w = record { run = omega (arith, length-append w.run (record_bytes A 0 n)); tail = omega arith }

module _ (b o t : Bytes) (out : Out) (n : ℕ) where
  pub arg-full : out.full ≡ true → WritesOne b o t out o t out (with_arg n)
  arg-full e = writes-full b o t out (with_arg n) _ e (arg-longer n) (more-full _ _)

  -- r is the code's test
  module _ (e : out.full ≡ false) {r : Bool} (goes : r ≡ (leb (out.run + 4) (length o) && leb (out.run + 4) 16384)) where
    pub arg-written :
        {o' : Bytes} → r ≡ true → o' ≡ paste o out.run (arg_bytes n) 4 →
        WritesOne b o t out o' t record { run = out.run + 4; tail = out.tail; full = out.full } (with_arg n)
    unfolding bytes_of
    arg-written h p =
        let x = both-le (out.run + 4) (length o) 16384 goes h in
        subst
        (λ o'. WritesOne b o t out o' t record { run = out.run + 4; tail = out.tail; full = out.full } (with_arg n))
        (sym p)
        (writes-run b o t out e (arg_bytes n) refl x.0 x.1)

    pub arg_unwritten :
        r ≡ false → WritesOne b o t out o t record { run = out.run; tail = out.tail; full = true } (with_arg n)
    unfolding bytes_of
    arg_unwritten h =
        unwritten_run b o t out e (arg_bytes n) refl (not-both (out.run + 4) (length o) 16384 goes h)

-- ---- a constant

tail_snoc : (qs : List Rational) (q : Rational) → tail_bytes (qs ++ q ∷ []) ≡ tail_bytes qs ++ real_record q
unfolding tail_bytes
tail_snoc [] q = append-nil (real_record q)
tail_snoc (r ∷ qs) q =
    ap (λ x. real_record r ++ x) (tail_snoc qs q) ∙ sym (append_assoc (real_record r) (tail_bytes qs) (real_record q))

length_snoc : (qs : List Rational) (q : Rational) → length (qs ++ q ∷ []) ≡ length qs + 1
length_snoc qs q = length-append qs (q ∷ [])

pub constant-room :
    (q : Rational) {x : Bytes} (at m n : ℕ) {r : Bool} → r ≡ (leb (at + 32) m && leb (at + 32) n) → r ≡ true →
    x ≡ real_record q → at + length x ≤ m
constant-room q {x} at m n goes h put =
    omega (arith, (both-le (at + 32) m n goes h).0, ap length put ∙ length-real q)

pub constant-longer : (q : Rational) (w : Written) → Longer w (with_constant q w)
constant-longer q w = record { run = omega arith; tail = omega (arith, length_snoc w.tail q) }

module _ (b o t : Bytes) (out : Out) (q : Rational) where
  pub constant-full : out.full ≡ true → WritesOne b o t out o t out (with_constant q)
  constant-full e = writes-full b o t out (with_constant q) _ e (constant-longer q) (more-full _ _)

  -- the code counts n records; r is its test
  module _ (e : out.full ≡ false) (n : ℕ) (counted : n ≡ count b)
      {r : Bool} (goes : r ≡ (leb (out.tail + 32) (length t) && leb (out.tail + 32) (65536 - 32 * n))) where
    pub constant-written :
        {t' x : Bytes} → Proper q → r ≡ true → x ≡ real_record q → t' ≡ paste t out.tail x (length x) →
        WritesOne b o t out o t' record { run = out.run; tail = out.tail + 32; full = out.full } (with_constant q)
    constant-written {t'} {x} proper h put pasted =
        record {
          fronts = record { run = refl; tail = ap (take out.tail) p ∙ put-before t out.tail (real_record q) room };
          grows = record { run = omega arith; tail = omega arith };
          backs = record { run = refl; tail = back };
          run_length = refl;
          tail_length = size;
          holds = λ w g. stored-holds b o t' out' (with_constant q w) e (stored w (holds-stored b o t out w e g));
          lies = λ s g. lies_more e (with_constant q) s g out' e refl size (stored s.done g.stored);
        }
      where
        least : out.tail + 32 ≤ 65536 - 32 * n
        least = (both-le (out.tail + 32) (length t) _ goes h).1

        p : t' ≡ paste t out.tail (real_record q) (length (real_record q))
        p = pasted ∙ ap (λ x. paste t out.tail x (length x)) put

        room : out.tail + length (real_record q) ≤ length t
        room = constant-room q out.tail (length t) _ goes h refl

        size : length t' ≡ length t
        size = ap length p ∙ put-length t out.tail (real_record q) room

        front : take (out.tail + 32) t' ≡ take out.tail t ++ real_record q
        front =
            ap₂ (λ n x. take (out.tail + n) x) (sym (length-real q)) p ∙ put_front t out.tail (real_record q) room

        back : drop (out.tail + 32) t' ≡ drop (out.tail + 32) t
        back =
            ap (λ n. drop (out.tail + n) t') (sym (length-real q))
            ∙ ap (drop (out.tail + length (real_record q))) p
            ∙ put-behind t out.tail (real_record q) room
            ∙ ap (λ n. drop (out.tail + n) t) (length-real q)

        out' : Out
        out' = record { run = out.run; tail = out.tail + 32; full = out.full }

        stored : (w : Written) → Stored b o t out w → Stored b o t' out' (with_constant q w)
        stored w s =
            let f : Fit b (length o) (length t) w = fit_of s.room in
            let more = length_snoc w.tail q in
            record {
              room =
                  fits_of
                  record {
                    run = f.run;
                    tail = omega (arith, more, size, s.tail_size, room, length-real q);
                    book = omega (arith, more, s.tail_size, least, counted);
                    records = f.records;
                  };
              run = s.run;
              run_size = s.run_size;
              whole = s.whole;
              tail = front ∙ ap (λ x. x ++ real_record q) s.tail ∙ sym (tail_snoc w.tail q);
              tail_size = omega (arith, more, s.tail_size);
              proper = every_append w.tail (q ∷ []) s.proper (also proper end);
            }

    pub constant_unwritten :
        r ≡ false → WritesOne b o t out o t record { run = out.run; tail = out.tail; full = true } (with_constant q)
    constant_unwritten h =
        record {
          fronts = fronts-same;
          grows = record { run = omega arith; tail = omega arith };
          backs = backs-same;
          run_length = refl;
          tail_length = refl;
          holds = λ w g. unfits w (holds-stored b o t out w e g);
          lies = λ s g. lies-full e (with_constant q) s g (unfits s.done g.stored);
        }
      where
        unfits : (w : Written) → Stored b o t out w → fits b (length o) (length t) (with_constant q w) ≡ false
        unfits w s =
            let more = length_snoc w.tail q in
            unfit λ f.
            not-both (out.tail + 32) (length t) (65536 - 32 * n) goes h (omega (arith, more, s.tail_size, f.tail))
            (omega (arith, more, s.tail_size, f.book, counted))
