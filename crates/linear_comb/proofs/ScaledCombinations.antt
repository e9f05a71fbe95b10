-- The answers of `mul`, one for each way it returns: from what the code knows there, the area holds what the definition
-- says.
use Rattle.rules.specs.declared.refusal.Refusal.{Refusal}
use Rattle.rules.specs.declared.refusal.Refusal.TheVariants.{NumberRange}
use Rattle.std.specs.Prelude.{Err, Ok, None, Some}
use mathlib.Core.Path.{◌≡◌, refl, sym, ◌∙◌}
use mathlib.Core.Bool.{true, false}
use mathlib.Core.List.{[], ◌∷◌}
use Prim.Native.Nat.{ℕ}
use native.Mathlib.Omega.{arith}
use lib.IntN.{pos}
use lib.ListN.{length}
use Rattle.numbers.specs.Rational.{Rational, Proper, whole, mul_q, is_zero, eq_q, checked}
use Rattle.numbers.specs.Bytes.{Bytes}
use Rattle.terms.specs.Term.{Term}
use Rattle.rules.specs.Refusal.{◌>>=◌}
use Rattle.rules.specs.Limits.{Limits, limited, times}
use Rattle.index_map.specs.IndexMap.{Map, scale_all}
use Rattle.linear_comb.specs.LinearComb.{mul}
use Rattle.linear_comb.specs.Memory.WorkArea.{Sum, comb_of, KeptSum, Combines}
use Rattle.index_map.specs.Memory.Answers.{nothing}
use Rattle.index_map.specs.Memory.Entries.{entries_of, blanked, Kept, Inserts}
use Rattle.index_map.proofs.CheckedNumbers.{times-value, times_out, whole-proper}
use Rattle.index_map.proofs.StoredEntries.{kept-entries, clear_all}
use Rattle.linear_comb.proofs.AreaSteps.{kept-cleared}
use Rattle.rules.proofs.Yields.{Yields, gives, and_then, past, at_ok}

-- an entry for an entry
scaled-length :
    (l : Limits) (q : Rational) (M : Map Term) → Yields (λ m. length m ≡ length M) (scale_all l q M)
unfolding scale_all
scaled-length l q [] = gives refl
scaled-length l q (e ∷ M) =
    past (times l e.1 q) λ v. and_then (scaled-length l q M) λ m h. gives (omega arith)

kept-length : {b w : Bytes} {n : ℕ} → Kept b w n → length (entries_of b w n) ≡ n
kept-length kept = rw (kept-entries kept, kept.size)

module _ {b w : Bytes} {s : Sum} (kept : KeptSum b w s) (q : Rational) (l : ℕ) where
  pub times_zero :
      {w' : Bytes} {z : Sum} → is_zero q ≡ true → w' ≡ blanked s.len w → z ≡ nothing →
      Combines b w' (Ok z) (mul (limited l) (comb_of b w s) q)
  unfolding mul
  times_zero zero clear z-is =
      rw z-is
      (record {
        map = [];
        held = kept-cleared kept.kept clear;
        is = (rw (zero, mul), record { size = refl; proper = whole-proper (pos 0) (omega arith) });
      })

  module _ (nonzero : is_zero q ≡ false) where
    pub times_one_lem : eq_q q (whole (pos 1)) ≡ true → Combines b w (Ok s) (mul (limited l) (comb_of b w s) q)
    unfolding mul
    times_one_lem one =
        record {
          map = kept.kept.map;
          held = kept.kept.held;
          is = (rw (nonzero, one, mul, kept-entries kept.kept), record { size = kept.kept.size; proper = kept.proper });
        }

    module _ (other : eq_q q (whole (pos 1)) ≡ false) {w' : Bytes} where
      pub entry_out :
          {r : Refusal} → Inserts b w' (Err r) (scale_all (limited l) q (entries_of b w s.len)) →
          Combines b w' (Err r) (mul (limited l) (comb_of b w s) q)
      unfolding mul ◌>>=◌
      entry_out out =
          record { map = out.map; held = out.held; is = (rw (nonzero, other, mul, out.is.0), out.is.1) }

      module _ {n : ℕ} (all : Inserts b w' (Ok n) (scale_all (limited l) q (entries_of b w s.len))) where
        size : s.len ≡ length all.map
        size =
            sym (at_ok (scaled-length (limited l) q (entries_of b w s.len)) all.is.0 ∙ kept-length kept.kept)

        pub constant_out :
            {w'' : Bytes} → checked (mul_q s.constant q) ≡ None → w'' ≡ blanked s.len w' →
            Combines b w'' (Err NumberRange) (mul (limited l) (comb_of b w s) q)
        unfolding mul ◌>>=◌
        constant_out out clear =
            record {
              map = [];
              held = rw (clear, size) (clear_all all.map all.held);
              is = (rw (nonzero, other, mul, all.is.0, times_out l s.constant q out), refl);
            }

        pub scaled :
            {c : Rational} → checked (mul_q s.constant q) ≡ Some c → Proper c →
            Combines b w' (Ok (record { len = s.len; constant = c })) (mul (limited l) (comb_of b w s) q)
        unfolding mul ◌>>=◌
        scaled {c} is proper =
            record {
              map = all.map;
              held = all.held;
              is = (
                rw (nonzero, other, mul, all.is.0, times-value l s.constant q c is),
                record { size = size; proper = proper },
              );
            }
