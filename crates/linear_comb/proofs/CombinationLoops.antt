-- The loops of `neg` and `scale_all` at entry k: what the definition yields of the whole map M is what is done, and
-- behind it what it yields of the entries that are left.
use Rattle.rules.specs.declared.refusal.Refusal.TheVariants.{NumberRange}
use mathlib.Core.Path.{◌≡◌, refl, sym, ◌∙◌, ap}
use mathlib.Core.List.{[], ◌∷◌, ◌++◌, append-nil}
use Prim.Native.Nat.{ℕ}
use lib.Seq.{append_snoc}
use Rattle.numbers.specs.Rational.{Rational, mul_q, neg_q, checked}
use Rattle.numbers.specs.Bytes.{Bytes}
use Rattle.terms.specs.Term.{Term}
use Rattle.rules.specs.Refusal.{Result, ◌>>=◌}
use Rattle.std.specs.Prelude.{Ok, Err, Some, None}
use Rattle.rules.specs.Limits.{limited}
use Rattle.index_map.specs.IndexMap.{Map, neg_all, scale_all}
use Rattle.index_map.specs.Memory.Entries.{Held, Inserts}
use Rattle.linear_comb.proofs.EntryLoops.{Over}
use Rattle.index_map.proofs.CheckedNumbers.{times-value, times_out}

-- ---- neg

abbrev pub Negates : Map Term → Map Term → Map Term → Type 0
Negates M d r = neg_all M ≡ d ++ neg_all r

pub negates_next :
    (M d : Map Term) (t : Term) (v q : Rational) (r : Map Term) → q ≡ neg_q v → Negates M d ((t, v) ∷ r) →
    Negates M (d ++ (t, q) ∷ []) r
unfolding neg_all
negates_next M d t v q r is h = rw (append_snoc d (t, q) (neg_all r), is) h

pub negates_all : {b w : Bytes} {n : ℕ} (M : Map Term) → Over (Negates M) b w n → Held b w (neg_all M)
unfolding neg_all
negates_all M o = rw (o.stands, append-nil o.map) o.held

-- ---- scale_all

abbrev pub Scales : Rational → Map Term → Map Term → Map Term → Type 0
Scales q M d r = (l : ℕ) → scale_all (limited l) q M ≡ (scale_all (limited l) q r >>= λ m. Ok (d ++ m))

pub scales_first : (q : Rational) (M : Map Term) → Scales q M [] M
unfolding ◌>>=◌
scales_first q M l = go (scale_all (limited l) q M)
  where
    go : (x : Result (Map Term)) → x ≡ (x >>= λ m. Ok m)
    go (Ok m) = refl
    go (Err c) = refl

pub scales_all :
    {b w : Bytes} {n : ℕ} (q : Rational) (M : Map Term) → Over (Scales q M) b w n → (l : ℕ) →
    Inserts b w (Ok n) (scale_all (limited l) q M)
unfolding scale_all ◌>>=◌
scales_all q M o l =
    record { map = o.map; held = o.held; is = (o.stands l ∙ ap Ok (append-nil o.map), o.size) }

-- an entry behind d
behind :
    (d : Map Term) (e : Term × Rational) (x : Result (Map Term)) →
    (x >>= (λ m. Ok (e ∷ m)) >>= λ m. Ok (d ++ m)) ≡ (x >>= λ m. Ok (d ++ (e ∷ []) ++ m))
unfolding ◌>>=◌
behind d e (Ok m) = ap Ok (sym (append_snoc d e m))
behind d e (Err c) = refl

module _ (p : Rational) (M d : Map Term) (t : Term) (v : Rational) (r : Map Term) (h : Scales p M d ((t, v) ∷ r)) where
  pub scales_next : (q : Rational) → checked (mul_q v p) ≡ Some q → Scales p M (d ++ (t, q) ∷ []) r
  unfolding scale_all ◌>>=◌
  scales_next q e l = h l ∙ rw (times-value l v p q e) (behind d (t, q) (scale_all (limited l) p r))

  pub scales_out :
      {b w : Bytes} → checked (mul_q v p) ≡ None → Held b w [] → (l : ℕ) →
      Inserts b w (Err NumberRange) (scale_all (limited l) p M)
  unfolding scale_all ◌>>=◌
  scales_out e held l = record { map = []; held = held; is = (h l ∙ rw (times_out l v p e), refl) }
