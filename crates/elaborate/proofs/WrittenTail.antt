-- The tail that elaboration writes can stand behind the book (`tail_written`): its constants are numbers that were
-- inferred, the book lacks each, since it was looked for there, and they differ, since each was looked for in the tail
-- before it was added.
use mathlib.Core.Path.{◌≡◌, refl, subst}
use mathlib.Core.Bool.{Bool, true, false}
use mathlib.Core.List.{List, [], ◌∷◌, ◌++◌}
use Rattle.std.specs.Prelude.{Option, Some, None}
use Prim.Native.Nat.{ℕ, zero, suc, ◌+◌, ◌<◌, ◌≤◌}
use mathlib.Core.Logic.{⊎_elim}
use native.Mathlib.Nat.{eq-or-lt_of_le}
use native.Mathlib.Omega.{arith}
use lib.ListN.{length}
use Rattle.numbers.specs.Rational.{Rational, eq_q}
use Rattle.numbers.specs.Bytes.{Bytes}
use Rattle.terms.specs.Book.{count, tree}
use Rattle.runs.specs.Run.{Step, Every, end, also}
use Rattle.elaborate.specs.Elaborate.{add_steps}
use Rattle.out_areas.specs.Farkas.{Written, is_real, find_real, place_in, add_real, add_reals}
use Rattle.out_areas.proofs.RealRecord.{Storable, Lacks}
use Rattle.elaborate.proofs.WrittenSteps.{Added, in_book, in_tail, at_end, added}
use Rattle.elaborate.proofs.TailBook.{Differ}
use Rattle.out_areas.proofs.Everywhere.{every_append}
use Rattle.elaborate.proofs.TailBook.Differ.{none as no_more, one as one_more}

-- ---- the book lacks what is not found in it

not_found :
    (k : ℕ) (b : Bytes) (q : Rational) (i : ℕ) → find_real k b q i ≡ None → (j : ℕ) → i ≤ j → j < i + k →
    is_real q (tree b j) ≡ false
unfolding find_real
not_found zero b q i e j l h = absurd (omega (arith, l, h))
not_found (suc k) b q i e j l h = go (is_real q (tree b i)) refl e (not_found k b q (suc i))
  where
    go :
        (t : Bool) → is_real q (tree b i) ≡ t →
        ◌≡◌ {A = Option ℕ} (elim t [ true ↦ Some i | false ↦ find_real k b q (suc i) ]) None →
        (find_real k b q (suc i) ≡ None → (j : ℕ) → suc i ≤ j → j < suc i + k → is_real q (tree b j) ≡ false) →
        is_real q (tree b j) ≡ false
    go true f e rest = let z : ◌≡◌ {A = ℕ} 0 1 = cc in absurd (omega arith)
    go false f e rest =
        ⊎_elim (λ p. subst (λ x. is_real q (tree b x) ≡ false) p f) (λ p. rest e j p (omega (arith, h)))
        (eq-or-lt_of_le l)

-- ---- a number that has no place in the tail differs from all in it

no_place : (t : List Rational) (q : Rational) → length t ≤ place_in t q → Every (λ r. eq_q r q ≡ false) t
unfolding place_in
no_place [] q h = end
no_place (r ∷ t) q h = go (eq_q r q) refl (no_place t q) h
  where
    go :
        (e : Bool) → eq_q r q ≡ e → (length t ≤ place_in t q → Every (λ r. eq_q r q ≡ false) t) →
        suc (length t) ≤ elim e as (λ z. ℕ) [ true ↦ 0 | false ↦ suc (place_in t q) ] →
        Every (λ r. eq_q r q ≡ false) (r ∷ t)
    go true f rest h = absurd (omega (arith, h))
    go false f rest h = also f (rest (omega (arith, h)))

differ_snoc :
    (t : List Rational) (q : Rational) → Differ t → Every (λ r. eq_q r q ≡ false) t → Differ (t ++ q ∷ [])
differ_snoc [] q d h = one_more end no_more
differ_snoc (r ∷ t) q (one_more x d) (also h hs) =
    one_more (every_append t (q ∷ []) x (also h end)) (differ_snoc t q d hs)

-- ---- the tail as it grows

pub record GoodTail (b : Bytes) (t : List Rational) : Type 0 where
  pub storable : Every Storable t
  pub lacks : Every (Lacks b (count b)) t
  pub differ : Differ t

module _ (b : Bytes) where
  real-good :
      (w : Written) (q : Rational) {v : Written} → Added b w q v → Storable q → GoodTail b w.tail →
      GoodTail b v.tail
  real-good w q (in_book e) s g = g
  real-good w q (in_tail e h) s g = g
  real-good w q (at_end e h) s g =
      let lacks : Lacks b (count b) q = λ j l. not_found (count b) b q 0 e j (omega arith) (omega (arith, l)) in
      record {
        storable = every_append w.tail (q ∷ []) g.storable (also s end);
        lacks = every_append w.tail (q ∷ []) g.lacks (also lacks end);
        differ = differ_snoc w.tail q g.differ (no_place w.tail q h);
      }

  reals-good :
      (qs : List Rational) (w : Written) → Every Storable qs → GoodTail b w.tail →
      GoodTail b (add_reals b w qs).tail
  unfolding add_reals
  reals-good [] w end g = g
  reals-good (q ∷ qs) w (also s ss) g = reals-good qs (add_real b w q) ss (real-good w q (added b w q) s g)

  pub steps-good :
      (xs : List (Step × List Rational)) (w : Written) → Every (λ x. Every Storable x.1) xs → GoodTail b w.tail →
      GoodTail b (add_steps b w xs).tail
  unfolding add_steps
  steps-good [] w end g = g
  steps-good ((s, qs) ∷ xs) w (also h hs) g = steps-good xs _ hs (reals-good qs _ h g)

  pub no_tail-good : GoodTail b []
  no_tail-good = record { storable = end; lacks = end; differ = no_more }
