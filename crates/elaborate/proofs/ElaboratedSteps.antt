-- The steps that elaboration writes can be read back over the book with its tail (`elaborated-writable`). Each number
-- that a step infers is found in the book or has a place in the tail (`steps-placed`), so its constant is a term of
-- the longer book (`real_in_book`). The accepted steps are the first of the run, and the terms of the book are terms
-- of the longer book.
use Rattle.runs.specs.declared.rule.Rule.TheVariants.{Assume}
use mathlib.Core.Path.{◌≡◌, refl, sym, ◌∙◌, ap, subst}
use mathlib.Core.Bool.{Bool, true, false}
use mathlib.Core.List.{List, [], ◌∷◌, ◌++◌}
use Rattle.std.specs.Prelude.{Option, Some, None}
use Prim.Native.Nat.{ℕ, suc, ◌+◌, ◌<◌}
use native.Mathlib.Omega.{arith}
use lib.ListN.{length, length-append, get_or}
use Rattle.numbers.specs.Rational.{Rational, eq_q}
use Rattle.numbers.specs.Bytes.{Bytes}
use Rattle.terms.specs.Term.{Term, record_number}
use Rattle.terms.specs.Term.Term.{integer, rational, bitvector, atom, op}
use Rattle.terms.specs.Book.{count, tree, read_book}
use Rattle.numbers.proofs.Truths.{never}
use Rattle.numbers.proofs.Rationals.{eq_q-eq}
use Rattle.book.proofs.Accepted.{accepted-count}
use Rattle.terms.proofs.NumberedNodes.{record_number-tree}
use Rattle.rules.specs.Limits.{Limits}
use Rattle.runs.specs.Run.{Step, Every, end, also}
use Rattle.marking.specs.Check.{Marking}
use Rattle.elaborate.specs.Elaborate.{add_steps}
use Rattle.out_areas.specs.Farkas.{Written, written, is_real, find_real, place_in, add_real, add_reals, step_bytes, tail_bytes}
use Rattle.marking.proofs.Turns.{Marks, ends, stops, goes_on}
use Rattle.runs.proofs.RowRecords.{InBook}
use Rattle.elaborate.proofs.EachRule.{laws}
use Rattle.elaborate.proofs.WrittenRuns.{Writable, AllWritable}
use Rattle.elaborate.proofs.WrittenRuns.AllWritable.{none as no_step, one as one_step}
use Rattle.elaborate.proofs.WrittenSteps.{Added, in_book, in_tail, at_end, added, place_in_append, place_in-new}
use Rattle.elaborate.proofs.WrittenSteps.{place_of, real_at, reals, reals_grow, elaborated_step, elaborated_steps}
use Rattle.elaborate.proofs.WrittenSteps.{steps_grow}
use Rattle.out_areas.proofs.FoundReals.{found-real}
use Rattle.out_areas.proofs.Everywhere.{every_append, every-weaker}
use Rattle.elaborate.proofs.TailBook.{TailOf, tail-count, tail-old, tail-new}
use Rattle.std.specs.Prelude.{Ok}

-- ---- each number has a place

-- a number that the book lacks stands in the tail
abbrev pub Placed : Bytes → List Rational → Rational → Type 0
Placed b t q = find_real (count b) b q 0 ≡ None → place_in t q < length t

module _ (b : Bytes) where
  placed_append : (t u : List Rational) (q : Rational) → Placed b t q → Placed b (t ++ u) q
  placed_append t u q h e = let l = h e in omega (arith, l, place_in_append t u q l, length-append t u)

  placed-longer : (t v more : List Rational) → v ≡ t ++ more → (q : Rational) → Placed b t q → Placed b v q
  placed-longer t v more e q h = subst (λ x. Placed b x q) (sym e) (placed_append t more q h)

  added-placed : (w : Written) (q : Rational) {v : Written} → Added b w q v → Placed b v.tail q
  added-placed w q (in_book e) f = let z : ◌≡◌ {A = ℕ} 0 1 = cc in absurd (omega arith)
  added-placed w q (in_tail e h) f = h
  added-placed w q (at_end e h) f = omega (arith, place_in-new w.tail q h, length-append w.tail (q ∷ []))

  reals-placed : (qs : List Rational) (w : Written) → Every (Placed b (add_reals b w qs).tail) qs
  unfolding add_reals
  reals-placed [] w = end
  reals-placed (q ∷ qs) w =
      let v = add_real b w q in
      let g = reals_grow b qs v in
      also (placed-longer v.tail _ g.more g.tail q (added-placed w q (added b w q))) (reals-placed qs v)

  pub steps-placed :
      (xs : List (Step × List Rational)) (w : Written) (u : List Rational) →
      Every (λ x. Every (Placed b ((add_steps b w xs).tail ++ u)) x.1) xs
  unfolding add_steps
  steps-placed [] w u = end
  steps-placed ((s, qs) ∷ xs) w u =
      let v = written (w.run ++ step_bytes s) w.tail in
      let x = add_reals b v qs in
      let g = steps_grow b xs x in
      let t = (add_steps b x xs).tail in
      also
      (every-weaker (λ q h. placed_append t u q (placed-longer x.tail t g.more g.tail q h)) qs
      (reals-placed qs v))
      (steps-placed xs x u)

-- ---- the constant of a number is a term of the longer book

real_is : (t : Term) (q : Rational) → is_real q t ≡ true → t ≡ rational (record_number t) q
real_is (integer i v) q e = never e
real_is (rational i r) q e = ap (rational i) (sym (eq_q-eq q r e))
real_is (bitvector i v w) q e = never e
real_is (atom i s n) q e = never e
real_is (op i o ts) q e = never e

number_at_place : (t : List Rational) (q d : Rational) → place_in t q < length t → get_or t (place_in t q) d ≡ q
unfolding place_in
number_at_place [] q d h = absurd (omega (arith, h))
number_at_place (r ∷ t) q d h = go (eq_q r q) refl (number_at_place t q d) h
  where
    go :
        (e : Bool) → eq_q r q ≡ e → (place_in t q < length t → get_or t (place_in t q) d ≡ q) →
        let k : ℕ = elim e as (λ z. ℕ) [ true ↦ 0 | false ↦ suc (place_in t q) ] in
        k < suc (length t) → get_or (r ∷ t) k d ≡ q
    go true f rest h = eq_q-eq r q f
    go false f rest h = rest (omega (arith, h))

module _ (b : Bytes) (n : ℕ) (read : read_book b ≡ Ok n) (T : List Rational) (t : TailOf b n T) where
  abbrev longer : Bytes
  longer = b ++ tail_bytes T

  old-inside : (i : ℕ) → i < count b → i < count longer
  old-inside i h = omega (arith, h, accepted-count b n read, tail-count b n read T t)

  old-stays : (i : ℕ) → i < count b → tree longer i ≡ tree b i
  old-stays i h = tail-old b n read T t i (omega (arith, h, accepted-count b n read))

  pub real_in_book : (q : Rational) → Placed b T q → InBook longer (real_at b T q)
  unfolding place_of
  real_in_book q p = go (find_real (count b) b q 0) refl
    where
      go :
          (o : Option ℕ) → find_real (count b) b q 0 ≡ o →
          InBook longer (rational (elim o as (λ z. ℕ) [ Some i ↦ i | None ↦ count b + place_in T q ]) q)
      go (Some i) e =
          let f = found-real (count b) b q 0 i e in
          let h : i < count b = omega (arith, f.0) in
          record {
            number = i;
            inside = old-inside i h;
            is =
                ap (λ (k : ℕ). rational k q) (sym (record_number-tree b i))
                ∙ sym (real_is (tree b i) q f.1)
                ∙ sym (old-stays i h);
          }
      go None e =
          let k : place_in T q < length T = p e in
          let c = accepted-count b n read in
          record {
            number = count b + place_in T q;
            inside = omega (arith, k, c, tail-count b n read T t);
            is =
                subst (λ (m : ℕ). rational (m + place_in T q) q ≡ tree longer (m + place_in T q)) c
                (sym
                (tail-new b n read T t (place_in T q) k q ∙ ap (rational (n + place_in T q)) (number_at_place T q q k)));
          }

  in_longer : (x : Term) → InBook b x → InBook longer x
  in_longer x h =
      record {
        number = h.number;
        inside = old-inside h.number h.inside;
        is = h.is ∙ sym (old-stays h.number h.inside);
      }

  reals_in_book : (qs : List Rational) → Every (Placed b T) qs → Every (InBook longer) (reals b T qs)
  reals_in_book [] end = end
  reals_in_book (q ∷ qs) (also h hs) = also (real_in_book q h) (reals_in_book qs hs)

  -- ---- the steps

  step_in_book :
      (k : ℕ) (s : Step) (qs : List Rational) → Writable b k s → Every (Placed b T) qs → (s.rule ≡ Assume → qs ≡ []) →
      Writable longer k (elaborated_step b T s qs)
  step_in_book k s qs w p alone =
      record {
        premises = w.premises;
        clause = every-weaker (λ x h. (in_longer x h.0, h.1)) s.clause w.clause;
        args = every_append s.args (reals b T qs) (every-weaker in_longer s.args w.args) (reals_in_book qs p);
        assumed = λ e.
            let z = (laws s.rule [] [] []).infers.assumed e in
            let a = w.assumed z in
            (a.0, a.1, ap (λ (xs : List Term). xs ++ reals b T qs) a.2 ∙ ap (reals b T) (alone z));
      }

  pub elaborated-writable :
      {l : Limits} {run ss : List Step} {n k : ℕ} {m : Marking} → Marks l run ss n m → AllWritable b k ss →
      Every (λ x. Every (Placed b T) x.1) m.steps → Every (λ x. x.0.rule ≡ Assume → x.1 ≡ []) m.steps →
      AllWritable longer k (elaborated_steps b T m.steps)
  unfolding elaborated_steps
  elaborated-writable ends w p alone = no_step
  elaborated-writable (stops y) w p alone = no_step
  elaborated-writable {k = k} (goes_on {s = s} {a = a} y ms) (one_step w ws) (also p ps) (also f fs) =
      one_step (step_in_book k s a.inferred w p f) (elaborated-writable ms ws ps fs)
