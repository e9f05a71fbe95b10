-- What elaboration writes, as steps (`steps_grow`): each accepted step with rule 6 turned to 5 and the numbers that
-- it inferred behind its arguments, as real constants of the book or of the tail. A constant keeps its place when the
-- tail grows.
--     place_of, reals       the record of a number, and the constants of some
--     elaborated_steps       the steps that are written
use mathlib.Core.Path.{◌≡◌, refl, sym, ◌∙◌, ap}
use mathlib.Core.Bool.{Bool, true, false}
use mathlib.Core.List.{List, [], ◌∷◌, ◌++◌, append_assoc, append-nil}
use Rattle.std.specs.Prelude.{Option, Some, None}
use Prim.Native.Nat.{ℕ, suc, ◌+◌, ◌<◌, ◌≤◌}
use native.Mathlib.Omega.{arith}
use borrow.Author.Tests.{ltb-true, ltb-false}
use lib.Dec.{ltb}
use lib.ListN.{length, length-append}
use Rattle.numbers.specs.Rational.{Rational, eq_q}
use Rattle.numbers.specs.Bytes.{Bytes}
use Rattle.terms.specs.Term.{Term, record_number}
use Rattle.terms.specs.Term.Term.{rational}
use Rattle.terms.specs.Book.{count}
use Rattle.numbers.proofs.Rationals.{eq_q-refl}
use Rattle.runs.specs.Rule.{rule_number}
use Rattle.runs.specs.Run.{Step, S, C, A, step, record_bytes, premise_bytes, term_bytes}
use Rattle.elaborate.specs.Elaborate.{add_steps}
use Rattle.out_areas.specs.Farkas.{Written, written, find_real, place_in, with_tail, add_real, add_reals}
use Rattle.out_areas.specs.Farkas.{elaborated_rule, step_bytes}
use Rattle.elaborate.proofs.WrittenRuns.{plain_bytes, run_bytes}

-- ---- places in a tail

-- by whether the first is the number, and its place in the rest
abbrev place_on : Bool → ℕ → ℕ
place_on e k = elim e [ true ↦ 0 | false ↦ suc k ]

pub place_in_append :
    (t u : List Rational) (q : Rational) → place_in t q < length t → place_in (t ++ u) q ≡ place_in t q
unfolding place_in
place_in_append [] u q h = absurd (omega (arith, h))
place_in_append (r ∷ t) u q h = go (eq_q r q) (place_in_append t u q) h
  where
    go :
        (e : Bool) → (place_in t q < length t → place_in (t ++ u) q ≡ place_in t q) →
        place_on e (place_in t q) < suc (length t) →
        place_on e (place_in (t ++ u) q) ≡ place_on e (place_in t q)
    go true k h = refl
    go false k h = ap suc (k (omega (arith, h)))

-- a number that is not in the tail stands behind it
pub place_in-new :
    (t : List Rational) (q : Rational) → length t ≤ place_in t q → place_in (t ++ q ∷ []) q ≡ length t
unfolding place_in
place_in-new [] q h = rw (eq_q-refl q, place_in)
place_in-new (r ∷ t) q h = go (eq_q r q) (place_in-new t q) h
  where
    go :
        (e : Bool) → (length t ≤ place_in t q → place_in (t ++ q ∷ []) q ≡ length t) →
        suc (length t) ≤ place_on e (place_in t q) →
        place_on e (place_in (t ++ q ∷ []) q) ≡ suc (length t)
    go true k h = absurd (omega (arith, h))
    go false k h = ap suc (k (omega (arith, h)))

place_in-le : (t : List Rational) (q : Rational) → place_in t q ≤ length t
unfolding place_in
place_in-le [] q = omega arith
place_in-le (r ∷ t) q = go (eq_q r q) (place_in-le t q)
  where
    go : (e : Bool) → place_in t q ≤ length t → place_on e (place_in t q) ≤ suc (length t)
    go true k = omega arith
    go false k = omega (arith, k)

-- ---- one number

-- a number is written as an argument: the book has it, the tail has it, or it is added to the tail
pub data Added (b : Bytes) (w : Written) (q : Rational) : Written → Type 0 where
  in_book :
      {i : ℕ} → find_real (count b) b q 0 ≡ Some i → Added b w q (written (w.run ++ record_bytes A 0 i) w.tail)
  in_tail :
      find_real (count b) b q 0 ≡ None → place_in w.tail q < length w.tail →
      Added b w q (written (w.run ++ record_bytes A 0 (count b + place_in w.tail q)) w.tail)
  at_end :
      find_real (count b) b q 0 ≡ None → length w.tail ≤ place_in w.tail q →
      Added b w q (written (w.run ++ record_bytes A 0 (count b + place_in w.tail q)) (w.tail ++ q ∷ []))

pub added : (b : Bytes) (w : Written) (q : Rational) → Added b w q (add_real b w q)
unfolding add_real
added b w q = found (find_real (count b) b q 0) refl
  where
    placed :
        (c : Bool) → ltb (place_in w.tail q) (length w.tail) ≡ c → find_real (count b) b q 0 ≡ None →
        Added b w q
        (written (w.run ++ record_bytes A 0 (count b + place_in w.tail q))
        (elim c as (λ z. List Rational) [ true ↦ w.tail | false ↦ w.tail ++ q ∷ [] ]))
    placed true e f = in_tail f (ltb-true _ _ e)
    placed false e f = at_end f (ltb-false _ _ e)

    found :
        (o : Option ℕ) → find_real (count b) b q 0 ≡ o →
        Added b w q
        (elim o as (λ z. Written) [
          | Some i ↦ written (w.run ++ record_bytes A 0 i) w.tail
          | None ↦ written (w.run ++ record_bytes A 0 (count b + place_in w.tail q)) (with_tail w.tail q)
        ])
    found (Some i) e = in_book e
    found None e = placed (ltb (place_in w.tail q) (length w.tail)) refl e

module _ (b : Bytes) where
  -- where a number stands that is found in the book, or not
  unfoldable pub place_of : List Rational → Rational → ℕ
  place_of t q = elim (find_real (count b) b q 0) [ Some i ↦ i | None ↦ count b + place_in t q ]

  abbrev pub real_at : List Rational → Rational → Term
  real_at t q = rational (place_of t q) q

  -- ---- all numbers, all steps

  abbrev pub reals : List Rational → List Rational → List Term
  reals t [] = []
  reals t (q ∷ qs) = real_at t q ∷ reals t qs

  abbrev pub elaborated_step : List Rational → Step → List Rational → Step
  elaborated_step t s qs = step (elaborated_rule s.rule) s.premises s.clause (s.args ++ reals t qs)

  unfoldable pub elaborated_steps : List Rational → List (Step × List Rational) → List Step
  elaborated_steps t [] = []
  elaborated_steps t ((s, qs) ∷ xs) = elaborated_step t s qs ∷ elaborated_steps t xs

  -- the tail grows at its end, and what is written is right by every longer tail
  pub record Grows (w w' : Written) (bytes : List Rational → Bytes) : Type 0 where
    pub more : List Rational
    pub tail : w'.tail ≡ w.tail ++ more
    pub run : (u : List Rational) → w'.run ≡ w.run ++ bytes (w'.tail ++ u)

  nothing-grows : (w : Written) → Grows w w (λ t. [])
  nothing-grows w = record { more = []; tail = sym (append-nil w.tail); run = λ u. sym (append-nil w.run) }

  -- one behind the other
  both_grow :
      (w v x : Written) (f g : List Rational → Bytes) → Grows w v f → Grows v x g → Grows w x (λ t. f t ++ g t)
  both_grow w v x f g h k =
      record {
        more = h.more ++ k.more;
        tail = k.tail ∙ ap (λ t. t ++ k.more) h.tail ∙ append_assoc w.tail h.more k.more;
        run = λ u.
            let e : v.tail ++ (k.more ++ u) ≡ x.tail ++ u =
            sym (append_assoc v.tail k.more u) ∙ ap (λ t. t ++ u) (sym k.tail) in
            k.run u
            ∙ ap (λ r. r ++ g (x.tail ++ u)) (h.run (k.more ++ u) ∙ ap (λ t. w.run ++ f t) e)
            ∙ append_assoc w.run (f (x.tail ++ u)) (g (x.tail ++ u));
      }

  -- an argument of which the number's place is right in every longer tail
  arg-grows :
      (w : Written) (q : Rational) (i : ℕ) (more t : List Rational) → t ≡ w.tail ++ more →
      ((u : List Rational) → place_of (t ++ u) q ≡ i) →
      Grows w (written (w.run ++ record_bytes A 0 i) t) (λ t. record_bytes A 0 (place_of t q))
  arg-grows w q i more t e h =
      record { more = more; tail = e; run = λ u. ap (λ k. w.run ++ record_bytes A 0 k) (sym (h u)) }

  real-added :
      (w : Written) (q : Rational) {v : Written} → Added b w q v → Grows w v (λ t. record_bytes A 0 (place_of t q))
  unfolding place_of
  real-added w q (in_book e) = arg-grows w q _ [] w.tail (sym (append-nil w.tail)) λ u. rw (e, place_of)
  real-added w q (in_tail e h) =
      arg-grows w q _ [] w.tail (sym (append-nil w.tail)) λ u. rw (e, place_of, place_in_append w.tail u q h)
  real-added w q (at_end e h) =
      let t : List Rational = w.tail ++ q ∷ [] in
      let n = place_in-new w.tail q h in
      let k : place_in w.tail q ≡ length w.tail = omega (arith, h, place_in-le w.tail q) in
      let l : place_in t q < length t = omega (arith, n, length-append w.tail (q ∷ [])) in
      arg-grows w q _ (q ∷ []) t refl λ u. rw (e, place_of, place_in_append t u q l, n, k)

  pub real-grows : (w : Written) (q : Rational) → Grows w (add_real b w q) (λ t. record_bytes A 0 (place_of t q))
  real-grows w q = real-added w q (added b w q)

  pub reals_grow :
      (qs : List Rational) (w : Written) → Grows w (add_reals b w qs) (λ t. term_bytes A (reals t qs))
  unfolding add_reals term_bytes
  reals_grow [] w = nothing-grows w
  reals_grow (q ∷ qs) w = both_grow w (add_real b w q) _ _ _ (real-grows w q) (reals_grow qs (add_real b w q))

  term_bytes_append : (m : ℕ) (ts us : List Term) → term_bytes m (ts ++ us) ≡ term_bytes m ts ++ term_bytes m us
  unfolding term_bytes
  term_bytes_append m [] us = refl
  term_bytes_append m (t ∷ ts) us =
      ap (λ r. record_bytes m 0 (record_number t) ++ r) (term_bytes_append m ts us)
      ∙ sym (append_assoc (record_bytes m 0 (record_number t)) (term_bytes m ts) (term_bytes m us))

  -- a step's own bytes, and the constants behind its arguments
  step-bytes :
      (s : Step) (ts : List Term) →
      plain_bytes (step (elaborated_rule s.rule) s.premises s.clause (s.args ++ ts))
      ≡ step_bytes s ++ term_bytes A ts
  unfolding plain_bytes step_bytes
  step-bytes s ts =
      let h = record_bytes S (rule_number (elaborated_rule s.rule)) 0 in
      let p = premise_bytes s.premises in
      let c = term_bytes C s.clause in
      let a = term_bytes A s.args in
      ap (λ r. h ++ (p ++ (c ++ r))) (term_bytes_append A s.args ts)
      ∙ ap (λ r. h ++ (p ++ r)) (sym (append_assoc c a (term_bytes A ts)))
      ∙ ap (λ r. h ++ r) (sym (append_assoc p (c ++ a) (term_bytes A ts)))
      ∙ sym (append_assoc h (p ++ (c ++ a)) (term_bytes A ts))

  pub steps_grow :
      (xs : List (Step × List Rational)) (w : Written) →
      Grows w (add_steps b w xs) (λ t. run_bytes (elaborated_steps t xs))
  unfolding add_steps run_bytes elaborated_steps
  steps_grow [] w = nothing-grows w
  steps_grow ((s, qs) ∷ xs) w =
      let v = written (w.run ++ step_bytes s) w.tail in
      let start : Grows w v (λ t. step_bytes s) =
      record { more = []; tail = sym (append-nil w.tail); run = λ u. refl } in
      let h = both_grow w v (add_reals b v qs) _ _ start (reals_grow qs v) in
      let k = both_grow w (add_reals b v qs) _ _ _ h (steps_grow xs (add_reals b v qs)) in
      record {
        more = k.more;
        tail = k.tail;
        run = λ u.
            let t = (add_steps b (add_reals b v qs) xs).tail ++ u in
            k.run u ∙ ap (λ r. w.run ++ (r ++ run_bytes (elaborated_steps t xs))) (sym (step-bytes s (reals t qs)));
      }
