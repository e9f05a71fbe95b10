-- An inferred number as an argument: what is written behind the run and the tail.
--     inside-tail, few_in_tail       the tail that is written is in front of its area, and has 2,048 constants at most
--     real-full, real_in_book, real_in_tail, real-added       `add_real`: full areas, and by where the constant stands
use mathlib.Core.Path.{◌≡◌, refl, sym, ap, ap₂, subst, ◌∙◌}
use mathlib.Core.Bool.{Bool, true, false}
use mathlib.Core.List.{List, [], ◌∷◌, ◌++◌}
use Rattle.std.specs.Prelude.{Option, Some, None, IfSome}
use Prim.Native.Nat.{ℕ, ◌+◌, ◌/◌, ◌≤◌, ◌<◌}
use native.Mathlib.Omega.{arith}
use borrow.Author.Tests.{lt-ltb, le-ltb}
use lib.Dec.{ltb}
use lib.ListN.{length, length-append}
use Rattle.numbers.specs.Rational.{Rational}
use Rattle.numbers.specs.Bytes.{Bytes}
use Rattle.terms.specs.Book.{count}
use Rattle.runs.specs.Run.{A, record_bytes}
use Rattle.out_areas.specs.Farkas.{Written, written, find_real, place_in, with_tail, add_real, fits, place_or}
use Rattle.out_areas.specs.Memory.OutAreas.{Stored, Holds, Writing, Writes, WritesOne, with_arg, with_constant, more}
use Rattle.out_areas.specs.Memory.OutAreas.{more_real}
use Rattle.out_areas.specs.declared.out_areas.Out.{Out}
use Rattle.out_areas.proofs.OutAreas.{Fit, fit_of, Longer, holds-stored, stored-holds, writes_then}
use Rattle.out_areas.proofs.Pieces.{more-full, more_runs, writes_as, writes-full}
use Rattle.out_areas.proofs.AddedPieces.{arg-longer, constant-longer}

-- ---- the place of a number in the tail

module _ (b o t : Bytes) (out : Out) (w : Written) (e : out.full ≡ false) (h : Holds b o t out w) where
  pub inside-tail : out.tail ≤ length t
  inside-tail =
      let s = holds-stored b o t out w e h in
      let f : Fit b (length o) (length t) w = fit_of s.room in
      omega (arith, f.tail, s.tail_size)

  pub few_in_tail : length w.tail ≤ 2048
  few_in_tail =
      let f : Fit b (length o) (length t) w = fit_of (holds-stored b o t out w e h).room in
      omega (arith, f.book)

-- ---- an inferred number

-- the tail that has q, and the tail that lacks it
tail-same : (t : List Rational) (q : Rational) → place_in t q < length t → with_tail t q ≡ t
tail-same t q h = rw (lt-ltb _ _ h, with_tail)

tail_more : (t : List Rational) (q : Rational) → length t ≤ place_in t q → with_tail t q ≡ t ++ q ∷ []
tail_more t q h = rw (le-ltb _ _ h, with_tail)

tail-longer : (t : List Rational) (q : Rational) → length t ≤ length (with_tail t q)
tail-longer t q = go (ltb (place_in t q) (length t))
  where
    go : (y : Bool) → length t ≤ length {A = Rational} (elim y [ true ↦ t | false ↦ t ++ q ∷ [] ])
    go true = omega arith
    go false = omega (arith, length-append t (q ∷ []))

module _ (b : Bytes) (q : Rational) where
  found : Option ℕ
  found = find_real (count b) b q 0

  -- what is written, by what was found
  abbrev added : Option ℕ → Written → Written
  added x w = elim x [
    | Some i ↦ with_arg i w
    | None ↦ written (w.run ++ record_bytes A 0 (count b + place_in w.tail q)) (with_tail w.tail q)
  ]

  added_is : (x : Option ℕ) → found ≡ x → (w : Written) → add_real b w q ≡ added x w
  unfolding add_real found
  added_is x e w = ap (λ y. added y w) e

  abbrev WritesReal : Bytes → Bytes → Out → Bytes → Bytes → Out → Type 0
  WritesReal o t out o' t' r =
      Writes b o t out o' t' r (λ w. add_real b w q) (more_real (fits b (length o) (length t)) b q)

  real-longer : (w : Written) → Longer w (add_real b w q)
  real-longer w = subst (Longer w) (sym (added_is found refl w)) (go found)
    where
      go : (x : Option ℕ) → Longer w (added x w)
      go (Some i) = arg-longer i w
      go None = record { run = (arg-longer (count b + place_in w.tail q) w).run; tail = tail-longer w.tail q }

  -- the pieces, by what was found and by whether the tail has the constant
  module _ (f : Written → Bool) (s : Writing) where
    abbrev place : ℕ
    place = count b + place_in s.done.tail q

    abbrev pieces_by : Option ℕ → Bool → Writing
    pieces_by x y = elim x [
      | Some i ↦ more f (with_arg i) s
      | None ↦ elim y [ true ↦ more f (with_arg place) s | false ↦ more f (with_arg place) (more f (with_constant q) s) ]
    ]

    pieces_by_lem :
        {x : Option ℕ} {y : Bool} → found ≡ x → ltb (place_in s.done.tail q) (length s.done.tail) ≡ y →
        more_real f b q s ≡ pieces_by x y
    unfolding more_real found
    pieces_by_lem {x} d e =
        ap (λ z. pieces_by z (ltb (place_in s.done.tail q) (length s.done.tail))) d ∙ ap (pieces_by x) e

    real_stays : s.full ≡ true → more_real f b q s ≡ s
    real_stays e = pieces_by_lem refl refl ∙ go found (ltb (place_in s.done.tail q) (length s.done.tail))
      where
        go : (x : Option ℕ) (y : Bool) → pieces_by x y ≡ s
        go (Some i) y = more-full f _ s e
        go None true = more-full f _ s e
        go None false = ap (more f (with_arg place)) (more-full f _ s e) ∙ more-full f _ s e

    -- the run does not become shorter
    pub real_runs : length s.done.run ≤ length (more_real f b q s).done.run
    real_runs =
        subst (λ (z : Writing). length s.done.run ≤ length z.done.run) (sym (pieces_by_lem refl refl))
        (go found (ltb (place_in s.done.tail q) (length s.done.tail)))
      where
        arg : (n : ℕ) (z : Writing) → length z.done.run ≤ length (more f (with_arg n) z).done.run
        arg n z = more_runs f (with_arg n) z (λ w. (arg-longer n w).run)

        go : (x : Option ℕ) (y : Bool) → length s.done.run ≤ length (pieces_by x y).done.run
        go (Some i) y = arg i s
        go None true = arg place s
        go None false =
            let first = more_runs f (with_constant q) s (λ w. (constant-longer q w).run) in
            omega (arith, first, arg place (more f (with_constant q) s))

  pub real-full :
      (o t : Bytes) (out : Out) → out.full ≡ true → WritesReal o t out o t out
  real-full o t out e =
      writes-full b o t out (λ w. add_real b w q) _ e real-longer (real_stays (fits b (length o) (length t)))

  -- r is what the code finds in the book, n how many records it counts, p what it finds in the tail
  module _ {r : Option ℕ} (looked : r ≡ find_real (count b) b q 0) where
    looked_is : {x : Option ℕ} → r ≡ x → found ≡ x
    unfolding found
    looked_is e = sym looked ∙ e

    pub real_in_book :
        {i : ℕ} {o o' t : Bytes} {out r' : Out} → r ≡ Some i → WritesOne b o t out o' t r' (with_arg i) →
        WritesReal o t out o' t r'
    real_in_book {i} l x =
        writes_as x (λ w h. sym (added_is (Some i) (looked_is l) w)) (λ s h. sym (pieces_by_lem _ s (looked_is l) refl))

    module _ (l : r ≡ None) {n : ℕ} (counted : n ≡ count b) where
      lacked :
          (k : ℕ) (w : Written) (tail : List Rational) → k ≡ place_in w.tail q → with_tail w.tail q ≡ tail →
          written (w.run ++ record_bytes A 0 (n + k)) tail ≡ add_real b w q
      lacked k w tail e g =
          ap₂ (λ (m : ℕ) (t : List Rational). written (w.run ++ record_bytes A 0 m) t) (ap₂ ◌+◌ counted e) (sym g)
          ∙ sym (added_is None (looked_is l) w)

      module _ {o t : Bytes} {out : Out} (e : out.full ≡ false) {p : Option ℕ}
          (placed :
          (b o : Bytes) (w : Written) → out.full ≡ false → Holds b o t out w →
          place_or p (length w.tail) ≡ place_in w.tail q) where
        placed_is :
            {x : Option ℕ} → p ≡ x → (w : Written) → Stored b o t out w → place_or x (length w.tail) ≡ place_in w.tail q
        placed_is f w s =
            ap (λ y. place_or y (length w.tail)) (sym f) ∙ placed b o w e (stored-holds b o t out w e s)

        pub real_in_tail :
            {k : ℕ} {o' : Bytes} {r : Out} → p ≡ Some k → IfSome p (λ j. j < out.tail / 32) →
            WritesOne b o t out o' t r (with_arg (n + k)) → WritesReal o t out o' t r
        real_in_tail {k} f inside x =
            let m : k < out.tail / 32 = subst (λ y. IfSome y (λ j. j < out.tail / 32)) f inside in
            writes_as x
            (λ w h.
            let s = holds-stored b o t out w e h in
            let p : k ≡ place_in w.tail q = placed_is f w s in
            lacked k w w.tail p (tail-same w.tail q (omega (arith, m, p, s.tail_size))))
            (λ s h.
            let p : k ≡ place_in s.done.tail q = placed_is f s.done h.stored in
            let inside : place_in s.done.tail q < length s.done.tail = omega (arith, m, p, h.stored.tail_size) in
            let f = fits b (length o) (length t) in
            ap (λ j. more f (with_arg j) s) (ap₂ ◌+◌ counted p)
            ∙ sym (pieces_by_lem f s (looked_is l) (lt-ltb _ _ inside)))

        pub real-added :
            {o' t' : Bytes} {r s : Out} → p ≡ None → WritesOne b o t out o t' r (with_constant q) →
            WritesOne b o t' r o' t' s (with_arg (n + out.tail / 32)) → WritesReal o t out o' t' s
        real-added {t' = t'} none x y =
            writes_as (writes_then x y)
            (λ w h.
            let s = holds-stored b o t out w e h in
            let p : length w.tail ≡ place_in w.tail q = placed_is none w s in
            lacked (out.tail / 32) w (w.tail ++ q ∷ []) (omega (arith, p, s.tail_size))
            (tail_more w.tail q (omega (arith, p))))
            (λ s h.
            let p : length s.done.tail ≡ place_in s.done.tail q = placed_is none s.done h.stored in
            let end : out.tail / 32 ≡ place_in s.done.tail q = omega (arith, p, h.stored.tail_size) in
            let f = fits b (length o) (length t) in
            let first = more f (with_constant q) s in
            ap (λ c. more (fits b (length o) c) (with_arg (n + out.tail / 32)) first) x.tail_length
            ∙ ap (λ j. more f (with_arg j) first) (ap₂ ◌+◌ counted end)
            ∙ sym (pieces_by_lem f s (looked_is l) (le-ltb _ _ (omega (arith, p)))))
