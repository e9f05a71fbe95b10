-- The matcher of forms on a table of records: what each step of `bind`, `bind_all`, `solve` and `solve_all` makes of
-- the names in the table is what the definition makes of them.
--     get_d_inside, bound-again, bound-other, bound-next, not-bound       a name
--     other-count, Binding, binding_next, binding_refused, binding_end       the parts of an equation, in a loop
--     no_name, other-operator, by_parts       an equation
--     Solving, solving_next, solving_refused, solving_end       a form, in a loop
--     matches_of       a form of the only literal
use mathlib.Core.Path.{◌≡◌, refl, sym, ◌∙◌, ap, fun_ext}
use mathlib.Core.Bool.{Bool, true, false, ◌&&◌}
use mathlib.Core.List.{List, [], ◌∷◌, ◌++◌}
use Rattle.std.specs.Prelude.{Option, Some, None}
use Prim.Native.Nat.{ℕ, zero, suc, ◌+◌, ◌-◌, ◌/◌, ◌%◌, ◌≤◌, ◌<◌}
use native.Mathlib.Numerals.{add-one}
use native.Mathlib.Omega.{arith}
use borrow.Author.Tests.{eq-eqb, ne_eqb, eqb-true, eqb-false, ltb-true, lt-ltb, le-ltb}
use lib.Dec.{eqb, ltb}
use lib.ListN.{length, get_or, set, take, drop, replicate, drop_of_length-le}
use lib.Seq.{get_or-set_same, get_or-set_other, drop-cons}
use Rattle.numbers.specs.Bytes.{Bytes}
use Rattle.numbers.specs.Choice.{when◌then◌else◌}
use Rattle.terms.specs.Term.{Term, Terms}
use Rattle.terms.specs.Term.Terms.{nil, ◌▹◌}
use Rattle.terms.specs.Book.{tree, forest, argument_at, arguments, numbers}
use Rattle.terms.specs.Readers.{operator_of, arguments_of}
use Rattle.rules.specs.Shapes.{Form, Names, only_name, matches, equation_of, form_of, bind, bind_all, solve}
use Rattle.rules.specs.Shapes.{solve_all, max_names, size}
use Rattle.rules.specs.Memory.ShapeRecords.{names_in}
use Rattle.rules.proofs.ArgumentsLeft.{args_from, left-next, left_none, size-forest, arguments-count}
use Rattle.rules.proofs.ShapeSteps.{same-records}

-- ---- a name

-- what stands at a place of a list does not depend on what stands behind its end
pub get_d_inside : (l : List ℕ) (k d e : ℕ) → k < length l → get_or l k d ≡ get_or l k e
get_d_inside [] k d e h = absurd (omega arith)
get_d_inside (x ∷ l) zero d e h = refl
get_d_inside (x ∷ l) (suc k) d e h = get_d_inside l k d e (omega (arith, h))

module _ (b : Bytes) (d n k x : ℕ) (l : List ℕ) where
  -- whether a name that has a record has this one
  again_law :
      k < n → k < length l →
      bind k (tree b x) (names_in b d n l) ≡ (when eqb (get_or l k 0) x then Some (names_in b d n l) else None)
  unfolding bind when◌then◌else◌
  again_law h inside = rw (lt-ltb k n h, same-records b (get_or l k d) x, get_d_inside l k d 0 inside)

  pub bound-again :
      k < n → k < length l → get_or l k 0 ≡ x → Some (names_in b d n l) ≡ bind k (tree b x) (names_in b d n l)
  unfolding when◌then◌else◌
  bound-again h inside e = sym (again_law h inside ∙ rw (eq-eqb (get_or l k 0) x e))

  pub bound-other : k < n → k < length l → (get_or l k 0 ≡ x → ⊥) → None ≡ bind k (tree b x) (names_in b d n l)
  unfolding when◌then◌else◌
  bound-other h inside e = sym (again_law h inside ∙ rw (ne_eqb (get_or l k 0) x e))

  pub not-bound : n ≤ k → (k ≡ n → k < max_names → ⊥) → None ≡ bind k (tree b x) (names_in b d n l)
  unfolding bind when◌then◌else◌
  not-bound h e = rw (le-ltb k n h) (at _ (eqb k n) (ltb k max_names) refl refl)
    where
      at :
          (m : Option Names) (s t : Bool) → eqb k n ≡ s → ltb k max_names ≡ t →
          None ≡ (when s && t then m else None)
      at m true true f g = absurd (e (eqb-true k n f) (ltb-true k max_names g))
      at m true false f g = refl
      at m false t f g = refl

  pub bound-next :
      k ≡ n → k < max_names → k < length l →
      Some (names_in b d (k + 1) (set l k x)) ≡ bind k (tree b x) (names_in b d n l)
  unfolding bind when◌then◌else◌
  bound-next e h inside =
      rw (add-one, le-ltb k n (omega arith), eq-eqb k n e, lt-ltb k max_names h)
      (ap (λ (f : ℕ → Term). Some (record { count = suc k; at = f })) (fun_ext (λ j. at j (eqb j k) refl)))
    where
      at :
          (j : ℕ) (t : Bool) → eqb j k ≡ t →
          tree b (get_or (set l k x) j d) ≡ (when t then tree b x else tree b (get_or l j d))
      at j true f =
          let same : j ≡ k = eqb-true j k f in
          rw (same, get_or-set_same l k x d inside)
      at j false f = ap (tree b) (get_or-set_other l k j x d (eqb-false j k f))

-- ---- the parts of an equation

-- j of the parts have their names
pub record Binding
    (names₀ : List ℕ) (n : ℕ) (args : Bytes) (id : ℕ) (parts : Bytes) (names : List ℕ) (m j : ℕ) : Type 0 where
  pub most : m ≤ max_names
  pub counts : length args / 2 ≡ length parts
  pub left :
      (b : Bytes) (d : ℕ) →
      bind_all (drop j parts) (args_from b id args j) (names_in b d m names)
      ≡ bind_all parts (args_from b id args 0) (names_in b d n names₀)

-- the names that are found, and then f
abbrev followed : Option Names → (Names → Option Names) → Option Names
followed m f = elim m [ Some τ ↦ f τ | None ↦ None ]

then-rest : (m : Option Names) (f : Names → Option Names) → ((τ : Names) → None ≡ f τ) → None ≡ followed m f
then-rest (Some τ) f h = h τ
then-rest None f h = refl

no_count :
    (ks : List ℕ) (ts : Terms) (σ : Names) → (size ts ≡ length ks → ⊥) → None ≡ bind_all ks ts σ
unfolding bind_all
no_count [] nil σ h = absurd (h refl)
no_count [] (t ▹ ts) σ h = refl
no_count (k ∷ ks) nil σ h = refl
no_count (k ∷ ks) (t ▹ ts) σ h = then-rest (bind k t σ) _ (λ τ. no_count ks ts τ (λ e. h (ap suc e)))

pub other-count :
    (args : Bytes) (id : ℕ) (parts : Bytes) → (length args / 2 ≡ length parts → ⊥) → (b : Bytes) (σ : Names) →
    None ≡ bind_all parts (args_from b id args 0) σ
other-count args id parts h b σ =
    let sized : size (args_from b id args 0) ≡ length args / 2 =
    size-forest (tree b) (arguments id (numbers args)) ∙ arguments-count id args in
    no_count parts (args_from b id args 0) σ (λ e. h (sym sized ∙ e))

module _
    {names₀ : List ℕ} {n : ℕ} {args : Bytes} {id : ℕ} {parts : Bytes} {names : List ℕ} {m j : ℕ}
    (h : Binding names₀ n args id parts names m j) where
  pub binding_end :
      length parts ≤ j → (b : Bytes) (d : ℕ) →
      Some (names_in b d m names) ≡ bind_all parts (args_from b id args 0) (names_in b d n names₀)
  unfolding bind_all
  binding_end past b d =
      sym (rw (drop_of_length-le parts past, left_none b id args j (omega (arith, h.counts)))) ∙ h.left b d

  module _
      (inside : j < length parts) {k x : ℕ} (k-is : k ≡ get_or parts j 0) (x-is : x ≡ argument_at args j id) where
    -- the next name, and then the others
    next_law :
        (b : Bytes) (d : ℕ) {r : Option Names} → r ≡ bind k (tree b x) (names_in b d m names) →
        followed r (bind_all (drop (j + 1) parts) (args_from b id args (j + 1)))
        ≡ bind_all parts (args_from b id args 0) (names_in b d n names₀)
    unfolding bind_all
    next_law b d found =
        rw (found, k-is)
        (sym (rw (drop-cons parts j 0 inside, left-next args id (omega (arith, h.counts)) x-is b, add-one))
        ∙ h.left b d)

    pub binding_refused :
        ((b : Bytes) (d : ℕ) → None ≡ bind k (tree b x) (names_in b d m names)) →
        (b : Bytes) (d : ℕ) → None ≡ bind_all parts (args_from b id args 0) (names_in b d n names₀)
    binding_refused found b d = next_law b d (found b d)

    pub binding_next :
        {r : ℕ} {names' : List ℕ} → r ≤ max_names →
        ((b : Bytes) (d : ℕ) → Some (names_in b d r names') ≡ bind k (tree b x) (names_in b d m names)) →
        Binding names₀ n args id parts names' r (j + 1)
    binding_next l found =
        record { most = l; counts = h.counts; left = λ b d. next_law b d (found b d) }

-- ---- an equation

module _ (b : Bytes) (d n : ℕ) (names : List ℕ) (e : Bytes) {w : ℕ} (w-is : w ≡ get_or e 0 0) where
  pub no_name : n ≤ w → None ≡ solve (equation_of e) (names_in b d n names)
  unfolding solve
  no_name h = rw (le-ltb (get_or e 0 0) n (omega (arith, h, w-is)), solve)

  module _
      (h : w < n) (inside : w < length names) {x o : ℕ} (x-is : x ≡ get_or names w 0)
      (o_is : o ≡ operator_of (tree b x)) where
    has-name : ltb (get_or e 0 0) n ≡ true
    has-name = lt-ltb (get_or e 0 0) n (omega (arith, h, w-is))

    record_is : get_or names (get_or e 0 0) d ≡ x
    record_is = ap (λ (w : ℕ). get_or names w d) (sym w-is) ∙ get_d_inside names w d 0 inside ∙ sym x-is

    operator_is : operator_of (tree b (get_or names (get_or e 0 0) d)) ≡ o
    operator_is = ap (λ (y : ℕ). operator_of (tree b y)) record_is ∙ sym o_is

    pub other-operator : (o ≡ get_or e 1 0 → ⊥) → None ≡ solve (equation_of e) (names_in b d n names)
    unfolding solve
    other-operator k = rw (operator_is, has-name, ne_eqb o (get_or e 1 0) k, solve)

    pub by_parts :
        (args : Bytes) {m : Option Names} → o ≡ get_or e 1 0 →
        forest (tree b) (arguments x (numbers args)) ≡ arguments_of (tree b x) →
        m
        ≡ bind_all (take (3 + get_or e 2 0 % 4 - 3) (drop 3 e)) (forest (tree b) (arguments x (numbers args)))
        (names_in b d n names) →
        m ≡ solve (equation_of e) (names_in b d n names)
    unfolding solve
    by_parts args k a m-is =
        let three : 3 + get_or e 2 0 % 4 - 3 ≡ get_or e 2 0 % 4 = omega arith in
        m-is ∙ rw (three, a, operator_is, has-name, eq-eqb o (get_or e 1 0) k, solve, record_is)

-- ---- a form

form-next : (e l : Bytes) → length e ≡ 6 → form_of (e ++ l) ≡ equation_of e ∷ form_of l
unfolding form_of
form-next [] l h = absurd (omega arith)
form-next (w ∷ []) l h = absurd (omega arith)
form-next (w ∷ o ∷ []) l h = absurd (omega arith)
form-next (w ∷ o ∷ n ∷ []) l h = absurd (omega arith)
form-next (w ∷ o ∷ n ∷ x ∷ []) l h = absurd (omega arith)
form-next (w ∷ o ∷ n ∷ x ∷ y ∷ []) l h = absurd (omega arith)
form-next (w ∷ o ∷ n ∷ x ∷ y ∷ z ∷ []) l h = refl
form-next (w ∷ o ∷ n ∷ x ∷ y ∷ z ∷ k ∷ e) l h = absurd (omega arith)

form-end : (l : Bytes) → length l < 6 → form_of l ≡ []
unfolding form_of
form-end [] h = refl
form-end (w ∷ []) h = refl
form-end (w ∷ o ∷ []) h = refl
form-end (w ∷ o ∷ n ∷ []) h = refl
form-end (w ∷ o ∷ n ∷ x ∷ []) h = refl
form-end (w ∷ o ∷ n ∷ x ∷ y ∷ []) h = refl
form-end (w ∷ o ∷ n ∷ x ∷ y ∷ z ∷ l) h = absurd (omega arith)

-- the equations in `rest` are left
pub record Solving (b : Bytes) (names₀ : List ℕ) (form : Bytes) (names : List ℕ) (n : ℕ) (rest : Bytes) : Type 0 where
  pub most : n ≤ max_names
  pub left :
      (d : ℕ) → solve_all (form_of rest) (names_in b d n names) ≡ solve_all (form_of form) (names_in b d 1 names₀)

module _
    {b : Bytes} {names₀ : List ℕ} {form : Bytes} {names : List ℕ} {n : ℕ} {rest : Bytes}
    (h : Solving b names₀ form names n rest) where
  pub solving_end :
      length rest < 6 → (d : ℕ) → Some (names_in b d n names) ≡ solve_all (form_of form) (names_in b d 1 names₀)
  unfolding solve_all
  solving_end past d = sym (rw (form-end rest past)) ∙ h.left d

  module _ (e rest' : Bytes) (cut : rest ≡ e ++ rest') (long : length e ≡ 6) where
    solve_law :
        (d : ℕ) {r : Option Names} → r ≡ solve (equation_of e) (names_in b d n names) →
        followed r (solve_all (form_of rest')) ≡ solve_all (form_of form) (names_in b d 1 names₀)
    unfolding solve_all
    solve_law d found = rw found (sym (rw (cut, form-next e rest' long)) ∙ h.left d)

    pub solving_refused :
        ((d : ℕ) → None ≡ solve (equation_of e) (names_in b d n names)) →
        (d : ℕ) → None ≡ solve_all (form_of form) (names_in b d 1 names₀)
    solving_refused found d = solve_law d (found d)

    pub solving_next :
        {r : ℕ} {names' : List ℕ} → r ≤ max_names →
        ((d : ℕ) → Some (names_in b d r names') ≡ solve (equation_of e) (names_in b d n names)) →
        Solving b names₀ form names' r rest'
    solving_next l found = record { most = l; left = λ d. solve_law d (found d) }

-- ---- a rule that asks for a form

get_d_all : (n x k : ℕ) → get_or (replicate n x) k x ≡ x
get_d_all zero x k = refl
get_d_all (suc n) x zero = refl
get_d_all (suc n) x (suc k) = get_d_all n x k

first_name : (b : Bytes) (x : ℕ) → names_in b x 1 (replicate 16 x) ≡ only_name (tree b x)
first_name b x =
    ap (λ (f : ℕ → Term). record { count = 1; at = f }) (fun_ext (λ k. ap (tree b) (get_d_all 16 x k)))

-- what a table that holds record x alone matches
pub matches_of :
    (b : Bytes) (x : ℕ) (f : Form) {m : Option Names} → m ≡ solve_all f (names_in b x 1 (replicate 16 x)) →
    m ≡ matches f (tree b x)
matches_of b x f e = e ∙ ap (solve_all f) (first_name b x)
