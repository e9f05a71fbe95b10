-- What a form that is matched says: each of its equations holds of the terms that its names stand for (`form-found`),
-- where terms that are the same by record number are equal.
use mathlib.Core.Path.{◌≡◌, refl, sym, ◌∙◌, ap₂, subst}
use mathlib.Core.Bool.{Bool, true, false, ◌&&◌}
use mathlib.Core.List.{List, [], ◌∷◌}
use Rattle.std.specs.Prelude.{Option, Some, None}
use Prim.Native.Nat.{ℕ, zero, suc, ◌<◌, ◌≤◌}
use native.Mathlib.Omega.{arith}
use borrow.Author.Tests.{ltb-true, eqb-true, eqb-false, eq-eqb, ne_eqb}
use lib.Dec.{ltb, eqb}
use Rattle.numbers.specs.Choice.{when◌then◌else◌}
use Rattle.terms.specs.Term.{Term, Terms, same}
use Rattle.terms.specs.Term.Term.{integer, rational, bitvector, atom, op}
use Rattle.terms.specs.Term.Terms.{nil, ◌▹◌}
use Rattle.terms.specs.Readers.{operator_of, arguments_of, as_op}
use Rattle.book.proofs.BookTerms.{Each, Closed}
use Rattle.rules.specs.Refusal.{◌>>=◌, or_else}
use Rattle.std.specs.Prelude.{Ok}
use Rattle.rules.specs.declared.refusal.Refusal.TheVariants.{TermOfWrongForm}
use Rattle.rules.specs.Shapes.{Equation, Form, Names, only_name, max_names, bind, bind_all, solve, solve_all, matches}
use Rattle.rules.specs.Shapes.{has_form, only_literal}
use Rattle.alethe.specs.Alethe.{Is, is}
use Rattle.rules_theory.proofs.Shapes.{nothing-found}

-- ---- what a form says

abbrev pub terms_at : Names → List ℕ → Terms
terms_at σ [] = nil
terms_at σ (k ∷ ks) = σ.at k ▹ terms_at σ ks

-- t is (o ts); 0 is no operator
abbrev pub Operation : ℕ → Terms → Term → Type 0
Operation zero ts t = Unit {0}
Operation (suc o) ts t = Is (suc o) ts t

abbrev pub Holds : Names → Form → Type 0
Holds σ [] = Unit {0}
Holds σ (e ∷ es) = Operation e.operator (terms_at σ e.parts) (σ.at e.whole) × Holds σ es

-- the next name is t
abbrev next : ℕ → Term → Names → Names
next k t σ = record { count = suc k; at = λ j. when eqb j k then t else σ.at j }

-- the names of σ keep their terms in τ
record Keeps (σ τ : Names) : Type 0 where
  count : σ.count ≤ τ.count
  at : (k : ℕ) → k < σ.count → τ.at k ≡ σ.at k

keeps_all : {σ : Names} → Keeps σ σ
keeps_all = record { count = omega arith; at = λ k h. refl }

keeps_on : {σ τ υ : Names} → Keeps σ τ → Keeps τ υ → Keeps σ υ
keeps_on f g =
    record {
      count = omega (arith, f.count, g.count);
      at = λ k h. g.at k (omega (arith, h, f.count)) ∙ f.at k h;
    }

operation : (t : Term) (o : ℕ) → operator_of t ≡ o → Operation o (arguments_of t) t
unfolding as_op
operation (integer i v) zero e = tt
operation (integer i v) (suc o) e = absurd (omega arith)
operation (rational i q) zero e = tt
operation (rational i q) (suc o) e = absurd (omega arith)
operation (bitvector i v w) zero e = tt
operation (bitvector i v w) (suc o) e = absurd (omega arith)
operation (atom i s n) zero e = tt
operation (atom i s n) (suc o) e = absurd (omega arith)
operation (op i p ts) zero e = tt
operation (op i p ts) (suc o) e = subst (λ (p : ℕ). Is (suc o) ts (op i p ts)) (sym e) (is i)

-- an option's term, or none
found_in :
    {A B P : Type 0} (m : Option A) (f : A → Option B) (b : B) → ((a : A) → m ≡ Some a → f a ≡ Some b → P) →
    elim m as (λ z. Option B) [ Some a ↦ f a | None ↦ None ] ≡ Some b → P
found_in (Some a) f b h e = h a refl e
found_in None f b h e = nothing-found e

module _ {P : Term → Type 0} (closed : Closed P) where
  -- the terms that have names are terms of P
  abbrev Inside : Names → Type 0
  Inside σ = (k : ℕ) → k < σ.count → P (σ.at k)

  arguments-inside : (t : Term) → P t → Each P (arguments_of t)
  unfolding as_op
  arguments-inside (integer i v) p = tt
  arguments-inside (rational i q) p = tt
  arguments-inside (bitvector i v w) p = tt
  arguments-inside (atom i s n) p = tt
  arguments-inside (op i o ts) p = closed.below i o ts p

  -- from σ to τ, whatever the names come to stand for from then on
  record Goes (σ τ : Names) (Q : Names → Type 0) : Type 0 where
    keeps : Keeps σ τ
    inside : Inside τ
    holds : (υ : Names) → Keeps τ υ → Q υ

  again :
      (k : ℕ) (t : Term) (σ : Names) → P t → Inside σ → k < σ.count → same (σ.at k) t ≡ true →
      Goes σ σ (λ υ. υ.at k ≡ t)
  again k t σ p inside h e =
      record {
        keeps = keeps_all;
        inside = inside;
        holds = λ υ q. q.at k h ∙ closed.known (σ.at k) t (inside k h) p e;
      }

  fresh : (k : ℕ) (t : Term) (σ : Names) → P t → Inside σ → k ≡ σ.count → Goes σ (next k t σ) (λ υ. υ.at k ≡ t)
  unfolding when◌then◌else◌
  fresh k t σ p inside h =
      record {
        keeps = record { count = omega arith; at = λ j l. rw (ne_eqb j k (λ e. omega (arith, e, l, h))) };
        inside = λ j l. at j (eqb j k) refl l;
        holds = λ υ q. q.at k (omega arith) ∙ rw (eq-eqb k k refl);
      }
    where
      at : (j : ℕ) (b : Bool) → eqb j k ≡ b → j < suc k → P (when b then t else σ.at j)
      at j true e l = p
      at j false e l = inside j (omega (arith, h, l, eqb-false j k e))

  bind-found : (k : ℕ) (t : Term) (σ τ : Names) → P t → Inside σ → bind k t σ ≡ Some τ → Goes σ τ (λ υ. υ.at k ≡ t)
  unfolding bind when◌then◌else◌
  bind-found k t σ τ p inside =
      at (ltb k σ.count) (same (σ.at k) t) (eqb k σ.count) (ltb k max_names) refl refl refl
    where
      at :
          (a b c d : Bool) → ltb k σ.count ≡ a → same (σ.at k) t ≡ b → eqb k σ.count ≡ c →
          (when a then (when b then Some σ else None) else when c && d then Some (next k t σ) else None) ≡ Some τ →
          Goes σ τ (λ υ. υ.at k ≡ t)
      at true true c d f g h e =
          let same_names : σ ≡ τ = cc in
          subst (λ (τ : Names). Goes σ τ (λ υ. υ.at k ≡ t)) same_names
          (again k t σ p inside (ltb-true k σ.count f) g)
      at true false c d f g h e = nothing-found e
      at false b true true f g h e =
          let same_names : next k t σ ≡ τ = cc in
          subst (λ (τ : Names). Goes σ τ (λ υ. υ.at k ≡ t)) same_names
          (fresh k t σ p inside (eqb-true k σ.count h))
      at false b true false f g h e = nothing-found e
      at false b false d f g h e = nothing-found e

  bind_all-found :
      (ks : List ℕ) (ts : Terms) (σ τ : Names) → Each P ts → Inside σ → bind_all ks ts σ ≡ Some τ →
      Goes σ τ (λ υ. terms_at υ ks ≡ ts)
  unfolding bind_all
  bind_all-found [] nil σ τ p inside e =
      let same_names : σ ≡ τ = cc in
      subst (λ (τ : Names). Goes σ τ (λ υ. nil ≡ nil)) same_names
      (record { keeps = keeps_all; inside = inside; holds = λ υ q. refl })
  bind_all-found [] (t ▹ ts) σ τ p inside e = nothing-found e
  bind_all-found (k ∷ ks) nil σ τ p inside e = nothing-found e
  bind_all-found (k ∷ ks) (t ▹ ts) σ τ (p, ps) inside e =
      found_in (bind k t σ) (bind_all ks ts) τ
      (λ ρ e f.
      let g = bind-found k t σ ρ p inside e in
      let h = bind_all-found ks ts ρ τ ps g.inside f in
      record {
        keeps = keeps_on g.keeps h.keeps;
        inside = h.inside;
        holds = λ υ q. ap₂ ◌▹◌ (g.holds υ (keeps_on h.keeps q)) (h.holds υ q);
      })
      e

  abbrev Solved : Equation → Names → Type 0
  Solved e υ = Operation e.operator (terms_at υ e.parts) (υ.at e.whole)

  solve-found : (e : Equation) (σ τ : Names) → Inside σ → solve e σ ≡ Some τ → Goes σ τ (Solved e)
  unfolding solve
  solve-found e σ τ inside =
      at (ltb e.whole σ.count) (eqb (operator_of (σ.at e.whole)) e.operator) refl refl
    where
      at :
          (a b : Bool) → ltb e.whole σ.count ≡ a → eqb (operator_of (σ.at e.whole)) e.operator ≡ b →
          elim (a && b) [ true ↦ bind_all e.parts (arguments_of (σ.at e.whole)) σ | false ↦ None ] ≡ Some τ →
          Goes σ τ (Solved e)
      at true true f g h =
          let w = e.whole in
          let l = ltb-true w σ.count f in
          let t = σ.at w in
          let k = bind_all-found e.parts (arguments_of t) σ τ (arguments-inside t (inside w l)) inside h in
          record {
            keeps = k.keeps;
            inside = k.inside;
            holds = λ υ q.
                rw (k.holds υ q, (keeps_on k.keeps q).at w l)
                (operation t e.operator (eqb-true (operator_of t) e.operator g));
          }
      at true false f g h = nothing-found h
      at false b f g h = nothing-found h

  solve_all-found : (f : Form) (σ τ : Names) → Inside σ → solve_all f σ ≡ Some τ → Goes σ τ (λ υ. Holds υ f)
  unfolding solve_all
  solve_all-found [] σ τ inside e =
      let same_names : σ ≡ τ = cc in
      subst (λ (τ : Names). Goes σ τ (λ υ. Unit {0})) same_names
      (record { keeps = keeps_all; inside = inside; holds = λ υ q. tt })
  solve_all-found (e ∷ es) σ τ inside s =
      found_in (solve e σ) (solve_all es) τ
      (λ ρ f g.
      let h = solve-found e σ ρ inside f in
      let k = solve_all-found es ρ τ h.inside g in
      record {
        keeps = keeps_on h.keeps k.keeps;
        inside = k.inside;
        holds = λ υ q. (h.holds υ (keeps_on k.keeps q), k.holds υ q);
      })
      s

  -- ---- a term of a form

  -- the names, of which the first is t
  pub record Formed (f : Form) (t : Term) (τ : Names) : Type 0 where
    pub whole : τ.at 0 ≡ t
    pub holds : Holds τ f
    pub inside : (k : ℕ) → k < τ.count → P (τ.at k)

  pub form-found : (f : Form) (t : Term) (τ : Names) → P t → matches f t ≡ Some τ → Formed f t τ
  form-found f t τ p e =
      let g = solve_all-found f (only_name t) τ (λ k h. p) e in
      record { whole = g.keeps.at 0 (omega arith); holds = g.holds τ keeps_all; inside = g.inside }

  pub has-form : (f : Form) (t : Term) → P t → has_form f (t ∷ []) ≡ Ok tt → (τ : Names) × Formed f t τ
  unfolding has_form only_literal ◌>>=◌ or_else
  has-form f t p = at (matches f t) refl
    where
      at :
          (m : Option Names) → matches f t ≡ m → (or_else m TermOfWrongForm >>= λ σ. Ok (tt {0})) ≡ Ok (tt {0}) →
          (τ : Names) × Formed f t τ
      at (Some τ) h e = (τ, form-found f t τ p h)
      at None h e = let z : ◌≡◌ {A = ℕ} 0 1 = cc in absurd (omega arith)
