-- What the theorems on runs need of one rule (`RuleLaws`), over the clauses of the steps that a step names, its clause
-- and its arguments. Each rule has one such record (ShapeLaws, LinearLaws, PolynomialLaws), and `laws` (EachRule) gives
-- a theorem that of a step's rule. What the records share: rules that infer nothing (`infers-nothing`), and rules on a
-- clause of one literal (`OnLiteral`).
use Rattle.runs.specs.declared.rule.Rule.{Rule}
use Rattle.runs.specs.declared.rule.Rule.TheVariants.{BoundedFarkas, Assume}
use mathlib.Core.Path.{◌≡◌, refl, sym, ◌∙◌, ap, subst}
use mathlib.Core.Bool.{false}
use mathlib.Core.List.{List, [], ◌∷◌, ◌++◌, append-nil}
use mathlib.Core.Logic.{◌⊎◌}
use Prim.Native.Nat.{ℕ}
use native.Mathlib.Omega.{arith}
use lib.Dec.{T}
use Rattle.numbers.specs.Rational.{Rational}
use Rattle.terms.specs.Term.{Term}
use Rattle.terms.specs.Smtlib.{Assignment, holds}
use Rattle.book.proofs.BookTerms.{Closed}
use Rattle.rules.specs.Refusal.{Result, ◌>>=◌}
use Rattle.rules.specs.declared.refusal.Refusal.{Refusal}
use Rattle.std.specs.Prelude.{Ok, Err}
use Rattle.rules.specs.Limits.{Limits, the_rust, limited}
use Rattle.rules.specs.Shapes.{Clause}
use Rattle.alethe.specs.Alethe.{Departures, carcara, Valid}
use Rattle.rules.proofs.Yields.{Yields, by_answer, at_ok, known, weaker}
use Rattle.rules.proofs.Yields.Yields.{gives}
use Rattle.rules_theory.proofs.Limited.{IsLimit, ◌≼◌}
use Rattle.linear_theory.proofs.Arguments.{EachOf, EachLowest}
use Rattle.linear_theory.proofs.Inferred.{Reals}
use Rattle.linear_theory.proofs.Inferred.Reals.{end as no_more}
use Rattle.runs.specs.Rule.{is_rule}
use Rattle.runs.specs.Run.{step, Every, end, also}
use Rattle.steps.specs.CheckStep.{Accepted, accepted, check_rule}
use Rattle.out_areas.specs.Farkas.{elaborated_rule}
use Rattle.elaborate.specs.Statements.{MeaningPremises, NoSurplus}
use Rattle.elaborate.specs.Demands.{OneLiteral, MeetsRule, Comparable, Differs}
use Rattle.farkas.proofs.NothingInferred.{rule-infers-nothing}
use Rattle.out_areas.proofs.RealRecord.{Storable}

-- the terms are of a book, or of another class that is closed
pub record Known (ps : List Clause) (c : Clause) (args : List Term) : Type 1 where
  pub class : Term → Type 0
  pub closed : Closed class
  pub premises : Every (EachOf class) ps
  pub clause : EachOf class c
  pub given : EachOf class args

first_of : {P : Clause → Type 0} {c : Clause} {cs : List Clause} → Every P (c ∷ cs) → P c
first_of (also h hs) = h

-- what holds of each clause that a step names holds of the only one
pub only-premise : {P : Clause → Type 0} {p : Clause} {ps : List Clause} → ps ≡ p ∷ [] → Every P ps → P p
only-premise {P} e h = first_of (subst (Every P) e h)

module _ {ps : List Clause} {c : Clause} {args : List Term} (k : Known ps c args) (phi : Term) where
  pub literal-known : c ≡ phi ∷ [] → k.class phi
  literal-known e = (subst (EachOf k.class) e k.clause).0

  pub premise-known : ps ≡ (phi ∷ []) ∷ [] → k.class phi
  premise-known e = (only-premise {P = EachOf k.class} e k.premises).0

-- what an accepted step inferred, and its elaboration
pub record Inference (r : Rule) (ps : List Clause) (c : Clause) (args : List Term) : Type 1 where
  -- the rule of the elaborated step is not rule 6, stays when it is elaborated, and is `assume` only if it was
  pub not_farkas : is_rule BoundedFarkas (elaborated_rule r) ≡ false
  pub stays : elaborated_rule (elaborated_rule r) ≡ elaborated_rule r
  pub assumed : elaborated_rule r ≡ Assume → r ≡ Assume
  -- numbers that can be stored as constants
  pub stored :
      Known ps c args → (limit n : ℕ) →
      Yields (λ a. Every Storable a.inferred) (check_rule r (limited limit) ps c args n)
  -- with these as further arguments the elaborated step is accepted by as many visits, and infers nothing
  pub again :
      (l : Limits) (n : ℕ) → NoSurplus (step r [] c args) →
      Yields
      (λ a.
      (ts : List Term) → Reals ts a.inferred →
      check_rule (elaborated_rule r) l ps c (args ++ ts) n ≡ Ok (accepted a.visits []))
      (check_rule r l ps c args n)

pub record RuleLaws (r : Rule) (ps : List Clause) (c : Clause) (args : List Term) : Type 1 where
  -- under any limits it answers as in the Rust, or refuses by a limit
  pub limits : (l : Limits) (n : ℕ) → check_rule r l ps c args n ≼ check_rule r the_rust ps c args n
  -- an accepted step meets its rule, by the words or by a departure that has a name
  pub meets :
      Known ps c args → (l : Limits) (n : ℕ) →
      Yields (λ a. MeetsRule r carcara ps c args a.inferred) (check_rule r l ps c args n)
  -- a step that meets its rule is refused by a limit alone, but for the differences that have a name
  pub words :
      Known ps c args → (by : Departures) → MeetsRule r by ps c args [] → Comparable by r c args → (l : Limits) (n : ℕ)
      (x : Refusal) → check_rule r l ps c args n ≡ Err x → IsLimit x ⊎ Differs by r c
  -- a step that meets its rule is true where the clauses that it names are
  pub sound :
      Known ps c args → (qs : List Rational) → EachLowest qs → MeaningPremises (step r [] c args) qs →
      MeetsRule r carcara ps c args qs → (ρ : Assignment) → (r ≡ Assume → T (holds ρ c)) →
      Every (λ p. T (holds ρ p)) ps → T (holds ρ c)
  pub infers : Inference r ps c args

-- ---- of rules that infer nothing

no_reals : {ts : List Term} → Reals ts [] → ts ≡ []
no_reals no_more = refl

module _ {r : Rule} {ps : List Clause} {c : Clause} {args : List Term} where
  pub infers-nothing : elaborated_rule r ≡ r → is_rule BoundedFarkas r ≡ false → Inference r ps c args
  infers-nothing same other =
      record {
        not_farkas = rw same other;
        stays = ap elaborated_rule same;
        assumed = λ e. sym same ∙ e;
        stored = λ k limit n. weaker (λ a e. subst (Every Storable) (sym e) end) (h (limited limit) n);
        again = λ l n g. by_answer _ λ a e ts reals. repeats l n a e ts reals;
      }
    where
      h : (l : Limits) (n : ℕ) → Yields (λ a. a.inferred ≡ []) (check_rule r l ps c args n)
      h l n = rule-infers-nothing l r ps c args n other

      repeats :
          (l : Limits) (n : ℕ) (a : Accepted) → check_rule r l ps c args n ≡ Ok a → (ts : List Term) →
          Reals ts a.inferred →
          check_rule (elaborated_rule r) l ps c (args ++ ts) n ≡ Ok (accepted a.visits [])
      repeats l n a e ts reals =
          let nothing = at_ok (h l n) e in
          let none : ts ≡ [] = no_reals (rw nothing at reals) in
          rw (same, none, append-nil) e ∙ ap (λ qs. Ok (accepted a.visits qs)) nothing

-- ---- a refusal behind the rule's own answer

pub not-refused : {A : Type 0} {a : A} {r : Refusal} {X : Type 0} → Ok a ≡ Err r → X
not-refused e = let z : ◌≡◌ {A = ℕ} 0 1 = cc in absurd (omega arith)

pub refused-before :
    {A B : Type 0} (x : Result A) (f : A → B) {r : Refusal} → (x >>= λ a. Ok (f a)) ≡ Err r → x ≡ Err r
unfolding ◌>>=◌
refused-before (Ok a) f e = not-refused e
refused-before (Err q) f {r} e = let h : q ≡ r = cc in ap Err h

-- ---- of a rule on a clause of one literal

-- what the rule says of its literal, and where Carcara differs
pub record OnLiteral
    {A : Type 0} (check : Limits → Clause → ℕ → Result A) (says differs : Departures → Term → Type 0) : Type 1 where
  pub literal : (l : Limits) (c : Clause) (n : ℕ) (a : A) → check l c n ≡ Ok a → (phi : Term) × (c ≡ phi ∷ [])
  pub form :
      {Q : Term → Type 0} → Closed Q → (l : Limits) (phi : Term) → Q phi → (n : ℕ) (a : A) →
      check l (phi ∷ []) n ≡ Ok a → says carcara phi
  pub refuses :
      {Q : Term → Type 0} → Closed Q → (by : Departures) (phi : Term) → Q phi → says by phi → (l : Limits) (n : ℕ)
      (r : Refusal) → check l (phi ∷ []) n ≡ Err r → IsLimit r ⊎ differs by phi
  pub valid : {Q : Term → Type 0} → Closed Q → {phi : Term} → Q phi → says carcara phi → Valid (phi ∷ [])

module _ {A : Type 0} {check : Limits → Clause → ℕ → Result A} {says differs : Departures → Term → Type 0}
    (x : OnLiteral check says differs) {ps : List Clause} {c : Clause} {args : List Term} (k : Known ps c args) where
  -- f has the visits
  pub one_meets :
      (f : A → ℕ) (l : Limits) (n : ℕ) →
      Yields (λ a. OneLiteral (says carcara) c) (check l c n >>= λ a. Ok (accepted (f a) []))
  one_meets f l n =
      known (check l c n) λ a e.
      let (phi, alone) = x.literal l c n a e in
      gives
      record {
        literal = phi;
        alone = alone;
        says =
            x.form k.closed l phi (literal-known k phi alone) n a
            (sym (ap (λ (d : Clause). check l d n) alone) ∙ e);
      }

  pub one_words :
      (f : A → ℕ) (by : Departures) (m : OneLiteral (says by) c) (l : Limits) (n : ℕ) (r : Refusal) →
      (check l c n >>= λ a. Ok (accepted (f a) [])) ≡ Err r → IsLimit r ⊎ differs by m.literal
  one_words f by m l n r e =
      x.refuses k.closed by m.literal (literal-known k m.literal m.alone) m.says l n r
      (sym (ap (λ (d : Clause). check l d n) m.alone) ∙ refused-before (check l c n) (λ a. accepted (f a) []) e)

  pub one_valid : OneLiteral (says carcara) c → Valid c
  one_valid m = subst Valid (sym m.alone) (x.valid k.closed (literal-known k m.literal m.alone) m.says)
