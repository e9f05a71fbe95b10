-- One literal of rules 5 and 6: what an accepted one goes through (`steps`), what demand 3's premise on whole numbers
-- says of its sum (`literal-whole`), and that the argument is the one given, or one more number of the trace
-- (`steps-argued`), in lowest terms (`argument-lowest`).
use mathlib.Core.Path.{◌≡◌, refl, sym, ap, subst}
use mathlib.Core.Bool.{Bool, true, false, not, ◌&&◌, ◌||◌}
use Rattle.std.specs.Prelude.{Option, Some, None}
use mathlib.Core.List.{List, [], ◌∷◌, ◌++◌}
use Prim.Native.Nat.{ℕ}
use native.Mathlib.Omega.{arith}
use Rattle.numbers.specs.Rational.{Rational, Lowest, neg_q, is_integer, is_zero}
use Rattle.terms.specs.Term.{Term}
use Rattle.numbers.proofs.Truths.{both, never}
use Rattle.numbers.proofs.Rationals.{neg-lowest, div-lowest}
use Rattle.rules.specs.Refusal.{Result, or_else}
use Rattle.rules.specs.declared.refusal.Refusal.{Refusal}
use Rattle.std.specs.Prelude.{Ok, Err}
use Rattle.rules.specs.Limits.{Limits}
use Rattle.index_map.specs.IndexMap.{Map, get, add}
use Rattle.linear_comb.specs.LinearComb.{LinearComb, mul, all_int}
use Rattle.index_map.specs.Memory.Entries.{terms}
use Rattle.process_disequality.specs.ProcessDisequality.{strengthened, Progress, progress, inferred, argument_of}
use Rattle.process_disequality.specs.ProcessDisequality.{join_operators, scalar, weakened, process_disequality}
use Rattle.disequality.specs.Disequality.{Disequality, disequality_of}
use Rattle.linear_theory.specs.Premises.{whole_coefficients, whole_literal}
use Rattle.rules.proofs.Yields.{Yields, guarded, gives, refuses, at_ok, and_then, weaker, over-yields, by_answer}
use Rattle.rules.proofs.Yields.{through}
use Rattle.rules_theory.proofs.IndexMaps.{EntriesOf}
use Rattle.linear_theory.proofs.VisitsFree.{Follows, answers, stops, SameTerms, disequality_of-free}

-- ---- the premise, on the sum that the step has in hand

abbrev pub WholeOf : LinearComb → Rational → Type 0
WholeOf s a = all_int s.entries ≡ true → (whole_coefficients s.entries ≡ true) × (is_integer a ≡ true)

-- the test that stands in the premise
abbrev whole_sum : LinearComb → Rational → Bool
whole_sum s a = not (all_int s.entries) || (whole_coefficients s.entries && is_integer a)

implied : (s t : Bool) → (not s || t) ≡ true → s ≡ true → t ≡ true
implied true t e h = e
implied false t e h = never h

premise_of : (a : Rational) {x y : Result Disequality} → Follows SameTerms x y → (d : Disequality) →
    x ≡ Ok d →
    (elim y as (λ u. Bool) [ Ok d ↦ whole_sum d.sum a | Err r ↦ true ]) ≡ true →
    WholeOf d.sum a
premise_of a (answers {a = c} {b} h) d e w i =
    let same : b.sum ≡ d.sum = cc in
    both (whole_coefficients d.sum.entries) (is_integer a)
    (implied (all_int d.sum.entries) _ (rw same at w) i)
premise_of a stops d e w i = let z : ◌≡◌ {A = ℕ} 0 1 = cc in absurd (omega arith)

module _ (l : Limits) where
  pub literal-whole : (phi : Term) (n : ℕ) (d : Disequality) → disequality_of l phi n ≡ Ok d → (a : Rational) →
      whole_literal phi a ≡ true → WholeOf d.sum a
  unfolding whole_literal
  literal-whole phi n d e a w = premise_of a (disequality_of-free l phi n 0) d e w

-- ---- the argument

not-true : (t : Bool) → not t ≡ true → t ≡ false
not-true true e = sym e
not-true false e = refl

-- an argument that is given is in lowest terms
abbrev pub LowestGiven : Option Rational → Type 0
LowestGiven (Some a) = Lowest a
LowestGiven None = Unit {0}

-- which argument is used, and the trace after it
abbrev pub Argued : Option Rational → List Rational → Rational → List Rational → Type 0
Argued (Some b) before a after = (b ≡ a) × (after ≡ before)
Argued None before a after = after ≡ before ++ a ∷ []

module _ (l : Limits) where
  module _ (P : Term → Type 0) where
    get-lowest : (r : Refusal) (m : Map Term) → EntriesOf P Lowest m → (t : Term) →
        Yields Lowest (or_else (get terms m t) r)
    unfolding get or_else
    get-lowest r [] g t = refuses
    get-lowest r (e ∷ m) (g, gs) t = go (terms.same e.0 t) (get-lowest r m gs t)
      where
        go : (b : Bool) → Yields Lowest (or_else (get terms m t) r) →
            Yields Lowest
            (or_else (elim b as (λ x. Option Rational) [ true ↦ Some e.1 | false ↦ get terms m t ]) r)
        go true h = gives g.good
        go false h = h

    inferred-lowest : (acc m : Map Term) → EntriesOf P Lowest acc → EntriesOf P Lowest m →
        Yields Lowest (inferred l acc m)
    unfolding inferred
    inferred-lowest acc [] g h = refuses
    inferred-lowest acc ((t, c) ∷ []) g (h, hs) =
        guarded (not (is_zero c)) _ λ z u.
        and_then (get-lowest _ acc g t) λ k lk.
        weaker (λ q e. rw e (div-lowest (neg_q k) c (neg-lowest k lk) h.good (not-true (is_zero c) z)))
        (over-yields l (neg_q k) c)
    inferred-lowest acc (e ∷ f ∷ m) g h = refuses

  argument-argued : (p : Progress) (s : LinearComb) (arg : Option Rational) →
      Yields (λ x. Argued arg p.trace x.0 x.1) (argument_of l p s arg)
  unfolding argument_of
  argument-argued p s (Some a) = gives (refl, refl)
  argument-argued p s None =
      and_then (by_answer (inferred l p.acc.entries s.entries) (λ a e. e)) λ a e. gives refl

  pub argument-lowest : (P : Term → Type 0) (p : Progress) (s : LinearComb) (arg : Option Rational) →
      EntriesOf P Lowest p.acc.entries → EntriesOf P Lowest s.entries → LowestGiven arg →
      Yields (λ x. Lowest x.0) (argument_of l p s arg)
  unfolding argument_of
  argument-lowest P p s (Some a) g h la = gives la
  argument-lowest P p s None g h la =
      and_then (inferred-lowest P p.acc.entries s.entries g h) λ a la. gives la

  -- ---- what an accepted step goes through

  pub record Steps (p : Progress) (phi : Term) (arg : Option Rational) (q : Progress) : Type 0 where
    pub literal : Disequality
    pub argument : Rational × List Rational
    pub stronger : ℕ × LinearComb
    pub scaled : LinearComb
    pub acc : LinearComb
    pub of_literal : disequality_of l phi p.visits ≡ Ok literal
    pub of_argument : argument_of l p literal.sum arg ≡ Ok argument
    pub of_stronger : strengthened l literal.operator literal.sum argument.0 ≡ Ok stronger
    pub of_scaled : mul l stronger.1 (scalar stronger.0 argument.0) ≡ Ok scaled
    pub of_acc : add terms l p.acc scaled ≡ Ok acc
    pub is :
        progress (join_operators p.operator (weakened stronger.0 argument.0)) acc argument.1
        literal.visits
        ≡ q

  module _ (p : Progress) (phi : Term) (arg : Option Rational) (q : Progress)
      (e : process_disequality l p phi arg ≡ Ok q) where
    pub steps : Steps p phi arg q
    unfolding process_disequality
    steps =
        let t1 = through (disequality_of l phi p.visits) _ q e in
        let t2 = through (argument_of l p t1.middle.sum arg) _ q t1.then in
        let d = t1.middle in
        let t3 = through (strengthened l d.operator d.sum t2.middle.0) _ q t2.then in
        let t4 = through (mul l t3.middle.1 (scalar t3.middle.0 t2.middle.0)) _ q t3.then in
        let t5 = through (add terms l p.acc t4.middle) _ q t4.then in
        record {
          literal = t1.middle;
          argument = t2.middle;
          stronger = t3.middle;
          scaled = t4.middle;
          acc = t5.middle;
          of_literal = t1.first;
          of_argument = t2.first;
          of_stronger = t3.first;
          of_scaled = t4.first;
          of_acc = t5.first;
          is = (let h = t5.then in cc);
        }

    pub steps-argued : Argued arg p.trace steps.argument.0 q.trace
    steps-argued =
        subst (Argued arg p.trace steps.argument.0) (ap (λ (q : Progress). q.trace) steps.is)
        (at_ok (argument-argued p steps.literal.sum arg) steps.of_argument)

    pub argued : (a : Rational) × Argued arg p.trace a q.trace
    argued = (steps.argument.0, steps-argued)
