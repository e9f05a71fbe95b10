-- Steps 1 to 3 of la_generic. What `negate_disequality` makes of a literal, with all atoms on the left and the
-- constant on the right, is a constraint that states the literal's opposite: there is one (`disequality-states`),
-- every one agrees with it (`states-agree`), a literal that has one is not refused without limits
-- (`states-answered`), and where the literal is false it holds (`states-false`).
use mathlib.Core.Path.{◌≡◌, refl, sym, ◌∙◌, ap, subst}
use mathlib.Core.Bool.{true, false}
use mathlib.Core.List.{[], ◌∷◌}
use Prim.Native.Nat.{ℕ}
use borrow.Author.Tests.{not-false}
use lib.Dec.{eqb}
use Rattle.numbers.specs.Rational.{Lowest, neg_q}
use Rattle.terms.specs.Operator.{Equals, GreaterThan, GreaterEq}
use Rattle.terms.specs.Term.{Term, Terms}
use Rattle.numbers.specs.Choice.{when◌then◌else◌}
use Rattle.terms.specs.Term.Terms.{nil, ◌▹◌}
use Rattle.terms.specs.Smtlib.{Assignment, is_true, value}
use Rattle.numbers.proofs.Comparisons.{of_eq_p, of_less_p, of_less_eq_p}
use Rattle.numbers.proofs.Ring.{◌⊕◌, ◌⊖◌, neg, 𝟘, 𝟙, ◌≐◌, ◌·◌, ◌and◌, ◌from◌, derive}
use Rattle.numbers.proofs.Quotient.{ℚ, mk, ℚring, mk-eq}
use Rattle.terms.proofs.Sums.{meant}
use Rattle.book.proofs.BookTerms.{Each, Closed}
use Rattle.std.specs.Prelude.{Ok}
use Rattle.rules.specs.Limits.{Limits, the_rust}
use Rattle.index_map.specs.IndexMap.{combination, sub}
use Rattle.linear_walk.specs.LinearTerms.{from_term}
use Rattle.linear_comb.specs.LinearComb.{LinearComb}
use Rattle.index_map.specs.Memory.Entries.{terms}
use Rattle.disequality.specs.Disequality as Literal
use Rattle.disequality.specs.Disequality.{Disequality, disequality_of, inner, two_sides, negate_disequality}
use Rattle.alethe.specs.AletheTerms.{Departures, carcara, Sum, Linear}
use Rattle.alethe.specs.Alethe.{Constraint, constraint, Relation, States, IsRelation, equals, less_than, less_eq}
use Rattle.alethe.specs.Alethe.{greater_than, greater_eq, Opposite, Oriented, as-equals, as-greater, as-greater_eq}
use Rattle.alethe.specs.Alethe.{turned-less, turned-less_eq, Numbers}
use Rattle.alethe.specs.Alethe.Relation.{eq, ge, gt}
use Rattle.rules.proofs.Yields.{Yields, gives, refuses, at_ok, and_then, past}
use Rattle.rules.proofs.Valuations.{numberℚ}
use Rattle.rules_theory.proofs.IndexMaps.{CombinationOf}
use Rattle.alethe.proofs.Signs.{◌less◌, at_most, below}
use Rattle.linear_theory.proofs.Says.{Says, of_zero, of_nonneg, of_positive, says-as}
use Rattle.rules_theory.proofs.Shapes.{or_else_lem}
use Rattle.alethe.proofs.Literals.{test, at}
use Rattle.linear_theory.proofs.Oppositions.{inner-opposite, opposite-relation, opposite-says}
use Rattle.linear_theory.proofs.Weights.{weigh, numbered, EntriesFor}
use Rattle.linear_theory.proofs.NormalForms.{Normal}
use Rattle.linear_theory.proofs.LinearForms.{linear_form, linear_kept, linear_gathers, linear_value}
use Rattle.linear_theory.proofs.LinearSums.{SumOf}
use Rattle.rules_theory.proofs.Unlimited.{answer_of}
use Rattle.linear_theory.proofs.LiteralSides.{opposite-inside, SideWalks, literal_walks, literal-free}
use Rattle.linear_theory.proofs.NoZero.{disequality_of-nonzero}
use Rattle.linear_theory.proofs.SumsApart.{apart_terms, apart_bound, apart-kept, apart_weighs, apart-bound, Apart}
use Rattle.linear_theory.proofs.SumsApart.{sub-apart, neg-apart, apart-sums, apart-constant}

abbrev pub relation_of : ℕ → Relation
relation_of o = elim (eqb o GreaterThan) [ true ↦ gt | false ↦ elim (eqb o GreaterEq) [ true ↦ ge | false ↦ eq ] ]

abbrev pub operator_of : Relation → ℕ
operator_of eq = Equals
operator_of ge = GreaterEq
operator_of gt = GreaterThan

-- the operator has been turned to =, >= or >
pub data Upward : ℕ → Type 0 where
  is_equals : Upward Equals
  is_greater : Upward GreaterThan
  is_greater_eq : Upward GreaterEq

-- the Rust's disequality is the constraint, its atoms gathered
pub record Agrees (P : Term → Type 0) (d : Disequality) (k : Constraint) : Type 0 where
  pub upward : Upward d.operator
  pub relation : relation_of d.operator ≡ k.relation
  pub kept : CombinationOf P Lowest d.sum
  pub normal : Normal P k.terms d.sum.entries
  pub bound : d.sum.constant ≡ k.bound
  pub entries : EntriesFor P k.terms

-- ---- a constraint for the literal

two-sides : (ts : Terms) → Yields (λ p. ts ≡ p.0 ▹ p.1 ▹ nil) (two_sides ts)
two-sides nil = refuses
two-sides (a ▹ nil) = refuses
two-sides (a ▹ b ▹ nil) = gives refl
two-sides (a ▹ b ▹ c ▹ ts) = refuses

-- two terms in the order of =, >= or >
record Turned (a b : Term) (o : ℕ) : Type 0 where
  relation : Relation
  x : Term
  y : Term
  oriented : Oriented a b o relation x y

turned_round : (a b : Term) {o : ℕ} → IsRelation o → Turned a b o
turned_round a b equals = record { relation = eq; x = a; y = b; oriented = as-equals }
turned_round a b greater_than = record { relation = gt; x = a; y = b; oriented = as-greater }
turned_round a b greater_eq = record { relation = ge; x = a; y = b; oriented = as-greater_eq }
turned_round a b less_than = record { relation = gt; x = b; y = a; oriented = turned-less }
turned_round a b less_eq = record { relation = ge; x = b; y = a; oriented = turned-less_eq }

-- what holds of both terms holds of both sides
sides-inside : (P : Term → Type 0) {a b x y : Term} {o : ℕ} {r : Relation} → Oriented a b o r x y → P a → P b →
    P x × P y
sides-inside P as-equals pa pb = (pa, pb)
sides-inside P as-greater pa pb = (pa, pb)
sides-inside P as-greater_eq pa pb = (pa, pb)
sides-inside P turned-less pa pb = (pb, pa)
sides-inside P turned-less_eq pa pb = (pb, pa)

-- ---- what a constraint's relation says

-- the operator that a relation is turned to
turned-operator : {a b x y : Term} {o : ℕ} {r : Relation} → Oriented a b o r x y → (s : LinearComb) (n : ℕ) →
    Upward (Literal.turned o s n).operator × (relation_of (Literal.turned o s n).operator ≡ r)
unfolding Literal.turned when◌then◌else◌
turned-operator as-equals s n = (is_equals, refl)
turned-operator as-greater s n = (is_greater, refl)
turned-operator as-greater_eq s n = (is_greater_eq, refl)
turned-operator turned-less s n = (is_greater, refl)
turned-operator turned-less_eq s n = (is_greater_eq, refl)

-- what a and b are apart, turned, is what x and y are apart
turned_apart : (P : Term → Type 0) {a b x y : Term} {o : ℕ} {r : Relation} → Oriented a b o r x y →
    (c : LinearComb) (n : ℕ) →
    ((s t : Sum) → Linear a s → Linear b t → Apart P s t c) → (left right : Sum) → Linear x left → Linear y right →
    Apart P left right (Literal.turned o c n).sum
unfolding Literal.turned when◌then◌else◌
turned_apart P as-equals c n h left right hx hy = h left right hx hy
turned_apart P as-greater c n h left right hx hy = h left right hx hy
turned_apart P as-greater_eq c n h left right hx hy = h left right hx hy
turned_apart P turned-less c n h left right hx hy = neg-apart right left c (h right left hy hx)
turned_apart P turned-less_eq c n h left right hx hy = neg-apart right left c (h right left hy hx)

-- the test of a relation, passed, says what the operator says of the difference
oriented-says : {a b x y : Term} {o : ℕ} {r : Relation} (q : IsRelation o) → Oriented a b o r x y → (ρ : Assignment) →
    test q (at ρ a) (at ρ b) ≡ true → Says (operator_of r) (mk (at ρ x) less mk (at ρ y))
oriented-says {a} {b} equals as-equals ρ e =
    of_zero
    (derive ℚring (mk (at ρ a) ∷ mk (at ρ b) ∷ []) (λ a b. a ⊖ b ≐ 𝟘 from 𝟙 · a ≐ b) tt
    (mk-eq (at ρ a) (at ρ b) (of_eq_p (at ρ a) (at ρ b) e)))
oriented-says {a} {b} greater_than as-greater ρ e =
    of_positive (below (at ρ b) (at ρ a) (of_less_p (at ρ b) (at ρ a) e).lt)
oriented-says {a} {b} greater_eq as-greater_eq ρ e =
    of_nonneg (at_most (at ρ b) (at ρ a) (of_less_eq_p (at ρ b) (at ρ a) e).le)
oriented-says {a} {b} less_than turned-less ρ e =
    of_positive (below (at ρ a) (at ρ b) (of_less_p (at ρ a) (at ρ b) e).lt)
oriented-says {a} {b} less_eq turned-less_eq ρ e =
    of_nonneg (at_most (at ρ a) (at ρ b) (of_less_eq_p (at ρ a) (at ρ b) e).le)

-- ---- the theorems

module _ {P : Term → Type 0} (closed : Closed P) where
  module _ {a b : Term} {o : ℕ} (pa : P a) (pb : P b) (l : Limits) (n : ℕ) (d : Disequality) (w : SideWalks l o a b n d)
    where
      abbrev difference : LinearComb
      difference = combination w.difference.entries (neg_q w.difference.constant)

      walks_apart : (s r : Sum) → Linear a s → Linear b r → Apart P s r difference
      walks_apart s r hs hr =
          sub-apart s r l w.left.sum w.right.sum (linear_gathers closed a pa s hs l n w.left w.first)
          (linear_gathers closed b pb r hr l w.left.visits w.right w.second) w.difference w.apart

      sides-agree : {x y : Term} {r : Relation} → Oriented a b o r x y → (left right : Sum) → Linear x left →
          Linear y right →
          Upward d.operator × (relation_of d.operator ≡ r) × Apart P left right d.sum
      sides-agree {x} {y} {r} t left right hx hy =
          let h = turned-operator t difference w.right.visits in
          subst
          (λ (d : Disequality). Upward d.operator × (relation_of d.operator ≡ r) × Apart P left right d.sum)
          (sym w.is) (h.0, h.1, turned_apart P t difference w.right.visits walks_apart left right hx hy)

module _ {P : Term → Type 0} (closed : Closed P) (phi : Term) (p : P phi) where
  stated : {a b : Term} {o : ℕ} → Opposite (a ▹ b ▹ nil) phi o → P a → P b → (k : Constraint) × States carcara phi k
  stated {a} {b} {o} h pa pb =
      let t = turned_round a b (opposite-relation h) in
      let ps = sides-inside P t.oriented pa pb in
      let left = linear_form closed t.x ps.0 in
      let right = linear_form closed t.y ps.1 in (
        constraint (apart_terms left.0 right.0) t.relation (apart_bound left.0 right.0),
        record {
          o = o;
          a = a;
          b = b;
          x = t.x;
          y = t.y;
          left = left.0;
          right = right.0;
          opposite = h;
          sorts = Numbers.other_sort tt;
          oriented = t.oriented;
          left_sum = left.1;
          right_sum = right.1;
          terms = refl;
          bound = refl;
        },
      )

  pub disequality-states : (l : Limits) (n : ℕ) →
      Yields (λ d. (k : Constraint) × States carcara phi k) (disequality_of l phi n)
  unfolding disequality_of negate_disequality
  disequality-states l n =
      and_then {P = λ r. (k : Constraint) × States carcara phi k}
      (and_then (or_else_lem (inner phi) _ (inner-opposite closed phi p)) λ q f.
      and_then (two-sides q.1) λ ab e.
      let ps = subst (Each P) e f.inside in
      past (from_term l ab.0 n) λ w1.
      past (from_term l ab.1 w1.visits) λ w2.
      gives (stated (subst (λ (ts : Terms). Opposite ts phi q.0) e f.literal) ps.0 ps.1.0))
      (λ r k. past (sub terms l r.1 r.2) λ s. gives k)

  module _ (by : Departures) (k : Constraint) (h : States by phi k) where
    inside : P h.x × P h.y
    inside = let ps = opposite-inside closed phi p h.opposite in sides-inside P h.oriented ps.0 ps.1.0

    left-kept : SumOf P h.left
    left-kept = linear_kept closed h.x inside.0 h.left h.left_sum

    right_kept : SumOf P h.right
    right_kept = linear_kept closed h.y inside.1 h.right h.right_sum

    -- its atoms and its bound
    pub states-kept : EntriesFor P k.terms × Lowest k.bound
    states-kept =
        let g = apart-kept h.left h.right left-kept right_kept in
        (rw h.terms g.0, rw h.bound g.1)

    pub states-agree : (l : Limits) (n : ℕ) (d : Disequality) → disequality_of l phi n ≡ Ok d → Agrees P d k
    states-agree l n d e =
        let ps = opposite-inside closed phi p h.opposite in
        let w = literal_walks l h.o h.a h.b n phi h.opposite d e in
        let g =
        sides-agree closed ps.0 ps.1.0 l n d w h.oriented h.left h.right h.left_sum h.right_sum in
        let sums = apart-sums h.left h.right left-kept right_kept d.sum g.2 in
        record {
          upward = g.0;
          relation = g.1;
          kept = g.2.kept;
          normal = record {
            tidy = at_ok (disequality_of-nonzero l phi n) e;
            kept = g.2.kept.entries;
            sums = λ v. sums v ∙ ap (weigh (numbered v)) (sym h.terms);
          };
          bound = apart-constant h.left h.right left-kept right_kept d.sum g.2 ∙ sym h.bound;
          entries = states-kept.0;
        }

    pub states-answered : (n : ℕ) → (d : Disequality) × (disequality_of the_rust phi n ≡ Ok d)
    states-answered n = let (d, (e, t)) = answer_of (literal-free h.opposite n) in (d, e)

    pub states-false : (ρ : Assignment) → is_true (value ρ phi) ≡ false →
        Says (operator_of k.relation) (weigh (λ t. meant (value ρ t)) k.terms less numberℚ k.bound)
    states-false ρ e =
        let f : Term → ℚ = λ t. meant (value ρ t) in
        let q = opposite-relation h.opposite in
        says-as
        (derive ℚring
        (meant (value ρ h.x) ∷ meant (value ρ h.y) ∷ weigh f h.left.terms ∷ weigh f h.right.terms
        ∷ numberℚ h.left.constant ∷ numberℚ h.right.constant ∷ weigh f k.terms ∷ numberℚ k.bound ∷ [])
        (λ x y l r c d w b.
        x ⊖ y ≐ w ⊖ b from
        𝟙 · x ≐ l ⊕ c and neg 𝟙 · y ≐ r ⊕ d and neg 𝟙 · w ≐ l ⊕ neg r and 𝟙 · b ≐ d ⊕ neg c) tt
        (linear_value closed h.x inside.0 h.left h.left_sum ρ)
        (linear_value closed h.y inside.1 h.right h.right_sum ρ)
        (ap (weigh f) h.terms ∙ apart_weighs h.left h.right left-kept right_kept f)
        (ap numberℚ h.bound ∙ apart-bound h.left h.right left-kept right_kept))
        (oriented-says q h.oriented ρ
        (not-false (test q (at ρ h.a) (at ρ h.b)) (sym (opposite-says ρ h.opposite) ∙ e)))
