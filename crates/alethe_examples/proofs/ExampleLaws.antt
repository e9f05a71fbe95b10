-- What the closed examples of the Alethe side share. Of the literal (not (o a b)) between sides that have one sum
-- each there is one constraint (`stated`), which the literal states (`states`) and no other (`states-only`). Atoms,
-- constants and products of atoms have one sum each (`atom-only`, `constant-only`, `product-only`).
--     cancels_by       coefficients cancel where those of every atom that occurs do
--     line_of, generic_of, accepts       a line whose relation stays; a step of la_generic from its lines
--     written-constant       a constant is one number
use mathlib.Core.Path.{◌≡◌, refl, ◌∙◌, ap, ap₂}
use mathlib.Core.Bool.{Bool, true, false, ◌&&◌, ◌||◌}
use mathlib.Core.List.{List, [], ◌∷◌, ◌++◌}
use mathlib.Core.Logic.{◌⊎◌, inl, inr, ⊎_elim}
use Prim.Native.Nat.{ℕ}
use native.Mathlib.Omega.{arith}
use borrow.Author.Tests.{eqb-true}
use lib.Dec.{eqb}
use lib.IntN.{ℤ}
use Rattle.numbers.specs.Rational as Rational
use Rattle.numbers.specs.Rational.{Rational, add_q, mul_q, neg_q, is_zero}
use Rattle.terms.specs.Operator.{Not, Equals, LessThan, LessEq, GreaterThan, Mult}
use Rattle.terms.specs.Term.{Sort, Term, Terms, record_number, unary, binary}
use Rattle.numbers.specs.Choice.{when◌then◌else◌}
use Rattle.terms.specs.Term.Term.{integer, rational, op}
use Rattle.terms.specs.Term.Terms.{nil, ◌▹◌}
use Rattle.terms.specs.Readers.{as_op, as_number, quotient_of, as_unsigned_fraction, as_fraction}
use Rattle.numbers.proofs.Truths.{both}
use Rattle.terms.proofs.Readings.{not-number}
use Rattle.alethe.specs.AletheTerms.{Departures, Is, is, IsRelation, equals, less_than, less_eq, greater_than, greater_eq}
use Rattle.alethe.specs.AletheTerms.{Constant, Unsigned, Written, Entries, Sum, sum_of, times_each, nought, one, minus_one}
use Rattle.alethe.specs.AletheTerms.{Atom, Linear, coefficient_of, Cancels, Indivisible}
use Rattle.alethe.specs.Alethe.{Relation, Constraint, constraint, Opposite, Turns, Oriented, Numbers, States}
use Rattle.alethe.specs.Alethe.{Strengthens, Clause, factor, ScaledRelation, Line, Lines, all_terms, sum_bound, Joins}
use Rattle.alethe.specs.Alethe.{contradicts, LaGeneric, Arguments}
use Rattle.alethe.specs.Alethe.Relation.{eq, ge, gt}
use Rattle.alethe.specs.Alethe.Turns.{less, greater, less_equal, greater_equal}
use Rattle.alethe.specs.Alethe.Opposite.{negation, turned}
use Rattle.alethe.specs.Alethe.Oriented.{as-equals, as-greater, as-greater_eq, turned-less, turned-less_eq}
use Rattle.alethe.specs.AletheExamples.{not_two}
use Rattle.rules_theory.proofs.WrittenNumbers.{written_read}
use Rattle.rules_theory.proofs.Shapes.{nothing-found, operation_of_lem}
pub use Rattle.rules_theory.proofs.Shapes.{is_itself}

-- ---- written numbers

module _ (i : ℕ) (s : Sort) (n : ℕ) where
  pub atom_unwritten : (q : Rational) → Written (Term.atom i s n) q → ⊥
  unfolding as_fraction as_unsigned_fraction quotient_of unary binary as_number
  atom_unwritten q w = not-number (written_read w)

  pub atom_no_operation : {A : Type 0} {o : ℕ} {ts : Terms} → Is o ts (Term.atom i s n) → A
  unfolding as_op
  atom_no_operation h = nothing-found (operation_of_lem h)

pub written-constant : (i : ℕ) (c : ℤ) (q : Rational) → Written (integer i c) q → q ≡ Rational.whole c
unfolding as_fraction as_unsigned_fraction quotient_of unary binary as_number
written-constant i c q w = let e = written_read w in cc

pub written-fraction : (i : ℕ) (r q : Rational) → Written (rational i r) q → q ≡ r
unfolding as_fraction as_unsigned_fraction quotient_of unary binary as_number
written-fraction i r q w = let e = written_read w in cc

pub constant-written : (i : ℕ) (c : ℤ) → Written (integer i c) (Rational.whole c)
constant-written i c = Written.plain (Unsigned.constant (Constant.whole i c))

-- ---- sums

-- the sum is the term's only one
abbrev pub Only : Term → Sum → Type 0
Only t s = (r : Sum) → Linear t r → r ≡ s

-- an atom once
abbrev pub alone : Term → Sum
alone t = sum_of ((one, t) ∷ []) nought

module _ (i : ℕ) (s : Sort) (n : ℕ) where
  pub atom_is : Atom (Term.atom i s n)
  atom_is =
      record {
        no_number = atom_unwritten i s n;
        not_sum = λ ts h. atom_no_operation i s n h;
        not_difference = λ ts h. atom_no_operation i s n h;
        not_product = λ a b q h w. atom_no_operation i s n h;
      }

  pub atom-only : Only (Term.atom i s n) (alone (Term.atom i s n))
  atom-only r (Linear.number w) = absurd (atom_unwritten i s n _ w)
  atom-only r (Linear.atom a) = refl
  atom-only r (Linear.sum h l) = atom_no_operation i s n h
  atom-only r (Linear.minus h l) = atom_no_operation i s n h
  atom-only r (Linear.difference h l k) = atom_no_operation i s n h
  atom-only r (Linear.product_left h w l) = atom_no_operation i s n h
  atom-only r (Linear.product_right h w l) = atom_no_operation i s n h

-- the same for products written out
pub indivisible_atom : (i : ℕ) (s : Sort) (n : ℕ) → Indivisible (Term.atom i s n)
indivisible_atom i s n =
    record {
      no_number = atom_unwritten i s n;
      not_vector = λ j w b e. let z : ◌≡◌ {A = ℕ} 0 1 = cc in omega arith;
      not_sum = λ o ts k h. atom_no_operation i s n h;
      not_real = λ ts h. atom_no_operation i s n h;
      not_minus = λ o ts k h. atom_no_operation i s n h;
      not_difference = λ o ts k h. atom_no_operation i s n h;
      not_product = λ o ts k h. atom_no_operation i s n h;
      not_quotient = λ a b q h w z. atom_no_operation i s n h;
    }

-- the same for constants; c is written
module _ (i : ℕ) (c : ℤ) where
  pub constant_no_operation : {A : Type 0} {o : ℕ} {ts : Terms} → Is o ts (integer i c) → A
  unfolding as_op
  constant_no_operation h = nothing-found (operation_of_lem h)

  pub constant-only : Only (integer i c) (sum_of [] (Rational.whole c))
  constant-only r (Linear.number w) = ap (sum_of []) (written-constant i c _ w)
  constant-only r (Linear.atom a) = absurd (a.no_number _ (constant-written i c))
  constant-only r (Linear.sum h l) = constant_no_operation h
  constant-only r (Linear.minus h l) = constant_no_operation h
  constant-only r (Linear.difference h l k) = constant_no_operation h
  constant-only r (Linear.product_left h w l) = constant_no_operation h
  constant-only r (Linear.product_right h w l) = constant_no_operation h

-- a product of two terms that are no numbers is an atom
module _ (i : ℕ) (a b : Term) (na : (q : Rational) → Written a q → ⊥) (nb : (q : Rational) → Written b q → ⊥) where
  pub product-only : Only (op i Mult (a ▹ b ▹ nil)) (alone (op i Mult (a ▹ b ▹ nil)))
  unfolding as_fraction as_unsigned_fraction quotient_of unary binary as_number
  product-only r (Linear.number w) = not-number (written_read w)
  product-only r (Linear.atom k) = refl
  product-only r (Linear.sum h l) = absurd (omega (arith, (is_itself h).0))
  product-only r (Linear.minus h l) = absurd (omega (arith, (is_itself h).0))
  product-only r (Linear.difference h l k) = absurd (omega (arith, (is_itself h).0))
  product-only r (Linear.product_left {a = c} {q = q} h w l) =
      let e = (is_itself h).1 in let f : c ≡ a = cc in absurd (na q (rw f at w))
  product-only r (Linear.product_right {b = c} {q = q} h w l) =
      let e = (is_itself h).1 in let f : c ≡ b = cc in absurd (nb q (rw f at w))

-- ---- what (not (o a b)) states

-- s ⋈ t with the atoms on the left
abbrev pub moved : Relation → Sum → Sum → Constraint
moved r s t = constraint (s.terms ++ times_each minus_one t.terms) r (add_q t.constant (neg_q s.constant))

abbrev pub relation_of : ℕ → Relation
relation_of o = when eqb o Equals then eq else when eqb o GreaterThan || eqb o LessThan then gt else ge

-- < and <= are turned round
abbrev pub stated : ℕ → Sum → Sum → Constraint
stated o s t = when eqb o LessThan || eqb o LessEq then moved (relation_of o) t s else moved (relation_of o) s t

turns_no_negation : {p o : ℕ} → Turns p o → p ≡ Not → ⊥
turns_no_negation less e = omega (arith, e)
turns_no_negation greater e = omega (arith, e)
turns_no_negation less_equal e = omega (arith, e)
turns_no_negation greater_equal e = omega (arith, e)

pub opposite_of_negation :
    {i j o p : ℕ} {ts us : Terms} → Opposite ts (op i Not (op j o us ▹ nil)) p → (p ≡ o) × (ts ≡ us)
opposite_of_negation (negation body r (is j) (is i)) = (refl, refl)
opposite_of_negation (turned p t h) = absurd (turns_no_negation t (is_itself h).0)

module _ (by : Departures) (i j : ℕ) {a b : Term} (n : Numbers by a b) where
  stating :
      {o : ℕ} {r : Relation} {x y : Term} {left right : Sum} → IsRelation o → Oriented a b o r x y → Linear x left →
      Linear y right → States by (not_two i j o a b) (moved r left right)
  stating {o} {r} {x} {y} {left} {right} k h lx ly =
      record {
        o = o;
        a = a;
        b = b;
        x = x;
        y = y;
        left = left;
        right = right;
        opposite = negation _ k (is j) (is i);
        sorts = n;
        oriented = h;
        left_sum = lx;
        right_sum = ly;
        terms = refl;
        bound = refl;
      }

  pub states :
      {o : ℕ} {sa sb : Sum} → IsRelation o → Linear a sa → Linear b sb → States by (not_two i j o a b) (stated o sa sb)
  unfolding when◌then◌else◌
  states equals la lb = stating equals as-equals la lb
  states less_than la lb = stating less_than turned-less lb la
  states less_eq la lb = stating less_eq turned-less_eq lb la
  states greater_than la lb = stating greater_than as-greater la lb
  states greater_eq la lb = stating greater_eq as-greater_eq la lb

module _ {a b : Term} {sa sb : Sum} (oa : Only a sa) (ob : Only b sb) where
  moved-only :
      {c d x y : Term} {p : ℕ} {r : Relation} {left right : Sum} → Oriented c d p r x y → c ≡ a → d ≡ b →
      Linear x left → Linear y right → moved r left right ≡ stated p sa sb
  unfolding when◌then◌else◌
  moved-only as-equals ea eb lx ly = ap₂ (moved eq) (oa _ (rw ea at lx)) (ob _ (rw eb at ly))
  moved-only as-greater ea eb lx ly = ap₂ (moved gt) (oa _ (rw ea at lx)) (ob _ (rw eb at ly))
  moved-only as-greater_eq ea eb lx ly = ap₂ (moved ge) (oa _ (rw ea at lx)) (ob _ (rw eb at ly))
  moved-only turned-less ea eb lx ly = ap₂ (moved gt) (ob _ (rw eb at lx)) (oa _ (rw ea at ly))
  moved-only turned-less_eq ea eb lx ly = ap₂ (moved ge) (ob _ (rw eb at lx)) (oa _ (rw ea at ly))

  pub states-only :
      (by : Departures) (i j o : ℕ) (k : Constraint) → States by (not_two i j o a b) k → k ≡ stated o sa sb
  states-only by i j o k h =
      let e = opposite_of_negation h.opposite in
      let f = e.1 in
      let ea : h.a ≡ a = cc in
      let eb : h.b ≡ b = cc in
      ap₂ (λ es d. constraint es k.relation d) h.terms h.bound
      ∙ moved-only h.oriented ea eb h.left_sum h.right_sum
      ∙ ap (λ (o : ℕ). stated o sa sb) e.0

-- ---- coefficients that cancel

unfoldable pub all_zero_in : Entries → Entries → Bool
all_zero_in es [] = true
all_zero_in es (e ∷ r) = is_zero (coefficient_of (record_number e.1) es) && all_zero_in es r

module _ (es : Entries) (i : ℕ) where
  zero_or_absent :
      (r : Entries) → all_zero_in es r ≡ true → (is_zero (coefficient_of i es) ≡ true) ⊎ (coefficient_of i r ≡ nought)
  unfolding all_zero_in coefficient_of
  zero_or_absent [] h = inr refl
  zero_or_absent (e ∷ r) h =
      let k = both (is_zero (coefficient_of (record_number e.1) es)) (all_zero_in es r) h in
      go (eqb (record_number e.1) i) refl k.0 (zero_or_absent r k.1)
    where
      go :
          (t : Bool) → eqb (record_number e.1) i ≡ t → is_zero (coefficient_of (record_number e.1) es) ≡ true →
          (is_zero (coefficient_of i es) ≡ true) ⊎ (coefficient_of i r ≡ nought) →
          (is_zero (coefficient_of i es) ≡ true)
          ⊎ (elim t as (λ z. Rational) [ true ↦ add_q e.0 (coefficient_of i r) | false ↦ coefficient_of i r ] ≡ nought)
      go true m zero rest = inl (rw (eqb-true (record_number e.1) i m) at zero)
      go false m zero rest = rest

pub cancels_by : (es : Entries) → all_zero_in es es ≡ true → Cancels es
unfolding is_zero
cancels_by es h i = ⊎_elim (λ e. e) (λ e. ap is_zero e) (zero_or_absent es i es h)

-- ---- lines and steps

-- step 5, where the relation stays
abbrev pub scaled_by : Rational → Constraint → Constraint
scaled_by a k =
    constraint (times_each (factor k.relation a) k.terms) k.relation (mul_q (factor k.relation a) k.bound)

pub line_of :
    {by : Departures} {phi : Term} {a : Rational} {k k' : Constraint} → States by phi k → Strengthens by a k k' →
    ScaledRelation by a k'.relation k'.relation → Line by phi a (scaled_by a k')
line_of {k = k} {k'} s t r =
    record { negated = k; strong = k'; states = s; strengthens = t; relation = r; terms = refl; bound = refl }

-- arguments that are numbers, and a step of la_generic with them
abbrev pub Accepts : Departures → Clause → List Term → Type 0
Accepts by c args = (qs : List Rational) × Arguments args qs × LaGeneric by c qs

pub generic_of :
    {by : Departures} {c : Clause} {qs : List Rational} {ks : List Constraint} {r : Relation} → Lines by c qs ks →
    all_zero_in (all_terms ks) (all_terms ks) ≡ true → Joins by ks r → contradicts r (sum_bound ks) ≡ true →
    LaGeneric by c qs
generic_of {ks = ks} {r} l z j e =
    record {
      constraints = ks;
      lines = l;
      cancels = cancels_by (all_terms ks) z;
      relation = r;
      joins = j;
      contradiction = e;
    }

pub accepts :
    {by : Departures} {c : Clause} {args : List Term} {qs : List Rational} {ks : List Constraint} {r : Relation} →
    Arguments args qs → Lines by c qs ks → all_zero_in (all_terms ks) (all_terms ks) ≡ true → Joins by ks r →
    contradicts r (sum_bound ks) ≡ true → Accepts by c args
accepts {qs = qs} a l z j e = (qs, a, generic_of l z j e)
