-- What a step of the Alethe side must be, from its form: inversions that refute closed steps. A line keeps the atoms
-- that its literal states, times the argument's factor (`line-terms`); where nothing is raised it keeps the bound too
-- (`line_kept`). An atom, a negation and the square of an atom are written out in one way.
--     no_literal, no_negation       operators that make no literal and no negation
--     one_line, two-lines       the lines of a clause
--     strengthens-factor, strengthens-kept       step 4
use mathlib.Core.Path.{◌≡◌, refl, sym, ◌∙◌, ap, ap₂}
use mathlib.Core.Bool.{true, false}
use mathlib.Core.List.{List, [], ◌∷◌}
use Prim.Native.Nat.{ℕ, ◌≤◌, ◌<◌}
use native.Mathlib.Omega.{arith}
use Rattle.numbers.specs.Rational.{Rational, is_integer}
use Rattle.terms.specs.Operator.{Not, LessThan, Add, Mult}
use Rattle.terms.specs.Term.{Sort, Term, Terms, unary, binary}
use Rattle.terms.specs.Term.Term.{op}
use Rattle.terms.specs.Term.Terms.{nil, ◌▹◌}
use Rattle.terms.specs.Readers.{as_number, quotient_of, as_unsigned_fraction, as_fraction}
use Rattle.numbers.proofs.Truths.{never}
use Rattle.terms.proofs.Readings.{not-number}
use Rattle.alethe.specs.AletheTerms.{Departures, words, is, IsNot2, times_each, one, Products, multiply, IsSum, IsMinus}
use Rattle.alethe.specs.AletheTerms.{IsDifference, IsProduct, Expands, Factors}
use Rattle.alethe.specs.Alethe.{Relation, Constraint, constraint, Turns, Opposite, States, all_int, Strengthens, factor}
use Rattle.alethe.specs.Alethe.{ScaledRelation, Line, Lines}
use Rattle.alethe.specs.Alethe.Relation.{ge}
use Rattle.alethe.specs.Alethe.Turns.{less, greater, less_equal, greater_equal}
use Rattle.alethe.specs.Alethe.Opposite.{negation, turned}
use Rattle.alethe.proofs.ConstraintLaws.{strengthens-terms}
use Rattle.rules_theory.proofs.WrittenNumbers.{written_read}
use Rattle.alethe_examples.proofs.ExampleLaws.{is_itself, atom_unwritten, atom_no_operation, scaled_by}

-- ---- literals

turned-above : {p o : ℕ} → Turns p o → LessThan ≤ p
turned-above less = omega arith
turned-above greater = omega arith
turned-above less_equal = omega arith
turned-above greater_equal = omega arith

-- an operator between not and < makes no literal
pub no_literal :
    {i p : ℕ} {us : Terms} (by : Departures) (k : Constraint) → Not < p → p < LessThan →
    States by (op i p us) k → ⊥
no_literal {i} {p} {us} by k l m h = go h.opposite
  where
    go : {ts : Terms} {o : ℕ} → Opposite ts (op i p us) o → ⊥
    go (negation body r s n) = omega (arith, (is_itself n).0)
    go (turned q t s) = omega (arith, turned-above t, (is_itself s).0)

pub no_negation : {i o p : ℕ} {a b : Term} {us : Terms} → Not < p → IsNot2 o a b (op i p us) → ⊥
no_negation l h = omega (arith, (is_itself h.negation).0)

-- ---- lines

module _ {by : Departures} where
  pub one_line :
      {phi : Term} {a : Rational} {ks : List Constraint} → Lines by (phi ∷ []) (a ∷ []) ks →
      (k : Constraint) × Line by phi a k × (ks ≡ k ∷ [])
  one_line (Lines.line l Lines.end) = (_, l, refl)

  pub two-lines :
      {phi psi : Term} {a b : Rational} {ks : List Constraint} → Lines by (phi ∷ psi ∷ []) (a ∷ b ∷ []) ks →
      (k l : Constraint) × Line by phi a k × Line by psi b l × (ks ≡ k ∷ l ∷ [])
  two-lines (Lines.line l (Lines.line m Lines.end)) = (_, _, l, m, refl)

-- ---- step 4

module _ {by : Departures} {a : Rational} {k : Constraint} where
  pub strengthens-factor : {m : Constraint} → Strengthens by a k m → factor m.relation a ≡ factor k.relation a
  strengthens-factor (Strengthens.not_all_int e) = refl
  strengthens-factor (Strengthens.equality e) = refl
  strengthens-factor (Strengthens.greater_whole e r w) = rw r
  strengthens-factor (Strengthens.greater_fraction e r w) = rw r
  strengthens-factor (Strengthens.at_least_whole e r w) = refl
  strengthens-factor (Strengthens.at_least_fraction e r w f) = rw r
  strengthens-factor (Strengthens.divisor d e r w f g l c h) = rw r
  strengthens-factor (Strengthens.whole_product d e r w) = refl
  strengthens-factor (Strengthens.fractional_product d e r w) = rw r

-- the words raise no bound of a real sum, nor a whole one of >=
pub data Unraised (k : Constraint) : Type 0 where
  some-real : all_int k ≡ false → Unraised k
  whole-bound : k.relation ≡ ge → is_integer k.bound ≡ true → Unraised k

pub strengthens-kept : {a : Rational} {k m : Constraint} → Unraised k → Strengthens words a k m → m ≡ k
strengthens-kept n (Strengthens.not_all_int e) = refl
strengthens-kept n (Strengthens.equality e) = refl
strengthens-kept (some-real n) (Strengthens.greater_whole e r w) = never (sym n ∙ e)
strengthens-kept (whole-bound g n) (Strengthens.greater_whole e r w) = let z : ◌≡◌ {A = ℕ} 0 1 = cc in absurd (omega arith)
strengthens-kept (some-real n) (Strengthens.greater_fraction e r w) = never (sym n ∙ e)
strengthens-kept (whole-bound g n) (Strengthens.greater_fraction e r w) = never (sym w ∙ n)
strengthens-kept n (Strengthens.at_least_whole e r w) = refl
strengthens-kept (some-real n) (Strengthens.at_least_fraction e r w f) = never (sym n ∙ e)
strengthens-kept (whole-bound g n) (Strengthens.at_least_fraction e r w f) = never (sym w ∙ n)
strengthens-kept n (Strengthens.divisor d e r w f g l c h) = absurd d
strengthens-kept n (Strengthens.whole_product d e r w) = absurd d
strengthens-kept n (Strengthens.fractional_product d e r w) = absurd d

scaled-words : {a : Rational} {r s : Relation} → ScaledRelation words a r s → s ≡ r
scaled-words (ScaledRelation.stays r f) = refl
scaled-words (ScaledRelation.argument_zero d e) = absurd d

-- ---- what a line leaves

module _ {by : Departures} {phi : Term} {a : Rational} {k : Constraint} (l : Line by phi a k) where
  pub line-terms : {m : Constraint} → l.negated ≡ m → k.terms ≡ times_each (factor m.relation a) m.terms
  line-terms e =
      l.terms
      ∙ ap₂ times_each (strengthens-factor l.strengthens) (strengthens-terms l.strengthens)
      ∙ ap (λ (m : Constraint). times_each (factor m.relation a) m.terms) e

pub line_kept :
    {phi : Term} {a : Rational} {k m : Constraint} (l : Line words phi a k) → l.negated ≡ m → Unraised m → k ≡ scaled_by a m
line_kept {phi} {a} {k} {m} l e n =
    let s : l.strong ≡ m = strengthens-kept n (rw e at l.strengthens) in
    ap₂ (λ es d. constraint es k.relation d) l.terms l.bound
    ∙ ap (λ (r : Relation). constraint (scaled_by a l.strong).terms r (scaled_by a l.strong).bound)
    (scaled-words l.relation)
    ∙ ap (scaled_by a) s

-- ---- products written out

-- a term alone
abbrev pub once : Term → Products
once t = (one, t ∷ []) ∷ []

-- the operators that are written out come from + on
sum-above : {o : ℕ} → IsSum o → Add ≤ o
sum-above IsSum.add = omega arith
sum-above IsSum.bvadd = omega arith

minus-above : {o : ℕ} → IsMinus o → Add ≤ o
minus-above IsMinus.sub = omega arith
minus-above IsMinus.bvneg = omega arith

difference-above : {o : ℕ} → IsDifference o → Add ≤ o
difference-above IsDifference.sub = omega arith
difference-above IsDifference.bvsub = omega arith

product-above : {o : ℕ} → IsProduct o → Add ≤ o
product-above IsProduct.mult = omega arith
product-above IsProduct.bvmul = omega arith

pub atom_expands : (i : ℕ) (s : Sort) (n : ℕ) {m : Products} → Expands (Term.atom i s n) m → m ≡ once (Term.atom i s n)
atom_expands i s n (Expands.number w) = absurd (atom_unwritten i s n _ w)
atom_expands i s n (Expands.atom k) = refl
atom_expands i s n (Expands.sum k h l) = atom_no_operation i s n h
atom_expands i s n (Expands.real h l) = atom_no_operation i s n h
atom_expands i s n (Expands.minus k h l) = atom_no_operation i s n h
atom_expands i s n (Expands.difference k h l r) = atom_no_operation i s n h
atom_expands i s n (Expands.product k h l) = atom_no_operation i s n h
atom_expands i s n (Expands.quotient h w z l) = atom_no_operation i s n h

pub negation_expands : (i : ℕ) (a : Term) {m : Products} → Expands (op i Not (a ▹ nil)) m → m ≡ once (op i Not (a ▹ nil))
unfolding as_fraction as_unsigned_fraction quotient_of unary binary as_number
negation_expands i a (Expands.number w) = not-number (written_read w)
negation_expands i a (Expands.atom k) = refl
negation_expands i a (Expands.sum k h l) = absurd (omega (arith, sum-above k, (is_itself h).0))
negation_expands i a (Expands.real h l) = absurd (omega (arith, (is_itself h).0))
negation_expands i a (Expands.minus k h l) = absurd (omega (arith, minus-above k, (is_itself h).0))
negation_expands i a (Expands.difference k h l r) = absurd (omega (arith, difference-above k, (is_itself h).0))
negation_expands i a (Expands.product k h l) = absurd (omega (arith, product-above k, (is_itself h).0))
negation_expands i a (Expands.quotient h w z l) = absurd (omega (arith, (is_itself h).0))

-- (* t t) for an atom t
module _ (i j : ℕ) (s : Sort) (n : ℕ) where
  abbrev square : Terms
  square = Term.atom j s n ▹ Term.atom j s n ▹ nil

  square-factors :
      {m : Products} → Factors square m →
      m ≡ multiply (once (Term.atom j s n)) (multiply (once (Term.atom j s n)) ((one, []) ∷ []))
  square-factors (Factors.factor h (Factors.factor k Factors.no_factor)) =
      ap₂ multiply (atom_expands j s n h) (ap (λ (m : Products). multiply m ((one, []) ∷ [])) (atom_expands j s n k))

  pub square_expands :
      {m : Products} → Expands (op i Mult square) m →
      m ≡ multiply (once (Term.atom j s n)) (multiply (once (Term.atom j s n)) ((one, []) ∷ []))
  unfolding as_fraction as_unsigned_fraction quotient_of unary binary as_number
  square_expands (Expands.number w) = not-number (written_read w)
  square_expands (Expands.atom k) = absurd (k.not_product Mult square IsProduct.mult (is i))
  square_expands (Expands.sum IsSum.add h l) = absurd (omega (arith, (is_itself h).0))
  square_expands (Expands.sum IsSum.bvadd h l) = absurd (omega (arith, (is_itself h).0))
  square_expands (Expands.real h l) = absurd (omega (arith, (is_itself h).0))
  square_expands (Expands.minus IsMinus.sub h l) = absurd (omega (arith, (is_itself h).0))
  square_expands (Expands.minus IsMinus.bvneg h l) = absurd (omega (arith, (is_itself h).0))
  square_expands (Expands.difference IsDifference.sub h l r) = absurd (omega (arith, (is_itself h).0))
  square_expands (Expands.difference IsDifference.bvsub h l r) = absurd (omega (arith, (is_itself h).0))
  square_expands (Expands.product k h l) = square-factors (rw (is_itself h).1 at l)
  square_expands (Expands.quotient h w z l) = absurd (omega (arith, (is_itself h).0))
