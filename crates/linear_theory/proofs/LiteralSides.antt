-- The two sides of a literal that is the opposite of a relation: `inner` finds that relation (`opposite-inner`), so
-- `disequality_of` walks both sides and takes one walk from the other (`literal_walks`), which without limits it
-- always answers (`literal-free`).
use mathlib.Core.Path.{◌≡◌, refl, sym, ◌∙◌, subst}
use Rattle.std.specs.Prelude.{Some}
use Prim.Native.Nat.{ℕ}
use Rattle.numbers.specs.Rational.{neg_q}
use Rattle.terms.specs.Term.{Term, Terms, unary}
use Rattle.numbers.specs.Choice.{when◌then◌else◌}
use Rattle.terms.specs.Term.Terms.{nil, ◌▹◌}
use Rattle.terms.specs.Readers.{as_op, remove_negation}
use Rattle.book.proofs.BookTerms.{Each, Closed}
use Rattle.rules.specs.Refusal.{Result, ◌>>=◌, or_else}
use Rattle.std.specs.Prelude.{Ok}
use Rattle.rules.specs.Limits.{Limits, the_rust}
use Rattle.index_map.specs.IndexMap.{Walked, combination, sub}
use Rattle.linear_walk.specs.LinearTerms.{from_term}
use Rattle.linear_comb.specs.LinearComb.{LinearComb}
use Rattle.index_map.specs.Memory.Entries.{terms}
use Rattle.disequality.specs.Disequality as Literal
use Rattle.disequality.specs.Disequality.{Disequality, inner, negate_operator, negate_disequality, disequality_of}
use Rattle.alethe.specs.AletheTerms.{is, equals, less_than, less_eq, greater_than, greater_eq}
use Rattle.alethe.specs.Alethe.{Opposite}
use Rattle.alethe.specs.Alethe.Turns.{less, greater, less_equal, greater_equal}
use Rattle.alethe.specs.Alethe.Opposite.{negation, turned}
use Rattle.rules.proofs.Yields.{through}
use Rattle.linear_theory.proofs.Oppositions.{inner-opposite}
use Rattle.rules_theory.proofs.Unlimited.{Free, answers, freely, sub-free}
use Rattle.linear_theory.proofs.UnlimitedLinear.{from_term-free}

pub opposite-inner : {ts : Terms} {phi : Term} {o : ℕ} → Opposite ts phi o → inner phi ≡ Some (o, ts)
unfolding inner negate_operator remove_negation unary as_op when◌then◌else◌
opposite-inner (negation body equals (is i) (is j)) = refl
opposite-inner (negation body less_than (is i) (is j)) = refl
opposite-inner (negation body less_eq (is i) (is j)) = refl
opposite-inner (negation body greater_than (is i) (is j)) = refl
opposite-inner (negation body greater_eq (is i) (is j)) = refl
opposite-inner (turned p less (is i)) = refl
opposite-inner (turned p greater (is i)) = refl
opposite-inner (turned p less_equal (is i)) = refl
opposite-inner (turned p greater_equal (is i)) = refl

-- the relation's arguments are terms of P
pub opposite-inside :
    {P : Term → Type 0} → Closed P → (phi : Term) → P phi → {ts : Terms} {o : ℕ} → Opposite ts phi o → Each P ts
opposite-inside closed phi p {ts} {o} h = (inner-opposite closed phi p (o, ts) (opposite-inner h)).inside

one_answer : {A : Type 0} {x y : A} → ◌≡◌ {A = Result A} (Ok x) (Ok y) → y ≡ x
one_answer e = cc

abbrev Walk : Type 0
Walk = ℕ × LinearComb × LinearComb × ℕ

module _ (l : Limits) (o : ℕ) (a b : Term) (n : ℕ) where
  abbrev walk_both : Result Walk
  walk_both = from_term l a n >>= λ s1. from_term l b s1.visits >>= λ s2. Ok (o, s1.sum, s2.sum, s2.visits)

  abbrev take_away : Walk → Result Disequality
  take_away r =
      sub terms l r.1 r.2 >>= λ s. Ok (Literal.turned r.0 (combination s.entries (neg_q s.constant)) r.3)

  -- d is what two walks and their difference make
  pub record SideWalks (d : Disequality) : Type 0 where
    pub left : Walked Term
    pub right : Walked Term
    pub difference : LinearComb
    pub first : from_term l a n ≡ Ok left
    pub second : from_term l b left.visits ≡ Ok right
    pub apart : sub terms l left.sum right.sum ≡ Ok difference
    pub is : d ≡ Literal.turned o (combination difference.entries (neg_q difference.constant)) right.visits

  module _ (phi : Term) (h : Opposite (a ▹ b ▹ nil) phi o) where
    literal_is : disequality_of l phi n ≡ (walk_both >>= take_away)
    unfolding disequality_of negate_disequality or_else ◌>>=◌
    literal_is = rw (opposite-inner h)

    pub literal_walks : (d : Disequality) → disequality_of l phi n ≡ Ok d → SideWalks d
    literal_walks d e =
        let t = through walk_both take_away d (sym literal_is ∙ e) in
        let u = through (from_term l a n) _ t.middle t.first in
        let v = through (from_term l b u.middle.visits) _ t.middle u.then in
        let walks : Walk = (o, u.middle.sum, v.middle.sum, v.middle.visits) in
        let r : t.middle ≡ walks = one_answer v.then in
        let taken = subst (λ (r : Walk). take_away r ≡ Ok d) r t.then in
        let x = through (sub terms l u.middle.sum v.middle.sum) _ d taken in
        record {
          left = u.middle;
          right = v.middle;
          difference = x.middle;
          first = u.first;
          second = v.first;
          apart = x.first;
          is = one_answer x.then;
        }

module _ {phi a b : Term} {o : ℕ} (h : Opposite (a ▹ b ▹ nil) phi o) (n : ℕ) where
  pub literal-free : Free (disequality_of the_rust phi n)
  literal-free =
      rw (literal_is the_rust o a b n phi h)
      (freely
      (freely (from_term-free a n) λ s1. freely (from_term-free b s1.visits) λ s2. answers tt)
      (λ r. freely (sub-free terms (λ n. refl) r.1 r.2) λ s. answers tt))
