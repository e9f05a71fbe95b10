-- What the fold over a step's literals adds to its sum, in both directions of the proof: the atoms of the lines'
-- constraints, and their relations, which are joined (`Joined`). Nothing adds nothing (`nothing-joined`), and a line's
-- constraint with those of the lines behind it is their sum (`then-joined`). The bounds are told apart: those that the
-- Rust adds are the lines', or at least as high.
use mathlib.Core.Path.{◌≡◌, sym, ◌∙◌, ap}
use mathlib.Core.List.{List, [], ◌∷◌}
use Prim.Native.Nat.{ℕ}
use lib.IntN.{pos}
use Rattle.numbers.specs.Rational.{Rational, Lowest}
use Rattle.terms.specs.Operator.{Equals}
use Rattle.terms.specs.Term.{Term}
use Rattle.numbers.proofs.Ring.{◌⊕◌, 𝟙, neg, ◌≐◌, ◌·◌, ◌and◌, ◌from◌, derive}
use Rattle.numbers.proofs.Quotient.{ℚ, ℚring, sum}
use Rattle.index_map.specs.IndexMap.{new}
use Rattle.process_disequality.specs.ProcessDisequality.{Progress, progress}
use Rattle.alethe.specs.AletheTerms.{Entries}
use Rattle.alethe.specs.Alethe.{Constraint, Relation, all_terms, sum_bound, stronger, joined}
use Rattle.rules.proofs.Valuations.{rationals}
use Rattle.linear_theory.proofs.Weights.{weigh, numbered, EntriesFor, weigh_append, entries_append}
use Rattle.linear_theory.proofs.Disequalities.{operator_of}
use Rattle.alethe.proofs.ConstraintLaws.{stronger_assoc, stronger-equals}
use Rattle.linear_theory.proofs.ConstraintSums.{weight}

-- where the fold starts, with n visits made before
abbrev pub start : ℕ → Progress
start n = progress Equals new [] n

-- one sum after another
pub chained : (x u v : ℚ) {y z w : ℚ} → y ≡ sum x u → z ≡ sum y v → w ≡ sum u v → z ≡ sum x w
chained x u v {y} {z} {w} e f g =
    derive ℚring (x ∷ y ∷ z ∷ u ∷ v ∷ w ∷ [])
    (λ x y z u v w. z ≐ x ⊕ w from 𝟙 · y ≐ x ⊕ u and 𝟙 · z ≐ y ⊕ v and neg 𝟙 · w ≐ u ⊕ v) tt e f g

module _ (P : Term → Type 0) where
  -- from p to q the entries es are added, and the relation s is joined; b is their bound
  pub record Joined (p q : Progress) (es : Entries) (b : Rational) (s : Relation) : Type 0 where
    pub terms : (v : ℕ → ℚ) → weight P v q.acc ≡ sum (weight P v p.acc) (weigh (numbered v) es)
    pub relation : (r : Relation) → p.operator ≡ operator_of r → q.operator ≡ operator_of (stronger r s)
    pub entries : EntriesFor P es
    pub lowest : Lowest b

  -- of one constraint, and of several
  abbrev pub JoinedOne : Progress → Progress → Constraint → Type 0
  JoinedOne p q k = Joined p q k.terms k.bound k.relation

  abbrev pub JoinedAll : Progress → Progress → List Constraint → Type 0
  JoinedAll p q ks = Joined p q (all_terms ks) (sum_bound ks) (joined stronger ks)

  pub nothing-joined : (p : Progress) → JoinedAll p p []
  unfolding all_terms sum_bound joined weigh
  nothing-joined p =
      record {
        terms = λ v. sym (ℚring.add-zero _);
        relation = λ r e. e ∙ ap operator_of (sym (stronger-equals r));
        entries = EntriesFor.none;
        lowest = rationals.good-whole (pos 0);
      }

  pub then-joined : {p q r : Progress} (k : Constraint) (ks : List Constraint) → JoinedOne p q k → JoinedAll q r ks →
      JoinedAll p r (k ∷ ks)
  unfolding all_terms sum_bound joined
  then-joined k ks a s =
      record {
        terms = λ v. chained _ _ _ (a.terms v) (s.terms v) (weigh_append (numbered v) k.terms (all_terms ks));
        relation = λ o e.
            s.relation (stronger o k.relation) (a.relation o e)
            ∙ ap operator_of (stronger_assoc o k.relation (joined stronger ks));
        entries = entries_append P k.terms (all_terms ks) a.entries s.entries;
        lowest = rationals.good-add k.bound (sum_bound ks) a.lowest s.lowest;
      }
