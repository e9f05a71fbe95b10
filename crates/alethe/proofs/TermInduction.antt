-- Induction over terms: what follows for a term from its arguments holds of every term (`by_terms`). It serves
-- relations of terms whose other indices are computed, since a `mutual` recursion cannot match on these.
use Rattle.terms.specs.Term.{Term, Terms}
use Rattle.terms.specs.Term.Term.{integer, rational, bitvector, atom, op}
use Rattle.terms.specs.Term.Terms.{nil, ◌▹◌}
use Rattle.book.proofs.BookTerms.{Each}

-- Q holds of the arguments
abbrev pub Below : (Term → Type 0) → Term → Type 0
Below Q (integer i z) = Unit {0}
Below Q (rational i q) = Unit {0}
Below Q (bitvector i v w) = Unit {0}
Below Q (atom i s n) = Unit {0}
Below Q (op i o ts) = Each Q ts

module _ (Q : Term → Type 0) (step : (t : Term) → Below Q t → Q t) where
  mutual
    pub by_terms : (t : Term) → Q t
    by_terms (integer i z) = step (integer i z) tt
    by_terms (rational i q) = step (rational i q) tt
    by_terms (bitvector i v w) = step (bitvector i v w) tt
    by_terms (atom i s n) = step (atom i s n) tt
    by_terms (op i o ts) = step (op i o ts) (each_by_terms ts)

    each_by_terms : (ts : Terms) → Each Q ts
    each_by_terms nil = tt
    each_by_terms (t ▹ ts) = (by_terms t, each_by_terms ts)
