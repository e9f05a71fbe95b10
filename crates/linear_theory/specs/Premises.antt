-- Demand 3's premises on a step's terms: what must hold for an accepted step to be true. Documents say it of the
-- accepted steps; these are the tests on one step's literals and arguments.
use Rattle.std.specs.Prelude.{Bool, true, ◌&&◌, ◌||◌, not, List, [], ◌∷◌}
use Rattle.numbers.specs.Rational.{Rational, is_integer}
use Rattle.terms.specs.Term.{Term}
use Rattle.terms.specs.Readers.{as_fraction, unbounded}
use Rattle.terms.specs.Smtlib.{divs_even}
use Rattle.std.specs.Prelude.{Ok, Err}
use Rattle.rules.specs.Limits.{the_rust}
use Rattle.index_map.specs.IndexMap.{Map}
use Rattle.disequality.specs.Disequality.{disequality_of}
use Rattle.linear_comb.specs.LinearComb.{all_int}
use Rattle.rules.specs.Shapes.{Clause}
use Rattle.terms.specs.Readers.{Reading}
use Rattle.terms.specs.declared.term.NotRead.TheVariants.{NotNumber, OutOfRange}

-- 'each div of two written numbers with a nonzero divisor comes out even'
unfoldable pub all_even : List Term → Bool
all_even [] = true
all_even (t ∷ ts) = divs_even t && all_even ts

-- 'each literal whose atoms, after cancelling, are all Int has whole coefficients and a whole argument'
unfoldable pub whole_coefficients : Map Term → Bool
whole_coefficients [] = true
whole_coefficients (e ∷ m) = is_integer e.1 && whole_coefficients m

unfoldable pub whole_literal : Term → Rational → Bool
whole_literal phi a = elim (disequality_of the_rust phi 0) [
  | Ok d ↦ not (all_int d.sum.entries) || (whole_coefficients d.sum.entries && is_integer a)
  | Err r ↦ true
]

-- an argument that is given
unfoldable pub whole_given : Term → Reading → Bool
whole_given phi (Ok q) = whole_literal phi q
whole_given phi (Err NotNumber) = true
whole_given phi (Err OutOfRange) = true

-- 'given or inferred': literal by literal, the arguments given and then those inferred
unfoldable pub whole_literals : Clause → List Term → List Rational → Bool
whole_literals [] args inferred = true
whole_literals (phi ∷ c) (a ∷ args) inferred =
    whole_given phi (as_fraction unbounded a) && whole_literals c args inferred
whole_literals (phi ∷ c) [] [] = true
whole_literals (phi ∷ c) [] (q ∷ inferred) = whole_literal phi q && whole_literals c [] inferred
