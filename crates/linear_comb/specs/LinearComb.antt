-- `impl LinearComb` of src/checker/rules/linear_arithmetic.rs: a combination of terms, filled by a walk of a term and
-- of the lists of its arguments, which call each other.
use Rattle.std.specs.Prelude.{true, false, ◌&&◌, Bool, [], ◌∷◌, leb, ℤ, pos, negsuc, nat_abs}
use Rattle.numbers.specs.Pair.{eq_z}
use Rattle.numbers.specs.Rational.{Rational, whole, gcd, is_zero, is_integer, eq_q}
use Rattle.terms.specs.Term.{Term, sort, same_sort}
use Rattle.numbers.specs.Choice.{when◌then◌else◌}
use Rattle.rules.specs.Refusal.{Result, ◌>>=◌}
use Rattle.std.specs.Prelude.{Ok}
use Rattle.rules.specs.Limits.{Limits, times}
use Rattle.index_map.specs.IndexMap.{Map, Combination, combination, scale_all, new}
use Rattle.terms.specs.Term.Sort.{int}

abbrev pub LinearComb : Type 0
LinearComb = Combination Term

-- ---- mul

unfoldable pub mul : Limits → LinearComb → Rational → Result LinearComb
mul l s q = elim (is_zero q) [
  | true ↦ Ok new
  | false ↦ elim (eq_q q (whole (pos 1))) [
    | true ↦ Ok s
    | false ↦ (do
      m ← scale_all l q s.entries
      c ← times l s.constant q
      Ok (combination m c))
  ]
]

-- ---- coefficients_gcd

-- `max(1, result)`
abbrev pub at_least_one : ℤ → ℤ
at_least_one (pos n) = when leb 1 n then pos n else pos 1
at_least_one (negsuc n) = pos 1

-- the loop over the coefficients, with the result so far
unfoldable pub gcd_from : ℤ → Map Term → ℤ
gcd_from g [] = at_least_one g
gcd_from g (e ∷ m) = elim (eq_z g (pos 1)) [
  | true ↦ pos 1
  | false ↦ elim (is_integer e.1) [
    | true ↦ gcd_from (pos (gcd (nat_abs g) (nat_abs e.1.num))) m
    | false ↦ pos 1
  ]
]

unfoldable pub coefficients_gcd : LinearComb → ℤ
coefficients_gcd s = elim (is_integer s.constant) [ true ↦ gcd_from s.constant.num s.entries | false ↦ pos 1 ]

unfoldable pub all_int : Map Term → Bool
all_int [] = true
all_int (e ∷ m) = same_sort (sort e.0) int && all_int m
