-- The rule poly_simp on one step, src/checker/rules/polynomial.rs, line by line in the Rust's order.
use Rattle.std.specs.Prelude.{[], ◌∷◌, ℕ, ◌^◌, pos}
use Rattle.numbers.specs.Rational.{whole, modulo}
use Rattle.terms.specs.Operator.{Equals}
use Rattle.terms.specs.Term.{Sort, sort}
use Rattle.terms.specs.Term.Sort.{bool, int, real, bits}
use Rattle.rules.specs.Refusal.{Result, ◌>>=◌, assert}
use Rattle.std.specs.Prelude.{Ok}
use Rattle.rules.specs.declared.refusal.Refusal.TheVariants.{PolynomialsNotEqual}
use Rattle.rules.specs.Limits.{Limits}
use Rattle.index_map.specs.IndexMap.{Map, combination, sub}
use Rattle.rules.specs.Shapes.{Clause, only_literal, binary_err}
use Rattle.polynomial.specs.Polynomial.{Monomial, Polynomial, is_nought, monomials}
use Rattle.polynomial_walk.specs.PolynomialTerms.{from_term}

-- ---- modulo: the least remainder that is not negative; entries that become 0 stay

unfoldable pub modulo_all : ℕ → Map Monomial → Map Monomial
modulo_all n [] = []
modulo_all n (e ∷ m) = (e.0, whole (pos (modulo e.1.num n))) ∷ modulo_all n m

-- a polynomial over a bit-vector sort has whole coefficients only
unfoldable pub reduced : Sort → Polynomial → Polynomial
reduced bool p = p
reduced int p = p
reduced real p = p
reduced (bits w) p = combination (modulo_all (2 ^ w) p.entries) (whole (pos (modulo p.constant.num (2 ^ w))))

-- ---- poly_simp: the visits made

unfoldable pub poly_simp : Limits → Clause → ℕ → Result ℕ
poly_simp l conclusion n = do
  phi ← only_literal conclusion
  (t, s) ← binary_err Equals phi
  p ← from_term l t n
  q ← from_term l s p.visits
  d ← sub monomials l (reduced (sort t) p.sum) (reduced (sort t) q.sum)
  _ ← assert (is_nought d) PolynomialsNotEqual
  Ok q.visits
