-- Monomials and polynomials, `Monomial` and `Polynomial` of src/checker/rules/polynomial.rs: products of atoms by
-- record number, and their sums.
use Rattle.std.specs.Prelude.{Bool, true, false, ◌&&◌, List, [], ◌∷◌, ◌+◌, ltb, length}
use Rattle.numbers.specs.Rational.{Rational, is_zero}
use Rattle.terms.specs.Term.{Term, same, record_number}
use Rattle.terms.specs.Readers.{within}
use Rattle.rules.specs.Refusal.{Result, ◌>>=◌, assert}
use Rattle.std.specs.Prelude.{Ok}
use Rattle.rules.specs.declared.refusal.Refusal.TheVariants.{PolynomialSize}
use Rattle.rules.specs.Limits.{Limits, times}
use Rattle.index_map.specs.IndexMap.{Map, Combination, Keys, combination, insert, is_empty}

-- ---- Monomial: atoms by record number, where the Rust sorts by pointer

abbrev pub Monomial : Type 0
Monomial = List Term

unfoldable pub same_monomial : Monomial → Monomial → Bool
same_monomial [] [] = true
same_monomial [] (b ∷ n) = false
same_monomial (a ∷ m) [] = false
same_monomial (a ∷ m) (b ∷ n) = same a b && same_monomial m n

unfoldable pub place : Term → Monomial → Monomial
place t [] = t ∷ []
place t (a ∷ m) = elim (ltb (record_number t) (record_number a)) [ true ↦ t ∷ a ∷ m | false ↦ a ∷ place t m ]

unfoldable pub joined : Monomial → Monomial → Monomial
joined m [] = m
joined m (a ∷ n) = joined (place a m) n

-- ---- Polynomial

abbrev pub Polynomial : Type 0
Polynomial = Combination Monomial

abbrev pub monomials : Keys Monomial
monomials = record { same = same_monomial; most = λ l. l.monomials }

-- one monomial of the left against each of the right: length, then coefficient, then entry
unfoldable pub mul_each : Limits → Monomial → Rational → Map Monomial → Map Monomial → Result (Map Monomial)
mul_each l x1 c1 [] m = Ok m
mul_each l x1 c1 (e ∷ r) m = do
  _ ← assert (within l.atoms (length x1 + length e.0)) PolynomialSize
  c ← times l c1 e.1
  m' ← insert monomials l m (joined x1 e.0) c
  mul_each l x1 c1 r m'

-- each monomial of the left against the right and its constant
unfoldable pub mul_left : Limits → Map Monomial → Polynomial → Map Monomial → Result (Map Monomial)
mul_left l [] q m = Ok m
mul_left l (e ∷ r) q m = do
  m1 ← mul_each l e.0 e.1 q.entries m
  c ← times l e.1 q.constant
  m2 ← insert monomials l m1 e.0 c
  mul_left l r q m2

-- each monomial times a number
unfoldable pub insert_scaled : Limits → Map Monomial → Rational → Map Monomial → Result (Map Monomial)
insert_scaled l [] k m = Ok m
insert_scaled l (e ∷ r) k m = do
  c ← times l e.1 k
  m' ← insert monomials l m e.0 c
  insert_scaled l r k m'

unfoldable pub mul : Limits → Polynomial → Polynomial → Result Polynomial
mul l p q = do
  m1 ← mul_left l p.entries q []
  m2 ← insert_scaled l q.entries p.constant m1
  c ← times l p.constant q.constant
  Ok (combination m2 c)

abbrev pub is_nought : Polynomial → Bool
is_nought p = is_empty p.entries && is_zero p.constant
