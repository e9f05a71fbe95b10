-- The rule `poly_simp` with the work area lent: what each function of the code leaves, in terms of the definitions. The
-- sort of the two sides is given as one number, as `sort_code` gives it.
use Rattle.index_map.specs.Memory.Answers.{comb_with}
use Rattle.index_map.specs.Memory.Answers.{Has}
use Rattle.std.specs.Prelude.{◌≡◌, cond, List, [], ◌∷◌, ℕ, ◌+◌, ◌-◌, ◌≤◌, ◌<◌, ◌^◌, ltb, pos, length, get_or, set}
use Rattle.numbers.specs.Rational.{Proper, whole, modulo}
use Rattle.numbers.specs.Bytes.{Bytes}
use Rattle.terms.specs.Format.{bits_code, bits_sort, max_width, step_at, work_bytes}
use Rattle.terms.specs.Term.{Term}
use Rattle.rules.specs.Refusal.{Result, ◌>>=◌, assert}
use Rattle.std.specs.Prelude.{Ok}
use Rattle.rules.specs.declared.refusal.Refusal.TheVariants.{PolynomialsNotEqual}
use Rattle.rules.specs.Limits.{Limits}
use Rattle.index_map.specs.IndexMap.{Map, combination, sub}
use Rattle.polynomial.specs.Polynomial.{Monomial, Polynomial, monomials, is_nought}
use Rattle.polynomial_walk.specs.PolynomialTerms.{from_term}
use Rattle.poly_simp.specs.PolySimp.{modulo_all}
use Rattle.polynomial.specs.Memory.PolynomialArea.{places, Poly, StackHas, Stacked}

-- ---- numbers with names

-- the bytes of the work area behind the sorts
abbrev pub stack_size : ℕ
stack_size = work_bytes - step_at

-- of the widest bit-vector, of 30 bits, and its modulus
abbrev pub max_sort : ℕ
max_sort = bits_code + max_width

abbrev pub max_modulus : ℕ
max_modulus = 2 ^ max_width

-- ---- modulo 2^w

abbrev pub modulus : ℕ → ℕ
modulus sort = 2 ^ (sort - bits_code)

unfoldable pub reduced_by : ℕ → Polynomial → Polynomial
reduced_by sort p =
    cond (ltb sort bits_sort) p
    (combination (modulo_all (modulus sort) p.entries) (whole (pos (modulo p.constant.num (modulus sort)))))

-- the polynomial of area j, which p stands for, is reduced; r stands for what is left
abbrev pub ReducedLeft : ℕ → Poly → ℕ → Bytes → Bytes → Poly → Type 0
ReducedLeft j p sort w w' r =
    (b : Bytes) (ms : List (Map Monomial)) → Stacked b w ms → j < length ms → Has p (get_or ms j []) →
    Stacked b w' (set ms j (reduced_by sort (comb_with p (get_or ms j []))).entries)
    × ((comb_with r (reduced_by sort (comb_with p (get_or ms j []))).entries
    ≡ reduced_by sort (comb_with p (get_or ms j [])))
    × Has r (reduced_by sort (comb_with p (get_or ms j []))).entries)

-- ---- sub

-- two polynomials by value, whose entries lie in areas 0 and 1
abbrev pub AtDifference : Poly → Poly → Bytes → Type 0
AtDifference p q w =
    StackHas 1 w × (((p.len ≤ places) × (q.len ≤ places)) × (Proper p.constant × Proper q.constant))

-- ---- poly_simp

-- both sides are walked, into areas 0 and 1
abbrev pub BothWalked : Poly → Poly → Bytes → Type 0
BothWalked p q w =
    (b : Bytes) × ((u : Map Monomial) × ((v : Map Monomial) × (Stacked b w (u ∷ v ∷ []) × (Has p u × Has q v))))

-- what is left then
unfoldable pub differs : Limits → ℕ → Polynomial → Polynomial → ℕ → Result ℕ
differs l sort p q n = do
  d ← sub monomials l (reduced_by sort p) (reduced_by sort q)
  _ ← assert (is_nought d) PolynomialsNotEqual
  Ok n

-- the verdict, and an empty stack
pub record DiffersLeft (b w : Bytes) (r d : Result ℕ) : Type 0 where
  pub is : r ≡ d
  pub empty : Stacked b w []

unfoldable pub equal_sides : Limits → ℕ → Term → Term → ℕ → Result ℕ
equal_sides l sort t s n = do
  p ← from_term l t n
  q ← from_term l s p.visits
  differs l sort p.sum q.sum q.visits
