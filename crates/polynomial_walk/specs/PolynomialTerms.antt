-- `add_term` of src/checker/rules/polynomial.rs: the walk of a term that fills a polynomial, and of the lists of its
-- arguments and factors.
use Rattle.std.specs.Prelude.{true, false, ◌&&◌, ◌||◌, [], ◌∷◌, ℕ, suc, eqb, pos}
use Rattle.std.specs.Prelude.{Option, Some, None}
use Rattle.numbers.specs.Rational.{Rational, whole, neg_q, is_zero}
use Rattle.terms.specs.Operator.{Add, Sub, Mult, RealDiv, ToReal, BvAdd, BvSub, BvNeg, BvMul}
use Rattle.terms.specs.Term.{Term, Terms}
use Rattle.numbers.specs.Choice.{when◌then◌else◌}
use Rattle.terms.specs.Term.Term.{integer, rational, bitvector, atom, op}
use Rattle.terms.specs.Term.Terms.{nil, ◌▹◌}
use Rattle.terms.specs.Readers.{as_bitvector, within}
use Rattle.rules.specs.Refusal.{Result, ◌>>=◌, assert}
use Rattle.std.specs.Prelude.{Ok}
use Rattle.rules.specs.declared.refusal.Refusal.TheVariants.{PolynomialSize}
use Rattle.rules.specs.Limits.{Limits, times, over, fraction_of}
use Rattle.index_map.specs.IndexMap.{combination, new, Walked, walked, visit, add_entry, add_constant}
use Rattle.rules.specs.Shapes.{size}
use Rattle.polynomial.specs.Polynomial.{Monomial, insert_scaled, monomials, mul}

-- ---- add_term

pub data Arm : Type 0 where
  sum negation difference product quotient leaf : Arm

unfoldable pub arm_of : ℕ → Terms → Arm
arm_of o ts =
    when eqb o Add || (eqb o BvAdd || eqb o ToReal) then sum else
    when (eqb o Sub && eqb (size ts) 1) || eqb o BvNeg then negation else
    when eqb o Sub || eqb o BvSub then difference else
    when eqb o Mult || eqb o BvMul then product else
    when eqb o RealDiv then quotient else
    leaf

-- a number goes to the constant, a bit-vector constant too, anything else is an atom
unfoldable pub add_leaf : Limits → Term → Rational → Walked Monomial → Result (Walked Monomial)
add_leaf l t coeff w = fraction_of l t >>= elim [
  | Some q ↦ times l q coeff >>= λ r. add_constant l r w
  | None ↦ elim (as_bitvector t) [
    | Some (v, n) ↦ times l (whole (pos v)) coeff >>= λ r. add_constant l r w
    | None ↦ add_entry monomials l (t ∷ []) coeff w
  ]
]

-- a divisor that is read and is not 0
abbrev pub nonzero : Option Rational → Option Rational
nonzero (Some q) = elim (is_zero q) [ true ↦ None | false ↦ Some q ]
nonzero None = None

unfoldable pub divisor_of : Limits → Terms → Result (Option Rational)
divisor_of l nil = Ok None
divisor_of l (a ▹ nil) = Ok None
divisor_of l (a ▹ b ▹ ts) = fraction_of l b >>= λ q. Ok (nonzero q)

-- depth counts the products from the root down, d of them above this term
unfoldable mutual
  pub add_term : Term → Limits → ℕ → Rational → Walked Monomial → Result (Walked Monomial)
  add_term (integer i v) l d coeff w = visit l w >>= add_leaf l (integer i v) coeff
  add_term (rational i q) l d coeff w = visit l w >>= add_leaf l (rational i q) coeff
  add_term (bitvector i v n) l d coeff w = visit l w >>= add_leaf l (bitvector i v n) coeff
  add_term (atom i s n) l d coeff w = visit l w >>= add_leaf l (atom i s n) coeff
  add_term (op i o ts) l d coeff w = do
    w ← visit l w
    elim (arm_of o ts) [
      | sum ↦ add_args ts l d coeff w
      | negation ↦ add_args ts l d (neg_q coeff) w
      | difference ↦ add_difference ts l d coeff w
      | product ↦ (do
        _ ← assert (within l.depth (suc d)) PolynomialSize
        r ← first_factor ts l (suc d) w.visits
        m ← insert_scaled l r.sum.entries coeff w.sum.entries
        c ← times l coeff r.sum.constant
        add_constant l c (walked (combination m w.sum.constant) r.visits))
      | quotient ↦ divisor_of l ts >>= elim [
        | Some q ↦ over l coeff q >>= λ c. add_first ts l d c w
        | None ↦ add_leaf l (op i o ts) coeff w
      ]
      | leaf ↦ add_leaf l (op i o ts) coeff w
    ]

  pub add_args : Terms → Limits → ℕ → Rational → Walked Monomial → Result (Walked Monomial)
  add_args nil l d coeff w = Ok w
  add_args (t ▹ ts) l d coeff w = do
    w ← add_term t l d coeff w
    add_args ts l d coeff w

  pub add_difference : Terms → Limits → ℕ → Rational → Walked Monomial → Result (Walked Monomial)
  add_difference nil l d coeff w = Ok w
  add_difference (t ▹ ts) l d coeff w = do
    w ← add_term t l d coeff w
    add_args ts l d (neg_q coeff) w

  pub add_first : Terms → Limits → ℕ → Rational → Walked Monomial → Result (Walked Monomial)
  add_first nil l d coeff w = Ok w
  add_first (t ▹ ts) l d coeff w = add_term t l d coeff w

  -- `map(from_term).reduce(mul)`: the first two factors are multiplied before the third is walked
  pub first_factor : Terms → Limits → ℕ → ℕ → Result (Walked Monomial)
  first_factor nil l d n = Ok (walked new n)
  first_factor (t ▹ ts) l d n = do
    p ← add_term t l d (whole (pos 1)) (walked new n)
    other_factors ts l d p

  pub other_factors : Terms → Limits → ℕ → Walked Monomial → Result (Walked Monomial)
  other_factors nil l d p = Ok p
  other_factors (t ▹ ts) l d p = do
    q ← add_term t l d (whole (pos 1)) (walked new p.visits)
    r ← mul l p.sum q.sum
    other_factors ts l d (walked r q.visits)

unfoldable pub from_term : Limits → Term → ℕ → Result (Walked Monomial)
from_term l t n = add_term t l 0 (whole (pos 1)) (walked new n)
