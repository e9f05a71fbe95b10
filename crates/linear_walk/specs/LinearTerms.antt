-- `LinearComb::add_term` and `from_term` of src/checker/rules/linear_arithmetic.rs: the walk of a term into a linear
-- combination, line by line in the Rust's order.
use Rattle.std.specs.Prelude.{◌&&◌, ℕ, eqb, pos}
use Rattle.std.specs.Prelude.{Option, Some, None}
use Rattle.numbers.specs.Rational.{Rational, whole, neg_q}
use Rattle.terms.specs.Operator.{Add, Sub, Mult}
use Rattle.terms.specs.Term.{Term, Terms}
use Rattle.numbers.specs.Choice.{when◌then◌else◌}
use Rattle.terms.specs.Term.Term.{integer, rational, bitvector, atom, op}
use Rattle.terms.specs.Term.Terms.{nil, ◌▹◌}
use Rattle.rules.specs.Refusal.{Result, ◌>>=◌}
use Rattle.std.specs.Prelude.{Ok}
use Rattle.rules.specs.Limits.{Limits, times, fraction_of}
use Rattle.index_map.specs.IndexMap.{new, Walked, walked, visit, add_entry}
use Rattle.index_map.specs.IndexMap.{add_constant}
use Rattle.rules.specs.Shapes.{size}
use Rattle.index_map.specs.Memory.Entries.{terms}

-- the arms of its match on a term
pub data Arm : Type 0 where
  sum negation difference product leaf : Arm

unfoldable pub arm_of : ℕ → Terms → Arm
arm_of o ts =
    when eqb o Add then sum else
    when eqb o Sub then (when eqb (size ts) 1 then negation else difference) else
    when eqb o Mult && eqb (size ts) 2 then product else
    leaf

-- the last arm: a number goes to the constant, anything else is an atom
unfoldable pub add_leaf : Limits → Term → Rational → Walked Term → Result (Walked Term)
add_leaf l t coeff w = fraction_of l t >>= elim [
  | Some q ↦ times l q coeff >>= λ r. add_constant l r w
  | None ↦ add_entry terms l t coeff w
]

-- which factor of a product of two is a number; both are read before either is looked at
pub data Factors : Type 0 where
  first_is second_is : Rational → Factors
  neither_is : Factors

abbrev pub chosen : Option Rational → Option Rational → Factors
chosen (Some p) q = first_is p
chosen None (Some q) = second_is q
chosen None None = neither_is

unfoldable pub factors_of : Limits → Terms → Result Factors
factors_of l nil = Ok neither_is
factors_of l (a ▹ nil) = Ok neither_is
factors_of l (a ▹ b ▹ ts) = do
  p ← fraction_of l a
  q ← fraction_of l b
  Ok (chosen p q)

unfoldable mutual
  pub add_term : Term → Limits → Rational → Walked Term → Result (Walked Term)
  add_term (integer i v) l coeff w = visit l w >>= add_leaf l (integer i v) coeff
  add_term (rational i q) l coeff w = visit l w >>= add_leaf l (rational i q) coeff
  add_term (bitvector i v n) l coeff w = visit l w >>= add_leaf l (bitvector i v n) coeff
  add_term (atom i s n) l coeff w = visit l w >>= add_leaf l (atom i s n) coeff
  add_term (op i o ts) l coeff w = do
    w ← visit l w
    elim (arm_of o ts) [
      | sum ↦ add_args ts l coeff w
      | negation ↦ add_args ts l (neg_q coeff) w
      | difference ↦ add_difference ts l coeff w
      | product ↦ factors_of l ts >>= elim [
        | first_is q ↦ times l q coeff >>= λ c. add_second ts l c w
        | second_is q ↦ times l q coeff >>= λ c. add_first ts l c w
        | neither_is ↦ add_entry terms l (op i o ts) coeff w
      ]
      | leaf ↦ add_leaf l (op i o ts) coeff w
    ]

  pub add_args : Terms → Limits → Rational → Walked Term → Result (Walked Term)
  add_args nil l coeff w = Ok w
  add_args (t ▹ ts) l coeff w = do
    w ← add_term t l coeff w
    add_args ts l coeff w

  -- the first as it is, the others with the sign turned
  pub add_difference : Terms → Limits → Rational → Walked Term → Result (Walked Term)
  add_difference nil l coeff w = Ok w
  add_difference (t ▹ ts) l coeff w = do
    w ← add_term t l coeff w
    add_args ts l (neg_q coeff) w

  pub add_first : Terms → Limits → Rational → Walked Term → Result (Walked Term)
  add_first nil l coeff w = Ok w
  add_first (t ▹ ts) l coeff w = add_term t l coeff w

  pub add_second : Terms → Limits → Rational → Walked Term → Result (Walked Term)
  add_second nil l coeff w = Ok w
  add_second (t ▹ ts) l coeff w = add_first ts l coeff w

-- n visits were made before
unfoldable pub from_term : Limits → Term → ℕ → Result (Walked Term)
from_term l t n = add_term t l (whole (pos 1)) (walked new n)
