-- The two tests are those of `in_range`, of one part after the other.
use mathlib.Core.Path.{◌∙◌, ap, ap₂}
use native.Mathlib.Omega.{arith}
use lib.IntN.{ℤ, nat_abs}
use mir.Facts.{to_z-of_z}
use Rattle.numbers.specs.Rational.{frac}
use Rattle.numbers.proofs.Ranges.{in_range_of_sizes, large-num, large-den, checked_is}
use Rattle.numbers.proofs.number.in_range.Goals as goal
use Rattle.numbers.proofs.number.in_range.Goals.{else-magnitude-le-LIMIT-via-then-magnitude-le-LIMIT+else-magnitude-le-LIMIT-2, else-magnitude-le-LIMIT-via-else-magnitude-le-LIMIT}
use Rattle.std.specs.Prelude.{Some}

pub returns-then-magnitude-le-LIMIT-2 : goal.returns-then-magnitude-le-LIMIT-2
returns-then-magnitude-le-LIMIT-2 c =
    let s = c in
    let q = frac s.args.n s.args.d in
    let n = ap nat_abs (to_z-of_z s.ranges.n) in
    let d = ap nat_abs (to_z-of_z s.ranges.d) in
    ap₂ (λ (n d : ℤ). Some (frac n d)) (to_z-of_z s.ranges.n) (to_z-of_z s.ranges.d)
    ∙ checked_is q (in_range_of_sizes q (omega arith) (omega arith))

pub returns-else-magnitude-le-LIMIT : goal.returns-else-magnitude-le-LIMIT
returns-else-magnitude-le-LIMIT c =
    let s = c in
    let q = frac s.args.n s.args.d in
    let n = ap nat_abs (to_z-of_z s.ranges.n) in
    let d = ap nat_abs (to_z-of_z s.ranges.d) in
    elim c.else-magnitude-le-LIMIT.branch [
      | else-magnitude-le-LIMIT-via-then-magnitude-le-LIMIT+else-magnitude-le-LIMIT-2 w ↦ checked_is q (large-den q (omega arith) (omega arith))
      | else-magnitude-le-LIMIT-via-else-magnitude-le-LIMIT w ↦ checked_is q (large-num q (omega arith))
    ]
