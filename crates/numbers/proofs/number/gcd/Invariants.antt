-- Each turn takes (x, y) to (y, x % y), which keeps the greatest common divisor; at y = 0 it is x. The measure is y.
use mathlib.Core.Path.{◌≡◌}
use Rattle.numbers.specs.Rational.{gcd}
use Rattle.numbers.proofs.number.gcd.Given as goal

abbrev pub invariant-loop-y : goal.invariant-loop-y
invariant-loop-y l = gcd l.x l.y ≡ gcd l.a l.b

abbrev pub decreases-loop-y : goal.decreases-loop-y
decreases-loop-y l = l.y
