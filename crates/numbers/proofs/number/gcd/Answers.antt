use mathlib.Core.Path.{sym, ◌∙◌, ap}
use Prim.Native.Nat.{◌<◌}
use native.Mathlib.Omega.{arith}
use Rattle.numbers.specs.Rational.{gcd}
use Rattle.numbers.proofs.Divisors.{gcd-zero, gcd-step}
use Rattle.numbers.proofs.number.gcd.Goals as goal

nonzero : (c : goal.Else-y-eq0) → 0 < c.loop-y.y
nonzero c = omega arith

pub loop-y-preserved : goal.loop-y-preserved
loop-y-preserved c = sym (gcd-step c.loop-y.x c.loop-y.y (nonzero c)) ∙ c.loop-y.invariant

pub returns : goal.returns
returns c =
    let l = c.loop-y in
    sym (gcd-zero l.x) ∙ ap (gcd l.x) (sym c.if-y-eq0.true) ∙ l.invariant
