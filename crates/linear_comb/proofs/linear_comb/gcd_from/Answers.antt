use mathlib.Core.Path.{◌≡◌, sym, ◌∙◌}
use Prim.Native.Nat.{◌≤◌}
use lib.IntN.{nat_abs, pos}
use mir.Syntax.{w64}
use mir.Val.{to_z}
use Rattle.numbers.specs.Rational.{gcd, limit}
use Rattle.linear_comb.proofs.CoefficientDivisors.{dividing_more, next-divisor}
use Rattle.linear_comb.proofs.CoefficientDivisors.{from_start, divided_one, divided-fraction, divided-end}
use Rattle.index_map.proofs.CheckedNumbers.{small-fits}
use Rattle.linear_comb.proofs.linear_comb.gcd_from.Goals as goal

pub returns-then-result-eq1-clause-value : goal.returns-then-result-eq1-clause-value
returns-then-result-eq1-clause-value c =
    from_start c.args.start c.requires.1
    (divided_one c.loop-k.invariant c.loop-k.auto.result c.loop-k-test.true
    c.if-result-eq1.true)

next :
    (c : goal.After-gcd-result) →
    (c.gcd-result.result ≡ gcd (nat_abs (to_z w64 c.loop-k.result-bits)) (nat_abs c.value_at-value.result.num))
    × (c.gcd-result.result ≤ limit)
next c =
    next-divisor c.loop-k.invariant c.loop-k.auto.result c.value_at-value.ensures.proper
    c.magnitude.ensures c.magnitude-in-loop-k.ensures c.gcd-result.ensures

pub loop-k-preserved : goal.loop-k-preserved
loop-k-preserved c =
    dividing_more c.loop-k.invariant c.loop-k.auto.result c.loop-k-test.true
    c.value_at-value.ensures.is c.if-result-eq1.false (sym c.is_integer.ensures ∙ c.if-not-is_integer.false) (next c)

pub returns-then-not-is_integer-clause-value : goal.returns-then-not-is_integer-clause-value
returns-then-not-is_integer-clause-value c =
    from_start c.args.start c.requires.1
    (divided-fraction c.loop-k.invariant c.loop-k.auto.result c.loop-k-test.true
    c.value_at-value.ensures.is c.if-result-eq1.false (sym c.is_integer.ensures ∙ c.if-not-is_integer.true))

pub returns-clause-value : goal.returns-clause-value
returns-clause-value c =
    from_start c.args.start c.requires.1
    (divided-end c.loop-k.invariant c.loop-k.auto.result c.loop-k-test.false c.max.ensures.value)

pub overflow_cast-result : goal.overflow_cast-result
overflow_cast-result c = small-fits (pos c.gcd-result.result) (next c).1
