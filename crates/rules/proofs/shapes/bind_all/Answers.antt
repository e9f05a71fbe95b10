use borrow.Author.Rules.{rules}
use Rattle.rules.proofs.FormSteps.{other-count, binding_next, binding_refused, binding_end}
use Rattle.rules.proofs.shapes.bind_all.Goals as goal

pub returns-then-args-parts : goal.returns-then-args-parts
returns-then-args-parts c = (tt, λ b d. other-count _ _ _ c.if-args-parts.true b _)

pub returns-in_err-m : goal.returns-in_err-m
returns-in_err-m c =
    let left = binding_refused c.loop-j.invariant c.loop-j-test.true c.wide.ensures.0 c.argument.ensures in
    rw c.from_residual.ensures (tt, left c.in_err-m.ensures.1)

pub loop-j-preserved : goal.loop-j-preserved
loop-j-preserved c =
    let left = binding_next c.loop-j.invariant c.loop-j-test.true c.wide.ensures.0 c.argument.ensures in
    left c.in_ok-m.ensures.0 c.in_ok-m.ensures.1

pub returns : goal.returns
returns c = (c.loop-j.invariant.most, binding_end c.loop-j.invariant (search rules))
