-- The counts are compared first. The loop's invariant is `Binding` of FormSteps: j of the parts have their names.
use Rattle.rules.proofs.FormSteps.{Binding}
use Rattle.rules.proofs.shapes.bind_all.Given as goal

abbrev pub invariant-loop-j : goal.invariant-loop-j
invariant-loop-j l = Binding l.initial.names l.n l.args l.id l.parts l.names l.m l.j
