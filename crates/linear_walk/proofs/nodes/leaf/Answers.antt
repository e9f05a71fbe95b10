-- The node by what the term is read as: a number times the coefficient, where the product is in range, or an atom.
use mathlib.Core.Path.{refl}
use Rattle.linear_walk.specs.declared.nodes.Node.TheVariants.{Constant}
use Rattle.rules.proofs.Results.{handed_on}
use Rattle.linear_walk.proofs.NodeAnswers.{node_stops, node_then, scaled, scaled-outside}
use Rattle.linear_walk.proofs.nodes.leaf.Goals as goal

pub returns-in_err-q : goal.returns-in_err-q
returns-in_err-q c = rw (handed_on c.from_residual.ensures.1) (node_stops _ c.in_err-q.ensures)

pub returns-in_err-ok_or-in-Some : goal.returns-in_err-ok_or-in-Some
returns-in_err-ok_or-in-Some c =
    node_then _ c.in_ok-q.ensures
    (rw (c.in-Some.is, handed_on c.from_residual-in_err-ok_or-in-Some.ensures.1)
    (scaled-outside (λ q. Constant q) _ c.mul.ensures c.in_err-ok_or-in-Some.ensures.value))

pub returns-in_ok-ok_or-in-Some : goal.returns-in_ok-ok_or-in-Some
returns-in_ok-ok_or-in-Some c =
    let found = c.in_ok-ok_or-in-Some.ensures.ok_part in
    node_then _ c.in_ok-q.ensures
    (rw c.in-Some.is (scaled (λ q. Constant q) _ c.mul.ensures found (c.mul.ensures.proper _ found)))

pub returns-in-None : goal.returns-in-None
returns-in-None c = node_then _ c.in_ok-q.ensures (rw c.in-None.is (record { is = refl; proper = tt }))
